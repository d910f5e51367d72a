use Rattle.std.proofs.Common.{arith}
use Rattle.std.proofs.lemmas.Option.{slice_get_read}
use Rattle.search_numbers.proofs.known.Known.find_by.Goals as goal

pub returns-then-is_of : goal.returns-then-is_of
returns-then-is_of c = record {
  remembered = c.index.result.now;
  there = slice_get_read c.args.self.now.remembered.items c.len.result c.in_ok-at.at c.index.result.now (omega (arith, c.args.self.now.remembered.ok.0, c.len.ensures)) c.if-at-len.true c.index.ensures;
  is_of = c.is_of.ensures.column c.if-is_of.true;
  matches = c.is_of.ensures.matches c.if-is_of.true;
}
