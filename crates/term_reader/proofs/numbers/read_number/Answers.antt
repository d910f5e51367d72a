use Rattle.std.proofs.Common.{◌≡◌, [], ◌∷◌, rules, arith, sym, ◌∙◌}
use Rattle.term_reader.proofs.IntegerTexts.{or_zero, zero_text}
use Rattle.term_reader.proofs.numbers.read_number.Goals as goal

pub returns-then-is_zero : goal.returns-then-is_zero
returns-then-is_zero c = let e : c.args.digits.now ≡ 48 ∷ [] = search rules in (omega arith, e ∙ sym zero_text)

pub returns-else-is_zero : goal.returns-else-is_zero
returns-else-is_zero c = or_zero c.args.digits.now c.read_positive.result (search rules) c.read_positive.ensures
