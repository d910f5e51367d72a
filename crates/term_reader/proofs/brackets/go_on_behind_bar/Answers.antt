use Rattle.std.proofs.Common.{◌∷◌, [], arith, refl}
use Rattle.term_reader.proofs.Marks.{bad_bar, bar_back, bar_in_list, bar_steps, no_list_item, wanted}
use Rattle.term_reader.proofs.brackets.go_on_behind_bar.Goals as goal

pub returns-in-Some : goal.returns-in-Some
returns-in-Some c = bad_bar _ _ _ _ _ _ (omega arith) (no_list_item _ _ _ _ _ c.in-Some.ensures)

pub returns : goal.returns
returns c = record {
  read = 124 ∷ [];
  parts = refl;
  less = omega arith;
  same = wanted _ _ c.args.outer.items c.push.new.self.items _ c.args.behind.now c.in_ok-push.ensures.items refl (bar_in_list _ _ _ _ c.in_default.ensures);
  wider = λ left m like k. bar_steps _ _ c.args.outer.items c.push.new.self.items _ c.args.behind.now c.in_ok-push.ensures.items refl c.in_default.ensures left m like k;
  back = λ left m alike b. bar_back _ _ c.args.outer.items c.push.new.self.items _ c.args.behind.now c.in_ok-push.ensures.items refl c.in_default.ensures left m alike b;
}
