use Rattle.std.proofs.Common.{arith, refl}
use Rattle.term_reader.proofs.Marks.{length-opened_in, wanted, same_self}
use Rattle.term_reader.proofs.brackets.go_in.Goals as goal

pub returns-then-len-ge-MOST_OPEN : goal.returns-then-len-ge-MOST_OPEN
returns-then-len-ge-MOST_OPEN c = (omega arith, omega (arith, length-opened_in c.args.outer.items, c.args.outer.ok.0))

pub returns : goal.returns
returns c = (λ left. wanted _ _ c.args.outer.items c.push.new.self.items c.args.next left c.in_ok-push.ensures.items refl (same_self _), refl)
