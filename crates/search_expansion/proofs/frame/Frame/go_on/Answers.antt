use Rattle.std.proofs.Common.{◌∙◌, ◌∷◌, ◌++◌, [], ap, refl, reverse, sym}
use Rattle.search_jobs.proofs.Lists.{reverse_last}
use Rattle.search_expansion.proofs.frame.Frame.go_on.Goals as goal

pub returns : goal.returns
returns c = record {
  records = refl;
  taken = refl;
  slept = c.in_ok-push.ensures.items ∙ ap (λ p. c.args.self.now.slept.items ++ p ∷ []) c.replace-taken.ensures.value;
  line = ap (λ p. p ∷ reverse c.pop.new.self.items) c.replace-taken.ensures.after ∙ sym (ap reverse c.in-Some.ensures.items ∙ reverse_last c.pop.new.self.items c.in-Some.following);
  left = refl;
  agenda = refl;
}
