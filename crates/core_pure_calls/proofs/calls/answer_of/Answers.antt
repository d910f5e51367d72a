use Rattle.std.proofs.Common.{◌≡◌, subst, map, refl}
use Rattle.core_pure_calls.specs.Answers.{Answer}
use Rattle.core_pure_calls.specs.Outcomes.{outcome_of}
use Rattle.core_pure_calls.proofs.Arguments.{more_than_three}
use Rattle.core_pure_calls.proofs.calls.answer_of.Goals as goal

pub returns-in_default : goal.returns-in_default
returns-in_default c =
    subst (λ (told : Answer). outcome_of c.undefined.result ≡ told) (more_than_three c.args.own.now c.args.dictionary.now c.args.call c.args.arguments.now _ refl c.in_default.len_at_least) c.undefined.ensures
