-- The number of a call's arguments.
use Rattle.std.proofs.Common.{◌≡◌, ℕ, ◌≤◌, List, [], ◌∷◌, map, length, refl, ap, ◌∙◌, arith}
use Rattle.core_calls.specs.declared.pure.PureCall.{PureCall}
use Rattle.term_core.specs.Meaning.{Meaning}
use Rattle.term_core.specs.Term.{meaning_of}
use Rattle.term_core.specs.declared.term.Term.{Term}
use Rattle.core_pure_calls.specs.Calls.{answer_of}
use Rattle.core_pure_calls.specs.Dictionary.{Dictionary}
use Rattle.core_pure_calls.specs.Raising.{undefined}

-- no call has more than three arguments
pub more_than_three : (own : List ℕ) (d : Dictionary) (call : PureCall) (ts : List Term) (ms : List Meaning) → map meaning_of ts ≡ ms → 4 ≤ length ts → undefined ≡ answer_of own d call ms
more_than_three own d call ts ms e h = by ts h ∙ ap (λ (l : List Meaning). answer_of own d call l) e
  where
    by : (ts : List Term) → 4 ≤ length ts → undefined ≡ answer_of own d call (map meaning_of ts)
    by [] h = absurd (omega (arith, h))
    by (a ∷ []) h = absurd (omega (arith, h))
    by (a ∷ b ∷ []) h = absurd (omega (arith, h))
    by (a ∷ b ∷ c ∷ []) h = absurd (omega (arith, h))
    by (a ∷ b ∷ c ∷ e ∷ more) h = refl
