-- The code of what a machine waits at, by which proofs distinguish values.
use Rattle.std.specs.Prelude.{◌≡◌, ◌⊎◌, Bool, List, refl}
use Rattle.std.specs.Coded.{Coded, code_by, coded×, coded⊎, coded_list, coded_bool}
use Rattle.std.proofs.Common.{inl, inr}
use base.Stored.{coded_unit}
use Rattle.core_calls.specs.declared.call.CallKind.{CallKind}
use Rattle.core_calls.specs.CallCodes.{coded_call}
use Rattle.term_core.specs.Meaning.{Meaning}
use Rattle.term_core.specs.inside.MeaningCodes.{coded_meaning}
use Rattle.core_eval.specs.Told.{Told, Call, Receive, End, Runaway}

abbrev ToldShape : Type 0
ToldShape = ((CallKind × List Meaning) ⊎ Bool) ⊎ (Meaning ⊎ Unit {0})

abbrev told_shape : Told → ToldShape
told_shape (Call kind arguments) = inl (inl (kind, arguments))
told_shape (Receive waits) = inl (inr waits)
told_shape (End reason) = inr (inl reason)
told_shape Runaway = inr (inr tt)

abbrev told_in : ToldShape → Told
told_in (inl (inl c)) = Call c.0 c.1
told_in (inl (inr waits)) = Receive waits
told_in (inr (inl reason)) = End reason
told_in (inr (inr u)) = Runaway

pub told_in-told_shape : (t : Told) → told_in (told_shape t) ≡ t
told_in-told_shape (Call kind arguments) = refl
told_in-told_shape (Receive waits) = refl
told_in-told_shape (End reason) = refl
told_in-told_shape Runaway = refl

abbrev pub coded_told : Coded Told
coded_told = code_by ToldShape (coded⊎ (coded⊎ (coded× coded_call (coded_list coded_meaning)) coded_bool) (coded⊎ coded_meaning coded_unit)) told_shape told_in told_in-told_shape
