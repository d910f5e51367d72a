-- The codes of signals, by which proofs distinguish values.
use Rattle.std.specs.Prelude.{◌≡◌, ◌⊎◌, ℕ, List, refl}
use Rattle.std.specs.Coded.{Coded, code_by, coded_list, coded_ℕ, coded×, coded⊎}
use mathlib.Core.Logic.{inl, inr}
use Rattle.term_core.specs.Meaning.{Meaning}
use Rattle.term_core.specs.inside.MeaningCodes.{coded_meaning}
use Rattle.world_model.specs.Events.{Signal, Message, Exit, LinkExit, Down, Guarded, Elapsed}

-- what is said by a reference
abbrev ByRef : Type 0
ByRef = (List ℕ × ℕ) × Meaning

abbrev Parts : Type 0
Parts = Meaning ⊎ (Meaning ⊎ (Meaning ⊎ (ByRef ⊎ (ByRef ⊎ ByRef))))

abbrev parts_of : Signal → Parts
parts_of (Message message) = inl message
parts_of (Exit reason) = inr (inl reason)
parts_of (LinkExit reason) = inr (inr (inl reason))
parts_of (Down ref reason) = inr (inr (inr (inl ((ref.pid, ref.number), reason))))
parts_of (Guarded ref message) = inr (inr (inr (inr (inl ((ref.pid, ref.number), message)))))
parts_of (Elapsed ref message) = inr (inr (inr (inr (inr ((ref.pid, ref.number), message)))))

abbrev signal_in : Parts → Signal
signal_in (inl message) = Message message
signal_in (inr (inl reason)) = Exit reason
signal_in (inr (inr (inl reason))) = LinkExit reason
signal_in (inr (inr (inr (inl x)))) = Down (record { pid = x.0.0; number = x.0.1 }) x.1
signal_in (inr (inr (inr (inr (inl x))))) = Guarded (record { pid = x.0.0; number = x.0.1 }) x.1
signal_in (inr (inr (inr (inr (inr x))))) = Elapsed (record { pid = x.0.0; number = x.0.1 }) x.1

pub signal_in-parts_of : (x : Signal) → signal_in (parts_of x) ≡ x
signal_in-parts_of (Message message) = refl
signal_in-parts_of (Exit reason) = refl
signal_in-parts_of (LinkExit reason) = refl
signal_in-parts_of (Down ref reason) = refl
signal_in-parts_of (Guarded ref message) = refl
signal_in-parts_of (Elapsed ref message) = refl

abbrev coded_by_ref : Coded ByRef
coded_by_ref = coded× (coded× (coded_list coded_ℕ) coded_ℕ) coded_meaning

abbrev pub coded_signal : Coded Signal
coded_signal = code_by Parts (coded⊎ coded_meaning (coded⊎ coded_meaning (coded⊎ coded_meaning (coded⊎ coded_by_ref (coded⊎ coded_by_ref coded_by_ref))))) parts_of signal_in signal_in-parts_of

-- and of a channel under its sender and its receiver
abbrev pub coded_channel : Coded ((List ℕ × List ℕ) × (Signal × List Signal))
coded_channel = coded× (coded× (coded_list coded_ℕ) (coded_list coded_ℕ)) (coded× coded_signal (coded_list coded_signal))
