-- Signals that are compared as the same are the same.
use Rattle.std.specs.Prelude.{◌≡◌, ◌∷◌, [], Bool, List, map, not, true, false, refl}
use Rattle.std.proofs.Common.{ap}
use Rattle.std.proofs.lemmas.Bool.{and_from, and_parts}
use Rattle.std.proofs.lemmas.Cmp.{tied_itself}
use Rattle.std.specs.Cmp.{IsEquivalence}
use Rattle.std.specs.Cmp.Lexicographic.{pointwise}
use Rattle.std.specs.Ordering.{is_eq, on}
use Rattle.core_tree.specs.inside.AlikeLaws.{Bears, equivalent}
use Rattle.term_core.proofs.Equality.{reference_ids_same, terms_same}
use Rattle.term_core.specs.inside.OrderLaws.{terms_total}
use Rattle.term_core.specs.inside.StepOrderLaws.{reference_ids_total}
use Rattle.world_model.specs.Events.{Signal, Message, Exit, LinkExit, Down, Guarded, Elapsed}
use Rattle.world_model.specs.Names.{same_term}
use Rattle.proc_signals.specs.Alike.{same_id, same_signal}

pub signal_told : (a b : Signal) → same_signal a b ≡ true → a ≡ b
signal_told (Message m) (Message n) e = ap Message ((terms_same m n _ refl).0 e)
signal_told (Exit m) (Exit n) e = ap Exit ((terms_same m n _ refl).0 e)
signal_told (LinkExit m) (LinkExit n) e = ap LinkExit ((terms_same m n _ refl).0 e)
signal_told (Down r m) (Down s n) e =
    let p = and_parts (same_id r s) (same_term m n) e in
    let at : (r.pid, r.number) ≡ (s.pid, s.number) = (reference_ids_same (r.pid, r.number) (s.pid, s.number) _ refl).0 p.0 in
    λ i. Down (record { pid = (at i).0; number = (at i).1 }) ((terms_same m n _ refl).0 p.1 i)
signal_told (Guarded r m) (Guarded s n) e =
    let p = and_parts (same_id r s) (same_term m n) e in
    let at : (r.pid, r.number) ≡ (s.pid, s.number) = (reference_ids_same (r.pid, r.number) (s.pid, s.number) _ refl).0 p.0 in
    λ i. Guarded (record { pid = (at i).0; number = (at i).1 }) ((terms_same m n _ refl).0 p.1 i)
signal_told (Elapsed r m) (Elapsed s n) e =
    let p = and_parts (same_id r s) (same_term m n) e in
    let at : (r.pid, r.number) ≡ (s.pid, s.number) = (reference_ids_same (r.pid, r.number) (s.pid, s.number) _ refl).0 p.0 in
    λ i. Elapsed (record { pid = (at i).0; number = (at i).1 }) ((terms_same m n _ refl).0 p.1 i)
signal_told a b e = cc

signal_itself : (a : Signal) → same_signal a a ≡ true
signal_itself (Message m) = ap is_eq (tied_itself terms_total m)
signal_itself (Exit m) = ap is_eq (tied_itself terms_total m)
signal_itself (LinkExit m) = ap is_eq (tied_itself terms_total m)
signal_itself (Down r m) = and_from _ _ (ap is_eq (tied_itself reference_ids_total (r.pid, r.number))) (ap is_eq (tied_itself terms_total m))
signal_itself (Guarded r m) = and_from _ _ (ap is_eq (tied_itself reference_ids_total (r.pid, r.number))) (ap is_eq (tied_itself terms_total m))
signal_itself (Elapsed r m) = and_from _ _ (ap is_eq (tied_itself reference_ids_total (r.pid, r.number))) (ap is_eq (tied_itself terms_total m))

abbrev itself_of : Signal → Signal
itself_of x = x

signals_bear : Bears itself_of same_signal
signals_bear = record { tells = signal_told; itself = signal_itself; images = λ a b. refl }

pub signals_equal : IsEquivalence same_signal
signals_equal = equivalent signals_bear

-- several, in one order
pub signals_told : {X : Type 0} (f : X → Signal) (xs ys : List X) → pointwise (on f same_signal) xs ys ≡ true → map f xs ≡ map f ys
signals_told f [] [] e = refl
signals_told f [] (y ∷ ys) e = cc
signals_told f (x ∷ xs) [] e = cc
signals_told f (x ∷ xs) (y ∷ ys) e =
    let p = and_parts (same_signal (f x) (f y)) (pointwise (on f same_signal) xs ys) e in
    λ i. signal_told (f x) (f y) p.0 i ∷ signals_told f xs ys p.1 i

pub not_off : (b : Bool) → false ≡ not b → b ≡ true
not_off true e = refl
not_off false e = cc
