-- An application gives what its body gives, where those in the body are such applications too: how deep they are nested plays no part.
use Rattle.std.proofs.Common.{◌≡◌, ℕ, zero, suc, ◌+◌, ◌-◌, ◌<◌, ◌≤◌, Bool, true, false, List, refl, arith, nat_lt, if◌then◌else◌}
use Rattle.std.proofs.lemmas.Bool.{ltb-true}
use Rattle.core_tree.specs.Syntax.{Function, ModuleTree}
use Rattle.term_core.specs.Meaning.{Meaning}
use Rattle.core_semantics.specs.Asked.{Runaway}
use Rattle.core_semantics.specs.Evaluation.{State, Outcome, Stops}
use Rattle.core_semantics.specs.Applications.{definition, body_with, allowed, limit, counted, applied_once, applied, room, apply_of}
use Rattle.core_semantics.proofs.Limits.{within_limit}
use Rattle.core_semantics.proofs.Rooms.{Both, alone, wider, both_bodies}

-- an application takes room
counted-room : (s : State) → s.made < limit → room (counted s) + 1 ≡ room s
counted-room s lt = omega (arith, lt)

-- two ways to apply that agree within the room after an application
once_by : (x : Bool) (m : ModuleTree) (own : List ℕ) (a b : Function → List Meaning → State → Outcome) (q : ℕ) (f : Function) (vs : List Meaning) (s : State) → nat_lt s.made (allowed m) ≡ x
    → (s.made < limit → (room (counted s) ≤ q) × ((g : Function) (ws : List Meaning) (t : State) → room t ≤ q → Both q (a g ws t) (b g ws t)))
    → (r : ℕ) → q ≤ r
    → Both r (if x then body_with (record { own = own; apply = a }) (definition f m.definitions) vs (counted s) else Stops Runaway) (if x then body_with (record { own = own; apply = b }) (definition f m.definitions) vs (counted s) else Stops Runaway)
once_by true m own a b q f vs s e h r le =
    let given = h (omega (arith, ltb-true s.made (allowed m) e, within_limit m)) in
    wider q r _ _ le (both_bodies own a b q given.1 (definition f m.definitions) vs (counted s) given.0)
once_by false m own a b q f vs s e h r le = alone r (Stops Runaway) tt

-- every nesting that is deeper than the room gives the same
pub depths : (m : ModuleTree) (own : List ℕ) (c d r : ℕ) → r < c → r < d → (f : Function) (vs : List Meaning) (s : State) → room s ≤ r → Both r (applied c m own f vs s) (applied d m own f vs s)
depths m own zero d r lc ld f vs s le = absurd (omega (arith, lc))
depths m own (suc c) zero r lc ld f vs s le = absurd (omega (arith, ld))
depths m own (suc c) (suc d) r lc ld f vs s le =
    once_by (nat_lt s.made (allowed m)) m own (applied c m own) (applied d m own) (r - 1) f vs s refl
    (λ lt. (omega (arith, counted-room s lt, le), depths m own c d (r - 1) (omega (arith, counted-room s lt, le, lc)) (omega (arith, counted-room s lt, le, ld))))
    r (omega arith)

pub apply_law : (m : ModuleTree) (own : List ℕ) (f : Function) (vs : List Meaning) (s : State) → apply_of m own f vs s ≡ applied_once m own (apply_of m own) f vs s
apply_law m own f vs s =
    (once_by (nat_lt s.made (allowed m)) m own (applied (room s) m own) (apply_of m own) (room s - 1) f vs s refl
    (λ lt. (omega (arith, counted-room s lt), λ g ws t le. wider (room t) (room s - 1) _ _ le (depths m own (room s) (suc (room t)) (room t) (omega (arith, counted-room s lt, le)) (omega arith) g ws t (omega arith))))
    (room s) (omega arith)).same
