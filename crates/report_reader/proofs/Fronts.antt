-- Fronts in several parts, and the last two lines of a report.
use Rattle.std.proofs.Common.{◌≡◌, ℕ, Bool, true, false, if◌then◌else◌, List, [], ◌++◌, Option, Some, None, MatchOption, codes, ap, sym, ◌∙◌}
use Rattle.std.specs.Fmt.{decimal}
use Rattle.tree_excuses.specs.Excuses.{Excuses, are_any}
use Rattle.report_reader.specs.inside.Reading.{HasNoFront, normal_told}
use Rattle.report_reader.proofs.Cuts.{joined, no_second}

-- a second front after the first
pub two_fronts : {V : Type 0} (now : V → List ℕ) (a b text mid : List ℕ) (found : Option V) → text ≡ a ++ mid → MatchOption found (HasNoFront b mid) (λ r. mid ≡ b ++ now r)
    → MatchOption found (HasNoFront (a ++ b) text) (λ r. text ≡ (a ++ b) ++ now r)
two_fronts now a b text mid None front none = no_second a b text mid front none
two_fronts now a b text mid (Some r) front is = joined a b text mid (now r) front is

-- a front by another name
pub same_front : {V : Type 0} (now : V → List ℕ) (a b text : List ℕ) (found : Option V) → a ≡ b → MatchOption found (HasNoFront a text) (λ r. text ≡ a ++ now r) → MatchOption found (HasNoFront b text) (λ r. text ≡ b ++ now r)
same_front now a b text None same none = λ rest e. none rest (e ∙ ap (λ w. w ++ rest) (sym same))
same_front now a b text (Some r) same is = is ∙ ap (λ w. w ++ now r) same

pub told_some : (x : Excuses) (n : ℕ) (b : Bool) → b ≡ are_any x → b ≡ true → codes ", taken as normal " ++ decimal n ≡ normal_told x n
told_some x n b is so = ap (λ (c : Bool). if c then (codes ", taken as normal " ++ decimal n) else []) (sym so ∙ is)

pub told_none : (x : Excuses) (n : ℕ) (b : Bool) → b ≡ are_any x → b ≡ false → [] ≡ normal_told x n
told_none x n b is so = ap (λ (c : Bool). if c then (codes ", taken as normal " ++ decimal n) else []) (sym so ∙ is)
