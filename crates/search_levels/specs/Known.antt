-- What is known of all states together, by which each is read.
use Rattle.core_tree.specs.Syntax.{ModuleTree}

-- it only grows: what knows all that is known now knows all that was known before, and each state that could be read can be read
pub record Grows {K S : Type 0} (IsOf : K → S → Type 0) (Follows : K → K → Type 0) (before now : K) : Type 0 where
  pub passes : (later : K) → Follows later now → Follows later before
  pub keeps : (state : S) → IsOf before state → IsOf now state

-- so it is from now on, by all that is known and by more, of each module
abbrev pub FromNowOn : {K : Type 0} → (K → K → Type 0) → K → (K → ModuleTree → Type 0) → Type 0
FromNowOn {K} Follows now Holds = (later : K) → Follows later now → (m : ModuleTree) → Holds later m
