-- What is found does not depend on the order of the schedules, nor on how they are split.
use Rattle.std.specs.List.Sorted.{IsPermutation}
use Rattle.std.specs.Prelude.{◌≡◌, List, [], ◌∷◌, ◌++◌, Some}
use Rattle.term_core.specs.declared.step.Step.{Step}
use Rattle.world_model.specs.Events.{History}
use Rattle.world_model.specs.Requests.{Program}
use Rattle.world_model.specs.Run.{run}
use Rattle.world_model.specs.Shown.{Identity, Flags, shown}
use Rattle.tree_coverage.specs.Findings.{Findings, findings_among}
use Rattle.tree_findings.specs.Merging.{with_shown, merged_findings, nothing}

-- ---- laws

-- no schedule shows anything
abbrev pub NoneShowsNothing : Type 0
NoneShowsNothing = (flags : Flags) (a : Program) → findings_among flags a [] ≡ nothing

-- one schedule more adds what it shows
abbrev pub OneMoreIsAdded : Type 0
OneMoreIsAdded = (flags : Flags) (a : Program) (schedules : List (List Step)) (s : List Step) (h : History) → run a s ≡ Some h → findings_among flags a (schedules ++ s ∷ []) ≡ with_shown flags s (shown a h) (findings_among flags a schedules)

-- the findings of two lists of schedules are merged
abbrev pub ListsAreMerged : Type 0
ListsAreMerged = (flags : Flags) (a : Program) (xs ys : List (List Step)) → findings_among flags a (xs ++ ys) ≡ merged_findings (findings_among flags a xs) (findings_among flags a ys)

-- whatever the order of the schedules
abbrev pub OrderDoesNotMatter : Type 0
OrderDoesNotMatter = (flags : Flags) (a : Program) (xs ys : List (List Step)) → IsPermutation xs ys → findings_among flags a xs ≡ findings_among flags a ys

-- merges in any grouping
abbrev pub GroupingDoesNotMatter : Type 0
GroupingDoesNotMatter = (f g h : Findings) → merged_findings (merged_findings f g) h ≡ merged_findings f (merged_findings g h)

-- ---- what calls do

-- what was found among schedules, is found among these and one more, which shows these identities
abbrev pub AddsSchedule : Flags → List Step → List Identity → Findings → Findings → Type 0
AddsSchedule flags s identities old new = (a : Program) (schedules : List (List Step)) (h : History) → run a s ≡ Some h → identities ≡ shown a h → old ≡ findings_among flags a schedules → new ≡ findings_among flags a (schedules ++ s ∷ [])

-- what was found among the schedules of two lists, is found among those of both
abbrev pub AddsSchedules : Findings → Findings → Findings → Type 0
AddsSchedules old other new = (flags : Flags) (a : Program) (xs ys : List (List Step)) → old ≡ findings_among flags a xs → other ≡ findings_among flags a ys → new ≡ findings_among flags a (xs ++ ys)
