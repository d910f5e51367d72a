-- What findings result in where they are put together.
use Rattle.std.specs.List.{filter}
use Rattle.std.specs.Prelude.{List, [], ◌∷◌}
use Rattle.term_core.specs.declared.step.Step.{Step}
use Rattle.world_model.specs.Shown.{Identity, Flags, is_error, is_refusal}
use Rattle.tree_coverage.specs.Findings.{Finding, Findings, with_finding, with_all}

-- those of both lists, each identity once
abbrev pub merged : List Finding → List Finding → List Finding
merged fs [] = fs
merged fs (g ∷ gs) = with_finding g (merged fs gs)

-- findings with those that one schedule shows
abbrev pub with_shown : Flags → List Step → List Identity → Findings → Findings
with_shown flags s is f =
    record { errors = with_all s (filter (is_error flags) is) f.errors; refusals = with_all s (filter is_refusal is) f.refusals }

-- the findings of both
abbrev pub merged_findings : Findings → Findings → Findings
merged_findings f g = record { errors = merged f.errors g.errors; refusals = merged f.refusals g.refusals }

-- nothing is found
abbrev pub nothing : Findings
nothing = record { errors = []; refusals = [] }
