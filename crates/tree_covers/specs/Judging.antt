-- What is true of one line of a cover, at the node that it belongs to.
use Rattle.std.specs.List.{list_all}
use Rattle.std.specs.Prelude.{ℕ, zero, suc, Bool, true, false, ◌&&◌, List, ◌++◌}
use Rattle.term_core.specs.declared.step.Step.{Step}
use Rattle.world_model.specs.Events.{History}
use Rattle.world_model.specs.Requests.{Program}
use Rattle.world_model.specs.Run.{is_enabled, enabled_steps}
use Rattle.world_model.specs.Shown.{Identity}
use Rattle.tree_coverage.specs.Covers.{is_one_of, are_once, is_empty, is_clean}
use Rattle.tree_covers.specs.declared.judging.Judgement.{Judgement}
use Rattle.tree_covers.specs.declared.judging.Judgement.TheVariants.{Good, Missing, Strange, ErrorFound}

-- a node that waits for its line: what happened, what sleeps there, and how many steps may follow
pub record Place : Type 0 where
  pub history : History
  pub slept : List Step
  pub left : ℕ

-- the steps of the line are enabled, and none occurs twice; at the depth the line is empty
abbrev pub are_enabled_once : Program → ℕ → History → List Step → Bool
are_enabled_once a zero h line = is_empty line
are_enabled_once a (suc n) h line = are_once line && list_all (is_enabled a h) line

-- each enabled step is taken or sleeps; at the depth none has to be
abbrev pub are_all_there : Program → ℕ → History → List Step → List Step → Bool
are_all_there a zero h slept line = true
are_all_there a (suc n) h slept line = list_all (is_one_of (slept ++ line)) (enabled_steps a h)

-- an error of the node is reported first, then a step that cannot be taken, and then one that is not
abbrev pub judgement : (is_clean are_enabled are_all : Bool) → Judgement
judgement false are_enabled are_all = ErrorFound
judgement true false are_all = Strange
judgement true true false = Missing
judgement true true true = Good

-- the judgement of a line
abbrev pub judgement_of : (Identity → Bool) → Program → Place → List Step → Judgement
judgement_of counts a v line =
    judgement (is_clean counts a v.history) (are_enabled_once a v.left v.history line) (are_all_there a v.left v.history v.slept line)
