-- The schedule of a job runs in each new world of its program.
use Rattle.std.proofs.Common.{◌≡◌, ◌+◌, ℕ, List, Some, ap, ◌∙◌}
use Rattle.core_tree.specs.Syntax.{ModuleTree}
use Rattle.term_core.specs.declared.step.Step.{Step}
use Rattle.world_core.specs.Advanced.{StopsAt}
use Rattle.world_core.specs.Seen.{Seen, new_world, program_in}
use Rattle.world_model.specs.Asking.{program_of}
use Rattle.world_model.specs.Events.{History}
use Rattle.world_model.specs.Requests.{Program}
use Rattle.world_model.specs.Run.{run, run_from}
use Rattle.tree_coverage.specs.Jobs.{Job}
use Rattle.search_jobs.specs.Explorations as seen
use Rattle.search_jobs.specs.Reached.{IsJob}
use Rattle.search_jobs.proofs.Runs.{stopped, not_none}

-- so none of its steps is refused there
pub not_refused : (e : seen.ExplorationSeen) (name : Job) (m : ModuleTree) (w : Seen) (steps : List Step) (place : ℕ) (h : History) → IsJob e name → w ≡ new_world m → program_of m ≡ seen.program_in e → steps ≡ name.prefix → StopsAt (program_in w) w.history steps place h → ⊥
not_refused e name m w steps place h job new same is stops =
    not_none _ _
    ((λ i. run_from (program_in (new i)) (Some ((new i).history)) (is i)) ∙ ap (λ (a : Program). run a name.prefix) same ∙ job.reached)
    (stopped (program_in w) (Some w.history) steps (stops.before + 1) stops.ends)
