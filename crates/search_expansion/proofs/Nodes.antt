-- Nodes of the tree: what a step makes of one, that of a job, and the job of one.
use Rattle.std.proofs.Common.{◌≡◌, ◌≤◌, ℕ, ◌-◌, List, length, Some, sym, ap, ◌∙◌, arith}
use Rattle.std.specs.List.{filter}
use Rattle.term_core.specs.declared.step.Step.{Step}
use Rattle.world_core.specs.Seen.{Seen, program_in}
use Rattle.world_model.specs.Requests.{Program}
use Rattle.world_model.specs.Run.{is_enabled, run, schedule_of}
use Rattle.world_model.proofs.Runs.{runs_real}
use Rattle.tree_coverage.specs.Jobs.{Job, nodes_from, nodes_behind}
use Rattle.search_jobs.specs.Explorations as seen
use Rattle.search_jobs.specs.Reached.{IsJob}
use Rattle.search_expansion.specs.inside.Reached.{IsAt}
use Rattle.search_expansion.specs.inside.Frames.{IsNodeOf, NodeSeen, nodes_of_node}
use Rattle.search_expansion.proofs.Asleep.{only_enabled}

-- ---- the node of a job

pub own_schedule : (a : Program) (name : Job) (w : Seen) → IsAt a name.prefix w → schedule_of w.history ≡ name.prefix
own_schedule a name w at = (runs_real a name.prefix w.history at.runs).1

-- the world of a job's node has the history of its schedule
pub reached_by : (a : Program) (name : Job) (w : Seen) → IsAt a name.prefix w → run (program_in w) (schedule_of w.history) ≡ Some w.history
reached_by a name w at = (λ i. run (at.program i) (own_schedule a name w at i)) ∙ at.runs

pub node_is_of : (e : seen.ExplorationSeen) (name : Job) (w : Seen) (slept : List Step) (taken left : ℕ) → length name.prefix ≤ e.depth → IsAt (seen.program_in e) name.prefix w → taken ≡ length name.prefix → left ≡ e.depth - taken → IsNodeOf e (record { program = program_in w; history = w.history; slept = slept; left = left })
node_is_of e name w slept taken left short at count rest =
    record { program = at.program; deep = omega (arith, ap length (own_schedule (seen.program_in e) name w at), short, count, rest) }

pub node_has_nodes : (e : seen.ExplorationSeen) (name : Job) (w : Seen) (slept : List Step) (taken left : ℕ) → IsAt (seen.program_in e) name.prefix w → taken ≡ length name.prefix → left ≡ e.depth - taken → slept ≡ filter (is_enabled (program_in w) w.history) name.slept → nodes_of_node (record { program = program_in w; history = w.history; slept = slept; left = left }) ≡ seen.nodes_of e name
node_has_nodes e name w slept taken left at count rest same =
    let a = seen.program_in e in
    let fits : left ≡ e.depth - length name.prefix = rest ∙ ap (λ (k : ℕ). e.depth - k) count in
    let sleeps : slept ≡ filter (is_enabled a w.history) name.slept = same ∙ ap (λ (b : Program). filter (is_enabled b w.history) name.slept) at.program in
    (λ i. nodes_from (at.program i) (fits i) w.history (own_schedule a name w at i) (sleeps i))
    ∙ only_enabled a w.history (e.depth - length name.prefix) name.prefix name.slept
    ∙ ap (nodes_behind a (e.depth - length name.prefix) name) (sym at.runs)

-- ---- the job of a node

pub job_of_node : (e : seen.ExplorationSeen) (v : NodeSeen) → run v.program (schedule_of v.history) ≡ Some v.history → IsNodeOf e v → IsJob e (record { prefix = schedule_of v.history; slept = v.slept })
job_of_node e v reached belongs = record {
  short = omega (arith, belongs.deep);
  history = v.history;
  reached = ap (λ (a : Program). run a (schedule_of v.history)) (sym belongs.program) ∙ reached;
}

pub job_has_nodes : (e : seen.ExplorationSeen) (v : NodeSeen) → run v.program (schedule_of v.history) ≡ Some v.history → IsNodeOf e v → seen.nodes_of e (record { prefix = schedule_of v.history; slept = v.slept }) ≡ nodes_of_node v
job_has_nodes e v reached belongs =
    let name : Job = record { prefix = schedule_of v.history; slept = v.slept } in
    let fits : e.depth - length (schedule_of v.history) ≡ v.left = omega (arith, belongs.deep) in
    (λ i. nodes_behind (sym belongs.program i) (fits i) name (run (sym belongs.program i) (schedule_of v.history))) ∙ ap (nodes_behind v.program v.left name) reached
