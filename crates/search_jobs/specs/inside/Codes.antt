-- The codes of jobs and pieces, by which proofs distinguish values.
use Rattle.std.specs.Prelude.{ℕ, Bool, List, refl}
use Rattle.std.specs.Coded.{Coded, code_by, coded×, coded_list, coded_bool, coded_ℕ}
use Rattle.core_tree.specs.Syntax.{ModuleTree}
use Rattle.core_tree.specs.inside.SyntaxCodes.{coded_module}
use Rattle.term_core.specs.contracts.step.Step as steps
use Rattle.term_core.specs.declared.step.Step.{Step}
use Rattle.world_model.specs.Shown.{Flags}
use Rattle.tree_coverage.specs.Findings.{Findings}
use Rattle.tree_coverage.specs.Jobs.{Job}
use Rattle.tree_findings.specs.contracts.extent.Extent as extents
use Rattle.tree_findings.specs.declared.extent.Extent.{Extent}
use Rattle.tree_findings.specs.inside.FindingCodes.{coded_findings}
use Rattle.search_jobs.specs.Explorations.{ExplorationSeen, JobSeen, TicketSeen}
use Rattle.search_jobs.specs.Pieces.{PieceSeen}

abbrev pub coded_steps : Coded (List Step)
coded_steps = coded_list steps.the_row.coded

abbrev coded_flags : Coded Flags
coded_flags =
    code_by (Bool × (Bool × Bool)) (coded× coded_bool (coded× coded_bool coded_bool)) (λ f. (f.allow_deadlock, (f.strict_access, f.idle_servers))) (λ p. record { allow_deadlock = p.0; strict_access = p.1.0; idle_servers = p.1.1 }) (λ _. refl)

abbrev pub coded_name : Coded Job
coded_name = code_by (List Step × List Step) (coded× coded_steps coded_steps) (λ j. (j.prefix, j.slept)) (λ p. record { prefix = p.0; slept = p.1 }) (λ _. refl)

abbrev pub coded_exploration : Coded ExplorationSeen
coded_exploration =
    code_by (ModuleTree × (ℕ × Flags)) (coded× coded_module (coded× coded_ℕ coded_flags)) (λ e. (e.program, (e.depth, e.flags))) (λ p. record { program = p.0; depth = p.1.0; flags = p.1.1 }) (λ _. refl)

abbrev pub coded_job : Coded JobSeen
coded_job =
    code_by (ExplorationSeen × (Job × ℕ)) (coded× coded_exploration (coded× coded_name coded_ℕ)) (λ j. (j.exploration, (j.name, j.number))) (λ p. record { exploration = p.0; name = p.1.0; number = p.1.1 }) (λ _. refl)

abbrev pub coded_ticket : Coded TicketSeen
coded_ticket = code_by (ℕ × Job) (coded× coded_ℕ coded_name) (λ t. (t.number, t.name)) (λ p. record { number = p.0; name = p.1 }) (λ _. refl)

abbrev PieceParts : Type 0
PieceParts = TicketSeen × (ExplorationSeen × (Findings × (Extent × List JobSeen)))

abbrev pub coded_piece : Coded PieceSeen
coded_piece =
    code_by PieceParts (coded× coded_ticket (coded× coded_exploration (coded× coded_findings (coded× extents.the_row.coded (coded_list coded_job)))))
    (λ p. (p.ticket, (p.exploration, (p.findings, (p.extent, p.rest)))))
    (λ p. record { ticket = p.0; exploration = p.1.0; findings = p.1.1.0; extent = p.1.1.1.0; rest = p.1.1.1.1 })
    (λ _. refl)
