-- The codes of nodes, frames and walks, by which proofs distinguish values.
use Rattle.std.specs.Prelude.{ℕ, List, refl}
use Rattle.std.specs.Coded.{Coded, code_by, coded×, coded_list, coded_ℕ}
use Rattle.core_tree.specs.Syntax.{ModuleTree}
use Rattle.core_tree.specs.inside.SyntaxCodes.{coded_module}
use Rattle.term_core.specs.contracts.step.Step as steps
use Rattle.term_core.specs.declared.step.Step.{Step}
use Rattle.world_model.specs.Events.{History}
use Rattle.world_core.specs.inside.EventCodes.{coded_history}
use Rattle.tree_covers.specs.Judging.{Place}
use Rattle.tree_covers.specs.inside.Frames.{NodeSeen, FrameSeen, WalkSeen}

abbrev coded_steps : Coded (List Step)
coded_steps = coded_list steps.the_row.coded

abbrev NodeParts : Type 0
NodeParts = ModuleTree × (History × (List Step × ℕ))

abbrev pub coded_node : Coded NodeSeen
coded_node =
    code_by NodeParts (coded× coded_module (coded× coded_history (coded× coded_steps coded_ℕ)))
    (λ v. (v.program, (v.history, (v.slept, v.left))))
    (λ p. record { program = p.0; history = p.1.0; slept = p.1.1.0; left = p.1.1.1 })
    (λ _. refl)

abbrev FrameParts : Type 0
FrameParts = ModuleTree × (History × (List Step × (List Step × ℕ)))

abbrev pub coded_frame : Coded FrameSeen
coded_frame =
    code_by FrameParts (coded× coded_module (coded× coded_history (coded× coded_steps (coded× coded_steps coded_ℕ))))
    (λ f. (f.program, (f.history, (f.slept, (f.line, f.left)))))
    (λ p. record { program = p.0; history = p.1.0; slept = p.1.1.0; line = p.1.1.1.0; left = p.1.1.1.1 })
    (λ _. refl)

abbrev coded_place : Coded Place
coded_place =
    code_by (History × (List Step × ℕ)) (coded× coded_history (coded× coded_steps coded_ℕ))
    (λ v. (v.history, (v.slept, v.left)))
    (λ p. record { history = p.0; slept = p.1.0; left = p.1.1 })
    (λ _. refl)

abbrev pub coded_walk : Coded WalkSeen
coded_walk =
    code_by (ModuleTree × List Place) (coded× coded_module (coded_list coded_place)) (λ w. (w.program, w.ahead)) (λ p. record { program = p.0; ahead = p.1 }) (λ _. refl)
