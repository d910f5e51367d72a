-- A world as callers see it: its module, what happened in it, and whether memory ran out once.
use Rattle.std.specs.Prelude.{Bool, false, [], refl}
use Rattle.std.specs.Coded.{Coded, code_by, coded×, coded_bool}
use Rattle.core_tree.specs.Syntax.{ModuleTree}
use Rattle.core_tree.specs.inside.SyntaxCodes.{coded_module}
use Rattle.world_model.specs.Asking.{program_of}
use Rattle.world_model.specs.Events.{History}
use Rattle.world_model.specs.Requests.{Program}
use Rattle.world_core.specs.inside.EventCodes.{coded_history}

pub record Seen : Type 0 where
  pub program : ModuleTree
  pub history : History
  pub spent : Bool

-- the program that its module is
abbrev pub program_in : Seen → Program
program_in w = program_of w.program

-- a world of a module before anything happened
abbrev pub new_world : ModuleTree → Seen
new_world m = record { program = m; history = []; spent = false }

abbrev pub coded_seen : Coded Seen
coded_seen = code_by (ModuleTree × (History × Bool)) (coded× coded_module (coded× coded_history coded_bool)) (λ w. (w.program, (w.history, w.spent))) (λ p. record { program = p.0; history = p.1.0; spent = p.1.1 }) (λ _. refl)
