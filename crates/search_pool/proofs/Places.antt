-- Where the parts of a module are in its text changes nothing of what its processes ask.
use Rattle.std.proofs.Common.{◌≡◌, refl, ap, ◌∙◌}
use Rattle.core_semantics.specs.Ask.{ask}
use Rattle.core_semantics.proofs.Places.{ask_bare}
use Rattle.core_tree.specs.Sameness.{bare_module}
use Rattle.core_tree.specs.Syntax.{ModuleTree}
use Rattle.world_model.specs.Asking.{entry_of, program_of}
use Rattle.world_model.specs.Asking as model
use Rattle.world_model.specs.Requests.{Origin, Main, Spawned}

entry_bare : (m : ModuleTree) (origin : Origin) → entry_of (bare_module m) origin ≡ entry_of m origin
entry_bare m Main = refl
entry_bare m (Spawned module_name function_name arguments) = refl

pub program_bare : (m : ModuleTree) → program_of (bare_module m) ≡ program_of m
program_bare m = λ i p origin answers. model.request_of ((ap (λ e. ask (bare_module m) p e answers) (entry_bare m origin) ∙ ask_bare m p (entry_of m origin) answers) i)
