use Rattle.std.proofs.Common.{◌∙◌, ap}
use Rattle.std.specs.Prelude.{option_map}
use Rattle.core_semantics.specs.Applications.{definition}
use Rattle.core_eval.specs.inside.Functions.{function_in}
use Rattle.core_eval.proofs.Lookups.{lookup-definition}
use Rattle.core_eval.proofs.entry.definition_of.Goals as goal

pub returns : goal.returns
returns c = ap (option_map function_in) c.get.ensures.value ∙ lookup-definition c.args.function.now c.program.inside.definitions.entries ∙ ap (λ m. definition c.args.function.now m.definitions) c.program.view_is
