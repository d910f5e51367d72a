-- The look-up of a function among the definitions.
use Rattle.std.proofs.Common.{◌≡◌, Bool, true, false, List, [], ◌∷◌, refl, map, Option, Some, if◌then◌else◌}
use Rattle.std.specs.Prelude.{option_map}
use Rattle.std.specs.Map.{lookup}
use Rattle.core_tree.specs.Syntax.{Mention, Tree, Function}
use Rattle.core_tree.specs.Functions.{same_function}
use Rattle.core_tree.specs.Definitions.{definition_of}
use Rattle.core_tree.specs.declared.module.Definition.{Definition}
use Rattle.core_semantics.specs.Applications.{definition}
use Rattle.core_eval.specs.inside.Functions.{function_in}

chosen : (b : Bool) (d : Definition) (r : Option Definition) (o : Option (List Mention × Tree)) → option_map function_in r ≡ o → option_map function_in (if b then Some d else r) ≡ (if b then Some (function_in d) else o)
chosen true d r o e = refl
chosen false d r o e = e

-- the entry of the map is the definition
pub lookup-definition : (f : Function) (es : List (Function × Definition)) → option_map function_in (lookup (same_function f) es) ≡ definition f (map definition_of es)
lookup-definition f [] = refl
lookup-definition f (e ∷ es) = chosen (same_function f e.0) e.1 (lookup (same_function f) es) _ (lookup-definition f es)
