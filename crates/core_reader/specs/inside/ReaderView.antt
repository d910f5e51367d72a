-- How the records of reading definitions and modules are seen.
use Rattle.std.specs.Prelude.{ℕ, List}
use Rattle.core_tree.specs.Syntax.{Mention, Tree, NamedAt, AttributeTree}
use Rattle.core_tree.specs.Tree.{tree_of}
use Rattle.core_scopes.specs.declared.draft.Front.{Front}
use Rattle.core_scopes.specs.Drafts.{defined_of}
use Rattle.core_grammar.specs.inside.Decoder.{State}
use Rattle.core_grammar.specs.inside.DecoderModules.{Opening, TheName, WholeDefinition}
use Rattle.core_expressions.specs.inside.FormView as forms
use Rattle.core_reader.specs.declared.grammar.Fun.{Fun}
use Rattle.core_reader.specs.declared.grammar.ModuleReader.{ModuleReader}
use Rattle.core_reader.specs.declared.grammar.Opening.{Opening as Opened}
use Rattle.core_reader.specs.declared.grammar.Opening.TheVariants as openings

-- what is left to read
abbrev pub state_in : ModuleReader → State
state_in r = forms.state_in r.forms

-- the parameters of a function, and its body
abbrev pub fun_of : Fun → List Mention × Tree
fun_of f = (f.parameters.items, tree_of f.body)

-- what a definition begins with
abbrev pub opening_of : Opened → Opening
opening_of (openings.Name named) = TheName named
opening_of (openings.Whole d) = WholeDefinition (defined_of d)

abbrev pub front_of : Front → List ℕ × List NamedAt × List AttributeTree
front_of f = (f.name, f.exports.items, f.attributes.items)
