-- A module of which only the tree is known yet.
use Rattle.std.specs.Prelude.{ℕ, map}
use Rattle.core_tree.specs.Syntax.{DefinitionTree, ModuleTree}
use Rattle.core_tree.specs.Definitions.{definition_of}
use Rattle.core_scopes.specs.declared.draft.Defined.{Defined}
use Rattle.core_scopes.specs.declared.draft.Draft.{Draft}

-- a definition with its name
abbrev pub defined_of : Defined → DefinitionTree
defined_of d = definition_of (d.function, d.definition)

-- the tree of the module, and the place of its last `end`
abbrev pub draft_of : Draft → ModuleTree × ℕ
draft_of d = (record { name = d.front.name; exports = d.front.exports.items; attributes = d.front.attributes.items; definitions = map defined_of d.definitions.items }, d.end)
