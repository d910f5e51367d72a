-- A worked row: a small module and its text.
use Rattle.std.specs.Prelude.{ℕ, pos, List, [], ◌∷◌, codes}
use Rattle.core_tree.specs.Syntax.{NamedAt, ModuleTree}
use Rattle.core_tree.specs.Expression as trees
use Rattle.core_reader.specs.ModuleText.{SpellsModule}

-- the name `main/0` at a place
abbrev pub main_at : ℕ → NamedAt
main_at place = record { at = place; function = record { name = codes "main"; arity = 0 } }

-- the module `m`, with one function, which gives 1
abbrev pub small_module : ModuleTree
small_module = record {
  name = codes "m";
  exports = main_at 12 ∷ [];
  attributes = [];
  definitions = record { named = main_at 36; parameters = []; body = trees.Integer (pos 1) } ∷ [];
}

abbrev pub small_text : List ℕ
small_text = codes "module 'm' ['main'/0] attributes [] 'main'/0 = fun () -> 1 end"

-- the text says the module
abbrev pub ASmallTextIsSaid : Type 0
ASmallTextIsSaid = SpellsModule small_text small_module
