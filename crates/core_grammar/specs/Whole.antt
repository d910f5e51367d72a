-- Reading all of the tokens.
use Rattle.std.specs.Prelude.{◌≡◌, ℕ, List, None, Result, Ok, Err}
use Rattle.core_tokens.specs.declared.fault.ReadFault.{ReadFault}
use Rattle.core_tokens.specs.declared.fault.ReadFault.TheVariants.{Memory}
use Rattle.core_tokens.specs.Piece.{Piece}
use Rattle.core_tree.specs.Syntax.{ModuleTree}
use Rattle.core_grammar.specs.inside.Decoder.{State}

abbrev pub start : ℕ → List Piece → State
start length ps = record { pieces = ps; refused = None; stop = length }

-- the module is read, unless memory runs out
abbrev pub IsReadAs : ModuleTree → Result ModuleTree ReadFault → Type 0
IsReadAs m (Ok x) = x ≡ m
IsReadAs m (Err e) = e ≡ Memory
