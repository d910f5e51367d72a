-- What is decoded from all of the tokens is what they spell.
use Rattle.std.proofs.Common.{◌≡◌, ℕ, List, Result, Ok, sym, ap, ◌∙◌}
use Rattle.core_tokens.specs.declared.fault.ReadFault.{ReadFault}
use Rattle.core_tokens.specs.Piece.{Piece}
use Rattle.core_tree.specs.Syntax.{ModuleTree}
use Rattle.core_grammar.specs.Grammar.{Spells}
use Rattle.core_grammar.specs.inside.DecoderModules.{module_at}
use Rattle.core_grammar.specs.Whole.{start}
use Rattle.core_grammar.proofs.SoundModules.{module_sound}
use Rattle.core_grammar.proofs.CompleteModules.{module_complete}

pub decoded_spelt : (stop : ℕ) (ps : List Piece) (x : ModuleTree × ℕ) → module_at (start stop ps) ≡ Ok x → Spells ps x.0
decoded_spelt stop ps x is = module_sound (start stop ps) x is

pub spelt_decoded : (stop : ℕ) (ps : List Piece) (m : ModuleTree) → Spells ps m → (at : ℕ) × (module_at (start stop ps) ≡ Ok (m, at))
spelt_decoded stop ps m h = module_complete stop ps m h

abbrev decoded : ModuleTree × ℕ → Result (ModuleTree × ℕ) ReadFault
decoded x = Ok x

same_read : (x y : ModuleTree × ℕ) → decoded x ≡ decoded y → x ≡ y
same_read x y e = cc

pub spelt_once : (ps : List Piece) (a b : ModuleTree) → Spells ps a → Spells ps b → a ≡ b
spelt_once ps a b h g =
    let x = module_complete 0 ps a h in
    let y = module_complete 0 ps b g in
    ap (λ (z : ModuleTree × ℕ). z.0) (same_read (a, x.0) (b, y.0) (sym x.1 ∙ y.1))
