-- What a text says, from what its tokens spell.
use Rattle.std.proofs.Common.{◌≡◌, ℕ, List, subst}
use Rattle.core_tokens.specs.Piece.{Piece}
use Rattle.core_tokens.specs.Tokens.{AreTokens}
use Rattle.core_tree.specs.Syntax.{ModuleTree}
use Rattle.core_grammar.specs.Grammar.{Spells}
use Rattle.core_reader.specs.ModuleText.{SpellsModule}

-- a text that is one list of tokens at most, which spell one module at most, says one at most
pub said_once : ((text : List ℕ) (ps qs : List Piece) → AreTokens text ps → AreTokens text qs → ps ≡ qs) → ((ps : List Piece) (a b : ModuleTree) → Spells ps a → Spells ps b → a ≡ b)
    → (text : List ℕ) (a b : ModuleTree) → SpellsModule text a → SpellsModule text b → a ≡ b
said_once same once text a b s t = once t.pieces a b (subst (λ (qs : List Piece). Spells qs a) (same text s.pieces t.pieces s.tokens t.tokens) s.spelt) t.spelt
