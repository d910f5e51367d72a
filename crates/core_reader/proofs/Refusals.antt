-- What the passes say together of a text that they refuse.
use Rattle.std.proofs.Common.{◌≡◌, ℕ, List, length}
use Rattle.std.specs.Prelude.{Result, Ok, Err, IfErr}
use Rattle.core_tokens.specs.declared.fault.ReadFault.{ReadFault}
use Rattle.core_tokens.specs.declared.fault.ReadFault.TheVariants as fault
use Rattle.core_tokens.specs.Piece.{Piece}
use Rattle.core_tree.specs.Syntax.{ModuleTree}
use Rattle.core_grammar.specs.Whole.{IsReadAs}
use Rattle.core_tokens.specs.Tokens.{AreTokens, IsTokenFault}
use Rattle.core_grammar.specs.Places.{IsFaultOf}
use Rattle.core_reader.specs.ModuleText.{SpellsModule}
use Rattle.core_reader.specs.Refusal.{IsLegible, IsTrueOf, IsRefusalOf}

-- ---- the tokens

token_fault_is_true : (text : List ℕ) (f : ReadFault) → IsLegible text → IsTokenFault text f → IsTrueOf text f
token_fault_is_true text (fault.BadToken place) legible h = (legible, h)
token_fault_is_true text (fault.BadInteger place) legible h = (legible, h)
token_fault_is_true text fault.Memory legible h = tt
token_fault_is_true text _ legible h = absurd h

pub tokens_refuse : (text : List ℕ) (f : ReadFault) → IsLegible text → IsTokenFault text f → ((ps : List Piece) → AreTokens text ps → f ≡ fault.Memory) → IsRefusalOf text f
tokens_refuse text f legible h only = record { says = token_fault_is_true text f legible h; only = λ m s. only s.pieces s.tokens }

-- ---- the grammar and the scopes

reading_fault_is_true : (text : List ℕ) (ps : List Piece) (f : ReadFault) → IsLegible text → AreTokens text ps → IsFaultOf ps (length text) f → IsTrueOf text f
reading_fault_is_true text ps fault.Memory legible tokens h = tt
reading_fault_is_true text ps (fault.TooLong place) legible tokens h = absurd h
reading_fault_is_true text ps (fault.NotUtf8 place) legible tokens h = absurd h
reading_fault_is_true text ps (fault.BadToken place) legible tokens h = absurd h
reading_fault_is_true text ps (fault.BadInteger place) legible tokens h = absurd h
reading_fault_is_true text ps _ legible tokens h = record { legible = legible; pieces = ps; tokens = tokens; stands = h }

pub reading_refuses : (text : List ℕ) (ps : List Piece) (r : Result ModuleTree ReadFault) → IsLegible text → AreTokens text ps
    → IfErr r (λ f. IsFaultOf ps (length text) f) → ((m : ModuleTree) → SpellsModule text m → IsReadAs m r) → IfErr r (IsRefusalOf text)
reading_refuses text ps (Ok m) legible tokens h only = tt
reading_refuses text ps (Err f) legible tokens h only = record { says = reading_fault_is_true text ps f legible tokens h; only = only }
