-- What a refusal of a text says of it.
use Rattle.std.specs.Prelude.{◌≡◌, ◌<◌, ◌≤◌, ℕ, List, length}
use Rattle.std.specs.Str.{IsUtf8}
use Rattle.std.specs.Str.Lossy.{utf8_valid_len}
use Rattle.core_tokens.specs.declared.fault.ReadFault.{ReadFault}
use Rattle.core_tokens.specs.declared.fault.ReadFault.TheVariants as fault
use Rattle.core_tokens.specs.Piece.{Piece}
use Rattle.core_tree.specs.Syntax.{ModuleTree}
use Rattle.core_tokens.specs.Tokens.{AreTokens, IsTokenFault}
use Rattle.core_grammar.specs.Places.{IsFaultOf}
use Rattle.core_tokens.specs.Text.{text_limit}
use Rattle.core_reader.specs.ModuleText.{SpellsModule}

-- the text is of lawful length, and is UTF-8
abbrev pub IsLegible : List ℕ → Type 0
IsLegible text = (length text ≤ text_limit) × IsUtf8 text

-- the text is legible and is tokens, and what the fault says of them is true
pub record IsFaultOfTokensOf (text : List ℕ) (f : ReadFault) : Type 0 where
  pub legible : IsLegible text
  pub pieces : List Piece
  pub tokens : AreTokens text pieces
  pub stands : IsFaultOf pieces (length text) f

-- what the fault says of the text is true; a fault of the grammar or of the scopes says that the text is tokens, and what it says of them is true
abbrev pub IsTrueOf : List ℕ → ReadFault → Type 0
IsTrueOf text (fault.TooLong place) = (text_limit < length text) × (place ≡ text_limit)
IsTrueOf text (fault.NotUtf8 place) = (length text ≤ text_limit) × ¬ (IsUtf8 text) × (place ≡ utf8_valid_len text)
IsTrueOf text (fault.BadToken place) = IsLegible text × IsTokenFault text (fault.BadToken place)
IsTrueOf text (fault.BadInteger place) = IsLegible text × IsTokenFault text (fault.BadInteger place)
IsTrueOf text fault.Memory = Unit {0}
IsTrueOf text f = IsFaultOfTokensOf text f

-- the fault refuses the text: what it says is true, and except for lack of memory the text is that of no module
pub record IsRefusalOf (text : List ℕ) (f : ReadFault) : Type 0 where
  pub says : IsTrueOf text f
  pub only : (m : ModuleTree) → SpellsModule text m → f ≡ fault.Memory
