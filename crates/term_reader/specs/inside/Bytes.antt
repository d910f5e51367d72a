-- The bytes of atoms at the beginning of a text, as they are printed.
use Rattle.std.specs.Prelude.{◌≡◌, ℕ, ◌≤◌, ◌⊎◌, List, ◌∷◌, ◌++◌}
use Rattle.std.specs.List.{flat_map}
use Rattle.term_core.specs.TermText.{printed_byte}
use Rattle.term_reader.specs.declared.atoms.Quoted.{Quoted}
use Rattle.term_reader.specs.declared.atoms.Quoted.TheVariants.{Read, Bad}

-- the text begins with this byte as it is printed, and with no other
pub record ReadsByte (text : List ℕ) (byte : ℕ) (behind : List ℕ) : Type 0 where
  pub parts : text ≡ printed_byte byte ++ behind
  pub only : (other : ℕ) (rest : List ℕ) → text ≡ printed_byte other ++ rest → (byte ≡ other) × (behind ≡ rest)

-- the text begins with no byte as one is printed
abbrev pub NoByte : List ℕ → Type 0
NoByte text = (other : ℕ) (rest : List ℕ) → text ≡ printed_byte other ++ rest → ⊥

-- a byte below 32 that is printed by a letter
abbrev pub HasLetter : ℕ → Type 0
HasLetter byte = ((8 ≤ byte) × (byte ≤ 13)) ⊎ (byte ≡ 27)

-- the text begins with these bytes as they are printed and a quote, and with no others
pub record ReadsBytes (text bytes behind : List ℕ) : Type 0 where
  pub parts : text ≡ flat_map printed_byte bytes ++ 39 ∷ behind
  pub only : (others rest : List ℕ) → text ≡ flat_map printed_byte others ++ 39 ∷ rest → (bytes ≡ others) × (behind ≡ rest)

abbrev pub ReadsQuoted : List ℕ → Quoted → Type 0
ReadsQuoted text (Read bytes behind) = ReadsBytes text bytes.items behind.now
ReadsQuoted text Bad = (others rest : List ℕ) → text ≡ flat_map printed_byte others ++ 39 ∷ rest → ⊥
