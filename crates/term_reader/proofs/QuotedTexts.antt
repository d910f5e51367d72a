-- The texts of atoms between their quotes.
use Rattle.std.proofs.Common.{◌≡◌, ◌≢◌, ℕ, ◌≤◌, List, [], ◌∷◌, ◌++◌, length, get_or, ap, sym, refl, ◌∙◌, arith, append_assoc, append-nil}
use Rattle.std.proofs.lemmas.Bool.Decides.{nat_tests}
use Rattle.std.specs.List.{flat_map}
use Rattle.term_core.specs.TermText.{printed_byte}
use Rattle.term_reader.specs.inside.Bytes.{ReadsByte, NoByte, ReadsBytes}

-- a byte as it is printed is not empty, and begins with no quote
printed_some : (byte : ℕ) → 1 ≤ length (printed_byte byte)
printed_some byte = grind (arith, nat_tests)

printed_first : (byte : ℕ) → get_or (printed_byte byte) 0 0 ≢ 39
printed_first byte = grind (arith, nat_tests)

first_of : (front behind r : List ℕ) (a : ℕ) → 1 ≤ length front → a ∷ r ≡ front ++ behind → a ≡ get_or front 0 0
first_of [] behind r a some e = absurd (omega arith)
first_of (b ∷ bs) behind r a some e = ap (λ w. get_or w 0 0) e

pub no_quote : (byte : ℕ) (r behind : List ℕ) → 39 ∷ r ≡ printed_byte byte ++ behind → ⊥
no_quote byte r behind e = printed_first byte (sym (first_of (printed_byte byte) behind r 39 (printed_some byte) e))

-- what was read of the bytes of an atom, where its closing quote is still to come
pub record ReadsSome (text bytes rest : List ℕ) : Type 0 where
  pub parts : text ≡ flat_map printed_byte bytes ++ rest
  pub only : (others behind : List ℕ) → text ≡ flat_map printed_byte others ++ 39 ∷ behind → (left : List ℕ) × (others ≡ bytes ++ left) × (rest ≡ flat_map printed_byte left ++ 39 ∷ behind)

pub reads_none : (text : List ℕ) → ReadsSome text [] text
reads_none text = record { parts = refl; only = λ others behind e. (others, refl, e) }

-- the first of the bytes that are left
record First (mark : ℕ) (tail left behind : List ℕ) : Type 0 where
  byte : ℕ
  others : List ℕ
  is : left ≡ byte ∷ others
  text : mark ∷ tail ≡ printed_byte byte ++ (flat_map printed_byte others ++ 39 ∷ behind)

first_left : (mark : ℕ) (tail left behind : List ℕ) → mark ≢ 39 → mark ∷ tail ≡ flat_map printed_byte left ++ 39 ∷ behind → First mark tail left behind
first_left mark tail [] behind other e = absurd (other (ap (λ w. get_or w 0 0) e))
first_left mark tail (b ∷ bs) behind other e = record { byte = b; others = bs; is = refl; text = e ∙ append_assoc (printed_byte b) (flat_map printed_byte bs) (39 ∷ behind) }

flat_map-push : (bytes : List ℕ) (byte : ℕ) (rest : List ℕ) → flat_map printed_byte (bytes ++ byte ∷ []) ++ rest ≡ flat_map printed_byte bytes ++ (printed_byte byte ++ rest)
flat_map-push [] byte rest = ap (λ w. w ++ rest) (append-nil (printed_byte byte))
flat_map-push (b ∷ bs) byte rest =
    append_assoc (printed_byte b) (flat_map printed_byte (bs ++ byte ∷ [])) rest
    ∙ ap (λ w. printed_byte b ++ w) (flat_map-push bs byte rest)
    ∙ sym (append_assoc (printed_byte b) (flat_map printed_byte bs) (printed_byte byte ++ rest))

-- one more byte
pub reads_byte : (text bytes tail next : List ℕ) (mark byte : ℕ) → mark ≢ 39 → ReadsSome text bytes (mark ∷ tail) → ReadsByte (mark ∷ tail) byte next → ReadsSome text (bytes ++ byte ∷ []) next
reads_byte text bytes tail next mark byte other r b = record {
  parts = r.parts ∙ ap (λ w. flat_map printed_byte bytes ++ w) b.parts ∙ sym (flat_map-push bytes byte next);
  only = λ others behind e.
      let l = r.only others behind e in
      let f = first_left mark tail l.0 behind other l.2 in
      let same = b.only f.byte (flat_map printed_byte f.others ++ 39 ∷ behind) f.text in
      (f.others, l.1 ∙ ap (λ w. bytes ++ w) (f.is ∙ ap (λ c. c ∷ f.others) (sym same.0)) ∙ sym (append_assoc bytes (byte ∷ []) f.others), same.1);
}

-- no byte where none is printed
pub no_byte : (text bytes tail : List ℕ) (mark : ℕ) → mark ≢ 39 → ReadsSome text bytes (mark ∷ tail) → NoByte (mark ∷ tail) → (others behind : List ℕ) → text ≡ flat_map printed_byte others ++ 39 ∷ behind → ⊥
no_byte text bytes tail mark other r none others behind e =
    let l = r.only others behind e in
    let f = first_left mark tail l.0 behind other l.2 in
    none f.byte (flat_map printed_byte f.others ++ 39 ∷ behind) f.text

none_left : (left tail behind : List ℕ) → 39 ∷ tail ≡ flat_map printed_byte left ++ 39 ∷ behind → (left ≡ []) × (tail ≡ behind)
none_left [] tail behind e = (refl, cc)
none_left (b ∷ bs) tail behind e = absurd (no_quote b tail (flat_map printed_byte bs ++ 39 ∷ behind) (e ∙ append_assoc (printed_byte b) (flat_map printed_byte bs) (39 ∷ behind)))

-- the closing quote
pub reads_quote : (text bytes tail : List ℕ) → ReadsSome text bytes (39 ∷ tail) → ReadsBytes text bytes tail
reads_quote text bytes tail r = record {
  parts = r.parts;
  only = λ others behind e.
      let l = r.only others behind e in
      let none = none_left l.0 tail behind l.2 in
      (sym (l.1 ∙ ap (λ w. bytes ++ w) none.0 ∙ append-nil bytes), none.1);
}
