-- Words, which end before a mark or at the end of a text.
use Rattle.std.proofs.Common.{◌≡◌, ℕ, Bool, true, false, List, [], ◌∷◌, ◌++◌, length, drop, take_at, drop_at, take-append-drop, sym, refl, arith, one-add}
use Rattle.std.specs.List.{AllByRecursion, position_or_len}
use Rattle.term_reader.specs.Lawful.{marks}
use Rattle.term_reader.specs.inside.Leaves.{Ends, word_of, behind_word}

-- no byte is a mark
abbrev pub LacksMarks : List ℕ → Type 0
LacksMarks bytes = AllByRecursion (λ byte. marks byte ≡ false) bytes

abbrev BeginsBy : (ℕ → Bool) → List ℕ → Type 0
BeginsBy test [] = Unit {0}
BeginsBy test (byte ∷ bytes) = test byte ≡ true

place-append : (test : ℕ → Bool) (a b : List ℕ) → AllByRecursion (λ byte. test byte ≡ false) a → BeginsBy test b → position_or_len test (a ++ b) ≡ length a
place-append test [] [] l s = refl
place-append test [] (x ∷ xs) l s = rw s refl
place-append test (y ∷ ys) b l s = rw l.0 (omega (arith, place-append test ys b l.1 s))

begins_by : (b : List ℕ) → Ends b → BeginsBy marks b
begins_by [] s = tt
begins_by (x ∷ xs) s = s

-- bytes without a mark, and then nothing or a mark, are cut between
pub word-append : (a b : List ℕ) → LacksMarks a → Ends b → word_of (a ++ b) ≡ a
word-append a b l s = take_at a b _ (sym (place-append marks a b l (begins_by b s)))

pub behind_word-append : (a b : List ℕ) → LacksMarks a → Ends b → behind_word (a ++ b) ≡ b
behind_word-append a b l s = drop_at a b _ (sym (place-append marks a b l (begins_by b s)))

pub word-append-behind : (text : List ℕ) → word_of text ++ behind_word text ≡ text
word-append-behind text = take-append-drop _ text

behind_by : (test : ℕ → Bool) (is : Bool) (x : ℕ) (xs : List ℕ) → test x ≡ is → BeginsBy test (drop (position_or_len test xs) xs) → BeginsBy test (drop (position_or_len test (x ∷ xs)) (x ∷ xs))
behind_by test true x xs e h = rw e e
behind_by test false x xs e h = rw (e, one-add) h

behind_begins_by : (test : ℕ → Bool) (bytes : List ℕ) → BeginsBy test (drop (position_or_len test bytes) bytes)
behind_begins_by test [] = tt
behind_begins_by test (x ∷ xs) = behind_by test (test x) x xs refl (behind_begins_by test xs)

ends_by : (b : List ℕ) → BeginsBy marks b → Ends b
ends_by [] s = tt
ends_by (x ∷ xs) s = s

-- after a word there is nothing or a mark
pub behind_word_ends : (text : List ℕ) → Ends (behind_word text)
behind_word_ends text = ends_by (behind_word text) (behind_begins_by marks text)
