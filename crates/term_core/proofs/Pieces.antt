-- Bytes in pieces: what comes before the first mark, and the rest.
use Rattle.std.proofs.Common.{◌≡◌, ◌==◌, ℕ, ◌≤◌, Bool, true, false, List, [], ◌∷◌, ◌++◌, length, drop, take_at, drop_at, take-append-drop, ap, sym, refl, ◌∙◌, arith, one-add}
use Rattle.std.proofs.lemmas.List.Sums.{prefix_len-le-length}
use Rattle.std.specs.List.{AllByRecursion, position_or_len, before_first}

-- no byte is the mark
abbrev pub Lacks : ℕ → List ℕ → Type 0
Lacks mark bytes = AllByRecursion (λ byte. (byte == mark) ≡ false) bytes

-- nothing, or the mark and more
abbrev pub Begins : ℕ → List ℕ → Type 0
Begins mark [] = Unit {0}
Begins mark (byte ∷ bytes) = (byte == mark) ≡ true

-- how many bytes come before the first mark
abbrev pub place : ℕ → List ℕ → ℕ
place mark bytes = position_or_len (λ byte. byte == mark) bytes

-- what comes before the first mark
abbrev pub front : ℕ → List ℕ → List ℕ
front mark bytes = before_first (λ byte. byte == mark) bytes

-- the rest
abbrev pub behind : ℕ → List ℕ → List ℕ
behind mark bytes = drop (place mark bytes) bytes

pub place-le : (mark : ℕ) (bytes : List ℕ) → place mark bytes ≤ length bytes
place-le mark bytes = prefix_len-le-length _ bytes

pub front-append-behind : (mark : ℕ) (bytes : List ℕ) → front mark bytes ++ behind mark bytes ≡ bytes
front-append-behind mark bytes = take-append-drop _ bytes

begins_or : (test : Bool) (mark x : ℕ) (xs : List ℕ) → (x == mark) ≡ test → Begins mark (behind mark xs) → Begins mark (behind mark (x ∷ xs))
begins_or true mark x xs e h = rw e e
begins_or false mark x xs e h = rw (e, one-add) h

-- the rest begins with the mark
pub behind_begins : (mark : ℕ) (bytes : List ℕ) → Begins mark (behind mark bytes)
behind_begins mark [] = tt
behind_begins mark (x ∷ xs) = begins_or (x == mark) mark x xs refl (behind_begins mark xs)

place-append : (mark : ℕ) (a b : List ℕ) → Lacks mark a → Begins mark b → place mark (a ++ b) ≡ length a
place-append mark [] [] l s = refl
place-append mark [] (x ∷ xs) l s = rw s refl
place-append mark (y ∷ ys) b l s = rw l.0 (omega (arith, place-append mark ys b l.1 s))

-- bytes without the mark, and then nothing or the mark, are cut between
pub front-append : (mark : ℕ) (a b : List ℕ) → Lacks mark a → Begins mark b → front mark (a ++ b) ≡ a
front-append mark a b l s = take_at a b _ (sym (place-append mark a b l s))

pub behind-append : (mark : ℕ) (a b : List ℕ) → Lacks mark a → Begins mark b → behind mark (a ++ b) ≡ b
behind-append mark a b l s = drop_at a b _ (sym (place-append mark a b l s))

-- so two such cuts of the same bytes are one
pub one_cut : (mark : ℕ) (a b c d : List ℕ) → Lacks mark a → Begins mark b → Lacks mark c → Begins mark d → a ++ b ≡ c ++ d → (a ≡ c) × (b ≡ d)
one_cut mark a b c d l s m t e = (
  sym (front-append mark a b l s) ∙ ap (front mark) e ∙ front-append mark c d m t,
  sym (behind-append mark a b l s) ∙ ap (behind mark) e ∙ behind-append mark c d m t,
)

pub all-append : {X : Type 0} (P : X → Type 0) (a b : List X) → AllByRecursion P a → AllByRecursion P b → AllByRecursion P (a ++ b)
all-append P [] b p q = q
all-append P (x ∷ xs) b p q = (p.0, all-append P xs b p.1 q)

pub all_weaker : (P Q : ℕ → Type 0) → ((n : ℕ) → P n → Q n) → (a : List ℕ) → AllByRecursion P a → AllByRecursion Q a
all_weaker P Q f [] p = tt
all_weaker P Q f (x ∷ xs) p = (f x p.0, all_weaker P Q f xs p.1)
