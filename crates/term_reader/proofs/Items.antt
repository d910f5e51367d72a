-- Items, and texts that begin alike.
use Rattle.std.proofs.Common.{◌≡◌, ◌≢◌, ◌==◌, ℕ, ◌<◌, Bool, true, false, if◌then◌else◌, List, [], ◌∷◌, ◌++◌, length, slice_index, ap, sym, refl, ◌∙◌, subst, arith, ne_eqb, one-add}
use Rattle.std.specs.List.{before_first}
use Rattle.term_reader.specs.Lawful.{item_of, marks}
use Rattle.term_reader.specs.inside.Leaves.{Ends, IsAlike, word_of}

word_on : (test : ℕ → Bool) (b : ℕ) (bs : List ℕ) → test b ≡ false → before_first test (b ∷ bs) ≡ b ∷ before_first test bs
word_on test b bs e = rw (e, one-add) refl

word_stops : (test : ℕ → Bool) (b : ℕ) (bs : List ℕ) → test b ≡ true → before_first test (b ∷ bs) ≡ []
word_stops test b bs e = rw e refl

-- an item by what its first byte is
abbrev item_by : Bool → Bool → ℕ → List ℕ → List ℕ → List ℕ
item_by mark quote b bs word = if mark then b ∷ [] else (if quote then b ∷ bs else word)

first_by : (mark quote : Bool) (b : ℕ) (bs : List ℕ) → marks b ≡ mark → (u : List ℕ) × (item_by mark quote b bs (word_of (b ∷ bs)) ≡ b ∷ u)
first_by true quote b bs e = ([], refl)
first_by false true b bs e = (bs, refl)
first_by false false b bs e = (word_of bs, word_on marks b bs e)

-- an item begins as its text does
item_first : (b : ℕ) (bs : List ℕ) → (u : List ℕ) × (item_of (b ∷ bs) ≡ b ∷ u)
item_first b bs = first_by (marks b) (b == 39) b bs refl

pub alike_items : (rest other : List ℕ) → item_of other ≡ item_of rest → IsAlike rest other
alike_items [] [] e = tt
alike_items [] (b ∷ bs) e = let f = item_first b bs in let none : b ∷ f.0 ≡ [] = sym f.1 ∙ e in cc
alike_items (a ∷ xs) [] e = let f = item_first a xs in let none : [] ≡ a ∷ f.0 = e ∙ f.1 in cc
alike_items (a ∷ xs) (b ∷ bs) e = let f = item_first a xs in let g = item_first b bs in let same : b ∷ g.0 ≡ a ∷ f.0 = sym g.1 ∙ e ∙ f.1 in cc

pub item_none : (other : List ℕ) → item_of other ≡ [] → other ≡ []
item_none [] e = refl
item_none (b ∷ bs) e = let f = item_first b bs in let none : b ∷ f.0 ≡ [] = sym f.1 ∙ e in cc

pub alike_under : (read rest other : List ℕ) → item_of other ≡ item_of rest → IsAlike (read ++ rest) (read ++ other)
alike_under [] rest other e = alike_items rest other e
alike_under (x ∷ xs) rest other e = refl

pub alike_after : (read a b : List ℕ) → 0 < length read → IsAlike (read ++ a) (read ++ b)
alike_after [] a b some = absurd (omega arith)
alike_after (x ∷ xs) a b some = refl

pub alike_self : (a : List ℕ) → IsAlike a a
alike_self [] = tt
alike_self (x ∷ xs) = refl

pub alike_index : (a b : List ℕ) → IsAlike a b → slice_index b 0 ≡ slice_index a 0
alike_index [] [] h = refl
alike_index [] (b ∷ bs) h = absurd h
alike_index (a ∷ xs) [] h = absurd h
alike_index (a ∷ xs) (b ∷ bs) h = sym h

pub alike_other : (a b : List ℕ) (n : ℕ) → IsAlike a b → slice_index a 0 ≢ n → slice_index b 0 ≢ n
alike_other a b n h other = λ e. other (sym (alike_index a b h) ∙ e)

pub alike_ends : (a b : List ℕ) → IsAlike a b → Ends a → Ends b
alike_ends [] [] h k = tt
alike_ends [] (b ∷ bs) h k = absurd h
alike_ends (a ∷ xs) [] h k = absurd h
alike_ends (a ∷ xs) (b ∷ bs) h k = ap marks (sym h) ∙ k

-- from a quote on, the item is all
pub item_quote : (inside other : List ℕ) → item_of other ≡ item_of (39 ∷ inside) → other ≡ 39 ∷ inside
item_quote inside [] e = cc
item_quote inside (b ∷ bs) e =
    let first : 39 ≡ b = alike_items (39 ∷ inside) (b ∷ bs) e in
    subst (λ (c : ℕ). item_of (c ∷ bs) ≡ 39 ∷ inside → c ∷ bs ≡ 39 ∷ inside) first (λ h. h) e

same_word_by : (mark : Bool) (a : ℕ) (xs bs : List ℕ) → marks a ≡ mark → item_by mark false a bs (word_of (a ∷ bs)) ≡ item_by mark false a xs (word_of (a ∷ xs)) → word_of (a ∷ bs) ≡ word_of (a ∷ xs)
same_word_by true a xs bs e h = word_stops marks a bs e ∙ sym (word_stops marks a xs e)
same_word_by false a xs bs e h = h

same_word_at : (a b : ℕ) (xs bs : List ℕ) → a ≡ b → a ≢ 39 → item_of (b ∷ bs) ≡ item_of (a ∷ xs) → word_of (b ∷ bs) ≡ word_of (a ∷ xs)
same_word_at a b xs bs first other e =
    let same : item_of (a ∷ bs) ≡ item_of (a ∷ xs) = ap (λ c. item_of (c ∷ bs)) first ∙ e in
    let plain = subst (λ (q : Bool). item_by (marks a) q a bs (word_of (a ∷ bs)) ≡ item_by (marks a) q a xs (word_of (a ∷ xs))) (ne_eqb a 39 other) same in
    ap (λ c. word_of (c ∷ bs)) (sym first) ∙ same_word_by (marks a) a xs bs refl plain

-- texts with one item, which is no quote, have one word
pub same_word : (text other : List ℕ) → slice_index text 0 ≢ 39 → item_of other ≡ item_of text → word_of other ≡ word_of text
same_word [] other h e = ap word_of (item_none other e)
same_word (a ∷ xs) [] h e = absurd (alike_items (a ∷ xs) [] e)
same_word (a ∷ xs) (b ∷ bs) h e = same_word_at a b xs bs (alike_items (a ∷ xs) (b ∷ bs) e) h e
