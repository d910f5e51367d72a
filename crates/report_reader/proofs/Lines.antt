-- The first lines of texts, and texts of whole lines.
use Rattle.std.proofs.Common.{◌≡◌, ◌==◌, ℕ, zero, suc, ◌+◌, ◌-◌, ◌≤◌, Bool, true, false, if◌then◌else◌, List, [], ◌∷◌, ◌++◌, length, take, ap, sym, refl, ◌∙◌, arith, append_assoc, append-nil, length-append}
use Rattle.std.proofs.lemmas.List.{append_cancel_left, take_at}
use Rattle.report_reader.specs.Lines.{IsLine, ends_in, first_lines}
use Rattle.report_reader.specs.inside.Reading.{AreWhole, LacksMark, SameLine, line_at}

-- ---- lines of a text

no_lines : (t : List ℕ) → first_lines t 0 ≡ []
no_lines [] = refl
no_lines (b ∷ bs) = refl

no_line : (t : List ℕ) → first_lines t 1 ≡ [] → t ≡ []
no_line [] e = refl
no_line (b ∷ bs) e = absurd cc

-- a text goes on after its first lines
goes_on : (t : List ℕ) (n : ℕ) → (behind : List ℕ) × (t ≡ first_lines t n ++ behind)
goes_on [] n = ([], refl)
goes_on (b ∷ bs) zero = (b ∷ bs, refl)
goes_on (b ∷ bs) (suc n) = let p = goes_on bs (if b == 10 then n else suc n) in (p.0, ap (λ (u : List ℕ). b ∷ u) p.1)

-- what has no end is within a line
within : (w t : List ℕ) (n : ℕ) → LacksMark 10 w → first_lines (w ++ t) (suc n) ≡ w ++ first_lines t (suc n)
within [] t n h = refl
within (b ∷ w) t n h = ap (λ (c : Bool). b ∷ first_lines (w ++ t) (if c then n else suc n)) h.0 ∙ ap (λ (u : List ℕ). b ∷ u) (within w t n h.1)

to_its_end : (w t : List ℕ) (n : ℕ) → LacksMark 10 w → first_lines (w ++ 10 ∷ t) (suc n) ≡ w ++ 10 ∷ first_lines t n
to_its_end w t n h = within w (10 ∷ t) n h

no_ends : (w : List ℕ) → LacksMark 10 w → ends_in w ≡ 0
no_ends [] h = refl
no_ends (b ∷ w) h = ap (λ (c : Bool). (if c then 1 else 0) + ends_in w) h.0 ∙ omega (arith, no_ends w h.1)

ends-append : (a b : List ℕ) → ends_in (a ++ b) ≡ ends_in a + ends_in b
ends-append [] b = omega arith
ends-append (x ∷ a) b = omega (arith, ends-append a b)

-- fewer lines of some lines
fewer_lines : (t : List ℕ) (n m : ℕ) → m ≤ n → first_lines (first_lines t n) m ≡ first_lines t m
fewer_lines [] n m le = refl
fewer_lines (b ∷ bs) zero zero le = refl
fewer_lines (b ∷ bs) zero (suc m) le = absurd (omega (arith, le))
fewer_lines (b ∷ bs) (suc n) zero le = refl
fewer_lines (b ∷ bs) (suc n) (suc m) le = go (b == 10) (fewer_lines bs n m (omega (arith, le))) (fewer_lines bs (suc n) (suc m) le)
  where
    go : (c : Bool) → first_lines (first_lines bs n) m ≡ first_lines bs m → first_lines (first_lines bs (suc n)) (suc m) ≡ first_lines bs (suc m)
        → b ∷ first_lines (first_lines bs (if c then n else suc n)) (if c then m else suc m) ≡ b ∷ first_lines bs (if c then m else suc m)
    go true ended more = ap (λ (u : List ℕ). b ∷ u) ended
    go false ended more = ap (λ (u : List ℕ). b ∷ u) more

-- ---- whole lines

pub whole-nil : AreWhole []
whole-nil = λ rest n. ap (first_lines rest) (omega arith)

pub whole-line : (w : List ℕ) → LacksMark 10 w → AreWhole (w ++ 10 ∷ [])
whole-line w h = λ rest n.
    let ends : ends_in (w ++ 10 ∷ []) + n ≡ suc n = omega (arith, ends-append w (10 ∷ []), no_ends w h) in
    ap (λ t. first_lines t (ends_in (w ++ 10 ∷ []) + n)) (append_assoc w (10 ∷ []) rest)
    ∙ ap (first_lines (w ++ 10 ∷ rest)) ends
    ∙ to_its_end w rest n h
    ∙ sym (append_assoc w (10 ∷ []) (first_lines rest n))

pub whole-append : (a b : List ℕ) → AreWhole a → AreWhole b → AreWhole (a ++ b)
whole-append a b h k = λ rest n.
    let ends : ends_in (a ++ b) + n ≡ ends_in a + (ends_in b + n) = omega (arith, ends-append a b) in
    ap (λ t. first_lines t (ends_in (a ++ b) + n)) (append_assoc a b rest)
    ∙ ap (first_lines (a ++ (b ++ rest))) ends
    ∙ h (b ++ rest) (ends_in b + n)
    ∙ ap (λ u. a ++ u) (k rest n)
    ∙ sym (append_assoc a b (first_lines rest n))

-- after whole lines texts have the same first line where what follows has
pub same_after : (p a b : List ℕ) → AreWhole p → SameLine a b → SameLine (p ++ a) (p ++ b)
same_after p a b whole same = go (ends_in p) refl
  where
    of : (t : List ℕ) (k : ℕ) → ends_in p ≡ suc k → first_lines (p ++ t) 1 ≡ first_lines p 1
    of t k e =
        let all : first_lines (p ++ t) (ends_in p + 0) ≡ p = whole t 0 ∙ ap (λ u. p ++ u) (no_lines t) ∙ append-nil p in
        sym (fewer_lines (p ++ t) (ends_in p + 0) 1 (omega (arith, e))) ∙ ap (λ u. first_lines u 1) all

    go : (k : ℕ) → ends_in p ≡ k → SameLine (p ++ a) (p ++ b)
    go zero e =
        let one : ends_in p + 1 ≡ 1 = omega (arith, e) in
        ap (first_lines (p ++ a)) (sym one) ∙ whole a 1 ∙ ap (λ u. p ++ u) same ∙ sym (whole b 1) ∙ ap (first_lines (p ++ b)) one
    go (suc k) e = of a k e ∙ sym (of b k e)

-- ---- texts with the same first line

-- they have the same front without an end
pub same_front : (w t other r : List ℕ) → LacksMark 10 w → SameLine t other → other ≡ w ++ r → (s : List ℕ) × (t ≡ w ++ s)
same_front w t other r h same e =
    let p = goes_on t 1 in
    let line : first_lines t 1 ≡ w ++ first_lines r 1 = same ∙ ap (λ u. first_lines u 1) e ∙ within w r 0 h in
    (first_lines r 1 ++ p.0, p.1 ∙ ap (λ u. u ++ p.0) line ∙ append_assoc w (first_lines r 1) p.0)

-- and the same front to the end
pub same_ended : (w t other r : List ℕ) → LacksMark 10 w → SameLine t other → other ≡ w ++ 10 ∷ r → (s : List ℕ) × (t ≡ w ++ 10 ∷ s)
same_ended w t other r h same e =
    let p = goes_on t 1 in
    let line : first_lines t 1 ≡ w ++ 10 ∷ [] = same ∙ ap (λ u. first_lines u 1) e ∙ to_its_end w r 0 h ∙ ap (λ u. w ++ 10 ∷ u) (no_lines r) in
    (p.0, p.1 ∙ ap (λ u. u ++ p.0) line ∙ append_assoc w (10 ∷ []) p.0)

-- texts that begin with one line
pub one_line : (w a b : List ℕ) → LacksMark 10 w → SameLine (w ++ 10 ∷ a) (w ++ 10 ∷ b)
one_line w a b h = to_its_end w a 0 h ∙ ap (λ u. w ++ 10 ∷ u) (no_lines a ∙ sym (no_lines b)) ∙ sym (to_its_end w b 0 h)

-- a text with the first line of one that is not empty is not empty
pub not_empty : (a b : List ℕ) → SameLine a b → b ≡ [] → a ≡ []
not_empty a b same e = no_line a (same ∙ ap (λ u. first_lines u 1) e)

-- ---- places

-- the line of a place within the line that follows whole lines
pub line_place : (text front line rest : List ℕ) (left : ℕ) → text ≡ front ++ (line ++ rest) → left ≡ length rest → LacksMark 10 line → line_at text left ≡ ends_in front + 1
line_place text front line rest left parts place inside =
    let whole : text ≡ (front ++ line) ++ rest = parts ∙ sym (append_assoc front line rest) in
    let n : length text - left ≡ length (front ++ line) = omega (arith, ap length whole, length-append (front ++ line) rest, place) in
    let taken : take (length text - left) text ≡ front ++ line = ap (λ k. take k text) n ∙ ap (take (length (front ++ line))) whole ∙ take_at (front ++ line) rest (length (front ++ line)) refl in
    omega (arith, ap ends_in taken, ends-append front line, no_ends line inside)

-- what has the lines of a text to the end of that line goes on after the whole lines with the same line
pub shared : (front a other : List ℕ) → AreWhole front → first_lines other (ends_in front + 1) ≡ first_lines (front ++ a) (ends_in front + 1) → (b : List ℕ) × (other ≡ front ++ b) × SameLine a b
shared front a other whole same =
    let p = goes_on other (ends_in front + 1) in
    let lines : first_lines other (ends_in front + 1) ≡ front ++ first_lines a 1 = same ∙ whole a 1 in
    let b = first_lines a 1 ++ p.0 in
    let is : other ≡ front ++ b = p.1 ∙ ap (λ u. u ++ p.0) lines ∙ append_assoc front (first_lines a 1) p.0 in
    (b, is, sym (append_cancel_left front (first_lines b 1) (first_lines a 1) (sym (whole b 1) ∙ ap (λ u. first_lines u (ends_in front + 1)) (sym is) ∙ lines)))

-- and what begins with them has the same lines before that one
pub before : (front a b : List ℕ) → AreWhole front → first_lines (front ++ a) (ends_in front) ≡ first_lines (front ++ b) (ends_in front)
before front a b whole =
    let n : ends_in front ≡ ends_in front + 0 = omega arith in
    ap (first_lines (front ++ a)) n ∙ whole a 0 ∙ ap (λ u. front ++ u) (no_lines a ∙ sym (no_lines b)) ∙ sym (whole b 0) ∙ ap (first_lines (front ++ b)) (sym n)

-- ---- the line of a place is one of the text

fewer_ends : (n : ℕ) (text : List ℕ) → ends_in (take n text) ≤ ends_in text
fewer_ends zero text = omega arith
fewer_ends (suc n) [] = omega arith
fewer_ends (suc n) (byte ∷ bytes) = omega (arith, fewer_ends n bytes)

pub is_line : (text : List ℕ) (left line : ℕ) → line ≡ line_at text left → IsLine text line
is_line text left line is = (omega (arith, is), omega (arith, is, fewer_ends (length text - left) text))
