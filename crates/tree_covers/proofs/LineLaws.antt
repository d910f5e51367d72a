-- The lines of a text, and how its first one is cut off.
use Rattle.std.proofs.Common.{◌≡◌, ◌==◌, inl, inr, ℕ, Bool, true, false, List, [], ◌∷◌, ◌++◌, length, cond, ap, sym, refl, ◌∙◌, subst, arith, append-nil, eqb-true, one-add}
use Rattle.term_core.proofs.Pieces.{Lacks, Begins, front, behind, front-append-behind, behind_begins}
use Rattle.term_core.proofs.Pieces as Pieces
use Rattle.tree_covers.specs.CoverText.{with_byte, lines_in, HasNoEnd, IsFirstLine}

-- no byte before the first mark is the mark
lacks_or : (test : Bool) (mark x : ℕ) (xs : List ℕ) → (x == mark) ≡ test → Lacks mark (front mark xs) → Lacks mark (front mark (x ∷ xs))
lacks_or true mark x xs e h = rw e tt
lacks_or false mark x xs e h = rw (e, one-add) (e, h)

pub lacks_front : (mark : ℕ) (bytes : List ℕ) → Lacks mark (front mark bytes)
lacks_front mark [] = tt
lacks_front mark (x ∷ xs) = lacks_or (x == mark) mark x xs refl (lacks_front mark xs)

-- a line with its end, and then others
pub line_and : (a b : List ℕ) → Lacks 10 a → lines_in (a ++ 10 ∷ b) ≡ a ∷ lines_in b
line_and [] b l = refl
line_and (x ∷ a) b l =
    ap (λ (t : Bool). cond t ([] ∷ lines_in (a ++ 10 ∷ b)) (with_byte x (lines_in (a ++ 10 ∷ b)))) l.0 ∙ ap (with_byte x) (line_and a b l.1)

-- a last line without its end
pub line_alone : (x : ℕ) (a : List ℕ) → Lacks 10 (x ∷ a) → lines_in (x ∷ a) ≡ (x ∷ a) ∷ []
line_alone x [] l = ap (λ (t : Bool). cond t ([] ∷ []) (with_byte x [])) l.0
line_alone x (y ∷ a) l =
    ap (λ (t : Bool). cond t ([] ∷ lines_in (y ∷ a)) (with_byte x (lines_in (y ∷ a)))) l.0 ∙ ap (with_byte x) (line_alone y a l.1)

-- what the cut at the first end gives
pub cut_at_end : (text next : List ℕ) (b : ℕ) → behind 10 text ≡ b ∷ next → text ≡ front 10 text ++ 10 ∷ next
cut_at_end text next b e =
    let mark : b ≡ 10 = eqb-true b 10 (subst (Begins 10) e (behind_begins 10 text)) in
    sym (front-append-behind 10 text) ∙ ap (λ w. front 10 text ++ w) (e ∙ ap (λ c. c ∷ next) mark)

pub lines_at_end : (text next : List ℕ) (b : ℕ) → behind 10 text ≡ b ∷ next → lines_in text ≡ front 10 text ∷ lines_in next
lines_at_end text next b e = ap lines_in (cut_at_end text next b e) ∙ line_and (front 10 text) next (lacks_front 10 text)

pub whole_front : (text : List ℕ) → behind 10 text ≡ [] → text ≡ front 10 text
whole_front text e = sym (front-append-behind 10 text) ∙ ap (λ w. front 10 text ++ w) e ∙ append-nil (front 10 text)

pub lines_alone : (text : List ℕ) → (text ≡ [] → ⊥) → behind 10 text ≡ [] → lines_in text ≡ front 10 text ∷ []
lines_alone text some e = go (front 10 text) (whole_front text e) (lacks_front 10 text)
  where
    go : (line : List ℕ) → text ≡ line → Lacks 10 line → lines_in text ≡ line ∷ []
    go [] is lacks = absurd (some is)
    go (x ∷ a) is lacks = ap lines_in is ∙ line_alone x a lacks

-- ---- texts one after another

some_line : (byte : ℕ) (lines : List (List ℕ)) → with_byte byte lines ≡ [] → ⊥
some_line byte [] e = absurd cc
some_line byte (line ∷ lines) e = absurd cc

with_byte_first : (byte : ℕ) (lines more : List (List ℕ)) → (lines ≡ [] → ⊥) → with_byte byte (lines ++ more) ≡ with_byte byte lines ++ more
with_byte_first byte [] more some = absurd (some refl)
with_byte_first byte (line ∷ lines) more some = refl

has_line : (front : List ℕ) → lines_in (front ++ 10 ∷ []) ≡ [] → ⊥
has_line [] e = absurd cc
has_line (x ∷ front) e = go (x == 10) e
  where
    go : (t : Bool) → cond t ([] ∷ lines_in (front ++ 10 ∷ [])) (with_byte x (lines_in (front ++ 10 ∷ []))) ≡ [] → ⊥
    go true q = absurd cc
    go false q = some_line x (lines_in (front ++ 10 ∷ [])) q

join_by : (x : ℕ) (front more : List ℕ) (t : Bool) → lines_in ((front ++ 10 ∷ []) ++ more) ≡ lines_in (front ++ 10 ∷ []) ++ lines_in more → cond t ([] ∷ lines_in ((front ++ 10 ∷ []) ++ more)) (with_byte x (lines_in ((front ++ 10 ∷ []) ++ more))) ≡ cond t ([] ∷ lines_in (front ++ 10 ∷ [])) (with_byte x (lines_in (front ++ 10 ∷ []))) ++ lines_in more
join_by x front more true same = ap (λ ls. [] ∷ ls) same
join_by x front more false same = ap (with_byte x) same ∙ with_byte_first x (lines_in (front ++ 10 ∷ [])) (lines_in more) (has_line front)

-- after a line end begins another line
pub lines_join : (front more : List ℕ) → lines_in ((front ++ 10 ∷ []) ++ more) ≡ lines_in (front ++ 10 ∷ []) ++ lines_in more
lines_join [] more = refl
lines_join (x ∷ front) more = join_by x front more (x == 10) (lines_join front more)

-- ---- a text that was split before its first line end

pub first_ended : (text line rest behind : List ℕ) (b : ℕ) → line ≡ front 10 text → rest ≡ Pieces.behind 10 text → rest ≡ b ∷ behind → IsFirstLine text line behind
first_ended text line rest behind b is back cut = record {
  parts = inl (cut_at_end text behind b (sym back ∙ cut) ∙ ap (λ w. w ++ 10 ∷ behind) (sym is));
  is_one = subst HasNoEnd (sym is) (lacks_front 10 text);
}

pub lines_ended : (text line rest behind : List ℕ) (b : ℕ) → line ≡ front 10 text → rest ≡ Pieces.behind 10 text → rest ≡ b ∷ behind → lines_in text ≡ line ∷ lines_in behind
lines_ended text line rest behind b is back cut = lines_at_end text behind b (sym back ∙ cut) ∙ ap (λ l. l ∷ lines_in behind) (sym is)

no_byte : (bytes : List ℕ) → length bytes ≡ 0 → bytes ≡ []
no_byte [] e = refl
no_byte (x ∷ xs) e = absurd (omega arith)

pub first_alone : (text line rest : List ℕ) → line ≡ front 10 text → rest ≡ Pieces.behind 10 text → length rest ≡ 0 → IsFirstLine text line rest
first_alone text line rest is back none = record {
  parts = inr (whole_front text (sym back ∙ no_byte rest none) ∙ sym is, no_byte rest none);
  is_one = subst HasNoEnd (sym is) (lacks_front 10 text);
}

pub lines_first_alone : (text line rest : List ℕ) → (text ≡ [] → ⊥) → line ≡ front 10 text → rest ≡ Pieces.behind 10 text → length rest ≡ 0 → lines_in text ≡ line ∷ lines_in rest
lines_first_alone text line rest some is back none =
    lines_alone text some (sym back ∙ no_byte rest none) ∙ ap (λ l. l ∷ []) (sym is) ∙ ap (λ w. line ∷ lines_in w) (sym (no_byte rest none))
