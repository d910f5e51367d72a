-- A text on its way to its first line that is the mark.
use Rattle.std.proofs.Common.{◌≡◌, ◌⊎◌, inl, inr, ℕ, ◌-◌, ◌+◌, List, [], ◌∷◌, ◌++◌, length, take, ap, sym, refl, ◌∙◌, subst, arith, append_assoc, append-nil, length-append, take_at}
use Rattle.std.proofs.Common.{Some, None}
use Rattle.world_model.specs.Names.{IsAmong}
use Rattle.tree_coverage.proofs.Lists.{among_append}
use Rattle.tree_covers.specs.CoverText.{lines_in, mark, IsAtLineStart, IsCutAtMark, IsCut, IsFirstLine}
use Rattle.term_core.proofs.Pieces.{Lacks}
use Rattle.tree_covers.proofs.LineLaws.{lines_join, line_and}

-- no line so far is the mark, and the rest begins a line
pub record IsCutSoFar (text rest : List ℕ) : Type 0 where
  pub before : List ℕ
  pub parts : text ≡ before ++ rest
  pub begins : IsAtLineStart before ⊎ (rest ≡ [])
  pub none : IsAmong mark (lines_in before) → ⊥

pub cut_begins : (text : List ℕ) → IsCutSoFar text text
cut_begins text = record { before = []; parts = refl; begins = inl (inl refl); none = λ h. h }

-- the lines of what begins a line come after those before it
pub lines_behind : (before more : List ℕ) → IsAtLineStart before → lines_in (before ++ more) ≡ lines_in before ++ lines_in more
lines_behind before more (inl none) = ap (λ w. lines_in (w ++ more)) none ∙ sym (ap (λ w. lines_in w ++ lines_in more) none)
lines_behind before more (inr cut) = ap (λ w. lines_in (w ++ more)) cut.1 ∙ lines_join cut.0 more ∙ sym (ap (λ w. lines_in w ++ lines_in more) cut.1)

not_first : (line : List ℕ) → (line ≡ mark → ⊥) → (done : List (List ℕ)) → (IsAmong mark done → ⊥) → IsAmong mark (done ++ line ∷ []) → ⊥
not_first line other done none there = elim (among_append done (line ∷ []) mark there) [
  | inl early ↦ none early
  | inr last ↦ elim last [ inl is ↦ other is | inr nowhere ↦ absurd nowhere ]
]

-- a line with its end, which is not the mark
cut_ended : (text rest line behind : List ℕ) → IsCutSoFar text rest → (rest ≡ [] → ⊥) → rest ≡ line ++ 10 ∷ behind → Lacks 10 line → (line ≡ mark → ⊥) → IsCutSoFar text behind
cut_ended text rest line behind so some parts lacks other = go so.begins
  where
    after : List ℕ
    after = so.before ++ (line ++ 10 ∷ [])

    ended : after ≡ (so.before ++ line) ++ 10 ∷ []
    ended = sym (append_assoc so.before line (10 ∷ []))

    whole : text ≡ after ++ behind
    whole = so.parts ∙ ap (λ w. so.before ++ w) (parts ∙ sym (append_assoc line (10 ∷ []) behind)) ∙ sym (append_assoc so.before (line ++ 10 ∷ []) behind)

    go : IsAtLineStart so.before ⊎ (rest ≡ []) → IsCutSoFar text behind
    go (inr empty) = absurd (some empty)
    go (inl begins) = record {
      before = after;
      parts = whole;
      begins = inl (inr (so.before ++ line, ended));
      none = λ there. not_first line other (lines_in so.before) so.none (subst (IsAmong mark) (lines_behind so.before (line ++ 10 ∷ []) begins ∙ ap (λ ls. lines_in so.before ++ ls) (line_and line [] lacks)) there);
    }

-- the last line, which has none and is not the mark
cut_last : (text rest line behind : List ℕ) → IsCutSoFar text rest → (rest ≡ [] → ⊥) → (rest ≡ line) × (behind ≡ []) → lines_in rest ≡ line ∷ lines_in behind → (line ≡ mark → ⊥) → IsCutSoFar text behind
cut_last text rest line behind so some last lines other = go so.begins
  where
    go : IsAtLineStart so.before ⊎ (rest ≡ []) → IsCutSoFar text behind
    go (inr empty) = absurd (some empty)
    go (inl begins) = record {
      before = so.before ++ rest;
      parts = so.parts ∙ sym (append-nil (so.before ++ rest)) ∙ ap (λ w. (so.before ++ rest) ++ w) (sym last.1);
      begins = inr last.1;
      none = λ there. not_first line other (lines_in so.before) so.none (subst (IsAmong mark) (lines_behind so.before rest begins ∙ ap (λ ls. lines_in so.before ++ ls) (lines ∙ ap (λ w. line ∷ lines_in w) last.1)) there);
    }

-- one line more, which is not the mark
pub cut_goes_on : (text rest line behind : List ℕ) → IsCutSoFar text rest → (rest ≡ [] → ⊥) → IsFirstLine rest line behind → lines_in rest ≡ line ∷ lines_in behind → (line ≡ mark → ⊥) → IsCutSoFar text behind
cut_goes_on text rest line behind so some first lines other = by first.parts
  where
    by : (rest ≡ line ++ 10 ∷ behind) ⊎ ((rest ≡ line) × (behind ≡ [])) → IsCutSoFar text behind
    by (inl parts) = cut_ended text rest line behind so some parts first.is_one other
    by (inr last) = cut_last text rest line behind so some last lines other

-- the next line is the mark
pub cut_here : (text rest line behind : List ℕ) → IsCutSoFar text rest → (rest ≡ [] → ⊥) → IsFirstLine rest line behind → line ≡ mark → IsCut text (take (length text - length rest) text) (Some behind)
cut_here text rest line behind so some first is = go so.begins
  where
    front : take (length text - length rest) text ≡ so.before
    front =
        let long : length text ≡ length so.before + length rest = ap length so.parts ∙ length-append so.before rest in
        let place : length text - length rest ≡ length so.before = omega (arith, long) in
        ap (take (length text - length rest)) so.parts ∙ take_at so.before rest (length text - length rest) (sym place)

    cut : (before : List ℕ) → before ≡ so.before → IsAtLineStart so.before → (rest ≡ line ++ 10 ∷ behind) ⊎ ((rest ≡ line) × (behind ≡ [])) → IsCutAtMark text before behind
    cut before same begins (inl parts) = record {
      parts = inl (so.parts ∙ ap (λ w. so.before ++ w) (parts ∙ ap (λ w. w ++ 10 ∷ behind) is) ∙ ap (λ w. w ++ (mark ++ 10 ∷ behind)) (sym same));
      begins = subst IsAtLineStart (sym same) begins;
      is_first = λ there. so.none (subst (λ (w : List ℕ). IsAmong mark (lines_in w)) same there);
    }
    cut before same begins (inr last) = record {
      parts = inr (so.parts ∙ ap (λ w. so.before ++ w) (last.0 ∙ is) ∙ ap (λ w. w ++ mark) (sym same), last.1);
      begins = subst IsAtLineStart (sym same) begins;
      is_first = λ there. so.none (subst (λ (w : List ℕ). IsAmong mark (lines_in w)) same there);
    }

    go : IsAtLineStart so.before ⊎ (rest ≡ []) → IsCut text (take (length text - length rest) text) (Some behind)
    go (inr empty) = absurd (some empty)
    go (inl begins) = cut (take (length text - length rest) text) front begins first.parts

-- no line is
pub cut_nowhere : (text rest : List ℕ) → IsCutSoFar text rest → rest ≡ [] → IsCut text text None
cut_nowhere text rest so none =
    let all : text ≡ so.before = so.parts ∙ ap (λ w. so.before ++ w) none ∙ append-nil so.before in
    (refl, λ there. so.none (subst (λ (w : List ℕ). IsAmong mark (lines_in w)) all there))
