-- What is read as a list is spelt as one.
use Rattle.std.proofs.Common.{◌≡◌, ℕ, zero, suc, true, false, List, [], ◌∷◌, length, Option, Some, None, Ok, refl, ap, subst}
use Rattle.core_tokens.specs.declared.token.Mark.{Mark}
use Rattle.core_tokens.specs.declared.token.Mark.TheVariants as m
use Rattle.core_tokens.specs.declared.token.Keyword.{Keyword}
use Rattle.core_tokens.specs.Piece.{Piece}
use Rattle.core_grammar.specs.declared.unserved.Unserved.{Unserved}
use Rattle.core_grammar.specs.Grammar.{mark, Commas, spells_one, spells_next, Enclosed, spells_none, spells_some, Row, ends_here, goes_on}
use Rattle.core_grammar.specs.inside.Decoder.{State, Read, with_pieces, after_mark, after_word, more_at, commas_at, items_at, closed_by, closed_at, tail_at, brackets_by, brackets_at, exactly_at, row_by, row_at, rows_at}
use Rattle.core_grammar.proofs.Steps.{ok_is, bind_ok, after_mark_found, Steps, mark_steps, Sound}

-- ---- lists

module _ {left : Option Unserved} {X : Type 0} (item : State → Read X) (Item : List Piece → X → List Piece → Type 0) (each : Sound left item Item) where
  commas_more : (n : ℕ) (o : Option (List Piece)) (s0 s : State) (x : X) (xs : List X) (t : State) → ((s1 : State) (ys : List X) (u : State) → commas_at item n s1 ≡ Ok (ys, u) → u.refused ≡ left → (s1.refused ≡ left) × Commas Item s1.pieces ys u.pieces)
      → item s0 ≡ Ok (x, s) → after_mark m.Comma s.pieces ≡ o → more_at item (commas_at item n) o s ≡ Ok (xs, t) → t.refused ≡ left → (s0.refused ≡ left) × Commas Item s0.pieces (x ∷ xs) t.pieces
  commas_more n None s0 s x xs t again read is e done =
      let same : ([], s) ≡ (xs, t) = ok_is _ _ e in
      subst (λ (y : List X × State). y.1.refused ≡ left → (s0.refused ≡ left) × Commas Item s0.pieces (x ∷ y.0) y.1.pieces) same
      (λ d. let h = each s0 x s read d in (h.0, spells_one h.1)) done
  commas_more n (Some ps) s0 s x xs t again read is e done =
      let h = again (with_pieces s ps) xs t e done in
      let f = after_mark_found m.Comma s.pieces ps is in
      let g = each s0 x s read h.0 in
      let front : Item s0.pieces x (mark f.0 m.Comma ∷ ps) = subst (λ (qs : List Piece). Item s0.pieces x qs) f.1 g.1 in
      (g.0, spells_next front h.1)

  pub commas_sound : (n : ℕ) (s : State) (xs : List X) (t : State) → commas_at item n s ≡ Ok (xs, t) → t.refused ≡ left → (s.refused ≡ left) × Commas Item s.pieces xs t.pieces
  unfolding commas_at
  commas_sound zero s xs t e done = absurd cc
  commas_sound (suc n) s xs t e done =
      let a = bind_ok _ _ _ e in
      let b = bind_ok _ _ _ a.2 in
      let same : (a.0.0 ∷ b.0.0, b.0.1) ≡ (xs, t) = ok_is _ _ b.2 in
      subst (λ (y : List X × State). y.1.refused ≡ left → (s.refused ≡ left) × Commas Item s.pieces y.0 y.1.pieces) same
      (commas_more n (after_mark m.Comma a.0.1.pieces) s a.0.1 a.0.0 b.0.0 b.0.1 (commas_sound n) a.1 refl b.1) done

  pub items_sound : (s : State) (xs : List X) (t : State) → items_at item s ≡ Ok (xs, t) → t.refused ≡ left → (s.refused ≡ left) × Commas Item s.pieces xs t.pieces
  unfolding items_at
  items_sound s xs t e done = commas_sound (length s.pieces) s xs t e done

  enclosed_none : (close : Mark) (ps qs : List Piece) (at : ℕ) → ps ≡ mark at close ∷ qs → Enclosed Item close ps [] qs
  enclosed_none close ps qs at e = rw e spells_none

  enclosed_some : (close : Mark) (ps qs rs : List Piece) (xs : List X) (at : ℕ) → Commas Item ps xs qs → qs ≡ mark at close ∷ rs → Enclosed Item close ps xs rs
  enclosed_some close ps qs rs xs at h e =
      let whole : Commas Item ps xs (mark at close ∷ rs) = subst (λ (us : List Piece). Commas Item ps xs us) e h in
      spells_some whole

  closed_by_sound : (close : Mark) (o : Option (List Piece)) (s : State) (xs : List X) (t : State) → after_mark close s.pieces ≡ o → closed_by item close o s ≡ Ok (xs, t) → t.refused ≡ left → (s.refused ≡ left) × Enclosed Item close s.pieces xs t.pieces
  closed_by_sound close (Some ps) s xs t is e done =
      let f = after_mark_found close s.pieces ps is in
      let same : ([], with_pieces s ps) ≡ (xs, t) = ok_is _ _ e in
      subst (λ (y : List X × State). y.1.refused ≡ left → (s.refused ≡ left) × Enclosed Item close s.pieces y.0 y.1.pieces) same
      (λ d. (d, enclosed_none close s.pieces ps f.0 f.1)) done
  closed_by_sound close None s xs t is e done =
      let a = bind_ok _ _ _ e in
      let b = bind_ok _ _ _ a.2 in
      let same : (a.0.0, b.0) ≡ (xs, t) = ok_is _ _ b.2 in
      let step = mark_steps close a.0.1 b.0 b.1 in
      subst (λ (y : List X × State). y.1.refused ≡ left → (s.refused ≡ left) × Enclosed Item close s.pieces y.0 y.1.pieces) same
      (λ d. let h = items_sound s a.0.0 a.0.1 a.1 (step.back d) in (h.0, enclosed_some close _ _ _ _ step.at h.1 step.pieces)) done

  pub closed_sound : (close : Mark) (s : State) (xs : List X) (t : State) → closed_at item close s ≡ Ok (xs, t) → t.refused ≡ left → (s.refused ≡ left) × Enclosed Item close s.pieces xs t.pieces
  unfolding closed_at
  closed_sound close s xs t e done = closed_by_sound close (after_mark close s.pieces) s xs t refl e done

  -- what follows the bracket of a list
  abbrev pub Bracketed : List Piece → List X × Option X → List Piece → Type 0
  Bracketed ps (xs, None) rest = Enclosed Item m.RightBracket ps xs rest
  Bracketed ps (xs, Some x) rest = (more : List Piece) × (at bt : ℕ) × Commas Item ps xs (mark at m.Bar ∷ more) × Item more x (mark bt m.RightBracket ∷ rest)

  tail_sound : (o : Option (List Piece)) (s0 s : State) (xs : List X) (b : List X × Option X) (t : State) → items_at item s0 ≡ Ok (xs, s) → after_mark m.Bar s.pieces ≡ o → tail_at item xs o s ≡ Ok (b, t) → t.refused ≡ left → (s0.refused ≡ left) × Bracketed s0.pieces b t.pieces
  tail_sound None s0 s xs b t read is e done =
      let a = bind_ok _ _ _ e in
      let same : ((xs, None), a.0) ≡ (b, t) = ok_is _ _ a.2 in
      let step = mark_steps m.RightBracket s a.0 a.1 in
      subst (λ (y : (List X × Option X) × State). y.1.refused ≡ left → (s0.refused ≡ left) × Bracketed s0.pieces y.0 y.1.pieces) same
      (λ d. let h = items_sound s0 xs s read (step.back d) in (h.0, enclosed_some m.RightBracket _ _ _ _ step.at h.1 step.pieces)) done
  tail_sound (Some ps) s0 s xs b t read is e done =
      let f = after_mark_found m.Bar s.pieces ps is in
      let a = bind_ok _ _ _ e in
      let c = bind_ok _ _ _ a.2 in
      let same : ((xs, Some a.0.0), c.0) ≡ (b, t) = ok_is _ _ c.2 in
      let step = mark_steps m.RightBracket a.0.1 c.0 c.1 in
      subst (λ (y : (List X × Option X) × State). y.1.refused ≡ left → (s0.refused ≡ left) × Bracketed s0.pieces y.0 y.1.pieces) same
      (λ d.
      let g = each (with_pieces s ps) a.0.0 a.0.1 a.1 (step.back d) in
      let h = items_sound s0 xs s read g.0 in
      let front : Commas Item s0.pieces xs (mark f.0 m.Bar ∷ ps) = subst (λ (us : List Piece). Commas Item s0.pieces xs us) f.1 h.1 in
      let back : Item ps a.0.0 (mark step.at m.RightBracket ∷ c.0.pieces) = subst (λ (us : List Piece). Item ps a.0.0 us) step.pieces g.1 in
      (h.0, (ps, f.0, step.at, front, back))) done

  brackets_by_sound : (o : Option (List Piece)) (s : State) (b : List X × Option X) (t : State) → after_mark m.RightBracket s.pieces ≡ o → brackets_by item o s ≡ Ok (b, t) → t.refused ≡ left → (s.refused ≡ left) × Bracketed s.pieces b t.pieces
  brackets_by_sound (Some ps) s b t is e done =
      let f = after_mark_found m.RightBracket s.pieces ps is in
      let same : (([], None), with_pieces s ps) ≡ (b, t) = ok_is _ _ e in
      subst (λ (y : (List X × Option X) × State). y.1.refused ≡ left → (s.refused ≡ left) × Bracketed s.pieces y.0 y.1.pieces) same
      (λ d. (d, enclosed_none m.RightBracket s.pieces ps f.0 f.1)) done
  brackets_by_sound None s b t is e done =
      let a = bind_ok _ _ _ e in
      tail_sound (after_mark m.Bar a.0.1.pieces) s a.0.1 a.0.0 b t a.1 refl a.2 done

  pub brackets_sound : (s : State) (b : List X × Option X) (t : State) → brackets_at item s ≡ Ok (b, t) → t.refused ≡ left → (s.refused ≡ left) × Bracketed s.pieces b t.pieces
  unfolding brackets_at
  brackets_sound s b t e done = brackets_by_sound (after_mark m.RightBracket s.pieces) s b t refl e done

  -- ---- exactly so many items

  -- a comma, an item, and so on
  data Behind : List Piece → List X → List Piece → Type 0 where
    none_behind : {ps : List Piece} → Behind ps [] ps
    one_behind : {ps more rest : List Piece} {at : ℕ} {x : X} {xs : List X} → Item ps x more → Behind more xs rest → Behind (mark at m.Comma ∷ ps) (x ∷ xs) rest

  behind_form : (at : ℕ) (ps p1 p2 rest : List Piece) (x : X) (xs : List X) → ps ≡ mark at m.Comma ∷ p1 → Item p1 x p2 → Behind p2 xs rest → Behind ps (x ∷ xs) rest
  behind_form at ps p1 p2 rest x xs e h g = rw e (one_behind h g)

  others_sound : (n : ℕ) (s : State) (xs : List X) (t : State) → exactly_at item false n s ≡ Ok (xs, t) → t.refused ≡ left → (s.refused ≡ left) × Behind s.pieces xs t.pieces × (length xs ≡ n)
  unfolding exactly_at
  others_sound zero s xs t e done =
      let same : ([], s) ≡ (xs, t) = ok_is _ _ e in
      subst (λ (y : List X × State). y.1.refused ≡ left → (s.refused ≡ left) × Behind s.pieces y.0 y.1.pieces × (length y.0 ≡ 0)) same (λ d. (d, none_behind, refl)) done
  others_sound (suc n) s xs t e done =
      let a = bind_ok _ _ _ e in
      let c = bind_ok _ _ _ a.1 in
      let b = bind_ok _ _ _ a.2 in
      let same : (a.0.0 ∷ b.0.0, b.0.1) ≡ (xs, t) = ok_is _ _ b.2 in
      let step = mark_steps m.Comma s c.0 c.1 in
      subst (λ (y : List X × State). y.1.refused ≡ left → (s.refused ≡ left) × Behind s.pieces y.0 y.1.pieces × (length y.0 ≡ suc n)) same
      (λ d.
      let h = others_sound n a.0.1 b.0.0 b.0.1 b.1 d in
      let g = each c.0 a.0.0 a.0.1 c.2 h.0 in
      (step.back g.0, behind_form step.at s.pieces c.0.pieces a.0.1.pieces b.0.1.pieces a.0.0 b.0.0 step.pieces g.1 h.1, ap suc h.2)) done

  commas_of : (ps mid rest : List Piece) (x : X) (xs : List X) → Item ps x mid → Behind mid xs rest → Commas Item ps (x ∷ xs) rest
  commas_of ps mid rest x [] h none_behind = spells_one h
  commas_of ps mid rest x (y ∷ ys) h (one_behind {more = more} g b) = spells_next h (commas_of _ more rest y ys g b)

  exactly_form : (close : Mark) (at : ℕ) (ps p1 p2 rest : List Piece) (x : X) (xs : List X) → Item ps x p1 → Behind p1 xs p2 → p2 ≡ mark at close ∷ rest → Enclosed Item close ps (x ∷ xs) rest
  exactly_form close at ps p1 p2 rest x xs h b e =
      let all : Commas Item ps (x ∷ xs) p2 = commas_of ps p1 p2 x xs h b in
      let whole : Commas Item ps (x ∷ xs) (mark at close ∷ rest) = subst (λ (qs : List Piece). Commas Item ps (x ∷ xs) qs) e all in
      spells_some whole

  -- exactly so many items and the closing mark
  pub exactly_sound : (close : Mark) (n : ℕ) (s : State) (xs : List X) (t u : State) → exactly_at item true n s ≡ Ok (xs, t) → Steps (λ at. mark at close) t u → u.refused ≡ left → (s.refused ≡ left) × Enclosed Item close s.pieces xs u.pieces × (length xs ≡ n)
  unfolding exactly_at
  exactly_sound close zero s xs t u e ends done =
      let same : ([], s) ≡ (xs, t) = ok_is _ _ e in
      subst (λ (y : List X × State). Steps (λ at. mark at close) y.1 u → (s.refused ≡ left) × Enclosed Item close s.pieces y.0 u.pieces × (length y.0 ≡ 0)) same
      (λ step. (step.back done, enclosed_none close s.pieces u.pieces step.at step.pieces, refl)) ends
  exactly_sound close (suc n) s xs t u e ends done =
      let a = bind_ok _ _ _ e in
      let b = bind_ok _ _ _ a.2 in
      let same : (a.0.0 ∷ b.0.0, b.0.1) ≡ (xs, t) = ok_is _ _ b.2 in
      subst (λ (y : List X × State). Steps (λ at. mark at close) y.1 u → (s.refused ≡ left) × Enclosed Item close s.pieces y.0 u.pieces × (length y.0 ≡ suc n)) same
      (λ step.
      let h = others_sound n a.0.1 b.0.0 b.0.1 b.1 (step.back done) in
      let g = each s a.0.0 a.0.1 a.1 h.0 in
      (g.0, exactly_form close step.at s.pieces a.0.1.pieces b.0.1.pieces u.pieces a.0.0 b.0.0 g.1 h.1 step.pieces, ap suc h.2)) ends

  -- ---- items one after the other

  row_by_sound : (close : Keyword) (n : ℕ) (o : Option (List Piece)) (s : State) (xs : List X) (t : State)
      → ((s1 : State) (ys : List X) (u : State) → row_at item close n s1 ≡ Ok (ys, u) → u.refused ≡ left → (s1.refused ≡ left) × Row Item s1.pieces ys u.pieces)
      → row_by item (row_at item close n) o s ≡ Ok (xs, t) → t.refused ≡ left → (s.refused ≡ left) × Row Item s.pieces xs t.pieces
  row_by_sound close n (Some ps) s xs t again e done =
      let same : ([], s) ≡ (xs, t) = ok_is _ _ e in
      subst (λ (y : List X × State). y.1.refused ≡ left → (s.refused ≡ left) × Row Item s.pieces y.0 y.1.pieces) same (λ d. (d, ends_here)) done
  row_by_sound close n None s xs t again e done =
      let a = bind_ok _ _ _ e in
      let b = bind_ok _ _ _ a.2 in
      let same : (a.0.0 ∷ b.0.0, b.0.1) ≡ (xs, t) = ok_is _ _ b.2 in
      subst (λ (y : List X × State). y.1.refused ≡ left → (s.refused ≡ left) × Row Item s.pieces y.0 y.1.pieces) same
      (λ d.
      let h = again a.0.1 b.0.0 b.0.1 b.1 d in
      let g = each s a.0.0 a.0.1 a.1 h.0 in
      (g.0, goes_on g.1 h.1)) done

  row_sound : (close : Keyword) (n : ℕ) (s : State) (xs : List X) (t : State) → row_at item close n s ≡ Ok (xs, t) → t.refused ≡ left → (s.refused ≡ left) × Row Item s.pieces xs t.pieces
  unfolding row_at
  row_sound close zero s xs t e done = absurd cc
  row_sound close (suc n) s xs t e done = row_by_sound close n (after_word close s.pieces) s xs t (row_sound close n) e done

  pub rows_sound : (close : Keyword) (s : State) (xs : List X) (t : State) → rows_at item close s ≡ Ok (xs, t) → t.refused ≡ left → (s.refused ≡ left) × Row Item s.pieces xs t.pieces
  unfolding rows_at
  rows_sound close s xs t e done = row_sound close (length s.pieces) s xs t e done
