-- What is spelt or read as a constant, a name, a pattern or a list has no comma outside of its brackets, and closes each of them.
use Rattle.std.proofs.Common.{◌≡◌, ℕ, zero, suc, Bool, true, false, cond, List, [], ◌∷◌, length, Option, Some, None, Ok, refl, sym, ap, ◌∙◌, subst}
use Rattle.core_tokens.specs.declared.token.Mark.{Mark}
use Rattle.core_tokens.specs.declared.token.Mark.TheVariants as m
use Rattle.core_tokens.specs.declared.token.Keyword.{Keyword}
use Rattle.core_tokens.specs.Piece.{Piece, Shape}
use Rattle.core_tokens.specs.Piece as lexemes
use Rattle.core_tree.specs.Syntax.{Constant, Pattern}
use Rattle.core_grammar.specs.declared.unserved.Unserved.{Unserved}
use Rattle.core_grammar.specs.Grammar.{mark, Commas, spells_one, spells_next, Enclosed, spells_none, spells_some, Note, is_note, InNote, in_note, stands_bare, stands_noted, Noted, ConstantForm, is_integer, is_character, is_text, is_atom, is_tuple, is_list, is_join, is_noted, ConstantIn, BareName, names_function, FunctionName, BareAtom, is_the_atom, AtomIn, BareVariable, names_variable, Variable, BareVariables, one_variable, variables_in_angles, Variables, BareCaught, catches_two, catches_three, CaughtVariables, PatternForm, matches_integer, matches_character, matches_text, matches_atom, matches_any, matches_tuple, matches_list, matches_join, matches_noted, PatternOrAlias, no_alias, is_alias, PatternIn}
use Rattle.core_grammar.specs.Arguments.{TurnsOut, turn, commas, arguments_by, arguments}
use Rattle.core_grammar.specs.inside.Decoder.{State, Read, with_pieces, is_mark, after_mark, after_word, constant_at, in_note_at, variables_at, caught_at, pattern_at, comma_at, more_at, commas_at, items_at, closed_by, closed_at, tail_at, brackets_by, brackets_at, exactly_at, row_by, row_at, rows_at}
use Rattle.core_grammar.specs.inside.DecoderForms.{callee_at, applied_at}
use Rattle.core_grammar.proofs.Steps.{done, ok_is, bind_ok, after_mark_found, Steps, mark_steps, Sound}
use Rattle.core_grammar.proofs.SoundNames.{note_sound, constant_sound, variables_sound, caught_sound}
use Rattle.core_grammar.proofs.SoundPatterns.{pattern_sound}
use Rattle.core_grammar.proofs.SoundForms.{callee_sound, applied_sound}

-- ---- what is spelt

-- what spells an item has no comma outside of its brackets, and closes each of them
abbrev pub Level : {X : Type 0} → (List Piece → X → List Piece → Type 0) → Type 0
Level {X = X} Item = (ps : List Piece) (x : X) (rest : List Piece) → Item ps x rest → (d : ℕ) → commas d ps ≡ commas d rest

pub closes : (close : Mark) → turn (lexemes.Mark close) ≡ TurnsOut → (at : ℕ) (ps : List Piece) (d : ℕ) → commas (suc d) (mark at close ∷ ps) ≡ commas d ps
closes close is at ps d = rw is refl

module _ {X : Type 0} (Item : List Piece → X → List Piece → Type 0) (level : Level Item) where
  commas_level : (ps : List Piece) (xs : List X) (rest : List Piece) → Commas Item ps xs rest → (d : ℕ) → commas (suc d) ps ≡ commas (suc d) rest
  commas_level ps xs rest (spells_one {x = x} h) d = level ps x rest h (suc d)
  commas_level ps xs rest (spells_next {more = more} {at = at} {x = x} {xs = ys} h g) d = level ps x (mark at m.Comma ∷ more) h (suc d) ∙ commas_level more ys rest g d

  enclosed_level : (close : Mark) → turn (lexemes.Mark close) ≡ TurnsOut → (ps : List Piece) (xs : List X) (rest : List Piece) → Enclosed Item close ps xs rest → (d : ℕ) → commas (suc d) ps ≡ commas d rest
  enclosed_level close is ps xs rest (spells_none {at = at}) d = closes close is at rest d
  enclosed_level close is ps xs rest (spells_some {at = at} h) d = commas_level ps xs (mark at close ∷ rest) h d ∙ closes close is at rest d

module _ (Item : List Piece → Constant → List Piece → Type 0) (level : Level Item) where
  note_level : (ps rest : List Piece) → Note Item ps rest → (d : ℕ) → commas (suc d) ps ≡ commas d rest
  note_level ps rest (is_note {ps = qs} {ct = ct} {cs = cs} h) d = enclosed_level Item level m.RightBracket refl qs cs (mark ct m.RightParenthesis ∷ rest) h (suc d)

  in_note_level : {X : Type 0} (Inner : List Piece → X → List Piece → Type 0) → Level Inner → Level (InNote Inner Item)
  in_note_level Inner inner ps x rest (in_note {ps = qs} {more = more} h g) d = inner qs x more h (suc d) ∙ note_level more rest g d

  constant_form_level : Level (ConstantForm Item)
  constant_form_level ps c rest is_integer d = refl
  constant_form_level ps c rest is_character d = refl
  constant_form_level ps c rest is_text d = refl
  constant_form_level ps c rest is_atom d = refl
  constant_form_level ps c rest (is_tuple {ps = qs} {cs = cs} h) d = enclosed_level Item level m.RightBrace refl qs cs rest h d
  constant_form_level ps c rest (is_list {ps = qs} {cs = cs} h) d = enclosed_level Item level m.RightBracket refl qs cs rest h d
  constant_form_level ps c rest (is_join {ps = qs} {more = more} {bt = bt} {ct = ct} {cs = cs} {c = last} h g) d = commas_level Item level qs cs (mark bt m.Bar ∷ more) h d ∙ level more last (mark ct m.RightBracket ∷ rest) g (suc d)
  constant_form_level ps c rest (is_noted h) d = in_note_level Item level ps c rest h d

constant_level : (n : ℕ) → Level (ConstantIn n)
constant_level zero ps c rest h d = absurd h
constant_level (suc n) ps c rest h d = constant_form_level (ConstantIn n) (constant_level n) ps c rest h d

noted_level : {X : Type 0} (Bare : ℕ → List Piece → X → List Piece → Type 0) → ((n : ℕ) → Level (Bare n)) → (n : ℕ) → Level (Noted Bare n)
noted_level Bare each n ps x rest (stands_bare h) d = each n ps x rest h d
noted_level Bare each zero ps x rest (stands_noted h) d = absurd h
noted_level Bare each (suc n) ps x rest (stands_noted h) d = in_note_level (ConstantIn n) (constant_level n) (Noted Bare n) (noted_level Bare each n) ps x rest h d

bare_name_level : Level BareName
bare_name_level ps x rest (names_function h) d = refl

bare_atom_level : Level BareAtom
bare_atom_level ps x rest is_the_atom d = refl

bare_variable_level : Level BareVariable
bare_variable_level ps x rest names_variable d = refl

variable_level : (n : ℕ) → Level (Variable n)
variable_level n ps x rest h d = noted_level (λ _. BareVariable) (λ _. bare_variable_level) n ps x rest h d

bare_variables_level : (n : ℕ) → Level (BareVariables (Variable n))
bare_variables_level n ps vs rest (one_variable {v = v} h) d = bare_variable_level ps v rest h d
bare_variables_level n ps vs rest (variables_in_angles {ps = qs} h) d = enclosed_level (Variable n) (variable_level n) m.Greater refl qs vs rest h d

bare_caught_level : (n : ℕ) → Level (BareCaught (Variable n))
bare_caught_level n ps vs rest (catches_two {ps = qs} {p1 = p1} {bt = bt} {ct = ct} {u = u} {v = v} h g) d =
    variable_level n qs u (mark bt m.Comma ∷ p1) h (suc d) ∙ variable_level n p1 v (mark ct m.Greater ∷ rest) g (suc d)
bare_caught_level n ps vs rest (catches_three {ps = qs} {p1 = p1} {p2 = p2} {bt = bt} {ct = ct} {dt = dt} {u = u} {v = v} {w = w} h g i) d =
    variable_level n qs u (mark bt m.Comma ∷ p1) h (suc d) ∙ variable_level n p1 v (mark ct m.Comma ∷ p2) g (suc d) ∙ variable_level n p2 w (mark dt m.Greater ∷ rest) i (suc d)

module _ (n : ℕ) (Item : List Piece → Pattern → List Piece → Type 0) (level : Level Item) where
  pattern_form_level : Level (PatternForm Item (ConstantIn n))
  pattern_form_level ps q rest matches_integer d = refl
  pattern_form_level ps q rest matches_character d = refl
  pattern_form_level ps q rest matches_text d = refl
  pattern_form_level ps q rest matches_atom d = refl
  pattern_form_level ps q rest matches_any d = refl
  pattern_form_level ps q rest (matches_tuple {ps = us} {qs = qs} h) d = enclosed_level Item level m.RightBrace refl us qs rest h d
  pattern_form_level ps q rest (matches_list {ps = us} {qs = qs} h) d = enclosed_level Item level m.RightBracket refl us qs rest h d
  pattern_form_level ps q rest (matches_join {ps = us} {more = more} {bt = bt} {ct = ct} {qs = qs} {q = last} h g) d = commas_level Item level us qs (mark bt m.Bar ∷ more) h d ∙ level more last (mark ct m.RightBracket ∷ rest) g (suc d)
  pattern_form_level ps q rest (matches_noted h) d = in_note_level (ConstantIn n) (constant_level n) Item level ps q rest h d

  aliased_level : Level (PatternOrAlias (PatternForm Item (ConstantIn n)) Item)
  aliased_level ps q rest (no_alias h alone) d = pattern_form_level ps q rest h d
  aliased_level ps q rest (is_alias {more = more} {at = at} {v = v} {q = p} h g) d = pattern_form_level ps _ (mark at m.Equals ∷ more) h d ∙ level more p rest g d

pattern_level : (n : ℕ) → Level (PatternIn n)
pattern_level zero ps q rest h d = absurd h
pattern_level (suc n) ps q rest h d = aliased_level n (PatternIn n) (pattern_level n) ps q rest h d

-- ---- what is read

-- what is read as an item has no comma outside of its brackets, and closes each of them
abbrev pub Walks : {X : Type 0} → (State → Read X) → Type 0
Walks {X = X} item = (s : State) (x : X) (t : State) → item s ≡ Ok (x, t) → (d : ℕ) → commas d s.pieces ≡ commas d t.pieces

-- the same of what is read after an opening bracket, its closing bracket included
abbrev pub WalksOut : {X : Type 0} → (State → Read X) → Type 0
WalksOut {X = X} item = (s : State) (x : X) (t : State) → item s ≡ Ok (x, t) → (d : ℕ) → commas (suc d) s.pieces ≡ commas d t.pieces

pub stepped : {of : ℕ → Piece} {s t : State} → (h : Steps of s t) (d : ℕ) → commas d s.pieces ≡ commas d (of h.at ∷ t.pieces)
stepped h d = ap (commas d) h.pieces

pub ends : {X : Type 0} (x y : X) (s t : State) → done {A = X × State} (x, s) ≡ Ok (y, t) → (d : ℕ) → commas d s.pieces ≡ commas d t.pieces
ends {X = X} x y s t e d = ap (λ (r : X × State). commas d r.1.pieces) (ok_is (x, s) (y, t) e)

sound_walks : {X : Type 0} (item : State → Read X) (Item : List Piece → X → List Piece → Type 0) → ((left : Option Unserved) → Sound left item Item) → Level Item → Walks item
sound_walks item Item sound level s x t e d = level s.pieces x t.pieces (sound t.refused s x t e refl).1 d

pub variables_walk : (n : ℕ) → Walks (variables_at n)
variables_walk n = sound_walks (variables_at n) (Variables n) (λ left. variables_sound {left = left} n) (noted_level (λ l. BareVariables (Variable l)) bare_variables_level n)

pub caught_walks : (n : ℕ) → Walks (caught_at n)
caught_walks n = sound_walks (caught_at n) (CaughtVariables n) (λ left. caught_sound {left = left} n) (noted_level (λ l. BareCaught (Variable l)) bare_caught_level n)

pub pattern_walks : (n : ℕ) → Walks (pattern_at n)
pattern_walks n = sound_walks (pattern_at n) (PatternIn n) (λ left. pattern_sound {left = left} n) (pattern_level n)

pub applied_walks : (n : ℕ) → Walks (applied_at n)
applied_walks n = sound_walks (applied_at n) (FunctionName n) (λ left. applied_sound {left = left} n) (noted_level (λ _. BareName) (λ _. bare_name_level) n)

pub callee_walks : (at n : ℕ) → Walks (callee_at at n)
callee_walks at n = sound_walks (callee_at at n) (AtomIn n) (λ left. callee_sound {left = left} at n) (noted_level (λ _. BareAtom) (λ _. bare_atom_level) n)

pub in_note_walks : {X : Type 0} (n : ℕ) (item : State → Read X) → Walks item → WalksOut (in_note_at (constant_at n) item)
unfolding in_note_at
in_note_walks n item walks s x t e d =
    let a = bind_ok _ _ _ e in
    let b = bind_ok _ _ _ a.2 in
    let note = note_sound {left = b.0.refused} (constant_at n) (ConstantIn n) (constant_sound n) a.0.1 b.0 b.1 refl in
    walks s a.0.0 a.0.1 a.1 (suc d) ∙ note_level (ConstantIn n) (constant_level n) a.0.1.pieces b.0.pieces note.1 d ∙ ends _ _ _ _ b.2 d

-- ---- lists

some_arguments_by : (shape : Shape) (ps : List Piece) (n : ℕ) → cond (is_mark m.RightParenthesis shape) (Some ps) None ≡ None → arguments_by shape n ≡ suc n
some_arguments_by (lexemes.Mark m.RightParenthesis) ps n e = absurd cc
some_arguments_by shape ps n e = refl

module _ {X : Type 0} (item : State → Read X) (walks : Walks item) where
  more_walks : (n : ℕ) (o : Option (List Piece)) (s : State) (xs : List X) (t : State) → ((s1 : State) (ys : List X) (u : State) → commas_at item n s1 ≡ Ok (ys, u) → (d : ℕ) → commas (suc d) s1.pieces ≡ commas (suc d) u.pieces)
      → after_mark m.Comma s.pieces ≡ o → more_at item (commas_at item n) o s ≡ Ok (xs, t) → (d : ℕ) → commas (suc d) s.pieces ≡ commas (suc d) t.pieces
  more_walks n None s xs t again is e d = ends _ _ _ _ e (suc d)
  more_walks n (Some ps) s xs t again is e d = let f = after_mark_found m.Comma s.pieces ps is in ap (commas (suc d)) f.1 ∙ again (with_pieces s ps) xs t e d

  commas_walk : (n : ℕ) (s : State) (xs : List X) (t : State) → commas_at item n s ≡ Ok (xs, t) → (d : ℕ) → commas (suc d) s.pieces ≡ commas (suc d) t.pieces
  unfolding commas_at
  commas_walk zero s xs t e d = absurd cc
  commas_walk (suc n) s xs t e d =
      let a = bind_ok _ _ _ e in
      let b = bind_ok _ _ _ a.2 in
      walks s a.0.0 a.0.1 a.1 (suc d) ∙ more_walks n (after_mark m.Comma a.0.1.pieces) a.0.1 b.0.0 b.0.1 (commas_walk n) refl b.1 d ∙ ends _ _ _ _ b.2 (suc d)

  items_walk : (s : State) (xs : List X) (t : State) → items_at item s ≡ Ok (xs, t) → (d : ℕ) → commas (suc d) s.pieces ≡ commas (suc d) t.pieces
  unfolding items_at
  items_walk s xs t e d = commas_walk (length s.pieces) s xs t e d

  closed_by_walks : (close : Mark) → turn (lexemes.Mark close) ≡ TurnsOut → (o : Option (List Piece)) (s : State) (xs : List X) (t : State) → after_mark close s.pieces ≡ o → closed_by item close o s ≡ Ok (xs, t) → (d : ℕ) → commas (suc d) s.pieces ≡ commas d t.pieces
  closed_by_walks close out (Some ps) s xs t is e d = let f = after_mark_found close s.pieces ps is in ap (commas (suc d)) f.1 ∙ closes close out f.0 ps d ∙ ends _ _ _ _ e d
  closed_by_walks close out None s xs t is e d =
      let a = bind_ok _ _ _ e in
      let b = bind_ok _ _ _ a.2 in
      let step = mark_steps close a.0.1 b.0 b.1 in
      items_walk s a.0.0 a.0.1 a.1 d ∙ stepped step (suc d) ∙ closes close out step.at b.0.pieces d ∙ ends _ _ _ _ b.2 d

  pub closed_walks : (close : Mark) → turn (lexemes.Mark close) ≡ TurnsOut → WalksOut (closed_at item close)
  unfolding closed_at
  closed_walks close out s xs t e d = closed_by_walks close out (after_mark close s.pieces) s xs t refl e d

  tail_walks : (o : Option (List Piece)) (xs : List X) (s : State) (b : List X × Option X) (t : State) → after_mark m.Bar s.pieces ≡ o → tail_at item xs o s ≡ Ok (b, t) → (d : ℕ) → commas (suc d) s.pieces ≡ commas d t.pieces
  tail_walks None xs s b t is e d =
      let a = bind_ok _ _ _ e in
      stepped (mark_steps m.RightBracket s a.0 a.1) (suc d) ∙ ends _ _ _ _ a.2 d
  tail_walks (Some ps) xs s b t is e d =
      let f = after_mark_found m.Bar s.pieces ps is in
      let a = bind_ok _ _ _ e in
      let c = bind_ok _ _ _ a.2 in
      ap (commas (suc d)) f.1 ∙ walks (with_pieces s ps) a.0.0 a.0.1 a.1 (suc d) ∙ stepped (mark_steps m.RightBracket a.0.1 c.0 c.1) (suc d) ∙ ends _ _ _ _ c.2 d

  brackets_by_walk : (o : Option (List Piece)) (s : State) (b : List X × Option X) (t : State) → after_mark m.RightBracket s.pieces ≡ o → brackets_by item o s ≡ Ok (b, t) → (d : ℕ) → commas (suc d) s.pieces ≡ commas d t.pieces
  brackets_by_walk (Some ps) s b t is e d = let f = after_mark_found m.RightBracket s.pieces ps is in ap (commas (suc d)) f.1 ∙ ends _ _ _ _ e d
  brackets_by_walk None s b t is e d =
      let a = bind_ok _ _ _ e in
      items_walk s a.0.0 a.0.1 a.1 d ∙ tail_walks (after_mark m.Bar a.0.1.pieces) a.0.0 a.0.1 b t refl a.2 d

  pub brackets_walk : WalksOut (brackets_at item)
  unfolding brackets_at
  brackets_walk s b t e d = brackets_by_walk (after_mark m.RightBracket s.pieces) s b t refl e d

  comma_walks : (first : Bool) (s t : State) → comma_at first s ≡ Ok t → (d : ℕ) → commas (suc d) s.pieces ≡ commas (suc d) t.pieces
  comma_walks true s t e d = ap (λ (u : State). commas (suc d) u.pieces) (ok_is s t e)
  comma_walks false s t e d = stepped (mark_steps m.Comma s t e) (suc d)

  pub exactly_walks : (first : Bool) (n : ℕ) (s : State) (xs : List X) (t : State) → exactly_at item first n s ≡ Ok (xs, t) → (d : ℕ) → commas (suc d) s.pieces ≡ commas (suc d) t.pieces
  unfolding exactly_at
  exactly_walks first zero s xs t e d = ends _ _ _ _ e (suc d)
  exactly_walks first (suc n) s xs t e d =
      let a = bind_ok _ _ _ e in
      let c = bind_ok _ _ _ a.1 in
      let b = bind_ok _ _ _ a.2 in
      comma_walks first s c.0 c.1 d ∙ walks c.0 a.0.0 a.0.1 c.2 (suc d) ∙ exactly_walks false n a.0.1 b.0.0 b.0.1 b.1 d ∙ ends _ _ _ _ b.2 (suc d)

  row_by_walks : (close : Keyword) (n : ℕ) (o : Option (List Piece)) → Walks (row_at item close n) → Walks (row_by item (row_at item close n) o)
  row_by_walks close n (Some ps) again s xs t e d = ends _ _ _ _ e d
  row_by_walks close n None again s xs t e d =
      let a = bind_ok _ _ _ e in
      let b = bind_ok _ _ _ a.2 in
      walks s a.0.0 a.0.1 a.1 d ∙ again a.0.1 b.0.0 b.0.1 b.1 d ∙ ends _ _ _ _ b.2 d

  row_walks : (close : Keyword) (n : ℕ) → Walks (row_at item close n)
  unfolding row_at
  row_walks close zero s xs t e d = absurd cc
  row_walks close (suc n) s xs t e d = row_by_walks close n (after_word close s.pieces) (row_walks close n) s xs t e d

  pub rows_walk : (close : Keyword) → Walks (rows_at item close)
  unfolding rows_at
  rows_walk close s xs t e d = row_walks close (length s.pieces) s xs t e d

  -- ---- the number of items

  more_count : (n : ℕ) (o : Option (List Piece)) (s : State) (xs : List X) (t : State) → ((s1 : State) (ys : List X) (u : State) → commas_at item n s1 ≡ Ok (ys, u) → commas 0 u.pieces ≡ 0 → suc (commas 0 s1.pieces) ≡ length ys)
      → after_mark m.Comma s.pieces ≡ o → more_at item (commas_at item n) o s ≡ Ok (xs, t) → commas 0 t.pieces ≡ 0 → commas 0 s.pieces ≡ length xs
  more_count n None s xs t again is e = subst (λ (r : List X × State). commas 0 r.1.pieces ≡ 0 → commas 0 s.pieces ≡ length r.0) (ok_is ([], s) (xs, t) e) (λ none. none)
  more_count n (Some ps) s xs t again is e = λ none. let f = after_mark_found m.Comma s.pieces ps is in ap (commas 0) f.1 ∙ again (with_pieces s ps) xs t e none

  -- where no comma follows the items, there is one more of them than commas
  commas_count : (n : ℕ) (s : State) (xs : List X) (t : State) → commas_at item n s ≡ Ok (xs, t) → commas 0 t.pieces ≡ 0 → suc (commas 0 s.pieces) ≡ length xs
  unfolding commas_at
  commas_count zero s xs t e = absurd cc
  commas_count (suc n) s xs t e =
      let a = bind_ok _ _ _ e in
      let b = bind_ok _ _ _ a.2 in
      let same : (a.0.0 ∷ b.0.0, b.0.1) ≡ (xs, t) = ok_is _ _ b.2 in
      subst (λ (r : List X × State). commas 0 r.1.pieces ≡ 0 → suc (commas 0 s.pieces) ≡ length r.0) same
      (λ none. ap suc (walks s a.0.0 a.0.1 a.1 0 ∙ more_count n (after_mark m.Comma a.0.1.pieces) a.0.1 b.0.0 b.0.1 (commas_count n) refl b.1 none))

  no_items : (ps : List Piece) (s : State) (xs : List X) (t : State) → ps ≡ [] → commas_at item (length ps) s ≡ Ok (xs, t) → ⊥
  unfolding commas_at
  no_items [] s xs t is e = cc
  no_items (p ∷ ps) s xs t is e = cc

  items_count : (ps : List Piece) (s : State) (xs : List X) (t : State) → s.pieces ≡ ps → after_mark m.RightParenthesis ps ≡ None → items_at item s ≡ Ok (xs, t) → commas 0 t.pieces ≡ 0 → arguments ps ≡ length xs
  unfolding items_at
  items_count [] s xs t is none e last = absurd (no_items s.pieces s xs t is e)
  items_count (p ∷ ps) s xs t is none e last = some_arguments_by p.shape ps (commas 0 (p ∷ ps)) none ∙ ap (λ (qs : List Piece). suc (commas 0 qs)) (sym is) ∙ commas_count (length s.pieces) s xs t e last

  closed_by_count : (o : Option (List Piece)) (s : State) (xs : List X) (t : State) → after_mark m.RightParenthesis s.pieces ≡ o → closed_by item m.RightParenthesis o s ≡ Ok (xs, t) → arguments s.pieces ≡ length xs
  closed_by_count (Some ps) s xs t is e = let f = after_mark_found m.RightParenthesis s.pieces ps is in ap arguments f.1 ∙ ap (λ (r : List X × State). length r.0) (ok_is ([], with_pieces s ps) (xs, t) e)
  closed_by_count None s xs t is e =
      let a = bind_ok _ _ _ e in
      let b = bind_ok _ _ _ a.2 in
      let same : (a.0.0, b.0) ≡ (xs, t) = ok_is _ _ b.2 in
      let step = mark_steps m.RightParenthesis a.0.1 b.0 b.1 in
      items_count s.pieces s a.0.0 a.0.1 refl is a.1 (stepped step 0) ∙ ap (λ (r : List X × State). length r.0) same

  -- as many arguments as come first
  pub closed_count : (s : State) (xs : List X) (t : State) → closed_at item m.RightParenthesis s ≡ Ok (xs, t) → arguments s.pieces ≡ length xs
  unfolding closed_at
  closed_count s xs t e = closed_by_count (after_mark m.RightParenthesis s.pieces) s xs t refl e
