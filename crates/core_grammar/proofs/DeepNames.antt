-- Where reading stops at a construct past the last level: annotations, constants, names and patterns.
use Rattle.std.proofs.Common.{◌≡◌, ℕ, zero, suc, Bool, true, false, cond, List, [], ◌∷◌, Option, Some, None, Err, refl, sym, subst, inl, inr}
use Rattle.core_tokens.specs.declared.fault.ReadFault.{ReadFault}
use Rattle.core_tokens.specs.declared.fault.ReadFault.TheVariants.{Expected, TooDeep, UnsupportedForm}
use Rattle.core_tokens.specs.declared.token.Mark.TheVariants as m
use Rattle.core_tokens.specs.Piece.{Piece, Shape}
use Rattle.core_tokens.specs.Piece as lexemes
use Rattle.core_tree.specs.Syntax.{Mention, Constant, Pattern}
use Rattle.core_tree.specs.Constant as constants
use Rattle.core_tree.specs.Pattern as patterns
use Rattle.core_grammar.specs.Grammar.{mark, Noted, ConstantIn, BareName, BareVariable, Variable, BareVariables, BareCaught, PatternForm, PatternIn}
use Rattle.core_grammar.specs.Beginnings.{Beginning, OfValue, OfAtom, OfAnnotation, OfVariable, beginning}
use Rattle.core_grammar.specs.Depth.{BeginsConstantBy, BeginsConstant, BeginsPatternBy, BeginsPattern, BeginsAnnotation, Front, Nowhere, PastMark, passes_mark, Part, InItems, InCommas, InList, InGroup, in_tuple, in_list, in_annotation, BehindVariable, DeepConstant, DeepNoted, DeepName, DeepVariable, DeepVariables, DeepCaught, DeepPattern}
use Rattle.core_grammar.specs.inside.Decoder.{State, Read, with_pieces, after_mark, is_foreign, fault, place_of, too_deep, begins_constant_by, begins_constant, deep_constant_of, deep_constant, note_at, in_note_at, constant_tuple_at, constant_list_at, constant_by, constant_form_by, constant_form_at, constant_at, noted_last, noted_by, noted_at, mark_at, bare_name_at, function_name_at, bare_variable_at, variable_at, closed_at, brackets_at, bare_variables_by, bare_variables_at, variables_at, third_by, bare_caught_at, caught_at, begins_pattern_by, begins_pattern, deep_pattern_of, deep_pattern, pattern_tuple_at, pattern_list_at, pattern_by, pattern_form_by, pattern_form_at, alias_by, alias_at, pattern_at}
use Rattle.core_grammar.proofs.Steps.{after_mark_found, Sound, bare_variable_sound, bare_name_sound}
use Rattle.core_grammar.proofs.SoundNames.{constant_sound, noted_sound, variable_sound, bare_variables_sound, bare_caught_sound}
use Rattle.core_grammar.proofs.SoundPatterns.{pattern_form_sound, pattern_sound}
use Rattle.core_grammar.proofs.DeepLists.{err_is, IsOther, cond_other, fault_other, refusal_deep, past_found, Fallen, Fall, Falls, never_other, ok_never, never_bind, mark_never, bare_variable_never, bare_name_never, first_falls, part_falls, part_of_falls, mark_falls, closed_falls, brackets_falls}

-- ---- tokens past the last level

abbrev deep_at : ℕ → ReadFault
deep_at at = TooDeep at

place_is : (bt at : ℕ) → deep_at bt ≡ deep_at at → bt ≡ at
place_is bt at e = cc

-- the token is one that takes a level, and the place is its own
pub front_is : (at bt : ℕ) (b : Bool) (other : ReadFault) → IsOther other → cond b (TooDeep bt) other ≡ TooDeep at → (b ≡ true) × (bt ≡ at)
front_is at bt true other h e = (refl, place_is bt at e)
front_is at bt false other h e = absurd (subst IsOther e h)

constant_begins : (b : Beginning) → begins_constant_by b ≡ true → BeginsConstantBy b
constant_begins OfValue e = tt
constant_begins OfAtom e = tt
constant_begins OfAnnotation e = tt
constant_begins b e = absurd cc

pub pattern_begins : (b : Beginning) → begins_pattern_by b ≡ true → BeginsPatternBy b
pattern_begins OfVariable e = tt
pattern_begins b e = constant_begins b e

constant_front : (at stop : ℕ) (ps : List Piece) → deep_constant_of stop ps ≡ TooDeep at → Front BeginsConstant at ps
constant_front at stop [] e = absurd (subst IsOther e tt)
constant_front at stop (p ∷ ps) e =
    let d = front_is at p.at (begins_constant p.shape) (cond (is_foreign p.shape) (UnsupportedForm p.at) (Expected p.at)) (cond_other (is_foreign p.shape) (UnsupportedForm p.at) (Expected p.at) tt tt) e in
    (d.1, constant_begins (beginning p.shape) d.0)

pattern_front : (at stop : ℕ) (ps : List Piece) → deep_pattern_of stop ps ≡ TooDeep at → Front BeginsPattern at ps
pattern_front at stop [] e = absurd (subst IsOther e tt)
pattern_front at stop (p ∷ ps) e =
    let d = front_is at p.at (begins_pattern p.shape) (cond (is_foreign p.shape) (UnsupportedForm p.at) (Expected p.at)) (cond_other (is_foreign p.shape) (UnsupportedForm p.at) (Expected p.at) tt tt) e in
    (d.1, pattern_begins (beginning p.shape) d.0)

annotation_front : (at stop bt : ℕ) (ps qs : List Piece) → ps ≡ mark bt m.LeftParenthesis ∷ qs → place_of stop ps ≡ at → Front BeginsAnnotation at ps
annotation_front at stop bt ps qs e = subst (λ (us : List Piece). place_of stop us ≡ at → Front BeginsAnnotation at us) (sym e) (λ h. (h, tt))

module _ (at : ℕ) where
  deep_constant_falls : (s : State) → deep_constant s ≡ TooDeep at → Fallen at s (Front BeginsConstant at)
  unfolding deep_constant
  deep_constant_falls s e = let d = refusal_deep at s.refused (deep_constant_of s.stop s.pieces) e in (d.0, constant_front at s.stop s.pieces d.1)

  deep_pattern_falls : (s : State) → deep_pattern s ≡ TooDeep at → Fallen at s (Front BeginsPattern at)
  unfolding deep_pattern
  deep_pattern_falls s e = let d = refusal_deep at s.refused (deep_pattern_of s.stop s.pieces) e in (d.0, pattern_front at s.stop s.pieces d.1)

  -- a parenthesis past the last level
  pub too_deep_falls : (s : State) (ps : List Piece) → after_mark m.LeftParenthesis s.pieces ≡ Some ps → too_deep s ≡ TooDeep at → Fallen at s (Front BeginsAnnotation at)
  unfolding too_deep
  too_deep_falls s ps is e =
      let d = refusal_deep at s.refused (TooDeep (place_of s.stop s.pieces)) e in
      let f = after_mark_found m.LeftParenthesis s.pieces ps is in
      (d.0, annotation_front at s.stop f.0 s.pieces ps f.1 (place_is (place_of s.stop s.pieces) at d.1))

  -- ---- annotations

  -- inside the constants of an annotation
  abbrev pub InConstants : (List Piece → Constant → List Piece → Type 0) → (List Piece → Type 0) → List Piece → Type 0
  InConstants Inner Deep ps = PastMark m.Note (PastMark m.LeftBracket (InCommas Inner Deep)) ps

  module _ (inner : State → Read Constant) (Inner : List Piece → Constant → List Piece → Type 0) (Deep : List Piece → Type 0) (each : Sound None inner Inner) (falls : Falls at inner Deep) where
    note_falls : Falls at (note_at inner) (InConstants Inner Deep)
    unfolding note_at
    note_falls s =
        mark_falls at m.Note (PastMark m.LeftBracket (InCommas Inner Deep)) s _ (λ s1.
        mark_falls at m.LeftBracket (InCommas Inner Deep) s1 _ (λ s2.
        first_falls at (closed_at inner m.RightBracket s2) _ s2 (InCommas Inner Deep) (closed_falls at inner Inner Deep each falls m.RightBracket s2) (λ cs. mark_never at m.RightParenthesis cs.1)))

    pub in_note_falls : {X : Type 0} (item : State → Read X) (Item : List Piece → X → List Piece → Type 0) (DeepItem : List Piece → Type 0) → Sound None item Item → Falls at item DeepItem → Falls at (in_note_at inner item) (Part Item DeepItem (InConstants Inner Deep))
    unfolding in_note_at
    in_note_falls item Item DeepItem sound every s = part_falls at item Item DeepItem (InConstants Inner Deep) sound every s _ (λ x t. first_falls at (note_at inner t) _ t (InConstants Inner Deep) (note_falls t) (λ u. ok_never at _))

  -- ---- constants

  module _ (inner : State → Read Constant) (Inner : List Piece → Constant → List Piece → Type 0) (Deep : List Piece → Type 0) (each : Sound None inner Inner) (falls : Falls at inner Deep) where
    constant_tuple_falls : Falls at (constant_tuple_at inner) (InCommas Inner Deep)
    unfolding constant_tuple_at
    constant_tuple_falls s = first_falls at (closed_at inner m.RightBrace s) _ s (InCommas Inner Deep) (closed_falls at inner Inner Deep each falls m.RightBrace s) (λ cs. ok_never at _)

    constant_list_falls : Falls at (constant_list_at inner) (InList Inner Deep)
    unfolding constant_list_at
    constant_list_falls s = first_falls at (brackets_at inner s) _ s (InList Inner Deep) (brackets_falls at inner Inner Deep each falls s) (λ b. ok_never at _)

    constant_by_falls : (bt : ℕ) (shape : Shape) (ps : List Piece) (s : State) → constant_by inner shape ps s ≡ Err (TooDeep at) → (s.refused ≡ None) × InGroup Inner Deep Inner Deep (record { at = bt; shape = shape } ∷ ps)
    constant_by_falls bt (lexemes.Integer n) ps s e = absurd (ok_never at (constants.Integer n, with_pieces s ps) e)
    constant_by_falls bt (lexemes.Character n) ps s e = absurd (ok_never at (constants.Character n, with_pieces s ps) e)
    constant_by_falls bt (lexemes.Text n) ps s e = absurd (ok_never at (constants.Text n, with_pieces s ps) e)
    constant_by_falls bt (lexemes.Atom n) ps s e = absurd (ok_never at (constants.Atom n, with_pieces s ps) e)
    constant_by_falls bt (lexemes.Mark m.LeftBrace) ps s e = let d = constant_tuple_falls (with_pieces s ps) e in (d.0, in_tuple (passes_mark d.1))
    constant_by_falls bt (lexemes.Mark m.LeftBracket) ps s e = let d = constant_list_falls (with_pieces s ps) e in (d.0, in_list (passes_mark d.1))
    constant_by_falls bt (lexemes.Mark m.LeftParenthesis) ps s e = let d = in_note_falls inner Inner Deep each falls inner Inner Deep each falls (with_pieces s ps) e in (d.0, in_annotation (passes_mark d.1))
    constant_by_falls bt shape ps s e = absurd (never_other at (fault s) (fault_other s) e)

    constant_form_by_falls : (ps : List Piece) (s : State) → constant_form_by inner ps s ≡ Err (TooDeep at) → (s.refused ≡ None) × InGroup Inner Deep Inner Deep ps
    constant_form_by_falls [] s e = absurd (never_other at (fault s) (fault_other s) e)
    constant_form_by_falls (p ∷ ps) s e = constant_by_falls p.at p.shape ps s e

    constant_form_falls : Falls at (constant_form_at inner) (InGroup Inner Deep Inner Deep)
    unfolding constant_form_at
    constant_form_falls s e = constant_form_by_falls s.pieces s e

  pub constant_falls : (n : ℕ) → Falls at (constant_at n) (DeepConstant at n)
  unfolding constant_at
  constant_falls zero s e = deep_constant_falls s (err_is {A = Constant × State} (deep_constant s) (TooDeep at) e)
  constant_falls (suc n) s e = constant_form_falls (constant_at n) (ConstantIn n) (DeepConstant at n) (constant_sound n) (constant_falls n) s e

  -- ---- what may be annotated

  module _ {X : Type 0} (bare : ℕ → State → Read X) (Bare : ℕ → List Piece → X → List Piece → Type 0) (DeepBare : ℕ → List Piece → Type 0) (each : (n : ℕ) → Sound None (bare n) (Bare n)) (falls : (n : ℕ) → Falls at (bare n) (DeepBare n)) where
    noted_last_falls : (o : Option (List Piece)) (s : State) → after_mark m.LeftParenthesis s.pieces ≡ o → Fall at (noted_last bare o s) s (DeepNoted at Bare DeepBare 0)
    noted_last_falls (Some ps) s is e = let d = too_deep_falls s ps is (err_is {A = X × State} (too_deep s) (TooDeep at) e) in (d.0, inr d.1)
    noted_last_falls None s is e = let d = falls 0 s e in (d.0, inl d.1)

    noted_by_falls : (n : ℕ) → Falls at (noted_at bare n) (DeepNoted at Bare DeepBare n) → (o : Option (List Piece)) (s : State) → after_mark m.LeftParenthesis s.pieces ≡ o → Fall at (noted_by bare n (noted_at bare n) o s) s (DeepNoted at Bare DeepBare (suc n))
    noted_by_falls n again (Some ps) s is e =
        let d = in_note_falls (constant_at n) (ConstantIn n) (DeepConstant at n) (constant_sound n) (constant_falls n) (noted_at bare n) (Noted Bare n) (DeepNoted at Bare DeepBare n) (noted_sound bare Bare each n) again (with_pieces s ps) e in
        (d.0, inr (past_found m.LeftParenthesis (Part (Noted Bare n) (DeepNoted at Bare DeepBare n) (InConstants (ConstantIn n) (DeepConstant at n))) s.pieces ps is d.1))
    noted_by_falls n again None s is e = let d = falls (suc n) s e in (d.0, inl d.1)

    pub noted_falls : (n : ℕ) → Falls at (noted_at bare n) (DeepNoted at Bare DeepBare n)
    unfolding noted_at
    noted_falls zero s e = noted_last_falls (after_mark m.LeftParenthesis s.pieces) s refl e
    noted_falls (suc n) s e = noted_by_falls n (noted_falls n) (after_mark m.LeftParenthesis s.pieces) s refl e

  -- ---- names

  pub function_name_falls : (n : ℕ) → Falls at (function_name_at n) (DeepName at n)
  unfolding function_name_at
  function_name_falls n s e = noted_falls (λ _. bare_name_at) (λ _. BareName) (λ _. Nowhere) (λ _. bare_name_sound) (λ l t h. absurd (bare_name_never at t h)) n s e

  pub variable_falls : (n : ℕ) → Falls at (variable_at n) (DeepVariable at n)
  unfolding variable_at
  variable_falls n s e = noted_falls (λ _. bare_variable_at) (λ _. BareVariable) (λ _. Nowhere) (λ _. bare_variable_sound) (λ l t h. absurd (bare_variable_never at t h)) n s e

  abbrev InVariables : ℕ → List Piece → Type 0
  InVariables n ps = PastMark m.Less (InCommas (Variable n) (DeepVariable at n)) ps

  bare_variables_by_falls : (n : ℕ) (o : Option (List Piece)) (s : State) → after_mark m.Less s.pieces ≡ o → Fall at (bare_variables_by (variable_at n) o s) s (InVariables n)
  bare_variables_by_falls n (Some ps) s is e =
      let d = closed_falls at (variable_at n) (Variable n) (DeepVariable at n) (variable_sound n) (variable_falls n) m.Greater (with_pieces s ps) e in
      (d.0, past_found m.Less (InCommas (Variable n) (DeepVariable at n)) s.pieces ps is d.1)
  bare_variables_by_falls n None s is e = absurd (never_bind at (bare_variable_at s) _ (bare_variable_never at s) (λ v. ok_never at _) e)

  bare_variables_falls : (n : ℕ) → Falls at (bare_variables_at n) (InVariables n)
  unfolding bare_variables_at
  bare_variables_falls n s e = bare_variables_by_falls n (after_mark m.Less s.pieces) s refl e

  pub variables_falls : (n : ℕ) → Falls at (variables_at n) (DeepVariables at n)
  unfolding variables_at
  variables_falls n s e = noted_falls bare_variables_at (λ l. BareVariables (Variable l)) InVariables bare_variables_sound bare_variables_falls n s e

  abbrev InThree : ℕ → ℕ → List Piece → Type 0
  InThree n count ps = InItems (Variable n) (DeepVariable at n) count ps

  third_falls : (n : ℕ) (u v : Mention) (o : Option (List Piece)) (s : State) → after_mark m.Comma s.pieces ≡ o → Fall at (third_by (variable_at n) u v o s) s (PastMark m.Comma (InThree n 1))
  third_falls n u v None s is e = absurd (never_bind at (mark_at m.Greater s) _ (mark_never at m.Greater s) (λ t. ok_never at _) e)
  third_falls n u v (Some ps) s is e =
      let d = part_falls at (variable_at n) (Variable n) (DeepVariable at n) (PastMark m.Comma (InThree n 0)) (variable_sound n) (variable_falls n) (with_pieces s ps) _ (λ w t h. absurd (never_bind at (mark_at m.Greater t) _ (mark_never at m.Greater t) (λ x. ok_never at _) h)) e in
      (d.0, past_found m.Comma (InThree n 1) s.pieces ps is d.1)

  bare_caught_falls : (n : ℕ) → Falls at (bare_caught_at n) (PastMark m.Less (InThree n 3))
  unfolding bare_caught_at
  bare_caught_falls n s =
      mark_falls at m.Less (InThree n 3) s _ (λ s1.
      part_falls at (variable_at n) (Variable n) (DeepVariable at n) (PastMark m.Comma (InThree n 2)) (variable_sound n) (variable_falls n) s1 _ (λ u t.
      mark_falls at m.Comma (InThree n 2) t _ (λ s2.
      part_falls at (variable_at n) (Variable n) (DeepVariable at n) (PastMark m.Comma (InThree n 1)) (variable_sound n) (variable_falls n) s2 _ (λ v w.
      third_falls n u v (after_mark m.Comma w.pieces) w refl))))

  pub caught_falls : (n : ℕ) → Falls at (caught_at n) (DeepCaught at n)
  unfolding caught_at
  caught_falls n s e = noted_falls bare_caught_at (λ l. BareCaught (Variable l)) (λ l. PastMark m.Less (InThree l 3)) bare_caught_sound bare_caught_falls n s e

  -- ---- patterns

  module _ (inner : State → Read Pattern) (note : State → Read Constant) (Inner : List Piece → Pattern → List Piece → Type 0) (Note : List Piece → Constant → List Piece → Type 0) (Deep DeepNote : List Piece → Type 0)
      (each : Sound None inner Inner) (noted : Sound None note Note) (falls : Falls at inner Deep) (note_falls' : Falls at note DeepNote) where
    pattern_tuple_falls : Falls at (pattern_tuple_at inner note) (InCommas Inner Deep)
    unfolding pattern_tuple_at
    pattern_tuple_falls s = first_falls at (closed_at inner m.RightBrace s) _ s (InCommas Inner Deep) (closed_falls at inner Inner Deep each falls m.RightBrace s) (λ qs. ok_never at _)

    pattern_list_falls : Falls at (pattern_list_at inner note) (InList Inner Deep)
    unfolding pattern_list_at
    pattern_list_falls s = first_falls at (brackets_at inner s) _ s (InList Inner Deep) (brackets_falls at inner Inner Deep each falls s) (λ b. ok_never at _)

    pattern_by_falls : (bt : ℕ) (shape : Shape) (ps : List Piece) (s : State) → pattern_by inner note bt shape ps s ≡ Err (TooDeep at) → (s.refused ≡ None) × InGroup Inner Deep Note DeepNote (record { at = bt; shape = shape } ∷ ps)
    pattern_by_falls bt (lexemes.Integer n) ps s e = absurd (ok_never at (patterns.Integer n, with_pieces s ps) e)
    pattern_by_falls bt (lexemes.Character n) ps s e = absurd (ok_never at (patterns.Character n, with_pieces s ps) e)
    pattern_by_falls bt (lexemes.Text n) ps s e = absurd (ok_never at (patterns.Text n, with_pieces s ps) e)
    pattern_by_falls bt (lexemes.Atom n) ps s e = absurd (ok_never at (patterns.Atom n, with_pieces s ps) e)
    pattern_by_falls bt (lexemes.Variable v) ps s e = absurd (ok_never at (patterns.Variable (record { at = bt; name = v }), with_pieces s ps) e)
    pattern_by_falls bt (lexemes.Mark m.LeftBrace) ps s e = let d = pattern_tuple_falls (with_pieces s ps) e in (d.0, in_tuple (passes_mark d.1))
    pattern_by_falls bt (lexemes.Mark m.LeftBracket) ps s e = let d = pattern_list_falls (with_pieces s ps) e in (d.0, in_list (passes_mark d.1))
    pattern_by_falls bt (lexemes.Mark m.LeftParenthesis) ps s e = let d = in_note_falls note Note DeepNote noted note_falls' inner Inner Deep each falls (with_pieces s ps) e in (d.0, in_annotation (passes_mark d.1))
    pattern_by_falls bt shape ps s e = absurd (never_other at (fault s) (fault_other s) e)

    pattern_form_by_falls : (ps : List Piece) (s : State) → pattern_form_by inner note ps s ≡ Err (TooDeep at) → (s.refused ≡ None) × InGroup Inner Deep Note DeepNote ps
    pattern_form_by_falls [] s e = absurd (never_other at (fault s) (fault_other s) e)
    pattern_form_by_falls (p ∷ ps) s e = pattern_by_falls p.at p.shape ps s e

    pattern_form_falls : Falls at (pattern_form_at inner note) (InGroup Inner Deep Note DeepNote)
    unfolding pattern_form_at
    pattern_form_falls s e = pattern_form_by_falls s.pieces s e

    alias_by_falls : (p : Pattern) (o : Option (List Piece)) (s : State) → after_mark m.Equals s.pieces ≡ o → Fall at (alias_by inner note p o s) s (BehindVariable (PastMark m.Equals Deep) p)
    alias_by_falls (patterns.Variable v) (Some ps) s is e =
        let d = first_falls at (inner (with_pieces s ps)) _ (with_pieces s ps) Deep (falls (with_pieces s ps)) (λ q. ok_never at _) e in
        (d.0, past_found m.Equals Deep s.pieces ps is d.1)
    alias_by_falls (patterns.Variable v) None s is e = absurd (ok_never at (patterns.Variable v, s) e)
    alias_by_falls q o s is e = absurd (ok_never at (q, s) e)

    pub alias_falls : (p : Pattern) → Falls at (alias_at inner note p) (BehindVariable (PastMark m.Equals Deep) p)
    unfolding alias_at
    alias_falls p s e = alias_by_falls p (after_mark m.Equals s.pieces) s refl e

  pub pattern_falls : (n : ℕ) → Falls at (pattern_at n) (DeepPattern at n)
  unfolding pattern_at
  pattern_falls zero s = λ e. deep_pattern_falls s (err_is {A = Pattern × State} (deep_pattern s) (TooDeep at) e)
  pattern_falls (suc n) s =
      part_of_falls at (pattern_form_at (pattern_at n) (constant_at n)) (PatternForm (PatternIn n) (ConstantIn n)) (InGroup (PatternIn n) (DeepPattern at n) (ConstantIn n) (DeepConstant at n)) (BehindVariable (PastMark m.Equals (DeepPattern at n)))
      (pattern_form_sound (pattern_at n) (constant_at n) (PatternIn n) (ConstantIn n) (pattern_sound n) (constant_sound n))
      (pattern_form_falls (pattern_at n) (constant_at n) (PatternIn n) (ConstantIn n) (DeepPattern at n) (DeepConstant at n) (pattern_sound n) (constant_sound n) (pattern_falls n) (constant_falls n)) s _
      (λ q t. alias_falls (pattern_at n) (constant_at n) (PatternIn n) (ConstantIn n) (DeepPattern at n) (DeepConstant at n) (pattern_sound n) (constant_sound n) (pattern_falls n) (constant_falls n) q t)
