-- What is read as a pattern is spelt as one.
use Rattle.std.proofs.Common.{◌≡◌, ℕ, zero, suc, cond, List, [], ◌∷◌, Option, Some, None, Ok, refl, subst}
use Rattle.core_tokens.specs.declared.token.Mark.TheVariants as m
use Rattle.core_tokens.specs.Piece.{Piece, Shape}
use Rattle.core_tokens.specs.Piece as lexemes
use Rattle.core_tree.specs.Syntax.{Mention, Pattern, patterns_of, Constant}
use Rattle.core_tree.specs.Pattern as patterns
use Rattle.core_grammar.specs.declared.unserved.Unserved.{Unserved}
use Rattle.core_grammar.specs.Grammar.{mark, ConstantIn, PatternForm, matches_integer, matches_character, matches_text, matches_atom, matches_any, matches_tuple, matches_list, matches_join, matches_noted, IsNoEquals, HasNoEquals, StandsAlone, PatternOrAlias, no_alias, is_alias, PatternIn}
use Rattle.core_grammar.specs.inside.Decoder.{State, Read, with_pieces, is_mark, after_mark, constant_at, pattern_list, pattern_tuple_at, pattern_list_at, pattern_by, pattern_form_by, pattern_form_at, alias_by, alias_at, pattern_at}
use Rattle.core_grammar.proofs.Steps.{ok_is, bind_ok, after_mark_found, Sound}
use Rattle.core_grammar.proofs.SoundLists.{closed_sound, Bracketed, brackets_sound}
use Rattle.core_grammar.proofs.SoundNames.{in_note_sound, constant_sound}

no_equals_by : (shape : Shape) (ps : List Piece) → cond (is_mark m.Equals shape) (Some ps) None ≡ None → IsNoEquals shape
no_equals_by (lexemes.Mark m.Equals) ps e = absurd cc
no_equals_by shape ps e = tt

no_equals : (ps : List Piece) → after_mark m.Equals ps ≡ None → HasNoEquals ps
no_equals [] e = tt
no_equals (p ∷ ps) e = no_equals_by p.shape ps e

module _ {left : Option Unserved} (inner : State → Read Pattern) (note : State → Read Constant) (Inner : List Piece → Pattern → List Piece → Type 0) (Note : List Piece → Constant → List Piece → Type 0) (each : Sound left inner Inner) (noted : Sound left note Note) where
  -- a pattern whose first token is this one
  abbrev Reads : ℕ → Shape → List Piece → State → Pattern → State → Type 0
  Reads at shape ps s q t = t.refused ≡ left → (s.refused ≡ left) × PatternForm Inner Note (record { at = at; shape = shape } ∷ ps) q t.pieces

  pattern_listed : (ps rest : List Piece) (at : ℕ) (b : List Pattern × Option Pattern) → Bracketed inner Inner each ps b rest → PatternForm Inner Note (mark at m.LeftBracket ∷ ps) (pattern_list b) rest
  pattern_listed ps rest at (qs, None) h = matches_list h
  pattern_listed ps rest at (qs, Some q) h = matches_join h.3 h.4

  pattern_tuple_sound : (at : ℕ) (ps : List Piece) (s : State) (q : Pattern) (t : State) → pattern_tuple_at inner note (with_pieces s ps) ≡ Ok (q, t) → Reads at (lexemes.Mark m.LeftBrace) ps s q t
  unfolding pattern_tuple_at
  pattern_tuple_sound at ps s q t e =
      let a = bind_ok _ _ _ e in
      let same : (patterns.Tuple (patterns_of a.0.0), a.0.1) ≡ (q, t) = ok_is _ _ a.2 in
      subst (λ (y : Pattern × State). Reads at (lexemes.Mark m.LeftBrace) ps s y.0 y.1) same
      (λ d. let h = closed_sound inner Inner each m.RightBrace (with_pieces s ps) a.0.0 a.0.1 a.1 d in (h.0, matches_tuple h.1))

  pattern_list_sound : (at : ℕ) (ps : List Piece) (s : State) (q : Pattern) (t : State) → pattern_list_at inner note (with_pieces s ps) ≡ Ok (q, t) → Reads at (lexemes.Mark m.LeftBracket) ps s q t
  unfolding pattern_list_at
  pattern_list_sound at ps s q t e =
      let a = bind_ok _ _ _ e in
      let same : (pattern_list a.0.0, a.0.1) ≡ (q, t) = ok_is _ _ a.2 in
      subst (λ (y : Pattern × State). Reads at (lexemes.Mark m.LeftBracket) ps s y.0 y.1) same
      (λ d. let h = brackets_sound inner Inner each (with_pieces s ps) a.0.0 a.0.1 a.1 d in (h.0, pattern_listed ps a.0.1.pieces at a.0.0 h.1))

  pattern_by_sound : (at : ℕ) (shape : Shape) (ps : List Piece) (s : State) (q : Pattern) (t : State) → pattern_by inner note at shape ps s ≡ Ok (q, t) → Reads at shape ps s q t
  pattern_by_sound at (lexemes.Integer n) ps s q t e =
      let same : (patterns.Integer n, with_pieces s ps) ≡ (q, t) = ok_is _ _ e in
      subst (λ (y : Pattern × State). Reads at (lexemes.Integer n) ps s y.0 y.1) same (λ d. (d, matches_integer))
  pattern_by_sound at (lexemes.Character n) ps s q t e =
      let same : (patterns.Character n, with_pieces s ps) ≡ (q, t) = ok_is _ _ e in
      subst (λ (y : Pattern × State). Reads at (lexemes.Character n) ps s y.0 y.1) same (λ d. (d, matches_character))
  pattern_by_sound at (lexemes.Text n) ps s q t e =
      let same : (patterns.Text n, with_pieces s ps) ≡ (q, t) = ok_is _ _ e in
      subst (λ (y : Pattern × State). Reads at (lexemes.Text n) ps s y.0 y.1) same (λ d. (d, matches_text))
  pattern_by_sound at (lexemes.Atom n) ps s q t e =
      let same : (patterns.Atom n, with_pieces s ps) ≡ (q, t) = ok_is _ _ e in
      subst (λ (y : Pattern × State). Reads at (lexemes.Atom n) ps s y.0 y.1) same (λ d. (d, matches_atom))
  pattern_by_sound at (lexemes.Variable v) ps s q t e =
      let here : Mention = record { at = at; name = v } in
      let same : (patterns.Variable here, with_pieces s ps) ≡ (q, t) = ok_is _ _ e in
      subst (λ (y : Pattern × State). Reads at (lexemes.Variable v) ps s y.0 y.1) same (λ d. (d, matches_any))
  pattern_by_sound at (lexemes.Mark m.LeftBrace) ps s q t e = pattern_tuple_sound at ps s q t e
  pattern_by_sound at (lexemes.Mark m.LeftBracket) ps s q t e = pattern_list_sound at ps s q t e
  pattern_by_sound at (lexemes.Mark m.LeftParenthesis) ps s q t e = λ d. let h = in_note_sound note Note noted inner Inner each at ps s q t e d in (h.0, matches_noted h.1)
  pattern_by_sound at shape ps s q t e = absurd cc

  pattern_form_by_sound : (ps : List Piece) (s : State) (q : Pattern) (t : State) → pattern_form_by inner note ps s ≡ Ok (q, t) → t.refused ≡ left → (s.refused ≡ left) × PatternForm Inner Note ps q t.pieces
  pattern_form_by_sound [] s q t e done = absurd cc
  pattern_form_by_sound (p ∷ ps) s q t e done = pattern_by_sound p.at p.shape ps s q t e done

  pub pattern_form_sound : Sound left (pattern_form_at inner note) (PatternForm Inner Note)
  unfolding pattern_form_at
  pattern_form_sound s q t e done = pattern_form_by_sound s.pieces s q t e done

  -- a pattern that was read, and perhaps an alias
  abbrev Aliases : List Piece → Pattern → State → Pattern → State → Type 0
  Aliases ps p s q t = t.refused ≡ left → (s.refused ≡ left) × (PatternForm Inner Note ps p s.pieces → PatternOrAlias (PatternForm Inner Note) Inner ps q t.pieces)

  abbrev both : Pattern → State → Pattern × State
  both x y = (x, y)

  stays : (p : Pattern) (ps : List Piece) (s : State) (q : Pattern) (t : State) → StandsAlone p s.pieces → both p s ≡ both q t → Aliases ps p s q t
  stays p ps s q t h e = subst (λ (y : Pattern × State). Aliases ps p s y.0 y.1) e (λ d. (d, λ f. no_alias f h))

  alias_form : (at : ℕ) (ps p1 p2 rest : List Piece) (v : Mention) (q : Pattern) → p1 ≡ mark at m.Equals ∷ p2 → Inner p2 q rest → PatternForm Inner Note ps (patterns.Variable v) p1 → PatternOrAlias (PatternForm Inner Note) Inner ps (patterns.Alias v q) rest
  alias_form at ps p1 p2 rest v q e h f =
      let front : PatternForm Inner Note ps (patterns.Variable v) (mark at m.Equals ∷ p2) = subst (λ (us : List Piece). PatternForm Inner Note ps (patterns.Variable v) us) e f in
      is_alias front h

  alias_by_sound : (p : Pattern) (o : Option (List Piece)) (ps : List Piece) (s : State) (q : Pattern) (t : State) → after_mark m.Equals s.pieces ≡ o → alias_by inner note p o s ≡ Ok (q, t) → Aliases ps p s q t
  alias_by_sound (patterns.Variable v) (Some us) ps s q t is e =
      let f = after_mark_found m.Equals s.pieces us is in
      let a = bind_ok _ _ _ e in
      let same : (patterns.Alias v a.0.0, a.0.1) ≡ (q, t) = ok_is _ _ a.2 in
      subst (λ (y : Pattern × State). Aliases ps (patterns.Variable v) s y.0 y.1) same
      (λ d. let h = each (with_pieces s us) a.0.0 a.0.1 a.1 d in (h.0, alias_form f.0 ps s.pieces us a.0.1.pieces v a.0.0 f.1 h.1))
  alias_by_sound (patterns.Variable v) None ps s q t is e = stays (patterns.Variable v) ps s q t (no_equals s.pieces is) (ok_is _ _ e)
  alias_by_sound (patterns.Integer n) o ps s q t is e = stays (patterns.Integer n) ps s q t tt (ok_is _ _ e)
  alias_by_sound (patterns.Character n) o ps s q t is e = stays (patterns.Character n) ps s q t tt (ok_is _ _ e)
  alias_by_sound (patterns.Text n) o ps s q t is e = stays (patterns.Text n) ps s q t tt (ok_is _ _ e)
  alias_by_sound (patterns.Atom n) o ps s q t is e = stays (patterns.Atom n) ps s q t tt (ok_is _ _ e)
  alias_by_sound (patterns.Tuple n) o ps s q t is e = stays (patterns.Tuple n) ps s q t tt (ok_is _ _ e)
  alias_by_sound (patterns.List n) o ps s q t is e = stays (patterns.List n) ps s q t tt (ok_is _ _ e)
  alias_by_sound (patterns.Onto n u) o ps s q t is e = stays (patterns.Onto n u) ps s q t tt (ok_is _ _ e)
  alias_by_sound (patterns.Alias v u) o ps s q t is e = stays (patterns.Alias v u) ps s q t tt (ok_is _ _ e)

  pub alias_sound : (p : Pattern) (ps : List Piece) (s : State) (q : Pattern) (t : State) → alias_at inner note p s ≡ Ok (q, t) → t.refused ≡ left → (s.refused ≡ left) × (PatternForm Inner Note ps p s.pieces → PatternOrAlias (PatternForm Inner Note) Inner ps q t.pieces)
  unfolding alias_at
  alias_sound p ps s q t e = alias_by_sound p (after_mark m.Equals s.pieces) ps s q t refl e

pub pattern_sound : {left : Option Unserved} (n : ℕ) → Sound left (pattern_at n) (PatternIn n)
unfolding pattern_at
pattern_sound zero s q t e done = absurd cc
pattern_sound (suc n) s q t e done =
    let a = bind_ok _ _ _ e in
    let h = alias_sound (pattern_at n) (constant_at n) (PatternIn n) (ConstantIn n) (pattern_sound n) (constant_sound n) a.0.0 s.pieces a.0.1 q t a.2 done in
    let g = pattern_form_sound (pattern_at n) (constant_at n) (PatternIn n) (ConstantIn n) (pattern_sound n) (constant_sound n) s a.0.0 a.0.1 a.1 h.0 in
    (g.0, h.1 g.1)
