-- What each fault of the grammar says: constants, names, patterns, expressions and clauses.
use Rattle.std.proofs.Common.{◌≡◌, ℕ, zero, suc, Bool, true, false, cond, List, [], ◌∷◌, length, Option, Some, None, Result, Ok, refl, sym, ap, ◌∙◌, subst, inl, inr}
use Rattle.std.specs.Prelude.{IfSome, ◌||◌}
use Rattle.core_tokens.specs.declared.fault.ReadFault.{ReadFault}
use Rattle.core_tokens.specs.declared.fault.ReadFault.TheVariants.{Expected, HigherOrder, UnsupportedCall, TooDeep, UnsupportedForm}
use Rattle.core_tokens.specs.declared.token.Mark.{Mark}
use Rattle.core_tokens.specs.declared.token.Mark.TheVariants as m
use Rattle.core_grammar.specs.declared.subject.Subject.{Subject}
use Rattle.core_grammar.specs.declared.subject.Subject.TheVariants as subjects
use Rattle.core_tokens.specs.declared.token.Keyword.TheVariants as k
use Rattle.core_tokens.specs.Piece.{Piece, Shape}
use Rattle.core_tokens.specs.Piece as lexemes
use Rattle.core_tree.specs.Syntax.{Mention, NamedAt, Callee, Pattern, Patterns, patterns_of, Tree, Trees, Clauses, trees_of, ClauseTree, clauses_of, Constant}
use Rattle.core_tree.specs.Callee as callees
use Rattle.core_tree.specs.Pattern as patterns
use Rattle.core_tree.specs.Expression as trees
use Rattle.core_grammar.specs.declared.unserved.Unserved.{Unserved}
use Rattle.core_grammar.specs.declared.unserved.Unserved.TheVariants as unserved
use Rattle.core_grammar.specs.Grammar.{word, mark, atom, AtomIn, Calls, calls_world, calls_itself, calls_export, Operates, fails_match, raises_again}
use Rattle.core_calls.specs.Calls.{Signature}
use Rattle.core_grammar.specs.Arguments.{arguments}
use Rattle.core_grammar.specs.Depth.{Front, passes_word}
use Rattle.core_grammar.specs.Unread.{HasMark, BeginsFunctionBy, BeginsAppliedBy, BeginsApplied, HigherOrderAt, IsNoOperation, operates_nothing}
use Rattle.core_grammar.specs.UnservedCalls.{within, IsOwn, IsNoNameBy, IsNoName, LacksName, IsNoCall, lacks_module, lacks_function, calls_nothing}
use Rattle.core_grammar.specs.Places.{IsOne, OpensBy, Opens}
use Rattle.core_grammar.specs.Beginnings.{Beginning, OfValue, OfAtom, OfAnnotation, OfVariable, OfOtherForm, OfFunction, beginning}
use Rattle.core_scopes.specs.Outcomes.{◌>>=◌}
use Rattle.core_grammar.specs.inside.Decoder.{State, Read, with_pieces, is_mark, after_mark, after_word, refusal, is_foreign, mark_at, word_at, taken_by, taken, atom_in, atom_at, named_by, bare_name_at, closed_at, brackets_at, exactly_at, rows_at, begins_constant_by, begins_constant, deep_constant_of, deep_constant, note_at, in_note_at, constant_tuple_at, constant_list_at, constant_by, constant_form_by, constant_form_at, constant_at, noted_last, noted_by, noted_at, function_name_at, bare_variable_at, variable_at, bare_variables_by, bare_variables_at, variables_at, third_by, bare_caught_at, caught_at, begins_pattern_by, begins_pattern, deep_pattern_of, deep_pattern, pattern_list, pattern_tuple_at, pattern_list_at, pattern_by, pattern_form_by, pattern_form_at, alias_by, alias_at, pattern_at}
use Rattle.core_grammar.specs.inside.DecoderForms.{is_function_by, is_function, begins_expression_by, begins_expression, deep_expression_of, expression_fault_of, deep_expression, expression_fault, callee_fault_of, callee_fault, bare_callee_at, callee_at, applied_fault_of, applied_fault, applied_atom_at, behind_applied_by, bare_applied_at, applied_at, callee_named, operation_named, earlier, judged, tree_list, name_by, Start, OnePattern, ManyPatterns, WholeClause, tuple_at, list_at, values_at, let_at, do_at, apply_at, call_at, primop_at, try_at, catch_at, behind_patterns_at, clause_of, start_by, started, inside_start_at, aliased, noted_start_at, angles_at, bare_start_by, bare_start_at, start_last, start_next, clause_at, case_at, receive_at, form_by, form_of, form_at, expression_at, start_at}
use Rattle.core_grammar.proofs.Steps.{is_mark_true, after_mark_found, mark_steps, atom_steps}
use Rattle.core_grammar.proofs.CallsByName.{signed, callee_found, callee_again, operation_found, operation_again}
use Rattle.core_grammar.proofs.SoundForms.{goes_to, callee_sound}
use Rattle.core_grammar.proofs.BracketSteps.{Walks, closed_count}
use Rattle.core_grammar.proofs.BracketForms.{expression_walks}
use Rattle.core_grammar.proofs.FaultSteps.{Place, Fault, Inside, IsUnservedAt, Good, Fine, fine_bind, fine_read, refusal_fine, front, here, behind, unread_here, foreign_fine, fault_fine, too_deep_fine, good_at, mark_inside, mark_fine, word_fine, Keeps, atom_fine, named_place, bare_variable_fine, behind_atom_fine, bare_name_fine, Each, closed_fine, Listing, brackets_fine, exactly_fine, rows_fine}

module _ (all : List Piece) (end : ℕ) where
  abbrev Place' : ℕ → Type 0
  Place' at = Place all end at

  abbrev Fault' : ReadFault → Type 0
  Fault' f = Fault all end f

  abbrev Good' : State → Type 0
  Good' s = Good all end s

  abbrev Fine' : {A : Type 0} → Result A ReadFault → (A → Type 0) → Type 0
  Fine' r P = Fine all end r P

  abbrev Keeps' : {X : Type 0} → (State → Read X) → (X → Type 0) → Type 0
  Keeps' item Q = Keeps all end item Q

  abbrev Any' : {X : Type 0} → X → Type 0
  Any' x = Unit {0}

  abbrev Each' : {X : Type 0} → (X → Type 0) → List X → Type 0
  Each' Q xs = Each all end Q xs

  abbrev bind : {A B : Type 0} (r : Result A ReadFault) (f : A → Result B ReadFault) (P : A → Type 0) (Q : B → Type 0) → Fine' r P → ((x : A) → P x → Fine' (f x) Q) → Fine' (r >>= f) Q
  bind r f P Q h g = fine_bind all end r f P Q h g

  abbrev read : {A B : Type 0} (r : Result A ReadFault) (f : A → Result B ReadFault) (P : A → Type 0) (Q : B → Type 0) → Fine' r P → ((x : A) → r ≡ Ok x → P x → Fine' (f x) Q) → Fine' (r >>= f) Q
  read r f P Q h g = fine_read all end r f P Q h g

  -- ---- tokens past the last level

  constant_opens : (b : Beginning) → begins_constant_by b ≡ true → OpensBy b
  constant_opens OfValue e = tt
  constant_opens OfAtom e = tt
  constant_opens OfAnnotation e = tt
  constant_opens b e = absurd cc

  pattern_opens : (b : Beginning) → begins_pattern_by b ≡ true → OpensBy b
  pattern_opens OfVariable e = tt
  pattern_opens b e = constant_opens b e

  expression_opens : (b : Beginning) → begins_expression_by b ≡ true → OpensBy b
  expression_opens OfOtherForm e = tt
  expression_opens b e = pattern_opens b e

  -- a token past the last level, where it opens a construct; else another fault there
  deep_by : (b : Bool) (p : Piece) (ps : List Piece) (f : ReadFault) → Inside all end (p ∷ ps) → (b ≡ true → Opens p.shape) → Fault' f → Fault' (cond b (TooDeep p.at) f)
  deep_by true p ps f inside opens h = (p, front all end p ps inside, refl, opens refl)
  deep_by false p ps f inside opens h = h

  deep_constant_of_fine : (stop : ℕ) (ps : List Piece) → stop ≡ end → Inside all end ps → Fault' (deep_constant_of stop ps)
  deep_constant_of_fine stop [] e inside = inr e
  deep_constant_of_fine stop (p ∷ ps) e inside = deep_by (begins_constant p.shape) p ps _ inside (constant_opens (beginning p.shape)) (foreign_fine all end p ps inside)

  deep_constant_fine : (s : State) → Good' s → Fault' (deep_constant s)
  unfolding deep_constant
  deep_constant_fine s g = refusal_fine all end s.refused (deep_constant_of s.stop s.pieces) g.refused (deep_constant_of_fine s.stop s.pieces g.stop g.inside)

  deep_pattern_of_fine : (stop : ℕ) (ps : List Piece) → stop ≡ end → Inside all end ps → Fault' (deep_pattern_of stop ps)
  deep_pattern_of_fine stop [] e inside = inr e
  deep_pattern_of_fine stop (p ∷ ps) e inside = deep_by (begins_pattern p.shape) p ps _ inside (pattern_opens (beginning p.shape)) (foreign_fine all end p ps inside)

  deep_pattern_fine : (s : State) → Good' s → Fault' (deep_pattern s)
  unfolding deep_pattern
  deep_pattern_fine s g = refusal_fine all end s.refused (deep_pattern_of s.stop s.pieces) g.refused (deep_pattern_of_fine s.stop s.pieces g.stop g.inside)

  -- a token that begins a function as a value; else another fault there
  function_begins : (b : Beginning) (ps : List Piece) → is_function_by b ps ≡ true → BeginsFunctionBy b ps
  function_begins OfFunction ps e = tt
  function_begins OfAtom [] e = absurd cc
  function_begins OfAtom (p ∷ ps) e = is_mark_true m.Slash p.shape e
  function_begins b ps e = absurd cc

  function_by : (b : Bool) (p : Piece) (ps : List Piece) (f : ReadFault) → Inside all end (p ∷ ps) → is_function p.shape ps ≡ b → Fault' f → Fault' (cond b (HigherOrder p.at) f)
  function_by true p ps f inside e h = inl (record { before = inside.0; here = p ∷ ps; stands = inside.1; said = (refl, function_begins (beginning p.shape) ps e) })
  function_by false p ps f inside e h = h

  deep_expression_of_fine : (stop : ℕ) (ps : List Piece) → stop ≡ end → Inside all end ps → Fault' (deep_expression_of stop ps)
  deep_expression_of_fine stop [] e inside = inr e
  deep_expression_of_fine stop (p ∷ ps) e inside =
      function_by (is_function p.shape ps) p ps _ inside refl (deep_by (begins_expression p.shape) p ps _ inside (expression_opens (beginning p.shape)) (foreign_fine all end p ps inside))

  deep_expression_fine : (s : State) → Good' s → Fault' (deep_expression s)
  unfolding deep_expression
  deep_expression_fine s g = refusal_fine all end s.refused (deep_expression_of s.stop s.pieces) g.refused (deep_expression_of_fine s.stop s.pieces g.stop g.inside)

  expression_fault_of_fine : (stop : ℕ) (ps : List Piece) → stop ≡ end → Inside all end ps → Fault' (expression_fault_of stop ps)
  expression_fault_of_fine stop [] e inside = inr e
  expression_fault_of_fine stop (p ∷ ps) e inside =
      function_by (is_function p.shape ps) p ps _ inside refl (foreign_fine all end p ps inside)

  expression_fault_fine : (s : State) → Good' s → Fault' (expression_fault s)
  unfolding expression_fault
  expression_fault_fine s g = refusal_fine all end s.refused (expression_fault_of s.stop s.pieces) g.refused (expression_fault_of_fine s.stop s.pieces g.stop g.inside)

  -- ---- annotations and constants

  module _ (inner : State → Read Constant) (each : Keeps' inner Any') where
    note_fine : (s : State) → Good' s → Fine' (note_at inner s) Good'
    unfolding note_at
    note_fine s g =
        bind (mark_at m.Note s) _ Good' Good' (mark_fine all end m.Note s g) (λ s1 g1.
        bind (mark_at m.LeftBracket s1) _ Good' Good' (mark_fine all end m.LeftBracket s1 g1) (λ s2 g2.
        bind (closed_at inner m.RightBracket s2) _ (λ x. Each' Any' x.0 × Good' x.1) Good' (closed_fine all end inner Any' each m.RightBracket s2 g2) (λ cs gc.
        mark_fine all end m.RightParenthesis cs.1 gc.1)))

    in_note_here_fine : {X : Type 0} (item : State → Read X) (Q : X → Type 0) (s : State) → Fine' (item s) (λ x. Q x.0 × Good' x.1) → Fine' (in_note_at inner item s) (λ x. Q x.0 × Good' x.1)
    unfolding in_note_at
    in_note_here_fine item Q s h =
        bind (item s) _ (λ x. Q x.0 × Good' x.1) (λ x. Q x.0 × Good' x.1) h (λ x gx.
        bind (note_at inner x.1) _ Good' (λ x. Q x.0 × Good' x.1) (note_fine x.1 gx.1) (λ s1 g1. (gx.0, g1)))

    pub in_note_fine : {X : Type 0} (item : State → Read X) (Q : X → Type 0) → Keeps' item Q → Keeps' (in_note_at inner item) Q
    in_note_fine item Q every s g = in_note_here_fine item Q s (every s g)

    constant_tuple_fine : Keeps' (constant_tuple_at inner) Any'
    unfolding constant_tuple_at
    constant_tuple_fine s g = bind (closed_at inner m.RightBrace s) _ (λ x. Each' Any' x.0 × Good' x.1) (λ x. Any' x.0 × Good' x.1) (closed_fine all end inner Any' each m.RightBrace s g) (λ x gx. (tt, gx.1))

    constant_list_fine : Keeps' (constant_list_at inner) Any'
    unfolding constant_list_at
    constant_list_fine s g = bind (brackets_at inner s) _ (λ x. Listing all end inner Any' each x.0 × Good' x.1) (λ x. Any' x.0 × Good' x.1) (brackets_fine all end inner Any' each s g) (λ x gx. (tt, gx.1))

  constant_by_fine : (inner : State → Read Constant) (each : Keeps' inner Any') (shape : Shape) (ps : List Piece) (s : State) → Good' s → Good' (with_pieces s ps) → Fine' (constant_by inner shape ps s) (λ x. Any' x.0 × Good' x.1)
  constant_by_fine inner each (lexemes.Integer n) ps s g h = (tt, h)
  constant_by_fine inner each (lexemes.Character n) ps s g h = (tt, h)
  constant_by_fine inner each (lexemes.Text n) ps s g h = (tt, h)
  constant_by_fine inner each (lexemes.Atom n) ps s g h = (tt, h)
  constant_by_fine inner each (lexemes.Mark m.LeftBrace) ps s g h = constant_tuple_fine inner each (with_pieces s ps) h
  constant_by_fine inner each (lexemes.Mark m.LeftBracket) ps s g h = constant_list_fine inner each (with_pieces s ps) h
  constant_by_fine inner each (lexemes.Mark m.LeftParenthesis) ps s g h = in_note_fine inner each inner Any' each (with_pieces s ps) h
  constant_by_fine inner each shape ps s g h = fault_fine all end s g

  constant_form_by_fine : (inner : State → Read Constant) (each : Keeps' inner Any') (ps : List Piece) (s : State) → Good' s → Inside all end ps → Fine' (constant_form_by inner ps s) (λ x. Any' x.0 × Good' x.1)
  constant_form_by_fine inner each [] s g inside = fault_fine all end s g
  constant_form_by_fine inner each (p ∷ ps) s g inside = constant_by_fine inner each p.shape ps s g (good_at all end s ps g (behind all end p ps inside))

  constant_form_fine : (inner : State → Read Constant) (each : Keeps' inner Any') → Keeps' (constant_form_at inner) Any'
  unfolding constant_form_at
  constant_form_fine inner each s g = constant_form_by_fine inner each s.pieces s g g.inside

  pub constant_fine : (n : ℕ) → Keeps' (constant_at n) Any'
  unfolding constant_at
  constant_fine zero s g = deep_constant_fine s g
  constant_fine (suc n) s g = constant_form_fine (constant_at n) (constant_fine n) s g

  -- ---- what may be annotated

  -- after all the `(` of annotations comes this
  module _ {X : Type 0} (bare : ℕ → State → Read X) (Q : X → Type 0) (start : List Piece)
      (each : (n : ℕ) (s : State) → Good' s → after_mark m.LeftParenthesis s.pieces ≡ None → within s.pieces ≡ start → Fine' (bare n s) (λ x. Q x.0 × Good' x.1)) where
    noted_last_fine : (o : Option (List Piece)) (s : State) → after_mark m.LeftParenthesis s.pieces ≡ o → within s.pieces ≡ start → Good' s → Fine' (noted_last bare o s) (λ x. Q x.0 × Good' x.1)
    noted_last_fine (Some ps) s is w g = let f = after_mark_found m.LeftParenthesis s.pieces ps is in too_deep_fine all end s f.0 ps g f.1
    noted_last_fine None s is w g = each 0 s g is w

    noted_by_fine : (n : ℕ) → ((s : State) → within s.pieces ≡ start → Good' s → Fine' (noted_at bare n s) (λ x. Q x.0 × Good' x.1)) → (o : Option (List Piece)) (s : State) → after_mark m.LeftParenthesis s.pieces ≡ o → within s.pieces ≡ start → Good' s
        → Fine' (noted_by bare n (noted_at bare n) o s) (λ x. Q x.0 × Good' x.1)
    noted_by_fine n again (Some ps) s is w g =
        let f = after_mark_found m.LeftParenthesis s.pieces ps is in
        let deeper : within ps ≡ start = sym (ap within f.1) ∙ w in
        in_note_here_fine (constant_at n) (constant_fine n) (noted_at bare n) Q (with_pieces s ps) (again (with_pieces s ps) deeper (good_at all end s ps g (mark_inside all end m.LeftParenthesis s.pieces ps g.inside is)))
    noted_by_fine n again None s is w g = each (suc n) s g is w

    pub noted_from_fine : (n : ℕ) (s : State) → within s.pieces ≡ start → Good' s → Fine' (noted_at bare n s) (λ x. Q x.0 × Good' x.1)
    unfolding noted_at
    noted_from_fine zero s w g = noted_last_fine (after_mark m.LeftParenthesis s.pieces) s refl w g
    noted_from_fine (suc n) s w g = noted_by_fine n (noted_from_fine n) (after_mark m.LeftParenthesis s.pieces) s refl w g

  pub noted_fine : {X : Type 0} (bare : ℕ → State → Read X) (Q : X → Type 0) → ((n : ℕ) → Keeps' (bare n) Q) → (n : ℕ) → Keeps' (noted_at bare n) Q
  noted_fine bare Q each n s g = noted_from_fine bare Q (within s.pieces) (λ l s1 g1 none w. each l s1 g1) n s refl g

  -- ---- names

  abbrev pub NamePlaced' : NamedAt → Type 0
  NamePlaced' x = Place' x.at

  abbrev pub MentionAt' : Mention → Type 0
  MentionAt' v = Place' v.at

  pub function_name_fine : (n : ℕ) → Keeps' (function_name_at n) NamePlaced'
  unfolding function_name_at
  function_name_fine n s g = noted_fine (λ _. bare_name_at) NamePlaced' (λ _. bare_name_fine all end) n s g

  pub variable_fine : (n : ℕ) → Keeps' (variable_at n) MentionAt'
  unfolding variable_at
  variable_fine n s g = noted_fine (λ _. bare_variable_at) MentionAt' (λ _. bare_variable_fine all end) n s g

  bare_variables_by_fine : (n : ℕ) (o : Option (List Piece)) (s : State) → after_mark m.Less s.pieces ≡ o → Good' s → Fine' (bare_variables_by (variable_at n) o s) (λ x. Each' MentionAt' x.0 × Good' x.1)
  bare_variables_by_fine n (Some ps) s is g = closed_fine all end (variable_at n) MentionAt' (variable_fine n) m.Greater (with_pieces s ps) (good_at all end s ps g (mark_inside all end m.Less s.pieces ps g.inside is))
  bare_variables_by_fine n None s is g = bind (bare_variable_at s) _ (λ x. MentionAt' x.0 × Good' x.1) (λ x. Each' MentionAt' x.0 × Good' x.1) (bare_variable_fine all end s g) (λ v gv. ((gv.0, tt), gv.1))

  bare_variables_fine : (n : ℕ) → Keeps' (bare_variables_at n) (Each' MentionAt')
  unfolding bare_variables_at
  bare_variables_fine n s g = bare_variables_by_fine n (after_mark m.Less s.pieces) s refl g

  variables_fine : (n : ℕ) → Keeps' (variables_at n) (Each' MentionAt')
  unfolding variables_at
  variables_fine n s g = noted_fine bare_variables_at (Each' MentionAt') bare_variables_fine n s g

  third_fine : (n : ℕ) (u v : Mention) (o : Option (List Piece)) (s : State) → MentionAt' u → MentionAt' v → after_mark m.Comma s.pieces ≡ o → Good' s → Fine' (third_by (variable_at n) u v o s) (λ x. Each' MentionAt' x.0 × Good' x.1)
  third_fine n u v None s p q is g = bind (mark_at m.Greater s) _ Good' (λ x. Each' MentionAt' x.0 × Good' x.1) (mark_fine all end m.Greater s g) (λ s1 g1. ((p, (q, tt)), g1))
  third_fine n u v (Some ps) s p q is g =
      bind (variable_at n (with_pieces s ps)) _ (λ x. MentionAt' x.0 × Good' x.1) (λ x. Each' MentionAt' x.0 × Good' x.1) (variable_fine n (with_pieces s ps) (good_at all end s ps g (mark_inside all end m.Comma s.pieces ps g.inside is))) (λ w gw.
      bind (mark_at m.Greater w.1) _ Good' (λ x. Each' MentionAt' x.0 × Good' x.1) (mark_fine all end m.Greater w.1 gw.1) (λ s1 g1. ((p, (q, (gw.0, tt))), g1)))

  bare_caught_fine : (n : ℕ) → Keeps' (bare_caught_at n) (Each' MentionAt')
  unfolding bare_caught_at
  bare_caught_fine n s g =
      bind (mark_at m.Less s) _ Good' (λ x. Each' MentionAt' x.0 × Good' x.1) (mark_fine all end m.Less s g) (λ s1 g1.
      bind (variable_at n s1) _ (λ x. MentionAt' x.0 × Good' x.1) (λ x. Each' MentionAt' x.0 × Good' x.1) (variable_fine n s1 g1) (λ u gu.
      bind (mark_at m.Comma u.1) _ Good' (λ x. Each' MentionAt' x.0 × Good' x.1) (mark_fine all end m.Comma u.1 gu.1) (λ s2 g2.
      bind (variable_at n s2) _ (λ x. MentionAt' x.0 × Good' x.1) (λ x. Each' MentionAt' x.0 × Good' x.1) (variable_fine n s2 g2) (λ v gv.
      third_fine n u.0 v.0 (after_mark m.Comma v.1.pieces) v.1 gu.0 gv.0 refl gv.1))))

  caught_fine : (n : ℕ) → Keeps' (caught_at n) (Each' MentionAt')
  unfolding caught_at
  caught_fine n s g = noted_fine bare_caught_at (Each' MentionAt') bare_caught_fine n s g

  -- ---- patterns

  abbrev mutual
    pub PatternAt : Pattern → Type 0
    PatternAt (patterns.Integer n) = Unit {0}
    PatternAt (patterns.Character c) = Unit {0}
    PatternAt (patterns.Text cs) = Unit {0}
    PatternAt (patterns.Atom t) = Unit {0}
    PatternAt (patterns.Variable v) = Place' v.at
    PatternAt (patterns.Tuple qs) = PatternsAt qs
    PatternAt (patterns.List qs) = PatternsAt qs
    PatternAt (patterns.Onto qs q) = PatternsAt qs × PatternAt q
    PatternAt (patterns.Alias v q) = Place' v.at × PatternAt q

    pub PatternsAt : Patterns → Type 0
    PatternsAt patterns.NoMore = Unit {0}
    PatternsAt (patterns.Also q qs) = PatternAt q × PatternsAt qs

  patterns_at : (qs : List Pattern) → Each' PatternAt qs → PatternsAt (patterns_of qs)
  patterns_at [] h = tt
  patterns_at (q ∷ qs) h = (h.0, patterns_at qs h.1)

  module _ (n : ℕ) (inner : State → Read Pattern) (each : Keeps' inner PatternAt) where
    pattern_tuple_fine : Keeps' (pattern_tuple_at inner (constant_at n)) PatternAt
    unfolding pattern_tuple_at
    pattern_tuple_fine s g = bind (closed_at inner m.RightBrace s) _ (λ x. Each' PatternAt x.0 × Good' x.1) (λ x. PatternAt x.0 × Good' x.1) (closed_fine all end inner PatternAt each m.RightBrace s g) (λ x gx. (patterns_at x.0 gx.0, gx.1))

    pattern_listing : (b : List Pattern × Option Pattern) → Listing all end inner PatternAt each b → PatternAt (pattern_list b)
    pattern_listing (qs, None) h = patterns_at qs h.0
    pattern_listing (qs, Some q) h = (patterns_at qs h.0, h.1)

    pattern_list_fine : Keeps' (pattern_list_at inner (constant_at n)) PatternAt
    unfolding pattern_list_at
    pattern_list_fine s g = bind (brackets_at inner s) _ (λ x. Listing all end inner PatternAt each x.0 × Good' x.1) (λ x. PatternAt x.0 × Good' x.1) (brackets_fine all end inner PatternAt each s g) (λ x gx. (pattern_listing x.0 gx.0, gx.1))

    pattern_by_fine : (at : ℕ) (shape : Shape) (ps : List Piece) (s : State) → Place' at → Good' s → Good' (with_pieces s ps) → Fine' (pattern_by inner (constant_at n) at shape ps s) (λ x. PatternAt x.0 × Good' x.1)
    pattern_by_fine at (lexemes.Integer i) ps s p g h = (tt, h)
    pattern_by_fine at (lexemes.Character i) ps s p g h = (tt, h)
    pattern_by_fine at (lexemes.Text i) ps s p g h = (tt, h)
    pattern_by_fine at (lexemes.Atom i) ps s p g h = (tt, h)
    pattern_by_fine at (lexemes.Variable v) ps s p g h = (p, h)
    pattern_by_fine at (lexemes.Mark m.LeftBrace) ps s p g h = pattern_tuple_fine (with_pieces s ps) h
    pattern_by_fine at (lexemes.Mark m.LeftBracket) ps s p g h = pattern_list_fine (with_pieces s ps) h
    pattern_by_fine at (lexemes.Mark m.LeftParenthesis) ps s p g h = in_note_fine (constant_at n) (constant_fine n) inner PatternAt each (with_pieces s ps) h
    pattern_by_fine at shape ps s p g h = fault_fine all end s g

    pattern_form_by_fine : (ps : List Piece) (s : State) → Good' s → Inside all end ps → Fine' (pattern_form_by inner (constant_at n) ps s) (λ x. PatternAt x.0 × Good' x.1)
    pattern_form_by_fine [] s g inside = fault_fine all end s g
    pattern_form_by_fine (p ∷ ps) s g inside = pattern_by_fine p.at p.shape ps s (here all end p ps inside) g (good_at all end s ps g (behind all end p ps inside))

    pattern_form_fine : Keeps' (pattern_form_at inner (constant_at n)) PatternAt
    unfolding pattern_form_at
    pattern_form_fine s g = pattern_form_by_fine s.pieces s g g.inside

    alias_by_fine : (q : Pattern) (o : Option (List Piece)) (s : State) → PatternAt q → after_mark m.Equals s.pieces ≡ o → Good' s → Fine' (alias_by inner (constant_at n) q o s) (λ x. PatternAt x.0 × Good' x.1)
    alias_by_fine (patterns.Variable v) (Some ps) s h is g =
        bind (inner (with_pieces s ps)) _ (λ x. PatternAt x.0 × Good' x.1) (λ x. PatternAt x.0 × Good' x.1) (each (with_pieces s ps) (good_at all end s ps g (mark_inside all end m.Equals s.pieces ps g.inside is))) (λ q gq. ((h, gq.0), gq.1))
    alias_by_fine (patterns.Variable v) None s h is g = (h, g)
    alias_by_fine (patterns.Integer i) o s h is g = (h, g)
    alias_by_fine (patterns.Character i) o s h is g = (h, g)
    alias_by_fine (patterns.Text i) o s h is g = (h, g)
    alias_by_fine (patterns.Atom i) o s h is g = (h, g)
    alias_by_fine (patterns.Tuple i) o s h is g = (h, g)
    alias_by_fine (patterns.List i) o s h is g = (h, g)
    alias_by_fine (patterns.Onto i j) o s h is g = (h, g)
    alias_by_fine (patterns.Alias i j) o s h is g = (h, g)

    alias_fine : (q : Pattern) → PatternAt q → Keeps' (alias_at inner (constant_at n) q) PatternAt
    unfolding alias_at
    alias_fine q h s g = alias_by_fine q (after_mark m.Equals s.pieces) s h refl g

  pattern_fine : (n : ℕ) → Keeps' (pattern_at n) PatternAt
  unfolding pattern_at
  pattern_fine zero s g = deep_pattern_fine s g
  pattern_fine (suc n) s g =
      bind (pattern_form_at (pattern_at n) (constant_at n) s) _ (λ x. PatternAt x.0 × Good' x.1) (λ x. PatternAt x.0 × Good' x.1) (pattern_form_fine n (pattern_at n) (pattern_fine n) s g) (λ q gq.
      alias_fine n (pattern_at n) (pattern_fine n) q.0 gq.0 q.1 gq.1)

  -- ---- expressions

  abbrev pub CalleeAt : ℕ → Callee → Type 0
  CalleeAt at (callees.World kind) = Place' at
  CalleeAt at (callees.Pure kind) = Place' at
  CalleeAt at (callees.Exported f) = Place' at × IsOne all (word at k.Call)
  CalleeAt at (callees.Defined f) = Place' at × Place' f.at
  CalleeAt at callees.MatchFail = Place' at
  CalleeAt at callees.Raise = Place' at

  abbrev mutual
    pub TreeAt : Tree → Type 0
    TreeAt (trees.Integer n) = Unit {0}
    TreeAt (trees.Character c) = Unit {0}
    TreeAt (trees.Text cs) = Unit {0}
    TreeAt (trees.Atom t) = Unit {0}
    TreeAt (trees.Variable v) = Place' v.at
    TreeAt (trees.Tuple ts) = TreesAt ts
    TreeAt (trees.List ts) = TreesAt ts
    TreeAt (trees.Onto ts t) = TreesAt ts × TreeAt t
    TreeAt (trees.Values ts) = TreesAt ts
    TreeAt (trees.Let vs t u) = Each' MentionAt' vs × TreeAt t × TreeAt u
    TreeAt (trees.Case at t cs) = TreeAt t × ClausesAt cs
    TreeAt (trees.Do t u) = TreeAt t × TreeAt u
    TreeAt (trees.Call at callee ts) = CalleeAt at callee × TreesAt ts
    TreeAt (trees.Try at t vs u ws h) = TreeAt t × Each' MentionAt' vs × TreeAt u × Each' MentionAt' ws × TreeAt h
    TreeAt (trees.Catch at t) = TreeAt t
    TreeAt (trees.Receive at cs t u) = Place' at × ClausesAt cs × TreeAt t × TreeAt u

    pub TreesAt : Trees → Type 0
    TreesAt trees.NoMore = Unit {0}
    TreesAt (trees.Also t ts) = TreeAt t × TreesAt ts

    pub ClausesAt : Clauses → Type 0
    ClausesAt trees.NoClause = Unit {0}
    ClausesAt (trees.Clause qs g b cs) = Each' PatternAt qs × TreeAt g × TreeAt b × ClausesAt cs

  abbrev ClauseAt : ClauseTree → Type 0
  ClauseAt c = Each' PatternAt c.patterns × TreeAt c.guard × TreeAt c.body

  trees_at : (ts : List Tree) → Each' TreeAt ts → TreesAt (trees_of ts)
  trees_at [] h = tt
  trees_at (t ∷ ts) h = (h.0, trees_at ts h.1)

  clauses_at : (cs : List ClauseTree) → Each' ClauseAt cs → ClausesAt (clauses_of cs)
  clauses_at [] h = tt
  clauses_at (c ∷ cs) h = (h.0.0, h.0.1, h.0.2, clauses_at cs h.1)

  -- ---- names of calls

  -- where no atom and no `(` comes before what begins an expression, the name is missing
  lacks_name : (shape : Shape) (at : ℕ) (ps : List Piece) → atom_in shape ≡ None → cond (is_mark m.LeftParenthesis shape) (Some ps) None ≡ None → (is_function shape [] || begins_expression shape) ≡ true → LacksName (within (record { at = at; shape = shape } ∷ ps))
  unfolding beginning
  lacks_name (lexemes.Integer n) at ps e none is = tt
  lacks_name (lexemes.Character c) at ps e none is = tt
  lacks_name (lexemes.Text cs) at ps e none is = tt
  lacks_name (lexemes.Variable v) at ps e none is = tt
  lacks_name (lexemes.Atom t) at ps e none is = absurd cc
  lacks_name (lexemes.Mark m.LeftBrace) at ps e none is = tt
  lacks_name (lexemes.Mark m.LeftBracket) at ps e none is = tt
  lacks_name (lexemes.Mark m.LeftParenthesis) at ps e none is = absurd cc
  lacks_name (lexemes.Mark m.Less) at ps e none is = tt
  lacks_name (lexemes.Word k.Fun) at ps e none is = tt
  lacks_name (lexemes.Word k.Letrec) at ps e none is = tt
  lacks_name (lexemes.Word k.Let) at ps e none is = tt
  lacks_name (lexemes.Word k.Case) at ps e none is = tt
  lacks_name (lexemes.Word k.Apply) at ps e none is = tt
  lacks_name (lexemes.Word k.Call) at ps e none is = tt
  lacks_name (lexemes.Word k.Primop) at ps e none is = tt
  lacks_name (lexemes.Word k.Do) at ps e none is = tt
  lacks_name (lexemes.Word k.Try) at ps e none is = tt
  lacks_name (lexemes.Word k.Catch) at ps e none is = tt
  lacks_name (lexemes.Word k.Receive) at ps e none is = tt
  lacks_name shape at ps e none is = absurd cc

  -- an atom, or another token where its name is missing
  callee_by_fine : (at : ℕ) (p : Piece) (ps : List Piece) (s : State) → Good' s → Inside all end (p ∷ ps) → after_mark m.LeftParenthesis (p ∷ ps) ≡ None → (LacksName (within (p ∷ ps)) → Fault' (UnsupportedCall at)) → (o : Option (List ℕ)) → atom_in p.shape ≡ o
      → Fine' (taken_by o ps s (refusal s.refused (callee_fault_of at s.stop (p ∷ ps)))) (λ x. Any' x.0 × Good' x.1)
  callee_by_fine at p ps s g inside none h (Some t) e = (tt, good_at all end s ps g (behind all end p ps inside))
  callee_by_fine at p ps s g inside none h None e = refusal_fine all end s.refused (callee_fault_of at s.stop (p ∷ ps)) g.refused (by (is_function p.shape [] || begins_expression p.shape) refl)
    where
      by : (b : Bool) → (is_function p.shape [] || begins_expression p.shape) ≡ b → Fault' (cond b (UnsupportedCall at) (cond (is_foreign p.shape) (UnsupportedForm p.at) (Expected p.at)))
      by true is = h (lacks_name p.shape p.at ps e none is)
      by false is = foreign_fine all end p ps inside

  callee_of_fine : (at : ℕ) (qs : List Piece) (s : State) → Good' s → Inside all end qs → after_mark m.LeftParenthesis qs ≡ None → (LacksName (within qs) → Fault' (UnsupportedCall at))
      → Fine' (taken (λ p. atom_in p.shape) qs s (refusal s.refused (callee_fault_of at s.stop qs))) (λ x. Any' x.0 × Good' x.1)
  callee_of_fine at [] s g inside none h = refusal_fine all end s.refused (Expected s.stop) g.refused (inr g.stop)
  callee_of_fine at (p ∷ ps) s g inside none h = callee_by_fine at p ps s g inside none h (atom_in p.shape) refl

  bare_callee_fine : (at : ℕ) (s : State) → Good' s → after_mark m.LeftParenthesis s.pieces ≡ None → (LacksName (within s.pieces) → Fault' (UnsupportedCall at)) → Fine' (bare_callee_at at s) (λ x. Any' x.0 × Good' x.1)
  unfolding bare_callee_at callee_fault
  bare_callee_fine at s g none h = callee_of_fine at s.pieces s g g.inside none h

  -- where there is no name, the call is not served
  callee_fine : (at n : ℕ) (s : State) → Good' s → (LacksName (within s.pieces) → Fault' (UnsupportedCall at)) → Fine' (callee_at at n s) (λ x. Any' x.0 × Good' x.1)
  unfolding callee_at
  callee_fine at n s g h =
      noted_from_fine (λ _. bare_callee_at at) Any' (within s.pieces) (λ l s1 g1 none w. bare_callee_fine at s1 g1 none (λ lacks. h (subst (λ (qs : List Piece). LacksName qs) w lacks))) n s refl g

  -- an atom of a call and the mark after it
  atom_then : (x : Mark) (at n : ℕ) (s : State) (a : List ℕ) (t u : State) → callee_at at n s ≡ Ok (a, t) → mark_at x t ≡ Ok u → (bt : ℕ) × AtomIn n s.pieces a (mark bt x ∷ u.pieces)
  atom_then x at n s a t u e f =
      let step = mark_steps x t u f in
      let spelt = callee_sound {left = t.refused} at n s a t e refl in
      (step.at, goes_to (AtomIn n) s.pieces t.pieces (mark step.at x ∷ u.pieces) a step.pieces spelt.1)

  found_nowhere : (o : Option Callee) (callee : Callee) → o ≡ Some callee → o ≡ None → ⊥
  found_nowhere o callee e f = cc

  -- what is not found by names and the number of arguments is not called
  nothing_called : (own a f : List ℕ) (count items : ℕ) → count ≡ items → callee_named own a f items ≡ None → (callee : Callee) → ¬ (Calls own (signed a f count) callee)
  nothing_called own a f count items same none callee h = found_nowhere (callee_named own a f count) callee (callee_again own (signed a f count) callee h) (ap (λ (i : ℕ). callee_named own a f i) same ∙ none)

  -- what is no operation by its name and the number of arguments is none
  nothing_operates : (name : List ℕ) (count items : ℕ) → count ≡ items → operation_named name items ≡ None → (callee : Callee) → ¬ (Operates name count callee)
  nothing_operates name count items same none callee h = found_nowhere (operation_named name count) callee (operation_again name count callee h) (ap (λ (i : ℕ). operation_named name i) same ∙ none)

  -- ---- what is applied

  -- a value that begins these tokens is one that is applied
  abbrev IsApplied : List Piece → Type 0
  IsApplied qs = (at : ℕ) → Front BeginsApplied at qs → HigherOrderAt all at

  has_mark : (x : Mark) (qs rest : List Piece) → after_mark x qs ≡ Some rest → HasMark x qs
  has_mark x qs rest e = let f = after_mark_found x qs rest e in subst (λ (ps : List Piece). HasMark x ps) (sym f.1) refl

  within_bare : (shape : Shape) (at : ℕ) (ps : List Piece) → cond (is_mark m.LeftParenthesis shape) (Some ps) None ≡ None → within (record { at = at; shape = shape } ∷ ps) ≡ record { at = at; shape = shape } ∷ ps
  within_bare (lexemes.Mark m.LeftParenthesis) at ps e = absurd cc
  within_bare shape at ps e = refl

  no_name_applied : (b : Beginning) (ps : List Piece) → IsNoNameBy b → BeginsAppliedBy b ps
  no_name_applied OfAtom ps h = absurd h
  no_name_applied b ps h = h

  -- where no atom and no `(` comes before what begins an expression, a value is applied
  value_applied : (p : Piece) (ps : List Piece) → after_mark m.LeftParenthesis (p ∷ ps) ≡ None → LacksName (within (p ∷ ps)) → Front BeginsApplied p.at (within (p ∷ ps))
  value_applied p ps none lacks =
      let bare = within_bare p.shape p.at ps none in
      let nameless : IsNoName p.shape = subst (λ (qs : List Piece). LacksName qs) bare lacks in
      subst (λ (qs : List Piece). Front BeginsApplied p.at qs) (sym bare) (refl, no_name_applied (beginning p.shape) ps nameless)

  -- so is an atom with its arguments after it
  atom_applied : (shape : Shape) (at : ℕ) (ps : List Piece) (x : ℕ × List ℕ) → named_by at shape ≡ Some x → HasMark m.LeftParenthesis ps → Front BeginsApplied x.0 (within (record { at = at; shape = shape } ∷ ps))
  unfolding beginning
  atom_applied (lexemes.Atom t) at ps x e h = let same : (at, t) ≡ x = cc in (ap (λ (y : ℕ × List ℕ). y.0) same, h)
  atom_applied shape at ps x e h = absurd cc

  no_atom : (at : ℕ) (shape : Shape) → named_by at shape ≡ None → atom_in shape ≡ None
  no_atom at (lexemes.Atom t) e = absurd cc
  no_atom at shape e = refl

  -- an atom at a place, which is a value where its arguments follow it
  abbrev AtomApplied : (ℕ × List ℕ) × State → Type 0
  AtomApplied x = Place' x.0.0 × Good' x.1 × (HasMark m.LeftParenthesis x.1.pieces → HigherOrderAt all x.0.0)

  applied_by_fine : (p : Piece) (ps : List Piece) (s : State) → Good' s → Inside all end (p ∷ ps) → after_mark m.LeftParenthesis (p ∷ ps) ≡ None → IsApplied (within (p ∷ ps)) → (o : Option (ℕ × List ℕ)) → named_by p.at p.shape ≡ o
      → Fine' (taken_by o ps s (refusal s.refused (applied_fault_of s.stop (p ∷ ps)))) AtomApplied
  applied_by_fine p ps s g inside none h (Some x) e =
      let place : Place' x.0 = subst (λ (at : ℕ). Place' at) (named_place all end p.at p.shape x e) (here all end p ps inside) in
      (place, good_at all end s ps g (behind all end p ps inside), λ mark. h x.0 (atom_applied p.shape p.at ps x e mark))
  applied_by_fine p ps s g inside none h None e = refusal_fine all end s.refused (applied_fault_of s.stop (p ∷ ps)) g.refused (by (is_function p.shape [] || begins_expression p.shape) refl)
    where
      by : (b : Bool) → (is_function p.shape [] || begins_expression p.shape) ≡ b → Fault' (cond b (HigherOrder p.at) (cond (is_foreign p.shape) (UnsupportedForm p.at) (Expected p.at)))
      by true is = h p.at (value_applied p ps none (lacks_name p.shape p.at ps (no_atom p.at p.shape e) none is))
      by false is = foreign_fine all end p ps inside

  applied_of_fine : (qs : List Piece) (s : State) → Good' s → Inside all end qs → after_mark m.LeftParenthesis qs ≡ None → IsApplied (within qs) → Fine' (taken (λ p. named_by p.at p.shape) qs s (refusal s.refused (applied_fault_of s.stop qs))) AtomApplied
  applied_of_fine [] s g inside none h = refusal_fine all end s.refused (Expected s.stop) g.refused (inr g.stop)
  applied_of_fine (p ∷ ps) s g inside none h = applied_by_fine p ps s g inside none h (named_by p.at p.shape) refl

  applied_atom_fine : (s : State) → Good' s → after_mark m.LeftParenthesis s.pieces ≡ None → IsApplied (within s.pieces) → Fine' (applied_atom_at s) AtomApplied
  unfolding applied_atom_at applied_fault
  applied_atom_fine s g none h = applied_of_fine s.pieces s g g.inside none h

  behind_applied_fine : (at : ℕ) (t : List ℕ) (o : Option (List Piece)) (s : State) → after_mark m.LeftParenthesis s.pieces ≡ o → Place' at → Good' s → (HasMark m.LeftParenthesis s.pieces → HigherOrderAt all at) → Fine' (behind_applied_by at t o s) (λ x. NamePlaced' x.0 × Good' x.1)
  behind_applied_fine at t (Some ps) s is p g h = refusal_fine all end s.refused (HigherOrder at) g.refused (h (has_mark m.LeftParenthesis s.pieces ps is))
  behind_applied_fine at t None s is p g h = behind_atom_fine all end at t p s g

  bare_applied_fine : (s : State) → Good' s → after_mark m.LeftParenthesis s.pieces ≡ None → IsApplied (within s.pieces) → Fine' (bare_applied_at s) (λ x. NamePlaced' x.0 × Good' x.1)
  unfolding bare_applied_at
  bare_applied_fine s g none h =
      bind (applied_atom_at s) _ AtomApplied (λ x. NamePlaced' x.0 × Good' x.1) (applied_atom_fine s g none h) (λ a ga.
      behind_applied_fine a.0.0 a.0.1 (after_mark m.LeftParenthesis a.1.pieces) a.1 refl ga.0 ga.1 ga.2)

  applied_fine : (n : ℕ) (s : State) → Good' s → IsApplied (within s.pieces) → Fine' (applied_at n s) (λ x. NamePlaced' x.0 × Good' x.1)
  unfolding applied_at
  applied_fine n s g h =
      noted_from_fine (λ _. bare_applied_at) NamePlaced' (within s.pieces) (λ l s1 g1 none w. bare_applied_fine s1 g1 none (subst (λ (qs : List Piece). IsApplied qs) (sym w) h)) n s refl g

  -- ---- what is not served

  earlier_fine : (u : Unserved) (o : Option Unserved) → IsUnservedAt all end u → IfSome o (IsUnservedAt all end) → IsUnservedAt all end (earlier u o)
  earlier_fine u None h g = h
  earlier_fine u (Some v) h g = by _
    where
      by : (b : Bool) → IsUnservedAt all end (cond b u v)
      by true = h
      by false = g

  judged_fine : (at : ℕ) (u : Unserved) (o : Option Callee) (ts : List Tree) (s : State) → (o ≡ None → IsUnservedAt all end u) → ((c : Callee) → o ≡ Some c → CalleeAt at c) → Each' TreeAt ts → Good' s → Fine' (judged at u o ts s) (λ x. TreeAt x.0 × Good' x.1)
  judged_fine at u (Some c) ts s h p q g = ((p c refl, trees_at ts q), g)
  judged_fine at u None ts s h p q g = (tt, record { stop = g.stop; inside = g.inside; refused = earlier_fine u s.refused (h refl) g.refused })

  called_at : (own : List ℕ) (at : ℕ) (s : Signature) (c : Callee) → Place' at → IsOne all (word at k.Call) → Calls own s c → CalleeAt at c
  called_at own at s c p h calls_world = p
  called_at own at s c p h calls_itself = p
  called_at own at s c p h (calls_export small new) = (p, h)

  operates_at : (at : ℕ) (t : List ℕ) (n : ℕ) (c : Callee) → Place' at → Operates t n c → CalleeAt at c
  operates_at at t n c p fails_match = p
  operates_at at t n c p raises_again = p

  module _ (own : List ℕ) (owned : IsOwn all own) (n : ℕ) (inner : State → Read Tree) (each : Keeps' inner TreeAt) (walks : Walks inner) where
    tuple_fine : Keeps' (tuple_at own n inner) TreeAt
    unfolding tuple_at
    tuple_fine s g = bind (closed_at inner m.RightBrace s) _ (λ x. Each' TreeAt x.0 × Good' x.1) (λ x. TreeAt x.0 × Good' x.1) (closed_fine all end inner TreeAt each m.RightBrace s g) (λ x gx. (trees_at x.0 gx.0, gx.1))

    listing_at : (b : List Tree × Option Tree) → Listing all end inner TreeAt each b → TreeAt (tree_list b)
    listing_at (ts, None) h = trees_at ts h.0
    listing_at (ts, Some t) h = (trees_at ts h.0, h.1)

    list_fine : Keeps' (list_at own n inner) TreeAt
    unfolding list_at
    list_fine s g = bind (brackets_at inner s) _ (λ x. Listing all end inner TreeAt each x.0 × Good' x.1) (λ x. TreeAt x.0 × Good' x.1) (brackets_fine all end inner TreeAt each s g) (λ x gx. (listing_at x.0 gx.0, gx.1))

    values_fine : Keeps' (values_at own n inner) TreeAt
    unfolding values_at
    values_fine s g = bind (closed_at inner m.Greater s) _ (λ x. Each' TreeAt x.0 × Good' x.1) (λ x. TreeAt x.0 × Good' x.1) (closed_fine all end inner TreeAt each m.Greater s g) (λ x gx. (trees_at x.0 gx.0, gx.1))

    let_fine : Keeps' (let_at own n inner) TreeAt
    unfolding let_at
    let_fine s g =
        bind (variables_at n s) _ (λ x. Each' MentionAt' x.0 × Good' x.1) (λ x. TreeAt x.0 × Good' x.1) (variables_fine n s g) (λ v gv.
        bind (mark_at m.Equals v.1) _ Good' (λ x. TreeAt x.0 × Good' x.1) (mark_fine all end m.Equals v.1 gv.1) (λ s1 g1.
        bind (inner s1) _ (λ x. TreeAt x.0 × Good' x.1) (λ x. TreeAt x.0 × Good' x.1) (each s1 g1) (λ t gt.
        bind (word_at k.In t.1) _ Good' (λ x. TreeAt x.0 × Good' x.1) (word_fine all end k.In t.1 gt.1) (λ s2 g2.
        bind (inner s2) _ (λ x. TreeAt x.0 × Good' x.1) (λ x. TreeAt x.0 × Good' x.1) (each s2 g2) (λ u gu. ((gv.0, gt.0, gu.0), gu.1))))))

    do_fine : Keeps' (do_at own n inner) TreeAt
    unfolding do_at
    do_fine s g =
        bind (inner s) _ (λ x. TreeAt x.0 × Good' x.1) (λ x. TreeAt x.0 × Good' x.1) (each s g) (λ t gt.
        bind (inner t.1) _ (λ x. TreeAt x.0 × Good' x.1) (λ x. TreeAt x.0 × Good' x.1) (each t.1 gt.1) (λ u gu. ((gt.0, gu.0), gu.1)))

    apply_fine : (at : ℕ) → Place' at → (s : State) → Inside all end (word at k.Apply ∷ s.pieces) → Good' s → Fine' (apply_at own n inner at s) (λ x. TreeAt x.0 × Good' x.1)
    unfolding apply_at
    apply_fine at p s o g =
        let applied : IsApplied (within s.pieces) = λ bt value. inr (record { before = o.0; here = word at k.Apply ∷ s.pieces; stands = o.1; said = passes_word value }) in
        bind (applied_at n s) _ (λ x. NamePlaced' x.0 × Good' x.1) (λ x. TreeAt x.0 × Good' x.1) (applied_fine n s g applied) (λ f gf.
        bind (mark_at m.LeftParenthesis f.1) _ Good' (λ x. TreeAt x.0 × Good' x.1) (mark_fine all end m.LeftParenthesis f.1 gf.1) (λ s1 g1.
        bind (exactly_at inner true f.0.function.arity s1) _ (λ x. Each' TreeAt x.0 × Good' x.1) (λ x. TreeAt x.0 × Good' x.1) (exactly_fine all end inner TreeAt each true f.0.function.arity s1 g1) (λ ts gt.
        bind (mark_at m.RightParenthesis ts.1) _ Good' (λ x. TreeAt x.0 × Good' x.1) (mark_fine all end m.RightParenthesis ts.1 gt.1) (λ s2 g2. (((p, gf.0), trees_at ts.0 gt.0), g2)))))

    call_fine : (at : ℕ) → Place' at → (s : State) → Inside all end (word at k.Call ∷ s.pieces) → Good' s → Fine' (call_at own n inner at s) (λ x. TreeAt x.0 × Good' x.1)
    unfolding call_at
    call_fine at p s o g =
        let one = front all end (word at k.Call) s.pieces o in
        let unserved_by : IsNoCall own s.pieces → Fault' (UnsupportedCall at) = λ h. (one, record { own = own; before = o.0; behind = s.pieces; named = owned; stands = o.1; unserved = h }) in
        read (callee_at at n s) _ (λ x. Any' x.0 × Good' x.1) (λ x. TreeAt x.0 × Good' x.1) (callee_fine at n s g (λ l. unserved_by (lacks_module l))) (λ a ea ga.
        read (mark_at m.Colon a.1) _ Good' (λ x. TreeAt x.0 × Good' x.1) (mark_fine all end m.Colon a.1 ga.1) (λ s1 e1 g1.
        let first = atom_then m.Colon at n s a.0 a.1 s1 ea e1 in
        read (callee_at at n s1) _ (λ x. Any' x.0 × Good' x.1) (λ x. TreeAt x.0 × Good' x.1) (callee_fine at n s1 g1 (λ l. unserved_by (lacks_function n first.1 l))) (λ f ef gf.
        read (mark_at m.LeftParenthesis f.1) _ Good' (λ x. TreeAt x.0 × Good' x.1) (mark_fine all end m.LeftParenthesis f.1 gf.1) (λ s2 e2 g2.
        let second = atom_then m.LeftParenthesis at n s1 f.0 f.1 s2 ef e2 in
        read (closed_at inner m.RightParenthesis s2) _ (λ x. Each' TreeAt x.0 × Good' x.1) (λ x. TreeAt x.0 × Good' x.1) (closed_fine all end inner TreeAt each m.RightParenthesis s2 g2) (λ ts et gt.
        let count : arguments s2.pieces ≡ length ts.0 = closed_count inner walks s2 ts.0 ts.1 et in
        judged_fine at (unserved.Call at) (callee_named own a.0 f.0 (length ts.0)) ts.0 ts.1
        (λ none. unserved_by (calls_nothing n first.1 second.1 (nothing_called own a.0 f.0 (arguments s2.pieces) (length ts.0) count none)))
        (λ c is. called_at own at _ c p one (callee_found own a.0 f.0 (length ts.0) c is)) gt.0 gt.1)))))

    primop_fine : (at : ℕ) → Place' at → (s : State) → Inside all end (word at k.Primop ∷ s.pieces) → Good' s → Fine' (primop_at own n inner at s) (λ x. TreeAt x.0 × Good' x.1)
    unfolding primop_at
    primop_fine at p s o g =
        read (atom_at s) _ (λ x. Any' x.0 × Good' x.1) (λ x. TreeAt x.0 × Good' x.1) (atom_fine all end s g) (λ a ea ga.
        read (mark_at m.LeftParenthesis a.1) _ Good' (λ x. TreeAt x.0 × Good' x.1) (mark_fine all end m.LeftParenthesis a.1 ga.1) (λ s1 e1 g1.
        let name = atom_steps s a.0 a.1 ea in
        let opens = mark_steps m.LeftParenthesis a.1 s1 e1 in
        let stands : s.pieces ≡ atom name.at a.0 ∷ mark opens.at m.LeftParenthesis ∷ s1.pieces = name.pieces ∙ ap (λ (qs : List Piece). atom name.at a.0 ∷ qs) opens.pieces in
        read (closed_at inner m.RightParenthesis s1) _ (λ x. Each' TreeAt x.0 × Good' x.1) (λ x. TreeAt x.0 × Good' x.1) (closed_fine all end inner TreeAt each m.RightParenthesis s1 g1) (λ ts et gt.
        let count : arguments s1.pieces ≡ length ts.0 = closed_count inner walks s1 ts.0 ts.1 et in
        let unread_by_name : operation_named a.0 (length ts.0) ≡ None → IsNoOperation s.pieces = λ none. subst (λ (qs : List Piece). IsNoOperation qs) (sym stands) (operates_nothing (nothing_operates a.0 (arguments s1.pieces) (length ts.0) count none)) in
        judged_fine at (unserved.Primop at) (operation_named a.0 (length ts.0)) ts.0 ts.1
        (λ none. unread_here all end (word at k.Primop) s.pieces o (unread_by_name none))
        (λ c is. operates_at at a.0 (length ts.0) c p (operation_found a.0 (length ts.0) c is)) gt.0 gt.1)))

    try_fine : (at : ℕ) → Keeps' (try_at own n inner at) TreeAt
    unfolding try_at
    try_fine at s g =
        bind (inner s) _ (λ x. TreeAt x.0 × Good' x.1) (λ x. TreeAt x.0 × Good' x.1) (each s g) (λ t gt.
        bind (word_at k.Of t.1) _ Good' (λ x. TreeAt x.0 × Good' x.1) (word_fine all end k.Of t.1 gt.1) (λ s1 g1.
        bind (variables_at n s1) _ (λ x. Each' MentionAt' x.0 × Good' x.1) (λ x. TreeAt x.0 × Good' x.1) (variables_fine n s1 g1) (λ v gv.
        bind (mark_at m.Arrow v.1) _ Good' (λ x. TreeAt x.0 × Good' x.1) (mark_fine all end m.Arrow v.1 gv.1) (λ s2 g2.
        bind (inner s2) _ (λ x. TreeAt x.0 × Good' x.1) (λ x. TreeAt x.0 × Good' x.1) (each s2 g2) (λ u gu.
        bind (word_at k.Catch u.1) _ Good' (λ x. TreeAt x.0 × Good' x.1) (word_fine all end k.Catch u.1 gu.1) (λ s3 g3.
        bind (caught_at n s3) _ (λ x. Each' MentionAt' x.0 × Good' x.1) (λ x. TreeAt x.0 × Good' x.1) (caught_fine n s3 g3) (λ w gw.
        bind (mark_at m.Arrow w.1) _ Good' (λ x. TreeAt x.0 × Good' x.1) (mark_fine all end m.Arrow w.1 gw.1) (λ s4 g4.
        bind (inner s4) _ (λ x. TreeAt x.0 × Good' x.1) (λ x. TreeAt x.0 × Good' x.1) (each s4 g4) (λ z gz. ((gt.0, gv.0, gu.0, gw.0, gz.0), gz.1))))))))))

    catch_fine : (at : ℕ) → Keeps' (catch_at own n inner at) TreeAt
    unfolding catch_at
    catch_fine at s g = bind (inner s) _ (λ x. TreeAt x.0 × Good' x.1) (λ x. TreeAt x.0 × Good' x.1) (each s g) (λ t gt. (gt.0, gt.1))

    name_fine : (o : Option (List Piece)) (t : List ℕ) (ps : List Piece) (s : State) → Good' s → Good' (with_pieces s ps) → Fine' (name_by o t ps s) (λ x. TreeAt x.0 × Good' x.1)
    name_fine (Some qs) t ps s g h = expression_fault_fine s g
    name_fine None t ps s g h = (tt, h)

    -- ---- clauses

    behind_patterns_fine : (qs : List Pattern) → Each' PatternAt qs → Keeps' (behind_patterns_at own n inner qs) ClauseAt
    unfolding behind_patterns_at
    behind_patterns_fine qs h s g =
        bind (word_at k.When s) _ Good' (λ x. ClauseAt x.0 × Good' x.1) (word_fine all end k.When s g) (λ s1 g1.
        bind (inner s1) _ (λ x. TreeAt x.0 × Good' x.1) (λ x. ClauseAt x.0 × Good' x.1) (each s1 g1) (λ t gt.
        bind (mark_at m.Arrow t.1) _ Good' (λ x. ClauseAt x.0 × Good' x.1) (mark_fine all end m.Arrow t.1 gt.1) (λ s2 g2.
        bind (inner s2) _ (λ x. TreeAt x.0 × Good' x.1) (λ x. ClauseAt x.0 × Good' x.1) (each s2 g2) (λ u gu. ((h, gt.0, gu.0), gu.1)))))

    abbrev StartAt : Start → Type 0
    StartAt (OnePattern q) = PatternAt q
    StartAt (ManyPatterns qs) = Each' PatternAt qs
    StartAt (WholeClause c) = ClauseAt c

    clause_of_fine : (x : Start) (s : State) → StartAt x → Good' s → Fine' (clause_of own n inner x s) (λ c. ClauseAt c.0 × Good' c.1)
    clause_of_fine (OnePattern q) s h g = behind_patterns_fine (q ∷ []) (h, tt) s g
    clause_of_fine (ManyPatterns qs) s h g = behind_patterns_fine qs h s g
    clause_of_fine (WholeClause c) s h g = (h, g)

    start_by_fine : (x : Start) (o : Option (List Piece)) (s : State) → StartAt x → Good' s → Fine' (start_by own n inner x o s) (λ y. StartAt y.0 × Good' y.1)
    start_by_fine x None s h g = (h, g)
    start_by_fine x (Some ps) s h g = bind (clause_of own n inner x s) _ (λ c. ClauseAt c.0 × Good' c.1) (λ y. StartAt y.0 × Good' y.1) (clause_of_fine x s h g) (λ c gc. (gc.0, gc.1))

    started_fine : (x : Start) (o : Option (List Piece)) (s : State) → StartAt x → Good' s → Fine' (started own n inner x o s) (λ y. StartAt y.0 × Good' y.1)
    started_fine (OnePattern q) o s h g = start_by_fine (OnePattern q) o s h g
    started_fine (ManyPatterns qs) o s h g = start_by_fine (ManyPatterns qs) o s h g
    started_fine (WholeClause c) o s h g = (h, g)

    aliased_fine : (x : Start) (s : State) → StartAt x → Good' s → Fine' (aliased own n inner x s) (λ y. StartAt y.0 × Good' y.1)
    aliased_fine (OnePattern q) s h g = bind (alias_at (pattern_at n) (constant_at n) q s) _ (λ p. PatternAt p.0 × Good' p.1) (λ y. StartAt y.0 × Good' y.1) (alias_fine n (pattern_at n) (pattern_fine n) q h s g) (λ p gp. (gp.0, gp.1))
    aliased_fine (ManyPatterns qs) s h g = (h, g)
    aliased_fine (WholeClause c) s h g = (h, g)

    module _ (start : State → Read Start) (starts : Keeps' start StartAt) where
      inside_start_fine : Keeps' (inside_start_at own n inner start) StartAt
      unfolding inside_start_at
      inside_start_fine s g = bind (start s) _ (λ x. StartAt x.0 × Good' x.1) (λ y. StartAt y.0 × Good' y.1) (starts s g) (λ x gx. started_fine x.0 (after_word k.When x.1.pieces) x.1 gx.0 gx.1)

      noted_start_fine : Keeps' (noted_start_at own n inner start) StartAt
      unfolding noted_start_at
      noted_start_fine s g =
          bind (in_note_at (constant_at n) (inside_start_at own n inner start) s) _ (λ x. StartAt x.0 × Good' x.1) (λ y. StartAt y.0 × Good' y.1)
          (in_note_fine (constant_at n) (constant_fine n) (inside_start_at own n inner start) StartAt inside_start_fine s g) (λ x gx. aliased_fine x.0 x.1 gx.0 gx.1)

    -- clauses of a `case` and of a `receive`, each with its own starts
    module _ (start : Subject → State → Read Start) (starts : (subject : Subject) → Keeps' (start subject) StartAt) where
      clause_fine : (subject : Subject) → Keeps' (clause_at own n inner start subject) ClauseAt
      unfolding clause_at
      clause_fine subject s g = bind (start subject s) _ (λ x. StartAt x.0 × Good' x.1) (λ c. ClauseAt c.0 × Good' c.1) (starts subject s g) (λ x gx. clause_of_fine x.0 x.1 gx.0 gx.1)

      case_fine : (at : ℕ) → Keeps' (case_at own n inner start at) TreeAt
      unfolding case_at
      case_fine at s g =
          bind (inner s) _ (λ x. TreeAt x.0 × Good' x.1) (λ x. TreeAt x.0 × Good' x.1) (each s g) (λ t gt.
          bind (word_at k.Of t.1) _ Good' (λ x. TreeAt x.0 × Good' x.1) (word_fine all end k.Of t.1 gt.1) (λ s1 g1.
          bind (clause_at own n inner start subjects.Values s1) _ (λ x. ClauseAt x.0 × Good' x.1) (λ x. TreeAt x.0 × Good' x.1) (clause_fine subjects.Values s1 g1) (λ c gc.
          bind (rows_at (clause_at own n inner start subjects.Values) k.End c.1) _ (λ x. Each' ClauseAt x.0 × Good' x.1) (λ x. TreeAt x.0 × Good' x.1) (rows_fine all end (clause_at own n inner start subjects.Values) ClauseAt (clause_fine subjects.Values) k.End c.1 gc.1) (λ cs gcs.
          bind (word_at k.End cs.1) _ Good' (λ x. TreeAt x.0 × Good' x.1) (word_fine all end k.End cs.1 gcs.1) (λ s2 g2. ((gt.0, (gc.0.0, gc.0.1, gc.0.2, clauses_at cs.0 gcs.0)), g2))))))

      receive_fine : (at : ℕ) → Place' at → Keeps' (receive_at own n inner start at) TreeAt
      unfolding receive_at
      receive_fine at p s g =
          bind (rows_at (clause_at own n inner start subjects.Message) k.After s) _ (λ x. Each' ClauseAt x.0 × Good' x.1) (λ x. TreeAt x.0 × Good' x.1) (rows_fine all end (clause_at own n inner start subjects.Message) ClauseAt (clause_fine subjects.Message) k.After s g) (λ cs gcs.
          bind (word_at k.After cs.1) _ Good' (λ x. TreeAt x.0 × Good' x.1) (word_fine all end k.After cs.1 gcs.1) (λ s1 g1.
          bind (inner s1) _ (λ x. TreeAt x.0 × Good' x.1) (λ x. TreeAt x.0 × Good' x.1) (each s1 g1) (λ t gt.
          bind (mark_at m.Arrow t.1) _ Good' (λ x. TreeAt x.0 × Good' x.1) (mark_fine all end m.Arrow t.1 gt.1) (λ s2 g2.
          bind (inner s2) _ (λ x. TreeAt x.0 × Good' x.1) (λ x. TreeAt x.0 × Good' x.1) (each s2 g2) (λ u gu. ((p, clauses_at cs.0 gcs.0, gt.0, gu.0), gu.1))))))

      form_by_fine : (at : ℕ) (shape : Shape) (ps : List Piece) (s : State) → Inside all end (record { at = at; shape = shape } ∷ ps) → Place' at → Good' s → Good' (with_pieces s ps) → Fine' (form_by own n inner start at shape ps s) (λ x. TreeAt x.0 × Good' x.1)
      form_by_fine at (lexemes.Integer i) ps s o p g h = (tt, h)
      form_by_fine at (lexemes.Character i) ps s o p g h = (tt, h)
      form_by_fine at (lexemes.Text i) ps s o p g h = (tt, h)
      form_by_fine at (lexemes.Atom t) ps s o p g h = name_fine (after_mark m.Slash ps) t ps s g h
      form_by_fine at (lexemes.Variable v) ps s o p g h = (p, h)
      form_by_fine at (lexemes.Mark m.LeftBrace) ps s o p g h = tuple_fine (with_pieces s ps) h
      form_by_fine at (lexemes.Mark m.LeftBracket) ps s o p g h = list_fine (with_pieces s ps) h
      form_by_fine at (lexemes.Mark m.Less) ps s o p g h = values_fine (with_pieces s ps) h
      form_by_fine at (lexemes.Mark m.LeftParenthesis) ps s o p g h = in_note_fine (constant_at n) (constant_fine n) inner TreeAt each (with_pieces s ps) h
      form_by_fine at (lexemes.Word k.Let) ps s o p g h = let_fine (with_pieces s ps) h
      form_by_fine at (lexemes.Word k.Case) ps s o p g h = case_fine at (with_pieces s ps) h
      form_by_fine at (lexemes.Word k.Do) ps s o p g h = do_fine (with_pieces s ps) h
      form_by_fine at (lexemes.Word k.Apply) ps s o p g h = apply_fine at p (with_pieces s ps) o h
      form_by_fine at (lexemes.Word k.Call) ps s o p g h = call_fine at p (with_pieces s ps) o h
      form_by_fine at (lexemes.Word k.Primop) ps s o p g h = primop_fine at p (with_pieces s ps) o h
      form_by_fine at (lexemes.Word k.Try) ps s o p g h = try_fine at (with_pieces s ps) h
      form_by_fine at (lexemes.Word k.Catch) ps s o p g h = catch_fine at (with_pieces s ps) h
      form_by_fine at (lexemes.Word k.Receive) ps s o p g h = receive_fine at p (with_pieces s ps) h
      form_by_fine at shape ps s o p g h = expression_fault_fine s g

      form_of_fine : (ps : List Piece) (s : State) → Good' s → Inside all end ps → Fine' (form_of own n inner start ps s) (λ x. TreeAt x.0 × Good' x.1)
      form_of_fine [] s g inside = expression_fault_fine s g
      form_of_fine (p ∷ ps) s g inside = form_by_fine p.at p.shape ps s inside (here all end p ps inside) g (good_at all end s ps g (behind all end p ps inside))

      form_fine : Keeps' (form_at own n inner start) TreeAt
      unfolding form_at
      form_fine s g = form_of_fine s.pieces s g g.inside

  -- ---- all levels

  abbrev Starting : Start → Type 0
  Starting (OnePattern q) = PatternAt q
  Starting (ManyPatterns qs) = Each' PatternAt qs
  Starting (WholeClause c) = ClauseAt c

  angles_fine : (n : ℕ) (subject : Subject) → Keeps' (angles_at n subject) (Each' PatternAt)
  unfolding angles_at
  angles_fine n subjects.Values s g = closed_fine all end (pattern_at n) PatternAt (pattern_fine n) m.Greater s g
  angles_fine n subjects.Message s g =
      bind (exactly_at (pattern_at n) true 1 s) _ (λ x. Each' PatternAt x.0 × Good' x.1) (λ x. Each' PatternAt x.0 × Good' x.1) (exactly_fine all end (pattern_at n) PatternAt (pattern_fine n) true 1 s g) (λ qs gq.
      bind (mark_at m.Greater qs.1) _ Good' (λ x. Each' PatternAt x.0 × Good' x.1) (mark_fine all end m.Greater qs.1 gq.1) (λ s1 g1. (gq.0, g1)))

  bare_start_by_fine : (n : ℕ) (subject : Subject) (o : Option (List Piece)) (s : State) → after_mark m.Less s.pieces ≡ o → Good' s → Fine' (bare_start_by n subject o s) (λ y. Starting y.0 × Good' y.1)
  bare_start_by_fine n subject (Some ps) s is g =
      bind (angles_at n subject (with_pieces s ps)) _ (λ x. Each' PatternAt x.0 × Good' x.1) (λ y. Starting y.0 × Good' y.1) (angles_fine n subject (with_pieces s ps) (good_at all end s ps g (mark_inside all end m.Less s.pieces ps g.inside is))) (λ x gx. (gx.0, gx.1))
  bare_start_by_fine n subject None s is g = bind (pattern_at n s) _ (λ x. PatternAt x.0 × Good' x.1) (λ y. Starting y.0 × Good' y.1) (pattern_fine n s g) (λ x gx. (gx.0, gx.1))

  bare_start_fine : (n : ℕ) (subject : Subject) → Keeps' (bare_start_at n subject) Starting
  unfolding bare_start_at
  bare_start_fine n subject s g = bare_start_by_fine n subject (after_mark m.Less s.pieces) s refl g

  start_last_fine : (subject : Subject) (o : Option (List Piece)) (s : State) → after_mark m.LeftParenthesis s.pieces ≡ o → Good' s → Fine' (start_last subject o s) (λ y. Starting y.0 × Good' y.1)
  start_last_fine subject (Some ps) s is g = let f = after_mark_found m.LeftParenthesis s.pieces ps is in too_deep_fine all end s f.0 ps g f.1
  start_last_fine subject None s is g = bare_start_fine 0 subject s g

  module _ (own : List ℕ) (owned : IsOwn all own) where
    start_next_fine : (n : ℕ) (subject : Subject) → Keeps' (expression_at own n) TreeAt → Keeps' (start_at own n subject) Starting → (o : Option (List Piece)) (s : State) → after_mark m.LeftParenthesis s.pieces ≡ o → Good' s
        → Fine' (start_next own n subject (expression_at own n) (start_at own n subject) o s) (λ y. Starting y.0 × Good' y.1)
    start_next_fine n subject each starts (Some ps) s is g = noted_start_fine own owned n (expression_at own n) each (expression_walks own n) (start_at own n subject) starts (with_pieces s ps) (good_at all end s ps g (mark_inside all end m.LeftParenthesis s.pieces ps g.inside is))
    start_next_fine n subject each starts None s is g = bare_start_fine (suc n) subject s g

    both_fine : (n : ℕ) → Keeps' (expression_at own n) TreeAt × ((subject : Subject) → Keeps' (start_at own n subject) Starting)
    unfolding expression_at start_at
    both_fine zero = (λ s g. deep_expression_fine s g, λ subject s g. start_last_fine subject (after_mark m.LeftParenthesis s.pieces) s refl g)
    both_fine (suc n) =
        let h = both_fine n in
        (λ s g. form_fine own owned n (expression_at own n) h.0 (expression_walks own n) (start_at own n) h.1 s g, λ subject s g. start_next_fine n subject h.0 (h.1 subject) (after_mark m.LeftParenthesis s.pieces) s refl g)

    pub expression_fine : (n : ℕ) → Keeps' (expression_at own n) TreeAt
    expression_fine n = (both_fine n).0
