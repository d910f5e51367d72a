-- What is spelt as an expression or a clause is read.
use Rattle.std.proofs.Common.{◌≡◌, ℕ, zero, suc, true, cond, List, [], ◌∷◌, length, Some, None, Ok, refl, sym, ap, ◌∙◌, arith, ◌⊎◌, inl, inr}
use Rattle.core_tokens.specs.declared.token.Mark.TheVariants as m
use Rattle.core_grammar.specs.declared.subject.Subject.{Subject}
use Rattle.core_grammar.specs.declared.subject.Subject.TheVariants as subjects
use Rattle.core_tokens.specs.declared.token.Keyword.{Keyword}
use Rattle.core_tokens.specs.declared.token.Keyword.TheVariants as k
use Rattle.core_tokens.specs.Piece.{Piece, Shape}
use Rattle.core_tokens.specs.Piece as lexemes
use Rattle.core_tree.specs.Syntax.{NamedAt, Callee, Pattern, Tree, trees_of, ClauseTree}
use Rattle.core_tree.specs.Callee as callees
use Rattle.core_tree.specs.Pattern as patterns
use Rattle.core_tree.specs.Expression as trees
use Rattle.core_grammar.specs.Grammar.{mark, word, atom, InNote, in_note, Either, stands_bare, stands_noted, Enclosed, Row, ConstantIn, BareName, names_function, FunctionName, BareAtom, is_the_atom, AtomIn, PatternForm, matches_integer, matches_character, matches_text, matches_atom, matches_any, matches_tuple, matches_list, matches_join, matches_noted, no_alias, is_alias, PatternIn, Fits, BareAngles, patterns_in_angles, Angles, one_pattern, many_patterns, PatternsIn, Calls, Operates, HasNoSlash, IsNoSlash, BareClause, is_clause, Form, a_number, a_character, a_text, a_name, a_variable, a_tuple, a_list, a_join, some_values, a_noted, a_let, a_case, a_do, an_apply, a_call, a_primop, a_try, a_catch, a_receive, Expression, AnnotatedClause, Clause}
use Rattle.core_grammar.specs.inside.Decoder.{State, Read, is_mark, after_mark, after_word, mark_at, word_at, atom_at, arity_at, behind_atom_at, constant_at, alias_at, pattern_at, exactly_at, rows_at}
use Rattle.core_grammar.specs.inside.DecoderForms.{bare_callee_at, callee_at, applied_atom_at, bare_applied_at, applied_at, OnePattern, ManyPatterns, WholeClause, tuple_at, list_at, values_at, let_at, do_at, apply_at, call_at, primop_at, try_at, catch_at, behind_patterns_at, inside_start_at, noted_start_at, angles_at, bare_start_at, clause_at, case_at, receive_at, form_at, expression_at, start_at}
use Rattle.core_grammar.specs.Whole.{start}
use Rattle.core_grammar.proofs.CallsByName.{callee_again, operation_again}
use Rattle.core_grammar.proofs.SoundForms.{StartsAt}
use Rattle.core_grammar.proofs.CompleteLists.{Complete, TakesOne, less_again, closing_brace, closing_parenthesis, closing_greater, BeginsElse, BeginsNoWord, commas_take, enclosed_take, closed_complete, brackets_complete, join_complete, exactly_complete, rows_complete, row_take}
use Rattle.core_grammar.proofs.CompleteNames.{in_note_take, in_note_complete, in_note_begins, in_note_begins_no_word, NoteFront, note_front, constant_takes, constant_begins, constant_complete, BeginsBare, noted_takes, noted_complete, bare_name_begins_bare, function_name_takes, variables_complete, variables_take, caught_complete, caught_take}
use Rattle.core_grammar.proofs.CompletePatterns.{pattern_takes, pattern_begins, pattern_complete, alone_again, alias_again}

-- ---- names of calls

bare_callee_complete : (at : ℕ) → Complete (bare_callee_at at) BareAtom
unfolding bare_callee_at
bare_callee_complete at stop ps x rest is_the_atom = refl

bare_atom_begins : BeginsBare BareAtom
bare_atom_begins ps x rest is_the_atom = refl

bare_atom_takes : TakesOne BareAtom
bare_atom_takes ps x rest is_the_atom = omega arith

callee_complete : (at n : ℕ) → Complete (callee_at at n) (AtomIn n)
unfolding callee_at
callee_complete at n stop ps x rest h = noted_complete (λ _. bare_callee_at at) (λ _. BareAtom) (λ _. bare_callee_complete at) (λ _. bare_atom_begins) n stop ps x rest h

atom_takes : (n : ℕ) → TakesOne (AtomIn n)
atom_takes n ps x rest h = noted_takes (λ _. BareAtom) (λ _. bare_atom_takes) n ps x rest h

bare_applied_complete : Complete bare_applied_at BareName
unfolding bare_applied_at applied_atom_at behind_atom_at mark_at arity_at
bare_applied_complete stop ps x rest (names_function {n = n} h) = rw (less_again n 256 h) refl

applied_complete : (n : ℕ) → Complete (applied_at n) (FunctionName n)
unfolding applied_at
applied_complete n stop ps x rest h = noted_complete (λ _. bare_applied_at) (λ _. BareName) (λ _. bare_applied_complete) (λ _. bare_name_begins_bare) n stop ps x rest h

-- ---- what is spelt takes tokens

clause_patterns_take : (n : ℕ) (subject : Subject) → TakesOne (PatternsIn n subject)
clause_patterns_take n subject ps qs rest (one_pattern {q = q} h) = pattern_takes n ps q rest h
clause_patterns_take n subject ps qs rest (many_patterns h) = noted_takes (λ l. BareAngles subject (PatternIn l)) (λ l us vs more g. angles_take l us vs more g) n ps qs rest h
  where
    angles_take : (l : ℕ) → TakesOne (BareAngles subject (PatternIn l))
    angles_take l us vs more (patterns_in_angles {ps = ws} g fit) = omega (arith, enclosed_take (PatternIn l) (pattern_takes l) m.Greater ws vs more g)

module _ (n : ℕ) (subject : Subject) (Inner : List Piece → Tree → List Piece → Type 0) (Whole : List Piece → ClauseTree → List Piece → Type 0) (takes : TakesOne Inner) (wholes : TakesOne Whole) where
  bare_clause_takes : TakesOne (BareClause (PatternsIn n subject) Inner)
  bare_clause_takes ps c rest (is_clause {p1 = p1} {p2 = p2} {at = at} {bt = bt} {qs = qs} {guard = g} {body = b} h i j) =
      omega (arith, clause_patterns_take n subject ps qs (word at k.When ∷ p1) h, takes p1 g (mark bt m.Arrow ∷ p2) i, takes p2 b rest j)

  any_clause_takes : TakesOne (Either (BareClause (PatternsIn n subject) Inner) Whole)
  any_clause_takes ps c rest (stands_bare h) = bare_clause_takes ps c rest h
  any_clause_takes ps c rest (stands_noted h) = wholes ps c rest h

module _ (own : List ℕ) (n : ℕ) (Inner : List Piece → Tree → List Piece → Type 0) (C : Subject → List Piece → ClauseTree → List Piece → Type 0) (takes : TakesOne Inner) (clauses : (subject : Subject) → TakesOne (C subject)) where
  form_takes : TakesOne (Form own n Inner C)
  form_takes ps t rest a_number = omega arith
  form_takes ps t rest a_character = omega arith
  form_takes ps t rest a_text = omega arith
  form_takes ps t rest (a_name h) = omega arith
  form_takes ps t rest a_variable = omega arith
  form_takes ps t rest (a_tuple {ps = qs} {ts = ts} h) = omega (arith, enclosed_take Inner takes m.RightBrace qs ts rest h)
  form_takes ps t rest (a_list {ps = qs} {ts = ts} h) = omega (arith, enclosed_take Inner takes m.RightBracket qs ts rest h)
  form_takes ps t rest (a_join {ps = qs} {more = more} {bt = bt} {ct = ct} {ts = ts} {t = u} h g) = omega (arith, commas_take Inner takes qs ts (mark bt m.Bar ∷ more) h, takes more u (mark ct m.RightBracket ∷ rest) g)
  form_takes ps t rest (some_values {ps = qs} {ts = ts} h) = omega (arith, enclosed_take Inner takes m.Greater qs ts rest h)
  form_takes ps t rest (a_noted h) = in_note_take Inner (ConstantIn n) takes (constant_takes n) ps t rest h
  form_takes ps t rest (a_let {ps = qs} {p1 = p1} {p2 = p2} {bt = bt} {ct = ct} {vs = vs} {t = x} {u = y} h g i) = omega (arith, variables_take n qs vs (mark bt m.Equals ∷ p1) h, takes p1 x (word ct k.In ∷ p2) g, takes p2 y rest i)
  form_takes ps t rest (a_case {ps = qs} {p1 = p1} {p2 = p2} {bt = bt} {ct = ct} {t = x} {c = c} {cs = cs} h g i) = omega (arith, takes qs x (word bt k.Of ∷ p1) h, clauses subjects.Values p1 c p2 g, row_take (C subjects.Values) (clauses subjects.Values) p2 cs (word ct k.End ∷ rest) i)
  form_takes ps t rest (a_do {ps = qs} {more = more} {t = x} {u = y} h g) = omega (arith, takes qs x more h, takes more y rest g)
  form_takes ps t rest (an_apply {ps = qs} {p1 = p1} {bt = bt} {named = f} {ts = ts} h g c) = omega (arith, function_name_takes n qs f (mark bt m.LeftParenthesis ∷ p1) h, enclosed_take Inner takes m.RightParenthesis p1 ts rest g)
  form_takes ps t rest (a_call {ps = qs} {p1 = p1} {p2 = p2} {bt = bt} {ct = ct} {module_name = a} {function_name = f} {ts = ts} h g i c) =
      omega (arith, atom_takes n qs a (mark bt m.Colon ∷ p1) h, atom_takes n p1 f (mark ct m.LeftParenthesis ∷ p2) g, enclosed_take Inner takes m.RightParenthesis p2 ts rest i)
  form_takes ps t rest (a_primop {ps = qs} {ts = ts} h c) = omega (arith, enclosed_take Inner takes m.RightParenthesis qs ts rest h)
  form_takes ps t rest (a_try {ps = qs} {p1 = p1} {p2 = p2} {p3 = p3} {p4 = p4} {bt = bt} {ct = ct} {dt = dt} {et = et} {vs = vs} {ws = ws} {t = x} {u = y} {h = z} h g i j l) =
      omega (arith, takes qs x (word bt k.Of ∷ p1) h, variables_take n p1 vs (mark ct m.Arrow ∷ p2) g, takes p2 y (word dt k.Catch ∷ p3) i, caught_take n p3 ws (mark et m.Arrow ∷ p4) j, takes p4 z rest l)
  form_takes ps t rest (a_catch {ps = qs} {t = x} h) = omega (arith, takes qs x rest h)
  form_takes ps t rest (a_receive {ps = qs} {p1 = p1} {p2 = p2} {bt = bt} {ct = ct} {cs = cs} {t = x} {u = y} h g i) =
      omega (arith, row_take (C subjects.Message) (clauses subjects.Message) qs cs (word bt k.After ∷ p1) h, takes p1 x (mark ct m.Arrow ∷ p2) g, takes p2 y rest i)

module _ (own : List ℕ) (n : ℕ) (Inner : List Piece → Tree → List Piece → Type 0) (C : Subject → List Piece → ClauseTree → List Piece → Type 0) where
  form_begins : BeginsElse (Form own n Inner C)
  form_begins close is ps t rest a_number = refl
  form_begins close is ps t rest a_character = refl
  form_begins close is ps t rest a_text = refl
  form_begins close is ps t rest (a_name h) = refl
  form_begins close is ps t rest a_variable = refl
  form_begins close is ps t rest (a_tuple h) = rw is.brace refl
  form_begins close is ps t rest (a_list h) = rw is.bracket refl
  form_begins close is ps t rest (a_join h g) = rw is.bracket refl
  form_begins close is ps t rest (some_values h) = rw is.less refl
  form_begins close is ps t rest (a_noted h) = in_note_begins Inner (ConstantIn n) close is ps t rest h
  form_begins close is ps t rest (a_let h g i) = refl
  form_begins close is ps t rest (a_case h g i) = refl
  form_begins close is ps t rest (a_do h g) = refl
  form_begins close is ps t rest (an_apply h g c) = refl
  form_begins close is ps t rest (a_call h g i c) = refl
  form_begins close is ps t rest (a_primop h c) = refl
  form_begins close is ps t rest (a_try h g i j l) = refl
  form_begins close is ps t rest (a_catch h) = refl
  form_begins close is ps t rest (a_receive h g i) = refl

module _ (own : List ℕ) where
  both_take : (n : ℕ) → TakesOne (Expression own n) × ((subject : Subject) → TakesOne (AnnotatedClause own n subject))
  both_take zero = (λ ps t rest h. absurd h, λ subject ps c rest h. absurd h)
  both_take (suc n) =
      let i = both_take n in (
        λ ps t rest h. form_takes own n (Expression own n) (Clause own n) i.0 (λ subject. any_clause_takes n subject (Expression own n) (AnnotatedClause own n subject) i.0 (i.1 subject)) ps t rest h,
        λ subject ps c rest h. in_note_take (Clause own n subject) (ConstantIn n) (any_clause_takes n subject (Expression own n) (AnnotatedClause own n subject) i.0 (i.1 subject)) (constant_takes n) ps c rest h,
      )

  pub expression_takes : (n : ℕ) → TakesOne (Expression own n)
  expression_takes n = (both_take n).0

  annotated_clause_takes : (n : ℕ) (subject : Subject) → TakesOne (AnnotatedClause own n subject)
  annotated_clause_takes n subject = (both_take n).1 subject

  pub expression_begins : (n : ℕ) → BeginsElse (Expression own n)
  expression_begins zero close is ps t rest h = absurd h
  expression_begins (suc n) close is ps t rest h = form_begins own n (Expression own n) (Clause own n) close is ps t rest h

-- ---- no clause begins with a keyword

pattern_form_begins_no_word : (n : ℕ) → BeginsNoWord (PatternForm (PatternIn n) (ConstantIn n))
pattern_form_begins_no_word n close ps c rest matches_integer = refl
pattern_form_begins_no_word n close ps c rest matches_character = refl
pattern_form_begins_no_word n close ps c rest matches_text = refl
pattern_form_begins_no_word n close ps c rest matches_atom = refl
pattern_form_begins_no_word n close ps c rest matches_any = refl
pattern_form_begins_no_word n close ps c rest (matches_tuple h) = refl
pattern_form_begins_no_word n close ps c rest (matches_list h) = refl
pattern_form_begins_no_word n close ps c rest (matches_join h g) = refl
pattern_form_begins_no_word n close ps c rest (matches_noted h) = in_note_begins_no_word (PatternIn n) (ConstantIn n) close ps c rest h

pattern_begins_no_word : (n : ℕ) → BeginsNoWord (PatternIn n)
pattern_begins_no_word zero close ps q rest h = absurd h
pattern_begins_no_word (suc n) close ps q rest (no_alias h alone) = pattern_form_begins_no_word n close ps q rest h
pattern_begins_no_word (suc n) close ps q rest (is_alias {more = more} {at = at} {v = v} h g) = pattern_form_begins_no_word n close ps (patterns.Variable v) (mark at m.Equals ∷ more) h

angles_begin_no_word : (n : ℕ) (subject : Subject) → BeginsNoWord (Angles n subject)
angles_begin_no_word n subject close ps qs rest (stands_bare (patterns_in_angles h fit)) = refl
angles_begin_no_word zero subject close ps qs rest (stands_noted h) = absurd h
angles_begin_no_word (suc n) subject close ps qs rest (stands_noted (in_note h g)) = refl

patterns_begin_no_word : (n : ℕ) (subject : Subject) → BeginsNoWord (PatternsIn n subject)
patterns_begin_no_word n subject close ps qs rest (one_pattern {q = q} h) = pattern_begins_no_word n close ps q rest h
patterns_begin_no_word n subject close ps qs rest (many_patterns h) = angles_begin_no_word n subject close ps qs rest h

any_clause_begins_no_word : (own : List ℕ) (n : ℕ) (subject : Subject) → BeginsNoWord (Either (BareClause (PatternsIn n subject) (Expression own n)) (AnnotatedClause own n subject))
any_clause_begins_no_word own n subject close ps c rest (stands_bare (is_clause {p1 = p1} {at = at} {qs = qs} h i j)) = patterns_begin_no_word n subject close ps qs (word at k.When ∷ p1) h
any_clause_begins_no_word own zero subject close ps c rest (stands_noted h) = absurd h
any_clause_begins_no_word own (suc n) subject close ps c rest (stands_noted (in_note h g)) = refl

-- ---- what is spelt is read

no_slash_again : (ps : List Piece) → HasNoSlash ps → after_mark m.Slash ps ≡ None
no_slash_again [] h = refl
no_slash_again (p ∷ ps) h = by p.shape h
  where
    by : (shape : Shape) → IsNoSlash shape → cond (is_mark m.Slash shape) (Some ps) None ≡ None
    by (lexemes.Mark m.Slash) h = absurd h
    by shape h = refl

-- what follows an annotation's `-|` is no guard
no_when : (ps : List Piece) → NoteFront ps → after_word k.When ps ≡ None
no_when ps f = rw f.is refl

-- a pattern begins with neither mark, or is in the parentheses of an annotation
form_front : (n : ℕ) (ps : List Piece) (q : Pattern) (rest : List Piece) → PatternForm (PatternIn n) (ConstantIn n) ps q rest → ((after_mark m.LeftParenthesis ps ≡ None) × (after_mark m.Less ps ≡ None)) ⊎ InNote (PatternIn n) (ConstantIn n) ps q rest
form_front n ps q rest matches_integer = inl (refl, refl)
form_front n ps q rest matches_character = inl (refl, refl)
form_front n ps q rest matches_text = inl (refl, refl)
form_front n ps q rest matches_atom = inl (refl, refl)
form_front n ps q rest matches_any = inl (refl, refl)
form_front n ps q rest (matches_tuple h) = inl (refl, refl)
form_front n ps q rest (matches_list h) = inl (refl, refl)
form_front n ps q rest (matches_join h g) = inl (refl, refl)
form_front n ps q rest (matches_noted h) = inr h

angles_complete : (n : ℕ) (subject : Subject) (stop : ℕ) (ps : List Piece) (qs : List Pattern) (rest : List Piece) → Enclosed (PatternIn n) m.Greater ps qs rest → Fits subject qs → angles_at n subject (start stop ps) ≡ Ok (qs, start stop rest)
unfolding angles_at mark_at
angles_complete n subjects.Values stop ps qs rest h fit = closed_complete (pattern_at n) (PatternIn n) (pattern_complete n) (pattern_takes n) (pattern_begins n) m.Greater closing_greater stop ps qs rest h
angles_complete n subjects.Message stop ps qs rest h fit =
    let i = exactly_complete (pattern_at n) (PatternIn n) (pattern_complete n) (pattern_takes n) (pattern_begins n) m.Greater stop ps qs rest h in
    let j : exactly_at (pattern_at n) true 1 (start stop ps) ≡ Ok (qs, start stop (mark i.0 m.Greater ∷ rest)) = ap (λ (a : ℕ). exactly_at (pattern_at n) true a (start stop ps)) (sym fit) ∙ i.1 in
    rw j refl

module _ (own : List ℕ) (n : ℕ) (each : Complete (expression_at own n) (Expression own n)) (starts : (subject : Subject) → Complete (start_at own n subject) (StartsAt own n subject)) where
  abbrev inner : State → Read Tree
  inner s = expression_at own n s

  abbrev AnyClause : Subject → List Piece → ClauseTree → List Piece → Type 0
  AnyClause subject ps c rest = Clause own n subject ps c rest

  -- ---- clauses

  behind_patterns_complete : (stop at bt : ℕ) (qs : List Pattern) (g b : Tree) (p1 p2 rest : List Piece) → Expression own n p1 g (mark bt m.Arrow ∷ p2) → Expression own n p2 b rest
      → behind_patterns_at own n (expression_at own n) qs (start stop (word at k.When ∷ p1)) ≡ Ok (record { patterns = qs; guard = g; body = b }, start stop rest)
  unfolding behind_patterns_at word_at mark_at
  behind_patterns_complete stop at bt qs g b p1 p2 rest h i = rw (each stop p1 g (mark bt m.Arrow ∷ p2) h, each stop p2 b rest i) refl

  module _ (subject : Subject) where
    clause_complete : Complete (clause_at own n (expression_at own n) (start_at own n) subject) (AnyClause subject)
    unfolding clause_at
    clause_complete stop ps c rest (stands_bare (is_clause {p1 = p1} {p2 = p2} {at = at} {bt = bt} {guard = g} {body = b} (one_pattern {q = q} h) i j)) =
        rw (starts subject stop ps (OnePattern q) (word at k.When ∷ p1) h) (behind_patterns_complete stop at bt (q ∷ []) g b p1 p2 rest i j)
    clause_complete stop ps c rest (stands_bare (is_clause {p1 = p1} {p2 = p2} {at = at} {bt = bt} {qs = qs} {guard = g} {body = b} (many_patterns h) i j)) =
        rw (starts subject stop ps (ManyPatterns qs) (word at k.When ∷ p1) h) (behind_patterns_complete stop at bt qs g b p1 p2 rest i j)
    clause_complete stop ps c rest (stands_noted h) = rw (starts subject stop ps (WholeClause c) rest h) refl

    inside_one : (stop : ℕ) (ps : List Piece) (q : Pattern) (more : List Piece) → NoteFront more → PatternIn n ps q more → inside_start_at own n (expression_at own n) (start_at own n subject) (start stop ps) ≡ Ok (OnePattern q, start stop more)
    unfolding inside_start_at
    inside_one stop ps q more f h = rw (starts subject stop ps (OnePattern q) more h, no_when more f) refl

    inside_many : (stop : ℕ) (ps : List Piece) (qs : List Pattern) (more : List Piece) → NoteFront more → Angles n subject ps qs more → inside_start_at own n (expression_at own n) (start_at own n subject) (start stop ps) ≡ Ok (ManyPatterns qs, start stop more)
    unfolding inside_start_at
    inside_many stop ps qs more f h = rw (starts subject stop ps (ManyPatterns qs) more h, no_when more f) refl

    inside_whole : (stop : ℕ) (ps : List Piece) (c : ClauseTree) (more : List Piece) → AnyClause subject ps c more → inside_start_at own n (expression_at own n) (start_at own n subject) (start stop ps) ≡ Ok (WholeClause c, start stop more)
    unfolding inside_start_at
    inside_whole stop ps c more (stands_bare (is_clause {p1 = p1} {p2 = p2} {at = at} {bt = bt} {guard = g} {body = b} (one_pattern {q = q} h) i j)) =
        rw (starts subject stop ps (OnePattern q) (word at k.When ∷ p1) h, behind_patterns_complete stop at bt (q ∷ []) g b p1 p2 more i j) refl
    inside_whole stop ps c more (stands_bare (is_clause {p1 = p1} {p2 = p2} {at = at} {bt = bt} {qs = qs} {guard = g} {body = b} (many_patterns h) i j)) =
        rw (starts subject stop ps (ManyPatterns qs) (word at k.When ∷ p1) h, behind_patterns_complete stop at bt qs g b p1 p2 more i j) refl
    inside_whole stop ps c more (stands_noted h) = rw (starts subject stop ps (WholeClause c) more h) refl

    -- ---- starts one level higher

    noted_one : (stop : ℕ) (ps : List Piece) (q p : Pattern) (mid rest : List Piece) → (r : List Piece) → InNote (PatternIn n) (ConstantIn n) ps q mid → alias_at (pattern_at n) (constant_at n) q (start stop mid) ≡ Ok (p, start stop rest) → start_at own (suc n) subject (start stop ps) ≡ Ok (OnePattern p, start stop rest)
    unfolding start_at noted_start_at
    noted_one stop ps q p mid rest r (in_note {ps = qs} {more = more} h g) e =
        rw (in_note_complete (constant_at n) (ConstantIn n) (constant_complete n) (constant_takes n) (constant_begins n) (inside_start_at own n (expression_at own n) (start_at own n subject)) stop qs (OnePattern q) more mid (inside_one stop qs q more (note_front (ConstantIn n) more mid g) h) g, e) refl

    bare_one : (stop : ℕ) (ps : List Piece) (q : Pattern) (rest : List Piece) → after_mark m.LeftParenthesis ps ≡ None → after_mark m.Less ps ≡ None → PatternIn (suc n) ps q rest → start_at own (suc n) subject (start stop ps) ≡ Ok (OnePattern q, start stop rest)
    unfolding start_at bare_start_at
    bare_one stop ps q rest no_parenthesis no_angle h = rw (no_parenthesis, no_angle, pattern_complete (suc n) stop ps q rest h) refl

    one_complete : (stop : ℕ) (ps : List Piece) (q : Pattern) (rest : List Piece) → PatternIn (suc n) ps q rest → start_at own (suc n) subject (start stop ps) ≡ Ok (OnePattern q, start stop rest)
    one_complete stop ps q rest (no_alias h alone) =
        elim (form_front n ps q rest h) [
          | inl f ↦ bare_one stop ps q rest f.0 f.1 (no_alias h alone)
          | inr i ↦ noted_one stop ps q q rest rest rest i (alone_again n (pattern_complete n) stop q rest alone)
        ]
    one_complete stop ps q rest (is_alias {more = more} {at = at} {v = v} {q = u} h g) =
        elim (form_front n ps (patterns.Variable v) (mark at m.Equals ∷ more) h) [
          | inl f ↦ bare_one stop ps q rest f.0 f.1 (is_alias h g)
          | inr i ↦ noted_one stop ps (patterns.Variable v) q (mark at m.Equals ∷ more) rest rest i (alias_again n (pattern_complete n) stop at v more u rest g)
        ]

    many_complete : (stop : ℕ) (ps : List Piece) (qs : List Pattern) (rest : List Piece) → Angles (suc n) subject ps qs rest → start_at own (suc n) subject (start stop ps) ≡ Ok (ManyPatterns qs, start stop rest)
    unfolding start_at bare_start_at noted_start_at
    many_complete stop ps qs rest (stands_bare (patterns_in_angles {ps = us} h fit)) = rw (angles_complete (suc n) subject stop us qs rest h fit) refl
    many_complete stop ps qs rest (stands_noted (in_note {ps = us} {more = more} h g)) =
        rw (in_note_complete (constant_at n) (ConstantIn n) (constant_complete n) (constant_takes n) (constant_begins n) (inside_start_at own n (expression_at own n) (start_at own n subject)) stop us (ManyPatterns qs) more rest (inside_many stop us qs more (note_front (ConstantIn n) more rest g) h) g) refl

    whole_complete : (stop : ℕ) (ps : List Piece) (c : ClauseTree) (rest : List Piece) → AnnotatedClause own (suc n) subject ps c rest → start_at own (suc n) subject (start stop ps) ≡ Ok (WholeClause c, start stop rest)
    unfolding start_at noted_start_at
    whole_complete stop ps c rest (in_note {ps = us} {more = more} h g) =
        rw (in_note_complete (constant_at n) (ConstantIn n) (constant_complete n) (constant_takes n) (constant_begins n) (inside_start_at own n (expression_at own n) (start_at own n subject)) stop us (WholeClause c) more rest (inside_whole stop us c more h) g) refl

    starts_complete : Complete (start_at own (suc n) subject) (StartsAt own (suc n) subject)
    starts_complete stop ps (OnePattern q) rest h = one_complete stop ps q rest h
    starts_complete stop ps (ManyPatterns qs) rest h = many_complete stop ps qs rest h
    starts_complete stop ps (WholeClause c) rest h = whole_complete stop ps c rest h

  -- ---- forms

  takes : TakesOne (Expression own n)
  takes = expression_takes own n

  begins : BeginsElse (Expression own n)
  begins = expression_begins own n

  clauses_take : (subject : Subject) → TakesOne (AnyClause subject)
  clauses_take subject = any_clause_takes n subject (Expression own n) (AnnotatedClause own n subject) takes (annotated_clause_takes own n subject)

  clauses_complete : (subject : Subject) (close : Keyword) (stop : ℕ) (ps : List Piece) (cs : List ClauseTree) (at : ℕ) (more : List Piece) → Row (AnyClause subject) ps cs (word at close ∷ more)
      → rows_at (clause_at own n (expression_at own n) (start_at own n) subject) close (start stop ps) ≡ Ok (cs, start stop (word at close ∷ more))
  clauses_complete subject close stop ps cs at more h =
      rows_complete (clause_at own n (expression_at own n) (start_at own n) subject) (AnyClause subject) (clause_complete subject) (clauses_take subject) (any_clause_begins_no_word own n subject) close stop ps cs at more h

  noted_complete' : (stop : ℕ) (ps : List Piece) (t : Tree) (rest : List Piece) → InNote (Expression own n) (ConstantIn n) ps t rest → form_at own n (expression_at own n) (start_at own n) (start stop ps) ≡ Ok (t, start stop rest)
  unfolding form_at
  noted_complete' stop ps t rest (in_note {ps = qs} {more = more} h g) =
      in_note_complete (constant_at n) (ConstantIn n) (constant_complete n) (constant_takes n) (constant_begins n) (expression_at own n) stop qs t more rest (each stop qs t more h) g

  apply_complete : (stop at bt : ℕ) (ps p1 : List Piece) (f : NamedAt) (ts : List Tree) (rest : List Piece) → FunctionName n ps f (mark bt m.LeftParenthesis ∷ p1) → Enclosed (Expression own n) m.RightParenthesis p1 ts rest → length ts ≡ f.function.arity
      → apply_at own n (expression_at own n) at (start stop ps) ≡ Ok (trees.Call at (callees.Defined f) (trees_of ts), start stop rest)
  unfolding apply_at mark_at
  apply_complete stop at bt ps p1 f ts rest h g count =
      let i = exactly_complete (expression_at own n) (Expression own n) each takes begins m.RightParenthesis stop p1 ts rest g in
      let j : exactly_at (expression_at own n) true f.function.arity (start stop p1) ≡ Ok (ts, start stop (mark i.0 m.RightParenthesis ∷ rest)) = ap (λ (a : ℕ). exactly_at (expression_at own n) true a (start stop p1)) (sym count) ∙ i.1 in
      rw (applied_complete n stop ps f (mark bt m.LeftParenthesis ∷ p1) h, j) refl

  call_complete : (stop at bt ct : ℕ) (ps p1 p2 : List Piece) (a f : List ℕ) (callee : Callee) (ts : List Tree) (rest : List Piece) → AtomIn n ps a (mark bt m.Colon ∷ p1) → AtomIn n p1 f (mark ct m.LeftParenthesis ∷ p2) → Enclosed (Expression own n) m.RightParenthesis p2 ts rest
      → Calls own (record { module_name = a; function_name = f; arity = length ts }) callee → call_at own n (expression_at own n) at (start stop ps) ≡ Ok (trees.Call at callee (trees_of ts), start stop rest)
  unfolding call_at mark_at
  call_complete stop at bt ct ps p1 p2 a f callee ts rest h g i c =
      rw (
        callee_complete at n stop ps a (mark bt m.Colon ∷ p1) h,
        callee_complete at n stop p1 f (mark ct m.LeftParenthesis ∷ p2) g,
        closed_complete (expression_at own n) (Expression own n) each takes begins m.RightParenthesis closing_parenthesis stop p2 ts rest i,
        callee_again own (record { module_name = a; function_name = f; arity = length ts }) callee c,
      ) refl

  primop_complete : (stop at bt ct : ℕ) (ps : List Piece) (a : List ℕ) (callee : Callee) (ts : List Tree) (rest : List Piece) → Enclosed (Expression own n) m.RightParenthesis ps ts rest → Operates a (length ts) callee
      → primop_at own n (expression_at own n) at (start stop (atom bt a ∷ mark ct m.LeftParenthesis ∷ ps)) ≡ Ok (trees.Call at callee (trees_of ts), start stop rest)
  unfolding primop_at mark_at atom_at
  primop_complete stop at bt ct ps a callee ts rest h c =
      rw (closed_complete (expression_at own n) (Expression own n) each takes begins m.RightParenthesis closing_parenthesis stop ps ts rest h, operation_again a (length ts) callee c) refl

  form_complete : Complete (form_at own n (expression_at own n) (start_at own n)) (Form own n (Expression own n) AnyClause)
  unfolding form_at tuple_at list_at values_at let_at case_at do_at try_at catch_at receive_at mark_at word_at
  form_complete stop ps t rest a_number = refl
  form_complete stop ps t rest a_character = refl
  form_complete stop ps t rest a_text = refl
  form_complete stop ps t rest (a_name h) = rw (no_slash_again rest h) refl
  form_complete stop ps t rest a_variable = refl
  form_complete stop ps t rest (a_tuple {ps = qs} {ts = ts} h) = rw (closed_complete (expression_at own n) (Expression own n) each takes begins m.RightBrace closing_brace stop qs ts rest h) refl
  form_complete stop ps t rest (a_list {ps = qs} {ts = ts} h) = rw (brackets_complete (expression_at own n) (Expression own n) each takes begins stop qs ts rest h) refl
  form_complete stop ps t rest (a_join {ps = qs} {more = more} {bt = bt} {ct = ct} {ts = ts} {t = u} h g) = rw (join_complete (expression_at own n) (Expression own n) each takes begins stop bt ct qs more ts u rest h g) refl
  form_complete stop ps t rest (some_values {ps = qs} {ts = ts} h) = rw (closed_complete (expression_at own n) (Expression own n) each takes begins m.Greater closing_greater stop qs ts rest h) refl
  form_complete stop ps t rest (a_noted h) = noted_complete' stop ps t rest h
  form_complete stop ps t rest (a_let {ps = qs} {p1 = p1} {p2 = p2} {bt = bt} {ct = ct} {vs = vs} {t = x} {u = y} h g i) =
      rw (variables_complete n stop qs vs (mark bt m.Equals ∷ p1) h, each stop p1 x (word ct k.In ∷ p2) g, each stop p2 y rest i) refl
  form_complete stop ps t rest (a_case {ps = qs} {p1 = p1} {p2 = p2} {bt = bt} {ct = ct} {t = x} {c = c} {cs = cs} h g i) =
      rw (
        each stop qs x (word bt k.Of ∷ p1) h,
        clause_complete subjects.Values stop p1 c p2 g,
        clauses_complete subjects.Values k.End stop p2 cs ct rest i,
      ) refl
  form_complete stop ps t rest (a_do {ps = qs} {more = more} {t = x} {u = y} h g) = rw (each stop qs x more h, each stop more y rest g) refl
  form_complete stop ps t rest (an_apply {ps = qs} {p1 = p1} {at = at} {bt = bt} {named = f} {ts = ts} h g c) = apply_complete stop at bt qs p1 f ts rest h g c
  form_complete stop ps t rest (a_call {ps = qs} {p1 = p1} {p2 = p2} {at = at} {bt = bt} {ct = ct} {module_name = a} {function_name = f} {callee = callee} {ts = ts} h g i c) = call_complete stop at bt ct qs p1 p2 a f callee ts rest h g i c
  form_complete stop ps t rest (a_primop {ps = qs} {at = at} {bt = bt} {ct = ct} {t = a} {callee = callee} {ts = ts} h c) = primop_complete stop at bt ct qs a callee ts rest h c
  form_complete stop ps t rest (a_try {ps = qs} {p1 = p1} {p2 = p2} {p3 = p3} {p4 = p4} {bt = bt} {ct = ct} {dt = dt} {et = et} {vs = vs} {ws = ws} {t = x} {u = y} {h = z} h g i j l) =
      rw (
        each stop qs x (word bt k.Of ∷ p1) h,
        variables_complete n stop p1 vs (mark ct m.Arrow ∷ p2) g,
        each stop p2 y (word dt k.Catch ∷ p3) i,
        caught_complete n stop p3 ws (mark et m.Arrow ∷ p4) j,
        each stop p4 z rest l,
      ) refl
  form_complete stop ps t rest (a_catch {ps = qs} {t = x} h) = rw (each stop qs x rest h) refl
  form_complete stop ps t rest (a_receive {ps = qs} {p1 = p1} {p2 = p2} {bt = bt} {ct = ct} {cs = cs} {t = x} {u = y} h g i) =
      rw (clauses_complete subjects.Message k.After stop qs cs bt p1 h, each stop p1 x (mark ct m.Arrow ∷ p2) g, each stop p2 y rest i) refl

-- ---- all levels

module _ (own : List ℕ) where
  start_zero : (subject : Subject) → Complete (start_at own 0 subject) (StartsAt own 0 subject)
  unfolding start_at bare_start_at
  start_zero subject stop ps (OnePattern q) rest h = absurd h
  start_zero subject stop ps (ManyPatterns qs) rest (stands_bare (patterns_in_angles {ps = us} h fit)) = rw (angles_complete 0 subject stop us qs rest h fit) refl
  start_zero subject stop ps (ManyPatterns qs) rest (stands_noted h) = absurd h
  start_zero subject stop ps (WholeClause c) rest h = absurd h

  both_complete : (n : ℕ) → Complete (expression_at own n) (Expression own n) × ((subject : Subject) → Complete (start_at own n subject) (StartsAt own n subject))
  unfolding expression_at
  both_complete zero = (λ stop ps t rest h. absurd h, start_zero)
  both_complete (suc n) =
      let h = both_complete n in
      (λ stop ps t rest g. form_complete own n h.0 h.1 stop ps t rest g, λ subject. starts_complete own n h.0 h.1 subject)

  pub expression_complete : (n : ℕ) → Complete (expression_at own n) (Expression own n)
  expression_complete n = (both_complete n).0
