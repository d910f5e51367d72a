-- Where reading stops at a construct past the last level: clauses, and the whole of expressions.
use Rattle.std.proofs.Common.{◌≡◌, ℕ, zero, suc, true, List, [], ◌∷◌, Option, Some, None, Ok, Err, refl, sym, subst, ◌⊎◌, inl, inr}
use Rattle.core_tokens.specs.declared.fault.ReadFault.TheVariants.{TooDeep}
use Rattle.core_tokens.specs.declared.token.Mark.TheVariants as m
use Rattle.core_grammar.specs.declared.subject.Subject.{Subject}
use Rattle.core_grammar.specs.declared.subject.Subject.TheVariants as subjects
use Rattle.core_tokens.specs.declared.token.Keyword.TheVariants as k
use Rattle.core_tokens.specs.Piece.{Piece, Shape}
use Rattle.core_tokens.specs.Piece as lexemes
use Rattle.core_tree.specs.Syntax.{Pattern, Tree, ClauseTree}
use Rattle.core_tree.specs.Expression as trees
use Rattle.core_grammar.specs.Grammar.{mark, Row, InNote, in_note, Either, ConstantIn, PatternForm, matches_noted, PatternIn, one_pattern, many_patterns, PatternsIn, BareClause, Expression, AnnotatedClause}
use Rattle.core_grammar.specs.Depth.{goes_inside, goes_behind, PastMark, passes_mark, BehindVariable, PastWord, passes_word, Part, InItems, InRow, InAnnotation, in_tuple, in_list, in_annotation, DeepConstant, DeepPattern, InAngles, DeepAngles, InForm, in_group, in_values, in_let, in_case, in_do, in_apply, in_call, in_primop, in_try, in_catch, in_receive, InClause, DeepExpression, DeepAnnotatedClause}
use Rattle.core_grammar.specs.inside.Decoder.{State, Read, with_pieces, after_mark, after_word, too_deep, mark_at, word_at, exactly_at, rows_at, in_note_at, constant_at, alias_at, pattern_at}
use Rattle.core_grammar.specs.inside.DecoderForms.{deep_expression, Start, OnePattern, ManyPatterns, WholeClause, clause_of, start_by, started, inside_start_at, aliased, noted_start_at, angles_at, bare_start_by, bare_start_at, start_last, start_next, clause_at, case_at, receive_at, form_by, form_of, form_at, expression_at, start_at}
use Rattle.core_grammar.proofs.Steps.{after_mark_found, Sound}
use Rattle.core_grammar.proofs.SoundLists.{rows_sound}
use Rattle.core_grammar.proofs.SoundNames.{in_note_sound, constant_sound}
use Rattle.core_grammar.proofs.SoundPatterns.{pattern_sound}
use Rattle.core_grammar.proofs.SoundForms.{Starts, StartsInside, inside_sound, clause_sound, expression_sound, start_sound}
use Rattle.core_grammar.proofs.DeepLists.{err_is, bind_err, past_found, Fallen, Fall, Falls, ok_never, never_bind, mark_never, word_never, first_falls, part_falls, mark_falls, word_falls, closed_falls, exactly_falls, row_then_falls, rows_falls}
use Rattle.core_grammar.proofs.DeepNames.{too_deep_falls, InConstants, in_note_falls, constant_falls, alias_falls, pattern_falls}
use Rattle.core_grammar.proofs.DeepForms.{deep_expression_falls, fault_never, name_never, last_falls, tuple_falls, list_falls, values_falls, let_falls, do_falls, apply_falls, call_falls, primop_falls, try_falls, catch_falls, behind_patterns_falls}

module _ (at : ℕ) where
  module _ (own : List ℕ) (n : ℕ) (inner : State → Read Tree) (Inner : List Piece → Tree → List Piece → Type 0) (Deep : List Piece → Type 0) (each : Sound None inner Inner) (falls : Falls at inner Deep) where
    module _ (subject : Subject) (Whole : List Piece → ClauseTree → List Piece → Type 0) (DeepWhole : List Piece → Type 0) where
      abbrev Begins : List Piece → Start → List Piece → Type 0
      Begins ps x rest = Starts own n inner Inner each subject Whole ps x rest

      abbrev BeginsInside : List Piece → Start → List Piece → Type 0
      BeginsInside ps x rest = StartsInside own n inner Inner each subject Whole ps x rest

      abbrev AnyClause : List Piece → ClauseTree → List Piece → Type 0
      AnyClause ps c rest = Either (BareClause (PatternsIn n subject) Inner) Whole ps c rest

      abbrev DeepAny : List Piece → Type 0
      DeepAny ps = InClause at n subject Inner Deep ps ⊎ DeepWhole ps

      clause_of_falls : (x : Start) (ps : List Piece) (s : State) → clause_of own n inner x s ≡ Err (TooDeep at) → (s.refused ≡ None) × (Begins ps x s.pieces → InClause at n subject Inner Deep ps)
      clause_of_falls (OnePattern q) ps s e = let d = behind_patterns_falls at own n inner Inner Deep each falls (q ∷ []) s e in (d.0, λ g. goes_behind (one_pattern g) d.1)
      clause_of_falls (ManyPatterns qs) ps s e = let d = behind_patterns_falls at own n inner Inner Deep each falls qs s e in (d.0, λ g. goes_behind (many_patterns g) d.1)
      clause_of_falls (WholeClause c) ps s e = absurd (ok_never at (c, s) e)

      start_by_falls : (x : Start) (o : Option (List Piece)) (ps : List Piece) (s : State) → start_by own n inner x o s ≡ Err (TooDeep at) → (s.refused ≡ None) × (Begins ps x s.pieces → InClause at n subject Inner Deep ps)
      start_by_falls x None ps s e = absurd (ok_never at (x, s) e)
      start_by_falls x (Some us) ps s e = first_falls at (clause_of own n inner x s) _ s (λ qs. Begins ps x qs → InClause at n subject Inner Deep ps) (clause_of_falls x ps s) (λ c. ok_never at _) e

      started_falls : (x : Start) (o : Option (List Piece)) (ps : List Piece) (s : State) → started own n inner x o s ≡ Err (TooDeep at) → (s.refused ≡ None) × (Begins ps x s.pieces → InClause at n subject Inner Deep ps)
      started_falls (OnePattern q) o ps s e = start_by_falls (OnePattern q) o ps s e
      started_falls (ManyPatterns qs) o ps s e = start_by_falls (ManyPatterns qs) o ps s e
      started_falls (WholeClause c) o ps s e = absurd (ok_never at (WholeClause c, s) e)

      -- inside what a clause begins with, and inside that in parentheses
      abbrev DeepBegin : List Piece → Type 0
      DeepBegin ps = DeepPattern at n ps ⊎ (DeepAngles at n subject ps ⊎ DeepWhole ps)

      abbrev DeepInside : List Piece → Type 0
      DeepInside ps = DeepPattern at n ps ⊎ (DeepAngles at n subject ps ⊎ DeepAny ps)

      to_clause : (ps : List Piece) → DeepBegin ps → DeepAny ps
      to_clause ps (inl d) = inl (goes_inside (inl d))
      to_clause ps (inr (inl d)) = inl (goes_inside (inr d))
      to_clause ps (inr (inr d)) = inr d

      to_inside : (ps : List Piece) → DeepBegin ps → DeepInside ps
      to_inside ps (inl d) = inl d
      to_inside ps (inr (inl d)) = inr (inl d)
      to_inside ps (inr (inr d)) = inr (inr (inr d))

      module _ (start : State → Read Start) (starts : Sound None start Begins) (start_falls : Falls at start DeepBegin) where
        inside_falls : Falls at (inside_start_at own n inner start) DeepInside
        unfolding inside_start_at
        inside_falls s e = by (bind_err (start s) _ (TooDeep at) e)
          where
            by : (start s ≡ Err (TooDeep at)) ⊎ ((x : Start × State) × (start s ≡ Ok x) × (started own n inner x.0 (after_word k.When x.1.pieces) x.1 ≡ Err (TooDeep at))) → Fallen at s DeepInside
            by (inl i) = let d = start_falls s i in (d.0, to_inside s.pieces d.1)
            by (inr i) =
                let d = started_falls i.0.0 (after_word k.When i.0.1.pieces) s.pieces i.0.1 i.2 in
                let h = starts s i.0.0 i.0.1 i.1 d.0 in
                (h.0, inr (inr (inl (d.1 h.1))))

        -- one level higher
        abbrev DeepNext : List Piece → Type 0
        DeepNext ps = DeepPattern at (suc n) ps ⊎ (DeepAngles at (suc n) subject ps ⊎ InAnnotation AnyClause DeepAny (ConstantIn n) (DeepConstant at n) ps)

        to_next : (bt : ℕ) (ps : List Piece) → Part BeginsInside DeepInside (InConstants at (ConstantIn n) (DeepConstant at n)) ps → DeepNext (mark bt m.LeftParenthesis ∷ ps)
        to_next bt ps (goes_inside (inl d)) = inl (goes_inside (in_annotation (passes_mark (goes_inside d))))
        to_next bt ps (goes_inside (inr (inl d))) = inr (inl (inr (passes_mark (goes_inside d))))
        to_next bt ps (goes_inside (inr (inr d))) = inr (inr (passes_mark (goes_inside d)))
        to_next bt ps (goes_behind {x = OnePattern q} h r) = inl (goes_inside (in_annotation (passes_mark (goes_behind h r))))
        to_next bt ps (goes_behind {x = ManyPatterns qs} h r) = inr (inl (inr (passes_mark (goes_behind h r))))
        to_next bt ps (goes_behind {x = WholeClause c} h r) = inr (inr (passes_mark (goes_behind h r)))

        one_noted : (ps : List Piece) (q : Pattern) (rest : List Piece) → InNote BeginsInside (ConstantIn n) ps (OnePattern q) rest → PatternForm (PatternIn n) (ConstantIn n) ps q rest
        one_noted ps q rest (in_note h g) = matches_noted (in_note h g)

        aliased_falls : (x : Start) (ps : List Piece) (s : State) → aliased own n inner x s ≡ Err (TooDeep at) → (s.refused ≡ None) × (InNote BeginsInside (ConstantIn n) ps x s.pieces → DeepPattern at (suc n) ps)
        aliased_falls (OnePattern q) ps s e =
            let d = first_falls at (alias_at (pattern_at n) (constant_at n) q s) _ s (BehindVariable (PastMark m.Equals (DeepPattern at n)) q) (alias_falls at (pattern_at n) (constant_at n) (PatternIn n) (ConstantIn n) (DeepPattern at n) (DeepConstant at n) (pattern_sound n) (constant_sound n) (pattern_falls at n) (constant_falls at n) q s) (λ p. ok_never at _) e in
            (d.0, λ g. goes_behind (one_noted ps q s.pieces g) d.1)
        aliased_falls (ManyPatterns qs) ps s e = absurd (ok_never at (ManyPatterns qs, s) e)
        aliased_falls (WholeClause c) ps s e = absurd (ok_never at (WholeClause c, s) e)

        abbrev inside : State → Read Start
        inside s = inside_start_at own n inner start s

        noted_start_falls : (bt : ℕ) (ps : List Piece) (s : State) → noted_start_at own n inner start (with_pieces s ps) ≡ Err (TooDeep at) → (s.refused ≡ None) × DeepNext (mark bt m.LeftParenthesis ∷ ps)
        unfolding noted_start_at
        noted_start_falls bt ps s e = by (bind_err (in_note_at (constant_at n) inside (with_pieces s ps)) _ (TooDeep at) e)
          where
            by : (in_note_at (constant_at n) inside (with_pieces s ps) ≡ Err (TooDeep at)) ⊎ ((x : Start × State) × (in_note_at (constant_at n) inside (with_pieces s ps) ≡ Ok x) × (aliased own n inner x.0 x.1 ≡ Err (TooDeep at)))
                → (s.refused ≡ None) × DeepNext (mark bt m.LeftParenthesis ∷ ps)
            by (inl i) =
                let d = in_note_falls at (constant_at n) (ConstantIn n) (DeepConstant at n) (constant_sound n) (constant_falls at n) inside BeginsInside DeepInside (inside_sound own n inner Inner each subject Whole start starts) inside_falls (with_pieces s ps) i in
                (d.0, to_next bt ps d.1)
            by (inr i) =
                let d = aliased_falls i.0.0 (mark bt m.LeftParenthesis ∷ ps) i.0.1 i.2 in
                let h = in_note_sound (constant_at n) (ConstantIn n) (constant_sound n) inside BeginsInside (inside_sound own n inner Inner each subject Whole start starts) bt ps s i.0.0 i.0.1 i.1 d.0 in
                (h.0, inl (d.1 h.1))

    -- clauses of a `case` and of a `receive`, each with its own starts
    module _ (Whole : Subject → List Piece → ClauseTree → List Piece → Type 0) (DeepWhole : Subject → List Piece → Type 0) (start : Subject → State → Read Start) (starts : (subject : Subject) → Sound None (start subject) (Begins subject (Whole subject) (DeepWhole subject)))
        (start_falls : (subject : Subject) → Falls at (start subject) (DeepBegin subject (Whole subject) (DeepWhole subject))) where
      abbrev AnyOf : Subject → List Piece → ClauseTree → List Piece → Type 0
      AnyOf subject ps c rest = AnyClause subject (Whole subject) (DeepWhole subject) ps c rest

      abbrev DeepOf : Subject → List Piece → Type 0
      DeepOf subject ps = DeepAny subject (Whole subject) (DeepWhole subject) ps

      clause_falls : (subject : Subject) → Falls at (clause_at own n inner start subject) (DeepOf subject)
      unfolding clause_at
      clause_falls subject s e = by (bind_err (start subject s) _ (TooDeep at) e)
        where
          by : (start subject s ≡ Err (TooDeep at)) ⊎ ((x : Start × State) × (start subject s ≡ Ok x) × (clause_of own n inner x.0 x.1 ≡ Err (TooDeep at))) → Fallen at s (DeepOf subject)
          by (inl i) = let d = start_falls subject s i in (d.0, to_clause subject (Whole subject) (DeepWhole subject) s.pieces d.1)
          by (inr i) =
              let d = clause_of_falls subject (Whole subject) (DeepWhole subject) i.0.0 s.pieces i.0.1 i.2 in
              let h = starts subject s i.0.0 i.0.1 i.1 d.0 in
              (h.0, inl (d.1 h.1))

      spelt : (subject : Subject) → Sound None (clause_at own n inner start subject) (AnyOf subject)
      spelt subject = clause_sound own n inner Inner each Whole start starts subject

      case_falls : (bt : ℕ) → Falls at (case_at own n inner start bt) (Part Inner Deep (PastWord k.Of (InRow (AnyOf subjects.Values) (DeepOf subjects.Values))))
      unfolding case_at
      case_falls bt s =
          part_falls at inner Inner Deep (PastWord k.Of (InRow (AnyOf subjects.Values) (DeepOf subjects.Values))) each falls s _ (λ t s1.
          word_falls at k.Of (InRow (AnyOf subjects.Values) (DeepOf subjects.Values)) s1 _ (λ s2.
          row_then_falls at (clause_at own n inner start subjects.Values) (AnyOf subjects.Values) (DeepOf subjects.Values) (spelt subjects.Values) (clause_falls subjects.Values) s2 _ (λ c s3.
          first_falls at (rows_at (clause_at own n inner start subjects.Values) k.End s3) _ s3 (InRow (AnyOf subjects.Values) (DeepOf subjects.Values)) (rows_falls at (clause_at own n inner start subjects.Values) (AnyOf subjects.Values) (DeepOf subjects.Values) (spelt subjects.Values) (clause_falls subjects.Values) k.End s3) (λ cs.
          never_bind at (word_at k.End cs.1) _ (word_never at k.End cs.1) (λ s4. ok_never at _)))))

      -- the timeout of a `receive`, and what is done then
      abbrev Expiry : List Piece → Type 0
      Expiry ps = PastWord k.After (Part Inner Deep (PastMark m.Arrow Deep)) ps

      receive_falls : (bt : ℕ) → Falls at (receive_at own n inner start bt) (Part (Row (AnyOf subjects.Message)) (InRow (AnyOf subjects.Message) (DeepOf subjects.Message)) Expiry)
      unfolding receive_at
      receive_falls bt s =
          part_falls at (rows_at (clause_at own n inner start subjects.Message) k.After) (Row (AnyOf subjects.Message)) (InRow (AnyOf subjects.Message) (DeepOf subjects.Message)) Expiry
          (rows_sound (clause_at own n inner start subjects.Message) (AnyOf subjects.Message) (spelt subjects.Message) k.After)
          (rows_falls at (clause_at own n inner start subjects.Message) (AnyOf subjects.Message) (DeepOf subjects.Message) (spelt subjects.Message) (clause_falls subjects.Message) k.After) s _ (λ cs s1.
          word_falls at k.After (Part Inner Deep (PastMark m.Arrow Deep)) s1 _ (λ s2.
          part_falls at inner Inner Deep (PastMark m.Arrow Deep) each falls s2 _ (λ t s3.
          mark_falls at m.Arrow Deep s3 _ (λ s4. last_falls at own n inner Inner Deep each falls s4 _))))

      -- an expression whose first token is this one
      abbrev Finds : ℕ → Shape → List Piece → State → Type 0
      Finds bt shape ps s = (s.refused ≡ None) × InForm at n Inner Deep AnyOf DeepOf (record { at = bt; shape = shape } ∷ ps)

      form_by_falls : (bt : ℕ) (shape : Shape) (ps : List Piece) (s : State) → form_by own n inner start bt shape ps s ≡ Err (TooDeep at) → Finds bt shape ps s
      form_by_falls bt (lexemes.Integer i) ps s e = absurd (ok_never at (trees.Integer i, with_pieces s ps) e)
      form_by_falls bt (lexemes.Character c) ps s e = absurd (ok_never at (trees.Character c, with_pieces s ps) e)
      form_by_falls bt (lexemes.Text cs) ps s e = absurd (ok_never at (trees.Text cs, with_pieces s ps) e)
      form_by_falls bt (lexemes.Atom t) ps s e = absurd (name_never at (after_mark m.Slash ps) t ps s e)
      form_by_falls bt (lexemes.Variable v) ps s e = absurd (ok_never at (trees.Variable (record { at = bt; name = v }), with_pieces s ps) e)
      form_by_falls bt (lexemes.Mark m.LeftBrace) ps s e = let d = tuple_falls at own n inner Inner Deep each falls (with_pieces s ps) e in (d.0, in_group (in_tuple (passes_mark d.1)))
      form_by_falls bt (lexemes.Mark m.LeftBracket) ps s e = let d = list_falls at own n inner Inner Deep each falls (with_pieces s ps) e in (d.0, in_group (in_list (passes_mark d.1)))
      form_by_falls bt (lexemes.Mark m.Less) ps s e = let d = values_falls at own n inner Inner Deep each falls (with_pieces s ps) e in (d.0, in_values (passes_mark d.1))
      form_by_falls bt (lexemes.Mark m.LeftParenthesis) ps s e =
          let d = in_note_falls at (constant_at n) (ConstantIn n) (DeepConstant at n) (constant_sound n) (constant_falls at n) inner Inner Deep each falls (with_pieces s ps) e in
          (d.0, in_group (in_annotation (passes_mark d.1)))
      form_by_falls bt (lexemes.Word k.Let) ps s e = let d = let_falls at own n inner Inner Deep each falls (with_pieces s ps) e in (d.0, in_let (passes_word d.1))
      form_by_falls bt (lexemes.Word k.Case) ps s e = let d = case_falls bt (with_pieces s ps) e in (d.0, in_case (passes_word d.1))
      form_by_falls bt (lexemes.Word k.Do) ps s e = let d = do_falls at own n inner Inner Deep each falls (with_pieces s ps) e in (d.0, in_do (passes_word d.1))
      form_by_falls bt (lexemes.Word k.Apply) ps s e = let d = apply_falls at own n inner Inner Deep each falls bt (with_pieces s ps) e in (d.0, in_apply (passes_word d.1))
      form_by_falls bt (lexemes.Word k.Call) ps s e = let d = call_falls at own n inner Inner Deep each falls bt (with_pieces s ps) e in (d.0, in_call (passes_word d.1))
      form_by_falls bt (lexemes.Word k.Primop) ps s e = let d = primop_falls at own n inner Inner Deep each falls bt (with_pieces s ps) e in (d.0, in_primop (passes_word d.1))
      form_by_falls bt (lexemes.Word k.Try) ps s e = let d = try_falls at own n inner Inner Deep each falls bt (with_pieces s ps) e in (d.0, in_try (passes_word d.1))
      form_by_falls bt (lexemes.Word k.Receive) ps s e = let d = receive_falls bt (with_pieces s ps) e in (d.0, in_receive (passes_word d.1))
      form_by_falls bt (lexemes.Word k.Catch) ps s e = let d = catch_falls at own n inner Inner Deep each falls bt (with_pieces s ps) e in (d.0, in_catch (passes_word d.1))
      form_by_falls bt shape ps s e = absurd (fault_never at s e)

      form_of_falls : (ps : List Piece) (s : State) → form_of own n inner start ps s ≡ Err (TooDeep at) → (s.refused ≡ None) × InForm at n Inner Deep AnyOf DeepOf ps
      form_of_falls [] s e = absurd (fault_never at s e)
      form_of_falls (p ∷ ps) s e = form_by_falls p.at p.shape ps s e

      form_falls : Falls at (form_at own n inner start) (InForm at n Inner Deep AnyOf DeepOf)
      unfolding form_at
      form_falls s e = form_of_falls s.pieces s e

  -- ---- what a clause begins with

  module _ (own : List ℕ) where
    abbrev DeepStart : ℕ → Subject → List Piece → Type 0
    DeepStart n subject ps = DeepPattern at n ps ⊎ (DeepAngles at n subject ps ⊎ DeepAnnotatedClause at own n subject ps)

    angles_fall : (n : ℕ) (subject : Subject) → Falls at (angles_at n subject) (InAngles at n subject)
    unfolding angles_at
    angles_fall n subjects.Values s = closed_falls at (pattern_at n) (PatternIn n) (DeepPattern at n) (pattern_sound n) (pattern_falls at n) m.Greater s
    angles_fall n subjects.Message s =
        first_falls at (exactly_at (pattern_at n) true 1 s) _ s (InItems (PatternIn n) (DeepPattern at n) 1) (exactly_falls at (pattern_at n) (PatternIn n) (DeepPattern at n) (pattern_sound n) (pattern_falls at n) 1 s) (λ qs.
        never_bind at (mark_at m.Greater qs.1) _ (mark_never at m.Greater qs.1) (λ s1. ok_never at _))

    bare_start_by_falls : (n : ℕ) (subject : Subject) (o : Option (List Piece)) (s : State) → after_mark m.Less s.pieces ≡ o → Fall at (bare_start_by n subject o s) s (DeepStart n subject)
    bare_start_by_falls n subject (Some ps) s is e =
        let d = first_falls at (angles_at n subject (with_pieces s ps)) _ (with_pieces s ps) (InAngles at n subject) (angles_fall n subject (with_pieces s ps)) (λ qs. ok_never at _) e in
        (d.0, inr (inl (inl (past_found m.Less (InAngles at n subject) s.pieces ps is d.1))))
    bare_start_by_falls n subject None s is e =
        let d = first_falls at (pattern_at n s) _ s (DeepPattern at n) (pattern_falls at n s) (λ q. ok_never at _) e in
        (d.0, inl d.1)

    bare_start_falls : (n : ℕ) (subject : Subject) → Falls at (bare_start_at n subject) (DeepStart n subject)
    unfolding bare_start_at
    bare_start_falls n subject s e = bare_start_by_falls n subject (after_mark m.Less s.pieces) s refl e

    start_last_falls : (subject : Subject) (o : Option (List Piece)) (s : State) → after_mark m.LeftParenthesis s.pieces ≡ o → Fall at (start_last subject o s) s (DeepStart 0 subject)
    start_last_falls subject (Some ps) s is e = let d = too_deep_falls at s ps is (err_is {A = Start × State} (too_deep s) (TooDeep at) e) in (d.0, inr (inr d.1))
    start_last_falls subject None s is e = bare_start_falls 0 subject s e

    start_next_falls : (n : ℕ) (subject : Subject) → Falls at (expression_at own n) (DeepExpression at own n) → Falls at (start_at own n subject) (DeepStart n subject) → (o : Option (List Piece)) (s : State) → after_mark m.LeftParenthesis s.pieces ≡ o
        → Fall at (start_next own n subject (expression_at own n) (start_at own n subject) o s) s (DeepStart (suc n) subject)
    start_next_falls n subject falls begins (Some ps) s is e =
        let f = after_mark_found m.LeftParenthesis s.pieces ps is in
        let d = noted_start_falls own n (expression_at own n) (Expression own n) (DeepExpression at own n) (expression_sound own n) falls subject (AnnotatedClause own n subject) (DeepAnnotatedClause at own n subject) (start_at own n subject) (start_sound own n subject) begins f.0 ps s e in
        (d.0, subst (λ (qs : List Piece). DeepStart (suc n) subject qs) (sym f.1) d.1)
    start_next_falls n subject falls begins None s is e = bare_start_falls (suc n) subject s e

    both_falls : (n : ℕ) → Falls at (expression_at own n) (DeepExpression at own n) × ((subject : Subject) → Falls at (start_at own n subject) (DeepStart n subject))
    unfolding expression_at start_at
    both_falls zero = (λ s e. deep_expression_falls at s (err_is {A = Tree × State} (deep_expression s) (TooDeep at) e), λ subject s e. start_last_falls subject (after_mark m.LeftParenthesis s.pieces) s refl e)
    both_falls (suc n) =
        let h = both_falls n in (
          λ s e. form_falls own n (expression_at own n) (Expression own n) (DeepExpression at own n) (expression_sound own n) h.0 (AnnotatedClause own n) (DeepAnnotatedClause at own n) (start_at own n) (start_sound own n) h.1 s e,
          λ subject s e. start_next_falls n subject h.0 (h.1 subject) (after_mark m.LeftParenthesis s.pieces) s refl e,
        )

    pub expression_falls : (n : ℕ) → Falls at (expression_at own n) (DeepExpression at own n)
    expression_falls n = (both_falls n).0
