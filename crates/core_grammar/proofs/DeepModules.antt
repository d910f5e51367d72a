-- Where reading stops at a construct past the last level: definitions and modules.
use Rattle.std.proofs.Common.{◌≡◌, ℕ, zero, suc, List, [], ◌∷◌, Option, Some, None, Ok, Err, refl, sym, subst, ◌⊎◌, inl, inr}
use Rattle.core_tokens.specs.declared.fault.ReadFault.TheVariants.{TooDeep}
use Rattle.core_tokens.specs.declared.token.Mark.TheVariants as m
use Rattle.core_tokens.specs.declared.token.Keyword.TheVariants as k
use Rattle.core_tokens.specs.Piece.{Piece}
use Rattle.core_tree.specs.Syntax.{NamedAt}
use Rattle.core_grammar.specs.declared.unserved.Unserved.{Unserved}
use Rattle.core_grammar.specs.Grammar.{mark, level_limit, Enclosed, ConstantIn, FunctionName, BareAtom, Variable, Attribute, BareDefinition, Definition, BareModule}
use Rattle.core_grammar.specs.Depth.{Nowhere, PartOf, goes_inside, goes_behind, PastMark, passes_mark, Part, InItems, InCommas, InRow, Exactly, DeepConstant, DeepAnnotated, DeepName, DeepVariable, DeepExpression, FunOf, DeepBareFun, DeepFun, DeepBareDefinition, DeepDefinition, DeepAttribute, BehindExports, DeepBareModule, OpensPastLast}
use Rattle.core_grammar.specs.inside.Decoder.{State, with_pieces, after_mark, fault_of_unserved, fault, too_deep, mark_at, word_at, atom_at, bare_name_at, closed_at, rows_at, constant_at, noted_at, function_name_at, variable_at}
use Rattle.core_grammar.specs.inside.DecoderForms.{expression_at}
use Rattle.core_grammar.specs.inside.DecoderModules.{attribute_at, bare_fun_at, fun_at, behind_name_at, Opening, TheName, WholeDefinition, opening_by, opened, inside_opening_at, bare_opening_at, opening_last, opening_next, opening_at, definition_of_opening, definition_at, front_at, bare_module_at, ended, module_at}
use Rattle.core_grammar.proofs.Steps.{after_mark_found}
use Rattle.core_grammar.proofs.SoundLists.{closed_sound}
use Rattle.core_grammar.proofs.SoundNames.{constant_sound, function_name_sound, variable_sound}
use Rattle.core_grammar.proofs.SoundModules.{attribute_sound, bare_fun_sound, Opens, OpensInside, inside_opening_sound, opening_sound, definition_sound, IsModule, bare_module_sound, either_module}
use Rattle.core_grammar.proofs.DeepLists.{err_is, bind_err, unserved_other, fault_other, Never, Fallen, Fall, Falls, never_other, ok_never, never_bind, word_never, atom_never, bare_name_never, first_falls, part_falls, part_of_falls, mark_falls, word_falls, nested_falls, closed_falls, exactly_then_falls, rows_falls}
use Rattle.core_grammar.proofs.DeepNames.{too_deep_falls, InConstants, in_note_falls, constant_falls, noted_falls, function_name_falls, variable_falls}
use Rattle.core_grammar.proofs.DeepForms.{atom_sound}
use Rattle.core_grammar.proofs.DeepClauses.{expression_falls}

module _ (at : ℕ) where
  attribute_falls : (n : ℕ) → Falls at (attribute_at n) (DeepAttribute at n)
  unfolding attribute_at
  attribute_falls n s =
      part_falls at atom_at BareAtom Nowhere (PastMark m.Equals (DeepConstant at n)) atom_sound (λ t h. absurd (atom_never at t h)) s _ (λ a s1.
      mark_falls at m.Equals (DeepConstant at n) s1 _ (λ s2.
      first_falls at (constant_at n s2) _ s2 (DeepConstant at n) (constant_falls at n s2) (λ c. ok_never at _)))

  module _ (own : List ℕ) where
    -- ---- functions

    -- after the parenthesis of a function's variables
    abbrev BehindParenthesis : ℕ → ℕ → List Piece → Type 0
    BehindParenthesis arity n ps = Part (Exactly (Variable n) m.RightParenthesis arity) (InItems (Variable n) (DeepVariable at n) arity) (PastMark m.Arrow (DeepExpression at own n)) ps

    bare_fun_falls : (arity n : ℕ) → Falls at (bare_fun_at own arity n) (DeepBareFun at own arity n)
    unfolding bare_fun_at
    bare_fun_falls arity n s =
        word_falls at k.Fun (PastMark m.LeftParenthesis (BehindParenthesis arity n)) s _ (λ s1.
        mark_falls at m.LeftParenthesis (BehindParenthesis arity n) s1 _ (λ s2.
        exactly_then_falls at (variable_at n) (Variable n) (DeepVariable at n) (variable_sound n) (variable_falls at n) m.RightParenthesis arity (PastMark m.Arrow (DeepExpression at own n)) s2 _ (λ vs s3.
        mark_falls at m.Arrow (DeepExpression at own n) s3 _ (λ s4.
        first_falls at (expression_at own n s4) _ s4 (DeepExpression at own n) (expression_falls at own n s4) (λ b. ok_never at _)))))

    fun_falls : (arity n : ℕ) → Falls at (fun_at own arity n) (DeepFun at own arity n)
    unfolding fun_at
    fun_falls arity n s e = noted_falls at (bare_fun_at own arity) (FunOf own arity) (DeepBareFun at own arity) (bare_fun_sound own arity) (bare_fun_falls arity) n s e

    -- ---- definitions

    behind_name_falls : (n : ℕ) (named : NamedAt) → Falls at (behind_name_at own n named) (PastMark m.Equals (DeepFun at own named.function.arity n))
    unfolding behind_name_at
    behind_name_falls n named s =
        mark_falls at m.Equals (DeepFun at own named.function.arity n) s _ (λ s1.
        first_falls at (fun_at own named.function.arity n s1) _ s1 (DeepFun at own named.function.arity n) (fun_falls named.function.arity n s1) (λ f. ok_never at _))

    -- inside what a definition begins with, and inside that in parentheses
    abbrev DeepOpening : ℕ → List Piece → Type 0
    DeepOpening n ps = DeepName at n ps ⊎ DeepAnnotated at (BareDefinition own) (DeepBareDefinition at own) n ps

    abbrev DeepInside : ℕ → List Piece → Type 0
    DeepInside n ps = DeepName at n ps ⊎ DeepDefinition at own n ps

    -- after a name that comes before these tokens
    abbrev BehindName : ℕ → NamedAt → List Piece → List Piece → Type 0
    BehindName n named ps rest = FunctionName n ps named rest → DeepBareDefinition at own n ps

    behind_falls : (n : ℕ) (named : NamedAt) (ps : List Piece) (s : State) → Fall at (behind_name_at own n named s) s (BehindName n named ps)
    behind_falls n named ps s e = let d = behind_name_falls n named s e in (d.0, λ g. goes_behind g d.1)

    opening_by_falls : (n : ℕ) (named : NamedAt) (o : Option (List Piece)) (ps : List Piece) (s : State) → Fall at (opening_by own n named o s) s (BehindName n named ps)
    opening_by_falls n named None ps s = λ e. absurd (ok_never at (TheName named, s) e)
    opening_by_falls n named (Some us) ps s = first_falls at (behind_name_at own n named s) _ s (BehindName n named ps) (behind_falls n named ps s) (λ d. ok_never at _)

    opened_falls : (n : ℕ) (x : Opening) (ps : List Piece) (s : State) → opened own n x s ≡ Err (TooDeep at) → (s.refused ≡ None) × (Opens own n ps x s.pieces → DeepBareDefinition at own n ps)
    opened_falls n (TheName named) ps s e = opening_by_falls n named (after_mark m.Equals s.pieces) ps s e
    opened_falls n (WholeDefinition d) ps s e = absurd (ok_never at (WholeDefinition d, s) e)

    to_inside : (n : ℕ) (ps : List Piece) → DeepOpening n ps → DeepInside n ps
    to_inside n ps (inl d) = inl d
    to_inside n ps (inr d) = inr (inr d)

    inside_falls : (n : ℕ) → Falls at (opening_at own n) (DeepOpening n) → Falls at (inside_opening_at own n (opening_at own n)) (DeepInside n)
    unfolding inside_opening_at
    inside_falls n opens s e = by (bind_err (opening_at own n s) _ (TooDeep at) e)
      where
        by : (opening_at own n s ≡ Err (TooDeep at)) ⊎ ((x : Opening × State) × (opening_at own n s ≡ Ok x) × (opened own n x.0 x.1 ≡ Err (TooDeep at))) → Fallen at s (DeepInside n)
        by (inl i) = let d = opens s i in (d.0, to_inside n s.pieces d.1)
        by (inr i) =
            let d = opened_falls n i.0.0 s.pieces i.0.1 i.2 in
            let h = opening_sound own n s i.0.0 i.0.1 i.1 d.0 in
            (h.0, inr (inl (d.1 h.1)))

    bare_opening_never : (s : State) → Never at (bare_opening_at own s)
    unfolding bare_opening_at
    bare_opening_never s = never_bind at (bare_name_at s) _ (bare_name_never at s) (λ x. ok_never at _)

    opening_last_falls : (o : Option (List Piece)) (s : State) → after_mark m.LeftParenthesis s.pieces ≡ o → Fall at (opening_last own o s) s (DeepOpening 0)
    opening_last_falls (Some ps) s is e = let d = too_deep_falls at s ps is (err_is {A = Opening × State} (too_deep s) (TooDeep at) e) in (d.0, inr d.1)
    opening_last_falls None s is e = absurd (bare_opening_never s e)

    to_opening : (n bt : ℕ) (ps : List Piece) → Part (OpensInside own n) (DeepInside n) (InConstants at (ConstantIn n) (DeepConstant at n)) ps → DeepOpening (suc n) (mark bt m.LeftParenthesis ∷ ps)
    to_opening n bt ps (goes_inside (inl d)) = inl (inr (passes_mark (goes_inside d)))
    to_opening n bt ps (goes_inside (inr d)) = inr (passes_mark (goes_inside d))
    to_opening n bt ps (goes_behind {x = TheName named} h r) = inl (inr (passes_mark (goes_behind h r)))
    to_opening n bt ps (goes_behind {x = WholeDefinition d} h r) = inr (passes_mark (goes_behind h r))

    opening_next_falls : (n : ℕ) → Falls at (opening_at own n) (DeepOpening n) → (o : Option (List Piece)) (s : State) → after_mark m.LeftParenthesis s.pieces ≡ o → Fall at (opening_next own n (opening_at own n) o s) s (DeepOpening (suc n))
    opening_next_falls n opens (Some ps) s is e =
        let f = after_mark_found m.LeftParenthesis s.pieces ps is in
        let d = in_note_falls at (constant_at n) (ConstantIn n) (DeepConstant at n) (constant_sound n) (constant_falls at n) (inside_opening_at own n (opening_at own n)) (OpensInside own n) (DeepInside n) (inside_opening_sound own n (opening_at own n) (opening_sound own n)) (inside_falls n opens)
        (with_pieces s ps) e in
        (d.0, subst (λ (qs : List Piece). DeepOpening (suc n) qs) (sym f.1) (to_opening n f.0 ps d.1))
    opening_next_falls n opens None s is e = absurd (bare_opening_never s e)

    opening_falls : (n : ℕ) → Falls at (opening_at own n) (DeepOpening n)
    unfolding opening_at
    opening_falls zero s e = opening_last_falls (after_mark m.LeftParenthesis s.pieces) s refl e
    opening_falls (suc n) s e = opening_next_falls n (opening_falls n) (after_mark m.LeftParenthesis s.pieces) s refl e

    to_definition : (n : ℕ) (ps : List Piece) → DeepOpening n ps → DeepDefinition at own n ps
    to_definition n ps (inl d) = inl (goes_inside d)
    to_definition n ps (inr d) = inr d

    definition_of_falls : (n : ℕ) (x : Opening) (ps : List Piece) (s : State) → definition_of_opening own n x s ≡ Err (TooDeep at) → (s.refused ≡ None) × (Opens own n ps x s.pieces → DeepBareDefinition at own n ps)
    definition_of_falls n (TheName named) ps s e = behind_falls n named ps s e
    definition_of_falls n (WholeDefinition d) ps s e = absurd (ok_never at (d, s) e)

    definition_falls : (n : ℕ) → Falls at (definition_at own n) (DeepDefinition at own n)
    unfolding definition_at
    definition_falls n s e = by (bind_err (opening_at own n s) _ (TooDeep at) e)
      where
        by : (opening_at own n s ≡ Err (TooDeep at)) ⊎ ((x : Opening × State) × (opening_at own n s ≡ Ok x) × (definition_of_opening own n x.0 x.1 ≡ Err (TooDeep at))) → Fallen at s (DeepDefinition at own n)
        by (inl i) = let d = opening_falls n s i in (d.0, to_definition n s.pieces d.1)
        by (inr i) =
            let d = definition_of_falls n i.0.0 s.pieces i.0.1 i.2 in
            let h = opening_sound own n s i.0.0 i.0.1 i.1 d.0 in
            (h.0, inl (d.1 h.1))

  -- ---- modules

  -- after the name
  abbrev BehindAtom : ℕ → List ℕ → List Piece → Type 0
  BehindAtom n name ps = PastMark m.LeftBracket (Part (Enclosed (FunctionName n) m.RightBracket) (InCommas (FunctionName n) (DeepName at n)) (BehindExports at n name)) ps

  -- after the brackets of the exports, and of the attributes
  abbrev InExports : ℕ → List ℕ → List Piece → Type 0
  InExports n name ps = Part (Enclosed (FunctionName n) m.RightBracket) (InCommas (FunctionName n) (DeepName at n)) (BehindExports at n name) ps

  abbrev InAttributes : ℕ → List ℕ → List Piece → Type 0
  InAttributes n name ps = Part (Enclosed (Attribute (ConstantIn n)) m.RightBracket) (InCommas (Attribute (ConstantIn n)) (DeepAttribute at n)) (InRow (Definition name n) (DeepDefinition at name n)) ps

  abbrev InDefinitions : ℕ → List ℕ → List Piece → Type 0
  InDefinitions n name ps = InRow (Definition name n) (DeepDefinition at name n) ps

  bare_module_falls : (n : ℕ) → Falls at (bare_module_at n) (DeepBareModule at n)
  unfolding bare_module_at front_at
  bare_module_falls n s =
      nested_falls at (word_at k.Module s) _ _ s (DeepBareModule at n) (word_falls at k.Module (PartOf BareAtom Nowhere (BehindAtom n)) s _ (λ s1.
      nested_falls at (atom_at s1) _ _ s1 (PartOf BareAtom Nowhere (BehindAtom n)) (part_of_falls at atom_at BareAtom Nowhere (BehindAtom n) atom_sound (λ t h. absurd (atom_never at t h)) s1 _ (λ name s2.
      nested_falls at (mark_at m.LeftBracket s2) _ _ s2 (BehindAtom n name) (mark_falls at m.LeftBracket (InExports n name) s2 _ (λ s3.
      nested_falls at (closed_at (function_name_at n) m.RightBracket s3) _ _ s3 (InExports n name) (part_falls at (closed_at (function_name_at n) m.RightBracket) (Enclosed (FunctionName n) m.RightBracket) (InCommas (FunctionName n) (DeepName at n)) (BehindExports at n name)
      (closed_sound (function_name_at n) (FunctionName n) (function_name_sound n) m.RightBracket) (closed_falls at (function_name_at n) (FunctionName n) (DeepName at n) (function_name_sound n) (function_name_falls at n) m.RightBracket) s3 _ (λ es s4.
      nested_falls at (word_at k.Attributes s4) _ _ s4 (BehindExports at n name) (word_falls at k.Attributes (PastMark m.LeftBracket (InAttributes n name)) s4 _ (λ s5.
      nested_falls at (mark_at m.LeftBracket s5) _ _ s5 (PastMark m.LeftBracket (InAttributes n name)) (mark_falls at m.LeftBracket (InAttributes n name) s5 _ (λ s6.
      nested_falls at (closed_at (attribute_at n) m.RightBracket s6) _ _ s6 (InAttributes n name) (part_falls at (closed_at (attribute_at n) m.RightBracket) (Enclosed (Attribute (ConstantIn n)) m.RightBracket) (InCommas (Attribute (ConstantIn n)) (DeepAttribute at n)) (InDefinitions n name)
      (closed_sound (attribute_at n) (Attribute (ConstantIn n)) (attribute_sound n) m.RightBracket) (closed_falls at (attribute_at n) (Attribute (ConstantIn n)) (DeepAttribute at n) (attribute_sound n) (attribute_falls n) m.RightBracket) s6 _ (λ ts s7.
      first_falls at (rows_at (definition_at name n) k.End s7) _ s7 (InDefinitions n name) (rows_falls at (definition_at name n) (Definition name n) (DeepDefinition at name n) (definition_sound name n) (definition_falls name n) k.End s7) (λ ds.
      never_bind at (word_at k.End ds.1) _ (word_never at k.End ds.1) (λ s8. ok_never at _))))))))))))))))

  -- the place of the last `end` is separated from how a module is spelt
  to_module : (n : ℕ) (ps : List Piece) → DeepAnnotated at IsModule (DeepBareModule at) n ps → DeepAnnotated at BareModule (DeepBareModule at) n ps
  to_module zero ps h = h
  to_module (suc n) ps (passes_mark (goes_inside (inl d))) = passes_mark (goes_inside (inl d))
  to_module (suc n) ps (passes_mark {ps = qs} (goes_inside (inr d))) = passes_mark (goes_inside (inr (to_module n qs d)))
  to_module (suc n) ps (passes_mark {ps = qs} (goes_behind {more = more} {x = x} h r)) = passes_mark (goes_behind (either_module n qs x more h) r)

  noted_module_falls : (n : ℕ) (ps : List Piece) → DeepBareModule at n ps ⊎ DeepAnnotated at IsModule (DeepBareModule at) n ps → DeepBareModule at n ps ⊎ DeepAnnotated at BareModule (DeepBareModule at) n ps
  noted_module_falls n ps (inl d) = inl d
  noted_module_falls n ps (inr d) = inr (to_module n ps d)

  ended_never : {X : Type 0} (ps : List Piece) (refused : Option Unserved) (x : X) (s : State) → Never at (ended ps refused x s)
  ended_never [] None x s = ok_never at x
  ended_never [] (Some u) x s = never_other at (fault_of_unserved u) (unserved_other u)
  ended_never (p ∷ ps) refused x s = never_other at (fault s) (fault_other s)

  pub module_falls : (s : State) → module_at s ≡ Err (TooDeep at) → (s.refused ≡ None) × OpensPastLast s.pieces at
  unfolding module_at
  module_falls s e =
      let d = first_falls at (noted_at bare_module_at level_limit s) _ s (λ ps. DeepBareModule at level_limit ps ⊎ DeepAnnotated at IsModule (DeepBareModule at) level_limit ps) (noted_falls at bare_module_at IsModule (DeepBareModule at) bare_module_sound bare_module_falls level_limit s)
      (λ x. ended_never x.1.pieces x.1.refused x.0 x.1) e in
      (d.0, noted_module_falls level_limit s.pieces d.1)
