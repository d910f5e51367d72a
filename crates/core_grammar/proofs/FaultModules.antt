-- What each fault of the grammar says: definitions and modules.
use Rattle.std.proofs.Common.{◌≡◌, ℕ, zero, suc, true, List, [], ◌∷◌, ◌++◌, Option, Some, None, Result, Ok, refl, sym, ap, ◌∙◌, subst}
use Rattle.std.specs.Prelude.{IfSome}
use Rattle.core_tokens.specs.declared.fault.ReadFault.{ReadFault}
use Rattle.core_tokens.specs.declared.token.Mark.TheVariants as m
use Rattle.core_tokens.specs.declared.token.Keyword.TheVariants as k
use Rattle.core_tokens.specs.Piece.{Piece}
use Rattle.core_tree.specs.Syntax.{Mention, Tree, NamedAt, AttributeTree, DefinitionTree, ModuleTree}
use Rattle.core_grammar.specs.declared.unserved.Unserved.{Unserved}
use Rattle.core_grammar.specs.Grammar.{word, atom, level_limit}
use Rattle.core_grammar.specs.UnservedCalls.{within, IsOwn}
use Rattle.core_scopes.specs.Outcomes.{◌>>=◌}
use Rattle.core_grammar.specs.inside.Decoder.{State, Read, with_pieces, after_mark, place_of, mark_at, word_at, atom_at, bare_name_at, closed_at, exactly_at, rows_at, constant_at, noted_at, function_name_at, variable_at}
use Rattle.core_grammar.specs.inside.DecoderForms.{expression_at}
use Rattle.core_grammar.specs.inside.DecoderModules.{attribute_at, bare_fun_at, fun_at, behind_name_at, Opening, TheName, WholeDefinition, opening_by, opened, inside_opening_at, bare_opening_at, opening_last, opening_next, opening_at, definition_of_opening, definition_at, front_at, bare_module_at, ended, module_at}
use Rattle.core_grammar.proofs.Steps.{ok_is, bind_ok, after_mark_found, word_steps, atom_steps}
use Rattle.core_grammar.proofs.FaultSteps.{IsUnservedAt, Good, Fine, fine_bind, fine_read, unserved_fine, fault_fine, too_deep_fine, good_at, mark_inside, mark_fine, word_fine, Keeps, atom_fine, bare_name_fine, Each, closed_fine, exactly_fine, rows_fine}
use Rattle.core_grammar.proofs.FaultForms.{in_note_fine, constant_fine, noted_fine, noted_from_fine, NamePlaced', MentionAt', function_name_fine, variable_fine, TreeAt, expression_fine}

module _ (all : List Piece) (end : ℕ) where
  abbrev Good' : State → Type 0
  Good' s = Good all end s

  abbrev Fine' : {A : Type 0} → Result A ReadFault → (A → Type 0) → Type 0
  Fine' r P = Fine all end r P

  abbrev Keeps' : {X : Type 0} → (State → Read X) → (X → Type 0) → Type 0
  Keeps' item Q = Keeps all end item Q

  abbrev Any' : {X : Type 0} → X → Type 0
  Any' x = Unit {0}

  abbrev Each' : {X : Type 0} → (X → Type 0) → List X → Type 0
  Each' Q xs = Each all end Q xs

  abbrev bind : {A B : Type 0} (r : Result A ReadFault) (f : A → Result B ReadFault) (P : A → Type 0) (Q : B → Type 0) → Fine' r P → ((x : A) → P x → Fine' (f x) Q) → Fine' (r >>= f) Q
  bind r f P Q h g = fine_bind all end r f P Q h g

  abbrev read : {A B : Type 0} (r : Result A ReadFault) (f : A → Result B ReadFault) (P : A → Type 0) (Q : B → Type 0) → Fine' r P → ((x : A) → r ≡ Ok x → P x → Fine' (f x) Q) → Fine' (r >>= f) Q
  read r f P Q h g = fine_read all end r f P Q h g

  abbrev Name : NamedAt → Type 0
  Name x = NamePlaced' all end x

  abbrev Var : Mention → Type 0
  Var v = MentionAt' all end v

  abbrev Body : Tree → Type 0
  Body t = TreeAt all end t

  attribute_fine : (n : ℕ) → Keeps' (attribute_at n) Any'
  unfolding attribute_at
  attribute_fine n s g =
      bind (atom_at s) _ (λ x. Any' x.0 × Good' x.1) (λ x. Any' x.0 × Good' x.1) (atom_fine all end s g) (λ a ga.
      bind (mark_at m.Equals a.1) _ Good' (λ x. Any' x.0 × Good' x.1) (mark_fine all end m.Equals a.1 ga.1) (λ s1 g1.
      bind (constant_at n s1) _ (λ x. Any' x.0 × Good' x.1) (λ x. Any' x.0 × Good' x.1) (constant_fine all end n s1 g1) (λ c gc. (tt, gc.1))))

  abbrev FunAt : List Mention × Tree → Type 0
  FunAt f = Each' Var f.0 × Body f.1

  bare_fun_fine : (own : List ℕ) (owned : IsOwn all own) (arity n : ℕ) → Keeps' (bare_fun_at own arity n) FunAt
  unfolding bare_fun_at
  bare_fun_fine own owned arity n s g =
      bind (word_at k.Fun s) _ Good' (λ x. FunAt x.0 × Good' x.1) (word_fine all end k.Fun s g) (λ s1 g1.
      bind (mark_at m.LeftParenthesis s1) _ Good' (λ x. FunAt x.0 × Good' x.1) (mark_fine all end m.LeftParenthesis s1 g1) (λ s2 g2.
      bind (exactly_at (variable_at n) true arity s2) _ (λ x. Each' Var x.0 × Good' x.1) (λ x. FunAt x.0 × Good' x.1) (exactly_fine all end (variable_at n) Var (variable_fine all end n) true arity s2 g2) (λ vs gv.
      bind (mark_at m.RightParenthesis vs.1) _ Good' (λ x. FunAt x.0 × Good' x.1) (mark_fine all end m.RightParenthesis vs.1 gv.1) (λ s3 g3.
      bind (mark_at m.Arrow s3) _ Good' (λ x. FunAt x.0 × Good' x.1) (mark_fine all end m.Arrow s3 g3) (λ s4 g4.
      bind (expression_at own n s4) _ (λ x. Body x.0 × Good' x.1) (λ x. FunAt x.0 × Good' x.1) (expression_fine all end own owned n s4 g4) (λ b gb. ((gv.0, gb.0), gb.1)))))))

  fun_fine : (own : List ℕ) (owned : IsOwn all own) (arity n : ℕ) → Keeps' (fun_at own arity n) FunAt
  unfolding fun_at
  fun_fine own owned arity n s g = noted_fine all end (bare_fun_at own arity) FunAt (bare_fun_fine own owned arity) n s g

  abbrev pub DefinitionPlaced : DefinitionTree → Type 0
  DefinitionPlaced d = Name d.named × (Each' Var d.parameters × Body d.body)

  behind_name_fine : (own : List ℕ) (owned : IsOwn all own) (n : ℕ) (named : NamedAt) → Name named → Keeps' (behind_name_at own n named) DefinitionPlaced
  unfolding behind_name_at
  behind_name_fine own owned n named h s g =
      bind (mark_at m.Equals s) _ Good' (λ x. DefinitionPlaced x.0 × Good' x.1) (mark_fine all end m.Equals s g) (λ s1 g1.
      bind (fun_at own named.function.arity n s1) _ (λ x. FunAt x.0 × Good' x.1) (λ x. DefinitionPlaced x.0 × Good' x.1) (fun_fine own owned named.function.arity n s1 g1) (λ f gf. ((h, gf.0), gf.1)))

  abbrev OpeningAt : Opening → Type 0
  OpeningAt (TheName named) = Name named
  OpeningAt (WholeDefinition d) = DefinitionPlaced d

  opening_by_fine : (own : List ℕ) (owned : IsOwn all own) (n : ℕ) (named : NamedAt) (o : Option (List Piece)) (s : State) → Name named → Good' s → Fine' (opening_by own n named o s) (λ y. OpeningAt y.0 × Good' y.1)
  opening_by_fine own owned n named None s h g = (h, g)
  opening_by_fine own owned n named (Some ps) s h g = bind (behind_name_at own n named s) _ (λ x. DefinitionPlaced x.0 × Good' x.1) (λ y. OpeningAt y.0 × Good' y.1) (behind_name_fine own owned n named h s g) (λ d gd. (gd.0, gd.1))

  opened_fine : (own : List ℕ) (owned : IsOwn all own) (n : ℕ) (x : Opening) (s : State) → OpeningAt x → Good' s → Fine' (opened own n x s) (λ y. OpeningAt y.0 × Good' y.1)
  opened_fine own owned n (TheName named) s h g = opening_by_fine own owned n named (after_mark m.Equals s.pieces) s h g
  opened_fine own owned n (WholeDefinition d) s h g = (h, g)

  inside_opening_fine : (own : List ℕ) (owned : IsOwn all own) (n : ℕ) (opening : State → Read Opening) → Keeps' opening OpeningAt → Keeps' (inside_opening_at own n opening) OpeningAt
  unfolding inside_opening_at
  inside_opening_fine own owned n opening opens s g = bind (opening s) _ (λ x. OpeningAt x.0 × Good' x.1) (λ y. OpeningAt y.0 × Good' y.1) (opens s g) (λ x gx. opened_fine own owned n x.0 x.1 gx.0 gx.1)

  bare_opening_fine : (own : List ℕ) (owned : IsOwn all own) → Keeps' (bare_opening_at own) OpeningAt
  unfolding bare_opening_at
  bare_opening_fine own owned s g = bind (bare_name_at s) _ (λ x. Name x.0 × Good' x.1) (λ y. OpeningAt y.0 × Good' y.1) (bare_name_fine all end s g) (λ n gn. (gn.0, gn.1))

  opening_last_fine : (own : List ℕ) (owned : IsOwn all own) (o : Option (List Piece)) (s : State) → after_mark m.LeftParenthesis s.pieces ≡ o → Good' s → Fine' (opening_last own o s) (λ y. OpeningAt y.0 × Good' y.1)
  opening_last_fine own owned (Some ps) s is g = let f = after_mark_found m.LeftParenthesis s.pieces ps is in too_deep_fine all end s f.0 ps g f.1
  opening_last_fine own owned None s is g = bare_opening_fine own owned s g

  opening_next_fine : (own : List ℕ) (owned : IsOwn all own) (n : ℕ) → Keeps' (opening_at own n) OpeningAt → (o : Option (List Piece)) (s : State) → after_mark m.LeftParenthesis s.pieces ≡ o → Good' s → Fine' (opening_next own n (opening_at own n) o s) (λ y. OpeningAt y.0 × Good' y.1)
  opening_next_fine own owned n again (Some ps) s is g =
      in_note_fine all end (constant_at n) (constant_fine all end n) (inside_opening_at own n (opening_at own n)) OpeningAt (inside_opening_fine own owned n (opening_at own n) again) (with_pieces s ps) (good_at all end s ps g (mark_inside all end m.LeftParenthesis s.pieces ps g.inside is))
  opening_next_fine own owned n again None s is g = bare_opening_fine own owned s g

  opening_fine : (own : List ℕ) (owned : IsOwn all own) (n : ℕ) → Keeps' (opening_at own n) OpeningAt
  unfolding opening_at
  opening_fine own owned zero s g = opening_last_fine own owned (after_mark m.LeftParenthesis s.pieces) s refl g
  opening_fine own owned (suc n) s g = opening_next_fine own owned n (opening_fine own owned n) (after_mark m.LeftParenthesis s.pieces) s refl g

  definition_of_fine : (own : List ℕ) (owned : IsOwn all own) (n : ℕ) (x : Opening) (s : State) → OpeningAt x → Good' s → Fine' (definition_of_opening own n x s) (λ d. DefinitionPlaced d.0 × Good' d.1)
  definition_of_fine own owned n (TheName named) s h g = behind_name_fine own owned n named h s g
  definition_of_fine own owned n (WholeDefinition d) s h g = (h, g)

  definition_fine : (own : List ℕ) (owned : IsOwn all own) (n : ℕ) → Keeps' (definition_at own n) DefinitionPlaced
  unfolding definition_at
  definition_fine own owned n s g = bind (opening_at own n s) _ (λ x. OpeningAt x.0 × Good' x.1) (λ d. DefinitionPlaced d.0 × Good' d.1) (opening_fine own owned n s g) (λ x gx. definition_of_fine own owned n x.0 x.1 gx.0 gx.1)

  -- ---- modules

  own_of : (s s1 : State) (a : List ℕ) (t : State) → within s.pieces ≡ within all → word_at k.Module s ≡ Ok s1 → atom_at s1 ≡ Ok (a, t) → IsOwn all a
  own_of s s1 a t w e f =
      let step = word_steps k.Module s s1 e in
      let name = atom_steps s1 a t f in
      let stands : s.pieces ≡ word step.at k.Module ∷ atom name.at a ∷ t.pieces = step.pieces ∙ ap (λ (qs : List Piece). word step.at k.Module ∷ qs) name.pieces in
      (step.at, name.at, t.pieces, sym w ∙ ap within stands)

  abbrev FrontPlaced : List ℕ × List NamedAt × List AttributeTree → Type 0
  FrontPlaced f = IsOwn all f.0 × Each' Name f.1

  -- where the tokens of the text begin, the name of the module is its own
  front_fine : (n : ℕ) (s : State) → Good' s → within s.pieces ≡ within all → Fine' (front_at n s) (λ x. FrontPlaced x.0 × Good' x.1)
  unfolding front_at
  front_fine n s g w =
      read (word_at k.Module s) _ Good' (λ x. FrontPlaced x.0 × Good' x.1) (word_fine all end k.Module s g) (λ s1 e1 g1.
      read (atom_at s1) _ (λ x. Any' x.0 × Good' x.1) (λ x. FrontPlaced x.0 × Good' x.1) (atom_fine all end s1 g1) (λ a ea ga.
      let owned = own_of s s1 a.0 a.1 w e1 ea in
      bind (mark_at m.LeftBracket a.1) _ Good' (λ x. FrontPlaced x.0 × Good' x.1) (mark_fine all end m.LeftBracket a.1 ga.1) (λ s2 g2.
      bind (closed_at (function_name_at n) m.RightBracket s2) _ (λ x. Each' Name x.0 × Good' x.1) (λ x. FrontPlaced x.0 × Good' x.1) (closed_fine all end (function_name_at n) Name (function_name_fine all end n) m.RightBracket s2 g2) (λ es ge.
      bind (word_at k.Attributes es.1) _ Good' (λ x. FrontPlaced x.0 × Good' x.1) (word_fine all end k.Attributes es.1 ge.1) (λ s3 g3.
      bind (mark_at m.LeftBracket s3) _ Good' (λ x. FrontPlaced x.0 × Good' x.1) (mark_fine all end m.LeftBracket s3 g3) (λ s4 g4.
      bind (closed_at (attribute_at n) m.RightBracket s4) _ (λ x. Each' Any' x.0 × Good' x.1) (λ x. FrontPlaced x.0 × Good' x.1) (closed_fine all end (attribute_at n) Any' (attribute_fine n) m.RightBracket s4 g4) (λ ts gt. ((owned, ge.0), gt.1))))))))

  abbrev pub ModulePlaced : ModuleTree × ℕ → Type 0
  ModulePlaced x = Each' Name x.0.exports × Each' DefinitionPlaced x.0.definitions

  bare_module_fine : (n : ℕ) (s : State) → Good' s → within s.pieces ≡ within all → Fine' (bare_module_at n s) (λ x. ModulePlaced x.0 × Good' x.1)
  unfolding bare_module_at
  bare_module_fine n s g w =
      bind (front_at n s) _ (λ x. FrontPlaced x.0 × Good' x.1) (λ x. ModulePlaced x.0 × Good' x.1) (front_fine n s g w) (λ f gf.
      bind (rows_at (definition_at f.0.0 n) k.End f.1) _ (λ x. Each' DefinitionPlaced x.0 × Good' x.1) (λ x. ModulePlaced x.0 × Good' x.1) (rows_fine all end (definition_at f.0.0 n) DefinitionPlaced (definition_fine f.0.0 gf.0.0 n) k.End f.1 gf.1) (λ ds gd.
      bind (word_at k.End ds.1) _ Good' (λ x. ModulePlaced x.0 × Good' x.1) (word_fine all end k.End ds.1 gd.1) (λ s1 g1. ((gf.0.1, gd.0), g1))))

  -- what holds of each value that is read, of this one
  fine_ok : {A : Type 0} (r : Result A ReadFault) (x : A) (P : A → Type 0) → r ≡ Ok x → Fine' r P → P x
  fine_ok {A = A} r x P e h = subst (λ (q : Result A ReadFault). Fine' q P) e h

  -- the place that is read with a module is that of an `end`, and nothing of the module follows it
  pub bare_module_ends : (n : ℕ) (s : State) (x : ModuleTree × ℕ) (t : State) → Good' s → within s.pieces ≡ within all → bare_module_at n s ≡ Ok (x, t) → (before : List Piece) × (all ≡ before ++ word x.1 k.End ∷ t.pieces)
  unfolding bare_module_at
  bare_module_ends n s x t g w e =
      let f = bind_ok _ _ _ e in
      let d = bind_ok _ _ _ f.2 in
      let a = bind_ok _ _ _ d.2 in
      let gf = fine_ok (front_at n s) f.0 (λ y. FrontPlaced y.0 × Good' y.1) f.1 (front_fine n s g w) in
      let gd = fine_ok (rows_at (definition_at f.0.0.0 n) k.End f.0.1) d.0 (λ y. Each' DefinitionPlaced y.0 × Good' y.1) d.1 (rows_fine all end (definition_at f.0.0.0 n) DefinitionPlaced (definition_fine f.0.0.0 gf.0.0 n) k.End f.0.1 gf.1) in
      let step = word_steps k.End d.0.1 a.0 a.1 in
      let here : step.at ≡ place_of d.0.1.stop d.0.1.pieces = sym (ap (place_of d.0.1.stop) step.pieces) in
      let made : ModuleTree = record { name = f.0.0.0; exports = f.0.0.1; attributes = f.0.0.2; definitions = d.0.0 } in
      let same : ((made, place_of d.0.1.stop d.0.1.pieces), a.0) ≡ (x, t) = ok_is _ _ a.2 in
      let last : d.0.1.pieces ≡ word x.1 k.End ∷ t.pieces =
      step.pieces ∙ ap (λ (at : ℕ). word at k.End ∷ a.0.pieces) here ∙ ap (λ (y : (ModuleTree × ℕ) × State). word y.0.1 k.End ∷ y.1.pieces) same in
      (gd.1.inside.0, gd.1.inside.1 ∙ ap (λ (qs : List Piece). gd.1.inside.0 ++ qs) last)

  ended_fine : (ps : List Piece) (o : Option Unserved) (x : ModuleTree × ℕ) (s : State) → Good' s → IfSome o (IsUnservedAt all end) → ModulePlaced x → Fine' (ended ps o x s) ModulePlaced
  ended_fine [] None x s g h q = q
  ended_fine [] (Some u) x s g h q = unserved_fine all end u h
  ended_fine (p ∷ ps) o x s g h q = fault_fine all end s g

  pub module_fine : (s : State) → Good' s → within s.pieces ≡ within all → Fine' (module_at s) ModulePlaced
  unfolding module_at
  module_fine s g w =
      bind (noted_at bare_module_at level_limit s) _ (λ x. ModulePlaced x.0 × Good' x.1) ModulePlaced (noted_from_fine all end bare_module_at ModulePlaced (within all) (λ n s1 g1 none v. bare_module_fine n s1 g1 v) level_limit s w g) (λ d gd.
      ended_fine d.1.pieces d.1.refused d.0 d.1 gd.1 gd.1.refused gd.0)
