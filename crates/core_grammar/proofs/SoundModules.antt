-- What is read as a module is spelt.
use Rattle.std.proofs.Common.{◌≡◌, ℕ, zero, suc, List, [], ◌∷◌, length, Option, Some, None, Ok, refl, ap, ◌∙◌, subst}
use Rattle.core_tokens.specs.declared.token.Mark.TheVariants as m
use Rattle.core_tokens.specs.declared.token.Keyword.TheVariants as k
use Rattle.core_tokens.specs.Piece.{Piece}
use Rattle.core_tree.specs.Syntax.{Mention, Tree, Constant, NamedAt, AttributeTree, DefinitionTree, ModuleTree}
use Rattle.core_grammar.specs.declared.unserved.Unserved.{Unserved}
use Rattle.core_grammar.specs.Grammar.{mark, word, atom, InNote, in_note, stands_bare, stands_noted, Annotated, Noted, Enclosed, Row, FunctionName, Variable, ConstantIn, Expression, level_limit, Attribute, an_attribute, BareFun, is_fun, Fun, BareDefinition, a_definition, Definition, BareModule, a_module, Spells}
use Rattle.core_grammar.specs.Depth.{FunOf}
use Rattle.core_grammar.specs.inside.Decoder.{State, Read, after_mark, function_name_at, variable_at, constant_at, place_of}
use Rattle.core_grammar.specs.inside.DecoderModules.{attribute_at, bare_fun_at, fun_at, behind_name_at, Opening, TheName, WholeDefinition, opening_by, opened, inside_opening_at, bare_opening_at, opening_last, opening_next, opening_at, definition_of_opening, definition_at, front_at, bare_module_at, ended, module_at}
use Rattle.core_grammar.proofs.Steps.{ok_is, bind_ok, after_mark_found, mark_steps, word_steps, atom_steps, bare_name_sound, Sound}
use Rattle.core_grammar.proofs.SoundLists.{closed_sound, exactly_sound, rows_sound}
use Rattle.core_grammar.proofs.SoundNames.{in_note_sound, constant_sound, at_front, noted_sound, function_name_sound, variable_sound}
use Rattle.core_grammar.proofs.SoundForms.{goes_to, expression_sound}

attribute_form : (n at bt : ℕ) (ps p1 p2 rest : List Piece) (a : List ℕ) (c : Constant) → ps ≡ atom at a ∷ p1 → p1 ≡ mark bt m.Equals ∷ p2 → ConstantIn n p2 c rest → Attribute (ConstantIn n) ps (record { name = a; value = c }) rest
attribute_form n at bt ps p1 p2 rest a c e0 e1 h = rw (e0, e1) (an_attribute h)

pub attribute_sound : (n : ℕ) → Sound None (attribute_at n) (Attribute (ConstantIn n))
unfolding attribute_at
attribute_sound n s x t e done =
    let a = bind_ok _ _ _ e in
    let b = bind_ok _ _ _ a.2 in
    let c = bind_ok _ _ _ b.2 in
    let made : AttributeTree = record { name = a.0.0; value = c.0.0 } in
    let same : (made, c.0.1) ≡ (x, t) = ok_is _ _ c.2 in
    let s0 = atom_steps s a.0.0 a.0.1 a.1 in
    let s1 = mark_steps m.Equals a.0.1 b.0 b.1 in
    subst (λ (y : AttributeTree × State). y.1.refused ≡ None → (s.refused ≡ None) × Attribute (ConstantIn n) s.pieces y.0 y.1.pieces) same
    (λ d.
    let h = constant_sound n b.0 c.0.0 c.0.1 c.1 d in
    (s0.back (s1.back h.0), attribute_form n s0.at s1.at s.pieces a.0.1.pieces b.0.pieces c.0.1.pieces a.0.0 c.0.0 s0.pieces s1.pieces h.1)) done

-- ---- functions

fun_form : (own : List ℕ) (n at bt ct : ℕ) (ps p1 p2 p3 p4 rest : List Piece) (vs : List Mention) (body : Tree) → ps ≡ word at k.Fun ∷ p1 → p1 ≡ mark bt m.LeftParenthesis ∷ p2 → Enclosed (Variable n) m.RightParenthesis p2 vs p3 → p3 ≡ mark ct m.Arrow ∷ p4 → Expression own n p4 body rest
    → BareFun (Variable n) (Expression own n) ps (vs, body) rest
fun_form own n at bt ct ps p1 p2 p3 p4 rest vs body e0 e1 h e3 b = rw (e0, e1) (is_fun (goes_to (Enclosed (Variable n) m.RightParenthesis) p2 p3 (mark ct m.Arrow ∷ p4) vs e3 h) b)

pub bare_fun_sound : (own : List ℕ) (arity n : ℕ) → Sound None (bare_fun_at own arity n) (FunOf own arity n)
unfolding bare_fun_at
bare_fun_sound own arity n s x t e done =
    let a = bind_ok _ _ _ e in
    let b = bind_ok _ _ _ a.2 in
    let v = bind_ok _ _ _ b.2 in
    let c = bind_ok _ _ _ v.2 in
    let d = bind_ok _ _ _ c.2 in
    let y = bind_ok _ _ _ d.2 in
    let same : ((v.0.0, y.0.0), y.0.1) ≡ (x, t) = ok_is _ _ y.2 in
    let s0 = word_steps k.Fun s a.0 a.1 in
    let s1 = mark_steps m.LeftParenthesis a.0 b.0 b.1 in
    let s3 = mark_steps m.RightParenthesis v.0.1 c.0 c.1 in
    let s4 = mark_steps m.Arrow c.0 d.0 d.1 in
    subst (λ (r : (List Mention × Tree) × State). r.1.refused ≡ None → (s.refused ≡ None) × FunOf own arity n s.pieces r.0 r.1.pieces) same
    (λ f.
    let body = expression_sound own n d.0 y.0.0 y.0.1 y.1 f in
    let vars = exactly_sound (variable_at n) (Variable n) (variable_sound n) m.RightParenthesis arity b.0 v.0.0 v.0.1 c.0 v.1 s3 (s4.back body.0) in
    (s0.back (s1.back vars.0), (fun_form own n s0.at s1.at s4.at s.pieces a.0.pieces b.0.pieces c.0.pieces d.0.pieces y.0.1.pieces v.0.0 y.0.0 s0.pieces s1.pieces vars.1 s4.pieces body.1, vars.2))) done

-- the number of variables is separated from how they are spelt
either_fun : (own : List ℕ) (arity n : ℕ) (ps : List Piece) (f : List Mention × Tree) (rest : List Piece) → Noted (FunOf own arity) n ps f rest → Fun own n ps f rest × (length f.0 ≡ arity)
either_fun own arity n ps f rest (stands_bare h) = (stands_bare h.0, h.1)
either_fun own arity zero ps f rest (stands_noted h) = absurd h
either_fun own arity (suc n) ps f rest (stands_noted (in_note {ps = qs} {more = more} h g)) = let i = either_fun own arity n qs f more h in (stands_noted (in_note i.0 g), i.1)

fun_sound : (own : List ℕ) (arity n : ℕ) (s : State) (x : List Mention × Tree) (t : State) → fun_at own arity n s ≡ Ok (x, t) → t.refused ≡ None → (s.refused ≡ None) × (Fun own n s.pieces x t.pieces × (length x.0 ≡ arity))
unfolding fun_at
fun_sound own arity n s x t e done =
    let h = noted_sound (bare_fun_at own arity) (FunOf own arity) (bare_fun_sound own arity) n s x t e done in
    (h.0, either_fun own arity n s.pieces x t.pieces h.1)

-- ---- definitions

behind_name_sound : (own : List ℕ) (n : ℕ) (named : NamedAt) (ps : List Piece) (s : State) (d : DefinitionTree) (t : State) → behind_name_at own n named s ≡ Ok (d, t) → t.refused ≡ None → (s.refused ≡ None) × (FunctionName n ps named s.pieces → BareDefinition own n ps d t.pieces)
unfolding behind_name_at
behind_name_sound own n named ps s d t e done =
    let a = bind_ok _ _ _ e in
    let f = bind_ok _ _ _ a.2 in
    let made : DefinitionTree = record { named = named; parameters = f.0.0.0; body = f.0.0.1 } in
    let same : (made, f.0.1) ≡ (d, t) = ok_is _ _ f.2 in
    let s0 = mark_steps m.Equals s a.0 a.1 in
    subst (λ (r : DefinitionTree × State). r.1.refused ≡ None → (s.refused ≡ None) × (FunctionName n ps named s.pieces → BareDefinition own n ps r.0 r.1.pieces)) same
    (λ g.
    let h = fun_sound own named.function.arity n a.0 f.0.0 f.0.1 f.1 g in
    (s0.back h.0, λ name. a_definition (goes_to (FunctionName n) _ _ _ _ s0.pieces name) h.1.0 h.1.1)) done

-- what the opening of a definition says
abbrev pub Opens : List ℕ → ℕ → List Piece → Opening → List Piece → Type 0
Opens own n ps (TheName named) rest = FunctionName n ps named rest
Opens own n ps (WholeDefinition d) rest = Annotated (BareDefinition own) n ps d rest

-- what it says inside the parentheses of an annotation
abbrev pub OpensInside : List ℕ → ℕ → List Piece → Opening → List Piece → Type 0
OpensInside own n ps (TheName named) rest = FunctionName n ps named rest
OpensInside own n ps (WholeDefinition d) rest = Definition own n ps d rest

opening_by_sound : (own : List ℕ) (n : ℕ) (named : NamedAt) (o : Option (List Piece)) (ps : List Piece) (s : State) (y : Opening) (t : State) → opening_by own n named o s ≡ Ok (y, t) → t.refused ≡ None → (s.refused ≡ None) × (FunctionName n ps named s.pieces → OpensInside own n ps y t.pieces)
opening_by_sound own n named None ps s y t e done =
    let same : (TheName named, s) ≡ (y, t) = ok_is _ _ e in
    subst (λ (r : Opening × State). r.1.refused ≡ None → (s.refused ≡ None) × (FunctionName n ps named s.pieces → OpensInside own n ps r.0 r.1.pieces)) same (λ f. (f, λ g. g)) done
opening_by_sound own n named (Some us) ps s y t e done =
    let d = bind_ok _ _ _ e in
    let same : (WholeDefinition d.0.0, d.0.1) ≡ (y, t) = ok_is _ _ d.2 in
    subst (λ (r : Opening × State). r.1.refused ≡ None → (s.refused ≡ None) × (FunctionName n ps named s.pieces → OpensInside own n ps r.0 r.1.pieces)) same
    (λ f. let h = behind_name_sound own n named ps s d.0.0 d.0.1 d.1 f in (h.0, λ g. stands_bare (h.1 g))) done

opened_sound : (own : List ℕ) (n : ℕ) (x : Opening) (ps : List Piece) (s : State) (y : Opening) (t : State) → opened own n x s ≡ Ok (y, t) → t.refused ≡ None → (s.refused ≡ None) × (Opens own n ps x s.pieces → OpensInside own n ps y t.pieces)
opened_sound own n (TheName named) ps s y t e done = opening_by_sound own n named (after_mark m.Equals s.pieces) ps s y t e done
opened_sound own n (WholeDefinition d) ps s y t e done =
    let same : (WholeDefinition d, s) ≡ (y, t) = ok_is _ _ e in
    subst (λ (r : Opening × State). r.1.refused ≡ None → (s.refused ≡ None) × (Opens own n ps (WholeDefinition d) s.pieces → OpensInside own n ps r.0 r.1.pieces)) same (λ f. (f, λ g. stands_noted g)) done

pub inside_opening_sound : (own : List ℕ) (n : ℕ) (opening : State → Read Opening) → Sound None opening (Opens own n) → Sound None (inside_opening_at own n opening) (OpensInside own n)
unfolding inside_opening_at
inside_opening_sound own n opening opens s y t e done =
    let x = bind_ok _ _ _ e in
    let h = opened_sound own n x.0.0 s.pieces x.0.1 y t x.2 done in
    let g = opens s x.0.0 x.0.1 x.1 h.0 in
    (g.0, h.1 g.1)

bare_opening_sound : (own : List ℕ) (n : ℕ) → Sound None (bare_opening_at own) (Opens own n)
unfolding bare_opening_at
bare_opening_sound own n s y t e done =
    let a = bind_ok _ _ _ e in
    let same : (TheName a.0.0, a.0.1) ≡ (y, t) = ok_is _ _ a.2 in
    subst (λ (r : Opening × State). r.1.refused ≡ None → (s.refused ≡ None) × Opens own n s.pieces r.0 r.1.pieces) same (λ d. let h = bare_name_sound s a.0.0 a.0.1 a.1 d in (h.0, stands_bare h.1)) done

opening_last_sound : (own : List ℕ) (o : Option (List Piece)) (s : State) (y : Opening) (t : State) → opening_last own o s ≡ Ok (y, t) → t.refused ≡ None → (s.refused ≡ None) × Opens own 0 s.pieces y t.pieces
opening_last_sound own (Some ps) s y t e done = absurd cc
opening_last_sound own None s y t e done = bare_opening_sound own 0 s y t e done

name_noted : (own : List ℕ) (n : ℕ) (ps : List Piece) (named : NamedAt) (rest : List Piece) → InNote (OpensInside own n) (ConstantIn n) ps (TheName named) rest → FunctionName (suc n) ps named rest
name_noted own n ps named rest (in_note h g) = stands_noted (in_note h g)

whole_noted : (own : List ℕ) (n : ℕ) (ps : List Piece) (d : DefinitionTree) (rest : List Piece) → InNote (OpensInside own n) (ConstantIn n) ps (WholeDefinition d) rest → Annotated (BareDefinition own) (suc n) ps d rest
whole_noted own n ps d rest (in_note h g) = in_note h g

opening_next_sound : (own : List ℕ) (n : ℕ) → Sound None (opening_at own n) (Opens own n) → (o : Option (List Piece)) (s : State) (y : Opening) (t : State) → after_mark m.LeftParenthesis s.pieces ≡ o → opening_next own n (opening_at own n) o s ≡ Ok (y, t) → t.refused ≡ None → (s.refused ≡ None) × Opens own (suc n) s.pieces y t.pieces
opening_next_sound own n opens (Some ps) s (TheName named) t is e done =
    let f = after_mark_found m.LeftParenthesis s.pieces ps is in
    let h = in_note_sound (constant_at n) (ConstantIn n) (constant_sound n) (inside_opening_at own n (opening_at own n)) (OpensInside own n) (inside_opening_sound own n (opening_at own n) opens) f.0 ps s (TheName named) t e done in
    (h.0, at_front (FunctionName (suc n)) s.pieces (mark f.0 m.LeftParenthesis ∷ ps) named t.pieces f.1 (name_noted own n _ named t.pieces h.1))
opening_next_sound own n opens (Some ps) s (WholeDefinition d) t is e done =
    let f = after_mark_found m.LeftParenthesis s.pieces ps is in
    let h = in_note_sound (constant_at n) (ConstantIn n) (constant_sound n) (inside_opening_at own n (opening_at own n)) (OpensInside own n) (inside_opening_sound own n (opening_at own n) opens) f.0 ps s (WholeDefinition d) t e done in
    (h.0, at_front (Annotated (BareDefinition own) (suc n)) s.pieces (mark f.0 m.LeftParenthesis ∷ ps) d t.pieces f.1 (whole_noted own n _ d t.pieces h.1))
opening_next_sound own n opens None s y t is e done = bare_opening_sound own (suc n) s y t e done

pub opening_sound : (own : List ℕ) (n : ℕ) → Sound None (opening_at own n) (Opens own n)
unfolding opening_at
opening_sound own zero s y t e done = opening_last_sound own (after_mark m.LeftParenthesis s.pieces) s y t e done
opening_sound own (suc n) s y t e done = opening_next_sound own n (opening_sound own n) (after_mark m.LeftParenthesis s.pieces) s y t refl e done

definition_of_sound : (own : List ℕ) (n : ℕ) (x : Opening) (ps : List Piece) (s : State) (d : DefinitionTree) (t : State) → definition_of_opening own n x s ≡ Ok (d, t) → t.refused ≡ None → (s.refused ≡ None) × (Opens own n ps x s.pieces → Definition own n ps d t.pieces)
definition_of_sound own n (TheName named) ps s d t e done = let h = behind_name_sound own n named ps s d t e done in (h.0, λ g. stands_bare (h.1 g))
definition_of_sound own n (WholeDefinition w) ps s d t e done =
    let same : (w, s) ≡ (d, t) = ok_is _ _ e in
    subst (λ (r : DefinitionTree × State). r.1.refused ≡ None → (s.refused ≡ None) × (Opens own n ps (WholeDefinition w) s.pieces → Definition own n ps r.0 r.1.pieces)) same (λ f. (f, λ g. stands_noted g)) done

pub definition_sound : (own : List ℕ) (n : ℕ) → Sound None (definition_at own n) (Definition own n)
unfolding definition_at
definition_sound own n s d t e done =
    let x = bind_ok _ _ _ e in
    let h = definition_of_sound own n x.0.0 s.pieces x.0.1 d t x.2 done in
    let g = opening_sound own n s x.0.0 x.0.1 x.1 h.0 in
    (g.0, h.1 g.1)

-- ---- modules

-- the name, the exports and the attributes
record IsFront (n : ℕ) (ps : List Piece) (name : List ℕ) (exports : List NamedAt) (attributes : List AttributeTree) (rest : List Piece) : Type 0 where
  pub at : ℕ
  pub bt : ℕ
  pub ct : ℕ
  pub dt : ℕ
  pub et : ℕ
  pub p1 : List Piece
  pub p2 : List Piece
  pub opens : ps ≡ word at k.Module ∷ atom bt name ∷ mark ct m.LeftBracket ∷ p1
  pub exported : Enclosed (FunctionName n) m.RightBracket p1 exports (word dt k.Attributes ∷ mark et m.LeftBracket ∷ p2)
  pub attributed : Enclosed (Attribute (ConstantIn n)) m.RightBracket p2 attributes rest

abbrev Front : Type 0
Front = List ℕ × List NamedAt × List AttributeTree

front_sound : (n : ℕ) (s : State) (f : Front) (t : State) → front_at n s ≡ Ok (f, t) → t.refused ≡ None → (s.refused ≡ None) × IsFront n s.pieces f.0 f.1 f.2 t.pieces
unfolding front_at
front_sound n s x t e done =
    let a = bind_ok _ _ _ e in
    let b = bind_ok _ _ _ a.2 in
    let c = bind_ok _ _ _ b.2 in
    let f = bind_ok _ _ _ c.2 in
    let g = bind_ok _ _ _ f.2 in
    let h = bind_ok _ _ _ g.2 in
    let i = bind_ok _ _ _ h.2 in
    let made : Front = (b.0.0, f.0.0, i.0.0) in
    let same : (made, i.0.1) ≡ (x, t) = ok_is _ _ i.2 in
    let s0 = word_steps k.Module s a.0 a.1 in
    let s1 = atom_steps a.0 b.0.0 b.0.1 b.1 in
    let s2 = mark_steps m.LeftBracket b.0.1 c.0 c.1 in
    let s4 = word_steps k.Attributes f.0.1 g.0 g.1 in
    let s5 = mark_steps m.LeftBracket g.0 h.0 h.1 in
    subst (λ (y : Front × State). y.1.refused ≡ None → (s.refused ≡ None) × IsFront n s.pieces y.0.0 y.0.1 y.0.2 y.1.pieces) same
    (λ d.
    let attributes = closed_sound (attribute_at n) (Attribute (ConstantIn n)) (attribute_sound n) m.RightBracket h.0 i.0.0 i.0.1 i.1 d in
    let exports = closed_sound (function_name_at n) (FunctionName n) (function_name_sound n) m.RightBracket c.0 f.0.0 f.0.1 f.1 (s4.back (s5.back attributes.0)) in (
      s0.back (s1.back (s2.back exports.0)),
      record {
        at = s0.at;
        bt = s1.at;
        ct = s2.at;
        dt = s4.at;
        et = s5.at;
        p1 = c.0.pieces;
        p2 = h.0.pieces;
        opens = s0.pieces ∙ ap (λ (qs : List Piece). word s0.at k.Module ∷ qs) (s1.pieces ∙ ap (λ (qs : List Piece). atom s1.at b.0.0 ∷ qs) s2.pieces);
        exported = subst (λ (qs : List Piece). Enclosed (FunctionName n) m.RightBracket c.0.pieces f.0.0 qs) (s4.pieces ∙ ap (λ (qs : List Piece). word s4.at k.Attributes ∷ qs) s5.pieces) exports.1;
        attributed = attributes.1;
      },
    )) done

-- a module and a place
abbrev pub IsModule : ℕ → List Piece → ModuleTree × ℕ → List Piece → Type 0
IsModule n ps x rest = BareModule n ps x.0 rest

module_form : (n ft : ℕ) (ps p3 p4 rest : List Piece) (f : Front) (ds : List DefinitionTree) → IsFront n ps f.0 f.1 f.2 p3 → Row (Definition f.0 n) p3 ds p4 → p4 ≡ word ft k.End ∷ rest
    → BareModule n ps (record { name = f.0; exports = f.1; attributes = f.2; definitions = ds }) rest
module_form n ft ps p3 p4 rest f ds front row e4 =
    let last : Row (Definition f.0 n) p3 ds (word ft k.End ∷ rest) = goes_to (Row (Definition f.0 n)) p3 p4 (word ft k.End ∷ rest) ds e4 row in
    rw front.opens (a_module front.exported front.attributed last)

pub bare_module_sound : (n : ℕ) → Sound None (bare_module_at n) (IsModule n)
unfolding bare_module_at
bare_module_sound n s x t e done =
    let f = bind_ok _ _ _ e in
    let d = bind_ok _ _ _ f.2 in
    let w = bind_ok _ _ _ d.2 in
    let made : ModuleTree = record { name = f.0.0.0; exports = f.0.0.1; attributes = f.0.0.2; definitions = d.0.0 } in
    let same : ((made, place_of d.0.1.stop d.0.1.pieces), w.0) ≡ (x, t) = ok_is _ _ w.2 in
    let s1 = word_steps k.End d.0.1 w.0 w.1 in
    subst (λ (r : (ModuleTree × ℕ) × State). r.1.refused ≡ None → (s.refused ≡ None) × IsModule n s.pieces r.0 r.1.pieces) same
    (λ g.
    let row = rows_sound (definition_at f.0.0.0 n) (Definition f.0.0.0 n) (definition_sound f.0.0.0 n) k.End f.0.1 d.0.0 d.0.1 d.1 (s1.back g) in
    let front = front_sound n s f.0.0 f.0.1 f.1 row.0 in
    (front.0, module_form n s1.at s.pieces f.0.1.pieces d.0.1.pieces w.0.pieces f.0.0 d.0.0 front.1 row.1 s1.pieces)) done

pub either_module : (n : ℕ) (ps : List Piece) (x : ModuleTree × ℕ) (rest : List Piece) → Noted IsModule n ps x rest → Noted BareModule n ps x.0 rest
either_module n ps x rest (stands_bare h) = stands_bare h
either_module zero ps x rest (stands_noted h) = absurd h
either_module (suc n) ps x rest (stands_noted (in_note {ps = qs} {more = more} h g)) = stands_noted (in_note (either_module n qs x more h) g)

pub ended_ok : {X : Type 0} (ps : List Piece) (refused : Option Unserved) (x : X) (s : State) (y : X) → ended ps refused x s ≡ Ok y → (ps ≡ []) × (refused ≡ None) × (x ≡ y)
ended_ok [] None x s y e = (refl, refl, ok_is _ _ e)
ended_ok [] (Some at) x s y e = absurd cc
ended_ok (p ∷ ps) refused x s y e = absurd cc

pub module_sound : (s : State) (x : ModuleTree × ℕ) → module_at s ≡ Ok x → Spells s.pieces x.0
unfolding module_at
module_sound s x e =
    let d = bind_ok _ _ _ e in
    let h = ended_ok d.0.1.pieces d.0.1.refused d.0.0 d.0.1 x d.2 in
    let g = noted_sound bare_module_at IsModule bare_module_sound level_limit s d.0.0 d.0.1 d.1 h.1 in
    let i = either_module level_limit s.pieces d.0.0 d.0.1.pieces g.1 in
    subst (λ (y : ModuleTree × ℕ). Spells s.pieces y.0) h.2 (subst (λ (qs : List Piece). Noted BareModule level_limit s.pieces d.0.0.0 qs) h.0 i)
