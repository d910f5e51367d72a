-- The `end` of a module is the last of the text: only annotations follow it, and these hold no keyword.
use Rattle.std.proofs.Common.{◌≡◌, ℕ, zero, suc, List, [], ◌∷◌, ◌++◌, Option, Some, None, Ok, refl, sym, ap, subst, inl}
use Rattle.std.specs.Prelude.{IfSome}
use Rattle.core_tokens.specs.declared.token.Mark.{Mark}
use Rattle.core_tokens.specs.declared.token.Mark.TheVariants as m
use Rattle.core_tokens.specs.declared.token.Keyword.TheVariants as k
use Rattle.core_tokens.specs.Piece.{Piece}
use Rattle.core_tree.specs.Syntax.{Constant, ModuleTree}
use Rattle.core_grammar.specs.declared.unserved.Unserved.{Unserved}
use Rattle.core_grammar.specs.Grammar.{word, mark, Commas, spells_one, spells_next, Enclosed, spells_none, spells_some, Note, is_note, InNote, in_note, stands_bare, stands_noted, Noted, ConstantForm, is_integer, is_character, is_text, is_atom, is_tuple, is_list, is_join, is_noted, ConstantIn, level_limit}
use Rattle.core_grammar.specs.Places.{IsOne, LacksEnd, IsLastEnd}
use Rattle.core_grammar.specs.inside.Decoder.{State}
use Rattle.core_grammar.specs.inside.DecoderModules.{bare_module_at, module_at}
use Rattle.core_grammar.proofs.Steps.{bind_ok, Sound}
use Rattle.core_grammar.proofs.SoundNames.{noted_sound}
use Rattle.core_grammar.proofs.SoundModules.{bare_module_sound, ended_ok}
use Rattle.core_grammar.proofs.FaultSteps.{one_behind, IsUnservedAt, Good}
use Rattle.core_grammar.proofs.FaultModules.{bare_module_ends}

-- ---- constants and annotations

-- what spells an item holds no `end`
abbrev HoldsNoEnd : {X : Type 0} → (List Piece → X → List Piece → Type 0) → Type 0
HoldsNoEnd {X = X} Item = (ps : List Piece) (x : X) (rest : List Piece) → Item ps x rest → LacksEnd rest → LacksEnd ps

behind_mark : (at : ℕ) (x : Mark) (ps : List Piece) → LacksEnd ps → LacksEnd (mark at x ∷ ps)
behind_mark at x ps none = (λ e. absurd cc, none)

module _ {X : Type 0} (Item : List Piece → X → List Piece → Type 0) (each : HoldsNoEnd Item) where
  commas_hold : HoldsNoEnd (Commas Item)
  commas_hold ps xs rest (spells_one {x = x} h) none = each ps x rest h none
  commas_hold ps xs rest (spells_next {more = more} {at = at} {x = x} {xs = ys} h g) none = each ps x (mark at m.Comma ∷ more) h (behind_mark at m.Comma more (commas_hold more ys rest g none))

  enclosed_hold : (close : Mark) → HoldsNoEnd (Enclosed Item close)
  enclosed_hold close ps xs rest (spells_none {at = at}) none = behind_mark at close rest none
  enclosed_hold close ps xs rest (spells_some {at = at} h) none = commas_hold ps xs (mark at close ∷ rest) h (behind_mark at close rest none)

module _ (Item : List Piece → Constant → List Piece → Type 0) (each : HoldsNoEnd Item) where
  note_holds : (ps rest : List Piece) → Note Item ps rest → LacksEnd rest → LacksEnd ps
  note_holds ps rest (is_note {ps = qs} {at = at} {bt = bt} {ct = ct} {cs = cs} h) none =
      let constants = enclosed_hold Item each m.RightBracket qs cs (mark ct m.RightParenthesis ∷ rest) h (behind_mark ct m.RightParenthesis rest none) in
      behind_mark at m.Note (mark bt m.LeftBracket ∷ qs) (behind_mark bt m.LeftBracket qs constants)

  in_note_holds : HoldsNoEnd (InNote Item Item)
  in_note_holds ps c rest (in_note {ps = qs} {more = more} {at = at} h g) none = behind_mark at m.LeftParenthesis qs (each qs c more h (note_holds more rest g none))

  constant_form_holds : HoldsNoEnd (ConstantForm Item)
  constant_form_holds ps c rest is_integer none = (λ e. absurd cc, none)
  constant_form_holds ps c rest is_character none = (λ e. absurd cc, none)
  constant_form_holds ps c rest is_text none = (λ e. absurd cc, none)
  constant_form_holds ps c rest is_atom none = (λ e. absurd cc, none)
  constant_form_holds ps c rest (is_tuple {ps = qs} {at = at} {cs = cs} h) none = behind_mark at m.LeftBrace qs (enclosed_hold Item each m.RightBrace qs cs rest h none)
  constant_form_holds ps c rest (is_list {ps = qs} {at = at} {cs = cs} h) none = behind_mark at m.LeftBracket qs (enclosed_hold Item each m.RightBracket qs cs rest h none)
  constant_form_holds ps c rest (is_join {ps = qs} {more = more} {at = at} {bt = bt} {ct = ct} {cs = cs} {c = last} h g) none =
      let tail = each more last (mark ct m.RightBracket ∷ rest) g (behind_mark ct m.RightBracket rest none) in
      behind_mark at m.LeftBracket qs (commas_hold Item each qs cs (mark bt m.Bar ∷ more) h (behind_mark bt m.Bar more tail))
  constant_form_holds ps c rest (is_noted h) none = in_note_holds ps c rest h none

constant_holds : (n : ℕ) → HoldsNoEnd (ConstantIn n)
constant_holds zero ps c rest h none = absurd h
constant_holds (suc n) ps c rest h none = constant_form_holds (ConstantIn n) (constant_holds n) ps c rest h none

-- ---- modules

-- a last `end` is one of the tokens
pub last_end_stands : (ps : List Piece) (at : ℕ) → IsLastEnd ps at → IsOne ps (word at k.End)
last_end_stands ps at h = subst (λ (qs : List Piece). IsOne qs (word at k.End)) (sym h.stands) (one_behind h.before (word at k.End ∷ h.behind) (word at k.End) (inl refl))

behind_token : (p : Piece) (ps : List Piece) (at : ℕ) → IsLastEnd ps at → IsLastEnd (p ∷ ps) at
behind_token p ps at h = record { before = p ∷ h.before; behind = h.behind; stands = ap (λ (qs : List Piece). p ∷ qs) h.stands; last = h.last }

-- an `end` at the place that is read with a module, and after it what the module leaves
abbrev EndsThere : List Piece → ModuleTree × ℕ → List Piece → Type 0
EndsThere ps x rest = (before : List Piece) × (ps ≡ before ++ word x.1 k.End ∷ rest)

none_refused : (all : List Piece) (end : ℕ) (o : Option Unserved) → o ≡ None → IfSome o (IsUnservedAt all end)
none_refused all end None e = tt
none_refused all end (Some u) e = absurd cc

ends_there : (n : ℕ) → Sound None (bare_module_at n) EndsThere
ends_there n s x t e done =
    let served : s.refused ≡ None = (bare_module_sound n s x t e done).0 in
    let good : Good s.pieces s.stop s = record { stop = refl; inside = ([], refl); refused = none_refused s.pieces s.stop s.refused served } in
    (served, bare_module_ends s.pieces s.stop n s x t good refl e)

noted_ends : (n : ℕ) (ps : List Piece) (x : ModuleTree × ℕ) (rest : List Piece) → Noted (λ _. EndsThere) n ps x rest → LacksEnd rest → IsLastEnd ps x.1
noted_ends n ps x rest (stands_bare h) none = record { before = h.0; behind = rest; stands = h.1; last = none }
noted_ends zero ps x rest (stands_noted h) none = absurd h
noted_ends (suc n) ps x rest (stands_noted (in_note {ps = qs} {more = more} {at = at} h g)) none =
    behind_token (mark at m.LeftParenthesis) qs x.1 (noted_ends n qs x more h (note_holds (ConstantIn n) (constant_holds n) more rest g none))

-- the place that is read with a module is that of the last `end`
pub module_ends : (s : State) (x : ModuleTree × ℕ) → module_at s ≡ Ok x → IsLastEnd s.pieces x.1
unfolding module_at
module_ends s x e =
    let d = bind_ok _ _ _ e in
    let h = ended_ok d.0.1.pieces d.0.1.refused d.0.0 d.0.1 x d.2 in
    let read = noted_sound bare_module_at (λ _. EndsThere) ends_there level_limit s d.0.0 d.0.1 d.1 h.1 in
    let none : LacksEnd d.0.1.pieces = subst (λ (qs : List Piece). LacksEnd qs) (sym h.0) tt in
    subst (λ (y : ModuleTree × ℕ). IsLastEnd s.pieces y.1) h.2 (noted_ends level_limit s.pieces d.0.0 d.0.1.pieces read.1 none)
