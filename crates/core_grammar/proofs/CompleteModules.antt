-- What is spelt as a module is read.
use Rattle.std.proofs.Common.{◌≡◌, ℕ, zero, suc, List, [], ◌∷◌, length, None, Ok, refl, sym, ap, ◌∙◌, arith}
use Rattle.core_tokens.specs.declared.token.Mark.TheVariants as m
use Rattle.core_tokens.specs.declared.token.Keyword.TheVariants as k
use Rattle.core_tokens.specs.Piece.{Piece}
use Rattle.core_tree.specs.Syntax.{Mention, Tree, NamedAt, AttributeTree, DefinitionTree, ModuleTree}
use Rattle.core_grammar.specs.Grammar.{mark, word, atom, in_note, stands_bare, stands_noted, Annotated, Noted, Enclosed, Row, ConstantIn, BareName, FunctionName, Variable, Expression, level_limit, Attribute, an_attribute, BareFun, is_fun, Fun, BareDefinition, a_definition, Definition, BareModule, a_module, Spells}
use Rattle.core_grammar.specs.inside.Decoder.{after_mark, mark_at, word_at, atom_at, constant_at, noted_at, function_name_at, variable_at}
use Rattle.core_grammar.specs.inside.DecoderModules.{attribute_at, bare_fun_at, fun_at, behind_name_at, TheName, WholeDefinition, inside_opening_at, bare_opening_at, opening_at, definition_at, front_at, bare_module_at, module_at}
use Rattle.core_grammar.specs.Whole.{start}
use Rattle.core_grammar.proofs.CompleteLists.{Complete, TakesOne, closing_bracket, BeginsElse, BeginsNoWord, enclosed_take, closed_complete, exactly_complete, rows_complete}
use Rattle.core_grammar.proofs.CompleteNames.{in_note_complete, NoteFront, note_front, constant_takes, constant_begins, constant_complete, BeginsBare, noted_takes, noted_begins_no_word, noted_complete, bare_name_complete, bare_name_begins_bare, bare_name_begins_no_word, function_name_complete, function_name_takes, function_name_begins, variable_complete, variable_takes, variable_begins}
use Rattle.core_grammar.proofs.CompleteForms.{expression_takes, expression_complete}

attribute_takes : (n : ℕ) → TakesOne (Attribute (ConstantIn n))
attribute_takes n ps x rest (an_attribute {ps = qs} {c = c} h) = omega (arith, constant_takes n qs c rest h)

attribute_begins : (n : ℕ) → BeginsElse (Attribute (ConstantIn n))
attribute_begins n close is ps x rest (an_attribute h) = refl

attribute_complete : (n : ℕ) → Complete (attribute_at n) (Attribute (ConstantIn n))
unfolding attribute_at atom_at mark_at
attribute_complete n stop ps x rest (an_attribute {ps = qs} {c = c} h) = rw (constant_complete n stop qs c rest h) refl

-- ---- functions

-- a function with so many variables
abbrev FunOf : List ℕ → ℕ → ℕ → List Piece → List Mention × Tree → List Piece → Type 0
FunOf own arity n ps f rest = BareFun (Variable n) (Expression own n) ps f rest × (length f.0 ≡ arity)

bare_fun_of : (own : List ℕ) (n stop : ℕ) (ps : List Piece) (f : List Mention × Tree) (rest : List Piece) → BareFun (Variable n) (Expression own n) ps f rest → bare_fun_at own (length f.0) n (start stop ps) ≡ Ok (f, start stop rest)
unfolding bare_fun_at word_at mark_at
bare_fun_of own n stop ps f rest (is_fun {ps = qs} {p1 = p1} {ct = ct} {vs = vs} {body = b} h g) =
    let i = exactly_complete (variable_at n) (Variable n) (variable_complete n) (variable_takes n) (variable_begins n) m.RightParenthesis stop qs vs (mark ct m.Arrow ∷ p1) h in
    rw (i.1, expression_complete own n stop p1 b rest g) refl

bare_fun_complete : (own : List ℕ) (arity n : ℕ) → Complete (bare_fun_at own arity n) (FunOf own arity n)
bare_fun_complete own arity n stop ps f rest h =
    ap (λ (a : ℕ). bare_fun_at own a n (start stop ps)) (sym h.1) ∙ bare_fun_of own n stop ps f rest h.0

bare_fun_begins : (own : List ℕ) (arity n : ℕ) → BeginsBare (FunOf own arity n)
bare_fun_begins own arity n ps f rest h = by ps f rest h.0
  where
    by : (qs : List Piece) (g : List Mention × Tree) (more : List Piece) → BareFun (Variable n) (Expression own n) qs g more → after_mark m.LeftParenthesis qs ≡ None
    by qs g more (is_fun i j) = refl

-- the number of variables goes into the annotation
fun_of : (own : List ℕ) (n : ℕ) (ps : List Piece) (f : List Mention × Tree) (rest : List Piece) → Fun own n ps f rest → Noted (FunOf own (length f.0)) n ps f rest
fun_of own n ps f rest (stands_bare h) = stands_bare (h, refl)
fun_of own zero ps f rest (stands_noted h) = absurd h
fun_of own (suc n) ps f rest (stands_noted (in_note {ps = qs} {more = more} h g)) = stands_noted (in_note (fun_of own n qs f more h) g)

fun_complete : (own : List ℕ) (arity n stop : ℕ) (ps : List Piece) (f : List Mention × Tree) (rest : List Piece) → Fun own n ps f rest → length f.0 ≡ arity → fun_at own arity n (start stop ps) ≡ Ok (f, start stop rest)
unfolding fun_at
fun_complete own arity n stop ps f rest h count =
    ap (λ (a : ℕ). noted_at (bare_fun_at own a) n (start stop ps)) (sym count) ∙ noted_complete (bare_fun_at own (length f.0)) (FunOf own (length f.0)) (bare_fun_complete own (length f.0)) (bare_fun_begins own (length f.0)) n stop ps f rest (fun_of own n ps f rest h)

bare_fun_takes : (own : List ℕ) (n : ℕ) → TakesOne (BareFun (Variable n) (Expression own n))
bare_fun_takes own n ps f rest (is_fun {ps = qs} {p1 = p1} {ct = ct} {vs = vs} {body = b} h g) = omega (arith, enclosed_take (Variable n) (variable_takes n) m.RightParenthesis qs vs (mark ct m.Arrow ∷ p1) h, expression_takes own n p1 b rest g)

fun_takes : (own : List ℕ) (n : ℕ) → TakesOne (Fun own n)
fun_takes own n ps f rest h = noted_takes (λ l. BareFun (Variable l) (Expression own l)) (bare_fun_takes own) n ps f rest h

-- ---- definitions

behind_name_complete : (own : List ℕ) (n stop at : ℕ) (named : NamedAt) (vs : List Mention) (b : Tree) (p1 rest : List Piece) → Fun own n p1 (vs, b) rest → length vs ≡ named.function.arity
    → behind_name_at own n named (start stop (mark at m.Equals ∷ p1)) ≡ Ok (record { named = named; parameters = vs; body = b }, start stop rest)
unfolding behind_name_at mark_at
behind_name_complete own n stop at named vs b p1 rest h count = rw (fun_complete own named.function.arity n stop p1 (vs, b) rest h count) refl

-- what follows an annotation's `-|` is no `=`
no_equals : (ps : List Piece) → NoteFront ps → after_mark m.Equals ps ≡ None
no_equals ps f = rw f.is refl

name_opens : (own : List ℕ) (n stop : ℕ) (ps : List Piece) (named : NamedAt) (rest : List Piece) → FunctionName n ps named rest → opening_at own n (start stop ps) ≡ Ok (TheName named, start stop rest)
unfolding opening_at bare_opening_at inside_opening_at
name_opens own zero stop ps named rest (stands_bare h) = rw (bare_name_begins_bare ps named rest h, bare_name_complete stop ps named rest h) refl
name_opens own zero stop ps named rest (stands_noted h) = absurd h
name_opens own (suc n) stop ps named rest (stands_bare h) = rw (bare_name_begins_bare ps named rest h, bare_name_complete stop ps named rest h) refl
name_opens own (suc n) stop ps named rest (stands_noted (in_note {ps = qs} {more = more} h g)) =
    let inside : inside_opening_at own n (opening_at own n) (start stop qs) ≡ Ok (TheName named, start stop more) = rw (name_opens own n stop qs named more h, no_equals more (note_front (ConstantIn n) more rest g)) refl in
    in_note_complete (constant_at n) (ConstantIn n) (constant_complete n) (constant_takes n) (constant_begins n) (inside_opening_at own n (opening_at own n)) stop qs (TheName named) more rest inside g

whole_opens : (own : List ℕ) (n stop : ℕ) (ps : List Piece) (d : DefinitionTree) (rest : List Piece) → Annotated (BareDefinition own) n ps d rest → opening_at own n (start stop ps) ≡ Ok (WholeDefinition d, start stop rest)
unfolding opening_at inside_opening_at
whole_opens own zero stop ps d rest h = absurd h
whole_opens own (suc n) stop ps d rest (in_note {ps = qs} {more = more} (stands_bare (a_definition {p1 = p1} {at = at} {named = named} {vs = vs} {body = b} h i count)) g) =
    let inside : inside_opening_at own n (opening_at own n) (start stop qs) ≡ Ok (WholeDefinition d, start stop more) = rw (name_opens own n stop qs named (mark at m.Equals ∷ p1) h, behind_name_complete own n stop at named vs b p1 more i count) refl in
    in_note_complete (constant_at n) (ConstantIn n) (constant_complete n) (constant_takes n) (constant_begins n) (inside_opening_at own n (opening_at own n)) stop qs (WholeDefinition d) more rest inside g
whole_opens own (suc n) stop ps d rest (in_note {ps = qs} {more = more} (stands_noted h) g) =
    let inside : inside_opening_at own n (opening_at own n) (start stop qs) ≡ Ok (WholeDefinition d, start stop more) = rw (whole_opens own n stop qs d more h) refl in
    in_note_complete (constant_at n) (ConstantIn n) (constant_complete n) (constant_takes n) (constant_begins n) (inside_opening_at own n (opening_at own n)) stop qs (WholeDefinition d) more rest inside g

definition_complete : (own : List ℕ) (n : ℕ) → Complete (definition_at own n) (Definition own n)
unfolding definition_at
definition_complete own n stop ps d rest (stands_bare (a_definition {p1 = p1} {at = at} {named = named} {vs = vs} {body = b} h i count)) =
    rw (name_opens own n stop ps named (mark at m.Equals ∷ p1) h) (behind_name_complete own n stop at named vs b p1 rest i count)
definition_complete own n stop ps d rest (stands_noted h) = rw (whole_opens own n stop ps d rest h) refl

bare_definition_takes : (own : List ℕ) (n : ℕ) → TakesOne (BareDefinition own n)
bare_definition_takes own n ps d rest (a_definition {p1 = p1} {at = at} {named = named} {vs = vs} {body = b} h i count) = omega (arith, function_name_takes n ps named (mark at m.Equals ∷ p1) h, fun_takes own n p1 (vs, b) rest i)

definition_takes : (own : List ℕ) (n : ℕ) → TakesOne (Definition own n)
definition_takes own n ps d rest h = noted_takes (BareDefinition own) (bare_definition_takes own) n ps d rest h

bare_definition_begins : (own : List ℕ) (n : ℕ) → BeginsNoWord (BareDefinition own n)
bare_definition_begins own n close ps d rest (a_definition {p1 = p1} {at = at} {named = named} h i count) = noted_begins_no_word (λ _. BareName) (λ _. bare_name_begins_no_word) n close ps named (mark at m.Equals ∷ p1) h

definition_begins : (own : List ℕ) (n : ℕ) → BeginsNoWord (Definition own n)
definition_begins own n close ps d rest h = noted_begins_no_word (BareDefinition own) (bare_definition_begins own) n close ps d rest h

-- ---- modules

front_complete : (n stop at bt ct dt et : ℕ) (p1 p2 p3 : List Piece) (name : List ℕ) (exports : List NamedAt) (attributes : List AttributeTree) → Enclosed (FunctionName n) m.RightBracket p1 exports (word dt k.Attributes ∷ mark et m.LeftBracket ∷ p2)
    → Enclosed (Attribute (ConstantIn n)) m.RightBracket p2 attributes p3 → front_at n (start stop (word at k.Module ∷ atom bt name ∷ mark ct m.LeftBracket ∷ p1)) ≡ Ok ((name, exports, attributes), start stop p3)
unfolding front_at atom_at mark_at word_at
front_complete n stop at bt ct dt et p1 p2 p3 name exports attributes h g =
    rw (
      closed_complete (function_name_at n) (FunctionName n) (function_name_complete n) (function_name_takes n) (function_name_begins n) m.RightBracket closing_bracket stop p1 exports (word dt k.Attributes ∷ mark et m.LeftBracket ∷ p2) h,
      closed_complete (attribute_at n) (Attribute (ConstantIn n)) (attribute_complete n) (attribute_takes n) (attribute_begins n) m.RightBracket closing_bracket stop p2 attributes p3 g,
    ) refl

-- a module, and the place of its last `end`
data PlacedModule (n : ℕ) : List Piece → ModuleTree × ℕ → List Piece → Type 0 where
  is_placed : {p1 p2 p3 rest : List Piece} {at bt ct dt et ft : ℕ} {name : List ℕ} {exports : List NamedAt} {attributes : List AttributeTree} {definitions : List DefinitionTree}
      → Enclosed (FunctionName n) m.RightBracket p1 exports (word dt k.Attributes ∷ mark et m.LeftBracket ∷ p2)
      → Enclosed (Attribute (ConstantIn n)) m.RightBracket p2 attributes p3
      → Row (Definition name n) p3 definitions (word ft k.End ∷ rest)
      → PlacedModule n (word at k.Module ∷ atom bt name ∷ mark ct m.LeftBracket ∷ p1) (record { name = name; exports = exports; attributes = attributes; definitions = definitions }, ft) rest

placed_complete : (n : ℕ) → Complete (bare_module_at n) (PlacedModule n)
unfolding bare_module_at word_at
placed_complete n stop ps x rest (is_placed {p1 = p1} {p2 = p2} {p3 = p3} {at = at} {bt = bt} {ct = ct} {dt = dt} {et = et} {ft = ft} {name = name} {exports = exports} {attributes = attributes} {definitions = ds} h g row) =
    rw (
      front_complete n stop at bt ct dt et p1 p2 p3 name exports attributes h g,
      rows_complete (definition_at name n) (Definition name n) (definition_complete name n) (definition_takes name n) (definition_begins name n) k.End stop p3 ds ft rest row,
    ) refl

placed_begins : (n : ℕ) → BeginsBare (PlacedModule n)
placed_begins n ps x rest (is_placed h g row) = refl

-- a module that is spelt has a place for its last `end`
record Placed (n : ℕ) (ps : List Piece) (m : ModuleTree) (rest : List Piece) : Type 0 where
  pub at : ℕ
  pub spelt : Noted PlacedModule n ps (m, at) rest

placed : (n : ℕ) (ps : List Piece) (m : ModuleTree) (rest : List Piece) → Noted BareModule n ps m rest → Placed n ps m rest
placed n ps m rest (stands_bare (a_module {ft = ft} h g row)) = record { at = ft; spelt = stands_bare (is_placed h g row) }
placed zero ps m rest (stands_noted h) = absurd h
placed (suc n) ps m rest (stands_noted (in_note {ps = qs} {more = more} h g)) = let i = placed n qs m more h in record { at = i.at; spelt = stands_noted (in_note i.spelt g) }

pub module_complete : (stop : ℕ) (ps : List Piece) (x : ModuleTree) → Spells ps x → (at : ℕ) × (module_at (start stop ps) ≡ Ok (x, at))
unfolding module_at
module_complete stop ps x h =
    let p = placed level_limit ps x [] h in
    (p.at, rw (noted_complete bare_module_at PlacedModule placed_complete placed_begins level_limit stop ps (x, p.at) [] p.spelt) refl)
