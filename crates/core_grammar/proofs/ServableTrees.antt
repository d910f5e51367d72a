-- In what is spelt each call of the world has as many arguments as it takes.
use Rattle.std.proofs.Common.{◌≡◌, ℕ, zero, suc, List, [], ◌∷◌, length, refl, ap, subst}
use Rattle.core_tokens.specs.Piece.{Piece}
use Rattle.core_tokens.specs.declared.token.Mark.{Mark}
use Rattle.core_tokens.specs.declared.token.Mark.TheVariants as m
use Rattle.core_grammar.specs.declared.subject.Subject.{Subject}
use Rattle.core_grammar.specs.declared.subject.Subject.TheVariants as subjects
use Rattle.core_tokens.specs.declared.token.Keyword.TheVariants as k
use Rattle.core_calls.specs.Calls.{Signature}
use Rattle.core_tree.specs.Servable.{count_of, MayBeCalled, IsServable, AreServable, AreServableClauses, HaveServableBodies, IsServableModule}
use Rattle.core_tree.specs.Syntax.{Callee, Pattern, Tree, trees_of, ClauseTree, clauses_of, DefinitionTree, ModuleTree}
use Rattle.core_grammar.specs.Grammar.{mark, word, Commas, spells_one, spells_next, Enclosed, spells_none, spells_some, Row, ends_here, goes_on, InNote, in_note, stands_bare, stands_noted, Noted, ConstantIn, Variable, PatternsIn, Calls, calls_world, calls_itself, calls_export, Operates, fails_match, raises_again, BareClause, is_clause, Form, a_number, a_character, a_text, a_name, a_variable, a_tuple, a_list, a_join, some_values, a_noted, a_let, a_case, a_do, an_apply, a_call, a_primop, a_try, a_catch, a_receive, Expression, AnnotatedClause, Clause, BareFun, is_fun, Fun, BareDefinition, a_definition, Definition, BareModule, a_module, level_limit, Spells}

-- ---- what each item holds, the items of a list hold

abbrev Holds : {X : Type 0} → (List Piece → X → List Piece → Type 0) → (X → Type 0) → Type 0
Holds {X = X} Item Q = (ps : List Piece) (x : X) (rest : List Piece) → Item ps x rest → Q x

abbrev Each : {X : Type 0} → (X → Type 0) → List X → Type 0
Each Q [] = Unit {0}
Each Q (x ∷ xs) = Q x × Each Q xs

module _ {X : Type 0} (Item : List Piece → X → List Piece → Type 0) (Q : X → Type 0) (each : Holds Item Q) where
  commas_hold : Holds (Commas Item) (Each Q)
  commas_hold ps xs rest (spells_one {x = x} h) = (each ps x rest h, tt)
  commas_hold ps xs rest (spells_next {more = more} {at = at} {x = x} {xs = ys} h g) = (each ps x (mark at m.Comma ∷ more) h, commas_hold more ys rest g)

  enclosed_hold : (close : Mark) → Holds (Enclosed Item close) (Each Q)
  enclosed_hold close ps xs rest spells_none = tt
  enclosed_hold close ps xs rest (spells_some {at = at} h) = commas_hold ps xs (mark at close ∷ rest) h

  row_holds : Holds (Row Item) (Each Q)
  row_holds ps xs rest ends_here = tt
  row_holds ps xs rest (goes_on {more = more} {x = x} {xs = ys} h g) = (each ps x more h, row_holds more ys rest g)

noted_holds : {X : Type 0} (Bare : ℕ → List Piece → X → List Piece → Type 0) (Q : X → Type 0) → ((n : ℕ) → Holds (Bare n) Q) → (n : ℕ) → Holds (Noted Bare n) Q
noted_holds Bare Q each n ps x rest (stands_bare h) = each n ps x rest h
noted_holds Bare Q each zero ps x rest (stands_noted h) = absurd h
noted_holds Bare Q each (suc n) ps x rest (stands_noted (in_note {ps = qs} {more = more} h g)) = noted_holds Bare Q each n qs x more h

-- ---- calls

all_servable : (ts : List Tree) → Each IsServable ts → AreServable (trees_of ts)
all_servable [] h = tt
all_servable (t ∷ ts) h = (h.0, all_servable ts h.1)

abbrev ClauseServable : ClauseTree → Type 0
ClauseServable c = IsServable c.guard × IsServable c.body

clauses_servable : (cs : List ClauseTree) → Each ClauseServable cs → AreServableClauses (clauses_of cs)
clauses_servable [] h = tt
clauses_servable (c ∷ cs) h = (h.0.0, h.0.1, clauses_servable cs h.1)

counted : (ts : List Tree) → length ts ≡ count_of (trees_of ts)
counted [] = refl
counted (t ∷ ts) = ap suc (counted ts)

called : (own : List ℕ) (s : Signature) (callee : Callee) → Calls own s callee → MayBeCalled callee s.arity
called own s callee calls_world = refl
called own s callee calls_itself = tt
called own s callee (calls_export small new) = tt

operated : (name : List ℕ) (count : ℕ) (callee : Callee) → Operates name count callee → MayBeCalled callee count
operated name count callee fails_match = tt
operated name count callee raises_again = tt

with_all : (callee : Callee) (ts : List Tree) → MayBeCalled callee (length ts) → MayBeCalled callee (count_of (trees_of ts))
with_all callee ts h = subst (λ (n : ℕ). MayBeCalled callee n) (counted ts) h

-- ---- expressions

clause_servable : (Patterns : List Piece → List Pattern → List Piece → Type 0) (Inner : List Piece → Tree → List Piece → Type 0) → Holds Inner IsServable → Holds (BareClause Patterns Inner) ClauseServable
clause_servable Patterns Inner each ps c rest (is_clause {p1 = p1} {p2 = p2} {bt = bt} {guard = g} {body = b} h i j) = (each p1 g (mark bt m.Arrow ∷ p2) i, each p2 b rest j)

module _ (own : List ℕ) (n : ℕ) (Inner : List Piece → Tree → List Piece → Type 0) (Branch : Subject → List Piece → ClauseTree → List Piece → Type 0) (each : Holds Inner IsServable) (branches : (subject : Subject) → Holds (Branch subject) ClauseServable) where
  enclosed : (close : Mark) (ps : List Piece) (ts : List Tree) (rest : List Piece) → Enclosed Inner close ps ts rest → AreServable (trees_of ts)
  enclosed close ps ts rest h = all_servable ts (enclosed_hold Inner IsServable each close ps ts rest h)

  form_servable : Holds (Form own n Inner Branch) IsServable
  form_servable ps t rest a_number = tt
  form_servable ps t rest a_character = tt
  form_servable ps t rest a_text = tt
  form_servable ps t rest (a_name h) = tt
  form_servable ps t rest a_variable = tt
  form_servable ps t rest (a_tuple {ps = qs} {ts = ts} h) = enclosed m.RightBrace qs ts rest h
  form_servable ps t rest (a_list {ps = qs} {ts = ts} h) = enclosed m.RightBracket qs ts rest h
  form_servable ps t rest (a_join {ps = qs} {more = more} {bt = bt} {ct = ct} {ts = ts} {t = u} h g) = (all_servable ts (commas_hold Inner IsServable each qs ts (mark bt m.Bar ∷ more) h), each more u (mark ct m.RightBracket ∷ rest) g)
  form_servable ps t rest (some_values {ps = qs} {ts = ts} h) = enclosed m.Greater qs ts rest h
  form_servable ps t rest (a_noted (in_note {ps = qs} {more = more} h g)) = each qs t more h
  form_servable ps t rest (a_let {p1 = p1} {p2 = p2} {ct = ct} {t = u} {u = v} h g i) = (each p1 u (word ct k.In ∷ p2) g, each p2 v rest i)
  form_servable ps t rest (a_case {ps = qs} {p1 = p1} {p2 = p2} {bt = bt} {ct = ct} {t = u} {c = c} {cs = cs} h g i) =
      (each qs u (word bt k.Of ∷ p1) h, clauses_servable (c ∷ cs) (branches subjects.Values p1 c p2 g, row_holds (Branch subjects.Values) ClauseServable (branches subjects.Values) p2 cs (word ct k.End ∷ rest) i))
  form_servable ps t rest (a_do {ps = qs} {more = more} {t = u} {u = v} h g) = (each qs u more h, each more v rest g)
  form_servable ps t rest (an_apply {p1 = p1} {named = named} {ts = ts} h g count) = (tt, enclosed m.RightParenthesis p1 ts rest g)
  form_servable ps t rest (a_call {p2 = p2} {module_name = a} {function_name = f} {callee = callee} {ts = ts} h g i c) =
      (with_all callee ts (called own (record { module_name = a; function_name = f; arity = length ts }) callee c), enclosed m.RightParenthesis p2 ts rest i)
  form_servable ps t rest (a_primop {ps = qs} {t = name} {callee = callee} {ts = ts} h o) = (with_all callee ts (operated name (length ts) callee o), enclosed m.RightParenthesis qs ts rest h)
  form_servable ps t rest (a_try {ps = qs} {p1 = p1} {p2 = p2} {p3 = p3} {p4 = p4} {bt = bt} {dt = dt} {t = u} {u = v} {h = w} h g i j l) = (each qs u (word bt k.Of ∷ p1) h, each p2 v (word dt k.Catch ∷ p3) i, each p4 w rest l)
  form_servable ps t rest (a_catch {ps = qs} {t = u} h) = each qs u rest h
  form_servable ps t rest (a_receive {ps = qs} {p1 = p1} {p2 = p2} {bt = bt} {ct = ct} {cs = cs} {t = u} {u = v} h g i) =
      (clauses_servable cs (row_holds (Branch subjects.Message) ClauseServable (branches subjects.Message) qs cs (word bt k.After ∷ p1) h), each p1 u (mark ct m.Arrow ∷ p2) g, each p2 v rest i)

module _ (own : List ℕ) where
  either_clause : (n : ℕ) (subject : Subject) → Holds (Expression own n) IsServable → Holds (AnnotatedClause own n subject) ClauseServable → Holds (Clause own n subject) ClauseServable
  either_clause n subject each noted ps c rest (stands_bare h) = clause_servable (PatternsIn n subject) (Expression own n) each ps c rest h
  either_clause n subject each noted ps c rest (stands_noted h) = noted ps c rest h

  both_servable : (n : ℕ) → Holds (Expression own n) IsServable × ((subject : Subject) → Holds (AnnotatedClause own n subject) ClauseServable)
  both_servable zero = (λ ps t rest h. absurd h, λ subject ps c rest h. absurd h)
  both_servable (suc n) =
      let b = both_servable n in
      (form_servable own n (Expression own n) (Clause own n) b.0 (λ subject. either_clause n subject b.0 (b.1 subject)), λ subject ps c rest h. inside n subject b.0 (b.1 subject) ps c rest h)
    where
      inside : (l : ℕ) (subject : Subject) → Holds (Expression own l) IsServable → Holds (AnnotatedClause own l subject) ClauseServable → Holds (InNote (Clause own l subject) (ConstantIn l)) ClauseServable
      inside l subject each noted ps c rest (in_note {ps = qs} {more = more} h g) = either_clause l subject each noted qs c more h

  -- ---- definitions

  fun_servable : (n : ℕ) → Holds (Fun own n) (λ f. IsServable f.1)
  fun_servable n ps f rest h = noted_holds (λ l. BareFun (Variable l) (Expression own l)) (λ f. IsServable f.1) bare n ps f rest h
    where
      bare : (l : ℕ) → Holds (BareFun (Variable l) (Expression own l)) (λ f. IsServable f.1)
      bare l ps f rest (is_fun {p1 = p1} {body = b} h g) = (both_servable l).0 p1 b rest g

  definition_servable : (n : ℕ) → Holds (Definition own n) (λ d. IsServable d.body)
  definition_servable n ps d rest h = noted_holds (BareDefinition own) (λ d. IsServable d.body) bare n ps d rest h
    where
      bare : (l : ℕ) → Holds (BareDefinition own l) (λ d. IsServable d.body)
      bare l ps d rest (a_definition {p1 = p1} {vs = vs} {body = b} h g count) = fun_servable l p1 (vs, b) rest g

bodies_servable : (ds : List DefinitionTree) → Each (λ d. IsServable d.body) ds → HaveServableBodies ds
bodies_servable [] h = tt
bodies_servable (d ∷ ds) h = (h.0, bodies_servable ds h.1)

-- ---- modules

pub module_servable : (ps : List Piece) (m : ModuleTree) → Spells ps m → IsServableModule m
module_servable ps m h = noted_holds BareModule IsServableModule bare level_limit ps m [] h
  where
    bare : (n : ℕ) → Holds (BareModule n) IsServableModule
    bare n ps m rest (a_module {p3 = p3} {ft = ft} {name = name} {definitions = ds} h g row) =
        bodies_servable ds (row_holds (Definition name n) (λ d. IsServable d.body) (definition_servable name n) p3 ds (word ft k.End ∷ rest) row)
