-- Constants, annotations and names that are spelt are read.
use Rattle.std.proofs.Common.{◌≡◌, ℕ, zero, suc, ◌<◌, List, ◌∷◌, length, None, Ok, refl, arith}
use Rattle.core_tokens.specs.declared.token.Mark.TheVariants as m
use Rattle.core_tokens.specs.Piece.{Piece}
use Rattle.core_tree.specs.Syntax.{Constant}
use Rattle.core_grammar.specs.Grammar.{mark, Note, is_note, InNote, in_note, stands_bare, stands_noted, Noted, ConstantForm, is_integer, is_character, is_text, is_atom, is_tuple, is_list, is_join, is_noted, ConstantIn, BareName, names_function, FunctionName, BareVariable, names_variable, Variable, BareVariables, one_variable, variables_in_angles, Variables, BareCaught, catches_two, catches_three, CaughtVariables}
use Rattle.core_grammar.specs.inside.Decoder.{State, Read, after_mark, mark_at, note_at, in_note_at, constant_tuple_at, constant_list_at, constant_form_at, constant_at, noted_at, placed_atom_at, arity_at, behind_atom_at, bare_name_at, function_name_at, bare_variable_at, variable_at, bare_variables_at, variables_at, bare_caught_at, caught_at}
use Rattle.core_grammar.specs.Whole.{start}
use Rattle.core_grammar.proofs.CompleteLists.{Complete, TakesOne, less_again, closing_brace, closing_bracket, closing_greater, BeginsElse, BeginsNoWord, commas_take, enclosed_take, closed_complete, brackets_complete, join_complete}

-- ---- annotations

note_take : (Item : List Piece → Constant → List Piece → Type 0) → TakesOne Item → (ps rest : List Piece) → Note Item ps rest → length rest < length ps
note_take Item takes ps rest (is_note {ps = qs} {ct = ct} {cs = cs} h) = omega (arith, enclosed_take Item takes m.RightBracket qs cs (mark ct m.RightParenthesis ∷ rest) h)

pub in_note_take : {X : Type 0} (Inner : List Piece → X → List Piece → Type 0) (Item : List Piece → Constant → List Piece → Type 0) → TakesOne Inner → TakesOne Item → TakesOne (InNote Inner Item)
in_note_take Inner Item takes notes ps x rest (in_note {ps = qs} {more = more} h g) = omega (arith, takes qs x more h, note_take Item notes more rest g)

-- what is annotated is followed by its mark
pub record NoteFront (ps : List Piece) : Type 0 where
  pub at : ℕ
  pub more : List Piece
  pub is : ps ≡ mark at m.Note ∷ more

pub note_front : (Item : List Piece → Constant → List Piece → Type 0) (ps rest : List Piece) → Note Item ps rest → NoteFront ps
note_front Item ps rest (is_note {ps = qs} {at = at} {bt = bt} h) = record { at = at; more = mark bt m.LeftBracket ∷ qs; is = refl }

module _ (inner : State → Read Constant) (Inner : List Piece → Constant → List Piece → Type 0) (each : Complete inner Inner) (takes : TakesOne Inner) (begins : BeginsElse Inner) where
  pub note_complete : (stop : ℕ) (ps rest : List Piece) → Note Inner ps rest → note_at inner (start stop ps) ≡ Ok (start stop rest)
  unfolding note_at mark_at
  note_complete stop ps rest (is_note {ps = qs} {ct = ct} {cs = cs} h) = rw (closed_complete inner Inner each takes begins m.RightBracket closing_bracket stop qs cs (mark ct m.RightParenthesis ∷ rest) h) refl

  -- what is in the parentheses of an annotation, after the first of them
  pub in_note_complete : {X : Type 0} (item : State → Read X) (stop : ℕ) (ps : List Piece) (x : X) (more rest : List Piece) → item (start stop ps) ≡ Ok (x, start stop more) → Note Inner more rest → in_note_at inner item (start stop ps) ≡ Ok (x, start stop rest)
  unfolding in_note_at
  in_note_complete item stop ps x more rest e g = rw (e, note_complete stop more rest g) refl

-- ---- constants

module _ (Inner : List Piece → Constant → List Piece → Type 0) (takes : TakesOne Inner) where
  constant_form_takes : TakesOne (ConstantForm Inner)
  constant_form_takes ps c rest is_integer = omega arith
  constant_form_takes ps c rest is_character = omega arith
  constant_form_takes ps c rest is_text = omega arith
  constant_form_takes ps c rest is_atom = omega arith
  constant_form_takes ps c rest (is_tuple {ps = qs} {cs = cs} h) = omega (arith, enclosed_take Inner takes m.RightBrace qs cs rest h)
  constant_form_takes ps c rest (is_list {ps = qs} {cs = cs} h) = omega (arith, enclosed_take Inner takes m.RightBracket qs cs rest h)
  constant_form_takes ps c rest (is_join {ps = qs} {more = more} {bt = bt} {ct = ct} {cs = cs} {c = d} h g) = omega (arith, commas_take Inner takes qs cs (mark bt m.Bar ∷ more) h, takes more d (mark ct m.RightBracket ∷ rest) g)
  constant_form_takes ps c rest (is_noted h) = in_note_take Inner Inner takes takes ps c rest h

pub in_note_begins : {X : Type 0} (Inner : List Piece → X → List Piece → Type 0) (Item : List Piece → Constant → List Piece → Type 0) → BeginsElse (InNote Inner Item)
in_note_begins Inner Item close is ps x rest (in_note h g) = rw is.parenthesis refl

pub in_note_begins_no_word : {X : Type 0} (Inner : List Piece → X → List Piece → Type 0) (Item : List Piece → Constant → List Piece → Type 0) → BeginsNoWord (InNote Inner Item)
in_note_begins_no_word Inner Item close ps x rest (in_note h g) = refl

module _ (Inner : List Piece → Constant → List Piece → Type 0) where
  constant_form_begins : BeginsElse (ConstantForm Inner)
  constant_form_begins close is ps c rest is_integer = refl
  constant_form_begins close is ps c rest is_character = refl
  constant_form_begins close is ps c rest is_text = refl
  constant_form_begins close is ps c rest is_atom = refl
  constant_form_begins close is ps c rest (is_tuple h) = rw is.brace refl
  constant_form_begins close is ps c rest (is_list h) = rw is.bracket refl
  constant_form_begins close is ps c rest (is_join h g) = rw is.bracket refl
  constant_form_begins close is ps c rest (is_noted h) = in_note_begins Inner Inner close is ps c rest h

module _ (inner : State → Read Constant) (Inner : List Piece → Constant → List Piece → Type 0) (each : Complete inner Inner) (takes : TakesOne Inner) (begins : BeginsElse Inner) where
  noted_constant : (stop : ℕ) (ps : List Piece) (c : Constant) (rest : List Piece) → InNote Inner Inner ps c rest → constant_form_at inner (start stop ps) ≡ Ok (c, start stop rest)
  unfolding constant_form_at
  noted_constant stop ps c rest (in_note {ps = qs} {more = more} h g) = in_note_complete inner Inner each takes begins inner stop qs c more rest (each stop qs c more h) g

  constant_form_complete : Complete (constant_form_at inner) (ConstantForm Inner)
  unfolding constant_form_at constant_tuple_at constant_list_at
  constant_form_complete stop ps c rest is_integer = refl
  constant_form_complete stop ps c rest is_character = refl
  constant_form_complete stop ps c rest is_text = refl
  constant_form_complete stop ps c rest is_atom = refl
  constant_form_complete stop ps c rest (is_tuple {ps = qs} {cs = cs} h) = rw (closed_complete inner Inner each takes begins m.RightBrace closing_brace stop qs cs rest h) refl
  constant_form_complete stop ps c rest (is_list {ps = qs} {cs = cs} h) = rw (brackets_complete inner Inner each takes begins stop qs cs rest h) refl
  constant_form_complete stop ps c rest (is_join {ps = qs} {more = more} {bt = bt} {ct = ct} {cs = cs} {c = d} h g) = rw (join_complete inner Inner each takes begins stop bt ct qs more cs d rest h g) refl
  constant_form_complete stop ps c rest (is_noted h) = noted_constant stop ps c rest h

pub constant_takes : (n : ℕ) → TakesOne (ConstantIn n)
constant_takes zero ps c rest h = absurd h
constant_takes (suc n) ps c rest h = constant_form_takes (ConstantIn n) (constant_takes n) ps c rest h

pub constant_begins : (n : ℕ) → BeginsElse (ConstantIn n)
constant_begins zero close is ps c rest h = absurd h
constant_begins (suc n) close is ps c rest h = constant_form_begins (ConstantIn n) close is ps c rest h

pub constant_complete : (n : ℕ) → Complete (constant_at n) (ConstantIn n)
unfolding constant_at
constant_complete zero stop ps c rest h = absurd h
constant_complete (suc n) stop ps c rest h = constant_form_complete (constant_at n) (ConstantIn n) (constant_complete n) (constant_takes n) (constant_begins n) stop ps c rest h

-- ---- what may be annotated

-- a bare form begins with no parenthesis
abbrev pub BeginsBare : {X : Type 0} → (List Piece → X → List Piece → Type 0) → Type 0
BeginsBare {X = X} Item = (ps : List Piece) (x : X) (rest : List Piece) → Item ps x rest → after_mark m.LeftParenthesis ps ≡ None

module _ {X : Type 0} (Bare : ℕ → List Piece → X → List Piece → Type 0) where
  pub noted_takes : ((n : ℕ) → TakesOne (Bare n)) → (n : ℕ) → TakesOne (Noted Bare n)
  noted_takes bare n ps x rest (stands_bare h) = bare n ps x rest h
  noted_takes bare zero ps x rest (stands_noted h) = absurd h
  noted_takes bare (suc n) ps x rest (stands_noted h) = in_note_take (Noted Bare n) (ConstantIn n) (noted_takes bare n) (constant_takes n) ps x rest h

  pub noted_begins : ((n : ℕ) → BeginsElse (Bare n)) → (n : ℕ) → BeginsElse (Noted Bare n)
  noted_begins bare n close is ps x rest (stands_bare h) = bare n close is ps x rest h
  noted_begins bare zero close is ps x rest (stands_noted h) = absurd h
  noted_begins bare (suc n) close is ps x rest (stands_noted h) = in_note_begins (Noted Bare n) (ConstantIn n) close is ps x rest h

  pub noted_begins_no_word : ((n : ℕ) → BeginsNoWord (Bare n)) → (n : ℕ) → BeginsNoWord (Noted Bare n)
  noted_begins_no_word bare n close ps x rest (stands_bare h) = bare n close ps x rest h
  noted_begins_no_word bare zero close ps x rest (stands_noted h) = absurd h
  noted_begins_no_word bare (suc n) close ps x rest (stands_noted h) = in_note_begins_no_word (Noted Bare n) (ConstantIn n) close ps x rest h

module _ {X : Type 0} (bare : ℕ → State → Read X) (Bare : ℕ → List Piece → X → List Piece → Type 0) (each : (n : ℕ) → Complete (bare n) (Bare n)) (begins : (n : ℕ) → BeginsBare (Bare n)) where
  pub noted_complete : (n : ℕ) → Complete (noted_at bare n) (Noted Bare n)
  unfolding noted_at
  noted_complete zero stop ps x rest (stands_bare h) = rw (begins 0 ps x rest h) (each 0 stop ps x rest h)
  noted_complete zero stop ps x rest (stands_noted h) = absurd h
  noted_complete (suc n) stop ps x rest (stands_bare h) = rw (begins (suc n) ps x rest h) (each (suc n) stop ps x rest h)
  noted_complete (suc n) stop ps x rest (stands_noted (in_note {ps = qs} {more = more} h g)) =
      in_note_complete (constant_at n) (ConstantIn n) (constant_complete n) (constant_takes n) (constant_begins n) (noted_at bare n) stop qs x more rest (noted_complete n stop qs x more h) g

-- ---- names

pub bare_variable_complete : Complete bare_variable_at BareVariable
unfolding bare_variable_at
bare_variable_complete stop ps x rest names_variable = refl

pub bare_name_complete : Complete bare_name_at BareName
unfolding bare_name_at behind_atom_at placed_atom_at mark_at arity_at
bare_name_complete stop ps x rest (names_function {n = n} h) = rw (less_again n 256 h) refl

pub bare_name_begins_bare : BeginsBare BareName
bare_name_begins_bare ps x rest (names_function h) = refl

pub bare_name_takes : TakesOne BareName
bare_name_takes ps x rest (names_function h) = omega arith

pub bare_name_begins : BeginsElse BareName
bare_name_begins close is ps x rest (names_function h) = refl

pub bare_name_begins_no_word : BeginsNoWord BareName
bare_name_begins_no_word close ps x rest (names_function h) = refl

bare_variable_begins_bare : BeginsBare BareVariable
bare_variable_begins_bare ps x rest names_variable = refl

bare_variable_takes : TakesOne BareVariable
bare_variable_takes ps x rest names_variable = omega arith

bare_variable_begins : BeginsElse BareVariable
bare_variable_begins close is ps x rest names_variable = refl

pub function_name_complete : (n : ℕ) → Complete (function_name_at n) (FunctionName n)
unfolding function_name_at
function_name_complete n stop ps x rest h = noted_complete (λ _. bare_name_at) (λ _. BareName) (λ _. bare_name_complete) (λ _. bare_name_begins_bare) n stop ps x rest h

pub function_name_takes : (n : ℕ) → TakesOne (FunctionName n)
function_name_takes n ps x rest h = noted_takes (λ _. BareName) (λ _. bare_name_takes) n ps x rest h

pub function_name_begins : (n : ℕ) → BeginsElse (FunctionName n)
function_name_begins n close is ps x rest h = noted_begins (λ _. BareName) (λ _. bare_name_begins) n close is ps x rest h

pub variable_complete : (n : ℕ) → Complete (variable_at n) (Variable n)
unfolding variable_at
variable_complete n stop ps x rest h = noted_complete (λ _. bare_variable_at) (λ _. BareVariable) (λ _. bare_variable_complete) (λ _. bare_variable_begins_bare) n stop ps x rest h

pub variable_takes : (n : ℕ) → TakesOne (Variable n)
variable_takes n ps x rest h = noted_takes (λ _. BareVariable) (λ _. bare_variable_takes) n ps x rest h

pub variable_begins : (n : ℕ) → BeginsElse (Variable n)
variable_begins n close is ps x rest h = noted_begins (λ _. BareVariable) (λ _. bare_variable_begins) n close is ps x rest h

-- ---- lists of variables

bare_variables_complete : (n : ℕ) → Complete (bare_variables_at n) (BareVariables (Variable n))
unfolding bare_variables_at
bare_variables_complete n stop ps vs rest (one_variable {v = v} names_variable) = rw (bare_variable_complete stop ps v rest names_variable) refl
bare_variables_complete n stop ps vs rest (variables_in_angles {ps = qs} h) = closed_complete (variable_at n) (Variable n) (variable_complete n) (variable_takes n) (variable_begins n) m.Greater closing_greater stop qs vs rest h

bare_variables_take : (n : ℕ) → TakesOne (BareVariables (Variable n))
bare_variables_take n ps vs rest (one_variable {v = v} h) = bare_variable_takes ps v rest h
bare_variables_take n ps vs rest (variables_in_angles {ps = qs} h) = omega (arith, enclosed_take (Variable n) (variable_takes n) m.Greater qs vs rest h)

bare_variables_begin : (n : ℕ) → BeginsBare (BareVariables (Variable n))
bare_variables_begin n ps vs rest (one_variable {v = v} h) = bare_variable_begins_bare ps v rest h
bare_variables_begin n ps vs rest (variables_in_angles h) = refl

pub variables_complete : (n : ℕ) → Complete (variables_at n) (Variables n)
unfolding variables_at
variables_complete n stop ps x rest h = noted_complete bare_variables_at (λ l. BareVariables (Variable l)) bare_variables_complete bare_variables_begin n stop ps x rest h

pub variables_take : (n : ℕ) → TakesOne (Variables n)
variables_take n ps x rest h = noted_takes (λ l. BareVariables (Variable l)) bare_variables_take n ps x rest h

bare_caught_complete : (n : ℕ) → Complete (bare_caught_at n) (BareCaught (Variable n))
unfolding bare_caught_at mark_at
bare_caught_complete n stop ps vs rest (catches_two {ps = p0} {p1 = p1} {bt = bt} {ct = ct} {u = u} {v = v} h g) =
    rw (variable_complete n stop p0 u (mark bt m.Comma ∷ p1) h, variable_complete n stop p1 v (mark ct m.Greater ∷ rest) g) refl
bare_caught_complete n stop ps vs rest (catches_three {ps = p0} {p1 = p1} {p2 = p2} {bt = bt} {ct = ct} {dt = dt} {u = u} {v = v} {w = w} h g i) =
    rw (variable_complete n stop p0 u (mark bt m.Comma ∷ p1) h, variable_complete n stop p1 v (mark ct m.Comma ∷ p2) g, variable_complete n stop p2 w (mark dt m.Greater ∷ rest) i) refl

bare_caught_take : (n : ℕ) → TakesOne (BareCaught (Variable n))
bare_caught_take n ps vs rest (catches_two {ps = p0} {p1 = p1} {bt = bt} {ct = ct} {u = u} {v = v} h g) = omega (arith, variable_takes n p0 u (mark bt m.Comma ∷ p1) h, variable_takes n p1 v (mark ct m.Greater ∷ rest) g)
bare_caught_take n ps vs rest (catches_three {ps = p0} {p1 = p1} {p2 = p2} {bt = bt} {ct = ct} {dt = dt} {u = u} {v = v} {w = w} h g i) =
    omega (arith, variable_takes n p0 u (mark bt m.Comma ∷ p1) h, variable_takes n p1 v (mark ct m.Comma ∷ p2) g, variable_takes n p2 w (mark dt m.Greater ∷ rest) i)

bare_caught_begins : (n : ℕ) → BeginsBare (BareCaught (Variable n))
bare_caught_begins n ps vs rest (catches_two h g) = refl
bare_caught_begins n ps vs rest (catches_three h g i) = refl

pub caught_complete : (n : ℕ) → Complete (caught_at n) (CaughtVariables n)
unfolding caught_at
caught_complete n stop ps x rest h = noted_complete bare_caught_at (λ l. BareCaught (Variable l)) bare_caught_complete bare_caught_begins n stop ps x rest h

pub caught_take : (n : ℕ) → TakesOne (CaughtVariables n)
caught_take n ps x rest h = noted_takes (λ l. BareCaught (Variable l)) bare_caught_take n ps x rest h
