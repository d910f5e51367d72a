-- A map from terms to objects, as the rows that it shows.
use Rattle.std.specs.FinMap.{code, from_sorted, get, is_sorted}
use Rattle.std.specs.Coded.{Coded, coded_list}
use Rattle.std.specs.Prelude.{◌≡◌, List, map, T}
use Rattle.term_core.specs.Order.{order_of_terms}
use Rattle.term_core.specs.Term.{meaning_of}
use Rattle.term_core.specs.declared.term.Term.{Term}
use Rattle.term_core.specs.inside.MeaningCodes.{coded_meaning}
use Rattle.world_model.specs.Rows.{Rows, Key, Object, some_if, under}

abbrev pub coded_rows : Coded Rows
coded_rows = code coded_meaning (coded_list (coded_list coded_meaning))

abbrev pub shown_entry : Term × List Object → Key × List Object
shown_entry e = (meaning_of e.0, e.1)

-- the entries, with what their keys mean
abbrev pub shown : List (Term × List Object) → List (Key × List Object)
shown es = map shown_entry es

-- the rows that they are
abbrev pub rows_of : List (Term × List Object) → Rows
rows_of es = from_sorted (shown es)

-- the keys strictly rise
abbrev pub AreRising : List (Term × List Object) → Type 0
AreRising es = T (is_sorted order_of_terms (shown es))

-- a key without objects is no key
abbrev pub IsTidy : Rows → Type 0
IsTidy rows = (q : Key) → get rows q ≡ some_if (under rows q)
