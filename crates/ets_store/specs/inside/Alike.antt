-- Objects and heirs that are compared part by part.
use Rattle.std.proofs.lemmas.Cmp.{eq_by_cmp_equiv}
use Rattle.std.specs.Cmp.{IsEquivalence, on_equiv}
use Rattle.std.specs.Cmp.Lexicographic.{pointwise, lists_equiv}
use Rattle.std.specs.Prelude.{Bool, List}
use Rattle.term_core.specs.Meaning.{Meaning}
use Rattle.term_core.specs.Term.{meaning_of}
use Rattle.term_core.specs.inside.OrderLaws.{terms_total}
use Rattle.world_model.specs.Names.{Pid}
use Rattle.world_model.specs.Rows.{Object, same_object}
use Rattle.world_model.specs.Terms.{tuple}
use Rattle.ets_store.specs.declared.table.Heir.{Heir}

pub objects_equal : IsEquivalence same_object
objects_equal = on_equiv tuple (eq_by_cmp_equiv terms_total)

-- two lists of objects are as long, and the same object by object
abbrev pub same_objects : List Object → List Object → Bool
same_objects = pointwise same_object

pub lists_equal : IsEquivalence same_objects
lists_equal = lists_equiv objects_equal

-- an heir, as the explored world has it
abbrev pub heir_seen : Heir → Pid × Meaning
heir_seen h = (h.pid, meaning_of h.data)
