use Rattle.std.proofs.Common.{◌∙◌, ap, sym, map, List, arith}
use Rattle.term_core.specs.Term.{meaning_of}
use Rattle.term_core.specs.declared.term.Term.{Term}
use Rattle.core_pure_calls.specs.inside.Walks.{first_equal}
use Rattle.core_pure_calls.proofs.ListSteps.{first_removed, none_removed}
use Rattle.core_pure_calls.proofs.lists.remove_first.Goals as goal

pub remove-requires : goal.remove-requires
remove-requires c =
    let found = ap (λ (ts : List Term). first_equal (meaning_of c.args.taken.now) (map meaning_of ts)) (sym c.as_slice.ensures.value) ∙ sym c.first_equal.ensures ∙ c.in-Some.is in
    omega (arith, (first_removed _ c.args.items.now.items _ found).0, c.args.items.now.ok.0)

pub returns-in-Some : goal.returns-in-Some
returns-in-Some c =
    let found = ap (λ (ts : List Term). first_equal (meaning_of c.args.taken.now) (map meaning_of ts)) (sym c.as_slice.ensures.value) ∙ sym c.first_equal.ensures ∙ c.in-Some.is in
    ap (λ (ts : List Term). map meaning_of ts) c.remove.ensures.items ∙ (first_removed _ c.args.items.now.items _ found).1

pub returns-in_default : goal.returns-in_default
returns-in_default c =
    none_removed _ _ (ap (λ (ts : List Term). first_equal (meaning_of c.args.taken.now) (map meaning_of ts)) (sym c.as_slice.ensures.value) ∙ sym c.first_equal.ensures ∙ c.in_default.is)
