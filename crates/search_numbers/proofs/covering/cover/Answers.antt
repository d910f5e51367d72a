use Rattle.std.proofs.Common.{◌≡◌, ◌∙◌, true, nat_eq, ap, sym, subst}
use Rattle.std.specs.List.{list_any}
use Rattle.search_numbers.specs.inside.Covered.{CoversMore}
use Rattle.search_numbers.specs.Stored.{covers}
use Rattle.search_numbers.proofs.Covers.{covered_before, covered_last, covers_followed, covers_last}
use Rattle.search_numbers.proofs.covering.cover.Goals as goal

pub returns-in_err-column-clause-more : goal.returns-in_err-column-clause-more
returns-in_err-column-clause-more c = covers_followed c.add.new.self c.args.store.now c.args.columns.now.items c.add.ensures.follows c.add.ensures.parts

pub returns-in_err-push-clause-more : goal.returns-in_err-push-clause-more
returns-in_err-push-clause-more c = subst (CoversMore c.args.store.now c.args.columns.now.items c.add.new.self) (sym c.in_err-push.ensures.items) (covers_followed c.add.new.self c.args.store.now c.args.columns.now.items c.add.ensures.follows c.add.ensures.parts)

pub returns-in_ok-push-clause-covers : goal.returns-in_ok-push-clause-covers
returns-in_ok-push-clause-covers c =
    subst (λ cs. covers c.add.new.self.places.items cs c.args.place ≡ true) (sym c.in_ok-push.ensures.items)
    (covered_last c.add.new.self c.args.columns.now.items c.in_ok-column.column c.args.place c.in_ok-column.ensures.column)

pub returns-in_ok-push-clause-more : goal.returns-in_ok-push-clause-more
returns-in_ok-push-clause-more c =
    subst (CoversMore c.args.store.now c.args.columns.now.items c.add.new.self) (sym c.in_ok-push.ensures.items)
    (covers_last c.add.new.self c.args.store.now c.args.columns.now.items c.in_ok-column.column c.args.place c.add.ensures.follows c.add.ensures.parts c.in_ok-column.ensures.column)

pub returns-else-not-contains-clause-covers : goal.returns-else-not-contains-clause-covers
returns-else-not-contains-clause-covers c =
    covered_before c.add.new.self c.args.columns.now.items c.in_ok-column.column c.args.place c.in_ok-column.ensures.column
    (ap (list_any (λ d. nat_eq d c.in_ok-column.column)) (sym c.as_slice.ensures.value) ∙ sym c.contains.ensures.value ∙ c.if-not-contains.false)

pub returns-else-not-contains-clause-more : goal.returns-else-not-contains-clause-more
returns-else-not-contains-clause-more c = covers_followed c.add.new.self c.args.store.now c.args.columns.now.items c.add.ensures.follows c.add.ensures.parts
