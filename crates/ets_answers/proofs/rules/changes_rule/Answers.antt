use Rattle.std.proofs.Common.{◌≡◌, true, false, Some, None, if◌then◌else◌, map, sym, ap, ◌∙◌}
use Rattle.std.specs.List.{list_any}
use Rattle.ets_store.specs.Parts.{part_in}
use Rattle.world_model.specs.Objects.{is_misplaced}
use Rattle.world_model.specs.declared.rule.Rule.TheVariants.{BadPosition}
use Rattle.ets_answers.proofs.rules.changes_rule.Goals as goal

pub returns-then-one_is_misplaced : goal.returns-then-one_is_misplaced
returns-then-one_is_misplaced c =
    let one = is_misplaced c.args.key c.args.object.now in
    let found : true ≡ list_any one (map part_in c.in-Some.changes.items) = sym c.if-one_is_misplaced.true ∙ c.one_is_misplaced.ensures ∙ ap (λ xs. list_any one (map part_in xs)) c.as_slice.ensures.value in
    rw c.in-Some.is (ap (λ b. if b then Some BadPosition else None) found)

pub returns : goal.returns
returns c =
    let one = is_misplaced c.args.key c.args.object.now in
    let none : false ≡ list_any one (map part_in c.in-Some.changes.items) = sym c.if-one_is_misplaced.false ∙ c.one_is_misplaced.ensures ∙ ap (λ xs. list_any one (map part_in xs)) c.as_slice.ensures.value in
    rw c.in-Some.is (ap (λ b. if b then Some BadPosition else None) none)
