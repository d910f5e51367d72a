use Rattle.std.proofs.Common.{◌≡◌, true, false, ℕ, Some, None, if◌then◌else◌, map, sym, ap, ◌∙◌}
use Rattle.std.specs.List.{list_any}
use Rattle.term_core.specs.Meaning.{Meaning}
use Rattle.ets_store.specs.Parts.{part_in}
use Rattle.world_model.specs.Objects.{is_key_or_none}
use Rattle.world_model.specs.declared.rule.Rule.TheVariants.{BadPosition}
use Rattle.ets_answers.proofs.rules.unplaced_rule.Goals as goal

pub returns-then-one_is_unplaced : goal.returns-then-one_is_unplaced
returns-then-one_is_unplaced c =
    let one = λ (change : ℕ × Meaning). is_key_or_none c.args.key change.0 in
    let found : true ≡ list_any one (map part_in c.in-Some.changes.items) = sym c.if-one_is_unplaced.true ∙ c.one_is_unplaced.ensures ∙ ap (λ xs. list_any one (map part_in xs)) c.as_slice.ensures.value in
    rw c.in-Some.is (ap (λ b. if b then Some BadPosition else None) found)

pub returns : goal.returns
returns c =
    let one = λ (change : ℕ × Meaning). is_key_or_none c.args.key change.0 in
    let none : false ≡ list_any one (map part_in c.in-Some.changes.items) = sym c.if-one_is_unplaced.false ∙ c.one_is_unplaced.ensures ∙ ap (λ xs. list_any one (map part_in xs)) c.as_slice.ensures.value in
    rw c.in-Some.is (ap (λ b. if b then Some BadPosition else None) none)
