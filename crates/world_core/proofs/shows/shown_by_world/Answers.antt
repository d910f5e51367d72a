use Rattle.std.proofs.Common.{◌++◌, ◌∙◌, List, [], append-nil, ap, map, sym}
use Rattle.term_core.specs.declared.step.Step.{Step}
use Rattle.world_identities.specs.Identities.{identity_in}
use Rattle.world_model.specs.Shown.{Identity, shown_at_rest, shown_last}
use Rattle.world_core.specs.inside.Showing.{told_by}
use Rattle.world_core.proofs.Showing.{goes_on, last_shows, no_step}
use Rattle.world_core.proofs.shows.shown_by_world.Goals as goal

pub returns-then-not-is_empty : goal.returns-then-not-is_empty
returns-then-not-is_empty c = λ m h told last.
    c.in_ok-push_if_any.ensures
    ∙ ap (λ xs. map identity_in xs ++ told_by c.in_ok-by_last_event.field-0) c.new-shown.ensures.items
    ∙ c.in_ok-by_last_event.ensures
    ∙ last_shows m h c.args.records.now c.args.event told last
    ∙ sym (append-nil (shown_last h))
    ∙ ap (λ (xs : List Identity). shown_last h ++ xs) (sym (goes_on c.args.enabled.now h c.if-not-is_empty.ensures))

pub returns : goal.returns
returns c = λ m h told last.
    c.in_ok-push_deadlock.ensures m h told
    ∙ ap (λ (xs : List Identity). xs ++ shown_at_rest [] h) (
    c.in_ok-push_if_any.ensures
    ∙ ap (λ xs. map identity_in xs ++ told_by c.in_ok-by_last_event.field-0) c.new-shown.ensures.items
    ∙ c.in_ok-by_last_event.ensures
    ∙ last_shows m h c.args.records.now c.args.event told last)
    ∙ ap (λ (steps : List Step). shown_last h ++ shown_at_rest steps h) (sym (no_step c.args.enabled.now c.if-not-is_empty.ensures))
