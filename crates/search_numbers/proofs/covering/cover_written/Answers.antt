use Rattle.std.proofs.Common.{map, option_map, subst, sym}
use Rattle.std.proofs.lemmas.Result.{on_ok_weaker}
use Rattle.world_model.specs.Changes.{cell_of}
use Rattle.world_records.specs.Changes.{all_changes_in}
use Rattle.world_footprints.specs.Deeds.{deed_in}
use Rattle.world_footprints.specs.Plans.{first_changes, written_by}
use Rattle.search_numbers.specs.inside.Covered.{CoversViews}
use Rattle.search_numbers.proofs.Covers.{covers_both, covers_itself, covers_on, views_later}
use Rattle.search_numbers.proofs.covering.cover_written.Goals as goal

pub returns-in_ok-cover_deed-in-Some-clause-covers :
    goal.returns-in_ok-cover_deed-in-Some-clause-covers
returns-in_ok-cover_deed-in-Some-clause-covers c =
    let first = map cell_of (first_changes c.args.step.now (deed_in c.in-Some.deed)) in
    on_ok_weaker c.cover_changes.result
    (λ others. subst (λ o. CoversViews c.cover_changes.new.store c.cover_changes.new.columns.items (written_by c.args.step.now (option_map deed_in o) (all_changes_in c.args.changes.now))) (sym c.in-Some.is)
    (covers_both c.cover_changes.new.store c.cover_changes.new.columns.items first (map cell_of (all_changes_in c.args.changes.now))
    (views_later c.cover_deed.new.store c.cover_changes.new.store c.cover_deed.new.columns.items c.cover_changes.new.columns.items first c.cover_changes.ensures.more c.in_ok-cover_deed-in-Some.ensures.covers)
    others))
    c.cover_changes.ensures.covers

pub returns-in_ok-cover_deed-in-Some-clause-more : goal.returns-in_ok-cover_deed-in-Some-clause-more
returns-in_ok-cover_deed-in-Some-clause-more c = covers_on _ _ _ _ _ _ c.cover_deed.ensures.more c.cover_changes.ensures.more

pub returns-in-None-clause-more : goal.returns-in-None-clause-more
returns-in-None-clause-more c = covers_itself _ _
