use Rattle.std.proofs.lemmas.Result.{on_ok_weaker}
use Rattle.world_footprints.specs.Views.{view_in}
use Rattle.search_numbers.proofs.Covers.{both_viewed, covers_on, one_viewed, seen_later}
use Rattle.search_numbers.proofs.covering.cover_views.Goals as goal

pub returns-in-Some-clause-covers : goal.returns-in-Some-clause-covers
returns-in-Some-clause-covers c =
    on_ok_weaker c.cover_seen-in-Some.result
    (λ other. both_viewed c.cover_seen-in-Some.new.store c.cover_seen-in-Some.new.columns.items c.args.views c.in-Some.other c.in-Some.is
    (seen_later c.cover_seen.new.store c.cover_seen-in-Some.new.store c.cover_seen.new.columns.items c.cover_seen-in-Some.new.columns.items (view_in c.args.views.0) c.cover_seen-in-Some.ensures.more c.in_ok-cover_seen.ensures.covers)
    other)
    c.cover_seen-in-Some.ensures.covers

pub returns-in-Some-clause-more : goal.returns-in-Some-clause-more
returns-in-Some-clause-more c = covers_on _ _ _ _ _ _ c.cover_seen.ensures.more c.cover_seen-in-Some.ensures.more

pub returns-in-None-clause-covers : goal.returns-in-None-clause-covers
returns-in-None-clause-covers c = one_viewed c.cover_seen.new.store c.cover_seen.new.columns.items c.args.views c.in-None.is c.in_ok-cover_seen.ensures.covers
