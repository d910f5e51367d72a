use Rattle.std.proofs.Common.{◌≡◌, ◌∙◌, option_map, ap, subst, sym, true}
use Rattle.std.proofs.lemmas.Result.{on_ok_weaker}
use Rattle.world_footprints.specs.Views.{view_in}
use Rattle.world_records.specs.Places.{place_of}
use Rattle.world_records.specs.declared.place.Place.TheVariants.{Course}
use Rattle.search_numbers.specs.Stored.{covers}
use Rattle.search_numbers.proofs.Covers.{covers_itself, covers_on, seen_alive, seen_dead}
use Rattle.search_numbers.proofs.covering.cover_seen.Goals as goal

pub returns-in_err-place_of-clause-more : goal.returns-in_err-place_of-clause-more
returns-in_err-place_of-clause-more c = covers_itself _ _

pub returns-in_ok-copy-in-Some-clause-covers : goal.returns-in_ok-copy-in-Some-clause-covers
returns-in_ok-copy-in-Some-clause-covers c =
    on_ok_weaker c.cover-in-Some.result
    (λ course. seen_alive c.cover-in-Some.new.store c.cover-in-Some.new.columns.items (view_in c.args.cell) c.in-Some.pid.now
    (sym (ap (option_map (λ pid. pid.now)) c.in-Some.is) ∙ c.life_of.ensures)
    (c.cover-in-Some.ensures.more.covered (place_of (view_in c.args.cell)) (subst (λ q. covers c.cover.new.store.places.items c.cover.new.columns.items q ≡ true) c.in_ok-place_of.ensures c.in_ok-cover.ensures.covers))
    (subst (λ p. covers c.cover-in-Some.new.store.places.items c.cover-in-Some.new.columns.items (Course p) ≡ true) c.in_ok-copy-in-Some.ensures course))
    c.cover-in-Some.ensures.covers

pub returns-in_ok-copy-in-Some-clause-more : goal.returns-in_ok-copy-in-Some-clause-more
returns-in_ok-copy-in-Some-clause-more c = covers_on _ _ _ _ _ _ c.cover.ensures.more c.cover-in-Some.ensures.more

pub returns-in-None-clause-covers : goal.returns-in-None-clause-covers
returns-in-None-clause-covers c =
    seen_dead c.cover.new.store c.cover.new.columns.items (view_in c.args.cell) (sym (ap (option_map (λ pid. pid.now)) c.in-None.is) ∙ c.life_of.ensures)
    (subst (λ q. covers c.cover.new.store.places.items c.cover.new.columns.items q ≡ true) c.in_ok-place_of.ensures c.in_ok-cover.ensures.covers)
