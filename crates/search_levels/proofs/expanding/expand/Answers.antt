use Rattle.std.proofs.Common.{◌≡◌, [], slice_range, subst, sym}
use Rattle.std.proofs.lemmas.Result.{on_ok_weaker}
use Rattle.std.specs.List.{AllByRecursion}
use Rattle.search_levels.specs.Arrivals.{AreArrivals, Arrived, of_module}
use Rattle.search_levels.specs.inside.Following.{Thins}
use Rattle.search_levels.specs.inside.Visits.{entry_of}
use Rattle.search_levels.proofs.Going.{whole_range}
use Rattle.search_levels.proofs.Merging.{expands_thinned, notes_thinned, thins_itself}
use Rattle.world_identities.specs.Identities.{flags_in}
use Rattle.search_levels.proofs.expanding.expand.Goals as goal

pub returns-clause-expands : goal.returns-clause-expands
returns-clause-expands g c =
    let rs = c.arrivals.new.into in
    let all : slice_range rs 0 c.len-last.result ≡ rs = whole_range rs c.len-last.result c.len-last.ensures in
    on_ok_weaker c.arrive_at_all.result (λ arrive known later m.
    let Agrees = of_module (g.W.Worlds.agrees known) m in
    expands_thinned Agrees (flags_in c.args.flags) c.args.delivery (entry_of c.args.from) rs (slice_range rs 0 c.len-last.result) [] c.args.level.now.rows c.arrive_at_all.new.level.rows c.args.findings.now c.arrive_at_all.new.findings
    (λ a h p. subst (λ b. AreArrivals c.args.delivery Agrees b h rs) p.0 (c.in_ok-arrivals.ensures.arrivals known later m h p.1))
    (subst (λ ks. Thins [] rs ks) (sym all) (thins_itself [] rs)) (λ row there. absurd there) (arrive known m)) c.arrive_at_all.ensures.arrive

pub returns-clause-of_known : goal.returns-clause-of_known
returns-clause-of_known g c =
    let rs = c.arrivals.new.into in
    let now = c.arrivals.new.self in
    let all : slice_range rs 0 c.len-last.result ≡ rs = whole_range rs c.len-last.result c.len-last.ensures in
    on_ok_weaker c.arrive_at_all.result (λ takes before.
    takes now (λ x there. c.in_ok-arrivals.ensures.grows.keeps x.row (before x there)) (subst (AllByRecursion (λ (r : Arrived). g.W.Worlds.is_of now r.row)) (sym all) c.in_ok-arrivals.ensures.of_known)) c.arrive_at_all.ensures.of_known

pub returns-clause-notes : goal.returns-clause-notes
returns-clause-notes g c = λ known later m.
    let rs = c.arrivals.new.into in
    let all : slice_range rs 0 c.len-last.result ≡ rs = whole_range rs c.len-last.result c.len-last.ensures in
    let Agrees = of_module (g.W.Worlds.agrees known) m in
    notes_thinned Agrees (flags_in c.args.flags) c.args.delivery (entry_of c.args.from) rs (slice_range rs 0 c.len-last.result) [] c.args.findings.now c.arrive_at_all.new.findings
    (λ a h p. subst (λ b. AreArrivals c.args.delivery Agrees b h rs) p.0 (c.in_ok-arrivals.ensures.arrivals known later m h p.1))
    (subst (λ ks. Thins [] rs ks) (sym all) (thins_itself [] rs)) (c.arrive_at_all.ensures.notes known m)

pub returns-clause-rows : goal.returns-clause-rows
returns-clause-rows g c = on_ok_weaker c.arrive_at_all.result (λ takes. takes.0) c.arrive_at_all.ensures.rows
