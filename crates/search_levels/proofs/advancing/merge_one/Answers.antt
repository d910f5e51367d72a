use Rattle.std.proofs.Common.{Some, slice_range, subst}
use Rattle.search_levels.specs.Arrivals.{AreArrivals, of_module}
use Rattle.search_levels.specs.inside.Following.{AreKnownArrivals, IsReady}
use Rattle.search_levels.specs.inside.Visits.{entry_of}
use Rattle.search_levels.proofs.Merging.{all_read, expands_thinned, notes_thinned}
use Rattle.world_identities.specs.Identities.{flags_in}
use Rattle.search_levels.proofs.advancing.merge_one.Goals as goal

pub returns-in_err-arrive_at_all-clause-notes : goal.returns-in_err-arrive_at_all-clause-notes
returns-in_err-arrive_at_all-clause-notes g c = λ later follows m.
    let Agrees = of_module (g.W.Worlds.agrees later) m in
    let AreAll = AreKnownArrivals g.W.Worlds.agrees g.W.Worlds.is_of g.W.Worlds.follows c.args.worlds.now c.args.delivery in
    let ready : IsReady AreAll (entry_of c.args.from) c.args.followed.now c.args.at (Some c.in-Some.end) c.args.next.now.rows = subst (λ e. IsReady AreAll (entry_of c.args.from) c.args.followed.now c.args.at e c.args.next.now.rows) c.in-Some.is c.requires.ready in
    notes_thinned Agrees (flags_in c.args.flags) c.args.delivery (entry_of c.args.from) ready.3.0 (slice_range c.args.followed.now c.args.at c.in-Some.end) ready.2 c.args.findings.now c.arrive_at_all.new.findings
    (λ a h p. subst (λ b. AreArrivals c.args.delivery Agrees b h ready.3.0) p.0 (ready.3.1.0 later follows m h p.1)) ready.3.2 (c.in_err-arrive_at_all.ensures.notes later m)

pub returns-clause-expands : goal.returns-clause-expands
returns-clause-expands g c = λ later follows m.
    let Agrees = of_module (g.W.Worlds.agrees later) m in
    let AreAll = AreKnownArrivals g.W.Worlds.agrees g.W.Worlds.is_of g.W.Worlds.follows c.args.worlds.now c.args.delivery in
    let ready : IsReady AreAll (entry_of c.args.from) c.args.followed.now c.args.at (Some c.in-Some.end) c.args.next.now.rows = subst (λ e. IsReady AreAll (entry_of c.args.from) c.args.followed.now c.args.at e c.args.next.now.rows) c.in-Some.is c.requires.ready in
    expands_thinned Agrees (flags_in c.args.flags) c.args.delivery (entry_of c.args.from) ready.3.0 (slice_range c.args.followed.now c.args.at c.in-Some.end) ready.2 c.args.next.now.rows c.arrive_at_all.new.level.rows c.args.findings.now c.arrive_at_all.new.findings
    (λ a h p. subst (λ b. AreArrivals c.args.delivery Agrees b h ready.3.0) p.0 (ready.3.1.0 later follows m h p.1)) ready.3.2 ready.4 (c.in_ok-arrive_at_all.ensures.arrive later m)

pub returns-clause-notes : goal.returns-clause-notes
returns-clause-notes g c = λ later follows m.
    let Agrees = of_module (g.W.Worlds.agrees later) m in
    let AreAll = AreKnownArrivals g.W.Worlds.agrees g.W.Worlds.is_of g.W.Worlds.follows c.args.worlds.now c.args.delivery in
    let ready : IsReady AreAll (entry_of c.args.from) c.args.followed.now c.args.at (Some c.in-Some.end) c.args.next.now.rows = subst (λ e. IsReady AreAll (entry_of c.args.from) c.args.followed.now c.args.at e c.args.next.now.rows) c.in-Some.is c.requires.ready in
    notes_thinned Agrees (flags_in c.args.flags) c.args.delivery (entry_of c.args.from) ready.3.0 (slice_range c.args.followed.now c.args.at c.in-Some.end) ready.2 c.args.findings.now c.arrive_at_all.new.findings
    (λ a h p. subst (λ b. AreArrivals c.args.delivery Agrees b h ready.3.0) p.0 (ready.3.1.0 later follows m h p.1)) ready.3.2 (c.in_ok-arrive_at_all.ensures.notes later m)

pub returns-clause-of_known : goal.returns-clause-of_known
returns-clause-of_known g c = λ before.
    let known = c.args.worlds.now in
    let AreAll = AreKnownArrivals g.W.Worlds.agrees g.W.Worlds.is_of g.W.Worlds.follows known c.args.delivery in
    let ready : IsReady AreAll (entry_of c.args.from) c.args.followed.now c.args.at (Some c.in-Some.end) c.args.next.now.rows = subst (λ e. IsReady AreAll (entry_of c.args.from) c.args.followed.now c.args.at e c.args.next.now.rows) c.in-Some.is c.requires.ready in
    c.in_ok-arrive_at_all.ensures.of_known known before (all_read (g.W.Worlds.is_of known) ready.2 ready.3.0 (slice_range c.args.followed.now c.args.at c.in-Some.end) ready.3.2 ready.3.1.1)
