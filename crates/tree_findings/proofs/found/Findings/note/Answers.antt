use Rattle.std.proofs.Common.{◌∷◌, ◌+◌, List, map, drop, sym, ap, ◌∙◌, arith}
use Rattle.std.proofs.lemmas.List.{at_drop_more, drop_all}
use Rattle.tree_coverage.specs.Findings.{Findings}
use Rattle.world_identities.specs.Identities.{identity_in}
use Rattle.world_identities.specs.declared.identity.Identity.{Identity}
use Rattle.world_identities.specs.Identities.{flags_in}
use Rattle.tree_findings.specs.Merging.{with_shown, merged_findings}
use Rattle.tree_findings.proofs.Putting.{shown_more}
use Rattle.tree_findings.proofs.Schedules.{adds_schedule}
use Rattle.tree_findings.proofs.found.Findings.note.Goals as goal

pub loop-identity-init : goal.loop-identity-init
loop-identity-init c =
    ap (λ (f : Findings). with_shown (flags_in c.args.flags) c.args.schedule.now (map identity_in c.args.identities.now) (merged_findings c.args.self.now f)) c.new-new.ensures

pub loop-identity-preserved : goal.loop-identity-preserved
loop-identity-preserved c =
    let flags = flags_in c.args.flags in
    let s = c.args.schedule.now in
    let all = c.args.identities.now in
    let i = c.loop-identity.identity-index in
    let item = c.identity-item.result in
    let both = merged_findings c.args.self.now c.loop-identity.new in
    let rest = map identity_in (drop (i + 1) all) in
    let next = at_drop_more (λ (xs : List Identity). with_shown flags s (map identity_in xs) both) all i item (omega (arith, c.loop-identity-test.true)) in
    ap (with_shown flags s rest) c.in_ok-put_for.ensures ∙ shown_more flags s (identity_in item) rest both ∙ ap (λ (x : Identity). with_shown flags s (identity_in x ∷ rest) both) c.identity-item.is ∙ sym next ∙ c.loop-identity.invariant

pub returns-clause-ok : goal.returns-clause-ok
returns-clause-ok c =
    let flags = flags_in c.args.flags in
    let s = c.args.schedule.now in
    let all = c.args.identities.now in
    let both = merged_findings c.args.self.now c.loop-identity.new in
    let done = ap (λ (xs : List Identity). with_shown flags s (map identity_in xs) both) (drop_all c.loop-identity.identity-index all (omega (arith, c.loop-identity-test.false))) in
    c.in_ok-merge.ensures.ok ∙ sym done ∙ c.loop-identity.invariant

pub returns-clause-among : goal.returns-clause-among
returns-clause-among c =
    adds_schedule (flags_in c.args.flags) c.args.schedule.now (map identity_in c.args.identities.now) c.args.self.now c.merge.new.self (returns-clause-ok c)
