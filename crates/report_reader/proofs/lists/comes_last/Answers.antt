use Rattle.std.proofs.Common.{◌≡◌, ◌-◌, ◌<◌, length, get_or, rules, sym}
use Rattle.std.proofs.lemmas.Option.{get_or_from_slice_get}
use Rattle.tree_findings.specs.Found.{finding_in}
use Rattle.world_identities.specs.Identities.{identity_in}
use Rattle.report_reader.proofs.ListLaws.{last_decides}
use Rattle.report_reader.proofs.lists.comes_last.Goals as goal

pub returns-in-Some : goal.returns-in-Some
returns-in-Some c =
    let items = c.as_slice.result.now in
    let last = c.in-Some.finding.now in
    let at : last ≡ get_or items (length items - 1) last = sym (get_or_from_slice_get items (length items - 1) last last (sym c.in-Some.ensures.value)) in
    let some : 0 < length items = search rules in
    last_decides finding_in items last c.args.found.now (identity_in c.args.identity.now) c.cmp.result c.is_lt.result c.as_slice.ensures.all c.as_slice.ensures.sorted some at c.cmp.ensures c.is_lt.ensures
