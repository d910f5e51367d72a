use Rattle.std.proofs.Common.{◌≡◌, length, rules, ap, ◌∙◌}
use Rattle.tree_excuses.specs.Excuses.{excuses_in}
use Rattle.world_identities.specs.Identities.{flags_in}
use Rattle.term_core.proofs.StepTexts.{no_bytes}
use Rattle.report_reader.specs.Merged.{first_depth}
use Rattle.report_reader.proofs.ReportsLaws.{all_reports, depth_is, first_names, first_read, first_stops, later_names, later_stops, merge_names, merge_stops, one_more, these_reports}
use Rattle.report_reader.proofs.reports.merge_reports.Goals as goal

pub returns-in-Err-clause-only : goal.returns-in-Err-clause-only
returns-in-Err-clause-only c =
    let e : c.unwrap_or.result ≡ first_depth c.args.above c.args.depth = c.unwrap_or.ensures ∙ depth_is c.args.above c.args.depth in
    first_stops c.args.above c.args.depth (flags_in c.args.flags) (excuses_in c.args.excuses.now) c.args.text.now c.in-Err.stop c.fault_of.result (rw e at c.in-Err.ensures) c.fault_of.ensures.fault

pub reports-init : goal.reports-init
reports-init c =
    let e : c.unwrap_or.result ≡ first_depth c.args.above c.args.depth = c.unwrap_or.ensures ∙ depth_is c.args.above c.args.depth in
    first_read c.args.above c.args.depth (flags_in c.args.flags) (excuses_in c.args.excuses.now) c.args.text.now c.in-Ok.outcome c.in-Ok.rest.now (rw e at c.in-Ok.ensures)

pub returns-in-Err-read_first-clause-only : goal.returns-in-Err-read_first-clause-only
returns-in-Err-read_first-clause-only c =
    let some : length c.reports.rest.now ≡ 0 → ⊥ = search rules in
    later_stops c.args.above c.args.depth (flags_in c.args.flags) (excuses_in c.args.excuses.now) c.args.text.now c.reports.whole c.reports.rest.now c.in-Err-read_first.stop c.fault_of-in-Err-read_first.result
    c.reports.invariant (λ e. some (ap length e)) c.in-Err-read_first.ensures c.fault_of-in-Err-read_first.ensures.fault

pub returns-in-Err-merge_outcomes-clause-only : goal.returns-in-Err-merge_outcomes-clause-only
returns-in-Err-merge_outcomes-clause-only c =
    let some : length c.reports.rest.now ≡ 0 → ⊥ = search rules in
    rw c.fault_of_merge.ensures (
    merge_stops c.args.above c.args.depth (flags_in c.args.flags) (excuses_in c.args.excuses.now) c.args.text.now c.reports.whole c.in-Ok-read_first.outcome c.reports.rest.now c.in-Ok-read_first.next.now c.in-Err-merge_outcomes.fault
    c.reports.invariant (λ e. some (ap length e)) c.in-Ok-read_first.ensures c.in-Err-merge_outcomes.ensures)

pub reports-preserved : goal.reports-preserved
reports-preserved c =
    let some : length c.reports.rest.now ≡ 0 → ⊥ = search rules in
    one_more c.args.above c.args.depth (flags_in c.args.flags) (excuses_in c.args.excuses.now) c.args.text.now c.reports.whole c.in-Ok-merge_outcomes.both c.in-Ok-read_first.outcome c.reports.rest.now c.in-Ok-read_first.next.now
    c.reports.invariant (λ e. some (ap length e)) c.in-Ok-read_first.ensures c.in-Ok-merge_outcomes.ensures

pub returns-clause-ok : goal.returns-clause-ok
returns-clause-ok c =
    let none : length c.reports.rest.now ≡ 0 = search rules in
    all_reports c.args.above c.args.depth (flags_in c.args.flags) (excuses_in c.args.excuses.now) c.args.text.now c.reports.whole c.reports.rest.now c.reports.invariant (no_bytes c.reports.rest.now none)

pub returns-clause-only : goal.returns-clause-only
returns-clause-only c =
    let none : length c.reports.rest.now ≡ 0 = search rules in
    these_reports c.args.above c.args.depth (flags_in c.args.flags) (excuses_in c.args.excuses.now) c.args.text.now c.reports.whole c.reports.rest.now c.reports.invariant (no_bytes c.reports.rest.now none)

pub returns-in-Err-clause-first_bad : goal.returns-in-Err-clause-first_bad
returns-in-Err-clause-first_bad c =
    let e : c.unwrap_or.result ≡ first_depth c.args.above c.args.depth = c.unwrap_or.ensures ∙ depth_is c.args.above c.args.depth in
    first_names c.args.above c.args.depth (flags_in c.args.flags) (excuses_in c.args.excuses.now) c.args.text.now c.in-Err.stop c.fault_of.result (rw e at c.in-Err.ensures) c.fault_of.ensures.fault

pub returns-in-Err-read_first-clause-first_bad : goal.returns-in-Err-read_first-clause-first_bad
returns-in-Err-read_first-clause-first_bad c =
    let some : length c.reports.rest.now ≡ 0 → ⊥ = search rules in
    later_names c.args.above c.args.depth (flags_in c.args.flags) (excuses_in c.args.excuses.now) c.args.text.now c.reports.whole c.reports.rest.now c.in-Err-read_first.stop c.fault_of-in-Err-read_first.result
    c.reports.invariant (λ e. some (ap length e)) c.in-Err-read_first.ensures c.fault_of-in-Err-read_first.ensures.fault

pub returns-in-Err-merge_outcomes-clause-first_bad : goal.returns-in-Err-merge_outcomes-clause-first_bad
returns-in-Err-merge_outcomes-clause-first_bad c =
    rw c.fault_of_merge.ensures (merge_names c.args.above c.args.depth (flags_in c.args.flags) (excuses_in c.args.excuses.now) c.args.text.now c.in-Err-merge_outcomes.fault)
