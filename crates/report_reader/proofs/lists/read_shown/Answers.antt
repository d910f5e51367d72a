use Rattle.std.proofs.Common.{rules, refl}
use Rattle.std.proofs.lemmas.Result.{err_from_is_err_and}
use Rattle.tree_excuses.specs.Excuses.{excuses_in}
use Rattle.world_identities.specs.Identities.{flags_in}
use Rattle.report_reader.proofs.FindingTexts.{at_once, further, no_end-number, shown_early, shown_other, shown_read, shown_unnumbered, shown_unread}
use Rattle.report_reader.proofs.lists.read_shown.Goals as goal

pub returns-in_default-clause-reads : goal.returns-in_default-clause-reads
returns-in_default-clause-reads c = shown_unnumbered c.args.kind (flags_in c.args.flags) (excuses_in c.args.excuses.now) c.args.found.now c.args.text.now 0 (rw c.next_number.ensures.number at c.in_default.ensures)

pub returns-in_default-clause-stops : goal.returns-in_default-clause-stops
returns-in_default-clause-stops c = at_once c.args.text.now _ refl

pub returns-in_err-identity-clause-reads : goal.returns-in_err-identity-clause-reads
returns-in_err-identity-clause-reads c =
    let p = err_from_is_err_and c.from_residual.result c.from_residual.ensures.1 in
    rw (p.1, p.2) (
    shown_unread c.args.kind (flags_in c.args.flags) (excuses_in c.args.excuses.now) c.args.found.now c.args.text.now _ _ (rw c.next_number.ensures.number at c.in-Some.ensures) c.in_err-identity.ensures.reads)

pub returns-in_err-identity-clause-stops : goal.returns-in_err-identity-clause-stops
returns-in_err-identity-clause-stops c =
    let p = err_from_is_err_and c.from_residual.result c.from_residual.ensures.1 in
    rw (p.1, p.2) (
    further _ _ c.args.text.now _ (no_end-number _ c.next_number.ensures.room) (rw c.next_number.ensures.number at c.in-Some.ensures) c.in_err-identity.ensures.stops)

pub returns-then-not-is_of-clause-reads : goal.returns-then-not-is_of-clause-reads
returns-then-not-is_of-clause-reads c =
    shown_other c.args.kind (flags_in c.args.flags) (excuses_in c.args.excuses.now) c.args.found.now c.args.text.now _ _ _ 0 (rw c.next_number.ensures.number at c.in-Some.ensures) c.in_ok-identity.ensures.reads (λ e. search rules)

pub returns-then-not-is_of-clause-stops : goal.returns-then-not-is_of-clause-stops
returns-then-not-is_of-clause-stops c = at_once c.args.text.now _ refl

pub returns-then-not-comes_last-clause-reads : goal.returns-then-not-comes_last-clause-reads
returns-then-not-comes_last-clause-reads c =
    shown_early c.args.kind (flags_in c.args.flags) (excuses_in c.args.excuses.now) c.args.found.now c.args.text.now _ _ _ 0 (rw c.next_number.ensures.number at c.in-Some.ensures) c.in_ok-identity.ensures.reads (λ e. search rules)

pub returns-then-not-comes_last-clause-stops : goal.returns-then-not-comes_last-clause-stops
returns-then-not-comes_last-clause-stops c = at_once c.args.text.now _ refl

pub returns-clause-reads : goal.returns-clause-reads
returns-clause-reads c =
    shown_read c.args.kind (flags_in c.args.flags) (excuses_in c.args.excuses.now) c.args.found.now c.args.text.now _ _ _ (rw c.next_number.ensures.number at c.in-Some.ensures) c.in_ok-identity.ensures.reads (search rules) (search rules)
