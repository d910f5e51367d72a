use Rattle.std.proofs.Common.{◌∙◌, ap, is_ok, sym, rules}
use Rattle.proc_groups.specs.Groups.{members_in}
use Rattle.proc_links.specs.Links.{partners_in}
use Rattle.world_model.specs.Names.{Pid}
use Rattle.world_model.specs.Bonds.{parted, unpaired}
use Rattle.proc_groups.proofs.Grouping.{on_err, same_members, was_err}
use Rattle.proc_links.proofs.Linked.{parted-is, unpaired-apart}
use Rattle.proc_links.proofs.links.Links.unpair.Goals as goal

pub returns-then-not-are_linked-2 : goal.returns-then-not-are_linked-2
returns-then-not-are_linked-2 c =
    let unpaired_now = λ (r : Pid). sym (unpaired-apart (partners_in c.args.self.now) c.args.pid.now c.args.other.now (sym c.if-not-are_linked.ensures) (sym c.if-not-are_linked-2.ensures) r) in
    record {
      ok = unpaired_now;
      cells = λ v told r. unpaired_now r ∙ ap (unpaired c.args.pid.now c.args.other.now r) (told r);
      err = search rules;
    }

pub returns-in_err-partners-clause-err : goal.returns-in_err-partners-clause-err
returns-in_err-partners-clause-err c =
    on_err c.from_residual.result (λ r. same_members _ _ (was_err _ _ c.in_err-partners.was c.make_mut.follows.holds-at-none) r)

pub returns : goal.returns
returns c =
    let p = c.args.pid.now in
    let q = c.args.other.now in
    let unpaired_now = λ (r : Pid). ap (λ g. members_in g r) (c.make_mut.follows.holds c.remove-2.new.self (ap is_ok c.in_ok-partners.was)) ∙ c.remove-2.ensures r ∙ parted-is q p r _
    ∙ ap (parted q p r) (c.remove.ensures r ∙ parted-is p q r _ ∙ ap (parted p q r) (same_members _ _ c.in_ok-partners.ensures.value r)) in
    record {
      ok = unpaired_now;
      cells = λ v told r. unpaired_now r ∙ ap (unpaired p q r) (told r);
      err = search rules;
    }
