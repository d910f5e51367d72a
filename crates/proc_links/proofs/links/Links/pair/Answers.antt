use Rattle.std.proofs.Common.{◌∙◌, ap, is_ok, rules}
use Rattle.proc_groups.specs.Groups.{members_in}
use Rattle.world_model.specs.Names.{Pid}
use Rattle.world_model.specs.Bonds.{paired}
use Rattle.proc_groups.proofs.Grouping.{on_err, same_members}
use Rattle.proc_links.proofs.links.Links.pair.Goals as goal

pub returns-in_err-join-clause-err : goal.returns-in_err-join-clause-err
returns-in_err-join-clause-err c =
    on_err c.from_residual-in_err-join.result (λ r. ap (λ g. members_in g r) (c.make_mut.follows.holds c.join.new.partners (ap is_ok c.in_ok-partners.was)) ∙ c.in_err-join.ensures.err r ∙ same_members _ _ c.in_ok-partners.ensures.value r)

pub returns : goal.returns
returns c =
    let paired_now = λ (r : Pid). ap (λ g. members_in g r) (c.make_mut.follows.holds c.join.new.partners (ap is_ok c.in_ok-partners.was)) ∙ c.in_ok-join.ensures.ok r ∙ ap (paired c.args.pid.now c.args.other.now r) (same_members _ _ c.in_ok-partners.ensures.value r) in
    record {
      ok = paired_now;
      cells = λ v told r. paired_now r ∙ ap (paired c.args.pid.now c.args.other.now r) (told r);
      err = search rules;
    }
