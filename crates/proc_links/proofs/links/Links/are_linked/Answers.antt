use Rattle.std.proofs.Common.{◌∙◌, ap}
use Rattle.std.specs.List.{list_any}
use Rattle.world_model.specs.Names.{same_pid}
use Rattle.proc_groups.specs.Groups.{members_in}
use Rattle.proc_links.proofs.Linked.{any_same}
use Rattle.proc_links.proofs.links.Links.are_linked.Goals as goal

pub returns : goal.returns
returns c =
    c.has.ensures ∙ any_same c.args.other.now (members_in c.deref.result.now c.args.pid.now)
    ∙ ap (λ g. list_any (same_pid c.args.other.now) (members_in g c.args.pid.now)) c.deref.ensures
