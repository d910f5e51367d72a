use Rattle.std.proofs.Common.{◌∙◌, sym}
use Rattle.proc_groups.proofs.Alike.{members_told}
use Rattle.proc_groups.proofs.groups.Groups.is_same.Goals as goal

pub returns : goal.returns
returns g c = λ e p. sym (members_told g.K.PartialEq.eq g.met.K.Member.equal p c.args.self.now.sets.entries c.args.other.now.sets.entries (sym c.eq.ensures ∙ e))
