use Rattle.std.proofs.Common.{◌∙◌, ap, bytes_eq, if◌then◌else◌}
use Rattle.std.specs.BTreeMap.{is_at}
use Rattle.std.specs.Cmp.{tied_itself}
use Rattle.world_model.specs.Changes.{without_first}
use Rattle.proc_groups.proofs.Grouping.{taken_back}
use Rattle.proc_groups.proofs.groups.Groups.take_back.Goals as goal

pub returns-then-is_new : goal.returns-then-is_new
returns-then-is_new g c = λ f h added is q.
    taken_back g.K.Ord.cmp c.args.pid.now c.args.item.now c.args.is_new f h _ (tied_itself g.met.K.Ord.total c.args.item.now) c.if-is_new.true added
    (λ r. c.remove.ensures r ∙ ap (λ xs. if bytes_eq c.args.pid.now r then without_first (is_at (g.K.Ord.cmp c.args.item.now)) xs else xs) (is r)) q
