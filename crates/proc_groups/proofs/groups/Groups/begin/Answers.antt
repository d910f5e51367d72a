use Rattle.std.proofs.Common.{Some, ap, sym, subst, ◌∙◌}
use Rattle.world_model.specs.Changes.{set_in_order}
use Rattle.proc_groups.proofs.Grouping.{members_at, HasAt, insert_key-is}
use Rattle.proc_groups.proofs.groups.Groups.begin.Goals as goal

pub returns-clause-ok : goal.returns-clause-ok
returns-clause-ok g c =
    members_at c.args.self.now.sets c.insert-2.new.self c.args.pid.now (Some c.insert.new.self) (λ xs. set_in_order g.K.Ord.cmp c.args.item xs)
    (c.in_ok-insert.ensures.keys ∙ insert_key-is g.K.Ord.cmp _ c.args.item ∙ ap (set_in_order g.K.Ord.cmp c.args.item) (c.new-set.ensures.empty ∙ sym c.requires))
    (subst (λ p. HasAt c.args.self.now.sets p (Some c.insert.new.self) c.insert-2.new.self) c.in_ok-copy.ensures c.in_ok-insert-2.ensures.updates.0)
