use Rattle.std.proofs.Common.{Some, None, ap, sym, ◌∙◌}
use Rattle.world_model.specs.Changes.{without_first}
use Rattle.std.specs.BTreeMap.{is_at}
use Rattle.proc_groups.specs.Groups.{members_of}
use Rattle.proc_groups.proofs.Grouping.{members_at, has_then, written, no_items, remove_key-is}
use Rattle.proc_groups.proofs.groups.Groups.remove.Goals as goal

pub returns-then-is_empty : goal.returns-then-is_empty
returns-then-is_empty g c =
    let there = c.in-Some.ensures.value in
    let left = c.get_mut.follows.lender c.remove.new.self in
    members_at c.args.self.now.sets c.remove-then-is_empty.new.self c.args.pid.now None (without_first (is_at (g.K.Ord.cmp c.args.item.now)))
    (sym (no_items c.remove.new.self.keys (c.is_empty.ensures.0 c.if-is_empty.true)) ∙ c.remove.ensures.keys ∙ remove_key-is _ c.in-Some.set.now.keys ∙ ap (λ s. without_first (is_at (g.K.Ord.cmp c.args.item.now)) (members_of s)) there)
    (has_then c.args.self.now.sets left c.remove-then-is_empty.new.self _ (Some c.remove.new.self) None (written c.args.self.now.sets left _ _ _ there (c.get_mut.follows.holds c.remove.new.self)) c.remove-then-is_empty.ensures.updates.0)

pub returns-else-is_empty : goal.returns-else-is_empty
returns-else-is_empty g c =
    let there = c.in-Some.ensures.value in
    let left = c.get_mut.follows.lender c.remove.new.self in
    members_at c.args.self.now.sets left c.args.pid.now (Some c.remove.new.self) (without_first (is_at (g.K.Ord.cmp c.args.item.now)))
    (c.remove.ensures.keys ∙ remove_key-is _ c.in-Some.set.now.keys ∙ ap (λ s. without_first (is_at (g.K.Ord.cmp c.args.item.now)) (members_of s)) there)
    (written c.args.self.now.sets left _ _ _ there (c.get_mut.follows.holds c.remove.new.self))
