use Rattle.std.proofs.Common.{Some, not, ap, ◌∙◌}
use Rattle.world_model.specs.Changes.{set_in_order}
use Rattle.std.specs.List.{list_any}
use Rattle.std.specs.BTreeMap.{is_at}
use Rattle.proc_groups.specs.Groups.{members_of}
use Rattle.proc_groups.proofs.Grouping.{members_at, members_stay, written, on_err, insert_key-is, on_false}
use Rattle.proc_groups.proofs.groups.Groups.add.Goals as goal

pub returns-in_err-insert-in-Some-clause-err : goal.returns-in_err-insert-in-Some-clause-err
returns-in_err-insert-in-Some-clause-err g c =
    let there = c.in-Some.ensures.value in
    on_err c.from_residual.result
    (members_stay c.args.self.now.sets (c.get_mut.follows.lender c.insert.new.self) c.args.pid.now (Some c.insert.new.self)
    (c.in_err-insert-in-Some.ensures.err ∙ ap members_of there)
    (written c.args.self.now.sets (c.get_mut.follows.lender c.insert.new.self) _ _ _ there (c.get_mut.follows.holds c.insert.new.self)))

pub returns-in_ok-insert-in-Some-clause-ok : goal.returns-in_ok-insert-in-Some-clause-ok
returns-in_ok-insert-in-Some-clause-ok g c =
    let there = c.in-Some.ensures.value in
    let left = c.get_mut.follows.lender c.insert.new.self in
    let has = written c.args.self.now.sets left _ _ _ there (c.get_mut.follows.holds c.insert.new.self) in
    record {
      new_is = c.in_ok-insert-in-Some.ensures.added ∙ ap (λ s. not (list_any (is_at (g.K.Ord.cmp c.args.item)) (members_of s))) there;
      adds =
          members_at c.args.self.now.sets left c.args.pid.now (Some c.insert.new.self) (set_in_order g.K.Ord.cmp c.args.item)
          (c.in_ok-insert-in-Some.ensures.keys ∙ insert_key-is g.K.Ord.cmp _ c.args.item ∙ ap (λ s. set_in_order g.K.Ord.cmp c.args.item (members_of s)) there)
          has;
      stays = λ old. members_stay c.args.self.now.sets left c.args.pid.now (Some c.insert.new.self)
          (on_false _ old c.in_ok-insert-in-Some.ensures.unchanged ∙ ap members_of there) has;
    }
