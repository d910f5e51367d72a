use Rattle.std.proofs.Common.{◌≡◌, Some, subst, if◌then◌else◌}
use Rattle.world_model.specs.Names.{Name, same_name, ref_of}
use Rattle.proc_groups.proofs.Referring.{Id}
use Rattle.ets_tables.specs.Shelves.{named_in}
use Rattle.ets_tables.proofs.Shelving.{named_at}
use Rattle.ets_tables.proofs.name_map.NameMap.put.Goals as goal

pub returns-clause-ok : goal.returns-clause-ok
returns-clause-ok c =
    let Means : Name → Id → Type 0 = λ k x. (q : Name) → named_in (record { references = c.insert.new.self }) q ≡ (if same_name k q then Some (ref_of x) else named_in c.args.self.now q) in
    subst (λ k. Means k c.args.id.now) c.in_ok-copy.ensures (subst (λ x. Means c.in_ok-copy.field-0 x) c.in_ok-copy-2.ensures
    (named_at c.args.self.now.references c.insert.new.self c.in_ok-copy.field-0 (Some c.in_ok-copy-2.field-0) c.in_ok-insert.ensures.updates.0))
