use Rattle.std.proofs.Common.{◌≡◌, map}
use Rattle.world_model.specs.Ends.{tables_pass}
use Rattle.world_model.specs.Names.{ref_of}
use Rattle.ets_rules.specs.inside.Ending.{AtEnd, Leaves}
use Rattle.ets_tables.specs.Ends.{transfers_in, transfer_of}
use Rattle.ets_rules.proofs.tables.Tables.leave_each.Given as goal

-- those before this one went
abbrev pub invariant-loop-id : goal.invariant-loop-id
invariant-loop-id l = record {
  ok : AtEnd l.self l.living (λ v. Leaves (tables_pass v l.pid (map ref_of (map (λ x. x.now) l.yielded))) l.fn.changed l.changed);
  told : AtEnd l.self l.living (λ v. transfers_in (tables_pass v l.pid (map ref_of (map (λ x. x.now) l.yielded))) ≡ map transfer_of l.transfers.items);
}
