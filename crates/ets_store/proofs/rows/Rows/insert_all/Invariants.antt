use Rattle.std.proofs.Common.{◌≡◌, drop}
use Rattle.ets_store.specs.TableRows.{with_objects}
use Rattle.ets_store.proofs.rows.Rows.insert_all.Given as goal

abbrev pub invariant-loop-object : goal.invariant-loop-object
invariant-loop-object l = record {
  kind : l.written.kind ≡ l.self.kind;
  position : l.written.position ≡ l.self.position;
  rest : with_objects l.self.kind l.self.position (drop l.object-index l.objects) l.written.rows ≡ with_objects l.self.kind l.self.position l.objects l.self.rows;
}
