use Rattle.std.proofs.Common.{◌≡◌, drop}
use Rattle.ets_store.specs.TableRows.{one_has_key}
use Rattle.ets_store.proofs.rows.Rows.has_one.Given as goal

abbrev pub invariant-loop-object : goal.invariant-loop-object
invariant-loop-object l = one_has_key l.self.position l.objects l.self.rows ≡ one_has_key l.self.position (drop l.object-index l.objects) l.self.rows
