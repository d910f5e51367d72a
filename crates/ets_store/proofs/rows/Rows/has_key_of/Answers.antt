use Rattle.std.proofs.Common.{ap, ◌∙◌}
use Rattle.term_core.specs.Term.{meaning_of}
use Rattle.world_model.specs.Rows.{part_at}
use Rattle.ets_store.specs.TableRows.{TableRows}
use Rattle.ets_store.proofs.Listing.{one_key, no_key}
use Rattle.ets_store.proofs.rows.Rows.has_key_of.Goals as goal

pub returns-in-Some : goal.returns-in-Some
returns-in-Some c = one_key c.args.self.now.position c.args.object.now c.args.self.now.rows (meaning_of c.in-Some.key.now) c.has_key.result c.has_key.ensures (c.in-Some.ensures ∙ ap (λ (t : TableRows). part_at t.position c.args.object.now) c.self.view_is)

pub returns-in-None : goal.returns-in-None
returns-in-None c = no_key c.args.self.now.position c.args.object.now c.args.self.now.rows (c.in-None.ensures ∙ ap (λ (t : TableRows). part_at t.position c.args.object.now) c.self.view_is)
