use Rattle.std.proofs.Common.{◌∷◌, [], subst}
use Rattle.ets_rules.specs.Tables.{Hold}
use Rattle.world_model.specs.Names.{ref_of}
use Rattle.term_core.specs.Term.{meaning_of}
use Rattle.world_model.specs.Cells as cells
use Rattle.world_model.specs.Changes.{after, RowWritten}
use Rattle.world_model.specs.Rows.{Object, Stores}
use Rattle.ets_rules.proofs.Applied.{with_kind}
use Rattle.ets_rules.proofs.tables.Tables.store_copy.Goals as goal

pub returns : goal.returns
returns c = λ v hold can.
    let t = ref_of c.args.id.now in
    let key = meaning_of c.args.key.now in
    let kind = c.args._kind in
    let new = c.store.new.self in
    subst (λ (object : Object). Hold new (after (RowWritten t key (Stores kind object) ∷ []) v)) c.in_ok-object.ensures
    (with_kind (v (cells.Table t)) kind c.in_ok-object.object (λ k. Hold new (after (RowWritten t key (Stores k c.in_ok-object.object) ∷ []) v)) can.0.0 can.0.1
    (λ table there. c.in_ok-store.ensures v table there hold))
