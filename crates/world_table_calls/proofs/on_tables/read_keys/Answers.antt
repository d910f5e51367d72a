use Rattle.std.proofs.Common.{refl, [], ◌∷◌, map, arith}
use Rattle.world_model.specs.Names.{ref_of}
use Rattle.term_core.specs.Term.{meaning_of}
use Rattle.term_core.specs.declared.term.Term.{Term}
use Rattle.world_model.specs.Cells as cells
use Rattle.world_table_calls.proofs.Going.{adds_item, keys_more}
use Rattle.world_table_calls.proofs.on_tables.read_keys.Goals as goal

pub loop-key-preserved : goal.loop-key-preserved
loop-key-preserved c =
    let t = ref_of c.args.id.now in
    adds_item {X = Term} (λ ks. map (cells.Row t) (map meaning_of ks)) (λ ks. []) (λ k. cells.Row t (meaning_of k) ∷ []) (λ k. []) (keys_more t) (λ xs x. refl)
    c.args.keys.now c.loop-key.key-index c.key-item.result _ _ _ (omega (arith, c.loop-key-test.true)) c.key-item.is c.loop-key.invariant c.in_ok-read_row.ensures
