use Rattle.std.proofs.Common.{◌∷◌, ◌++◌, append_assoc, ap, map}
use Rattle.term_core.specs.Term.{meaning_of}
use Rattle.world_model.specs.Cells as cells
use Rattle.world_model.specs.Changes as changes
use Rattle.world_model.specs.Changes.{AliveCleared, changed}
use Rattle.world_model.specs.Ends.{name_left, partners_told, reads_of_tables, tables_pass, watchers_told}
use Rattle.world_model.specs.Names.{Ref}
use Rattle.world_planned.proofs.Adding.{adds_as, adds_then, end_nil}
use Rattle.world_planned.proofs.ends.leave.Goals as goal

pub returns : goal.returns
returns c = λ w sees.
    let p = c.args.pid.now in
    let reason = meaning_of c.args.reason.now in
    let links = c.args.links.now in
    let u = changed (AliveCleared p) w in
    adds_as _ _ _ _ _ _
    (ap (λ cs. cells.Owned p ∷ cells.Links p ∷ cells.Watchers p ∷ cells.NameOf p ∷ (reads_of_tables w (w (cells.Owned p)) ++ cs)) (end_nil (map cells.Alive (w (cells.Links p)) ++ map (λ (ref : Ref). cells.Alive ref.pid) (w (cells.Watchers p)))))
    (ap (λ ks. tables_pass u p (w (cells.Owned p)) ++ changes.OwnedCleared p ∷ ks) (append_assoc (partners_told u p reason (w (cells.Links p))) (watchers_told u p reason (w (cells.Watchers p))) (name_left p (w (cells.NameOf p)))))
    (adds_then _ _ _ _ _ _ _ c.in_ok-read_itself.ensures
    (adds_then _ _ _ _ _ _ _ (c.in_ok-end_tables.ensures links w sees)
    (adds_then _ _ _ _ _ _ _ c.in_ok-empty.ensures
    (adds_then _ _ _ _ _ _ _ (c.in_ok-tell.ensures w sees) (c.in_ok-leave_name.ensures links w sees)))))
