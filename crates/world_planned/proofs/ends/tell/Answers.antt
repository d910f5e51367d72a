use Rattle.std.proofs.Common.{◌≡◌, ◌++◌, ◌∙◌, List, [], false, if◌then◌else◌, map, ap, sym}
use Rattle.proc_links.specs.Watchers.{watchers_in}
use Rattle.world_model.specs.Cells as cells
use Rattle.world_model.specs.Cells.{Cell}
use Rattle.world_model.specs.Changes.{AliveCleared, changed}
use Rattle.world_model.specs.Names.{Pid, Ref, same_pid}
use Rattle.world_planned.proofs.Adding.{adds_as, adds_then, end_nil}
use Rattle.world_planned.proofs.ends.tell.Goals as goal

pub returns : goal.returns
returns c = λ w sees.
    let p = c.args.pid.now in
    let watched : (q : Pid) → watchers_in c.watchers-watchers.result.now q ≡ w (cells.Watchers q) = λ q. ap (λ ws. watchers_in ws q) c.watchers-watchers.ensures ∙ sees.watchers_are q in
    let refs = watchers_in c.watchers-watchers.result.now p in
    let makers : List Ref → List Cell = map (λ (ref : Ref). cells.Alive ref.pid) in
    adds_as _ _ _ _ _ _
    (ap (λ qs. map cells.Alive qs ++ (makers refs ++ [])) (sees.links_are p) ∙ ap (λ cs. map cells.Alive (w (cells.Links p)) ++ cs) (end_nil (makers refs) ∙ ap makers (watched p)))
    (sym (c.in_ok-told.ensures (changed (AliveCleared p) w) sees.links_are watched (λ q. ap (λ b. if same_pid p q then false else b) (sees.alive q))))
    (adds_then _ _ _ _ _ _ _ c.in_ok-read_partners.ensures
    (adds_then _ _ _ _ _ _ _ c.in_ok-read_makers.ensures c.in_ok-put.ensures))
