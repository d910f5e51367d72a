use Rattle.std.proofs.Common.{◌∙◌, List, ap, map}
use Rattle.std.specs.List.{filter}
use Rattle.proc_machines.specs.Processes.{lives_in}
use Rattle.world_identities.specs.Identities.{identity_in}
use Rattle.world_model.specs.Names.{Pid}
use Rattle.world_model.specs.Shown.{unread_of}
use Rattle.world_core.specs.inside.Showing.{has_unread, told_by}
use Rattle.world_core.proofs.Showing.{all_live, put_at_rest}
use Rattle.world_core.proofs.shows.push_deadlock.Goals as goal

pub returns : goal.returns
returns c = λ m h told.
    let records = c.args.records.now in
    let mailboxes = c.mailboxes.result.now in
    let pids = c.in_ok-pids.pids.items in
    let lives = all_live m h records c.living.result.now.keys pids told c.in_ok-pids.ensures.listed c.in_ok-pids.ensures.in_order (λ p. c.living.ensures p ∙ ap (λ r. lives_in r p) c.processes.ensures) in
    put_at_rest m h records mailboxes pids (map identity_in c.args.shown.now.items) (map identity_in c.push_if_any.new.shown.items) (map identity_in c.push_if_any-2.new.shown.items) (told_by c.deadlock.result) (told_by c.in_ok-left.left)
    told c.mailboxes.ensures lives c.in_ok-push_if_any.ensures c.in_ok-push_if_any-2.ensures c.deadlock.ensures
    (c.in_ok-left.ensures ∙ ap (λ (qs : List Pid). unread_of qs (filter (has_unread mailboxes) qs)) c.as_slice.ensures.value)
