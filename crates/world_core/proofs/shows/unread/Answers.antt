use Rattle.std.proofs.Common.{◌∙◌, ap, sym}
use Rattle.std.specs.List.{filter}
use Rattle.world_model.specs.Shown.{unread_by}
use Rattle.world_core.specs.inside.Showing.{has_unread}
use Rattle.world_core.proofs.Showing.{first_is_gone, first_lives}
use Rattle.world_core.proofs.shows.unread.Goals as goal

pub returns-then-has_first : goal.returns-then-has_first
returns-then-has_first c = sym (first_lives c.args.pids.now (filter (has_unread c.args.mailboxes.now) c.args.pids.now) c.has_first.result c.has_first.ensures c.if-has_first.true)

pub returns : goal.returns
returns c =
    c.unread_by.ensures ∙ ap unread_by c.in_ok-with_messages.ensures
    ∙ sym (first_is_gone c.args.pids.now (filter (has_unread c.args.mailboxes.now) c.args.pids.now) c.has_first.result c.has_first.ensures c.if-has_first.false)
