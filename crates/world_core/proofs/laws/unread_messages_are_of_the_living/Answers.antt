use Rattle.world_core.proofs.Unread.{left_shown, shown_left}
use Rattle.world_core.proofs.laws.unread_messages_are_of_the_living.Goals as goal

pub returns : goal.returns
returns c = λ a h ps. (shown_left a h ps, left_shown a h ps)
