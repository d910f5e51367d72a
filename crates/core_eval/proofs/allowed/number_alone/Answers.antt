use Rattle.core_eval.proofs.Allowing.{several_say_none}
use Rattle.core_eval.proofs.allowed.number_alone.Goals as goal

pub returns-in_default-2 : goal.returns-in_default-2
returns-in_default-2 c = several_say_none c.args.items.now c.in_default.len_at_least
