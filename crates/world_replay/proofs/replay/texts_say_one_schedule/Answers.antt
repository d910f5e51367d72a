use Rattle.std.proofs.Common.{sym, ◌∙◌}
use Rattle.term_core.proofs.ScheduleTexts.{schedule_injective}
use Rattle.world_replay.proofs.replay.texts_say_one_schedule.Goals as goal

pub returns : goal.returns
returns c = λ text steps others lawful also is so. schedule_injective steps others lawful also (sym is ∙ so)
