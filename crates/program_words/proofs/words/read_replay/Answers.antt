use Rattle.std.proofs.Common.{◌∙◌, Some, ap, sym}
use Rattle.program_words.proofs.Reading.{no_word_found, word_found}
use Rattle.program_words.proofs.words.read_replay.Goals as goal

pub returns-in_default : goal.returns-in_default
returns-in_default c = no_word_found c.found_schedule.result _ c.found_schedule.ensures c.in_default.is

pub returns : goal.returns
returns c = word_found c.found_schedule.result c.in-Some.schedule _ c.found_schedule.ensures c.in-Some.is ∙ ap Some (sym c.in_ok-from_str.ensures.ok)
