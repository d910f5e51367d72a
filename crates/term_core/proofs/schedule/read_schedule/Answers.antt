use Rattle.std.proofs.Common.{[], rules, sym, ◌∙◌}
use Rattle.term_core.proofs.ScheduleTexts.{reads_only, schedule_injective}
use Rattle.term_core.proofs.StepTexts.{no_bytes}
use Rattle.term_core.proofs.schedule.read_schedule.Goals as goal

pub returns-then-is_empty-clause-only : goal.returns-then-is_empty-clause-only
returns-then-is_empty-clause-only c = λ steps h e.
    c.new.ensures.items ∙ schedule_injective [] steps tt h (sym (no_bytes c.args.text.now (search rules)) ∙ e)

pub returns-clause-only : goal.returns-clause-only
returns-clause-only c = reads_only (λ v. v.items) c.args.text.now c.read_steps.result c.read_steps.ensures.ok c.read_steps.ensures.bad_step
