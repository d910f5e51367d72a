use Rattle.std.proofs.Common.{refl}
use Rattle.report_reader.proofs.FindingTexts.{at_once, schedule_bad, schedule_read, schedule_unblanked, schedule_unended}
use Rattle.report_reader.proofs.finding_lines.read_schedule_line.Goals as goal

pub returns-in_default-clause-reads : goal.returns-in_default-clause-reads
returns-in_default-clause-reads c = schedule_unblanked c.args.text.now 0 c.in_default.ensures

pub returns-in_default-clause-stops : goal.returns-in_default-clause-stops
returns-in_default-clause-stops c = at_once c.args.text.now _ refl

pub returns-in_default-split_at-clause-reads : goal.returns-in_default-split_at-clause-reads
returns-in_default-split_at-clause-reads c = schedule_unended c.args.text.now c.in-Some.inside.now 0 c.in-Some.ensures c.in_default-split_at.ensures

pub returns-in_default-split_at-clause-stops : goal.returns-in_default-split_at-clause-stops
returns-in_default-split_at-clause-stops c = at_once c.args.text.now _ refl

pub returns-in-Ok-clause-reads : goal.returns-in-Ok-clause-reads
returns-in-Ok-clause-reads c = schedule_read c.args.text.now c.in-Some.inside.now c.in-Some-split_at.line.now c.in-Some-split_at.rest.now c.in-Ok.schedule.items c.in-Some.ensures c.in-Some-split_at.ensures c.in-Ok.ensures.ok.0 c.in-Ok.ensures.ok.1 c.in-Ok.ensures.only

pub returns-in-Err-BadStep-clause-reads : goal.returns-in-Err-BadStep-clause-reads
returns-in-Err-BadStep-clause-reads c = schedule_bad c.args.text.now c.in-Some.inside.now c.in-Some-split_at.line.now c.in-Some-split_at.rest.now 0 c.in-Some.ensures c.in-Some-split_at.ensures (λ s h e. absurd (let m = c.in-Err-BadStep.ensures.only s h e in cc))

pub returns-in-Err-BadStep-clause-stops : goal.returns-in-Err-BadStep-clause-stops
returns-in-Err-BadStep-clause-stops c = at_once c.args.text.now _ refl
