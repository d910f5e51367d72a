use Rattle.world_identities.specs.Identities.{identity_in}
use Rattle.report_reader.proofs.FindingTexts.{at_once, identity_read, identity_refused, identity_stops, identity_unended}
use Rattle.report_reader.specs.declared.fault.Stop.{Stop}
use Rattle.report_reader.specs.inside.Reading.{StopsInLine}
use Rattle.std.proofs.Common.{subst, sym, refl}
use Rattle.report_reader.proofs.finding_lines.read_identity_line.Goals as goal

pub returns-in_default-clause-reads : goal.returns-in_default-clause-reads
returns-in_default-clause-reads c = identity_unended c.args.text.now 0 c.in_default.ensures

pub returns-in_default-clause-stops : goal.returns-in_default-clause-stops
returns-in_default-clause-stops c = at_once c.args.text.now _ refl

pub returns-in-Ok-clause-reads : goal.returns-in-Ok-clause-reads
returns-in-Ok-clause-reads c = identity_read c.args.text.now c.in-Some.line.now c.in-Some.rest.now (identity_in c.in-Ok.identity) c.in-Some.ensures c.in-Ok.ensures.ok.0 c.in-Ok.ensures.ok.1 c.in-Ok.ensures.only

pub returns-in-Err-clause-reads : goal.returns-in-Err-clause-reads
returns-in-Err-clause-reads c = rw c.stop_of.ensures (identity_refused c.args.text.now c.in-Some.line.now c.in-Some.rest.now c.in-Err.fault _ c.in-Some.ensures c.in-Err.ensures.only)

pub returns-in-Err-clause-stops : goal.returns-in-Err-clause-stops
returns-in-Err-clause-stops c = subst (λ (stop : Stop). StopsInLine c.args.text.now stop) (sym c.stop_of.ensures) (identity_stops c.args.text.now c.in-Err.fault _ refl)
