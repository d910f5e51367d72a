use Rattle.std.proofs.Common.{ap, sym, subst}
use Rattle.tree_coverage.specs.Findings.{Findings}
use Rattle.search_jobs.specs.Meanings.{AreOfJob}
use Rattle.search_jobs.specs.Pieces.{PieceSeen}
use Rattle.search_expansion.proofs.Pieces.{piece_shown}
use Rattle.search_expansion.proofs.expansion.expand.Goals as goal

pub returns-clause-shown : goal.returns-clause-shown
returns-clause-shown g c =
    subst (λ (found : Findings). AreOfJob c.args.job.exploration c.args.job.name found) (sym (ap (λ (p : PieceSeen). p.findings) c.of.ensures))
    (piece_shown c.args.job.exploration c.args.job.name c.in-Ok.done.findings c.in-Ok.done.extent c.in-Ok.done.rest.items c.in-Ok.ensures.piece)
