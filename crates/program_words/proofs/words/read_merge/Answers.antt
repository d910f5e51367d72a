use Rattle.std.proofs.Common.{◌≡◌, ◌∙◌, ap, codes, subst}
use Rattle.std.specs.Prelude.{Err}
use Rattle.std.proofs.lemmas.Result.{err_from_is_err_and}
use Rattle.clap.specs.Values.{kind_of}
use Rattle.clap.specs.Words.{subcommand_rows_of}
use Rattle.clap.specs.declared.error.Error.{Error}
use Rattle.clap.specs.declared.error.kind.ErrorKind.TheVariants.{OutOfMemory}
use Rattle.program_words.specs.inside.Found.{AsksForOne, IsSplitRead, IsSplitReadOf}
use Rattle.program_words.proofs.Texts.{if_err}
use Rattle.program_words.proofs.words.read_merge.Goals as goal

pub returns-in_err-split-clause-refused : goal.returns-in_err-split-clause-refused
returns-in_err-split-clause-refused c =
    let p = err_from_is_err_and c.from_residual.result c.from_residual.ensures.1 in
    if_err (λ (e : Error). AsksForOne (subcommand_rows_of c.args.matches.now) → kind_of e ≡ OutOfMemory) _ c.in_err-split.field-0.0 (p.1 ∙ ap Err p.2)
    (λ asks. c.in_err-split.ensures.refused asks.merge)

pub returns-in_default-clause-ok : goal.returns-in_default-clause-ok
returns-in_default-clause-ok c = subst (IsSplitReadOf (codes "merge") (subcommand_rows_of c.args.matches.now)) c.in_default.is c.in_ok-split.ensures.ok

pub returns-clause-ok : goal.returns-clause-ok
returns-clause-ok c =
    let rows = subcommand_rows_of c.args.matches.now in
    let read : IsSplitRead (codes "merge") rows c.in-Some.split c.in-Some.excuses = subst (IsSplitReadOf (codes "merge") rows) c.in-Some.is c.in_ok-split.ensures.ok in
    read
