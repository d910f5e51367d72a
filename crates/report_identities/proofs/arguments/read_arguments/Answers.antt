use Rattle.std.proofs.Common.{◌∙◌}
use Rattle.std.proofs.lemmas.Result.{err_from_is_err_and}
use Rattle.term_core.specs.Meaning.{Tuple, meanings_of}
use Rattle.report_identities.proofs.ArgumentTexts.{all_lawful, are_lawful, arguments_are, no_tuple, same_term, tuple_is}
use Rattle.report_identities.proofs.arguments.read_arguments.Goals as goal

pub returns-in_err-term : goal.returns-in_err-term
returns-in_err-term c =
    let p = err_from_is_err_and c.from_residual-in_err-term.result c.from_residual-in_err-term.ensures.1 in
    let bytes = c.as_slice.ensures.value ∙ c.in_ok-bytes.ensures in
    rw (p.1, p.2) (λ xs l e. c.in_err-term.ensures (Tuple (meanings_of xs)) (are_lawful xs l) (tuple_is c.args.text.now _ xs bytes e))

pub returns-in-Tuple : goal.returns-in-Tuple
returns-in-Tuple c =
    let bytes = c.as_slice.ensures.value ∙ c.in_ok-bytes.ensures in
    let read = rw c.in-Tuple.is at c.in_ok-term.ensures in
    (all_lawful _ read.0, arguments_are c.args.text.now _ _ bytes read.1)

pub returns : goal.returns
returns c = λ xs l e.
    let bytes = c.as_slice.ensures.value ∙ c.in_ok-bytes.ensures in
    let same = same_term _ _ (Tuple (meanings_of xs)) c.in_ok-term.ensures.0 (are_lawful xs l) c.in_ok-term.ensures.1 (tuple_is c.args.text.now _ xs bytes e) in
    no_tuple _ (meanings_of xs) c.in_default.not-Tuple same
