use Rattle.std.proofs.lemmas.Result.{MatchResult-weaker}
use Rattle.report_terms.proofs.strings.append_text.Goals as goal

pub returns : goal.returns
returns c = MatchResult-weaker c.write_term.result c.write_term.ensures (λ _ w. w.appends) (λ _ _. tt)
