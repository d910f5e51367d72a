-- What a report says where nothing is excused.
use Rattle.std.specs.Prelude.{◌≡◌, ◌++◌, length, codes}
use Rattle.std.specs.Fmt.{decimal}
use Rattle.tree_coverage.specs.Findings.{Findings}
use Rattle.tree_excuses.specs.Excuses.{no_excuses}
use Rattle.report_text.specs.ReportText.{text_of_all, text_of_counts, text_of_findings}

-- it lists all errors and then the refusals, and says how many there are of both
abbrev pub NoExcusesTellNothing : Type 0
NoExcusesTellNothing = (findings : Findings) →
    (text_of_all no_excuses findings ≡ text_of_findings (codes "error") findings.errors ++ text_of_findings (codes "refusal") findings.refusals)
    × (text_of_counts no_excuses findings ≡ codes "errors " ++ (decimal (length findings.errors) ++ (codes ", refusals " ++ (decimal (length findings.refusals) ++ codes "\n"))))
