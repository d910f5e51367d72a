-- The report of random schedules: the text of what they show, as bytes.
use Rattle.std.specs.Prelude.{ℕ, List, [], ◌∷◌, ◌++◌, codes}
use Rattle.std.specs.Fmt.{decimal}
use Rattle.tree_coverage.specs.Findings.{Finding, Findings}
use Rattle.tree_excuses.specs.Excuses.{Excuses, counted}
use Rattle.report_text.specs.ReportText.{text_of_all, text_of_counts}
use Rattle.report_text.specs.declared.sample_lines.Sampled.{Sampled}

-- how many steps a schedule may have, how many were followed, and the seed that they are of
abbrev pub sample_first_line : Sampled → List ℕ
sample_first_line sampled =
    codes "depth " ++ (decimal sampled.depth ++ (codes ", runs " ++ (decimal sampled.runs ++ (codes ", seed " ++ (decimal sampled.seed ++ codes "\n")))))

-- whether they show errors that count; where they do not, others may
abbrev pub sample_result : List Finding → List ℕ
sample_result [] = codes "nothing found"
sample_result (f ∷ fs) = codes "errors"

abbrev pub sample_last_line : Excuses → Findings → List ℕ
sample_last_line x findings = codes "result: " ++ (sample_result (counted x findings.errors) ++ codes "\n")

-- the report
abbrev pub text_of_sample : Sampled → Excuses → Findings → List ℕ
text_of_sample sampled x findings = sample_first_line sampled ++ (text_of_all x findings ++ (text_of_counts x findings ++ sample_last_line x findings))
