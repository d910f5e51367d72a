-- What a report says of all schedules.
use Rattle.std.specs.Prelude.{◌≡◌, ◌↔◌, ℕ, List, [], codes}
use Rattle.tree_excuses.specs.Excuses.{Excuses, counted}
use Rattle.tree_findings.specs.declared.outcome.Outcome.{Outcome}
use Rattle.tree_findings.specs.declared.outcome.Outcome.TheVariants.{Complete, Incomplete}
use Rattle.tree_schedules.specs.declared.delivery.Delivery.{Delivery}
use Rattle.tree_schedules.specs.declared.delivery.Delivery.TheVariants.{AnyTime, AtOnce}
use Rattle.report_text.specs.declared.visited.Visited.{Visited}
use Rattle.report_text.specs.ReportText.{delivery_in, explained_last_line}

-- all nodes or states were visited, none shows an error that counts, and the depth cuts off nothing
abbrev pub IsCleanOfAll : Excuses → Outcome → Type 0
IsCleanOfAll x (Complete findings extent) = (counted x findings.errors ≡ []) × (extent.cut ≡ 0)
IsCleanOfAll x (Incomplete cause findings) = ⊥

-- the line that says so of all schedules that deliver signals then
abbrev pub all_clean_line : Delivery → List ℕ
all_clean_line AnyTime = codes "result: clean, all schedules\n"
all_clean_line AtOnce = codes "result: clean, all prompt schedules\n"

-- it is the last line of an explained report exactly where the exploration followed the schedules that deliver signals then, and it is so, whatever is excused
abbrev pub LastLinesSayIt : Type 0
LastLinesSayIt = (visited : Visited) (depth : ℕ) (x : Excuses) (outcome : Outcome) (d : Delivery) → (explained_last_line visited depth x outcome ≡ all_clean_line d) ↔ ((delivery_in visited ≡ d) × IsCleanOfAll x outcome)
