-- What a counter comes to, where no rule refuses it.
use Rattle.std.proofs.Common.{◌≡◌, Bool, true, false, not, if◌then◌else◌, Option, Some, None, Result, Ok, Err, IfOk, List, ap, ◌∙◌}
use Rattle.std.specs.Option.{option_or}
use Rattle.term_core.specs.Term.{meaning_of}
use Rattle.ets_answers.proofs.Additions.{later_none}
use Rattle.ets_answers.specs.At.{IsCountedAt}
use Rattle.ets_answers.specs.declared.counted.Counted.{Counted}
use Rattle.ets_answers.specs.inside.Counting.{Answer, LeaveUnder}
use Rattle.ets_store.specs.Tables.{settings_in}
use Rattle.ets_store.specs.declared.table.Table.{Table}
use Rattle.world_model.specs.Calls.{Increment}
use Rattle.world_model.specs.Objects.{additions_of, all_added, counter_rule, is_increment, places_rule, start_of, start_rule, sums_answer, sums_in, sums_rule}
use Rattle.world_model.specs.Rows.{Key, Object, under, with_part}
use Rattle.world_model.specs.Tables as tables
use Rattle.world_model.specs.Tables.{is_bag}
use Rattle.world_model.specs.declared.rule.Rule.{Rule}
use Rattle.world_model.specs.declared.rule.Rule.TheVariants.{BagRefused, NotInteger}

last_none : (b c : Bool) (p s r : Option Rule) → (if b then Some BagRefused else (if c then Some NotInteger else option_or p (option_or s r))) ≡ None → r ≡ None
last_none true c p s r h = absurd cc
last_none false true p s r h = absurd cc
last_none false false p s r h = later_none s r (later_none p (option_or s r) h)

sums_allowed : (t : tables.Table) (increment : Increment) (default : Option (Option Object)) (there : List Object) → counter_rule t increment default there ≡ None → sums_rule (additions_of t.position increment) (start_of default there) ≡ None
sums_allowed t increment default there = last_none (is_bag t.kind) (not (is_increment increment)) (places_rule t.position (additions_of t.position increment)) (start_rule t.position default there) (sums_rule (additions_of t.position increment) (start_of default there))

pub counted_at : {E : Type 0} (t : Table) (key : Key) (increment : Increment) (default : Option (Option Object)) (r : Result Counted E) (o : Object) → o ≡ start_of default (under t.rows.rows key)
    → IfOk r (λ counted. Answer increment (additions_of t.rows.position increment) o (meaning_of counted.answer))
    → IfOk r (λ counted. LeaveUnder t.rows.position key (additions_of t.rows.position increment) o counted.object)
    → IfOk r (λ counted. IsCountedAt t key increment default (meaning_of counted.answer) counted.object)
counted_at t key increment default (Ok x) o from answers leaves = λ allowed.
    let none : sums_rule (additions_of t.rows.position increment) o ≡ None = ap (sums_rule (additions_of t.rows.position increment)) from ∙ sums_allowed (settings_in t) increment default (under t.rows.rows key) allowed in
    (answers none ∙ ap (λ x. sums_answer increment (sums_in (additions_of t.rows.position increment) x)) from, leaves none ∙ ap (λ x. with_part t.rows.position key (all_added (additions_of t.rows.position increment) x)) from)
counted_at t key increment default (Err e) o from answers leaves = answers
