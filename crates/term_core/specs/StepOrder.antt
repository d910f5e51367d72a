-- The order of references, steps and schedules.
use Rattle.std.specs.Prelude.{ℕ, List, length}
use Rattle.std.specs.declared.cmp.Ordering.{Ordering}
use Rattle.std.specs.declared.cmp.Ordering.TheVariants.{Less, Greater}
use Rattle.std.specs.Ordering.{nat_cmp, ordering_then}
use Rattle.std.specs.Cmp.Lexicographic.{slice_cmp}
use Rattle.term_core.specs.Order.{order_of_lists, order_of_references}
use Rattle.term_core.specs.declared.step.Step.{Step}
use Rattle.term_core.specs.declared.step.Step.TheVariants.{Turn, Deliver}

-- references by pid, then by number
abbrev pub order_of_reference_ids : List ℕ × ℕ → List ℕ × ℕ → Ordering
order_of_reference_ids a b = order_of_references a.0 a.1 b.0 b.1

-- turns by pid, then deliveries by from, then to
abbrev pub order_of_steps : Step → Step → Ordering
order_of_steps (Turn p) (Turn q) = order_of_lists p q
order_of_steps (Turn p) (Deliver from to) = Less
order_of_steps (Deliver from to) (Turn q) = Greater
order_of_steps (Deliver from to) (Deliver from' to') = ordering_then (order_of_lists from from') (order_of_lists to to')

-- schedules by length, then step by step
abbrev pub order_of_schedules : List Step → List Step → Ordering
order_of_schedules xs ys = ordering_then (nat_cmp (length xs) (length ys)) (slice_cmp order_of_steps xs ys)
