use Rattle.std.proofs.Common.{ap, ◌≡◌, ◌∙◌, ◌+◌, ◌<◌, ◌∷◌, ℕ, List, length, drop, get_or, add-one, drop-cons}
use Rattle.search_numbers.proofs.Numbers.{written_first}
use Rattle.search_numbers.specs.Rows.{numbers_in, written}
use Rattle.search_numbers.specs.declared.touch.Touch.{Touch}
use Rattle.search_numbers.proofs.row.Row.become_after.Goals as goal

next_touch : (ts : List Touch) (i : ℕ) (d : Touch) → i < length ts → drop i ts ≡ get_or ts i d ∷ drop (i + 1) ts
next_touch ts i d h = rw (add-one, drop-cons ts i d)

pub loop-touch-init : goal.loop-touch-init
loop-touch-init c k = ap (λ row. written c.args.touches.now (numbers_in row) k) c.in_ok-become_row.ensures

pub loop-touch-preserved : goal.loop-touch-preserved
loop-touch-preserved c k =
    let ts = c.args.touches.now in
    let i = c.loop-touch.touch-index in
    let d : Touch = record { column = 0; before = 0; after = 0 } in
    written_first (drop i ts) (get_or ts i d) (drop (i + 1) ts) (numbers_in c.loop-touch.self.numbers.items) (numbers_in c.put.new.self.numbers.items) (next_touch ts i d c.loop-touch-test.true) c.in_ok-put.ensures k ∙ c.loop-touch.invariant k
