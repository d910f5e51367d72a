use Rattle.std.proofs.Common.{◌≡◌, [], rules, ◌∙◌, ap}
use Rattle.term_reader.specs.inside.Leaves.{text_of_numbers}
use Rattle.term_reader.proofs.LeafReads.{no_reference_pid, no_reference_numbers, no_reference_number}
use Rattle.term_reader.proofs.leaves.read_reference.Goals as goal

pub returns-in_default : goal.returns-in_default
returns-in_default c = no_reference_pid c.args.text.now c.in_default.ensures

pub returns-in_default-2 : goal.returns-in_default-2
returns-in_default-2 c = no_reference_numbers c.args.text.now _ c.in-Some.ensures (rw c.in_default-2.is at c.in_ok-numbers.ensures)

pub returns-in_default-pop : goal.returns-in_default-pop
returns-in_default-pop c =
    let none : c.in-Some-2.numbers.items ≡ [] = search rules in
    let r = rw c.in-Some-2.is at c.in_ok-numbers.ensures in
    no_reference_number c.args.text.now _ c.in-Some.ensures (r.1 ∙ ap text_of_numbers none)
