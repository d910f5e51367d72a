use Rattle.std.proofs.Common.{rules, ◌≡◌}
use Rattle.term_reader.proofs.numbers.read_positive.Goals as goal
use Rattle.term_core.proofs.NumberTexts.{no_number, parsed_number, IsUtf8-number}

pub returns-then-not-begins_number : goal.returns-then-not-begins_number
returns-then-not-begins_number c = no_number c.args.digits.now (search rules)

pub returns-in_err-ok : goal.returns-in_err-ok
returns-in_err-ok c = rw c.from_residual.ensures (λ n h e. let text = IsUtf8-number c.args.digits.now n h e in search rules)

pub returns : goal.returns
returns c =
    let e : c.in_ok-ok.field-0.now ≡ c.args.digits.now = search rules in
    let p = rw e at c.parse.ensures.value.0 in
    rw c.ok-2.ensures.value (parsed_number c.args.digits.now c.parse.result (search rules) p)
