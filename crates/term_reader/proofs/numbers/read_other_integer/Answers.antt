use Rattle.std.proofs.Common.{rules, ◌≡◌}
use Rattle.term_reader.proofs.IntegerTexts.{no_integer_text, IsUtf8-integer, parsed_integer}
use Rattle.term_reader.proofs.numbers.read_other_integer.Goals as goal

pub returns-then-not-begins_integer : goal.returns-then-not-begins_integer
returns-then-not-begins_integer c = no_integer_text c.args.text.now (search rules)

pub returns-in_err-ok : goal.returns-in_err-ok
returns-in_err-ok c = rw c.from_residual.ensures (λ n h other e. let text = IsUtf8-integer c.args.text.now n h e in search rules)

pub returns : goal.returns
returns c =
    let e : c.in_ok-ok.field-0.now ≡ c.args.text.now = search rules in
    let p = rw e at c.parse.ensures.value.0 in
    rw c.ok-2.ensures.value (parsed_integer c.args.text.now c.parse.result (search rules) p)
