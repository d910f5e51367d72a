use Rattle.std.proofs.Common.{◌≡◌, [], ◌∷◌, rules, refl, sym, ◌∙◌}
use Rattle.term_reader.proofs.IntegerTexts.{integer_or_zero, zero_text}
use Rattle.term_reader.proofs.numbers.read_integer.Goals as goal

pub returns-then-is_zero : goal.returns-then-is_zero
returns-then-is_zero c = let e : c.args.text.now ≡ 48 ∷ [] = search rules in (refl, e ∙ sym zero_text)

pub returns-else-is_zero : goal.returns-else-is_zero
returns-else-is_zero c = integer_or_zero c.args.text.now c.read_other_integer.result (search rules) c.read_other_integer.ensures
