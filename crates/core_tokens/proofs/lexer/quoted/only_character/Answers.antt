use Rattle.std.proofs.Common.{◌≡◌, ◌++◌, length, sym, arith}
use Rattle.std.specs.Prelude.{encode_utf8}
use Rattle.std.proofs.lemmas.Bool.Decides.{nat_tests}
use Rattle.core_tokens.proofs.Characters.{only_one, only_more, only_ill, only_nothing}
use Rattle.core_tokens.proofs.lexer.quoted.only_character.Goals as goal

pub returns-in_default : goal.returns-in_default
returns-in_default c = sym (only_ill c.args.text.now c.in_default.ensures.cases.0)

pub returns-in_default-next : goal.returns-in_default-next
returns-in_default-next c =
    let utf8 = c.in-Ok.ensures.cases in
    let steps = c.in_default-next.ensures.steps in
    let rest = c.chars-characters.ensures.rest in
    let same : c.chars-characters.result.rest.now ≡ c.args.text.now = cc in
    sym (only_nothing c.args.text.now utf8.1 (rw (← same) steps.0.0))

pub returns-then-is_empty : goal.returns-then-is_empty
returns-then-is_empty c =
    let utf8 = c.in-Ok.ensures.cases in
    let steps = c.in-Some.ensures.steps in
    let rest = c.chars-characters.ensures.rest in
    let left = c.as_str.ensures in
    let empty = c.if-is_empty.ensures in
    let whole : c.args.text.now ≡ encode_utf8 c.in-Some.first ++ c.as_str.result.now = cc in
    let none : length c.as_str.result.now ≡ 0 = grind (arith, nat_tests) in
    sym (only_one c.args.text.now c.as_str.result.now c.in-Some.first utf8.1 whole none)

pub returns-else-is_empty : goal.returns-else-is_empty
returns-else-is_empty c =
    let utf8 = c.in-Ok.ensures.cases in
    let steps = c.in-Some.ensures.steps in
    let rest = c.chars-characters.ensures.rest in
    let left = c.as_str.ensures in
    let empty = c.if-is_empty.ensures in
    let whole : c.args.text.now ≡ encode_utf8 c.in-Some.first ++ c.as_str.result.now = cc in
    sym (only_more c.args.text.now c.as_str.result.now c.in-Some.first utf8.1 whole (λ h. grind (arith, nat_tests)))
