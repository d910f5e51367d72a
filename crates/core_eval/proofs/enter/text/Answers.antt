use Rattle.std.proofs.Common.{◌≡◌, List, map, ap, ◌∙◌, arith}
use Rattle.std.specs.Prelude.{pos}
use Rattle.std.proofs.lemmas.List.{take_all}
use Rattle.term_core.specs.Meaning.{Meaning, Int, Nil}
use Rattle.term_core.specs.Term.{meaning_of, list_onto}
use Rattle.core_stack.specs.Matching.{text_of}
use Rattle.core_eval.proofs.Errors.{same_limited}
use Rattle.core_eval.proofs.enter.text.Goals as goal

pub returns-clause-same : goal.returns-clause-same
returns-clause-same c =
    let all : map meaning_of c.characters.numbers.items ≡ map (λ d. Int (pos d)) c.args.characters.now = c.characters.invariant ∙ ap (map (λ d. Int (pos d))) (take_all c.characters.character-index c.args.characters.now (omega (arith, c.characters-test.false))) in
    same_limited _ _ (text_of c.args.characters.now) (c.in_ok-list_onto.ensures ∙ ap (λ (ms : List Meaning). list_onto ms Nil) all) c.limited.ensures.same
