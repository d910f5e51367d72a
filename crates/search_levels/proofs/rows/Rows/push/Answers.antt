use Rattle.std.proofs.Common.{◌∙◌, ◌++◌, ◌∷◌, [], ap, arith, length}
use Rattle.std.proofs.lemmas.List.{length-append}
use Rattle.search_levels.proofs.Lying.{entries_put, lie_last, lie_more}
use Rattle.search_levels.proofs.rows.Rows.push.Goals as goal

pub invariant_of-self-2 : goal.invariant_of-self-2
invariant_of-self-2 g c =
    let numbers = c.self.inside.numbers.items in
    let row = c.args.row.now in
    let spans = c.self.inside.spans.items in
    let more = c.in_ok-extend_from_slice.ensures.items in
    let start = c.len-start.ensures ∙ c.self.inside.numbers.ok.0 in
    let end = c.len-end.ensures ∙ c.extend_from_slice.new.self.ok.0 ∙ ap length more in
    rw c.in_ok-push.ensures.items (rw more (lie_last (numbers ++ row) spans _ (lie_more numbers row spans c.self.invariant) (omega (arith, start, end, length-append numbers row)) (omega (arith, end))))

pub returns : goal.returns
returns g c =
    let numbers = c.self.inside.numbers.items in
    let row = c.args.row.now in
    let spans = c.self.inside.spans.items in
    let more = c.in_ok-extend_from_slice.ensures.items in
    let start = c.len-start.ensures ∙ c.self.inside.numbers.ok.0 in
    let end = c.len-end.ensures ∙ c.extend_from_slice.new.self.ok.0 ∙ ap length more ∙ length-append numbers row in
    rw c.in_ok-push.ensures.items (rw more (entries_put numbers row spans _ c.self.invariant start end ∙ ap (λ es. es ++ record { of = c.args.of; row = row } ∷ []) c.self.view_is))
