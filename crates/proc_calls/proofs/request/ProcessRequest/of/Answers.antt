use Rattle.std.proofs.Common.{◌≡◌, length, map, ap, arith}
use Rattle.std.proofs.lemmas.List.{length-map}
use Rattle.term_core.specs.Term.{meaning_of}
use Rattle.proc_calls.proofs.Arities.{of_four_arguments, too_many}
use Rattle.proc_calls.proofs.request.ProcessRequest.of.Goals as goal

pub returns-in_default : goal.returns-in_default
returns-in_default c =
    let terms = c.as_slice.result.now in
    let size : length (map meaning_of terms) ≡ length c.args.arguments.now = ap length c.as_slice.ensures in
    let same : length (map meaning_of terms) ≡ length terms = length-map terms meaning_of in
    let long = c.in_default.len_at_least in
    too_many c.args.kind c.args.arguments.now (grind arith)

pub returns-in-len4 : goal.returns-in-len4
returns-in-len4 c =
    let terms = c.as_slice.result.now in
    let size : length (map meaning_of terms) ≡ length c.args.arguments.now = ap length c.as_slice.ensures in
    let same : length (map meaning_of terms) ≡ length terms = length-map terms meaning_of in
    let least = c.in-len4.len_at_least in
    let most = c.in-len4.len_below in
    of_four_arguments c.args.kind c.args.arguments.now c.of_four.result (grind arith) (grind arith) c.of_four.ensures
