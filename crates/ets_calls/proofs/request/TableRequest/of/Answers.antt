use Rattle.std.proofs.Common.{◌≡◌, length, map, ap, arith}
use Rattle.std.proofs.lemmas.List.{length-map}
use Rattle.term_core.specs.Term.{meaning_of}
use Rattle.ets_calls.proofs.Arities.{too_few, too_many}
use Rattle.ets_calls.proofs.request.TableRequest.of.Goals as goal
use Rattle.ets_calls.proofs.request.TableRequest.of.Goals.{in_default-via-then-as_slice-lt1, in_default-via-else-as_slice-lt1+else-this-lt2+else-this-lt3+else-this-lt4+else-this-lt5}

pub returns-in_default : goal.returns-in_default
returns-in_default c =
    let terms = c.as_slice.result.now in
    let size : length (map meaning_of terms) ≡ length c.args.arguments.now = ap length c.as_slice.ensures in
    let same : length (map meaning_of terms) ≡ length terms = length-map terms meaning_of in
    elim c.in_default.branch [ in_default-via-then-as_slice-lt1 w ↦ too_few c.args.kind c.args.arguments.now (grind arith) | in_default-via-else-as_slice-lt1+else-this-lt2+else-this-lt3+else-this-lt4+else-this-lt5 w ↦ too_many c.args.kind c.args.arguments.now (grind arith) ]
