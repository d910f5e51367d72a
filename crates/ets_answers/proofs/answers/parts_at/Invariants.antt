use Rattle.std.proofs.Common.{◌≡◌, ◌++◌, map, drop}
use Rattle.term_core.specs.Term.{meaning_of}
use Rattle.world_model.specs.Rows.{parts_at}
use Rattle.ets_answers.proofs.answers.parts_at.Given as goal

abbrev pub invariant-loop-object : goal.invariant-loop-object
invariant-loop-object l = map meaning_of l.parts.items ++ parts_at l.position (drop l.object-index l.there) ≡ parts_at l.position l.there
