use Rattle.std.proofs.Common.{◌≡◌, ◌++◌, drop, map}
use Rattle.term_core.specs.Term.{meaning_of}
use Rattle.world_model.specs.Terms.{tuple}
use Rattle.ets_store.proofs.objects.add_terms.Given as goal

abbrev pub invariant-loop-object : goal.invariant-loop-object
invariant-loop-object l = map meaning_of l.terms.items ++ map tuple (drop l.object-index l.objects) ≡ map meaning_of l.initial.terms.items ++ map tuple l.objects
