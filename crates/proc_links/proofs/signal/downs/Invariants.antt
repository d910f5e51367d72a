use Rattle.std.proofs.Common.{◌≡◌, map, take}
use Rattle.term_core.specs.Term.{meaning_of}
use Rattle.world_model.specs.Events as events
use Rattle.world_model.specs.Names.{ref_of}
use Rattle.proc_links.specs.Put.{put_of}
use Rattle.proc_links.proofs.signal.downs.Given as goal

-- those before this one are informed
abbrev pub invariant-loop-reference : goal.invariant-loop-reference
invariant-loop-reference l = map put_of l.told.items ≡ map (λ ref. (ref.pid, events.Down ref (meaning_of l.reason))) (map ref_of (take l.reference-index l.references))
