use Rattle.std.proofs.Common.{◌≡◌, ◌++◌, map}
use Rattle.term_core.specs.Term.{meaning_of}
use Rattle.world_model.specs.Terms.{atom}
use Rattle.proc_links.specs.Bearers.{listed}
use Rattle.proc_links.proofs.names.Bearers.all.Given as goal

-- the names, with those of the entries that are left, are all
abbrev pub invariant-loop-name : goal.invariant-loop-name
invariant-loop-name l = map meaning_of l.names.items ++ map atom (map (λ e. e.0) l.name-iterator) ≡ map atom (listed l.self)
