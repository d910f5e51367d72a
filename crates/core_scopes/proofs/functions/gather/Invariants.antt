use Rattle.std.proofs.Common.{◌≡◌, map, length}
use Rattle.std.specs.Vec.Iter.{into_iter_items, into_iter_len}
use Rattle.core_scopes.specs.Drafts.{defined_of}
use Rattle.core_scopes.proofs.Gathering.{Gathering}
use Rattle.core_scopes.proofs.functions.gather.Given as goal

abbrev pub invariant-definitions : goal.invariant-definitions
invariant-definitions l =
    Gathering (map defined_of l.fn.all.items) l.second l.definitions.entries (map defined_of (into_iter_items l.defined-iterator))
    × (into_iter_len l.defined-iterator ≡ length (into_iter_items l.defined-iterator))
