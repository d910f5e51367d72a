use Rattle.std.proofs.Common.{◌≡◌, map, vec_len}
use Rattle.term_core.specs.Term.{meaning_of, list_onto}
use Rattle.term_core.proofs.build.list_onto.Given as goal

-- the heads that are left, onto the list so far, are the whole list
abbrev pub invariant-loop-head : goal.invariant-loop-head
invariant-loop-head l =
    list_onto (map meaning_of l.heads.items) (meaning_of l.list) ≡ list_onto (map meaning_of l.fn.heads.items) (meaning_of l.fn.tail)

abbrev pub decreases-loop-head : goal.decreases-loop-head
decreases-loop-head l = vec_len l.heads
