use Rattle.std.proofs.Common.{◌≡◌, ◌+◌, ◌≤◌, map, vec_len, vec_capacity}
use Rattle.tree_coverage.specs.Findings.{AreSorted}
use Rattle.tree_findings.specs.Merging.{merged}
use Rattle.tree_findings.specs.Found.{finding_in}
use Rattle.tree_findings.proofs.list.put_all.Given as goal

abbrev pub invariant-loop-finding : goal.invariant-loop-finding
invariant-loop-finding l = record {
  room : vec_len l.items + vec_len l.more ≤ vec_capacity l.items;
  sorted : AreSorted (map finding_in l.items.items);
  all : merged (map finding_in l.items.items) (map finding_in l.more.items) ≡ merged (map finding_in l.initial.items.items) (map finding_in l.initial.more.items);
}

abbrev pub decreases-loop-finding : goal.decreases-loop-finding
decreases-loop-finding l = goal.left-loop-finding l
