-- Terms have more nodes than they are high.
use Rattle.std.proofs.Common.{◌≤◌, ◌<◌, arith}
use Rattle.term_core.specs.Meaning.{Meaning, Meanings, Int, Atom, Ref, Pid, Tuple, Nil, Cons, NoMore, Also, node_count, node_counts}
use Rattle.term_reader.specs.Height.{height, height_over}

mutual
  pub height_below_nodes : (m : Meaning) → height m < node_count m
  height_below_nodes (Int n) = omega arith
  height_below_nodes (Atom text) = omega arith
  height_below_nodes (Ref pid number) = omega arith
  height_below_nodes (Pid pid) = omega arith
  height_below_nodes (Tuple parts) = omega (arith, height_over_nodes parts)
  height_below_nodes Nil = omega arith
  height_below_nodes (Cons head tail) = omega (arith, height_below_nodes head, height_below_nodes tail)

  pub height_over_nodes : (ms : Meanings) → height_over ms ≤ node_counts ms
  height_over_nodes NoMore = omega arith
  height_over_nodes (Also first others) = omega (arith, height_below_nodes first, height_over_nodes others)
