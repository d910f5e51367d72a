use Rattle.std.proofs.Common.{◌∷◌, [], List, map, sym, ◌∙◌, ap, arith}
use Rattle.std.proofs.lemmas.List.{map-append}
use Rattle.tree_coverage.specs.Findings.{Finding}
use Rattle.tree_findings.specs.Merging.{merged}
use Rattle.tree_findings.specs.Found.{finding_in}
use Rattle.tree_findings.proofs.Putting.{merged_last}
use Rattle.tree_findings.proofs.Sorting.{sorted_with}
use Rattle.tree_findings.proofs.list.put_all.Goals as goal

pub loop-finding-preserved : goal.loop-finding-preserved
loop-finding-preserved c =
    let fs = map finding_in c.loop-finding.items.items in
    let rest = c.pop.new.self.items in
    let f = c.in-Some.finding in
    record {
      room = omega (arith, c.in-Some.ensures.len, c.put.ensures.len, c.put.ensures.room, c.loop-finding.invariant.room);
      sorted = rw c.put.ensures.items (sorted_with (finding_in f) fs c.loop-finding.invariant.sorted);
      all = ap (λ (hs : List Finding). merged hs (map finding_in rest)) c.put.ensures.items ∙ sym (merged_last fs (map finding_in rest) (finding_in f)) ∙ ap (merged fs) (sym (map-append finding_in rest (f ∷ [])) ∙ ap (map finding_in) (sym c.in-Some.ensures.items)) ∙ c.loop-finding.invariant.all;
    }
