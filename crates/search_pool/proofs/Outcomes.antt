-- What a pool results in.
use Rattle.std.proofs.Common.{◌≡◌, ℕ, ◌<◌, ◌≤◌, List, [], ◌++◌, length, Option, Some, None, refl, subst, sym, ◌∙◌, ap, arith, append-nil, length-append}
use Rattle.std.specs.List.Sorted.{IsPermutation}
use Rattle.std.proofs.lemmas.List.Sorted.{length_permutation}
use Rattle.tree_coverage.specs.Findings.{Findings}
use Rattle.tree_coverage.specs.Jobs.{Job, Node}
use Rattle.tree_findings.specs.declared.extent.Extent.{Extent}
use Rattle.tree_findings.specs.declared.outcome.Cause.{Cause}
use Rattle.tree_findings.specs.declared.outcome.Outcome.TheVariants.{Complete, Incomplete}
use Rattle.search_jobs.specs.Explorations.{ExplorationSeen, JobSeen, TicketSeen, names_of, nodes_of}
use Rattle.search_pool.specs.Calls.{ComesTo}
use Rattle.search_pool.specs.Explorations.{nodes_of_jobs}
use Rattle.search_pool.specs.Seen.{cause_of, listed, seen_of, standing_of}
use Rattle.search_pool.specs.Sums.{AddsUp, names_out, nodes_left}
use Rattle.search_pool.specs.declared.entry.PoolEvent.{PoolEvent}
use Rattle.search_pool.specs.declared.entry.Stop.{Stop}
use Rattle.search_pool.specs.inside.Frontiers.{IsFrontier}
use Rattle.search_pool.proofs.Sums.{all_shown, counts_the_same, done_fewer, legal_adds_up, shows_the_same}

pub adds_up : (e : ExplorationSeen) (start : Job) (limit : ℕ) (todo : List JobSeen) (out : List TicketSeen) (f : Findings) (x : Extent) (taken : ℕ) (events : List PoolEvent) (s : Option Stop) → IsFrontier e start limit todo out f x taken events s → AddsUp e start limit (standing_of todo out f x taken s)
adds_up e start limit todo out f x taken events s p = legal_adds_up e start limit (listed events s) (standing_of todo out f x taken s) p.legal

-- the tree is cut at no more nodes than were visited
pub fewer_cuts : (e : ExplorationSeen) (start : Job) (limit : ℕ) (todo : List JobSeen) (out : List TicketSeen) (f : Findings) (x : Extent) (taken : ℕ) (events : List PoolEvent) (s : Option Stop) → IsFrontier e start limit todo out f x taken events s → x.cut ≤ x.nodes
fewer_cuts e start limit todo out f x taken events s p =
    let a = adds_up e start limit todo out f x taken events s p in
    done_fewer e a.visited f x a.is_done

-- where nothing stopped it, the limit was not passed
pub within_limit : (e : ExplorationSeen) (start : Job) (limit : ℕ) (todo : List JobSeen) (out : List TicketSeen) (f : Findings) (x : Extent) (taken : ℕ) (events : List PoolEvent) (s : Option Stop) → IsFrontier e start limit todo out f x taken events s → s ≡ None → x.nodes ≤ limit
within_limit e start limit todo out f x taken events s p is_s = (adds_up e start limit todo out f x taken events s p).within (ap (λ (o : Option Stop). cause_of o) is_s)

pub comes_complete : (e : ExplorationSeen) (start : Job) (limit : ℕ) (todo : List JobSeen) (out : List TicketSeen) (f : Findings) (x : Extent) (taken : ℕ) (events : List PoolEvent) (s : Option Stop) → IsFrontier e start limit todo out f x taken events s
    → s ≡ None → todo ≡ [] → out ≡ [] → ComesTo (seen_of e start limit todo out f x taken events s) (Complete f x)
comes_complete e start limit todo out f x taken events s p is_s is_todo is_out =
    let a = adds_up e start limit todo out f x taken events s p in
    let none : nodes_left e (standing_of todo out f x taken s) ≡ [] = (λ i. nodes_of_jobs e (names_of (is_todo i) ++ names_out (is_out i))) in
    let all : IsPermutation (nodes_of e start) a.visited = subst (IsPermutation (nodes_of e start)) (ap (λ (l : List Node). a.visited ++ l) none ∙ append-nil a.visited) a.made_up in (
      is_s,
      a.is_done.found ∙ sym (shows_the_same e (nodes_of e start) a.visited all),
      a.is_done.counted ∙ sym (counts_the_same e (nodes_of e start) a.visited all),
      within_limit e start limit todo out f x taken events s p is_s,
    )

pub comes_incomplete : (e : ExplorationSeen) (start : Job) (limit : ℕ) (todo : List JobSeen) (out : List TicketSeen) (f : Findings) (x : Extent) (taken : ℕ) (events : List PoolEvent) (s : Option Stop) (stop : Stop) → IsFrontier e start limit todo out f x taken events s
    → s ≡ Some stop → ComesTo (seen_of e start limit todo out f x taken events s) (Incomplete stop.cause f)
comes_incomplete e start limit todo out f x taken events s stop p is_s =
    let to = standing_of todo out f x taken s in
    let a = adds_up e start limit todo out f x taken events s p in
    let counted : x.nodes ≡ length a.visited = ap (λ (y : Extent). y.nodes) a.is_done.counted in
    let why = ap (λ (o : Option Stop). cause_of o) is_s in (
      why,
      refl,
      all_shown e start limit to a,
      λ is.
          let above : limit < x.nodes = a.limited (why ∙ ap (λ (c : Cause). Some c) is) in
          omega (arith, length_permutation (nodes_of e start) (a.visited ++ nodes_left e to) a.made_up, length-append a.visited (nodes_left e to), counted),
      record {
        visited = a.visited;
        left = nodes_left e to;
        made_up = a.made_up;
        found = a.is_done.found;
        beyond = λ is. subst (λ (k : ℕ). limit < k) counted (a.limited (why ∙ ap (λ (c : Cause). Some c) is));
      },
    )
