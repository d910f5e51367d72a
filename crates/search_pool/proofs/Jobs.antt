-- The nodes of jobs: in two explorations that are one, and in another order.
use Rattle.std.proofs.Common.{◌≡◌, List, [], ◌∷◌, ◌++◌, length, reverse, refl, sym, ap, ◌∙◌, subst, append_assoc, append-nil}
use mathlib.Core.List.{reverse-cons}
use Rattle.std.specs.List.Sorted.{IsPermutation}
use Rattle.std.proofs.lemmas.List.Sorted.{IsPermutation-refl, IsPermutation-trans, IsPermutation-append_left, IsPermutation-append_right, IsPermutation-append_comm}
use Rattle.tree_coverage.specs.Findings.{Findings, findings_among}
use Rattle.tree_coverage.specs.Jobs as tree
use Rattle.tree_coverage.specs.Jobs.{Job, Node, schedules_of}
use Rattle.tree_findings.specs.declared.extent.Extent.{Extent}
use Rattle.search_jobs.specs.Explorations.{ExplorationSeen, JobSeen, program_in, names_of, nodes_of}
use Rattle.search_jobs.specs.Pieces.{AreOf, IsPiece, extent_of}
use Rattle.tree_cuts.specs.Cuts.{cut_count}
use Rattle.world_model.specs.Asking.{program_of}
use Rattle.search_pool.specs.Explorations.{AreOne, AreJobsOf, nodes_of_jobs, OneHasTheSameNodes, OneShowsTheSame}
use Rattle.search_pool.specs.Machine.{MakesUp}
use Rattle.search_pool.proofs.Places.{program_bare}

-- ---- explorations that are one

pub same_program : (e f : ExplorationSeen) → AreOne e f → program_in e ≡ program_in f
same_program e f one = sym (program_bare e.program) ∙ ap program_of one.program ∙ program_bare f.program

pub same_nodes : OneHasTheSameNodes
same_nodes e f name one = λ i. tree.nodes_of (same_program e f one i) (one.depth i) name

pub same_jobs : (e f : ExplorationSeen) (jobs : List Job) → AreOne e f → nodes_of_jobs e jobs ≡ nodes_of_jobs f jobs
same_jobs e f jobs one = λ i. tree.nodes_of_all (same_program e f one i) (one.depth i) jobs

pub same_findings : OneShowsTheSame
same_findings e f nodes one = λ i. findings_among (one.flags i) (same_program e f one i) (schedules_of nodes)

-- they are cut at the same nodes
pub same_extent : (e f : ExplorationSeen) (nodes : List Node) → AreOne e f → extent_of e nodes ≡ extent_of f nodes
same_extent e f nodes one = λ i. record { nodes = length nodes; cut = cut_count (same_program e f one i) (one.depth i) (schedules_of nodes) }

pub one_itself : (e : ExplorationSeen) → AreOne e e
one_itself e = record { program = refl; depth = refl; flags = refl }

-- a piece of the one is a piece of the other
pub makes_up : (e f : ExplorationSeen) (name : Job) (found : Findings) (x : Extent) (rest : List JobSeen) → AreOne e f → IsPiece e name found x rest → MakesUp f name found x (names_of rest)
makes_up e f name found x rest one p = record {
  visited = p.done;
  is_done = record { found = p.is_done.found ∙ same_findings e f p.done one; counted = p.is_done.counted ∙ same_extent e f p.done one };
  made_up = sym (same_nodes e f name one) ∙ p.made_up ∙ ap (λ vs. p.done ++ vs) (same_jobs e f (names_of rest) one);
}

pub jobs_of : (e f : ExplorationSeen) (rest : List JobSeen) → AreOne e f → AreOf e rest → AreJobsOf f rest
jobs_of e f [] one all = tt
jobs_of e f (j ∷ js) one all = (subst (λ x. AreOne x f) (sym all.0) one, jobs_of e f js one all.1)

-- ---- in another order

pub nodes-append : (e : ExplorationSeen) (js ks : List Job) → nodes_of_jobs e (js ++ ks) ≡ nodes_of_jobs e js ++ nodes_of_jobs e ks
nodes-append e [] ks = refl
nodes-append e (j ∷ js) ks =
    ap (λ vs. nodes_of e j ++ vs) (nodes-append e js ks) ∙ sym (append_assoc (nodes_of e j) (nodes_of_jobs e js) (nodes_of_jobs e ks))

pub to_front : {X : Type 0} (xs ys zs : List X) → IsPermutation (xs ++ (ys ++ zs)) (ys ++ (xs ++ zs))
to_front xs ys zs =
    subst (λ l. IsPermutation l (ys ++ (xs ++ zs))) (append_assoc xs ys zs)
    (subst (λ l. IsPermutation ((xs ++ ys) ++ zs) l) (append_assoc ys xs zs) (IsPermutation-append_left zs (xs ++ ys) (ys ++ xs) (IsPermutation-append_comm xs ys)))

-- those of any job may come first
pub nodes_middle : (e : ExplorationSeen) (front back : List Job) (name : Job) → IsPermutation (nodes_of_jobs e (front ++ name ∷ back)) (nodes_of e name ++ nodes_of_jobs e (front ++ back))
nodes_middle e front back name =
    let f = nodes_of_jobs e front in
    let n = nodes_of e name in
    let b = nodes_of_jobs e back in
    subst (λ l. IsPermutation l (n ++ nodes_of_jobs e (front ++ back))) (sym (nodes-append e front (name ∷ back)))
    (subst (λ l. IsPermutation (f ++ (n ++ b)) (n ++ l)) (sym (nodes-append e front back)) (to_front f n b))

pub nodes_reversed : (e : ExplorationSeen) (jobs : List Job) → IsPermutation (nodes_of_jobs e jobs) (nodes_of_jobs e (reverse jobs))
nodes_reversed e [] = IsPermutation-refl []
nodes_reversed e (j ∷ js) =
    let n = nodes_of e j in
    let r = nodes_of_jobs e (reverse js) in
    let last : r ++ n ≡ nodes_of_jobs e (reverse (j ∷ js)) = ap (λ l. r ++ l) (sym (append-nil n)) ∙ sym (nodes-append e (reverse js) (j ∷ [])) ∙ ap (nodes_of_jobs e) (sym (reverse-cons j js)) in
    subst (IsPermutation (n ++ nodes_of_jobs e js)) last
    (IsPermutation-trans _ _ _ (IsPermutation-append_right n (nodes_of_jobs e js) r (nodes_reversed e js)) (IsPermutation-append_comm n r))
