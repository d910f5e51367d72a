-- In a legal list, what is done, open and out adds up to the job at its beginning.
use Rattle.std.proofs.Common.{◌≡◌, ℕ, zero, suc, ◌+◌, ◌<◌, ◌≤◌, inl, inr, get_or, Bool, true, false, List, [], ◌∷◌, ◌++◌, Option, Some, None, if◌then◌else◌, reverse, length, refl, subst, sym, ◌∙◌, ap, arith, nat_lt, append_assoc, append-nil, length-append}
use Rattle.std.specs.List.{Contains}
use Rattle.std.specs.List.Sorted.{IsPermutation}
use Rattle.std.proofs.lemmas.Bool.Decides.{nat_tests}
use Rattle.std.proofs.lemmas.List.{length-map, map-append}
use Rattle.std.proofs.lemmas.List.Sorted.{Contains-permutation, IsPermutation-append_left, IsPermutation-append_right, IsPermutation-map, IsPermutation-refl, IsPermutation-sym, IsPermutation-trans, length_permutation}
use Rattle.tree_coverage.proofs.FindingLaws.{least}
use Rattle.tree_coverage.proofs.JobLaws.{map_join}
use Rattle.tree_coverage.proofs.Lists.{among_left}
use Rattle.tree_coverage.specs.Findings.{Finding, Findings, IsLeast, found, findings_among}
use Rattle.tree_coverage.specs.Jobs.{Job, Node, schedules_of}
use Rattle.tree_findings.proofs.Schedules.{any_order, lists_merged}
use Rattle.tree_findings.specs.declared.extent.Extent.{Extent}
use Rattle.tree_findings.specs.Merging.{merged_findings}
use Rattle.tree_findings.specs.declared.outcome.Cause.{Cause}
use Rattle.tree_findings.specs.declared.outcome.Cause.TheVariants.{NodeLimit}
use Rattle.search_jobs.proofs.Passing.{found_passes}
use Rattle.search_jobs.specs.Explorations.{ExplorationSeen, TicketSeen, program_in, nodes_of, findings_of}
use Rattle.search_jobs.specs.Meanings.{AreShown, AreOfJob}
use Rattle.search_jobs.specs.Pieces.{IsDone, extent_of}
use Rattle.tree_cuts.proofs.CutLaws.{cuts_in_any_order, cuts_of_both, cuts_some}
use Rattle.world_model.specs.Names.{IsAmong}
use Rattle.world_model.specs.Shown.{Identity, is_error, is_refusal}
use Rattle.search_pool.specs.Explorations.{nodes_of_jobs}
use Rattle.search_pool.specs.Machine.{Standing, Entry, Enters, Stops, opening, after_take, Takes, cause_after, after_give, Gives, stopped, StepsBy, Leads, sum_of}
use Rattle.search_pool.specs.Sums.{names_out, nodes_left, AddsUp, SumsUp, LegalAddsUp, LegalSumsUp}
use Rattle.search_pool.specs.declared.entry.PoolEvent.TheVariants.{Took, Gave}
use Rattle.search_pool.proofs.Jobs.{nodes-append, nodes_middle, nodes_reversed, to_front}

opening_adds_up : (e : ExplorationSeen) (start : Job) (limit : ℕ) → AddsUp e start limit (opening start)
opening_adds_up e start limit = record {
  visited = [];
  is_done = record { found = refl; counted = refl };
  made_up = subst (IsPermutation (nodes_of e start)) (sym (append-nil (nodes_of e start))) (IsPermutation-refl (nodes_of e start));
  limited = λ c. absurd (cc);
  within = λ c. omega arith;
}

-- ---- a job is handed out

names-append : (xs ys : List TicketSeen) → names_out (xs ++ ys) ≡ names_out xs ++ names_out ys
names-append xs ys = map-append (λ (t : TicketSeen). t.name) xs ys

-- its nodes are those of a job that is out
take_left : (e : ExplorationSeen) (todo front back : List Job) (out : List TicketSeen) (ticket : TicketSeen) → todo ≡ front ++ ticket.name ∷ back → IsPermutation (nodes_of_jobs e (todo ++ names_out out)) (nodes_of_jobs e ((front ++ back) ++ names_out (out ++ ticket ∷ [])))
take_left e todo front back out ticket is =
    let o = names_out out in
    let name = ticket.name in
    let fb = front ++ back in
    let before : todo ++ o ≡ front ++ name ∷ (back ++ o) = ap (λ l. l ++ o) is ∙ append_assoc front (name ∷ back) o in
    let after : fb ++ names_out (out ++ ticket ∷ []) ≡ (fb ++ o) ++ name ∷ [] = ap (λ l. fb ++ l) (names-append out (ticket ∷ [])) ∙ sym (append_assoc fb o (name ∷ [])) in
    let others : (fb ++ o) ++ [] ≡ front ++ (back ++ o) = append-nil (fb ++ o) ∙ append_assoc front back o in
    let second : IsPermutation (nodes_of_jobs e ((fb ++ o) ++ name ∷ [])) (nodes_of e name ++ nodes_of_jobs e (front ++ (back ++ o))) =
    subst (λ l. IsPermutation (nodes_of_jobs e ((fb ++ o) ++ name ∷ [])) (nodes_of e name ++ nodes_of_jobs e l)) others (nodes_middle e (fb ++ o) [] name) in
    subst (λ l. IsPermutation (nodes_of_jobs e l) (nodes_of_jobs e (fb ++ names_out (out ++ ticket ∷ [])))) (sym before)
    (subst (λ l. IsPermutation (nodes_of_jobs e (front ++ name ∷ (back ++ o))) (nodes_of_jobs e l)) (sym after)
    (IsPermutation-trans _ _ _ (nodes_middle e front (back ++ o) name) (IsPermutation-sym _ _ second)))

takes_add_up : (e : ExplorationSeen) (start : Job) (limit : ℕ) (s : Standing) (ticket : TicketSeen) (t : Standing) → AddsUp e start limit s → Takes s ticket t → AddsUp e start limit t
takes_add_up e start limit s ticket t p h =
    let made : AddsUp e start limit (after_take s ticket (h.front ++ h.back)) = record {
      visited = p.visited;
      is_done = p.is_done;
      made_up = IsPermutation-trans _ _ _ p.made_up (IsPermutation-append_right p.visited _ _ (take_left e s.todo h.front h.back s.out ticket h.is_open));
      limited = p.limited;
      within = p.within;
    } in
    subst (AddsUp e start limit) (sym h.leaves) made

-- ---- its piece comes back

-- its nodes are those that were visited, and those of the jobs that are open now
give_left : (e : ExplorationSeen) (todo rest : List Job) (out front back : List TicketSeen) (ticket : TicketSeen) (visited : List Node) → out ≡ front ++ ticket ∷ back → nodes_of e ticket.name ≡ visited ++ nodes_of_jobs e rest
    → IsPermutation (nodes_of_jobs e (todo ++ names_out out)) (visited ++ nodes_of_jobs e ((todo ++ reverse rest) ++ names_out (front ++ back)))
give_left e todo rest out front back ticket visited is made_up =
    let f = names_out front in
    let b = names_out back in
    let name = ticket.name in
    let t = nodes_of_jobs e todo in
    let r = nodes_of_jobs e rest in
    let o = nodes_of_jobs e (names_out (front ++ back)) in
    let before : todo ++ names_out out ≡ (todo ++ f) ++ name ∷ b = ap (λ l. todo ++ l) (ap names_out is ∙ names-append front (ticket ∷ back)) ∙ sym (append_assoc todo f (name ∷ b)) in
    let others : nodes_of_jobs e ((todo ++ f) ++ b) ≡ t ++ o = ap (nodes_of_jobs e) (append_assoc todo f b ∙ ap (λ l. todo ++ l) (sym (names-append front back))) ∙ nodes-append e todo (names_out (front ++ back)) in
    let own : nodes_of e name ++ nodes_of_jobs e ((todo ++ f) ++ b) ≡ visited ++ (r ++ (t ++ o)) = (λ i. made_up i ++ others i) ∙ append_assoc visited r (t ++ o) in
    let after : nodes_of_jobs e ((todo ++ reverse rest) ++ names_out (front ++ back)) ≡ t ++ (nodes_of_jobs e (reverse rest) ++ o) = nodes-append e (todo ++ reverse rest) (names_out (front ++ back)) ∙ ap (λ l. l ++ o) (nodes-append e todo (reverse rest)) ∙ append_assoc t (nodes_of_jobs e (reverse rest)) o in
    let opened : IsPermutation (r ++ (t ++ o)) (t ++ (nodes_of_jobs e (reverse rest) ++ o)) =
    IsPermutation-trans _ _ _ (to_front r t o) (IsPermutation-append_right t _ _ (IsPermutation-append_left o _ _ (nodes_reversed e rest))) in
    let first : IsPermutation (nodes_of_jobs e ((todo ++ f) ++ name ∷ b)) (visited ++ (r ++ (t ++ o))) = subst (IsPermutation (nodes_of_jobs e ((todo ++ f) ++ name ∷ b))) own (nodes_middle e (todo ++ f) b name) in
    subst (λ l. IsPermutation (nodes_of_jobs e l) (visited ++ nodes_of_jobs e ((todo ++ reverse rest) ++ names_out (front ++ back)))) (sym before)
    (subst (λ l. IsPermutation (nodes_of_jobs e ((todo ++ f) ++ name ∷ b)) (visited ++ l)) (sym after)
    (IsPermutation-trans _ _ _ first (IsPermutation-append_right visited _ _ opened)))

-- what two lists of nodes show
pub shows_both : (e : ExplorationSeen) (xs ys : List Node) → findings_of e (xs ++ ys) ≡ merged_findings (findings_of e xs) (findings_of e ys)
shows_both e xs ys =
    ap (findings_among e.flags (program_in e)) (map_join (λ (v : Node). v.schedule) xs ys) ∙ lists_merged e.flags (program_in e) (schedules_of xs) (schedules_of ys)

-- and how many they are, and at how many of them the tree is cut
pub counts_both : (e : ExplorationSeen) (xs ys : List Node) → extent_of e (xs ++ ys) ≡ sum_of (extent_of e xs) (extent_of e ys)
counts_both e xs ys = λ i. record { nodes = length-append xs ys i; cut = cuts_of_both (program_in e) e.depth xs ys i }

limited_after : (limit before nodes : ℕ) (c : Option Cause) (b : Bool) → nat_lt limit nodes ≡ b → before ≤ nodes → (c ≡ Some NodeLimit → limit < before) → cause_after limit nodes c ≡ Some NodeLimit → limit < nodes
limited_after limit before nodes None true is more was now = grind (arith, nat_tests)
limited_after limit before nodes None false is more was now = let none : None ≡ Some NodeLimit = subst (λ (z : Bool). (if z then Some NodeLimit else None) ≡ Some NodeLimit) is now in absurd (cc)
limited_after limit before nodes (Some c) b is more was now = let l = was now in omega arith

within_after : (limit nodes : ℕ) (c : Option Cause) (b : Bool) → nat_lt limit nodes ≡ b → cause_after limit nodes c ≡ None → nodes ≤ limit
within_after limit nodes None true is now = let none : Some NodeLimit ≡ None = subst (λ (z : Bool). (if z then Some NodeLimit else None) ≡ None) is now in absurd (cc)
within_after limit nodes None false is now = grind (arith, nat_tests)
within_after limit nodes (Some c) b is now = absurd (cc)

gives_add_up : (e : ExplorationSeen) (start : Job) (limit : ℕ) (s : Standing) (ticket : TicketSeen) (t : Standing) → AddsUp e start limit s → Gives e limit s ticket t → AddsUp e start limit t
gives_add_up e start limit s ticket t p h =
    let m = h.made_up in
    let u = after_give limit s (h.front ++ h.back) h.findings h.extent h.rest in
    let made : AddsUp e start limit u = record {
      visited = p.visited ++ m.visited;
      is_done = record {
        found = (λ i. merged_findings (p.is_done.found i) (m.is_done.found i)) ∙ sym (shows_both e p.visited m.visited);
        counted = (λ i. sum_of (p.is_done.counted i) (m.is_done.counted i)) ∙ sym (counts_both e p.visited m.visited);
      };
      made_up = subst (IsPermutation (nodes_of e start)) (sym (append_assoc p.visited m.visited (nodes_left e u)))
          (IsPermutation-trans _ _ _ p.made_up (IsPermutation-append_right p.visited _ _ (give_left e s.todo h.rest s.out h.front h.back ticket m.visited h.is_out m.made_up)));
      limited = limited_after limit s.extent.nodes (s.extent.nodes + h.extent.nodes) s.cause (nat_lt limit (s.extent.nodes + h.extent.nodes)) refl (omega arith) p.limited;
      within = within_after limit (s.extent.nodes + h.extent.nodes) s.cause (nat_lt limit (s.extent.nodes + h.extent.nodes)) refl;
    } in
    subst (AddsUp e start limit) (sym h.leaves) made

-- ---- lists of entries

stop_adds_up : (e : ExplorationSeen) (start : Job) (limit : ℕ) (s : Standing) → AddsUp e start limit s → AddsUp e start limit (stopped s)
stop_adds_up e start limit s p = record {
  visited = p.visited;
  is_done = p.is_done;
  made_up = p.made_up;
  limited = λ c. absurd (cc);
  within = λ c. absurd (cc);
}

step_adds_up : (e : ExplorationSeen) (start : Job) (limit : ℕ) (s : Standing) (x : Entry) (t : Standing) → AddsUp e start limit s → StepsBy e limit s x t → AddsUp e start limit t
step_adds_up e start limit s (Enters (Took number)) t p h = takes_add_up e start limit s h.0 t p h.2
step_adds_up e start limit s (Enters (Gave number)) t p h = gives_add_up e start limit s h.0 t p h.2
step_adds_up e start limit s Stops t p h = subst (AddsUp e start limit) (sym h.1) (stop_adds_up e start limit s p)

leads_add_up : (e : ExplorationSeen) (start : Job) (limit : ℕ) (xs : List Entry) (s t : Standing) → AddsUp e start limit s → Leads e limit s xs t → AddsUp e start limit t
leads_add_up e start limit [] s t p h = subst (AddsUp e start limit) (sym h) p
leads_add_up e start limit (x ∷ xs) s t p h = leads_add_up e start limit xs h.0 t (step_adds_up e start limit s x h.0 p h.1) h.2

pub legal_adds_up : LegalAddsUp
legal_adds_up e start limit xs s h = leads_add_up e start limit xs (opening start) s (opening_adds_up e start limit) h

-- ---- what that results in

to_contains : {X : Type 0} (xs : List X) (x : X) → IsAmong x xs → Contains xs x
to_contains [] x there = absurd there
to_contains (y ∷ ys) x (inl is) = (zero, omega arith, is)
to_contains (y ∷ ys) x (inr there) = let c : Contains ys x = to_contains ys x there in (suc c.0, omega (arith, c.1), c.2)

from_contains : {X : Type 0} (xs : List X) (x : X) (k : ℕ) → k < length xs → get_or xs k x ≡ x → IsAmong x xs
from_contains [] x k within is = absurd (omega arith)
from_contains (y ∷ ys) x zero within is = inl is
from_contains (y ∷ ys) x (suc k) within is = inr (from_contains ys x k (omega arith) is)

among_permuted : {X : Type 0} (xs ys : List X) (x : X) → IsPermutation xs ys → IsAmong x ys → IsAmong x xs
among_permuted xs ys x same there =
    let c : Contains xs x = Contains-permutation ys xs x (IsPermutation-sym xs ys same) (to_contains ys x there) in
    from_contains xs x c.0 c.1 c.2

shown_of : (e : ExplorationSeen) (start : Job) (test : Identity → Bool) (visited left : List Node) (fs : List Finding) → IsPermutation (nodes_of e start) (visited ++ left) → fs ≡ found test (program_in e) (schedules_of visited) → AreShown test e start fs
shown_of e start test visited left fs made_up is f there =
    let there_too : IsAmong f (found test (program_in e) (schedules_of visited)) = subst (IsAmong f) is there in
    let l : IsLeast (program_in e) (schedules_of visited) f = least test (program_in e) (schedules_of visited) f there_too in
    let schedule = λ (v : Node). v.schedule in
    let among : IsAmong f.schedule (schedules_of (visited ++ left)) = subst (IsAmong f.schedule) (sym (map_join schedule visited left)) (among_left (schedules_of visited) (schedules_of left) f.schedule l.is_among) in (
      found_passes test (program_in e) (schedules_of visited) f there_too,
      among_permuted (schedules_of (nodes_of e start)) (schedules_of (visited ++ left)) f.schedule (IsPermutation-map schedule (nodes_of e start) (visited ++ left) made_up) among,
      l.shows,
    )

pub all_shown : (e : ExplorationSeen) (start : Job) (limit : ℕ) (s : Standing) → AddsUp e start limit s → AreOfJob e start s.findings
all_shown e start limit s p = (
  shown_of e start (is_error e.flags) p.visited (nodes_left e s) s.findings.errors p.made_up (ap (λ (x : Findings). x.errors) p.is_done.found),
  shown_of e start is_refusal p.visited (nodes_left e s) s.findings.refusals p.made_up (ap (λ (x : Findings). x.refusals) p.is_done.found),
)

-- what nodes show does not depend on their order
pub shows_the_same : (e : ExplorationSeen) (xs ys : List Node) → IsPermutation xs ys → findings_of e xs ≡ findings_of e ys
shows_the_same e xs ys same = any_order e.flags (program_in e) (schedules_of xs) (schedules_of ys) (IsPermutation-map (λ (v : Node). v.schedule) xs ys same)

-- nor how many they are, and at how many of them the tree is cut
pub counts_the_same : (e : ExplorationSeen) (xs ys : List Node) → IsPermutation xs ys → extent_of e xs ≡ extent_of e ys
counts_the_same e xs ys same = λ i. record {
  nodes = sym (length_permutation xs ys same) i;
  cut = cuts_in_any_order (program_in e) e.depth (schedules_of xs) (schedules_of ys) (IsPermutation-map (λ (v : Node). v.schedule) xs ys same) i;
}

-- the tree is cut at no more nodes than were visited
pub done_fewer : (e : ExplorationSeen) (done : List Node) (f : Findings) (x : Extent) → IsDone e done f x → x.cut ≤ x.nodes
done_fewer e done f x is_done =
    let some = cuts_some (program_in e) e.depth (schedules_of done) in
    let fewer : (extent_of e done).cut ≤ (extent_of e done).nodes = omega (arith, some, length-map done (λ (v : Node). v.schedule)) in
    subst (λ (y : Extent). y.cut ≤ y.nodes) (sym is_done.counted) fewer

pub sums_up : (e : ExplorationSeen) (start : Job) (limit : ℕ) (s : Standing) → AddsUp e start limit s → SumsUp e start s
sums_up e start limit s p = record {
  found = shows_the_same e (nodes_of e start) (p.visited ++ nodes_left e s) p.made_up ∙ shows_both e p.visited (nodes_left e s) ∙ ap (λ f. merged_findings f (findings_of e (nodes_left e s))) (sym p.is_done.found);
  counted = counts_the_same e (nodes_of e start) (p.visited ++ nodes_left e s) p.made_up ∙ counts_both e p.visited (nodes_left e s) ∙ ap (λ x. sum_of x (extent_of e (nodes_left e s))) (sym p.is_done.counted);
  shown = all_shown e start limit s p;
}

pub legal_sums_up : LegalSumsUp
legal_sums_up e start limit xs s h = sums_up e start limit s (legal_adds_up e start limit xs s h)
