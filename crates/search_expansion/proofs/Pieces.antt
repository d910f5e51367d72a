-- What one more visit does to what was done.
use Rattle.std.proofs.Common.{◌≡◌, ◌≤◌, ℕ, zero, suc, ◌+◌, Bool, true, false, cond, if◌then◌else◌, List, [], ◌∷◌, ◌++◌, length, Some, refl, sym, ap, ◌∙◌, subst, arith, append_assoc, append-nil, length-append}
use Rattle.std.proofs.lemmas.List.{length-map}
use Rattle.tree_findings.specs.Laws.{AddsSchedule}
use Rattle.tree_findings.specs.declared.extent.Extent.{Extent}
use Rattle.term_core.specs.declared.step.Step.{Step}
use Rattle.tree_cuts.specs.Cuts.{cut_count, is_cut}
use Rattle.tree_cuts.proofs.CutLaws.{cuts_of_both, cuts_some, nodes_tell}
use Rattle.world_model.specs.Requests.{Program}
use Rattle.world_model.specs.Names.{IsAmong}
use Rattle.world_model.specs.Run.{run, schedule_of}
use Rattle.world_model.specs.Shown.{Identity, Flags, is_error, is_refusal, shown}
use Rattle.tree_coverage.specs.Findings.{Finding, Findings, IsLeast, found, findings_among}
use Rattle.tree_coverage.specs.Jobs.{Job, Node, nodes_from, schedules_of}
use Rattle.tree_coverage.proofs.FindingLaws.{least}
use Rattle.tree_coverage.proofs.JobLaws.{map_join}
use Rattle.tree_coverage.proofs.Lists.{among_left}
use Rattle.search_jobs.specs.Explorations.{ExplorationSeen, JobSeen, program_in, nodes_of, nodes_of_all, findings_of}
use Rattle.search_jobs.specs.Meanings.{AreShown, AreOfJob}
use Rattle.search_jobs.specs.Pieces.{AreOf, IsPiece, extent_of}
use Rattle.search_expansion.specs.inside.Frames.{NodeSeen, FrameSeen, is_cut_at, own_node, nodes_of_node, nodes_of_frames, IsFrameOf, IsNodeOf, AreFramesOf, IsExploring, VisitsNext}
use Rattle.search_expansion.specs.inside.Walks.{BeginsWalk, frames_in}
use Rattle.search_expansion.specs.declared.walk.Walk.{Walk}
use Rattle.search_jobs.proofs.Passing.{found_passes}
use Rattle.search_jobs.proofs.Lists.{all_append, all_front, all_back}

pub all_join : (e : ExplorationSeen) (js ks : List JobSeen) → nodes_of_all e (js ++ ks) ≡ nodes_of_all e js ++ nodes_of_all e ks
all_join e [] ks = refl
all_join e (j ∷ js) ks =
    ap (λ vs. nodes_of e j.name ++ vs) (all_join e js ks) ∙ sym (append_assoc (nodes_of e j.name) (nodes_of_all e js) (nodes_of_all e ks))

-- ---- visits

-- a visit that adds what the node shows does so
pub node_adds : (e : ExplorationSeen) (v : NodeSeen) (flags : Flags) (f g : Findings) (done : List Node) → e.flags ≡ flags → v.program ≡ program_in e → run v.program (schedule_of v.history) ≡ Some v.history → AddsSchedule flags (schedule_of v.history) (shown v.program v.history) f g → f ≡ findings_of e done → g ≡ findings_of e (done ++ own_node v ∷ [])
node_adds e v flags f g done same belongs runs adds old =
    let s = schedule_of v.history in
    adds v.program (schedules_of done) v.history runs refl (old ∙ (λ i. findings_among (same i) (sym belongs i) (schedules_of done)))
    ∙ (λ i. findings_among (sym same i) (belongs i) (schedules_of done ++ s ∷ []))
    ∙ ap (findings_among e.flags (program_in e)) (sym (map_join (λ (v : Node). v.schedule) done (own_node v ∷ [])))

-- whether the tree is cut at a node is determined by it
pub node_cut : (e : ExplorationSeen) (v : NodeSeen) → IsNodeOf e v → run v.program (schedule_of v.history) ≡ Some v.history → is_cut_at v ≡ is_cut (program_in e) e.depth (schedule_of v.history)
node_cut e v belongs runs =
    sym (nodes_tell v.program e.depth v.left (schedule_of v.history) v.history runs belongs.deep)
    ∙ ap (λ (a : Program). is_cut a e.depth (schedule_of v.history)) belongs.program

-- ---- counts

cut_one : (a : Program) (n : ℕ) (s : List Step) (b : Bool) → b ≡ is_cut a n s → (if b then 1 else 0) ≡ cut_count a n (s ∷ [])
cut_one a n s true is = ap (λ (b : Bool). length (cond b (s ∷ []) [])) is
cut_one a n s false is = ap (λ (b : Bool). length (cond b (s ∷ []) [])) is

-- with one more node
pub extent_more : (e : ExplorationSeen) (done : List Node) (node : Node) (k l : Extent) (b : Bool) → k ≡ extent_of e done → b ≡ is_cut (program_in e) e.depth node.schedule → l ≡ record { nodes = k.nodes + 1; cut = k.cut + (if b then 1 else 0) } → l ≡ extent_of e (done ++ node ∷ [])
extent_more e done node k l b was is now =
    let a = program_in e in
    let nodes : k.nodes + 1 ≡ length (done ++ node ∷ []) = omega (arith, ap (λ (x : Extent). x.nodes) was, length-append done (node ∷ [])) in
    let cut : k.cut + (if b then 1 else 0) ≡ cut_count a e.depth (schedules_of (done ++ node ∷ [])) =
    (λ i. ap (λ (x : Extent). x.cut) was i + cut_one a e.depth node.schedule b is i) ∙ sym (cuts_of_both a e.depth done (node ∷ [])) in
    now ∙ (λ i. record { nodes = nodes i; cut = cut i })

-- at most as many cuts as nodes
pub extent_fits : (e : ExplorationSeen) (done : List Node) (k : Extent) → k ≡ extent_of e done → k.cut ≤ k.nodes
extent_fits e done k is =
    let few : cut_count (program_in e) e.depth (schedules_of done) ≤ length (schedules_of done) = cuts_some (program_in e) e.depth (schedules_of done) in
    omega (arith, ap (λ (x : Extent). x.cut) is, ap (λ (x : Extent). x.nodes) is, few, length-map done (λ (v : Node). v.schedule))

-- ---- the first visit
pub exploring_first : (e : ExplorationSeen) (name : Job) (f g : Findings) (w : Walk) (b : Bool) (l : Extent) → BeginsWalk e name f g w b → f ≡ findings_of e [] → l ≡ record { nodes = 1; cut = 0 + (if b then 1 else 0) } → IsExploring e name g l (frames_in w)
exploring_first e name f g w b l begins nothing now = record {
  done = begins.node ∷ [];
  is_done = record { found = begins.found nothing; counted = extent_more e [] begins.node (record { nodes = 0; cut = 0 }) l b refl begins.cut_is now };
  made_up = begins.nodes;
  are_of = begins.are_of;
}

-- the frame on top, and those below it
pub popped : (e : ExplorationSeen) (all fs : List FrameSeen) (frame : FrameSeen) → AreFramesOf e all → all ≡ fs ++ frame ∷ [] → IsFrameOf e frame × AreFramesOf e fs
popped e all fs frame belong is =
    let both : AreFramesOf e (fs ++ frame ∷ []) = subst (AreFramesOf e) is belong in
    ((all_back (IsFrameOf e) fs (frame ∷ []) both).0, all_front (IsFrameOf e) fs (frame ∷ []) both)

-- one more
pub exploring_more : (e : ExplorationSeen) (name : Job) (flags : Flags) (f g : Findings) (k l : Extent) (b : Bool) (fs hs : List FrameSeen) → IsExploring e name f k fs → e.flags ≡ flags → VisitsNext flags fs f hs g b → l ≡ record { nodes = k.nodes + 1; cut = k.cut + (if b then 1 else 0) } → IsExploring e name g l hs
exploring_more e name flags f g k l b fs hs x same next now = record {
  done = x.done ++ next.node ∷ [];
  is_done = record { found = next.found e x.done same x.are_of x.is_done.found; counted = extent_more e x.done next.node k l b x.is_done.counted (next.cut_is e x.are_of) now };
  made_up = x.made_up ∙ ap (λ vs. x.done ++ vs) next.nodes ∙ sym (append_assoc x.done (next.node ∷ []) (nodes_of_frames hs));
  are_of = next.are_of e x.are_of;
}

-- ---- the rest

-- a node has at least one
pub node_some : (v : NodeSeen) → 1 ≤ length (nodes_of_node v)
node_some v = go v.left
  where
    go : (n : ℕ) → 1 ≤ length (nodes_from v.program n v.history (schedule_of v.history) v.slept)
    go zero = omega arith
    go (suc n) = omega arith

-- one more job
pub rest_more : (e : ExplorationSeen) (rest more : List JobSeen) (fs gs : List FrameSeen) (job : JobSeen) (total : List Node) → nodes_of_all e rest ++ nodes_of_frames fs ≡ total → more ≡ rest ++ job ∷ [] → nodes_of_frames fs ≡ nodes_of e job.name ++ nodes_of_frames gs → nodes_of_all e more ++ nodes_of_frames gs ≡ total
rest_more e rest more fs gs job total whole pushed down =
    ap (λ js. nodes_of_all e js ++ nodes_of_frames gs) pushed
    ∙ ap (λ vs. vs ++ nodes_of_frames gs) (all_join e rest (job ∷ []) ∙ ap (λ vs. nodes_of_all e rest ++ vs) (append-nil (nodes_of e job.name)))
    ∙ append_assoc (nodes_of_all e rest) (nodes_of e job.name) (nodes_of_frames gs)
    ∙ ap (λ vs. nodes_of_all e rest ++ vs) (sym down) ∙ whole

pub rest_are_of : (e : ExplorationSeen) (rest more : List JobSeen) (job : JobSeen) → more ≡ rest ++ job ∷ [] → AreOf e rest → job.exploration ≡ e → AreOf e more
rest_are_of e rest more job pushed all own =
    subst (AreOf e) (sym pushed) (all_append (λ (j : JobSeen). j.exploration ≡ e) rest (job ∷ []) all (own, tt))

-- ---- what its findings are

shown_of : (e : ExplorationSeen) (name : Job) (test : Identity → Bool) (done more : List Node) (fs : List Finding) → nodes_of e name ≡ done ++ more → fs ≡ found test (program_in e) (schedules_of done) → AreShown test e name fs
shown_of e name test done more fs made_up is f there =
    let there_too : IsAmong f (found test (program_in e) (schedules_of done)) = subst (IsAmong f) is there in
    let l : IsLeast (program_in e) (schedules_of done) f = least test (program_in e) (schedules_of done) f there_too in (
      found_passes test (program_in e) (schedules_of done) f there_too,
      subst (IsAmong f.schedule) (sym (ap schedules_of made_up ∙ map_join (λ (v : Node). v.schedule) done more)) (among_left (schedules_of done) (schedules_of more) f.schedule l.is_among),
      l.shows,
    )

pub piece_shown : (e : ExplorationSeen) (name : Job) (f : Findings) (k : Extent) (rest : List JobSeen) → IsPiece e name f k rest → AreOfJob e name f
piece_shown e name f k rest p = (
  shown_of e name (is_error e.flags) p.done (nodes_of_all e rest) f.errors p.made_up (ap (λ (x : Findings). x.errors) p.is_done.found),
  shown_of e name is_refusal p.done (nodes_of_all e rest) f.refusals p.made_up (ap (λ (x : Findings). x.refusals) p.is_done.found),
)
