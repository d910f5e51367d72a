-- The stack of a walk: what a line puts on it, and what a child takes off.
use Rattle.std.proofs.Common.{◌≡◌, ◌⊎◌, inr, ◌-◌, ℕ, zero, suc, true, List, [], ◌∷◌, ◌++◌, reverse, Option, Some, None, refl, sym, ap, ◌∙◌, subst, arith, append_assoc, append-nil, is_some}
use Rattle.std.proofs.lemmas.List.{reverse-append, reverse-reverse}
use Rattle.std.specs.List.{AllByRecursion}
use Rattle.term_core.specs.declared.step.Step.{Step}
use Rattle.core_tree.specs.Syntax.{ModuleTree}
use Rattle.world_model.specs.Asking.{program_of}
use Rattle.world_model.specs.Events.{Event, History}
use Rattle.world_model.specs.Names.{IsAmong}
use Rattle.world_model.specs.Requests.{Program}
use Rattle.world_model.specs.Run.{next_event, extended, IsRun}
use Rattle.world_model.specs.Steps.{next_deed}
use Rattle.world_model.specs.World.{contents}
use Rattle.world_model.proofs.Histories.{step_is}
use Rattle.tree_covers.specs.Faults.{sleeping, place_after, places_along, places_under}
use Rattle.tree_covers.specs.Judging.{Place}
use Rattle.tree_coverage.specs.Jobs.{asleep_below}
use Rattle.tree_covers.specs.inside.Frames.{AreEnabled, AreFramesOf, FrameSeen, NodeSeen, place_of, places_of_frame, places_of_frames, places_of_root}

some_is : {X : Type 0} (x y : X) → Some x ≡ Some y → x ≡ y
some_is x y e = cc

-- ---- what happens next

-- what a step leads to has really happened too
pub goes_on : (a : Program) (h g : History) (s : Step) → IsRun a h → extended h (next_event a h s) ≡ Some g → IsRun a g
goes_on a h g s run now = go (next_event a h s) refl now
  where
    go : (o : Option Event) → next_event a h s ≡ o → extended h o ≡ Some g → IsRun a g
    go None is e = absurd cc
    go (Some e) is k = subst (IsRun a) (some_is (e ∷ h) g k) ((ap (next_event a h) (sym (step_is s (next_deed a (contents h) s) e is)) ∙ is, run))

-- the node of a step
pub place_is : (n : ℕ) (slept : List Step) (h g : History) (o : Option Event) → extended h o ≡ Some g → place_after n slept h o ≡ record { history = g; slept = sleeping n slept; left = n } ∷ []
place_is n slept h g None e = absurd cc
place_is n slept h g (Some e) k = ap (λ (f : History). (let v : Place = record { history = f; slept = sleeping n slept; left = n } in v) ∷ []) (some_is (e ∷ h) g k)

pub is_no_event : (o : Option Event) → is_some o ≡ true → o ≡ None → ⊥
is_no_event None e n = absurd cc
is_no_event (Some x) e n = absurd cc

-- ---- stacks

pub frames_push : (fs : List FrameSeen) (f : FrameSeen) → places_of_frames (fs ++ f ∷ []) ≡ places_of_frame f ++ places_of_frames fs
frames_push [] f = sym (append-nil (places_of_frame f))
frames_push (g ∷ fs) f = ap (λ vs. vs ++ places_of_frame g) (frames_push fs f) ∙ append_assoc (places_of_frame f) (places_of_frames fs) (places_of_frame g)

pub all_front : {X : Type 0} (P : X → Type 0) (xs ys : List X) → AllByRecursion P (xs ++ ys) → AllByRecursion P xs
all_front P [] ys h = tt
all_front P (x ∷ xs) ys h = (h.0, all_front P xs ys h.1)

pub all_back : {X : Type 0} (P : X → Type 0) (xs ys : List X) → AllByRecursion P (xs ++ ys) → AllByRecursion P ys
all_back P [] ys h = h
all_back P (x ∷ xs) ys h = all_back P xs ys h.1

-- ---- a line that is to be gone through from its end

pub line_reversed : (line after : List Step) (next : Step) → reverse line ≡ after ++ next ∷ [] → line ≡ next ∷ reverse after
line_reversed line after next e = sym (reverse-reverse line) ∙ ap reverse e ∙ reverse-append after (next ∷ [])

pub no_line : (line : List Step) → reverse line ≡ [] → line ≡ []
no_line line e = sym (reverse-reverse line) ∙ ap reverse e

pub under_none : (a : Program) (n : ℕ) (h : History) (slept : List Step) → places_under a n h slept [] ≡ []
under_none a zero h slept = refl
under_none a (suc n) h slept = refl

pub under_some : (a : Program) (n : ℕ) (h : History) (slept line : List Step) → (n ≡ 0 → ⊥) → places_under a n h slept line ≡ places_along a (n - 1) h slept line
under_some a zero h slept line some = absurd (some refl)
under_some a (suc n) h slept line some = let less : suc n - 1 ≡ n = omega arith in ap (λ m. places_along a m h slept line) (sym less)

-- ---- the frame on top, and those below it

pub popped_are_of : (m : ModuleTree) (all fs : List FrameSeen) (f : FrameSeen) → all ≡ fs ++ f ∷ [] → AreFramesOf m all → (f.program ≡ m) × AreFramesOf m fs
popped_are_of m all fs f is belong =
    let both : AreFramesOf m (fs ++ f ∷ []) = subst (AreFramesOf m) is belong in
    ((all_back (λ (g : FrameSeen). g.program ≡ m) fs (f ∷ []) both).0, all_front (λ (g : FrameSeen). g.program ≡ m) fs (f ∷ []) both)

pub pushed_are_of : (m : ModuleTree) (fs : List FrameSeen) (f : FrameSeen) → f.program ≡ m → AreFramesOf m fs → AreFramesOf m (fs ++ f ∷ [])
pushed_are_of m [] f is all = (is, tt)
pushed_are_of m (g ∷ fs) f is all = (all.0, pushed_are_of m fs f is all.1)

-- ---- a frame that is put on the stack

pub pushed_places : (m : ModuleTree) (h : History) (slept line whole : List Step) (left : ℕ) (fs gs : List FrameSeen) → (left ≡ 0 → ⊥) → whole ≡ line → gs ≡ fs ++ record { program = m; history = h; slept = slept; line = line; left = left - 1 } ∷ [] → places_of_frames gs ≡ places_under (program_of m) left h slept whole ++ places_of_frames fs
pushed_places m h slept line whole left fs gs some is now =
    ap places_of_frames now
    ∙ frames_push fs (record { program = m; history = h; slept = slept; line = line; left = left - 1 })
    ∙ ap (λ vs. vs ++ places_of_frames fs) (sym (under_some (program_of m) left h slept line some) ∙ ap (places_under (program_of m) left h slept) (sym is))

-- ---- the child that is taken next

-- the node of a step that was taken is the place of that step
first_place : (a : Program) (n : ℕ) (h : History) (slept : List Step) (s : Step) (v : NodeSeen) → extended h (next_event a h s) ≡ Some v.history → v.slept ≡ sleeping n (asleep_below a h slept s) → v.left ≡ n → place_after n (asleep_below a h slept s) h (next_event a h s) ≡ place_of v ∷ []
first_place a n h slept s v happens asleep left =
    place_is n (asleep_below a h slept s) h v.history (next_event a h s) happens
    ∙ ap (λ (steps : List Step). (let u : Place = record { history = v.history; slept = steps; left = n } in u) ∷ []) (sym asleep)
    ∙ ap (λ (m : ℕ). (let u : Place = record { history = v.history; slept = v.slept; left = m } in u) ∷ []) (sym left)

-- the places along a line, where the node of its first step is known
pub next_place : (a : Program) (n : ℕ) (h : History) (slept rest : List Step) (s : Step) (v : NodeSeen) → extended h (next_event a h s) ≡ Some v.history → v.slept ≡ sleeping n (asleep_below a h slept s) → v.left ≡ n → places_along a n h slept (s ∷ rest) ≡ place_of v ∷ places_along a n h (slept ++ s ∷ []) rest
next_place a n h slept rest s v happens asleep left = ap (λ vs. vs ++ places_along a n h (slept ++ s ∷ []) rest) (first_place a n h slept s v happens asleep left)

pub last_child : (a : Program) (n : ℕ) (h : History) (slept after : List Step) (s : Step) (v : NodeSeen) (vs : List Place) → after ≡ [] → extended h (next_event a h s) ≡ Some v.history → v.slept ≡ sleeping n (asleep_below a h slept s) → v.left ≡ n → places_along a n h slept (s ∷ reverse after) ++ vs ≡ place_of v ∷ vs
last_child a n h slept after s v vs none happens asleep left =
    ap (λ steps. places_along a n h slept (s ∷ reverse steps) ++ vs) none
    ∙ ap (λ us. us ++ vs) (next_place a n h slept [] s v happens asleep left)

-- a line that is gone through from its end, without its last step
pub without_last : (after others : List Step) (following : Step) → after ≡ others ++ following ∷ [] → reverse after ≡ following ∷ reverse others
without_last after others following is = ap reverse is ∙ reverse-append others (following ∷ [])

pub other_child : (m : ModuleTree) (n : ℕ) (h : History) (slept more after others : List Step) (s following : Step) (v : NodeSeen) (fs gs : List FrameSeen) → after ≡ others ++ following ∷ [] → more ≡ slept ++ s ∷ [] → gs ≡ fs ++ record { program = m; history = h; slept = more; line = following ∷ reverse others; left = n } ∷ [] → extended h (next_event (program_of m) h s) ≡ Some v.history → v.slept ≡ sleeping n (asleep_below (program_of m) h slept s) → v.left ≡ n → places_along (program_of m) n h slept (s ∷ reverse after) ++ places_of_frames fs ≡ place_of v ∷ places_of_frames gs
other_child m n h slept more after others s following v fs gs is longer now happens asleep left =
    ap (λ vs. vs ++ places_of_frames fs) (next_place (program_of m) n h slept (reverse after) s v happens asleep left)
    ∙ ap (λ vs. place_of v ∷ (vs ++ places_of_frames fs)) (ap (places_along (program_of m) n h (slept ++ s ∷ [])) (without_last after others following is) ∙ ap (λ steps. places_along (program_of m) n h steps (following ∷ reverse others)) (sym longer))
    ∙ ap (λ vs. place_of v ∷ vs) (sym (ap places_of_frames now ∙ frames_push fs (record { program = m; history = h; slept = more; line = following ∷ reverse others; left = n })))

-- the steps of the other children can be taken too
pub others_enabled : (a : Program) (h : History) (after others : List Step) (s following : Step) → after ≡ others ++ following ∷ [] → AreEnabled a h (s ∷ reverse after) → AreEnabled a h (following ∷ reverse others)
others_enabled a h after others s following is able = λ step among. able step (inr (subst (IsAmong step) (sym (without_last after others following is)) among))

-- what a walk leaves, where its next node is that of the frame on top
pub taken : (all fs gs : List FrameSeen) (f : FrameSeen) (v : Place) (root : Option NodeSeen) → all ≡ fs ++ f ∷ [] → places_of_frame f ++ places_of_frames fs ≡ v ∷ places_of_frames gs → places_of_frames all ++ places_of_root root ≡ v ∷ (places_of_frames gs ++ places_of_root root)
taken all fs gs f v root is next = ap (λ vs. vs ++ places_of_root root) (ap places_of_frames is ∙ frames_push fs f ∙ next)
