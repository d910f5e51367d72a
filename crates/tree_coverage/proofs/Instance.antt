-- The explored world keeps the laws of the theory.
use Rattle.std.proofs.Common.{◌≡◌, Bool, true, false, ◌&&◌, ◌||◌, not, ◌+◌, ◌∷◌, Option, Some, None, option_map, is_some, map, if◌then◌else◌, refl, sym, ap, ◌∙◌, subst}
use Rattle.std.specs.Ordering.{is_eq}
use Rattle.std.specs.declared.cmp.Ordering.{Ordering}
use Rattle.std.specs.declared.cmp.Ordering.TheVariants.{Less, Equal, Greater}
use Rattle.term_core.specs.StepOrder.{order_of_steps}
use Rattle.term_core.specs.inside.StepOrderLaws as order_laws
use Rattle.term_core.specs.declared.step.Step.{Step}
use Rattle.term_core.specs.declared.step.Step.TheVariants.{Turn, Deliver}
use Rattle.world_model.specs.Calls.{Call, Spawn, call_of}
use Rattle.world_model.specs.Cells.{Machine}
use Rattle.world_model.specs.Changes.{cell_of}
use Rattle.world_model.specs.Commuting.{Commutes, LeaveTheSame}
use Rattle.world_model.specs.Events.{Event, event, Deed, History, Served}
use Rattle.world_model.specs.Independence.{are_independent, footprint, one_meets, some_meet, written}
use Rattle.world_model.specs.Names.{Pid, same_pid, IsAmong}
use Rattle.world_model.specs.ProcessLines.{child_of}
use Rattle.world_model.specs.Requests.{Program}
use Rattle.world_model.specs.Run.{next_event, changes, enabled_steps}
use Rattle.world_model.specs.Shown.{request_in}
use Rattle.world_model.specs.Steps.{next_deed}
use Rattle.world_model.specs.ProcessHistory.{begun_in, begun_by_call, is_it, is_of_turn}
use Rattle.world_model.specs.World.{contents}
use Rattle.world_model.proofs.Histories.{independent_commute, leaves_others, step_is}
use Rattle.world_model.proofs.Lives.{turns_told}
use Rattle.world_model.proofs.Opened.{enabled_listed}
use Rattle.tree_sleep_sets.specs.Search.{ChoiceLaws}
use Rattle.tree_sleep_sets.specs.Shown.{SignLaws}
use Rattle.tree_sleep_sets.specs.System.{Takes, Commute, Laws}
use Rattle.tree_coverage.specs.Explored.{Happening, happening, recorded, explored, choice, signs}
use Rattle.tree_coverage.proofs.Lists.{both_first, both_second, to_theory}
use Rattle.world_model.proofs.StepLists.{same_next, same_after, same_at_rest}

some_is : {A : Type 0} (x y : A) → Some x ≡ Some y → x ≡ y
some_is x y e = cc

-- ---- what a step that is taken says

pub record Happened (a : Program) (h : History) (s : Step) (x : Happening) (g : History) : Type 0 where
  pub event : Event
  pub is_next : next_event a h s ≡ Some event
  pub is_happening : happening h event ≡ x
  pub is_world : event ∷ h ≡ g

by_event : (a : Program) (h : History) (s : Step) (o : Option Event) → next_event a h s ≡ o → (x : Happening) (g : History) → option_map (recorded h) o ≡ Some (x, g) → Happened a h s x g
by_event a h s None is x g now = absurd cc
by_event a h s (Some e) is x g now =
    let pair : recorded h e ≡ (x, g) = some_is {A = Happening × History} _ _ now in
    record { event = e; is_next = is; is_happening = ap (λ (o : Happening × History). o.0) pair; is_world = ap (λ (o : Happening × History). o.1) pair }

pub happened : (a : Program) (h : History) (s : Step) (t : Takes (explored a) h s) → Happened a h s t.event t.world
happened a h s t = by_event a h s (next_event a h s) refl t.event t.world t.is_next

abbrev pub take : (a : Program) (h : History) (s : Step) (e : Event) → next_event a h s ≡ Some e → Takes (explored a) h s
take a h s e is = record { event = happening h e; world = e ∷ h; is_next = ap (option_map (recorded h)) is }

-- ---- the number of the request of an event, by the course of its process

abbrev SameCourse : Step → History → History → Type 0
SameCourse (Turn p) h g = contents h (Machine p) ≡ contents g (Machine p)
SameCourse (Deliver s r) h g = Unit {0}

same_begun_by_call : (h g : History) (p : Pid) → contents h (Machine p) ≡ contents g (Machine p) → (call : Call) → begun_by_call h p call ≡ begun_by_call g p call
same_begun_by_call h g p same (Spawn way (Some origin)) = ap (λ m. Some (child_of p m)) same
same_begun_by_call h g p same call = refl

same_begun : (h g : History) (p : Pid) → contents h (Machine p) ≡ contents g (Machine p) → (d : Deed) → begun_in h (Turn p) d ≡ begun_in g (Turn p) d
same_begun h g p same (Served kind arguments answer) = same_begun_by_call h g p same (call_of kind arguments)
same_begun h g p same d = refl

same_request : (s : Step) (d : Deed) (h g : History) → SameCourse s h g → request_in s (event s d ∷ h) ≡ request_in s (event s d ∷ g)
same_request (Turn p) d h g same =
    turns_told h (event (Turn p) d) p
    ∙ (λ i. if is_it (same_begun h g p same d i) p then 0 else (if same_pid p p && is_of_turn d then (same i).turns + 1 else (same i).turns))
    ∙ sym (turns_told g (event (Turn p) d) p)
same_request (Deliver s r) d h g same = refl

not_true : (b : Bool) → not b ≡ true → b ≡ false
not_true true e = absurd cc
not_true false e = refl

left_false : (a b : Bool) → (a || b) ≡ false → a ≡ false
left_false false b e = refl
left_false true b e = e

-- a step that writes nothing that a turn reads leaves the course of its process
kept_course : (a : Program) (h : History) (s t : Step) (f : Event) → next_event a h t ≡ Some f → some_meet (footprint a h t).writes (footprint a h s).reads ≡ false → SameCourse s h (f ∷ h)
kept_course a h (Turn p) t f is apart =
    let cells : one_meets (map cell_of (changes h f)) (Machine p) ≡ false = ap (λ o. one_meets (written h o) (Machine p)) (sym is) ∙ left_false (one_meets (written h (next_event a h t)) (Machine p)) _ apart in
    sym (leaves_others h f (Machine p) cells)
kept_course a h (Deliver s r) t f is apart = tt

same_happening : (a : Program) (h : History) (s t : Step) (e f : Event) → s ≡ e.step → next_event a h t ≡ Some f → some_meet (footprint a h t).writes (footprint a h s).reads ≡ false → happening h e ≡ happening (f ∷ h) e
same_happening a h s t e f is next apart =
    let course : SameCourse e.step h (f ∷ h) = subst (λ x. SameCourse x h (f ∷ h)) is (kept_course a h s t f next apart) in
    λ i. record { event = e; request = same_request e.step e.deed h (f ∷ h) course i }

pub steps_commute : (a : Program) (h : History) (s t : Step) → are_independent a h s t ≡ true → Commute (explored a) h s t
steps_commute a h s t test =
    let k = independent_commute a h s t test in
    let e : Event = k.0 in
    let f : Event = k.1 in
    let c : Commutes a h e f = k.4 in
    let apart = both_second _ _ (both_second _ _ test) in
    let first : some_meet (footprint a h s).writes (footprint a h t).reads ≡ false = not_true _ (both_first _ _ apart) in
    let second : some_meet (footprint a h t).writes (footprint a h s).reads ≡ false = not_true _ (both_first _ _ (both_second _ _ apart)) in
    let se : s ≡ e.step = step_is s (next_deed a (contents h) s) e k.2 in
    let tf : t ≡ f.step = step_is t (next_deed a (contents h) t) f k.3 in
    record {
      first = take a h s e k.2;
      second = take a h t f k.3;
      then_second = take a (e ∷ h) t f (ap (next_event a (e ∷ h)) tf ∙ c.second_after_first);
      then_first = take a (f ∷ h) s e (ap (next_event a (f ∷ h)) se ∙ c.first_after_second);
      same_first = same_happening a h s t e f se k.3 second;
      same_second = sym (same_happening a h t s f e tf k.2 first);
      same_world = c.contents;
    }

-- ---- the laws

same_number : (s : Step) (h g : History) → LeaveTheSame h g → request_in s h ≡ request_in s g
same_number (Turn p) h g same = ap (λ m. m.turns) (same (Machine p))
same_number (Deliver s r) h g same = refl

same_event : (a : Program) (v w : History) (s : Step) → LeaveTheSame v w → (t : Takes (explored a) v s) (u : Takes (explored a) w s) → (happened a v s t).event ≡ (happened a w s u).event
same_event a v w s same t u = some_is _ _ (sym (happened a v s t).is_next ∙ same_next a v w same s ∙ (happened a w s u).is_next)

same_happened : (a : Program) (v w : History) (s : Step) → LeaveTheSame v w → (t : Takes (explored a) v s) (u : Takes (explored a) w s) → t.event ≡ u.event
same_happened a v w s same t u =
    let k : Happened a v s t.event t.world = happened a v s t in
    let l : Happened a w s u.event u.world = happened a w s u in
    sym k.is_happening
    ∙ (λ i. record { event = k.event; request = same_number k.event.step (k.event ∷ v) (k.event ∷ w) (same_after v w same k.event) i })
    ∙ ap (happening w) (same_event a v w s same t u)
    ∙ l.is_happening

same_world : (a : Program) (v w : History) (s : Step) → LeaveTheSame v w → (t : Takes (explored a) v s) (u : Takes (explored a) w s) → LeaveTheSame t.world u.world
same_world a v w s same t u =
    let k : Happened a v s t.event t.world = happened a v s t in
    let l : Happened a w s u.event u.world = happened a w s u in
    λ c. ap (λ g. contents g c) (sym k.is_world) ∙ same_after v w same k.event c ∙ ap (λ e. contents (e ∷ w) c) (same_event a v w s same t u) ∙ ap (λ g. contents g c) l.is_world

pub laws : (a : Program) → Laws (explored a)
laws a = record {
  real_next = λ h s real t. tt;
  same_self = λ h c. refl;
  same_chain = λ u v w p q c. p c ∙ q c;
  same_enabled = λ v w s vr wr same t. take a w s (happened a v s t).event (sym (same_next a v w same s) ∙ (happened a v s t).is_next);
  same_event = λ v w s vr wr same t u. same_happened a v w s same t u;
  same_after = λ v w s vr wr same t u. same_world a v w s same t u;
  commute = λ h s t real test. steps_commute a h s t test;
}

-- ---- choice and signs

equal_is : (o : Ordering) → is_eq o ≡ true → o ≡ Equal
equal_is Less e = absurd cc
equal_is Equal e = refl
equal_is Greater e = absurd cc

pub same_steps : (s t : Step) → is_eq (order_of_steps s t) ≡ true → s ≡ t
same_steps s t e = order_laws.same_step s t (equal_is (order_of_steps s t) e)

pub choice_laws : (a : Program) → ChoiceLaws (explored a) (choice a)
choice_laws a = record {
  has_enabled = λ h s real t. to_theory (enabled_steps a h) s (enabled_listed a h s (ap is_some (happened a h s t).is_next));
  same_step = same_steps;
}

pub sign_laws : (a : Program) → SignLaws (explored a) (signs a)
sign_laws a = record { same_shown = λ v w i same shows. subst (λ is. IsAmong i is) (same_at_rest a v w same) shows }
