-- A step that is done as it was planned leaves what it changes.
use Rattle.std.proofs.Common.{◌≡◌, ◌∙◌, ◌+◌, ◌<◌, ℕ, Bool, true, false, true≢false, is_some, unwrap_or, if◌then◌else◌, List, [], ◌∷◌, ◌++◌, Option, Some, None, option_map, length, take, drop, get_or, refl, sym, ap, subst}
use Rattle.std.specs.Prelude.{IsSome}
use Rattle.core_tree.specs.Syntax.{ModuleTree}
use Rattle.term_core.specs.declared.step.Step.{Step}
use Rattle.world_model.specs.Cells.{Contents}
use Rattle.world_model.specs.Changes.{Change, SignalDelivered, after, changed}
use Rattle.world_model.specs.Events.{Deed, Signal}
use Rattle.world_model.specs.Names.{Pid}
use Rattle.world_model.specs.Requests.{Program}
use Rattle.world_model.specs.Steps.{changes_by, deed_delivered, next_deed}
use Rattle.std.proofs.lemmas.List.{take-append-drop}
use Rattle.world_records.specs.Changes.{CanApply, all_changes_in, changes_in}
use Rattle.world_records.specs.declared.change.Change as kept
use Rattle.world_planned.proofs.Adding.{all_both}
use Rattle.world_footprints.proofs.Writing.{all_rest, all_taken}
use Rattle.world_records.specs.Records.{Agrees}
use Rattle.world_records.specs.declared.records.Records.{Records}
use Rattle.world_footprints.specs.Plans.{IsNewFor, first_changes, first_of_delivery, other_changes, others_if}
use Rattle.world_plans.proofs.Applied.{applies}
use Rattle.world_plans.proofs.Turning.{in_order}

-- one list of changes after another
pub after_append : (ks ls : List Change) (v : Contents) → after (ks ++ ls) v ≡ after ls (after ks v)
after_append [] ls v = refl
after_append (k ∷ ks) ls v = after_append ks ls (changed k v)

pub can_first : (ks ls : List Change) (v : Contents) → CanApply v (ks ++ ls) → CanApply v ks
can_first [] ls v can = record {}
can_first (k ∷ ks) ls v can = (can.0, can_first ks ls (changed k v) can.1)

pub can_then : (ks ls : List Change) (v : Contents) → CanApply v (ks ++ ls) → CanApply (after ks v) ls
can_then [] ls v can = can
can_then (k ∷ ks) ls v can = can_then ks ls (changed k v) can.1

-- what comes first and the others together are what the step changes
pub performed : (m : ModuleTree) (new : Records) (a : Program) (v : Contents) (step : Step) (deed : Deed) (ks : List Change) → next_deed a v step ≡ Some deed → ks ≡ others_if v step (next_deed a v step)
    → Agrees m new (after ks (after (first_changes step deed) v)) → Agrees m new (after (changes_by v step deed) v)
performed m new a v step deed ks next is are =
    subst (λ u. Agrees m new u)
    (ap (λ ls. after ls (after (first_changes step deed) v)) (is ∙ ap (others_if v step) next) ∙ sym (after_append (first_changes step deed) (other_changes v step deed) v) ∙ ap (λ ls. after ls v) (sym (in_order v step deed))) are

pub can_perform : (a : Program) (v : Contents) (step : Step) (deed : Deed) (ks : List Change) → next_deed a v step ≡ Some deed → IsNewFor v step → ks ≡ others_if v step (next_deed a v step) → CanApply (after (first_changes step deed) v) ks
can_perform a v step deed ks next new is = subst (CanApply (after (first_changes step deed) v)) (sym (is ∙ ap (others_if v step) next)) (applies a v step deed next new)

-- one change more
pub applied_more : (m : ModuleTree) (old new : Records) (cs : List kept.Change) (i : ℕ) (k : kept.Change) (v : Contents) → i < length cs → k ≡ get_or cs i k → CanApply v (all_changes_in cs) → Agrees m old (after (all_changes_in (take i cs)) v)
    → ((u : Contents) → Agrees m old u → CanApply u (changes_in k) → Agrees m new (after (changes_in k) u)) → Agrees m new (after (all_changes_in (take (i + 1) cs)) v)
applied_more m old new cs i k v within at can are step =
    let before = all_changes_in (take i cs) in
    let rest = all_changes_in (drop (i + 1) cs) in
    let u = after before v in
    let whole : all_changes_in cs ≡ before ++ (changes_in k ++ rest) = ap all_changes_in (sym (take-append-drop i cs)) ∙ all_both (take i cs) (drop i cs) ∙ ap (λ ks. before ++ ks) (all_rest cs i k within at) in
    let can_now = can_first (changes_in k) rest u (can_then before (changes_in k ++ rest) v (subst (CanApply v) whole can)) in
    subst (λ w. Agrees m new w) (sym (ap (λ ks. after ks v) (all_taken cs i k within at) ∙ after_append before (changes_in k) v)) (step u are can_now)

-- ---- a delivery takes the signal that is there

pub fetches : (v : Contents) (s r : Pid) (lives : Bool) (o : Option Signal) (deed : Deed) → (if lives then deed_delivered v s r o else None) ≡ Some deed → IsSome o × (first_of_delivery s r deed ≡ SignalDelivered s r ∷ [])
fetches v s r true (Some x) deed e = (refl, ap (λ d. first_of_delivery s r (unwrap_or d deed)) (sym e))
fetches v s r true None deed e = absurd (true≢false (sym (ap is_some e)))
fetches v s r false o deed e = absurd (true≢false (sym (ap is_some e)))

pub is_there : {A B : Type 0} (f : A → B) (o : Option A) (x : Option B) → option_map f o ≡ x → IsSome x → IsSome o
is_there f (Some y) x e there = refl
is_there f None x e there = subst IsSome (sym e) there
