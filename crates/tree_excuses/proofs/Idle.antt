-- What counts of what is shown where no step is enabled, where servers have to be idle.
use Rattle.std.proofs.Common.{◌≡◌, ◌∙◌, ◌&&◌, ◌||◌, ◌++◌, Bool, true, false, not, List, [], ◌∷◌, refl, ap, if◌then◌else◌}
use Rattle.std.specs.List.{list_any}
use Rattle.world_model.specs.Events.{History}
use Rattle.world_model.specs.Names.{Pid}
use Rattle.world_model.specs.Run.{living}
use Rattle.world_model.specs.Shown.{Deadlock, Flags, deadlock_of, has_first, shown_at_rest, unread_by, unread_of, with_messages}
use Rattle.tree_coverage.specs.Covers.{is_empty}
use Rattle.tree_excuses.specs.Excuses.{Excuses, counts}

not_twice : (b : Bool) → not (not b) ≡ b
not_twice true = refl
not_twice false = refl

module _ (flags : Flags) (x : Excuses) (counted : flags.allow_deadlock ≡ false) (idle : flags.idle_servers ≡ true) (main : x.main_deadlock ≡ true) where
  -- a deadlock counts where the first process waits in it
  dead_counts : (ps : List Pid) → counts flags x (Deadlock ps) ≡ has_first ps
  dead_counts ps = (λ i. not (counted i) && not (main i && not (has_first ps))) ∙ not_twice (has_first ps)

  -- and unread messages in any case
  unread_counts : (unread : List Pid) → list_any (counts flags x) (unread_by unread) ≡ not (is_empty unread)
  unread_counts [] = refl
  unread_counts (p ∷ ps) = ap (λ (b : Bool). (b && true) || false) idle

  either_counts : (b : Bool) (unread : List Pid) → (b || list_any (counts flags x) (if b then [] else unread_by unread)) ≡ (b || not (is_empty unread))
  either_counts true unread = refl
  either_counts false unread = unread_counts unread

  rest_counts : (ps unread : List Pid) → list_any (counts flags x) (deadlock_of ps ++ unread_of ps unread) ≡ (has_first ps || not (is_empty unread))
  rest_counts [] unread = unread_counts unread
  rest_counts (p ∷ ps) unread =
      ap (λ (b : Bool). b || list_any (counts flags x) (unread_of (p ∷ ps) unread)) (dead_counts (p ∷ ps)) ∙ either_counts (has_first (p ∷ ps)) unread

pub rest_judged : (flags : Flags) (x : Excuses) (h : History) → flags.allow_deadlock ≡ false → flags.idle_servers ≡ true → x.main_deadlock ≡ true
    → list_any (counts flags x) (shown_at_rest [] h) ≡ (has_first (living h) || not (is_empty (with_messages h (living h))))
rest_judged flags x h counted idle main = rest_counts flags x counted idle main (living h) (with_messages h (living h))
