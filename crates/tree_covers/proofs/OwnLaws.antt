-- The lines that the search writes, node by node, and that their text is that of a good cover.
use Rattle.std.proofs.Common.{◌≡◌, ◌==◌, inl, ℕ, zero, suc, false, List, [], ◌∷◌, ◌++◌, map, Option, Some, None, refl, sym, ap, ◌∙◌, arith, append_assoc, append-nil}
use Rattle.std.specs.List.{AllByRecursion}
use Rattle.term_core.proofs.Pieces.{Lacks, all-append}
use Rattle.term_core.proofs.PidTexts.{lacks-pid}
use Rattle.term_core.specs.Schedule.{IsLawfulStep, AreLawful}
use Rattle.term_core.specs.Text.{text_of_pid, text_of_step, text_of_schedule}
use Rattle.term_core.specs.declared.step.Step.{Step}
use Rattle.term_core.specs.declared.step.Step.TheVariants.{Turn, Deliver}
use Rattle.world_model.specs.Asking.{program_of}
use Rattle.world_model.specs.Events.{Event, History}
use Rattle.world_model.specs.Requests.{Program}
use Rattle.world_model.specs.Run.{next_event}
use Rattle.tree_coverage.specs.Covers.{Lines, cover_of, lines_of}
use Rattle.tree_coverage.specs.Jobs.{Node, asleep_below, awake_steps, taken_steps, nodes_after, nodes_along, nodes_from, root}
use Rattle.tree_coverage.specs.NodeTexts.{IsLawfulNode}
use Rattle.tree_coverage.proofs.JobLaws.{map_join, none_left}
use Rattle.tree_coverage.proofs.NodeTexts.{nodes_have_texts}
use Rattle.tree_coverage.proofs.OwnCovers.{own_good}
use Rattle.tree_covers.specs.CoverLaws.{OwnTextsAreCovers}
use Rattle.tree_covers.specs.CoverText.{lines_in, text_of_lines, AreLawfulLines}
use Rattle.tree_covers.specs.Faults.{sleeping, place_after, places_along, places_under, places_below, root_place}
use Rattle.tree_covers.specs.Judging.{Place}
use Rattle.tree_covers.specs.inside.Owned.{own_lines, own_lines_of}
use Rattle.tree_covers.proofs.LineLaws.{line_and}

lines_join : (xs ys : List Node) → lines_of (xs ++ ys) ≡ lines_of xs ++ lines_of ys
lines_join xs ys = map_join (λ (v : Node). v.taken) xs ys

module _ (a : Program) where
  -- ---- the lines do not say which schedule leads to a node

  abbrev IsAnySchedule : ℕ → Type 0
  IsAnySchedule n = (h : History) (s t slept : List Step) → lines_of (nodes_from a n h s slept) ≡ lines_of (nodes_from a n h t slept)

  any_after : (n : ℕ) → IsAnySchedule n → (h : History) (s t slept : List Step) (o : Option Event) → lines_of (nodes_after (λ g. nodes_from a n g s slept) h o) ≡ lines_of (nodes_after (λ g. nodes_from a n g t slept) h o)
  any_after n any h s t slept None = refl
  any_after n any h s t slept (Some e) = any (e ∷ h) s t slept

  any_along : (n : ℕ) → IsAnySchedule n → (h : History) (s t slept steps : List Step) → lines_of (nodes_along (nodes_from a n) a h s slept steps) ≡ lines_of (nodes_along (nodes_from a n) a h t slept steps)
  any_along n any h s t slept [] = refl
  any_along n any h s t slept (x ∷ steps) =
      lines_join _ _
      ∙ (λ i. any_after n any h (s ++ x ∷ []) (t ++ x ∷ []) (asleep_below a h slept x) (next_event a h x) i ++ any_along n any h s t (slept ++ x ∷ []) steps i)
      ∙ sym (lines_join _ _)

  any_schedule : (n : ℕ) → IsAnySchedule n
  any_schedule zero h s t slept = refl
  any_schedule (suc n) h s t slept = ap (λ ls. awake_steps a h slept ∷ ls) (any_along n (any_schedule n) h s t slept (awake_steps a h slept))

  -- nor, at the depth, what sleeps
  any_sleep : (n : ℕ) (h : History) (slept : List Step) → own_lines a (record { history = h; slept = sleeping n slept; left = n }) ≡ own_lines a (record { history = h; slept = slept; left = n })
  any_sleep zero h slept = refl
  any_sleep (suc n) h slept = refl

  -- ---- node by node

  own_join : (us vs : List Place) → own_lines_of a (us ++ vs) ≡ own_lines_of a us ++ own_lines_of a vs
  own_join [] vs = refl
  own_join (u ∷ us) vs = ap (λ ls. own_lines a u ++ ls) (own_join us vs) ∙ sym (append_assoc (own_lines a u) (own_lines_of a us) (own_lines_of a vs))

  own_after : (n : ℕ) (h : History) (s slept : List Step) (o : Option Event) → lines_of (nodes_after (λ g. nodes_from a n g s slept) h o) ≡ own_lines_of a (place_after n slept h o)
  own_after n h s slept None = refl
  own_after n h s slept (Some e) = any_schedule n (e ∷ h) s [] slept ∙ sym (any_sleep n (e ∷ h) slept) ∙ sym (append-nil _)

  own_along : (n : ℕ) (h : History) (s slept steps : List Step) → lines_of (nodes_along (nodes_from a n) a h s slept steps) ≡ own_lines_of a (places_along a n h slept steps)
  own_along n h s slept [] = refl
  own_along n h s slept (x ∷ steps) =
      lines_join _ _
      ∙ (λ i. own_after n h (s ++ x ∷ []) (asleep_below a h slept x) (next_event a h x) i ++ own_along n h s (slept ++ x ∷ []) steps i)
      ∙ sym (own_join (place_after n (asleep_below a h slept x) h (next_event a h x)) (places_along a n h (slept ++ x ∷ []) steps))

  own_first : (n : ℕ) (h : History) (slept : List Step) → lines_of (nodes_from a n h [] slept) ≡ taken_steps a n h slept ∷ own_lines_of a (places_under a n h slept (taken_steps a n h slept))
  own_first zero h slept = refl
  own_first (suc n) h slept = ap (λ ls. awake_steps a h slept ∷ ls) (own_along n h [] slept (awake_steps a h slept))

  -- the line of the next node, and then those of the nodes below it and of the others
  pub own_next : (v : Place) (places : List Place) → own_lines_of a (v ∷ places) ≡ taken_steps a v.left v.history v.slept ∷ own_lines_of a (places_below a v (taken_steps a v.left v.history v.slept) ++ places)
  own_next v places =
      ap (λ ls. ls ++ own_lines_of a places) (own_first v.left v.history v.slept)
      ∙ ap (λ ls. taken_steps a v.left v.history v.slept ∷ ls) (sym (own_join (places_below a v (taken_steps a v.left v.history v.slept)) places))

  pub own_root : (n : ℕ) → own_lines_of a (root_place n ∷ []) ≡ lines_of (cover_of a n root)
  own_root n = append-nil _ ∙ ap (λ m. lines_of (nodes_from a m [] [] [])) (sym (none_left n))

-- ---- texts

lacks_step : (s : Step) → IsLawfulStep s → Lacks 10 (text_of_step s)
lacks_step (Turn p) h = lacks-pid 10 (inl (omega arith)) refl p h
lacks_step (Deliver p q) h =
    let behind : Lacks 10 (62 ∷ text_of_pid q) = (refl, lacks-pid 10 (inl (omega arith)) refl q h.1) in
    all-append (λ byte. (byte == 10) ≡ false) (text_of_pid p) (62 ∷ text_of_pid q) (lacks-pid 10 (inl (omega arith)) refl p h.0) behind

lacks_line : (steps : List Step) → AreLawful steps → Lacks 10 (text_of_schedule steps)
lacks_line [] h = tt
lacks_line (s ∷ []) h = lacks_step s h.0
lacks_line (s ∷ t ∷ steps) h =
    let behind : Lacks 10 (32 ∷ text_of_schedule (t ∷ steps)) = (refl, lacks_line (t ∷ steps) h.1) in
    all-append (λ byte. (byte == 10) ≡ false) (text_of_step s) (32 ∷ text_of_schedule (t ∷ steps)) (lacks_step s h.0) behind

-- the lines of a text are those that it was made of
pub lines_read : (lines : Lines) → AreLawfulLines lines → lines_in (text_of_lines lines) ≡ map text_of_schedule lines
lines_read [] h = refl
lines_read (line ∷ lines) h =
    ap lines_in (append_assoc (text_of_schedule line) (10 ∷ []) (text_of_lines lines))
    ∙ line_and (text_of_schedule line) (text_of_lines lines) (lacks_line line h.0)
    ∙ ap (λ ls. text_of_schedule line ∷ ls) (lines_read lines h.1)

lines_lawful : (vs : List Node) → AllByRecursion IsLawfulNode vs → AreLawfulLines (lines_of vs)
lines_lawful [] h = tt
lines_lawful (v ∷ vs) h = (h.0.1, lines_lawful vs h.1)

pub own_texts : OwnTextsAreCovers
own_texts counts m n fits none =
    let a : Program = program_of m in
    let lawful = lines_lawful (cover_of a n root) (nodes_have_texts m n root fits (omega arith)) in
    record {
      lines = lines_of (cover_of a n root);
      spells = record { lawful = lawful; spelt = lines_read (lines_of (cover_of a n root)) lawful };
      good = own_good counts a n none;
    }
