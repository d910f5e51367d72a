-- Each schedule has a node.
use Rattle.std.proofs.Common.{◌≡◌, ◌⊎◌, inl, inr, ℕ, zero, suc, ◌≤◌, ◌<◌, true, List, [], ◌∷◌, ◌++◌, map, length, ap, ◌∙◌, arith, append_assoc}
use Rattle.tree_sleep_sets.specs.System.{System, Takes, Laws}
use Rattle.tree_sleep_sets.specs.Schedules.{Runs, Equivalent, Itself, Swap, After, Chain}
use Rattle.tree_sleep_sets.specs.Tree.{Plan, Child, asleep, IsPath, IsWhole, Includes}
use Rattle.tree_sleep_sets.proofs.Among.{among_append, among_filter, Split, split}
use Rattle.tree_sleep_sets.proofs.Moves.{Moved, over_one, moved, same_length}

module _ (S : System) (P : Plan S) (L : Laws S) where
  -- a node below a place has an equivalent path
  pub record Found (n : ℕ) (x : P.Place) (w : S.World) (slept s : List S.Step) : Type 0 where
    pub path : List S.Step
    pub is_path : IsPath S P n x w slept path
    pub is_equivalent : Equivalent S w s path

  -- an equivalent schedule begins with a step that sleeps
  pub record Sleeps (w : S.World) (slept s : List S.Step) : Type 0 where
    pub step : S.Step
    pub rest : List S.Step
    pub is_asleep : Includes slept step
    pub is_equivalent : Equivalent S w s (step ∷ rest)

  -- the rest of a schedule runs after its first step
  rest_runs : (w : S.World) → S.IsReal w → (s : List S.Step) (a : S.Step) (t : Takes S w a) (v : List S.Step) → Equivalent S w s (a ∷ v) → Runs S w s → Runs S t.world v
  rest_runs w wr s a t v e run =
      let m : Moved S L w w s (a ∷ v) run = moved S L w wr s (a ∷ v) e run in
      (over_one S L w wr a m.runs.0 t v m.runs.1).runs

  -- the place itself is a node
  pub here : (n : ℕ) (x : P.Place) (w : S.World) (slept : List S.Step) → IsPath S P n x w slept []
  here zero x w slept = tt
  here (suc n) x w slept = tt

  shorter : (w : S.World) (b a : S.Step) (s v : List S.Step) (n : ℕ) → length (b ∷ s) ≤ suc n → Equivalent S w (b ∷ s) (a ∷ v) → length v ≤ n
  shorter w b a s v n short e = omega (arith, same_length S w (b ∷ s) (a ∷ v) e)

  -- a child for a step that comes in the line before another's
  abbrev earlier : (x : P.Place) (w : S.World) (slept : List S.Step) (a b : S.Step) (c : Child S P x w slept a) (s : Split c.before b) → Takes S w b → Child S P x w slept b
  earlier x w slept a b c s t = record {
    before = s.before;
    place = s.other;
    after = s.after ++ (a, c.place) ∷ c.after;
    is_in_line = c.is_in_line ∙ ap (λ cs. cs ++ (a, c.place) ∷ c.after) s.is ∙ append_assoc s.before ((b, s.other) ∷ s.after) ((a, c.place) ∷ c.after);
    takes = t;
  }

  -- what comes of a schedule at a place
  abbrev Outcome : ℕ → P.Place → S.World → List S.Step → List S.Step → Type 0
  Outcome n x w slept s = Found n x w slept s ⊎ Sleeps w slept s

  -- a schedule that can begin with a step that is taken: it is found there, or can begin with a step that sleeps or is taken before
  tried : (n : ℕ) (x : P.Place) (w : S.World) → S.IsReal w → (slept s : List S.Step) (a : S.Step) (c : Child S P x w slept a) (v : List S.Step) → Equivalent S w s (a ∷ v) → Outcome n c.place c.takes.world (asleep S P w slept c.before a) v → ((b : S.Step) (d : Child S P x w slept b) (u : List S.Step) → length d.before < length c.before → Equivalent S w s (b ∷ u) → Outcome (suc n) x w slept s) → Outcome (suc n) x w slept s
  tried n x w wr slept s a c v e (inl f) again =
      inl (record { path = a ∷ f.path; is_path = (c, f.is_path); is_equivalent = Chain e (After c.takes f.is_equivalent) })
  tried n x w wr slept s a c v e (inr z) again =
      let h : (S.independent w a z.step ≡ true) × Includes (slept ++ map (λ d. d.0) c.before) z.step = among_filter (S.independent w a) _ z.step z.is_asleep in
      let g : Equivalent S w s (z.step ∷ a ∷ z.rest) = Chain e (Chain (After c.takes z.is_equivalent) (Swap h.0)) in
      elim (among_append slept (map (λ d. d.0) c.before) z.step h.1) [
        | inl k ↦ inr (record { step = z.step; rest = a ∷ z.rest; is_asleep = k; is_equivalent = g })
        | inr k ↦
            let b : Split c.before z.step = split c.before z.step k in
            again z.step (earlier x w slept a z.step c b (L.commute w a z.step wr h.0).second) (a ∷ z.rest) b.shorter g
      ]

  -- that many steps before it in the line at most
  walked : (n : ℕ) (x : P.Place) (w : S.World) → S.IsReal w → (slept s : List S.Step) → ((a : S.Step) (c : Child S P x w slept a) (v : List S.Step) → Equivalent S w s (a ∷ v) → Outcome n c.place c.takes.world (asleep S P w slept c.before a) v) → (k : ℕ) (a : S.Step) (c : Child S P x w slept a) (v : List S.Step) → length c.before ≤ k → Equivalent S w s (a ∷ v) → Outcome (suc n) x w slept s
  walked n x w wr slept s below zero a c v h e = tried n x w wr slept s a c v e (below a c v e) (λ b d u less g. absurd (omega arith))
  walked n x w wr slept s below (suc k) a c v h e =
      tried n x w wr slept s a c v e (below a c v e) (λ b d u less g. walked n x w wr slept s below k b d u (omega arith) g)

  -- each schedule that runs is found, or can begin with a step that sleeps
  pub covered : (n : ℕ) (x : P.Place) (w : S.World) → S.IsReal w → (slept : List S.Step) → IsWhole S P n x w slept → (s : List S.Step) → length s ≤ n → Runs S w s → Outcome n x w slept s
  covered n x w wr slept whole [] short run = inl (record { path = []; is_path = here n x w slept; is_equivalent = Itself })
  covered zero x w wr slept whole (b ∷ s) short run = absurd (omega arith)
  covered (suc n) x w wr slept whole (b ∷ s) short run =
      elim (whole.0 b run.0) [
        | inl c ↦ walked n x w wr slept (b ∷ s) (λ a d v e. covered n d.place d.takes.world (L.real_next w a wr d.takes) (asleep S P w slept d.before a) (whole.1 a d) v (shorter w b a s v n short e) (rest_runs w wr (b ∷ s) a d.takes v e run)) (length c.before) b c s (omega arith) Itself
        | inr h ↦ inr (record { step = b; rest = s; is_asleep = h; is_equivalent = Itself })
      ]
