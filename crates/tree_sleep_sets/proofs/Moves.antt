-- An equivalent schedule runs too, to a world that agrees, with the same events.
use Rattle.std.proofs.Common.{◌≡◌, ◌⊎◌, inl, inr, suc, List, [], ◌∷◌, length, refl, sym, ap, ◌∙◌}
use Rattle.tree_sleep_sets.specs.System.{System, Takes, Commute, Laws}
use Rattle.tree_sleep_sets.specs.Schedules.{Runs, final, Equivalent, Itself, Swap, After, Chain}

-- an equivalent schedule is as long
pub same_length : (S : System) (w : S.World) (r s : List S.Step) → Equivalent S w r s → length r ≡ length s
same_length S w r s Itself = refl
same_length S w r s (Swap i) = refl
same_length S w r s (After {r = p} {s = q} t h) = ap suc (same_length S t.world p q h)
same_length S w r s (Chain {r = q} h k) = same_length S w r q h ∙ same_length S w q s k

module _ (S : System) (L : Laws S) where
  -- the event happens in the run
  abbrev pub Happens : (w : S.World) (s : List S.Step) → Runs S w s → S.Event → Type 0
  Happens w [] r e = ⊥
  Happens w (a ∷ s) r e = (r.0.event ≡ e) ⊎ Happens r.0.world s r.1 e

  -- what a run from one world becomes from another
  pub record Moved (v w : S.World) (r s : List S.Step) (run : Runs S v r) : Type 0 where
    pub runs : Runs S w s
    pub same_final : S.Same (final S v r run) (final S w s runs)
    pub happens : (e : S.Event) → Happens v r run e → Happens w s runs e

  -- after a step that both take, the rest moves over
  after : (v w : S.World) (a : S.Step) (t : Takes S v a) (u : Takes S w a) (r s : List S.Step) (run : Runs S t.world r) → t.event ≡ u.event → Moved t.world u.world r s run → Moved v w (a ∷ r) (a ∷ s) (t, run)
  after v w a t u r s run e m = record {
    runs = (u, m.runs);
    same_final = m.same_final;
    happens = λ d h. elim h [ inl p ↦ inl (sym e ∙ p) | inr q ↦ inr (m.happens d q) ];
  }

  -- a schedule runs from each world that agrees
  pub over : (v w : S.World) → S.IsReal v → S.IsReal w → S.Same v w → (s : List S.Step) (run : Runs S v s) → Moved v w s s run
  over v w vr wr same [] run = record { runs = tt; same_final = same; happens = λ e h. h }
  over v w vr wr same (a ∷ s) run =
      let u : Takes S w a = L.same_enabled v w a vr wr same run.0 in
      after v w a run.0 u s s run.1 (L.same_event v w a vr wr same run.0 u) (over run.0.world u.world (L.real_next v a vr run.0) (L.real_next w a wr u) (L.same_after v w a vr wr same run.0 u) s run.1)

  -- two takes of one step: the rest runs after both
  pub over_one : (w : S.World) → S.IsReal w → (a : S.Step) (t u : Takes S w a) (s : List S.Step) (run : Runs S t.world s) → Moved t.world u.world s s run
  over_one w wr a t u s run =
      over t.world u.world (L.real_next w a wr t) (L.real_next w a wr u) (L.same_after w w a wr wr (L.same_self w) t u) s run

  -- and have one event
  pub one_event : (w : S.World) → S.IsReal w → (a : S.Step) (t u : Takes S w a) → t.event ≡ u.event
  one_event w wr a t u = L.same_event w w a wr wr (L.same_self w) t u

  -- one after another
  moved_chain : (u v w : S.World) (q r s : List S.Step) (run : Runs S u q) (m : Moved u v q r run) → Moved v w r s m.runs → Moved u w q s run
  moved_chain u v w q r s run m n = record {
    runs = n.runs;
    same_final = L.same_chain _ _ _ m.same_final n.same_final;
    happens = λ e h. n.happens e (m.happens e h);
  }

  -- two neighbours that commute, in the other order
  swapped : (w : S.World) → S.IsReal w → (a b : S.Step) (c : Commute S w a b) (s : List S.Step) (run : Runs S w (a ∷ b ∷ s)) → Moved w w (a ∷ b ∷ s) (b ∷ a ∷ s) run
  swapped w wr a b c s run =
      let r1 : S.IsReal run.0.world = L.real_next w a wr run.0 in
      let r2 : S.IsReal c.first.world = L.real_next w a wr c.first in
      let r3 : S.IsReal c.second.world = L.real_next w b wr c.second in
      let first : S.Same run.0.world c.first.world = L.same_after w w a wr wr (L.same_self w) run.0 c.first in
      let second : S.Same run.1.0.world c.then_second.world = L.same_after _ _ b r1 r2 first run.1.0 c.then_second in
      let one : run.0.event ≡ c.first.event = one_event w wr a run.0 c.first in
      let other : run.1.0.event ≡ c.then_second.event = L.same_event _ _ b r1 r2 first run.1.0 c.then_second in
      let m : Moved run.1.0.world c.then_first.world s s run.1.1 = over run.1.0.world c.then_first.world (L.real_next _ b r1 run.1.0) (L.real_next _ a r3 c.then_first) (L.same_chain _ _ _ second c.same_world) s run.1.1 in
      record {
        runs = (c.second, (c.then_first, m.runs));
        same_final = m.same_final;
        happens = λ e h. elim h [
          | inl p ↦ inr (inl (sym (one ∙ c.same_first) ∙ p))
          | inr (inl p) ↦ inl (sym (other ∙ c.same_second) ∙ p)
          | inr (inr q) ↦ inr (inr (m.happens e q))
        ];
      }

  -- an equivalent schedule runs, to a world that agrees, with the same events
  pub moved : (w : S.World) → S.IsReal w → (r s : List S.Step) → Equivalent S w r s → (run : Runs S w r) → Moved w w r s run
  moved w wr r s Itself run = over w w wr wr (L.same_self w) r run
  moved w wr r s (Swap {a = a} {b = b} {s = q} i) run = swapped w wr a b (L.commute w a b wr i) q run
  moved w wr r s (After {a = a} {r = p} {s = q} t h) run =
      let m : Moved run.0.world t.world p p run.1 = over_one w wr a run.0 t p run.1 in
      after w w a run.0 t p q run.1 (one_event w wr a run.0 t) (moved_chain run.0.world t.world t.world p p q run.1 m (moved t.world (L.real_next w a wr t) p q h m.runs))
  moved w wr r s (Chain {r = q} h k) run =
      let m : Moved w w r q run = moved w wr r q h run in
      moved_chain w w w r q s run m (moved w wr q s k m.runs)

-- where independence is symmetric, so is equivalence
pub equivalent_back : (S : System) → ((w : S.World) (a b : S.Step) → S.independent w a b ≡ S.independent w b a) → (w : S.World) (r s : List S.Step) → Equivalent S w r s → Equivalent S w s r
equivalent_back S both w r s Itself = Itself
equivalent_back S both w r s (Swap {a = a} {b = b} i) = Swap (both w b a ∙ i)
equivalent_back S both w r s (After {r = p} {s = q} t h) = After t (equivalent_back S both t.world p q h)
equivalent_back S both w r s (Chain {r = q} h k) =
    Chain (equivalent_back S both w q s k) (equivalent_back S both w r q h)

-- where worlds that agree have the same steps independent, they have the same schedules equivalent
pub equivalent_over : (S : System) (L : Laws S) → ((v w : S.World) (a b : S.Step) → S.Same v w → S.independent v a b ≡ S.independent w a b) → (v w : S.World) → S.IsReal v → S.IsReal w → S.Same v w → (r s : List S.Step) → Equivalent S v r s → Equivalent S w r s
equivalent_over S L alike v w vr wr same r s Itself = Itself
equivalent_over S L alike v w vr wr same r s (Swap {a = a} {b = b} i) = Swap (sym (alike v w a b same) ∙ i)
equivalent_over S L alike v w vr wr same r s (After {a = a} {r = p} {s = q} t h) =
    let u : Takes S w a = L.same_enabled v w a vr wr same t in
    After u (equivalent_over S L alike t.world u.world (L.real_next v a vr t) (L.real_next w a wr u) (L.same_after v w a vr wr same t u) p q h)
equivalent_over S L alike v w vr wr same r s (Chain {r = q} h k) =
    Chain (equivalent_over S L alike v w vr wr same r q h) (equivalent_over S L alike v w vr wr same q s k)
