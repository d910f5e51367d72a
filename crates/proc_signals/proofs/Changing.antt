-- What the calls of a list of channels leave.
use Rattle.std.proofs.Common.{◌≡◌, ◌≢◌, ◌<◌, ◌≤◌, ℕ, List, [], ◌∷◌, ◌++◌, Some, length, get_or, drop, slice_set, insert, refl, sym, ap, ◌∙◌, subst}
use Rattle.std.proofs.lemmas.List.{set-get_or}
use Rattle.std.specs.List.{AllWithin, HoldsAt, remove}
use Rattle.std.specs.declared.cmp.Ordering.TheVariants.{Less}
use Rattle.world_model.specs.Events.{Signal}
use Rattle.world_model.specs.Names.{Pid}
use Rattle.world_model.specs.Signals.{first_of}
use Rattle.proc_signals.specs.Channels.{Senders, between, signals_in, IsChangedBetween, order_of_pairs}
use Rattle.proc_signals.proofs.Places.{Channel, AreInOrder, between_at, set_changed, remove_changed, insert_changed, set_sorted, insert_sorted, remove_sorted}

-- the channel from s to r is at a place of channels in order
pub record IsAt (s r : Pid) (cs : Senders) (at : ℕ) (x : Channel) : Type 0 where
  pub within : at < length cs
  pub is : x ≡ get_or cs at x
  pub pair : x.0 ≡ (s, r)
  pub sorted : AreInOrder cs

pub placed : (s r : Pid) (zs cs : Senders) (at : ℕ) (x : Channel) → zs ≡ cs → at < length zs → HoldsAt (λ c. c.0 ≡ (s, r)) zs at → x ≡ get_or cs at x → AreInOrder cs → IsAt s r cs at x
placed s r zs cs at x same within there is sorted = record {
  within = subst (λ (ds : Senders). at < length ds) same within;
  is = is;
  pair = ap (λ (y : Channel). y.0) is ∙ subst (λ (ds : Senders). HoldsAt (λ c. c.0 ≡ (s, r)) ds at) same there x;
  sorted = sorted;
}

module _ (s r : Pid) (cs now : Senders) (at : ℕ) (x : Channel) where
  pub signals_there : IsAt s r cs at x → cs ≡ now → signals_in x.1 ≡ between now s r
  signals_there there view = sym (between_at s r cs at x there.within there.is there.pair there.sorted) ∙ ap (λ (ds : Senders). between ds s r) view

  pub oldest_there : IsAt s r cs at x → cs ≡ now → (m : Signal) → m ≡ x.1.0 → Some m ≡ first_of (between now s r)
  oldest_there there view m is = ap Some is ∙ ap first_of (signals_there there view)

  changed_from : (f : List Signal → List Signal) (after : Senders) → cs ≡ now → IsChangedBetween s r f cs after → IsChangedBetween s r f now after
  changed_from f after view changed = subst (λ (ds : Senders). IsChangedBetween s r f ds after) view changed

  pub pushed_there : IsAt s r cs at x → cs ≡ now → (y : Channel) (m : Signal) → y.0 ≡ x.0 → y.1 ≡ (x.1.0, x.1.1 ++ m ∷ []) → IsChangedBetween s r (λ xs. xs ++ m ∷ []) now (slice_set cs at y)
  pushed_there there view y m same new =
      changed_from (λ xs. xs ++ m ∷ []) (slice_set cs at y) view (set_changed (λ xs. xs ++ m ∷ []) s r cs at x y there.within there.is there.pair same (ap signals_in new) there.sorted)

  pub taken_there : IsAt s r cs at x → cs ≡ now → (y : Channel) → y.0 ≡ x.0 → x.1.1 ≡ y.1.0 ∷ y.1.1 → IsChangedBetween s r (drop 1) now (slice_set cs at y)
  taken_there there view y same rest =
      changed_from (drop 1) (slice_set cs at y) view (set_changed (drop 1) s r cs at x y there.within there.is there.pair same (sym rest) there.sorted)

  pub closed_there : IsAt s r cs at x → cs ≡ now → x.1.1 ≡ [] → (after : Senders) → after ≡ remove cs at → IsChangedBetween s r (drop 1) now after
  closed_there there view single after is =
      subst (λ (ds : Senders). IsChangedBetween s r (drop 1) now ds) (sym is)
      (changed_from (drop 1) (remove cs at) view (remove_changed (drop 1) s r cs at x there.within there.is there.pair single there.sorted))

  pub same_there : IsAt s r cs at x → cs ≡ now → (y : Channel) → y.0 ≡ x.0 → y.1 ≡ x.1 → slice_set cs at y ≡ now
  same_there there view y pair queue =
      let same : y ≡ x = λ i. (pair i, queue i) in
      ap (slice_set cs at) (same ∙ there.is) ∙ set-get_or cs at x ∙ view

  pub set_there : IsAt s r cs at x → (y : Channel) → y.0 ≡ x.0 → AreInOrder (slice_set cs at y)
  set_there there y pair = set_sorted cs at x y there.is pair there.sorted

  pub closed_sorted : IsAt s r cs at x → (after : Senders) → after ≡ remove cs at → AreInOrder after
  closed_sorted there after is = subst AreInOrder (sym is) (remove_sorted cs at there.sorted)

  pub replaced_there : IsAt s r cs at x → cs ≡ now → (y : Channel) → y.0 ≡ (s, r) → IsChangedBetween s r (λ _. signals_in y.1) now (slice_set cs at y)
  replaced_there there view y pair =
      changed_from (λ _. signals_in y.1) (slice_set cs at y) view (set_changed (λ _. signals_in y.1) s r cs at x y there.within there.is there.pair (pair ∙ sym there.pair) refl there.sorted)

  pub removed_there : IsAt s r cs at x → cs ≡ now → (after : Senders) → after ≡ remove cs at → IsChangedBetween s r (λ _. []) now after
  removed_there there view after is =
      subst (λ (ds : Senders). IsChangedBetween s r (λ _. []) now ds) (sym is)
      (changed_from (λ _. []) (remove cs at) view (remove_changed (λ _. []) s r cs at x there.within there.is there.pair refl there.sorted))

-- ---- where there is no channel yet

module _ (s r : Pid) (zs cs : Senders) (at : ℕ) (x : Channel) (after : Senders) where
  pub put_in : (f : List Signal → List Signal) (now : Senders) → zs ≡ cs → cs ≡ now → at ≤ length zs → x.0 ≡ (s, r) → signals_in x.1 ≡ f [] → between now s r ≡ [] → after ≡ insert cs at x → IsChangedBetween s r f now after
  put_in f now same view within pair new none is =
      subst (λ (ds : Senders). IsChangedBetween s r f now ds) (ap (λ (ds : Senders). insert ds at x) (sym view) ∙ sym is)
      (insert_changed f s r now at x (subst (λ (ds : Senders). at ≤ length ds) (same ∙ view) within) pair new none)

  pub opened : (now : Senders) (m : Signal) → zs ≡ cs → cs ≡ now → at ≤ length zs → x ≡ ((s, r), (m, [])) → between now s r ≡ [] → after ≡ insert cs at x → IsChangedBetween s r (λ xs. xs ++ m ∷ []) now after
  opened now m same view within new none is =
      put_in (λ xs. xs ++ m ∷ []) now same view within (ap (λ (y : Channel). y.0) new) (ap (λ (y : Channel). signals_in y.1) new) none is

  pub opened_sorted : zs ≡ cs → at ≤ length zs → AllWithin (λ c. order_of_pairs c.0 (s, r) ≡ Less) zs 0 at → (at < length zs → HoldsAt (λ c. order_of_pairs c.0 (s, r) ≢ Less) zs at) → x.0 ≡ (s, r) → between cs s r ≡ [] → AreInOrder cs → after ≡ insert cs at x → AreInOrder after
  opened_sorted same within below above pair none sorted is =
      let under : AllWithin (λ c. order_of_pairs c.0 x.0 ≡ Less) zs 0 at = subst (λ (k : Pid × Pid). AllWithin (λ (c : Channel). order_of_pairs c.0 k ≡ Less) zs 0 at) (sym pair) below in
      let over : at < length zs → HoldsAt (λ c. order_of_pairs c.0 x.0 ≢ Less) zs at = subst (λ (k : Pid × Pid). at < length zs → HoldsAt (λ (c : Channel). order_of_pairs c.0 k ≢ Less) zs at) (sym pair) above in
      subst AreInOrder (ap (λ (ds : Senders). insert ds at x) same ∙ sym is)
      (insert_sorted zs at x within under over (ap (λ k. between zs k.0 k.1) pair ∙ ap (λ (ds : Senders). between ds s r) same ∙ none) (subst AreInOrder (sym same) sorted))
