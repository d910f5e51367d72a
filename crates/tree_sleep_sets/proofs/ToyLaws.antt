-- The toy keeps the laws.
use Rattle.std.proofs.Common.{◌≡◌, inl, inr, ℕ, suc, Bool, true, false, not, ◌&&◌, List, [], ◌∷◌, Some, length, nat_lt, refl, sym, ap, ◌∙◌, subst, ◌<◌, arith}
use Rattle.std.proofs.lemmas.Bool.{ltb-true, lt-ltb}
use Rattle.tree_sleep_sets.specs.System.{Takes, Commute, Laws}
use Rattle.tree_sleep_sets.specs.Shown.{SignLaws}
use Rattle.tree_sleep_sets.specs.Search.{ChoiceLaws}
use Rattle.tree_sleep_sets.specs.Tree.{Includes}
use Rattle.tree_sleep_sets.specs.Toy.{stones, taken, other, both_players, players, Sign, Took as TookSign, EmptyBag, is_empty, signs}

-- what a step that is taken says
record Took (bag : ℕ) (w : List Bool) (a : Bool) (t : Takes (stones bag) w a) : Type 0 where
  has_room : nat_lt (length w) bag ≡ true
  is_event : t.event ≡ a
  is_world : t.world ≡ a ∷ w

some_is : {A : Type 0} (x y : A) → Some x ≡ Some y → x ≡ y
some_is x y e = cc

took_by : (b : Bool) (a : Bool) (w : List Bool) (e : Bool) (v : List Bool) → taken b a w ≡ Some (e, v) → (b ≡ true) × (e ≡ a) × (v ≡ a ∷ w)
took_by true a w e v is =
    let p : (a, a ∷ w) ≡ (e, v) = some_is {A = Bool × List Bool} _ _ is in
    (refl, sym (ap (λ (o : Bool × List Bool). o.0) p), sym (ap (λ (o : Bool × List Bool). o.1) p))
took_by false a w e v is = absurd cc

took : (bag : ℕ) (w : List Bool) (a : Bool) (t : Takes (stones bag) w a) → Took bag w a t
took bag w a t =
    let k : (nat_lt (length w) bag ≡ true) × (t.event ≡ a) × (t.world ≡ a ∷ w) = took_by (nat_lt (length w) bag) a w t.event t.world t.is_next in
    record { has_room = k.0; is_event = k.1; is_world = k.2 }

-- with room a step is taken
abbrev take : (bag : ℕ) (w : List Bool) (a : Bool) → nat_lt (length w) bag ≡ true → Takes (stones bag) w a
take bag w a h = record { event = a; world = a ∷ w; is_next = ap (λ b. taken b a w) h }

second : (a b : Bool) → (a && b) ≡ true → b ≡ true
second true b e = e
second false b e = absurd cc

toy_commute : (bag : ℕ) (w : List Bool) (a b : Bool) → nat_lt (suc (length w)) bag ≡ true → Commute (stones bag) w a b
toy_commute bag w a b h =
    let h1 : suc (length w) < bag = ltb-true (suc (length w)) bag h in
    let h0 : nat_lt (length w) bag ≡ true = lt-ltb (length w) bag (omega arith) in
    record {
      first = take bag w a h0;
      second = take bag w b h0;
      then_second = take bag (a ∷ w) b h;
      then_first = take bag (b ∷ w) a h;
      same_first = refl;
      same_second = refl;
      same_world = refl;
    }

pub toy_laws : (bag : ℕ) → Laws (stones bag)
toy_laws bag = record {
  real_next = λ w a wr t. tt;
  same_self = λ w. refl;
  same_chain = λ u v w p q. p ∙ q;
  same_enabled = λ v w a vr wr same t. take bag w a (ap (λ k. nat_lt k bag) (sym same) ∙ (took bag v a t).has_room);
  same_event = λ v w a vr wr same t u. (took bag v a t).is_event ∙ sym (took bag w a u).is_event;
  same_after = λ v w a vr wr same t u. ap length (took bag v a t).is_world ∙ ap suc same ∙ sym (ap length (took bag w a u).is_world);
  commute = λ w a b wr e. toy_commute bag w a b (second (other a b) _ e);
}

same_sign : (bag : ℕ) (v w : List Bool) (i : Sign) → length v ≡ length w → is_empty bag v i → is_empty bag w i
same_sign bag v w (TookSign player) same h = h
same_sign bag v w EmptyBag same h = sym same ∙ h

pub toy_signs : (bag : ℕ) → SignLaws (stones bag) (signs bag)
toy_signs bag = record { same_shown = same_sign bag }

both_among : (a : Bool) → Includes (true ∷ false ∷ []) a
both_among true = inl refl
both_among false = inr (inl refl)

same_player : (a b : Bool) → not (other a b) ≡ true → a ≡ b
same_player true true e = refl
same_player true false e = absurd cc
same_player false true e = absurd cc
same_player false false e = refl

pub toy_choice : (bag : ℕ) → ChoiceLaws (stones bag) (players bag)
toy_choice bag = record {
  has_enabled = λ w a wr t. subst (λ b. Includes (both_players b) a) (sym (took bag w a t).has_room) (both_among a);
  same_step = same_player;
}
