-- The last frame of a stack.
use Rattle.std.proofs.Common.{◌≡◌, inl, inr, ◌∙◌, ℕ, ◌-◌, List, [], ◌∷◌, ◌++◌, length, reverse, refl, sym, ap, subst, arith, slice_index_or, slice_set, take, length-append}
use Rattle.std.proofs.lemmas.List.{reverse-append, set_at}
use Rattle.std.proofs.Math.Seq.{get_or-append_seam, take-append_seam}
use Rattle.search_expansion.specs.inside.Walks.{GoesOn, Passes}
use Rattle.search_expansion.specs.declared.frame.Frame.{Frame}

one_less : {X : Type 0} (xs : List X) (x : X) → length (xs ++ x ∷ []) - 1 ≡ length xs
one_less xs x = omega (arith, length-append xs (x ∷ []))

-- what is looked up there
pub last_is : {X : Type 0} (all xs : List X) (x y : X) → all ≡ xs ++ x ∷ [] → y ≡ slice_index_or all (length all - 1) y → y ≡ x
last_is all xs x y is looked =
    looked ∙ (λ i. slice_index_or (is i) (length (is i) - 1) y) ∙ ap (λ (k : ℕ). slice_index_or (xs ++ x ∷ []) k y) (one_less xs x) ∙ get_or-append_seam xs x [] y

-- what is put there
pub last_set : {X : Type 0} (all xs : List X) (x y : X) → all ≡ xs ++ x ∷ [] → slice_set all (length all - 1) y ≡ xs ++ y ∷ []
last_set all xs x y is =
    (λ i. slice_set (is i) (length (is i) - 1) y) ∙ set_at xs x [] y (length (xs ++ x ∷ []) - 1) (sym (one_less xs x))

-- there is one
pub record HasLast {X : Type 0} (all : List X) : Type 0 where
  pub below : List X
  pub last : X
  pub is : all ≡ below ++ last ∷ []

pub has_last : {X : Type 0} (all : List X) → (all ≡ [] → ⊥) → HasLast all
has_last [] some = absurd (some refl)
has_last (x ∷ []) some = record { below = []; last = x; is = refl }
has_last (x ∷ y ∷ ys) some =
    let more = has_last (y ∷ ys) (λ none. absurd cc) in
    record { below = x ∷ more.below; last = more.last; is = ap (λ zs. x ∷ zs) more.is }

-- and no other
head_or : {X : Type 0} → X → List X → X
head_or x [] = x
head_or x (y ∷ ys) = y

pub one_last : {X : Type 0} (all xs ys : List X) (x y : X) → all ≡ xs ++ x ∷ [] → all ≡ ys ++ y ∷ [] → x ≡ y
unfolding head_or
one_last all xs ys x y one other = ap (head_or x) (sym (reverse-append xs (x ∷ [])) ∙ ap reverse (sym one ∙ other) ∙ reverse-append ys (y ∷ []))

front : {X : Type 0} (xs : List X) (x : X) → take (length (xs ++ x ∷ []) - 1) (xs ++ x ∷ []) ≡ xs
front xs x = ap (λ (k : ℕ). take k (xs ++ x ∷ [])) (one_less xs x) ∙ take-append_seam xs (x ∷ [])

pub one_below : {X : Type 0} (all xs ys : List X) (x y : X) → all ≡ xs ++ x ∷ [] → all ≡ ys ++ y ∷ [] → xs ≡ ys
one_below all xs ys x y one other = sym (front xs x) ∙ ap (λ zs. take (length zs - 1) zs) (sym one ∙ other) ∙ front ys y

-- what is taken from there, where nothing was changed before
pub taken_last : {X : Type 0} (all xs zs : List X) (x y z : X) → all ≡ xs ++ x ∷ [] → y ≡ slice_index_or all (length all - 1) y → slice_set all (length all - 1) y ≡ zs ++ z ∷ [] → (zs ≡ xs) × (z ≡ x)
taken_last all xs zs x y z is looked taken =
    let same : xs ++ y ∷ [] ≡ zs ++ z ∷ [] = sym (last_set all xs x y is) ∙ taken in
    (one_below (zs ++ z ∷ []) zs xs z y refl (sym same), one_last (zs ++ z ∷ []) zs xs z y refl (sym same) ∙ last_is all xs x y is looked)

-- ---- frames

-- the last frame goes on
pub gone_on : (all below : List Frame) (top frame new : Frame) → all ≡ below ++ top ∷ [] → frame ≡ slice_index_or all (length all - 1) frame → GoesOn frame new → Passes below top (slice_set all (length all - 1) new)
gone_on all below top frame new is looked goes =
    inr (record { frame = new; goes = subst (λ x. GoesOn x new) (last_is all below top frame is looked) goes; is = last_set all below top new is })

-- or is gone
pub popped_off : (all below left : List Frame) (top frame taken : Frame) → all ≡ below ++ top ∷ [] → frame ≡ slice_index_or all (length all - 1) frame → slice_set all (length all - 1) frame ≡ left ++ taken ∷ [] → frame.after.items ≡ [] → Passes below top left
popped_off all below left top frame taken is looked popped none =
    inl (subst (λ (x : Frame). x.after.items ≡ []) (last_is all below top frame is looked) none, (taken_last all below left top frame taken is looked popped).0)

-- what holds of the frame that is looked at holds of the last one
pub of_last : (P : Frame → Type 0) (all below : List Frame) (top frame : Frame) → all ≡ below ++ top ∷ [] → frame ≡ slice_index_or all (length all - 1) frame → P frame → P top
of_last P all below top frame is looked holds = subst P (last_is all below top frame is looked) holds

-- and so does what holds of the frame that is taken
pub of_taken : (P : Frame → Type 0) (all below left : List Frame) (top frame taken : Frame) → all ≡ below ++ top ∷ [] → frame ≡ slice_index_or all (length all - 1) frame → slice_set all (length all - 1) frame ≡ left ++ taken ∷ [] → P taken → P top
of_taken P all below left top frame taken is looked popped holds = subst P (taken_last all below left top frame taken is looked popped).1 holds
