-- Variables that take their values one by one, and are looked up.
use Rattle.std.proofs.Common.{◌≡◌, ◌==◌, ◌+◌, ◌-◌, ◌<◌, ◌≤◌, false, true, Bool, ℕ, List, [], ◌∷◌, ◌++◌, refl, ap, ◌∙◌, sym, map, length, take, get_or, arith, if◌then◌else◌}
use Rattle.std.specs.Prelude.{reverse, Option, Some, None}
use Rattle.std.specs.Cmp.Lexicographic.{pointwise}
use Rattle.std.proofs.lemmas.List.{map-append, reverse-append, reverse-reverse}
use Rattle.core_tree.specs.Syntax.{Mention}
use Rattle.term_core.specs.Meaning.{Meaning}
use Rattle.term_core.specs.Term.{meaning_of}
use Rattle.term_core.specs.declared.term.Term.{Term}
use Rattle.std.proofs.lemmas.List.{take_more}
use Rattle.core_stack.specs.Matching.{Environment, bound, lookup}
use Rattle.core_stack.specs.declared.frame.Frame.{Frame}
use Rattle.core_stack.specs.inside.Frames.{hole_of, holes_of}
use Rattle.core_stack.specs.Holes.{Hole, kept_in, hides, scope}

-- the values that are left, the last item of which is the first value
abbrev pub values_of : List Term → List Meaning
values_of items = reverse (map meaning_of items)

pub values_of-last : (items : List Term) (value : Term) → values_of (items ++ value ∷ []) ≡ meaning_of value ∷ values_of items
values_of-last items value = ap reverse (map-append meaning_of items (value ∷ [])) ∙ reverse-append (map meaning_of items) (meaning_of value ∷ [])

-- what is made of each of some items the other way round
pub map-reverse : {A B : Type 0} (f : A → B) (items : List A) → map f (reverse items) ≡ reverse (map f items)
map-reverse f [] = refl
map-reverse f (x ∷ xs) = ap (map f) (reverse-append (x ∷ []) xs) ∙ map-append f (reverse xs) (x ∷ []) ∙ ap (λ ys. ys ++ f x ∷ []) (map-reverse f xs) ∙ sym (reverse-append (f x ∷ []) (map f xs))

-- the values the other way round are those that are left
pub values_of-reversed : (items reversed : List Term) (values : List Meaning) → map meaning_of items ≡ values → reversed ≡ reverse items → values_of reversed ≡ values
values_of-reversed items reversed values e f = ap values_of f ∙ ap reverse (map-reverse meaning_of items) ∙ reverse-reverse (map meaning_of items) ∙ e

-- one more is bound
pub binds_next : (left others : List Mention) (v : Mention) (items later : List Term) (value : Term) (before : Environment) (all : Option Environment) → left ≡ v ∷ others → items ≡ later ++ value ∷ [] → bound left (values_of items) before ≡ all → bound others (values_of later) ((v.name, meaning_of value) ∷ before) ≡ all
binds_next left others v items later value before all el ei h =
    sym (ap (λ ms. bound (v ∷ others) ms before) (ap values_of ei ∙ values_of-last later value)) ∙ sym (ap (λ vs. bound vs (values_of items) before) el) ∙ h

-- where the numbers differ, nothing is bound
pub none_over : (left : List Mention) (items later : List Term) (value : Term) (before : Environment) → length left ≡ 0 → items ≡ later ++ value ∷ [] → bound left (values_of items) before ≡ None
none_over [] items later value before e f = ap (λ ms. bound [] ms before) (ap values_of f ∙ values_of-last later value)
none_over (v ∷ left) items later value before e f = absurd (omega (arith, e))

pub none_left : (left : List Mention) (items : List Term) (before : Environment) → (length left == 0) ≡ false → length items ≡ 0 → bound left (values_of items) before ≡ None
none_left [] items before e f = cc
none_left (v ∷ left) [] before e f = refl
none_left (v ∷ left) (t ∷ ts) before e f = absurd (omega (arith, f))

-- ---- looking up

over_by : (b : Bool) (m : Meaning) (here beyond there : Option Meaning) → (here ≡ None → beyond ≡ there) → (if b then Some m else here) ≡ None → (if b then Some m else beyond) ≡ there
over_by true m here beyond there h e = absurd cc
over_by false m here beyond there h e = h e

pub lookup_over : (name : List ℕ) (bs env : Environment) → lookup name bs ≡ None → lookup name (bs ++ env) ≡ lookup name env
lookup_over name [] env e = refl
lookup_over name (b ∷ bs) env e = over_by (pointwise ◌==◌ b.0 name) b.1 (lookup name bs) (lookup name (bs ++ env)) (lookup name env) (lookup_over name bs env) e

here_by : (b : Bool) (v m : Meaning) (here beyond : Option Meaning) → (here ≡ Some m → beyond ≡ Some m) → (if b then Some v else here) ≡ Some m → (if b then Some v else beyond) ≡ Some m
here_by true v m here beyond h e = e
here_by false v m here beyond h e = h e

pub lookup_here : (name : List ℕ) (bs env : Environment) (m : Meaning) → lookup name bs ≡ Some m → lookup name (bs ++ env) ≡ Some m
lookup_here name [] env m e = absurd cc
lookup_here name (b ∷ bs) env m e = here_by (pointwise ◌==◌ b.0 name) b.1 m (lookup name bs) (lookup name (bs ++ env)) (lookup_here name bs env m) e

-- ---- frames

holes_of-last : (frames : List Frame) (frame : Frame) → holes_of (frames ++ frame ∷ []) ≡ hole_of frame ∷ holes_of frames
holes_of-last frames frame = ap reverse (map-append hole_of frames (frame ∷ [])) ∙ reverse-append (map hole_of frames) (hole_of frame ∷ [])

module _ (frames : List Frame) (below : List Hole) (left : ℕ) (frame : Frame) (lt : 0 < left) (le : left ≤ length frames) (is : frame ≡ get_or frames (left - 1) frame) where
  top_frame : holes_of (take left frames) ++ below ≡ hole_of frame ∷ (holes_of (take (left - 1) frames) ++ below)
  top_frame =
      let again : left ≡ left - 1 + 1 = omega (arith, lt) in
      ap (λ (hs : List Hole). hs ++ below)
      (ap (λ (n : ℕ). holes_of (take n frames)) again
      ∙ ap holes_of (take_more frames (left - 1) frame (omega (arith, lt, le)))
      ∙ ap (λ (f : Frame). holes_of (take (left - 1) frames ++ f ∷ [])) (sym is)
      ∙ holes_of-last (take (left - 1) frames) frame)

  -- the variables below the top frame, where it hides them or not
  abbrev seen_below : Bool → Environment
  seen_below b = if b then [] else scope (holes_of (take (left - 1) frames) ++ below)

  pub found_in_frame : (name : List ℕ) (m : Meaning) → lookup name (kept_in (hole_of frame)) ≡ Some m → lookup name (scope (holes_of (take left frames) ++ below)) ≡ Some m
  found_in_frame name m e = ap (λ (hs : List Hole). lookup name (scope hs)) top_frame ∙ lookup_here name (kept_in (hole_of frame)) (seen_below (hides (hole_of frame))) m e

  beyond_frame : (name : List ℕ) (b : Bool) → lookup name (kept_in (hole_of frame)) ≡ None → hides (hole_of frame) ≡ b → lookup name (scope (holes_of (take left frames) ++ below)) ≡ lookup name (seen_below b)
  beyond_frame name b e h =
      ap (λ (hs : List Hole). lookup name (scope hs)) top_frame
      ∙ lookup_over name (kept_in (hole_of frame)) (seen_below (hides (hole_of frame))) e
      ∙ ap (λ (c : Bool). lookup name (seen_below c)) h

  pub not_in_frame : (name : List ℕ) → lookup name (kept_in (hole_of frame)) ≡ None → hides (hole_of frame) ≡ false → lookup name (scope (holes_of (take left frames) ++ below)) ≡ lookup name (scope (holes_of (take (left - 1) frames) ++ below))
  not_in_frame name e h = beyond_frame name false e h

  pub hidden_by_frame : (name : List ℕ) → lookup name (kept_in (hole_of frame)) ≡ None → hides (hole_of frame) ≡ true → lookup name (scope (holes_of (take left frames) ++ below)) ≡ None
  hidden_by_frame name e h = beyond_frame name true e h

-- ---- layers

-- the variables below a hole, where it hides them or not
abbrev beyond_by : Bool → List Hole → Environment
beyond_by b below = if b then [] else scope below

pub found_on_top : (name : List ℕ) (hole : Hole) (below : List Hole) (m : Meaning) → lookup name (kept_in hole) ≡ Some m → lookup name (scope (hole ∷ below)) ≡ Some m
found_on_top name hole below m e = lookup_here name (kept_in hole) (beyond_by (hides hole) below) m e

beyond_top : (name : List ℕ) (hole : Hole) (below : List Hole) (b : Bool) → lookup name (kept_in hole) ≡ None → hides hole ≡ b → lookup name (scope (hole ∷ below)) ≡ lookup name (beyond_by b below)
beyond_top name hole below b e h = lookup_over name (kept_in hole) (beyond_by (hides hole) below) e ∙ ap (λ (c : Bool). lookup name (beyond_by c below)) h

pub not_on_top : (name : List ℕ) (hole : Hole) (below : List Hole) → lookup name (kept_in hole) ≡ None → hides hole ≡ false → lookup name (scope (hole ∷ below)) ≡ lookup name (scope below)
not_on_top name hole below e h = beyond_top name hole below false e h

pub hidden_by_top : (name : List ℕ) (hole : Hole) (below : List Hole) → lookup name (kept_in hole) ≡ None → hides hole ≡ true → lookup name (scope (hole ∷ below)) ≡ None
hidden_by_top name hole below e h = beyond_top name hole below true e h
