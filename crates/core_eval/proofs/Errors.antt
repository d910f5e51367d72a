-- Where evaluation answers an error in place of a value.
use Rattle.std.proofs.Common.{◌≡◌, ℕ, ◌<◌, ◌≤◌, List, [], ◌∷◌, refl, ap, ◌∙◌, sym, subst, length, arith, IfOk, Result, Ok, Err}
use Rattle.std.specs.Prelude.{codes, None}
use Rattle.std.specs.declared.alloc.AllocError.{AllocError}
use Rattle.term_core.specs.Meaning.{Meaning, Tuple, meanings_of, node_count}
use Rattle.core_eval.specs.declared.control.Control.{Control}
use Rattle.core_stack.specs.Matching.{Environment}
use Rattle.core_semantics.specs.Evaluation.{State, Outcome, Setting, Yields, error, limited, limited_error, node_limit, one, class_in}
use Rattle.core_stack.specs.Holes.{Hole}
use Rattle.core_eval.specs.Filled.{filled, through}
use Rattle.core_stack.specs.Holes as holes
use Rattle.core_eval.specs.inside.Steps.{going, load, GoesOn}

-- a term with too many nodes is an error
pub limited-over : (m : Meaning) (s : State) → node_limit < node_count m → limited m s ≡ error (codes "system_limit") s
limited-over m s h = grind arith

pub limited_error-over : (m : Meaning) (s : State) → node_limit < node_count m → limited_error m s ≡ error (codes "system_limit") s
limited_error-over m s h = grind arith

-- what is an error means the same as the error
pub same_error : (next : Control) (text : List ℕ) (got : State → Outcome) → ((setting : Setting) (holes : List Hole) (s : State) → going setting holes next s ≡ through setting holes (error text s)) → ((s : State) → got s ≡ error text s) → (setting : Setting) (holes : List Hole) (s : State) → going setting holes next s ≡ through setting holes (got s)
same_error next text got h e setting holes s = h setting holes s ∙ ap (through setting holes) (sym (e s))

-- and so the machine goes on with it
pub goes_on : (next : Control) (text : List ℕ) (got : Setting → State → Outcome) (old : List Hole) (left : ℕ) → ((setting : Setting) (holes : List Hole) (s : State) → going setting holes next s ≡ through setting holes (error text s)) → load next ≡ 0 → ((setting : Setting) (s : State) → got setting s ≡ error text s) → 0 < left → GoesOn old old next got left
goes_on next text got old left h l e p = record { same = λ setting s. h setting old s ∙ ap (through setting old) (sym (e setting s)); less = omega (arith, l) }

-- where one value is wanted, any other number is an error
miscounted : (go : Meaning → State → Outcome) (vs : List Meaning) (s : State) → (length vs ≡ 1 → ⊥) → one go vs s ≡ error (codes "value_count") s
miscounted go [] s h = refl
miscounted go (v ∷ []) s h = absurd (h refl)
miscounted go (v ∷ w ∷ vs) s h = refl

-- holes that want one value
abbrev pub WantsOne : Hole → Type 0
WantsOne (holes.Parts purpose done later) = Unit {0}
WantsOne (holes.Tail items) = Unit {0}
WantsOne (holes.Second second) = Unit {0}
WantsOne (holes.Receive clauses action) = Unit {0}
WantsOne hole = ⊥

pub filled-miscounted : (setting : Setting) (hole : Hole) (env : Environment) (vs : List Meaning) (s : State) → WantsOne hole → (length vs ≡ 1 → ⊥) → filled setting hole env (Yields vs s) ≡ error (codes "value_count") s
filled-miscounted setting (holes.Parts purpose done later) env vs s w h = rw (miscounted _ vs s h) refl
filled-miscounted setting (holes.Tail items) env vs s w h = miscounted _ vs s h
filled-miscounted setting (holes.Second second) env vs s w h = miscounted _ vs s h
filled-miscounted setting (holes.Receive clauses action) env vs s w h = miscounted _ vs s h
filled-miscounted setting (holes.Body variables body) env vs s w h = absurd w
filled-miscounted setting (holes.Clauses clauses) env vs s w h = absurd w
filled-miscounted setting (holes.Guard bindings body others values) env vs s w h = absurd w
filled-miscounted setting (holes.Try variables body caught handler) env vs s w h = absurd w
filled-miscounted setting holes.Catch env vs s w h = absurd w
filled-miscounted setting (holes.Kept bindings) env vs s w h = absurd w
filled-miscounted setting (holes.Applied bindings) env vs s w h = absurd w

-- a term in place of one that it is equal to
pub same_limited : (next : Control) (m n : Meaning) → m ≡ n → ((setting : Setting) (holes : List Hole) (s : State) → going setting holes next s ≡ through setting holes (limited m s)) → (setting : Setting) (holes : List Hole) (s : State) → going setting holes next s ≡ through setting holes (limited n s)
same_limited next m n e h = subst (λ (x : Meaning). (setting : Setting) (holes : List Hole) (s : State) → going setting holes next s ≡ through setting holes (limited x s)) e h

-- what means this on top of every stack goes on with it
pub enters : (r : Result Control AllocError) (old : List Hole) (got : Setting → State → Outcome) (left : ℕ) → IfOk r (λ next. (setting : Setting) (holes : List Hole) (s : State) → going setting holes next s ≡ through setting holes (got setting s)) → IfOk r (λ next. load next ≤ 2) → 2 < left → IfOk r (λ next. GoesOn old old next got left)
enters (Ok next) old got left h l p = record { same = λ setting s. h setting old s; less = omega (arith, l) }
enters (Err e) old got left h l p = tt

-- the same of an error's reason
pub same_limited_error : (next : Control) (m n : Meaning) → m ≡ n → ((setting : Setting) (holes : List Hole) (s : State) → going setting holes next s ≡ through setting holes (limited_error m s)) → (setting : Setting) (holes : List Hole) (s : State) → going setting holes next s ≡ through setting holes (limited_error n s)
same_limited_error next m n e h = subst (λ (x : Meaning). (setting : Setting) (holes : List Hole) (s : State) → going setting holes next s ≡ through setting holes (limited_error x s)) e h

-- a trace is a tuple of two
pub no_trace : (ms : List Meaning) → (length ms ≡ 2 → ⊥) → class_in (Tuple (meanings_of ms)) ≡ None
no_trace [] h = refl
no_trace (m ∷ []) h = refl
no_trace (m ∷ n ∷ []) h = absurd (h refl)
no_trace (m ∷ n ∷ o ∷ ms) h = refl
