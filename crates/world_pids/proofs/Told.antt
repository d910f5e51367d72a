-- Terms whose pids have numbers from 1 to n, and what is made of such terms.
use Rattle.std.proofs.Common.{ℕ, zero, suc, Bool, true, false, List, [], ◌∷◌, reverse, subst, sym, if◌then◌else◌, Option, Some, None}
use Rattle.std.proofs.lemmas.List.{reverse-append}
use Rattle.std.specs.List.{AllByRecursion, filter, slice_get, slice_set}
use Rattle.std.specs.Prelude.{drop}
use Rattle.term_core.proofs.Pieces.{all-append}
use Rattle.term_core.specs.Meaning.{Meaning, Meanings, Int, Atom, Tuple, Nil, Cons, NoMore, Also, meanings_of, parts_of}
use Rattle.term_core.specs.Meaning as terms
use Rattle.term_core.specs.Term.{list_onto}
use Rattle.core_pure_calls.specs.Dictionary.{Dictionary}
use Rattle.core_pure_calls.specs.Lists.{heads_of}
use Rattle.core_pure_calls.specs.Answers as pure
use Rattle.core_semantics.specs.Asked.{Asked, Call, Receive, End, Runaway, Answered, Value, Raise, Message, TimedOut}
use Rattle.world_pids.specs.Numbers.{IsNumbered}

-- ---- lists, and what may be there

pub chosen : {A : Type 0} (P : A → Type 0) (b : Bool) (x y : A) → P x → P y → P (if b then x else y)
chosen P true x y p q = p
chosen P false x y p q = q

-- a thing, if there is one
abbrev pub IfThere : {A : Type 0} → (A → Type 0) → Option A → Type 0
IfThere P None = Unit {0}
IfThere P (Some x) = P x

module _ {A : Type 0} (P : A → Type 0) where
  pub all_reversed : (xs : List A) → AllByRecursion P xs → AllByRecursion P (reverse xs)
  all_reversed [] h = tt
  all_reversed (x ∷ xs) h = subst (AllByRecursion P) (sym (reverse-append (x ∷ []) xs)) (all-append P (reverse xs) (x ∷ []) (all_reversed xs h.1) (h.0, tt))

  pub all_filtered : (test : A → Bool) (xs : List A) → AllByRecursion P xs → AllByRecursion P (filter test xs)
  all_filtered test [] h = tt
  all_filtered test (x ∷ xs) h = chosen (AllByRecursion P) (test x) (x ∷ filter test xs) (filter test xs) (h.0, all_filtered test xs h.1) (all_filtered test xs h.1)

  pub all_dropped : (n : ℕ) (xs : List A) → AllByRecursion P xs → AllByRecursion P (drop n xs)
  all_dropped zero xs h = h
  all_dropped (suc n) [] h = tt
  all_dropped (suc n) (x ∷ xs) h = all_dropped n xs h.1

  pub one_got : (xs : List A) (i : ℕ) → AllByRecursion P xs → IfThere P (slice_get xs i)
  one_got [] i h = tt
  one_got (x ∷ xs) zero h = h.0
  one_got (x ∷ xs) (suc i) h = one_got xs i h.1

  pub all_set : (xs : List A) (i : ℕ) (y : A) → AllByRecursion P xs → P y → AllByRecursion P (slice_set xs i y)
  all_set [] i y h p = tt
  all_set (x ∷ xs) zero y h p = (p, h.1)
  all_set (x ∷ xs) (suc i) y h p = (h.0, all_set xs i y h.1 p)

-- ---- terms

module _ (n : ℕ) where
  -- each pid in it has such numbers
  abbrev mutual
    pub IsTold : Meaning → Type 0
    IsTold (Int z) = Unit {0}
    IsTold (Atom text) = Unit {0}
    IsTold (terms.Ref pid number) = Unit {0}
    IsTold (terms.Pid pid) = IsNumbered n pid
    IsTold (Tuple parts) = AreTold parts
    IsTold Nil = Unit {0}
    IsTold (Cons head tail) = IsTold head × IsTold tail

    pub AreTold : Meanings → Type 0
    AreTold NoMore = Unit {0}
    AreTold (Also first others) = IsTold first × AreTold others

  abbrev pub EachTold : List Meaning → Type 0
  EachTold ms = AllByRecursion IsTold ms

  pub tuple_told : (ms : List Meaning) → EachTold ms → AreTold (meanings_of ms)
  tuple_told [] h = tt
  tuple_told (m ∷ ms) h = (h.0, tuple_told ms h.1)

  pub parts_told : (ms : Meanings) → AreTold ms → EachTold (parts_of ms)
  parts_told NoMore h = tt
  parts_told (Also m ms) h = (h.0, parts_told ms h.1)

  pub onto_told : (ms : List Meaning) (tail : Meaning) → EachTold ms → IsTold tail → IsTold (list_onto ms tail)
  onto_told [] tail h t = t
  onto_told (m ∷ ms) tail h t = (h.0, onto_told ms tail h.1 t)

  pub heads_told : (m : Meaning) → IsTold m → EachTold (heads_of m)
  heads_told (Cons head tail) h = (h.0, heads_told tail h.1)
  heads_told m h = tt

  -- all keys and values of a dictionary
  abbrev pub KeptTold : Dictionary → Type 0
  KeptTold d = AllByRecursion (λ (e : Meaning × Meaning). IsTold e.0 × IsTold e.1) d

  -- ---- answers and requests

  -- what a call that a process answers by itself gives
  abbrev pub GivesTold : pure.Answer → Type 0
  GivesTold (pure.Value value) = IsTold value
  GivesTold (pure.Raised class reason) = IsTold reason

  abbrev pub AnswersTold : Answered → Type 0
  AnswersTold (Value value) = IsTold value
  AnswersTold (Raise reason) = IsTold reason
  AnswersTold (Message message) = IsTold message
  AnswersTold TimedOut = Unit {0}

  abbrev pub AllTold : List Answered → Type 0
  AllTold xs = AllByRecursion AnswersTold xs

  abbrev pub AsksTold : Asked → Type 0
  AsksTold (Call kind arguments) = EachTold arguments
  AsksTold (Receive waits selects) = Unit {0}
  AsksTold (End reason) = IsTold reason
  AsksTold Runaway = Unit {0}
