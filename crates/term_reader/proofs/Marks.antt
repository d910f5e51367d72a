-- What each mark does to what is open.
use Rattle.std.proofs.Common.{◌≡◌, ◌≢◌, ◌⊎◌, inl, inr, ℕ, ◌+◌, ◌≤◌, ◌<◌, true, List, [], ◌∷◌, ◌++◌, length, get_or, slice_index, ap, sym, refl, ◌∙◌, subst, arith, append_assoc, append-nil, Result, Ok, Err, IfOk, IfErr, MatchResult, ℤ, pos, length-append}
use Rattle.std.specs.Fmt.{signed_decimal}
use Rattle.term_core.specs.Integers.{has_64_bits}
use Rattle.term_core.specs.Meaning.{Meaning, Meanings, Int, Atom, Ref, Pid, Tuple, Nil, Cons, NoMore, Also, meanings_of}
use Rattle.term_core.specs.Term.{meaning_of, list_onto}
use Rattle.term_core.specs.TermText.{text_of_term, text_of_tail, text_of_tuple, text_of_others}
use Rattle.term_reader.proofs.IntegerTexts.{integer_first, zero_text}
use Rattle.term_reader.proofs.Items.{alike_after, alike_index, alike_items, alike_other, alike_self, alike_under, item_none}
use Rattle.term_reader.proofs.LeafLaws.{leaf_byte}
use Rattle.term_reader.specs.Height.{height, height_over}
use Rattle.term_reader.specs.Lawful.{IsLawful, AreLawful, MayRefuse, IsFault, IsTooDeep, HasPlace, closed_by, item_of}
use Rattle.term_reader.specs.inside.Leaves.{Ends, IsAlike, IsLeaf, Reads, NoLeaf}
use Rattle.term_reader.specs.inside.Marks.{Opened, InTuple, InList, InTail, opened_in, open_in, parts_onto, Continues, AtEnd, AmongParts, AmongHeads, AsTail, Begins, IsSame, IsLike, Means, MeansAt, rest_of, GoesOn, DeepAt, BadAt, Lies, Refuses, Follows, IsTooMuch, IsBefore, GoesIn}
use Rattle.term_core.specs.declared.term.Term.{Term}
use Rattle.term_reader.specs.declared.brackets.Open.{Open}
use Rattle.term_reader.specs.declared.brackets.State.{State}
use Rattle.term_reader.specs.declared.fault.TermFault.{TermFault}
use Rattle.term_reader.specs.declared.fault.TermFault.TheVariants.{BadTerm, TooDeep, Memory}

-- the lawful terms with this text
abbrev pub HasText : List ℕ → Meaning → Type 0
HasText text m = IsLawful m × (text ≡ text_of_term m)

-- What reading keeps: the whole can be the terms with this text, also if other bytes were left.
pub record Holds (text : List ℕ) (state : State) : Type 0 where
  pub read : List ℕ
  pub parts : text ≡ read ++ rest_of state
  pub within : length (rest_of state) ≤ length text
  pub same : IsSame (HasText text) (Means state)
  pub wider : (left : List ℕ) (m : Meaning) → IsLike (rest_of state) left → MeansAt state left m → HasText (read ++ left) m
  pub back : (left : List ℕ) (m : Meaning) → IsAlike (rest_of state) left → HasText (read ++ left) m → MeansAt state left m

pub same_then : (P Q R : Meaning → Type 0) → IsSame P Q → IsSame Q R → IsSame P R
same_then P Q R a b = record { to = λ m p. b.to m (a.to m p); from = λ m r. a.from m (b.from m r) }

-- FIRST BYTES

begins_low : (ds behind r : List ℕ) (a : ℕ) → 0 < length ds → get_or ds 0 0 ≤ 57 → 57 < a → a ∷ r ≡ ds ++ behind → ⊥
begins_low [] behind r a some low high e = omega arith
begins_low (d ∷ ds) behind r a some low high e = omega (arith, low, ap (λ bs. get_or bs 0 0) e)

no_integer : (n : ℤ) (behind r : List ℕ) (a : ℕ) → has_64_bits n ≡ true → 57 < a → a ∷ r ≡ signed_decimal n ++ behind → ⊥
no_integer n behind r a h high e = let f = integer_first n h in begins_low (signed_decimal n) behind r a f.0 f.2 high e

-- no term begins with a byte above `P` that is neither a bracket nor a brace that opens
pub never_first : (x : Meaning) (a : ℕ) (r behind : List ℕ) → IsLawful x → 80 < a → a ≢ 91 → a ≢ 123 → a ∷ r ≡ text_of_term x ++ behind → ⊥
never_first (Int n) a r behind l high h k e = no_integer n behind r a l (omega arith) e
never_first (Atom t) a r behind l high h k e = omega (arith, ap (λ bs. get_or bs 0 0) e)
never_first (Ref p n) a r behind l high h k e = omega (arith, ap (λ bs. get_or bs 0 0) e)
never_first (Pid p) a r behind l high h k e = omega (arith, ap (λ bs. get_or bs 0 0) e)
never_first (Tuple NoMore) a r behind l high h k e = k (ap (λ bs. get_or bs 0 0) e)
never_first (Tuple (Also m ms)) a r behind l high h k e = k (ap (λ bs. get_or bs 0 0) e)
never_first Nil a r behind l high h k e = h (ap (λ bs. get_or bs 0 0) e)
never_first (Cons m n) a r behind l high h k e = h (ap (λ bs. get_or bs 0 0) e)

-- neither nil nor a cell
abbrev pub IsLast : Meaning → Type 0
IsLast Nil = ⊥
IsLast (Cons m n) = ⊥
IsLast (Int n) = Unit {0}
IsLast (Atom t) = Unit {0}
IsLast (Ref p n) = Unit {0}
IsLast (Pid p) = Unit {0}
IsLast (Tuple parts) = Unit {0}

-- a term that begins with a bracket is a list
list_first : (x : Meaning) (r behind : List ℕ) → IsLawful x → 91 ∷ r ≡ text_of_term x ++ behind → IsLast x → ⊥
list_first (Int n) r behind l e k = no_integer n behind r 91 l (omega arith) e
list_first (Atom t) r behind l e k = omega (arith, ap (λ bs. get_or bs 0 0) e)
list_first (Ref p n) r behind l e k = omega (arith, ap (λ bs. get_or bs 0 0) e)
list_first (Pid p) r behind l e k = omega (arith, ap (λ bs. get_or bs 0 0) e)
list_first (Tuple NoMore) r behind l e k = omega (arith, ap (λ bs. get_or bs 0 0) e)
list_first (Tuple (Also m ms)) r behind l e k = omega (arith, ap (λ bs. get_or bs 0 0) e)
list_first Nil r behind l e k = k
list_first (Cons m n) r behind l e k = k

-- and one that does not is none
last_first : (x : Meaning) (r behind : List ℕ) → get_or r 0 0 ≢ 91 → r ≡ text_of_term x ++ behind → IsLast x
last_first (Int n) r behind other e = tt
last_first (Atom t) r behind other e = tt
last_first (Ref p n) r behind other e = tt
last_first (Pid p) r behind other e = tt
last_first (Tuple parts) r behind other e = tt
last_first Nil r behind other e = absurd (other (ap (λ bs. get_or bs 0 0) e))
last_first (Cons m n) r behind other e = absurd (other (ap (λ bs. get_or bs 0 0) e))

-- a term that begins neither with a bracket nor with a brace is a leaf
leaf_first : (x : Meaning) (r behind : List ℕ) → get_or r 0 0 ≢ 123 → get_or r 0 0 ≢ 91 → r ≡ text_of_term x ++ behind → IsLeaf x
leaf_first (Int n) r behind h k e = tt
leaf_first (Atom t) r behind h k e = tt
leaf_first (Ref p n) r behind h k e = tt
leaf_first (Pid p) r behind h k e = tt
leaf_first (Tuple NoMore) r behind h k e = absurd (h (ap (λ bs. get_or bs 0 0) e))
leaf_first (Tuple (Also m ms)) r behind h k e = absurd (h (ap (λ bs. get_or bs 0 0) e))
leaf_first Nil r behind h k e = absurd (k (ap (λ bs. get_or bs 0 0) e))
leaf_first (Cons m n) r behind h k e = absurd (k (ap (λ bs. get_or bs 0 0) e))

-- WHAT FOLLOWS A TERM

pub others_ends : (ms : Meanings) (behind : List ℕ) → Ends (text_of_others ms ++ behind)
others_ends NoMore behind = refl
others_ends (Also m ms) behind = refl

pub tail_ends : (t : Meaning) (behind : List ℕ) → Ends (text_of_tail t ++ behind)
tail_ends (Int n) behind = refl
tail_ends (Atom t) behind = refl
tail_ends (Ref p n) behind = refl
tail_ends (Pid p) behind = refl
tail_ends (Tuple parts) behind = refl
tail_ends Nil behind = refl
tail_ends (Cons m n) behind = refl

-- after a term there is nothing or a mark
ends_of : {outer : List Opened} {x : Meaning} {rest : List ℕ} {m : Meaning} → Continues outer x rest m → Ends rest
ends_of (AtEnd w e) = subst Ends (sym e) tt
ends_of (AmongParts o b l e n) = subst Ends (sym e) (others_ends o b)
ends_of (AmongHeads t b l e n) = subst Ends (sym e) (tail_ends t b)
ends_of (AsTail b e n) = subst Ends (sym e) refl

-- in a tuple or a list there is something
pub no_end : (o : Opened) (outer : List Opened) (x m : Meaning) → Continues (o ∷ outer) x [] m → ⊥
no_end (InTuple ps) outer x m (AmongParts NoMore b l e n) = cc
no_end (InTuple ps) outer x m (AmongParts (Also f o) b l e n) = cc
no_end (InList hs) outer x m (AmongHeads (Int n) b l e k) = cc
no_end (InList hs) outer x m (AmongHeads (Atom t) b l e k) = cc
no_end (InList hs) outer x m (AmongHeads (Ref p n) b l e k) = cc
no_end (InList hs) outer x m (AmongHeads (Pid p) b l e k) = cc
no_end (InList hs) outer x m (AmongHeads (Tuple parts) b l e k) = cc
no_end (InList hs) outer x m (AmongHeads Nil b l e k) = cc
no_end (InList hs) outer x m (AmongHeads (Cons h t) b l e k) = cc
no_end (InTail hs h) outer x m (AsTail b e n) = cc

moved : (outer : List Opened) (x m : Meaning) (r s : List ℕ) → r ≡ s → Continues outer x s m → Continues outer x r m
moved outer x m r s e k = subst (λ (w : List ℕ). Continues outer x w m) (sym e) k

renamed : (outer : List Opened) (x y m : Meaning) (r : List ℕ) → x ≡ y → Continues outer x r m → Continues outer y r m
renamed outer x y m r e k = subst (λ (w : Meaning). Continues outer w r m) e k

pub no_end_at : (o : Opened) (outer : List Opened) (x : Meaning) (rest : List ℕ) → rest ≡ [] → (m : Meaning) → Continues (o ∷ outer) x rest m → ⊥
no_end_at o outer x rest e m k = no_end o outer x m (moved (o ∷ outer) x m [] rest (sym e) k)

-- TUPLES

opens_tuple : (outer : List Opened) (r behind : List ℕ) (m : Meaning) (parts : Meanings) → get_or r 0 0 ≢ 125 → AreLawful parts → 123 ∷ r ≡ text_of_tuple parts ++ behind → Continues outer (Tuple parts) behind m → Begins (InTuple [] ∷ outer) r m
opens_tuple outer r behind m NoMore other l e k = let same : r ≡ 125 ∷ behind = cc in absurd (other (ap (λ bs. get_or bs 0 0) same))
opens_tuple outer r behind m (Also f o) other l e k =
    let same : r ≡ (text_of_term f ++ text_of_others o) ++ behind = cc in
    record { term = f; behind = text_of_others o ++ behind; lawful = l.0; text = same ∙ append_assoc (text_of_term f) (text_of_others o) behind; next = AmongParts o behind l.1 refl k }

goes_into_tuple : (outer : List Opened) (r : List ℕ) (m : Meaning) → get_or r 0 0 ≢ 125 → (x : Meaning) (behind : List ℕ) → IsLawful x → 123 ∷ r ≡ text_of_term x ++ behind → Continues outer x behind m → Begins (InTuple [] ∷ outer) r m
goes_into_tuple outer r m other (Int n) behind l e k = absurd (no_integer n behind r 123 l (omega arith) e)
goes_into_tuple outer r m other (Atom t) behind l e k = absurd (omega (arith, ap (λ bs. get_or bs 0 0) e))
goes_into_tuple outer r m other (Ref p n) behind l e k = absurd (omega (arith, ap (λ bs. get_or bs 0 0) e))
goes_into_tuple outer r m other (Pid p) behind l e k = absurd (omega (arith, ap (λ bs. get_or bs 0 0) e))
goes_into_tuple outer r m other (Tuple parts) behind l e k = opens_tuple outer r behind m parts other l e k
goes_into_tuple outer r m other Nil behind l e k = absurd (omega (arith, ap (λ bs. get_or bs 0 0) e))
goes_into_tuple outer r m other (Cons a b) behind l e k = absurd (omega (arith, ap (λ bs. get_or bs 0 0) e))

goes_out_of_tuple : (outer : List Opened) (r : List ℕ) (m x : Meaning) (behind : List ℕ) → IsLawful x → r ≡ text_of_term x ++ behind → Continues (InTuple [] ∷ outer) x behind m → Begins outer (123 ∷ r) m
goes_out_of_tuple outer r m x behind l e (AmongParts o b lo f k) =
    record { term = Tuple (Also x o); behind = b; lawful = (l, lo); text = ap (λ w. 123 ∷ w) (e ∙ ap (λ w. text_of_term x ++ w) f ∙ sym (append_assoc (text_of_term x) (text_of_others o) b)); next = k }

-- an opening brace, where the tuple has parts
pub into_tuple : (outer : List Opened) (r : List ℕ) → get_or r 0 0 ≢ 125 → IsSame (Begins outer (123 ∷ r)) (Begins (InTuple [] ∷ outer) r)
into_tuple outer r other = record {
  to = λ m p. goes_into_tuple outer r m other p.term p.behind p.lawful p.text p.next;
  from = λ m p. goes_out_of_tuple outer r m p.term p.behind p.lawful p.text p.next;
}

empty_tuple_to : (outer : List Opened) (r : List ℕ) (m : Meaning) (x : Meaning) (behind : List ℕ) → IsLawful x → 123 ∷ 125 ∷ r ≡ text_of_term x ++ behind → Continues outer x behind m → Continues outer (Tuple NoMore) r m
empty_tuple_to outer r m (Int n) behind l e k = absurd (no_integer n behind (125 ∷ r) 123 l (omega arith) e)
empty_tuple_to outer r m (Atom t) behind l e k = absurd (omega (arith, ap (λ bs. get_or bs 0 0) e))
empty_tuple_to outer r m (Ref p n) behind l e k = absurd (omega (arith, ap (λ bs. get_or bs 0 0) e))
empty_tuple_to outer r m (Pid p) behind l e k = absurd (omega (arith, ap (λ bs. get_or bs 0 0) e))
empty_tuple_to outer r m (Tuple NoMore) behind l e k = moved outer (Tuple NoMore) m r behind (cc) k
empty_tuple_to outer r m (Tuple (Also f o)) behind l e k =
    let same : 125 ∷ r ≡ (text_of_term f ++ text_of_others o) ++ behind = cc in
    absurd (never_first f 125 r (text_of_others o ++ behind) l.0 (omega arith) (omega arith) (omega arith) (same ∙ append_assoc (text_of_term f) (text_of_others o) behind))
empty_tuple_to outer r m Nil behind l e k = absurd (omega (arith, ap (λ bs. get_or bs 0 0) e))
empty_tuple_to outer r m (Cons a b) behind l e k = absurd (omega (arith, ap (λ bs. get_or bs 0 0) e))

-- a tuple without parts
pub empty_tuple : (outer : List Opened) (r : List ℕ) → IsSame (Begins outer (123 ∷ 125 ∷ r)) (Continues outer (Tuple NoMore) r)
empty_tuple outer r = record {
  to = λ m p. empty_tuple_to outer r m p.term p.behind p.lawful p.text p.next;
  from = λ m k. record { term = Tuple NoMore; behind = r; lawful = tt; text = refl; next = k };
}

parts_onto-append : (ps : List Meaning) (x : Meaning) (ms : Meanings) → parts_onto (ps ++ x ∷ []) ms ≡ parts_onto ps (Also x ms)
parts_onto-append [] x ms = refl
parts_onto-append (p ∷ ps) x ms = ap (λ w. Also p w) (parts_onto-append ps x ms)

parts_onto-none : (ps : List Meaning) (x : Meaning) → parts_onto ps (Also x NoMore) ≡ meanings_of (ps ++ x ∷ [])
parts_onto-none [] x = refl
parts_onto-none (p ∷ ps) x = ap (λ w. Also p w) (parts_onto-none ps x)

comma_in_tuple_to : (ps : List Meaning) (outer : List Opened) (x : Meaning) (r : List ℕ) (m : Meaning) → Continues (InTuple ps ∷ outer) x (44 ∷ r) m → Begins (InTuple (ps ++ x ∷ []) ∷ outer) r m
comma_in_tuple_to ps outer x r m (AmongParts NoMore b l e k) = absurd (omega (arith, ap (λ bs. get_or bs 0 0) e))
comma_in_tuple_to ps outer x r m (AmongParts (Also f o) b l e k) =
    let same : r ≡ (text_of_term f ++ text_of_others o) ++ b = cc in
    record {
      term = f;
      behind = text_of_others o ++ b;
      lawful = l.0;
      text = same ∙ append_assoc (text_of_term f) (text_of_others o) b;
      next = AmongParts o b l.1 refl (renamed outer _ _ m b (ap Tuple (sym (parts_onto-append ps x (Also f o)))) k);
    }

comma_in_tuple_from : (ps : List Meaning) (outer : List Opened) (x : Meaning) (r : List ℕ) (m f : Meaning) (behind : List ℕ) → IsLawful f → r ≡ text_of_term f ++ behind → Continues (InTuple (ps ++ x ∷ []) ∷ outer) f behind m → Continues (InTuple ps ∷ outer) x (44 ∷ r) m
comma_in_tuple_from ps outer x r m f behind l e (AmongParts o b lo g k) =
    AmongParts (Also f o) b (l, lo) (ap (λ w. 44 ∷ w) (e ∙ ap (λ w. text_of_term f ++ w) g ∙ sym (append_assoc (text_of_term f) (text_of_others o) b)))
    (renamed outer _ _ m b (ap Tuple (parts_onto-append ps x (Also f o))) k)

-- a comma after a part
pub comma_in_tuple : (ps : List Meaning) (outer : List Opened) (x : Meaning) (r : List ℕ) → IsSame (Continues (InTuple ps ∷ outer) x (44 ∷ r)) (Begins (InTuple (ps ++ x ∷ []) ∷ outer) r)
comma_in_tuple ps outer x r = record {
  to = λ m k. comma_in_tuple_to ps outer x r m k;
  from = λ m p. comma_in_tuple_from ps outer x r m p.term p.behind p.lawful p.text p.next;
}

tuple_ends_to : (ps : List Meaning) (outer : List Opened) (x : Meaning) (r : List ℕ) (m : Meaning) → Continues (InTuple ps ∷ outer) x (125 ∷ r) m → Continues outer (Tuple (meanings_of (ps ++ x ∷ []))) r m
tuple_ends_to ps outer x r m (AmongParts NoMore b l e k) = moved outer _ m r b (cc) (renamed outer _ _ m b (ap Tuple (parts_onto-none ps x)) k)
tuple_ends_to ps outer x r m (AmongParts (Also f o) b l e k) = absurd (omega (arith, ap (λ bs. get_or bs 0 0) e))

-- a closing brace after a part
pub tuple_ends : (ps : List Meaning) (outer : List Opened) (x : Meaning) (r : List ℕ) → IsSame (Continues (InTuple ps ∷ outer) x (125 ∷ r)) (Continues outer (Tuple (meanings_of (ps ++ x ∷ []))) r)
tuple_ends ps outer x r = record {
  to = λ m k. tuple_ends_to ps outer x r m k;
  from = λ m k. AmongParts NoMore r tt refl (renamed outer _ _ m r (ap Tuple (sym (parts_onto-none ps x))) k);
}

-- no other mark follows a part
pub no_mark_in_tuple : (ps : List Meaning) (outer : List Opened) (x : Meaning) (a : ℕ) (r : List ℕ) → a ≢ 44 → a ≢ 125 → (m : Meaning) → Continues (InTuple ps ∷ outer) x (a ∷ r) m → ⊥
no_mark_in_tuple ps outer x a r h k m (AmongParts NoMore b l e n) = k (ap (λ bs. get_or bs 0 0) e)
no_mark_in_tuple ps outer x a r h k m (AmongParts (Also f o) b l e n) = h (ap (λ bs. get_or bs 0 0) e)

-- LISTS

list_onto-append : (hs : List Meaning) (x t : Meaning) → list_onto (hs ++ x ∷ []) t ≡ list_onto hs (Cons x t)
list_onto-append [] x t = refl
list_onto-append (h ∷ hs) x t = ap (λ w. Cons h w) (list_onto-append hs x t)

goes_into_list : (outer : List Opened) (r : List ℕ) (m : Meaning) → get_or r 0 0 ≢ 93 → (x : Meaning) (behind : List ℕ) → IsLawful x → 91 ∷ r ≡ text_of_term x ++ behind → Continues outer x behind m → Begins (InList [] ∷ outer) r m
goes_into_list outer r m other (Int n) behind l e k = absurd (list_first (Int n) r behind l e tt)
goes_into_list outer r m other (Atom t) behind l e k = absurd (list_first (Atom t) r behind l e tt)
goes_into_list outer r m other (Ref p n) behind l e k = absurd (list_first (Ref p n) r behind l e tt)
goes_into_list outer r m other (Pid p) behind l e k = absurd (list_first (Pid p) r behind l e tt)
goes_into_list outer r m other (Tuple parts) behind l e k = absurd (list_first (Tuple parts) r behind l e tt)
goes_into_list outer r m other Nil behind l e k = let same : r ≡ 93 ∷ behind = cc in absurd (other (ap (λ bs. get_or bs 0 0) same))
goes_into_list outer r m other (Cons h t) behind l e k =
    let same : r ≡ (text_of_term h ++ text_of_tail t) ++ behind = cc in
    record { term = h; behind = text_of_tail t ++ behind; lawful = l.0; text = same ∙ append_assoc (text_of_term h) (text_of_tail t) behind; next = AmongHeads t behind l.1 refl k }

goes_out_of_list : (outer : List Opened) (r : List ℕ) (m x : Meaning) (behind : List ℕ) → IsLawful x → r ≡ text_of_term x ++ behind → Continues (InList [] ∷ outer) x behind m → Begins outer (91 ∷ r) m
goes_out_of_list outer r m x behind l e (AmongHeads t b lt f k) =
    record { term = Cons x t; behind = b; lawful = (l, lt); text = ap (λ w. 91 ∷ w) (e ∙ ap (λ w. text_of_term x ++ w) f ∙ sym (append_assoc (text_of_term x) (text_of_tail t) b)); next = k }

-- an opening bracket, where the list has heads
pub into_list : (outer : List Opened) (r : List ℕ) → get_or r 0 0 ≢ 93 → IsSame (Begins outer (91 ∷ r)) (Begins (InList [] ∷ outer) r)
into_list outer r other = record {
  to = λ m p. goes_into_list outer r m other p.term p.behind p.lawful p.text p.next;
  from = λ m p. goes_out_of_list outer r m p.term p.behind p.lawful p.text p.next;
}

nil_to : (outer : List Opened) (r : List ℕ) (m : Meaning) (x : Meaning) (behind : List ℕ) → IsLawful x → 91 ∷ 93 ∷ r ≡ text_of_term x ++ behind → Continues outer x behind m → Continues outer Nil r m
nil_to outer r m (Int n) behind l e k = absurd (list_first (Int n) (93 ∷ r) behind l e tt)
nil_to outer r m (Atom t) behind l e k = absurd (list_first (Atom t) (93 ∷ r) behind l e tt)
nil_to outer r m (Ref p n) behind l e k = absurd (list_first (Ref p n) (93 ∷ r) behind l e tt)
nil_to outer r m (Pid p) behind l e k = absurd (list_first (Pid p) (93 ∷ r) behind l e tt)
nil_to outer r m (Tuple parts) behind l e k = absurd (list_first (Tuple parts) (93 ∷ r) behind l e tt)
nil_to outer r m Nil behind l e k = moved outer Nil m r behind (cc) k
nil_to outer r m (Cons h t) behind l e k =
    let same : 93 ∷ r ≡ (text_of_term h ++ text_of_tail t) ++ behind = cc in
    absurd (never_first h 93 r (text_of_tail t ++ behind) l.0 (omega arith) (omega arith) (omega arith) (same ∙ append_assoc (text_of_term h) (text_of_tail t) behind))

-- nil
pub nil_begins : (outer : List Opened) (r : List ℕ) → IsSame (Begins outer (91 ∷ 93 ∷ r)) (Continues outer Nil r)
nil_begins outer r = record {
  to = λ m p. nil_to outer r m p.term p.behind p.lawful p.text p.next;
  from = λ m k. record { term = Nil; behind = r; lawful = tt; text = refl; next = k };
}

comma_in_list_to : (hs : List Meaning) (outer : List Opened) (x : Meaning) (r : List ℕ) (m : Meaning) → Continues (InList hs ∷ outer) x (44 ∷ r) m → Begins (InList (hs ++ x ∷ []) ∷ outer) r m
comma_in_list_to hs outer x r m (AmongHeads (Int n) b l e k) = absurd (omega (arith, ap (λ bs. get_or bs 0 0) e))
comma_in_list_to hs outer x r m (AmongHeads (Atom t) b l e k) = absurd (omega (arith, ap (λ bs. get_or bs 0 0) e))
comma_in_list_to hs outer x r m (AmongHeads (Ref p n) b l e k) = absurd (omega (arith, ap (λ bs. get_or bs 0 0) e))
comma_in_list_to hs outer x r m (AmongHeads (Pid p) b l e k) = absurd (omega (arith, ap (λ bs. get_or bs 0 0) e))
comma_in_list_to hs outer x r m (AmongHeads (Tuple parts) b l e k) = absurd (omega (arith, ap (λ bs. get_or bs 0 0) e))
comma_in_list_to hs outer x r m (AmongHeads Nil b l e k) = absurd (omega (arith, ap (λ bs. get_or bs 0 0) e))
comma_in_list_to hs outer x r m (AmongHeads (Cons h t) b l e k) =
    let same : r ≡ (text_of_term h ++ text_of_tail t) ++ b = cc in
    record {
      term = h;
      behind = text_of_tail t ++ b;
      lawful = l.0;
      text = same ∙ append_assoc (text_of_term h) (text_of_tail t) b;
      next = AmongHeads t b l.1 refl (renamed outer _ _ m b (sym (list_onto-append hs x (Cons h t))) k);
    }

comma_in_list_from : (hs : List Meaning) (outer : List Opened) (x : Meaning) (r : List ℕ) (m h : Meaning) (behind : List ℕ) → IsLawful h → r ≡ text_of_term h ++ behind → Continues (InList (hs ++ x ∷ []) ∷ outer) h behind m → Continues (InList hs ∷ outer) x (44 ∷ r) m
comma_in_list_from hs outer x r m h behind l e (AmongHeads t b lt g k) =
    AmongHeads (Cons h t) b (l, lt) (ap (λ w. 44 ∷ w) (e ∙ ap (λ w. text_of_term h ++ w) g ∙ sym (append_assoc (text_of_term h) (text_of_tail t) b)))
    (renamed outer _ _ m b (list_onto-append hs x (Cons h t)) k)

-- a comma after a head
pub comma_in_list : (hs : List Meaning) (outer : List Opened) (x : Meaning) (r : List ℕ) → IsSame (Continues (InList hs ∷ outer) x (44 ∷ r)) (Begins (InList (hs ++ x ∷ []) ∷ outer) r)
comma_in_list hs outer x r = record {
  to = λ m k. comma_in_list_to hs outer x r m k;
  from = λ m p. comma_in_list_from hs outer x r m p.term p.behind p.lawful p.text p.next;
}

list_ends_to : (hs : List Meaning) (outer : List Opened) (x : Meaning) (r : List ℕ) (m : Meaning) → Continues (InList hs ∷ outer) x (93 ∷ r) m → Continues outer (list_onto hs (Cons x Nil)) r m
list_ends_to hs outer x r m (AmongHeads (Int n) b l e k) = absurd (omega (arith, ap (λ bs. get_or bs 0 0) e))
list_ends_to hs outer x r m (AmongHeads (Atom t) b l e k) = absurd (omega (arith, ap (λ bs. get_or bs 0 0) e))
list_ends_to hs outer x r m (AmongHeads (Ref p n) b l e k) = absurd (omega (arith, ap (λ bs. get_or bs 0 0) e))
list_ends_to hs outer x r m (AmongHeads (Pid p) b l e k) = absurd (omega (arith, ap (λ bs. get_or bs 0 0) e))
list_ends_to hs outer x r m (AmongHeads (Tuple parts) b l e k) = absurd (omega (arith, ap (λ bs. get_or bs 0 0) e))
list_ends_to hs outer x r m (AmongHeads Nil b l e k) = moved outer _ m r b (cc) k
list_ends_to hs outer x r m (AmongHeads (Cons h t) b l e k) = absurd (omega (arith, ap (λ bs. get_or bs 0 0) e))

-- a closing bracket after a head
pub list_ends : (hs : List Meaning) (outer : List Opened) (x : Meaning) (r : List ℕ) → IsSame (Continues (InList hs ∷ outer) x (93 ∷ r)) (Continues outer (list_onto hs (Cons x Nil)) r)
list_ends hs outer x r = record {
  to = λ m k. list_ends_to hs outer x r m k;
  from = λ m k. AmongHeads Nil r tt refl k;
}

-- a last tail comes after a bar
pub bar_text : (t : Meaning) (behind : List ℕ) → IsLast t → text_of_tail t ++ behind ≡ 124 ∷ (text_of_term t ++ 93 ∷ behind)
bar_text (Int n) behind k = ap (λ w. 124 ∷ w) (append_assoc (text_of_term (Int n)) (93 ∷ []) behind)
bar_text (Atom t) behind k = ap (λ w. 124 ∷ w) (append_assoc (text_of_term (Atom t)) (93 ∷ []) behind)
bar_text (Ref p n) behind k = ap (λ w. 124 ∷ w) (append_assoc (text_of_term (Ref p n)) (93 ∷ []) behind)
bar_text (Pid p) behind k = ap (λ w. 124 ∷ w) (append_assoc (text_of_term (Pid p)) (93 ∷ []) behind)
bar_text (Tuple parts) behind k = ap (λ w. 124 ∷ w) (append_assoc (text_of_term (Tuple parts)) (93 ∷ []) behind)
bar_text Nil behind k = absurd k
bar_text (Cons h t) behind k = absurd k

-- after a bar is a last tail
bar_last : (t : Meaning) (r behind : List ℕ) → 124 ∷ r ≡ text_of_tail t ++ behind → IsLast t
bar_last (Int n) r behind e = tt
bar_last (Atom t) r behind e = tt
bar_last (Ref p n) r behind e = tt
bar_last (Pid p) r behind e = tt
bar_last (Tuple parts) r behind e = tt
bar_last Nil r behind e = absurd (omega (arith, ap (λ bs. get_or bs 0 0) e))
bar_last (Cons h t) r behind e = absurd (omega (arith, ap (λ bs. get_or bs 0 0) e))

behind_bar_is : (t : Meaning) (r behind : List ℕ) → 124 ∷ r ≡ text_of_tail t ++ behind → r ≡ text_of_term t ++ 93 ∷ behind
behind_bar_is t r behind e = let k = e ∙ bar_text t behind (bar_last t r behind e) in cc

bar_to : (hs : List Meaning) (outer : List Opened) (x : Meaning) (r : List ℕ) (m : Meaning) → Continues (InList hs ∷ outer) x (124 ∷ r) m → Begins (InTail hs x ∷ outer) r m
bar_to hs outer x r m (AmongHeads t b l e k) = record { term = t; behind = 93 ∷ b; lawful = l; text = behind_bar_is t r b e; next = AsTail b refl k }

bar_from : (hs : List Meaning) (outer : List Opened) (x : Meaning) (r : List ℕ) (m t : Meaning) (behind : List ℕ) → get_or r 0 0 ≢ 91 → IsLawful t → r ≡ text_of_term t ++ behind → Continues (InTail hs x ∷ outer) t behind m → Continues (InList hs ∷ outer) x (124 ∷ r) m
bar_from hs outer x r m t behind other l e (AsTail b f k) =
    let last = last_first t r behind other e in
    AmongHeads t b l (ap (λ w. 124 ∷ w) (e ∙ ap (λ w. text_of_term t ++ w) f) ∙ sym (bar_text t b last)) k

-- a bar after a head
pub bar_in_list : (hs : List Meaning) (outer : List Opened) (x : Meaning) (r : List ℕ) → get_or r 0 0 ≢ 91 → IsSame (Continues (InList hs ∷ outer) x (124 ∷ r)) (Begins (InTail hs x ∷ outer) r)
bar_in_list hs outer x r other = record {
  to = λ m k. bar_to hs outer x r m k;
  from = λ m p. bar_from hs outer x r m p.term p.behind other p.lawful p.text p.next;
}

-- no list comes after a bar
pub no_list_behind_bar : (hs : List Meaning) (outer : List Opened) (x : Meaning) (r : List ℕ) (m : Meaning) → Continues (InList hs ∷ outer) x (124 ∷ 91 ∷ r) m → ⊥
no_list_behind_bar hs outer x r m (AmongHeads t b l e k) = list_first t r (93 ∷ b) l (behind_bar_is t (91 ∷ r) b e) (bar_last t (91 ∷ r) b e)

pub no_list_behind_bar_at : (hs : List Meaning) (outer : List Opened) (x : Meaning) (r list : List ℕ) → r ≡ 91 ∷ list → (m : Meaning) → Continues (InList hs ∷ outer) x (124 ∷ r) m → ⊥
no_list_behind_bar_at hs outer x r list e m k = no_list_behind_bar hs outer x list m (moved (InList hs ∷ outer) x m (124 ∷ 91 ∷ list) (124 ∷ r) (ap (λ w. 124 ∷ w) (sym e)) k)

-- no other mark follows a head
pub no_mark_in_list : (hs : List Meaning) (outer : List Opened) (x : Meaning) (a : ℕ) (r : List ℕ) → a ≢ 44 → a ≢ 93 → a ≢ 124 → (m : Meaning) → Continues (InList hs ∷ outer) x (a ∷ r) m → ⊥
no_mark_in_list hs outer x a r h k j m (AmongHeads (Int n) b l e q) = j (ap (λ bs. get_or bs 0 0) e)
no_mark_in_list hs outer x a r h k j m (AmongHeads (Atom t) b l e q) = j (ap (λ bs. get_or bs 0 0) e)
no_mark_in_list hs outer x a r h k j m (AmongHeads (Ref p n) b l e q) = j (ap (λ bs. get_or bs 0 0) e)
no_mark_in_list hs outer x a r h k j m (AmongHeads (Pid p) b l e q) = j (ap (λ bs. get_or bs 0 0) e)
no_mark_in_list hs outer x a r h k j m (AmongHeads (Tuple parts) b l e q) = j (ap (λ bs. get_or bs 0 0) e)
no_mark_in_list hs outer x a r h k j m (AmongHeads Nil b l e q) = k (ap (λ bs. get_or bs 0 0) e)
no_mark_in_list hs outer x a r h k j m (AmongHeads (Cons c t) b l e q) = h (ap (λ bs. get_or bs 0 0) e)

tail_ends_to : (hs : List Meaning) (h : Meaning) (outer : List Opened) (x : Meaning) (r : List ℕ) (m : Meaning) → Continues (InTail hs h ∷ outer) x (93 ∷ r) m → Continues outer (list_onto hs (Cons h x)) r m
tail_ends_to hs h outer x r m (AsTail b e k) = moved outer _ m r b (cc) k

-- a closing bracket after a last tail
pub tail_closes : (hs : List Meaning) (h : Meaning) (outer : List Opened) (x : Meaning) (r : List ℕ) → IsSame (Continues (InTail hs h ∷ outer) x (93 ∷ r)) (Continues outer (list_onto hs (Cons h x)) r)
tail_closes hs h outer x r = record {
  to = λ m k. tail_ends_to hs h outer x r m k;
  from = λ m k. AsTail r refl k;
}

pub no_mark_in_tail : (hs : List Meaning) (h : Meaning) (outer : List Opened) (x : Meaning) (a : ℕ) (r : List ℕ) → a ≢ 93 → (m : Meaning) → Continues (InTail hs h ∷ outer) x (a ∷ r) m → ⊥
no_mark_in_tail hs h outer x a r other m (AsTail b e k) = other (ap (λ bs. get_or bs 0 0) e)

-- LEAVES

leaf_to : (outer : List Opened) (rest : List ℕ) (x : Meaning) (behind left : List ℕ) → Reads rest x behind → IsAlike behind left → (m y : Meaning) (c : List ℕ) → IsLawful y → text_of_term x ++ left ≡ text_of_term y ++ c → Continues outer y c m → Continues outer x left m
leaf_to outer rest x behind left r alike m y c l e k =
    let low = leaf_byte x left r.leaf r.lawful in
    let leaf = leaf_first y (text_of_term x ++ left) c (omega (arith, low)) (omega (arith, low)) e in
    let same = r.only left y c alike leaf l (ends_of k) e in
    moved outer x m left c same.1 (renamed outer y x m c (sym same.0) k)

-- a leaf
pub leaf_begins : (outer : List Opened) (rest : List ℕ) (x : Meaning) (behind : List ℕ) → Reads rest x behind → (left : List ℕ) → IsAlike behind left → IsSame (Begins outer (text_of_term x ++ left)) (Continues outer x left)
leaf_begins outer rest x behind r left alike = record {
  to = λ m p. leaf_to outer rest x behind left r alike m p.term p.behind p.lawful p.text p.next;
  from = λ m k. record { term = x; behind = left; lawful = r.lawful; text = refl; next = k };
}

-- or none
pub no_leaf_begins : (outer : List Opened) (rest : List ℕ) → slice_index rest 0 ≢ 123 → slice_index rest 0 ≢ 91 → NoLeaf rest → (other : List ℕ) (m : Meaning) → item_of other ≡ item_of rest → Begins outer other m → ⊥
no_leaf_begins outer rest h j none other m item p =
    let alike = alike_items rest other item in
    none other p.term p.behind item (leaf_first p.term other p.behind (alike_other rest other 123 alike h) (alike_other rest other 91 alike j) p.text) p.lawful (ends_of p.next) p.text

-- DEPTH

parts_onto_high : (ps : List Meaning) (ms : Meanings) → height_over ms ≤ height_over (parts_onto ps ms)
parts_onto_high [] ms = omega arith
parts_onto_high (p ∷ ps) ms = omega (arith, parts_onto_high ps ms)

list_onto_high : (hs : List Meaning) (t : Meaning) → height t ≤ height (list_onto hs t)
list_onto_high [] t = omega arith
list_onto_high (h ∷ hs) t = omega (arith, list_onto_high hs t)

-- the whole is higher by all that is open
depth : {outer : List Opened} {x : Meaning} {rest : List ℕ} {m : Meaning} → Continues outer x rest m → length outer + height x ≤ height m
depth (AtEnd w e) = omega (arith, ap height w)
depth (AmongParts {parts = ps} {term = x} o b l e k) = omega (arith, depth k, parts_onto_high ps (Also x o))
depth (AmongHeads {heads = hs} {term = x} t b l e k) = omega (arith, depth k, list_onto_high hs (Cons x t))
depth (AsTail {heads = hs} {head = h} {term = x} b e k) = omega (arith, depth k, list_onto_high hs (Cons h x))

too_high : (o : Opened) (outer : List Opened) (rest : List ℕ) (m : Meaning) → Begins (o ∷ outer) rest m → 10000 ≤ length outer → 10000 < height m
too_high o outer rest m p h = omega (arith, depth p.next)

-- WHERE READING CAN GO ON

-- marks that close what is open
record Closing (outer : List Opened) (x : Meaning) : Type 0 where
  left : List ℕ
  whole : Meaning
  like : slice_index left 0 ≢ 91
  next : Continues outer x left whole

closing : (outer : List Opened) (x : Meaning) → Closing outer x
closing [] x = record { left = []; whole = x; like = omega arith; next = AtEnd refl refl }
closing (InTuple ps ∷ outer) x =
    let k = closing outer (Tuple (parts_onto ps (Also x NoMore))) in
    record { left = 125 ∷ k.left; whole = k.whole; like = omega arith; next = AmongParts NoMore k.left tt refl k.next }
closing (InList hs ∷ outer) x =
    let k = closing outer (list_onto hs (Cons x Nil)) in
    record { left = 93 ∷ k.left; whole = k.whole; like = omega arith; next = AmongHeads Nil k.left tt refl k.next }
closing (InTail hs h ∷ outer) x =
    let k = closing outer (list_onto hs (Cons h x)) in
    record { left = 93 ∷ k.left; whole = k.whole; like = omega arith; next = AsTail k.left refl k.next }

-- a 0 where a term is wanted
with_zero : (outer : List Opened) (left : List ℕ) (m : Meaning) → Continues outer (Int (pos 0)) left m → Begins outer (48 ∷ left) m
with_zero outer left m k = record { term = Int (pos 0); behind = left; lawful = refl; text = ap (λ w. w ++ left) (sym zero_text); next = k }

-- STEPS

-- for lack of memory all is refused
pub no_memory : (before : List ℕ → Meaning → Type 0) (rest text : List ℕ) → Refuses before rest text Memory
no_memory before rest text = record { place = tt; refuses = λ m b. tt }

-- where the item that is left can begin no term, there is a fault
pub bad_begins : (outer : List Opened) (rest text : List ℕ) (at : ℕ) → at + length rest ≡ length text + 1 → ((other : List ℕ) (m : Meaning) → item_of other ≡ item_of rest → Begins outer other m → ⊥) → Refuses (Begins outer) rest text (BadTerm at)
bad_begins outer rest text at e none =
    let k = closing outer (Int (pos 0)) in
    record {
      place = record {
        read = [];
        behind = rest;
        left = 48 ∷ k.left;
        term = k.whole;
        parts = refl;
        place = e;
        like = inr (omega arith);
        goes_on = with_zero outer k.left k.whole k.next;
        bad = none;
      };
      refuses = λ m b. none rest m refl b;
    }

bad_here : (outer : List Opened) (x : Meaning) (rest text : List ℕ) (at : ℕ) → at + length rest ≡ length text + 1 → ((other : List ℕ) (m : Meaning) → item_of other ≡ item_of rest → Continues outer x other m → ⊥) → BadAt (Continues outer x) rest text at
bad_here outer x rest text at e none =
    let k = closing outer x in
    record { read = []; behind = rest; left = k.left; term = k.whole; parts = refl; place = e; like = inr k.like; goes_on = k.next; bad = none }

-- and where nothing goes on with it
pub bad_continues : (outer : List Opened) (x : Meaning) (rest text : List ℕ) (at : ℕ) → at + length rest ≡ length text + 1 → ((other : List ℕ) (m : Meaning) → item_of other ≡ item_of rest → Continues outer x other m → ⊥) → Refuses (Continues outer x) rest text (BadTerm at)
bad_continues outer x rest text at e none = record { place = bad_here outer x rest text at e none; refuses = λ m b. none rest m refl b }

-- and after a bar
pub bad_bar : (hs : List Meaning) (outer : List Opened) (x : Meaning) (behind text : List ℕ) (at : ℕ) → at + length behind ≡ length text + 1 → ((other : List ℕ) (m : Meaning) → item_of other ≡ item_of behind → Continues (InList hs ∷ outer) x (124 ∷ other) m → ⊥) → Refuses (Continues (InList hs ∷ outer) x) (124 ∷ behind) text (BadTerm at)
bad_bar hs outer x behind text at e none =
    let k = closing (InTail hs x ∷ outer) (Int (pos 0)) in
    record {
      place = record {
        read = 124 ∷ [];
        behind = behind;
        left = 48 ∷ k.left;
        term = k.whole;
        parts = refl;
        place = e;
        like = inl refl;
        goes_on = (bar_in_list hs outer x (48 ∷ k.left) (omega arith)).from k.whole (with_zero (InTail hs x ∷ outer) k.left k.whole k.next);
        bad = none;
      };
      refuses = λ m b. none behind m refl b;
    }

-- what holds of a mark, whatever follows it, holds of the item
pub by_mark : (outer : List Opened) (x : Meaning) (a : ℕ) (r : List ℕ) → ((left : List ℕ) (m : Meaning) → Continues outer x (a ∷ left) m → ⊥) → (other : List ℕ) (m : Meaning) → item_of other ≡ item_of (a ∷ r) → Continues outer x other m → ⊥
by_mark outer x a r none [] m item k = absurd (alike_items (a ∷ r) [] item)
by_mark outer x a r none (b ∷ bs) m item k =
    let first : a ≡ b = alike_items (a ∷ r) (b ∷ bs) item in
    none bs m (moved outer x m (a ∷ bs) (b ∷ bs) (ap (λ c. c ∷ bs) first) k)

pub no_list_item : (hs : List Meaning) (outer : List Opened) (x : Meaning) (behind list : List ℕ) → behind ≡ 91 ∷ list → (other : List ℕ) (m : Meaning) → item_of other ≡ item_of behind → Continues (InList hs ∷ outer) x (124 ∷ other) m → ⊥
no_list_item hs outer x behind list e [] m item k = absurd (alike_items (91 ∷ list) [] (item ∙ ap item_of e))
no_list_item hs outer x behind list e (b ∷ bs) m item k =
    let first : 91 ≡ b = alike_items (91 ∷ list) (b ∷ bs) (item ∙ ap item_of e) in
    no_list_behind_bar_at hs outer x (b ∷ bs) bs (ap (λ c. c ∷ bs) (sym first)) m k

pub no_end_item : (o : Opened) (outer : List Opened) (x : Meaning) (rest : List ℕ) → rest ≡ [] → (other : List ℕ) (m : Meaning) → item_of other ≡ item_of rest → Continues (o ∷ outer) x other m → ⊥
no_end_item o outer x rest e other m item k = no_end_at o outer x other (item_none other (item ∙ ap item_of e)) m k

-- one more was too much
too_much : (o : Opened) (outer : List Opened) (mark : ℕ) (behind text : List ℕ) (fault : TermFault) → (mark ≡ 91) ⊎ (mark ≡ 123) → slice_index behind 0 ≢ closed_by mark → ((left : List ℕ) → slice_index left 0 ≢ closed_by mark → IsSame (Begins outer (mark ∷ left)) (Begins (o ∷ outer) left)) → ((left : List ℕ) (m : Meaning) → Begins (o ∷ outer) left m → Begins outer (mark ∷ left) m) → IsBefore behind text fault → IsTooMuch outer fault → Refuses (Begins outer) (mark ∷ behind) text fault
too_much o outer mark behind text (BadTerm at) opens stays into out p t = absurd t
too_much o outer mark behind text (TooDeep at) opens stays into out p t =
    let k = closing (o ∷ outer) (Int (pos 0)) in
    record {
      place = record {
        mark = mark;
        behind = behind;
        left = 48 ∷ k.left;
        term = k.whole;
        parts = refl;
        place = p;
        opens = opens;
        stays = stays;
        goes_on = out (48 ∷ k.left) k.whole (with_zero (o ∷ outer) k.left k.whole k.next);
        deep = λ other m free b. too_high o outer other m ((into other free).to m b) t;
      };
      refuses = λ m b. too_high o outer behind m ((into behind stays).to m b) t;
    }
too_much o outer mark behind text Memory opens stays into out p t = no_memory (Begins outer) (mark ∷ behind) text

-- a step that does not look at what is left
pub steps : (before : List ℕ → Meaning → Type 0) (rest : List ℕ) (state : State) (read : List ℕ) → rest ≡ read ++ rest_of state → length (rest_of state) < length rest → ((left : List ℕ) → IsSame (before (read ++ left)) (MeansAt state left)) → GoesOn before rest state
steps before rest state read e less s = record {
  read = read;
  parts = e;
  less = less;
  same = subst (λ (w : List ℕ). IsSame (before w) (Means state)) (sym e) (s (rest_of state));
  wider = λ left m like k. (s left).from m k;
  back = λ left m alike b. (s left).to m b;
}

-- into what a mark opens
pub goes_in : (o : Opened) (outer : List Opened) (mark : ℕ) (behind text : List ℕ) (result : Result State TermFault) → (mark ≡ 91) ⊎ (mark ≡ 123) → slice_index behind 0 ≢ closed_by mark → ((left : List ℕ) → slice_index left 0 ≢ closed_by mark → IsSame (Begins outer (mark ∷ left)) (Begins (o ∷ outer) left)) → ((left : List ℕ) (m : Meaning) → Begins (o ∷ outer) left m → Begins outer (mark ∷ left) m) → GoesIn outer o behind text result → Follows (Begins outer) (mark ∷ behind) text result
goes_in o outer mark behind text (Ok state) opens stays into out g = record {
  read = mark ∷ [];
  parts = ap (λ w. mark ∷ w) (sym g.1);
  less = omega (arith, ap length g.1);
  same = same_then _ _ _ (into behind stays) (subst (λ (w : List ℕ). IsSame (Begins (o ∷ outer) w) (Means state)) g.1 (g.0 (rest_of state)));
  wider = λ left m like k. out left m ((g.0 left).from m k);
  back = λ left m alike b. (g.0 left).to m ((into left (alike_other behind left (closed_by mark) (subst (λ (w : List ℕ). IsAlike w left) g.1 alike) stays)).to m b);
}
goes_in o outer mark behind text (Err fault) opens stays into out g = too_much o outer mark behind text fault opens stays into out g.0 g.1

pub out_of_tuple : (outer : List Opened) (left : List ℕ) (m : Meaning) → Begins (InTuple [] ∷ outer) left m → Begins outer (123 ∷ left) m
out_of_tuple outer left m p = goes_out_of_tuple outer left m p.term p.behind p.lawful p.text p.next

pub out_of_list : (outer : List Opened) (left : List ℕ) (m : Meaning) → Begins (InList [] ∷ outer) left m → Begins outer (91 ∷ left) m
out_of_list outer left m p = goes_out_of_list outer left m p.term p.behind p.lawful p.text p.next

-- a leaf
pub leaf_goes : (outer : List Opened) (rest : List ℕ) (x : Meaning) (behind : List ℕ) → Reads rest x behind → IsSame (Begins outer rest) (Continues outer x behind)
leaf_goes outer rest x behind r = subst (λ (w : List ℕ). IsSame (Begins outer w) (Continues outer x behind)) (sym r.parts) (leaf_begins outer rest x behind r behind (alike_self behind))

pub leaf_steps : (outer : List Opened) (rest : List ℕ) (x : Meaning) (behind : List ℕ) → Reads rest x behind → (left : List ℕ) (m : Meaning) → Continues outer x left m → Begins outer (text_of_term x ++ left) m
leaf_steps outer rest x behind r left m k = record { term = x; behind = left; lawful = r.lawful; text = refl; next = k }

like_other : (behind left : List ℕ) → IsLike behind left → slice_index behind 0 ≢ 91 → slice_index left 0 ≢ 91
like_other behind left (inl e) other = λ f. other (sym e ∙ f)
like_other behind left (inr h) other = h

pub opened_in-append : (outer : List Open) (last : Open) → opened_in (outer ++ last ∷ []) ≡ open_in last ∷ opened_in outer
opened_in-append [] last = refl
opened_in-append (o ∷ outer) last = ap (λ w. w ++ open_in o ∷ []) (opened_in-append outer last)

pub length-opened_in : (outer : List Open) → length (opened_in outer) ≡ length outer
length-opened_in [] = refl
length-opened_in (o ∷ outer) = omega (arith, length-append (opened_in outer) (open_in o ∷ []), length-opened_in outer)

-- WHOLE TEXTS

begins_whole : (text : List ℕ) (m x : Meaning) (behind : List ℕ) → IsLawful x → text ≡ text_of_term x ++ behind → Continues [] x behind m → HasText text m
begins_whole text m x behind l e (AtEnd w f) = (subst IsLawful (sym w) l, e ∙ ap (λ r. text_of_term x ++ r) f ∙ append-nil (text_of_term x) ∙ ap text_of_term (sym w))

-- at first nothing is open
pub whole_begins : (text : List ℕ) → IsSame (HasText text) (Begins [] text)
whole_begins text = record {
  to = λ m h. record { term = m; behind = []; lawful = h.0; text = h.1 ∙ sym (append-nil (text_of_term m)); next = AtEnd refl refl };
  from = λ m p. begins_whole text m p.term p.behind p.lawful p.text p.next;
}

-- at last nothing is left
pub whole_ends : (x m : Meaning) → Continues [] x [] m → x ≡ m
whole_ends x m (AtEnd w e) = sym w

pub not_ended : (x m : Meaning) (rest : List ℕ) → rest ≢ [] → Continues [] x rest m → ⊥
not_ended x m rest other (AtEnd w e) = other e

-- what a step needs of the code: what was put on the stack, and what was made
pub marked : (outer : List Opened) (x : Meaning) (mark n : ℕ) (r : List ℕ) (after : Meaning → Type 0) → mark ≡ n → IsSame (Continues outer x (n ∷ r)) after → IsSame (Continues outer x (mark ∷ r)) after
marked outer x mark n r after e s = subst (λ (k : ℕ). IsSame (Continues outer x (k ∷ r)) after) (sym e) s

pub wanted : (before : Meaning → Type 0) (o : Opened) (outer new : List Open) (next : Open) (r : List ℕ) → new ≡ outer ++ next ∷ [] → open_in next ≡ o → IsSame before (Begins (o ∷ opened_in outer) r) → IsSame before (Begins (opened_in new) r)
wanted before o outer new next r e f s =
    subst (λ (w : List Opened). IsSame before (Begins w r)) (sym (ap opened_in e ∙ opened_in-append outer next ∙ ap (λ w. w ∷ opened_in outer) f)) s

pub found : (before : Meaning → Type 0) (outer : List Opened) (x made : Meaning) (r : List ℕ) → made ≡ x → IsSame before (Continues outer x r) → IsSame before (Continues outer made r)
found before outer x made r e s = subst (λ (w : Meaning). IsSame before (Continues outer w r)) (sym e) s

pub same_self : (P : Meaning → Type 0) → IsSame P P
same_self P = record { to = λ m p. p; from = λ m p. p }

-- a bar, after which no bracket comes
pub bar_steps : (hs : List Meaning) (x : Meaning) (outer new : List Open) (next : Open) (behind : List ℕ) → new ≡ outer ++ next ∷ [] → open_in next ≡ InTail hs x → slice_index behind 0 ≢ 91 → (left : List ℕ) (m : Meaning) → IsLike behind left → Begins (opened_in new) left m → Continues (InList hs ∷ opened_in outer) x (124 ∷ left) m
bar_steps hs x outer new next behind e f other left m like k =
    (wanted _ (InTail hs x) outer new next left e f (bar_in_list hs (opened_in outer) x left (like_other behind left like other))).from m k

pub bar_back : (hs : List Meaning) (x : Meaning) (outer new : List Open) (next : Open) (behind : List ℕ) → new ≡ outer ++ next ∷ [] → open_in next ≡ InTail hs x → slice_index behind 0 ≢ 91 → (left : List ℕ) (m : Meaning) → IsAlike behind left → Continues (InList hs ∷ opened_in outer) x (124 ∷ left) m → Begins (opened_in new) left m
bar_back hs x outer new next behind e f other left m alike k =
    (wanted _ (InTail hs x) outer new next left e f (bar_in_list hs (opened_in outer) x left (alike_other behind left 91 alike other))).to m k

-- A WHOLE READING

pub nothing : {X : Type 0} (xs : List X) → length xs ≡ 0 → xs ≡ []
nothing [] e = refl
nothing (x ∷ xs) e = absurd (omega arith)

pub starts : (text : List ℕ) (outer : List Open) → outer ≡ [] → (left : List ℕ) → IsSame (HasText left) (Begins (opened_in outer) left)
starts text outer e left = subst (λ (w : List Open). IsSame (HasText left) (Begins (opened_in w) left)) (sym e) (whole_begins left)

shorter : (rest read behind : List ℕ) → rest ≡ read ++ behind → length behind < length rest → 0 < length read
shorter rest read behind e less = omega (arith, ap length e, length-append read behind)

has_text : (a b c : List ℕ) (m : Meaning) → HasText (a ++ (b ++ c)) m → HasText ((a ++ b) ++ c) m
has_text a b c m h = (h.0, append_assoc a b c ∙ h.1)

texts_back : (a b c : List ℕ) (m : Meaning) → HasText ((a ++ b) ++ c) m → HasText (a ++ (b ++ c)) m
texts_back a b c m h = (h.0, sym (append_assoc a b c) ∙ h.1)

-- a step of a reading
pub holds_then : (text : List ℕ) (state reached : State) → Holds text state → GoesOn (MeansAt state) (rest_of state) reached → Holds text reached
holds_then text state reached h g =
    let alike : (left : List ℕ) → IsAlike (rest_of state) (g.read ++ left) = λ left. subst (λ (w : List ℕ). IsAlike w (g.read ++ left)) (sym g.parts) (alike_after g.read (rest_of reached) left (shorter (rest_of state) g.read (rest_of reached) g.parts g.less)) in
    record {
      read = h.read ++ g.read;
      parts = h.parts ∙ ap (λ w. h.read ++ w) g.parts ∙ sym (append_assoc h.read g.read (rest_of reached));
      within = omega (arith, h.within, g.less);
      same = same_then _ _ _ h.same g.same;
      wider = λ left m like k. has_text h.read g.read left m (h.wider (g.read ++ left) m (inl (alike_index (rest_of state) (g.read ++ left) (alike left))) (g.wider left m like k));
      back = λ left m is b. g.back left m is (h.back (g.read ++ left) m (alike left) (texts_back h.read g.read left m b));
    }

no_ok : {X Y : Type 0} {x : X} {y : Y} → ◌≡◌ {A = Result X Y} (Err y) (Ok x) → ⊥
no_ok e = cc

no_err : {X Y : Type 0} {x : X} {y : Y} → ◌≡◌ {A = Result X Y} (Ok x) (Err y) → ⊥
no_err e = cc

pub holds_on : (text : List ℕ) (state reached : State) (result : Result State TermFault) → Holds text state → Follows (MeansAt state) (rest_of state) text result → result ≡ Ok reached → Holds text reached
holds_on text state reached (Ok s) h f e = let same : s ≡ reached = cc in subst (Holds text) same (holds_then text state s h f)
holds_on text state reached (Err fault) h f e = absurd (no_ok e)

pub refused_on : (text : List ℕ) (state : State) (fault : TermFault) (result : Result State TermFault) → Holds text state → Follows (MeansAt state) (rest_of state) text result → result ≡ Err fault → (m : Meaning) → IsLawful m → text ≡ text_of_term m → MayRefuse m fault
refused_on text state fault (Ok s) h f e = absurd (no_err e)
refused_on text state fault (Err g) h f e = λ m l t. let same : g ≡ fault = cc in subst (MayRefuse m) same (f.refuses m (h.same.to m (l, t)))

deep_at : (text : List ℕ) (state : State) (at : ℕ) → Holds text state → DeepAt (MeansAt state) (rest_of state) text at → IsTooDeep text at
deep_at text state at h p =
    let parts : text ≡ h.read ++ p.mark ∷ p.behind = h.parts ∙ ap (λ w. h.read ++ w) p.parts in
    let alike : (left : List ℕ) → IsAlike (rest_of state) (p.mark ∷ left) = λ left. subst (λ (w : List ℕ). IsAlike w (p.mark ∷ left)) (sym p.parts) refl in
    let has = has_text h.read (p.mark ∷ []) p.left p.term (h.wider (p.mark ∷ p.left) p.term (inl (alike_index (rest_of state) (p.mark ∷ p.left) (alike p.left))) p.goes_on) in
    record {
      before = h.read;
      mark = p.mark;
      behind = p.behind;
      parts = parts;
      place = omega (arith, p.place, ap length parts, length-append h.read (p.mark ∷ p.behind));
      opens = p.opens;
      stays = p.stays;
      goes_on = record { rest = p.left; term = p.term; lawful = has.0; text = has.1 };
      deep = λ rest term free l e. p.deep rest term free (h.back (p.mark ∷ rest) term (alike rest) (l, e));
    }

fault_at : (text : List ℕ) (state : State) (at : ℕ) → Holds text state → BadAt (MeansAt state) (rest_of state) text at → IsFault text at
fault_at text state at h p =
    let parts : text ≡ (h.read ++ p.read) ++ p.behind = h.parts ∙ ap (λ w. h.read ++ w) p.parts ∙ sym (append_assoc h.read p.read p.behind) in
    let has = has_text h.read p.read p.left p.term (h.wider (p.read ++ p.left) p.term p.like p.goes_on) in
    record {
      before = h.read ++ p.read;
      behind = p.behind;
      parts = parts;
      place = omega (arith, p.place, ap length parts, length-append (h.read ++ p.read) p.behind);
      goes_on = record { rest = p.left; term = p.term; lawful = has.0; text = has.1 };
      bad = λ other m item l e.
          let alike = subst (λ (w : List ℕ). IsAlike w (p.read ++ other)) (sym p.parts) (alike_under p.read p.behind other item) in
          p.bad other m item (h.back (p.read ++ other) m alike (texts_back h.read p.read other m (l, e)));
    }

pub fault_place : (text : List ℕ) (state : State) (fault : TermFault) → Holds text state → Lies (MeansAt state) (rest_of state) text fault → HasPlace text fault
fault_place text state (BadTerm at) h p = fault_at text state at h p
fault_place text state (TooDeep at) h p = deep_at text state at h p
fault_place text state Memory h p = tt

pub place_on : (text : List ℕ) (state : State) (fault : TermFault) (result : Result State TermFault) → Holds text state → Follows (MeansAt state) (rest_of state) text result → result ≡ Err fault → HasPlace text fault
place_on text state fault (Ok s) h f e = absurd (no_err e)
place_on text state fault (Err g) h f e = let same : g ≡ fault = cc in subst (HasPlace text) same (fault_place text state g h f.place)

-- what was in what was opened last
pub popped : (outer left : List Open) (last : Open) (x : Meaning) (rest text : List ℕ) (result : Result State TermFault) → outer ≡ left ++ last ∷ [] → Follows (Continues (open_in last ∷ opened_in left) x) rest text result → Follows (Continues (opened_in outer) x) rest text result
popped outer left last x rest text result e f = subst (λ (w : List Opened). Follows (Continues w x) rest text result) (sym (ap opened_in e ∙ opened_in-append left last)) f

whole_of : (text : List ℕ) (outer : List Open) (x : Meaning) (rest : List ℕ) → IsSame (HasText text) (Continues (opened_in outer) x rest) → length outer ≡ 0 → IsSame (HasText text) (Continues [] x rest)
whole_of text outer x rest s e = subst (λ (w : List Open). IsSame (HasText text) (Continues (opened_in w) x rest)) (nothing outer e) s

pub ended_ok : (text : List ℕ) (outer : List Open) (x : Meaning) (rest : List ℕ) (result : Result Term TermFault) → IsSame (HasText text) (Continues (opened_in outer) x rest) → length outer ≡ 0
    → IfOk result (λ read. (meaning_of read ≡ x) × (rest ≡ [])) → IfOk result (λ read. IsLawful (meaning_of read) × (text ≡ text_of_term (meaning_of read)))
ended_ok text outer x rest (Ok read) s e h = (whole_of text outer x rest s e).from (meaning_of read) (AtEnd h.0 h.1)
ended_ok text outer x rest (Err fault) s e h = tt

pub ended_only : (text : List ℕ) (outer : List Open) (x : Meaning) (rest : List ℕ) (result : Result Term TermFault) (at : ℕ) → IsSame (HasText text) (Continues (opened_in outer) x rest) → length outer ≡ 0
    → IfOk result (λ read. (meaning_of read ≡ x) × (rest ≡ [])) → IfErr result (λ fault. (rest ≢ []) × (fault ≡ BadTerm at))
    → (m : Meaning) → IsLawful m → text ≡ text_of_term m → MatchResult result (λ read. meaning_of read ≡ m) (λ fault. MayRefuse m fault)
ended_only text outer x rest (Ok read) at s e h g = λ m l t.
    let k = (whole_of text outer x rest s e).to m (l, t) in
    h.0 ∙ whole_ends x m (moved [] x m [] rest (sym h.1) k)
ended_only text outer x rest (Err fault) at s e h g = λ m l t. absurd (not_ended x m rest g.0 ((whole_of text outer x rest s e).to m (l, t)))

-- where a term ends, nothing else may follow
only_end : (outer : List Open) (x : Meaning) (rest : List ℕ) → length outer ≡ 0 → rest ≢ [] → (other : List ℕ) (m : Meaning) → item_of other ≡ item_of rest → Continues (opened_in outer) x other m → ⊥
only_end outer x rest none some other m item k =
    let alone = subst (λ (w : List Open). Continues (opened_in w) x other m) (nothing outer none) k in
    not_ended x m other (λ e. some (item_none rest (sym item ∙ ap item_of e))) alone

pub ended_place : (text : List ℕ) (state : State) (outer : List Open) (x : Meaning) (rest : List ℕ) (result : Result Term TermFault) (at : ℕ) → Holds text state → ((left : List ℕ) (m : Meaning) → Continues (opened_in outer) x left m → MeansAt state left m) → ((left : List ℕ) (m : Meaning) → MeansAt state left m → Continues (opened_in outer) x left m) → rest_of state ≡ rest → length outer ≡ 0 → at + length rest ≡ length text + 1 → IfErr result (λ fault. (rest ≢ []) × (fault ≡ BadTerm at)) → IfErr result (λ fault. HasPlace text fault)
ended_place text state outer x rest (Ok read) at h into out same none e g = tt
ended_place text state outer x rest (Err fault) at h into out same none e g =
    let b = bad_here (opened_in outer) x rest text at e (only_end outer x rest none g.0) in
    let there : BadAt (MeansAt state) (rest_of state) text at = record {
      read = b.read;
      behind = b.behind;
      left = b.left;
      term = b.term;
      parts = same ∙ b.parts;
      place = b.place;
      like = subst (λ (w : List ℕ). IsLike w (b.read ++ b.left)) (sym same) b.like;
      goes_on = into (b.read ++ b.left) b.term b.goes_on;
      bad = λ other m item k. b.bad other m item (out (b.read ++ other) m k);
    } in
    subst (HasPlace text) (sym g.1) (fault_at text state at h there)
