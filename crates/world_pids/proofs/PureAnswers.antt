-- What a process answers by itself has no other pids than its arguments, and its own.
use Rattle.std.proofs.Common.{ℕ, ℤ, Bool, true, false, ◌&&◌, List, [], ◌∷◌, map, reverse, length, if◌then◌else◌}
use Rattle.std.specs.List.{slice_get, slice_set}
use Rattle.std.specs.Int.{w64, int_bit_and, int_bit_or, int_bit_xor, int_bit_not}
use Rattle.std.specs.Ordering.{int_eq}
use Rattle.std.specs.Prelude.{pos, Option, Some, None, nat_lt, unsigned_abs, int_div, int_rem, neg_ℤ, ◌+ℤ◌, ◌-ℤ◌, ◌*ℤ◌, codes, not, ◌||◌}
use Rattle.std.specs.Bool.{beq}
use Rattle.core_calls.specs.declared.pure.PureCall.{PureCall}
use Rattle.core_calls.specs.declared.pure.PureCall.TheVariants as calls
use Rattle.term_core.specs.Integers.{has_64_bits}
use Rattle.term_core.proofs.Pieces.{all-append}
use Rattle.term_core.specs.Meaning.{Meaning, Int, Atom, Tuple, Nil, Cons, meanings_of, parts_of}
use Rattle.term_core.specs.Term.{list_onto}
use Rattle.term_core.specs.Kinds.{tuple_in}
use Rattle.core_pure_calls.specs.Answers.{Answer, Value, truth, error, whole, wrong_argument, integer_in}
use Rattle.core_pure_calls.specs.Arithmetic.{wrong_number, with_integers, with_integer, quotient_of, remainder_of}
use Rattle.core_pure_calls.specs.Calls.{answer_of, answer_to_none, answer_to_one, answer_to_two, answer_to_three, kept_by}
use Rattle.core_pure_calls.specs.Dictionary.{Dictionary, above, below, keys_with, pair_of, value_of}
use Rattle.core_pure_calls.specs.Comparing.{boolean_in, with_boolean, with_booleans, are_equal, is_greater, is_less}
use Rattle.core_pure_calls.specs.Kinds.{is_atom, record_asked}
use Rattle.core_pure_calls.specs.Lists.{heads_of, is_proper, without_each, without_first, one_equals, head_of, tail_of, list_of}
use Rattle.core_pure_calls.specs.Tuples.{with_tuple, part_or_error, part_behind, replaced_behind, before_place}
use Rattle.world_pids.specs.Numbers.{IsNumbered}
use Rattle.world_pids.proofs.Told.{IfThere, chosen, all_reversed, one_got, all_set, IsTold, EachTold, GivesTold, KeptTold, tuple_told, parts_told, onto_told, heads_told}

module _ (n : ℕ) where
  truth_told : (b : Bool) → IsTold n (truth b)
  truth_told b = chosen (IsTold n) b (Atom (codes "true")) (Atom (codes "false")) tt tt

  whole_told : (z : ℤ) → GivesTold n (whole z)
  whole_told z = chosen (GivesTold n) (has_64_bits z) (Value (Int z)) (error (codes "system_limit")) tt tt

  -- ---- integers and booleans

  integers_told : (f : ℤ → ℤ → Answer) → ((x y : ℤ) → GivesTold n (f x y)) → (o p : Option ℤ) → GivesTold n (with_integers f o p)
  integers_told f each (Some x) (Some y) = each x y
  integers_told f each (Some x) None = tt
  integers_told f each None p = tt

  integer_told : (f : ℤ → Answer) (other : Answer) → ((x : ℤ) → GivesTold n (f x)) → GivesTold n other → (o : Option ℤ) → GivesTold n (with_integer f other o)
  integer_told f other each h (Some x) = each x
  integer_told f other each h None = h

  quotient_told : (x y : ℤ) → GivesTold n (quotient_of x y)
  quotient_told x y = chosen (GivesTold n) (int_eq y (pos 0)) wrong_number (whole (int_div x y)) tt (whole_told (int_div x y))

  remainder_told : (x y : ℤ) → GivesTold n (remainder_of x y)
  remainder_told x y = chosen (GivesTold n) (int_eq y (pos 0)) wrong_number (Value (Int (int_rem x y))) tt tt

  booleans_told : (f : Bool → Bool → Bool) (o p : Option Bool) → GivesTold n (with_booleans f o p)
  booleans_told f (Some x) (Some y) = truth_told (f x y)
  booleans_told f (Some x) None = tt
  booleans_told f None p = tt

  boolean_told : (f : Bool → Bool) (o : Option Bool) → GivesTold n (with_boolean f o)
  boolean_told f (Some x) = truth_told (f x)
  boolean_told f None = tt

  record_told : (b : Bool) (tag : Meaning) (o : Option ℤ) (m : Meaning) → GivesTold n (record_asked b tag o m)
  record_told true tag (Some size) m = truth_told _
  record_told true tag None m = tt
  record_told false tag o m = tt

  -- ---- tuples

  in_tuple : (f : List Meaning → Answer) → ((parts : List Meaning) → EachTold n parts → GivesTold n (f parts)) → (m : Meaning) → IsTold n m → GivesTold n (with_tuple f (tuple_in m))
  in_tuple f each (Tuple parts) h = each (parts_of parts) (parts_told n parts h)
  in_tuple f each m h = tt

  part_told : (o : Option Meaning) → IfThere (IsTold n) o → GivesTold n (part_or_error o)
  part_told (Some m) h = h
  part_told None h = tt

  behind_told : (o : Option ℕ) (parts : List Meaning) → EachTold n parts → GivesTold n (part_behind o parts)
  behind_told (Some i) parts h = part_told (slice_get parts i) (one_got (IsTold n) parts i h)
  behind_told None parts h = tt

  replaced_told : (o : Option ℕ) (parts : List Meaning) (m : Meaning) → EachTold n parts → IsTold n m → GivesTold n (replaced_behind o parts m)
  replaced_told (Some i) parts m h t = tuple_told n (slice_set parts i m) (all_set (IsTold n) parts i m h t)
  replaced_told None parts m h t = tt

  -- ---- lists

  head_told : (m : Meaning) → IsTold n m → GivesTold n (head_of m)
  head_told (Cons head tail) h = h.0
  head_told m h = tt

  tail_told : (m : Meaning) → IsTold n m → GivesTold n (tail_of m)
  tail_told (Cons head tail) h = h.1
  tail_told m h = tt

  if_proper : (m : Meaning) (x y : Answer) → GivesTold n x → GivesTold n y → GivesTold n (if is_proper m then x else y)
  if_proper m x y p q = chosen (GivesTold n) (is_proper m) x y p q

  without_told : (m : Meaning) (items : List Meaning) → EachTold n items → EachTold n (without_first m items)
  without_told m [] h = tt
  without_told m (item ∷ items) h = chosen (EachTold n) (are_equal item m) items (item ∷ without_first m items) h.1 (h.0, without_told m items h.1)

  without_all_told : (ms items : List Meaning) → EachTold n items → EachTold n (without_each ms items)
  without_all_told [] items h = h
  without_all_told (m ∷ ms) items h = without_all_told ms (without_first m items) (without_told m items h)

  list_told : (items : List Meaning) → EachTold n items → IsTold n (list_of items)
  list_told items h = onto_told n items Nil h tt

  subtracted_told : (b : Bool) (a c : Meaning) → IsTold n a → GivesTold n (if b then Value (list_of (without_each (heads_of c) (heads_of a))) else wrong_argument)
  subtracted_told b a c h = chosen (GivesTold n) b (Value (list_of (without_each (heads_of c) (heads_of a)))) wrong_argument (list_told _ (without_all_told (heads_of c) (heads_of a) (heads_told n a h))) tt

  reversed_told : (a : Meaning) → IsTold n a → GivesTold n (if is_proper a then Value (list_of (reverse (heads_of a))) else (if nat_lt (length (heads_of a)) 2 then error (codes "function_clause") else wrong_argument))
  reversed_told a h =
      if_proper a (Value (list_of (reverse (heads_of a)))) _ (list_told _ (all_reversed (IsTold n) (heads_of a) (heads_told n a h)))
      (chosen (GivesTold n) (nat_lt (length (heads_of a)) 2) (error (codes "function_clause")) wrong_argument tt tt)

  member_told : (a b : Meaning) → GivesTold n (if one_equals a (heads_of b) then Value (truth true) else (if is_proper b then Value (truth false) else wrong_argument))
  member_told a b = chosen (GivesTold n) (one_equals a (heads_of b)) (Value (truth true)) _ tt (if_proper b (Value (truth false)) wrong_argument tt tt)

  -- ---- the process dictionary

  -- an entry
  abbrev EntryTold : Meaning × Meaning → Type 0
  EntryTold e = IsTold n e.0 × IsTold n e.1

  value_told : (key : Meaning) (d : Dictionary) → KeptTold n d → IsTold n (value_of key d)
  value_told key [] h = tt
  value_told key (e ∷ es) h = chosen (IsTold n) (are_equal e.0 key) e.1 (value_of key es) h.0.1 (value_told key es h.1)

  below_told : (key : Meaning) (d : Dictionary) → KeptTold n d → KeptTold n (below key d)
  below_told key [] h = tt
  below_told key (e ∷ es) h = chosen (KeptTold n) (is_less e.0 key) (e ∷ below key es) (below key es) (h.0, below_told key es h.1) (below_told key es h.1)

  above_told : (key : Meaning) (d : Dictionary) → KeptTold n d → KeptTold n (above key d)
  above_told key [] h = tt
  above_told key (e ∷ es) h = chosen (KeptTold n) (is_greater e.0 key) (e ∷ above key es) (above key es) (h.0, above_told key es h.1) (above_told key es h.1)

  pairs_told : (d : Dictionary) → KeptTold n d → EachTold n (map pair_of d)
  pairs_told [] h = tt
  pairs_told (e ∷ es) h = ((h.0.0, (h.0.1, tt)), pairs_told es h.1)

  keys_told : (d : Dictionary) → KeptTold n d → EachTold n (map (λ (e : Meaning × Meaning). e.0) d)
  keys_told [] h = tt
  keys_told (e ∷ es) h = (h.0.0, keys_told es h.1)

  keys_with_told : (value : Meaning) (d : Dictionary) → KeptTold n d → EachTold n (keys_with value d)
  keys_with_told value [] h = tt
  keys_with_told value (e ∷ es) h = chosen (EachTold n) (are_equal e.1 value) (e.0 ∷ keys_with value es) (keys_with value es) (h.0.0, keys_with_told value es h.1) (keys_with_told value es h.1)

  pub kept_told : (call : PureCall) (arguments : List Meaning) (d : Dictionary) → EachTold n arguments → KeptTold n d → KeptTold n (kept_by call arguments d)
  kept_told calls.Put (key ∷ value ∷ []) d h k = all-append EntryTold (below key d) ((key, value) ∷ above key d) (below_told key d k) ((h.0, h.1.0), above_told key d k)
  kept_told calls.Erase (key ∷ []) d h k = all-append EntryTold (below key d) (above key d) (below_told key d k) (above_told key d k)
  kept_told calls.EraseAll [] d h k = tt
  kept_told call arguments d h k = k

  -- ---- the calls

  one_told : (d : Dictionary) (call : PureCall) (a : Meaning) → KeptTold n d → IsTold n a → GivesTold n (answer_to_one d call a)
  one_told d calls.Keep a k h = integer_told (λ x. Value (Int x)) wrong_number (λ x. tt) tt (integer_in a)
  one_told d calls.Negate a k h = integer_told (λ x. whole (neg_ℤ x)) wrong_number (λ x. whole_told (neg_ℤ x)) tt (integer_in a)
  one_told d calls.Absolute a k h = integer_told (λ x. whole (pos (unsigned_abs x))) wrong_argument (λ x. whole_told (pos (unsigned_abs x))) tt (integer_in a)
  one_told d calls.BitNot a k h = integer_told (λ x. Value (Int (int_bit_not w64 x))) wrong_number (λ x. tt) tt (integer_in a)
  one_told d calls.Not a k h = boolean_told not (boolean_in a)
  one_told d calls.IsInteger a k h = truth_told _
  one_told d calls.IsNumber a k h = truth_told _
  one_told d calls.IsAtom a k h = truth_told _
  one_told d calls.IsBoolean a k h = truth_told _
  one_told d calls.IsTuple a k h = truth_told _
  one_told d calls.IsList a k h = truth_told _
  one_told d calls.IsPid a k h = truth_told _
  one_told d calls.IsReference a k h = truth_told _
  one_told d calls.IsFloat a k h = tt
  one_told d calls.IsBinary a k h = tt
  one_told d calls.TupleSize a k h = in_tuple _ (λ parts t. whole_told (pos (length parts))) a h
  one_told d calls.Head a k h = head_told a h
  one_told d calls.Tail a k h = tail_told a h
  one_told d calls.Length a k h = if_proper a (whole (pos (length (heads_of a)))) wrong_argument (whole_told (pos (length (heads_of a)))) tt
  one_told d calls.TupleToList a k h = in_tuple _ (λ parts t. list_told parts t) a h
  one_told d calls.ListToTuple a k h = if_proper a (Value (Tuple (meanings_of (heads_of a)))) wrong_argument (tuple_told n (heads_of a) (heads_told n a h)) tt
  one_told d calls.Error a k h = h
  one_told d calls.Exit a k h = h
  one_told d calls.Throw a k h = h
  one_told d calls.Reverse a k h = reversed_told a h
  one_told d calls.Get a k h = value_told a d k
  one_told d calls.Erase a k h = value_told a d k
  one_told d calls.GetKeysOf a k h = list_told _ (keys_with_told a d k)
  one_told d call a k h = tt

  two_told : (d : Dictionary) (call : PureCall) (a b : Meaning) → KeptTold n d → IsTold n a → IsTold n b → GivesTold n (answer_to_two d call a b)
  two_told d calls.Add a b e h k = integers_told (λ x y. whole (x +ℤ y)) (λ x y. whole_told (x +ℤ y)) (integer_in a) (integer_in b)
  two_told d calls.Subtract a b e h k = integers_told (λ x y. whole (x -ℤ y)) (λ x y. whole_told (x -ℤ y)) (integer_in a) (integer_in b)
  two_told d calls.Multiply a b e h k = integers_told (λ x y. whole (x *ℤ y)) (λ x y. whole_told (x *ℤ y)) (integer_in a) (integer_in b)
  two_told d calls.Divide a b e h k = integers_told quotient_of quotient_told (integer_in a) (integer_in b)
  two_told d calls.Remainder a b e h k = integers_told remainder_of remainder_told (integer_in a) (integer_in b)
  two_told d calls.BitAnd a b e h k = integers_told (λ x y. Value (Int (int_bit_and w64 x y))) (λ x y. tt) (integer_in a) (integer_in b)
  two_told d calls.BitOr a b e h k = integers_told (λ x y. Value (Int (int_bit_or w64 x y))) (λ x y. tt) (integer_in a) (integer_in b)
  two_told d calls.BitXor a b e h k = integers_told (λ x y. Value (Int (int_bit_xor w64 x y))) (λ x y. tt) (integer_in a) (integer_in b)
  two_told d calls.Equal a b e h k = truth_told _
  two_told d calls.NotEqual a b e h k = truth_told _
  two_told d calls.Same a b e h k = truth_told _
  two_told d calls.NotSame a b e h k = truth_told _
  two_told d calls.Less a b e h k = truth_told _
  two_told d calls.AtMost a b e h k = truth_told _
  two_told d calls.Greater a b e h k = truth_told _
  two_told d calls.AtLeast a b e h k = truth_told _
  two_told d calls.And a b e h k = booleans_told ◌&&◌ (boolean_in a) (boolean_in b)
  two_told d calls.Or a b e h k = booleans_told ◌||◌ (boolean_in a) (boolean_in b)
  two_told d calls.Xor a b e h k = booleans_told (λ x y. not (beq x y)) (boolean_in a) (boolean_in b)
  two_told d calls.Element a b e h k = in_tuple _ (λ parts t. behind_told (before_place (integer_in a) (length parts)) parts t) b k
  two_told d calls.Append a b e h k = if_proper a (Value (list_onto (heads_of a) b)) wrong_argument (onto_told n (heads_of a) b (heads_told n a h) k) tt
  two_told d calls.Without a b e h k = subtracted_told (is_proper a && is_proper b) a b h
  two_told d calls.ErrorWith a b e h k = h
  two_told d calls.Member a b e h k = member_told a b
  two_told d calls.AppendLists a b e h k = if_proper a (Value (list_onto (heads_of a) b)) wrong_argument (onto_told n (heads_of a) b (heads_told n a h) k) tt
  two_told d calls.Put a b e h k = value_told a d e
  two_told d call a b e h k = tt

  three_told : (call : PureCall) (a b c : Meaning) → IsTold n b → IsTold n c → GivesTold n (answer_to_three call a b c)
  three_told calls.IsRecord a b c k l = record_told (is_atom b) b (integer_in c) a
  three_told calls.SetElement a b c k l = in_tuple _ (λ parts t. replaced_told (before_place (integer_in a) (length parts)) parts c t l) b k
  three_told call a b c k l = tt

  none_told : (own : List ℕ) (d : Dictionary) (call : PureCall) → IsNumbered n own → KeptTold n d → GivesTold n (answer_to_none own d call)
  none_told own d calls.OwnPid h k = h
  none_told own d calls.GetAll h k = list_told (map pair_of d) (pairs_told d k)
  none_told own d calls.EraseAll h k = list_told (map pair_of d) (pairs_told d k)
  none_told own d calls.GetKeys h k = list_told (map (λ (e : Meaning × Meaning). e.0) d) (keys_told d k)
  none_told own d call h k = tt

  pub pure_told : (own : List ℕ) (d : Dictionary) (call : PureCall) (arguments : List Meaning) → IsNumbered n own → KeptTold n d → EachTold n arguments → GivesTold n (answer_of own d call arguments)
  pure_told own d call [] mine k h = none_told own d call mine k
  pure_told own d call (a ∷ []) mine k h = one_told d call a k h.0
  pure_told own d call (a ∷ b ∷ []) mine k h = two_told d call a b k h.0 h.1.0
  pure_told own d call (a ∷ b ∷ c ∷ []) mine k h = three_told call a b c h.1.0 h.1.1.0
  pure_told own d call (a ∷ b ∷ c ∷ e ∷ more) mine k h = tt
