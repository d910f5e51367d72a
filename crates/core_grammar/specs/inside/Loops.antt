-- Lists with commas between their items, read by a loop.
use Rattle.std.proofs.Common.{◌≡◌, ◌≢◌, ℕ, suc, ◌-◌, ◌+◌, ◌≤◌, ◌<◌, Bool, true, false, List, [], ◌∷◌, ◌++◌, length, Option, Some, None, Ok, Err, refl, sym, ap, ◌∙◌, append_assoc, arith, ◌==◌, is_some}
use Rattle.std.proofs.lemmas.List.{append-nil}
use Rattle.std.proofs.lemmas.Bool.Decides.{nat_tests}
use Rattle.core_tokens.specs.declared.fault.ReadFault.{ReadFault}
use Rattle.core_tokens.specs.declared.fault.ReadFault.TheVariants.{Memory}
use Rattle.core_tokens.specs.declared.token.Mark.TheVariants as m
use Rattle.core_tokens.specs.declared.token.Keyword.{Keyword}
use Rattle.core_tokens.specs.declared.token.Token.{Token}
use Rattle.core_tokens.specs.Piece.{pieces}
use Rattle.core_scopes.specs.Outcomes.{◌>>=◌}
use Rattle.core_grammar.specs.inside.Decoder.{State, Read, with_pieces, after_mark, after_word, fault, commas_at, items_at, comma_at, exactly_at, row_at, rows_at}
use Rattle.core_grammar.specs.inside.Decoder.{Skips}

-- what was read before, and what is still read
abbrev pub with_front : {X : Type 0} → List X → Read (List X) → Read (List X)
with_front front read = read >>= λ x. Ok (front ++ x.0, x.1)

regroup : {X : Type 0} (front : List X) (x : X) (read : Read (List X)) → with_front front (read >>= λ others. Ok (x ∷ others.0, others.1)) ≡ with_front (front ++ x ∷ []) read
regroup {X = X} front x (Ok r) = ap (λ (xs : List X). Ok (xs, r.1)) (simp append_assoc)
regroup front x (Err f) = refl

front_none : {X : Type 0} (r : Read (List X)) → with_front [] r ≡ r
front_none (Ok r) = refl
front_none (Err f) = refl

module _ {X : Type 0} (item : State → Read X) where
  pub begins : (count : ℕ) (s : State) → count ≡ length s.pieces → with_front [] (commas_at item (count - 0) s) ≡ items_at item s
  unfolding items_at
  begins count s e =
      let n : count - 0 ≡ length s.pieces = omega arith in
      rw n (front_none (commas_at item (length s.pieces) s))

  pub goes_on : (front : List X) (count i : ℕ) (s s1 s2 : State) (x : X) (total : Read (List X)) → i < count → item s ≡ Ok (x, s1) → Skips true (after_mark m.Comma s1.pieces) s1 s2
      → with_front front (commas_at item (count - i) s) ≡ total → with_front (front ++ x ∷ []) (commas_at item (count - (i + 1)) s2) ≡ total
  unfolding commas_at
  goes_on front count i s s1 s2 x total lt read skips so_far =
      let n : count - i ≡ suc (count - (i + 1)) = omega arith in
      let one : with_front front (commas_at item (count - i) s) ≡ with_front (front ++ x ∷ []) (commas_at item (count - (i + 1)) (with_pieces s1 s2.pieces)) =
      rw (n, read, skips.0) (regroup front x (commas_at item (count - (i + 1)) (with_pieces s1 s2.pieces))) in
      ap (λ (t : State). with_front (front ++ x ∷ []) (commas_at item (count - (i + 1)) t)) skips.1 ∙ sym one ∙ so_far

  pub ends : (front : List X) (count i : ℕ) (s s1 s2 : State) (x : X) (total : Read (List X)) → i < count → item s ≡ Ok (x, s1) → Skips false (after_mark m.Comma s1.pieces) s1 s2
      → with_front front (commas_at item (count - i) s) ≡ total → total ≡ Ok (front ++ x ∷ [], s2)
  unfolding commas_at
  ends front count i s s1 s2 x total lt read skips so_far =
      let n : count - i ≡ suc (count - (i + 1)) = omega arith in
      let one : with_front front (commas_at item (count - i) s) ≡ Ok (front ++ x ∷ [], s2) = rw (n, read, skips.0, skips.1) refl in
      sym so_far ∙ one

  pub fails : (e : ReadFault) (front : List X) (count i : ℕ) (s : State) (total : Read (List X)) → i < count → (e ≢ Memory → item s ≡ Err e)
      → with_front front (commas_at item (count - i) s) ≡ total → e ≢ Memory → total ≡ Err e
  unfolding commas_at
  fails e front count i s total lt failed so_far real =
      let n : count - i ≡ suc (count - (i + 1)) = omega arith in
      let read : item s ≡ Err e = failed real in
      let one : with_front front (commas_at item (count - i) s) ≡ Err e = rw (n, read) refl in
      sym so_far ∙ one

  pub is_out : (front : List X) (count i : ℕ) (s : State) (total : Read (List X)) → count ≤ i → with_front front (commas_at item (count - i) s) ≡ total → total ≡ Err (fault s)
  unfolding commas_at
  is_out front count i s total le so_far =
      let n : count - i ≡ 0 = omega arith in
      let one : with_front front (commas_at item (count - i) s) ≡ Err (fault s) = rw n refl in
      sym so_far ∙ one

pub pieces_length : (ts : List Token) → length (pieces ts) ≡ length ts
pieces_length [] = refl
pieces_length (t ∷ ts) = ap suc (pieces_length ts)

-- ---- exactly so many items

first_is : (n : ℕ) → (n + 1 == 0) ≡ false
first_is n = grind (arith, nat_tests)

module _ {X : Type 0} (item : State → Read X) where
  pub exactly_begin : (count : ℕ) (s : State) → with_front [] (exactly_at item true (count - 0) s) ≡ exactly_at item true count s
  exactly_begin count s =
      let n : count - 0 ≡ count = omega arith in
      rw n (front_none (exactly_at item true count s))

  pub exactly_on : (front : List X) (count i : ℕ) (s s1 s2 : State) (x : X) (total : Read (List X)) → i < count → comma_at (i == 0) s ≡ Ok s1 → item s1 ≡ Ok (x, s2)
      → with_front front (exactly_at item (i == 0) (count - i) s) ≡ total → with_front (front ++ x ∷ []) (exactly_at item (i + 1 == 0) (count - (i + 1)) s2) ≡ total
  unfolding exactly_at
  exactly_on front count i s s1 s2 x total lt comma read so_far =
      let n : count - i ≡ suc (count - (i + 1)) = omega arith in
      let one : with_front front (exactly_at item (i == 0) (count - i) s) ≡ with_front (front ++ x ∷ []) (exactly_at item false (count - (i + 1)) s2) =
      rw (n, comma, read) (regroup front x (exactly_at item false (count - (i + 1)) s2)) in
      rw first_is (sym one ∙ so_far)

  pub exactly_lack_comma : (e : ReadFault) (front : List X) (count i : ℕ) (s : State) (total : Read (List X)) → i < count → (e ≢ Memory → comma_at (i == 0) s ≡ Err e)
      → with_front front (exactly_at item (i == 0) (count - i) s) ≡ total → e ≢ Memory → total ≡ Err e
  unfolding exactly_at
  exactly_lack_comma e front count i s total lt failed so_far real =
      let n : count - i ≡ suc (count - (i + 1)) = omega arith in
      let comma : comma_at (i == 0) s ≡ Err e = failed real in
      let one : with_front front (exactly_at item (i == 0) (count - i) s) ≡ Err e = rw (n, comma) refl in
      sym so_far ∙ one

  pub exactly_lack : (e : ReadFault) (front : List X) (count i : ℕ) (s s1 : State) (total : Read (List X)) → i < count → comma_at (i == 0) s ≡ Ok s1 → (e ≢ Memory → item s1 ≡ Err e)
      → with_front front (exactly_at item (i == 0) (count - i) s) ≡ total → e ≢ Memory → total ≡ Err e
  unfolding exactly_at
  exactly_lack e front count i s s1 total lt comma failed so_far real =
      let n : count - i ≡ suc (count - (i + 1)) = omega arith in
      let read : item s1 ≡ Err e = failed real in
      let one : with_front front (exactly_at item (i == 0) (count - i) s) ≡ Err e = rw (n, comma, read) refl in
      sym so_far ∙ one

  pub exactly_done : (front : List X) (count i : ℕ) (s : State) (first : Bool) (total : Read (List X)) → count ≤ i → with_front front (exactly_at item first (count - i) s) ≡ total → total ≡ Ok (front, s)
  unfolding exactly_at
  exactly_done front count i s first total le so_far =
      let n : count - i ≡ 0 = omega arith in
      let one : with_front front (exactly_at item first (count - i) s) ≡ Ok (front, s) = rw n (ap (λ (xs : List X). Ok (xs, s)) (append-nil front)) in
      sym so_far ∙ one

-- ---- items as far as a keyword

ends_by : {X : Type 0} (o : Option X) → is_some o ≡ true → (x : X) × (o ≡ Some x)
ends_by None e = absurd cc
ends_by (Some x) e = (x, refl)

ends_not : {X : Type 0} (o : Option X) → is_some o ≡ false → o ≡ None
ends_not None e = refl
ends_not (Some x) e = absurd cc

module _ {X : Type 0} (item : State → Read X) (close : Keyword) where
  pub rows_behind : (front : List X) (count : ℕ) (s : State) → count ≡ length s.pieces → with_front front (row_at item close (count - 0) s) ≡ with_front front (rows_at item close s)
  unfolding rows_at
  rows_behind front count s e =
      let n : count - 0 ≡ length s.pieces = omega arith in
      rw n refl

  pub rows_begin : (count : ℕ) (s : State) → count ≡ length s.pieces → with_front [] (row_at item close (count - 0) s) ≡ rows_at item close s
  unfolding rows_at
  rows_begin count s e =
      let n : count - 0 ≡ length s.pieces = omega arith in
      rw n (front_none (row_at item close (length s.pieces) s))

  pub rows_on : (front : List X) (count i : ℕ) (s s1 : State) (x : X) (total : Read (List X)) → i < count → is_some (after_word close s.pieces) ≡ false → item s ≡ Ok (x, s1)
      → with_front front (row_at item close (count - i) s) ≡ total → with_front (front ++ x ∷ []) (row_at item close (count - (i + 1)) s1) ≡ total
  unfolding row_at
  rows_on front count i s s1 x total lt more read so_far =
      let n : count - i ≡ suc (count - (i + 1)) = omega arith in
      let no_close : after_word close s.pieces ≡ None = ends_not _ more in
      let one : with_front front (row_at item close (count - i) s) ≡ with_front (front ++ x ∷ []) (row_at item close (count - (i + 1)) s1) =
      rw (n, no_close, read) (regroup front x (row_at item close (count - (i + 1)) s1)) in
      sym one ∙ so_far

  pub rows_end : (front : List X) (count i : ℕ) (s : State) (total : Read (List X)) → i < count → is_some (after_word close s.pieces) ≡ true
      → with_front front (row_at item close (count - i) s) ≡ total → total ≡ Ok (front, s)
  unfolding row_at
  rows_end front count i s total lt at_end so_far =
      let n : count - i ≡ suc (count - (i + 1)) = omega arith in
      let found = ends_by (after_word close s.pieces) at_end in
      let one : with_front front (row_at item close (count - i) s) ≡ Ok (front, s) = rw (n, found.1) (ap (λ (xs : List X). Ok (xs, s)) (append-nil front)) in
      sym so_far ∙ one

  pub rows_fail : (e : ReadFault) (front : List X) (count i : ℕ) (s : State) (total : Read (List X)) → i < count → is_some (after_word close s.pieces) ≡ false → (e ≢ Memory → item s ≡ Err e)
      → with_front front (row_at item close (count - i) s) ≡ total → e ≢ Memory → total ≡ Err e
  unfolding row_at
  rows_fail e front count i s total lt more failed so_far real =
      let n : count - i ≡ suc (count - (i + 1)) = omega arith in
      let no_close : after_word close s.pieces ≡ None = ends_not _ more in
      let read : item s ≡ Err e = failed real in
      let one : with_front front (row_at item close (count - i) s) ≡ Err e = rw (n, no_close, read) refl in
      sym so_far ∙ one

  pub rows_out : (front : List X) (count i : ℕ) (s : State) (total : Read (List X)) → count ≤ i → with_front front (row_at item close (count - i) s) ≡ total → total ≡ Err (fault s)
  unfolding row_at
  rows_out front count i s total le so_far =
      let n : count - i ≡ 0 = omega arith in
      let one : with_front front (row_at item close (count - i) s) ≡ Err (fault s) = rw n refl in
      sym so_far ∙ one
