-- Tickets that are out, in the order of their numbers.
use Rattle.std.proofs.Common.{◌≡◌, ℕ, suc, ◌+◌, ◌<◌, ◌≤◌, ⊎_elim, get_or, List, [], ◌∷◌, ◌++◌, Result, Ok, Err, MatchResult, length, take, drop, refl, subst, sym, ap, ◌∙◌, arith, length-append, nat_cmp}
use Rattle.std.proofs.Math.Seq.{split_at}
use Rattle.std.proofs.lemmas.Bool.{cases_lt}
use Rattle.std.proofs.lemmas.Cmp.{ranked}
use Rattle.std.proofs.lemmas.List.{get_or_append_left, get_or_push}
use Rattle.std.proofs.lemmas.List.Edits.{get_or-remove_above, get_or-remove_below, length-remove}
use Rattle.std.specs.List.{Contains, HoldsAt, remove}
use Rattle.std.specs.List.Sorted.{IsNonDecreasingBy, IsPartitionPoint}
use Rattle.std.specs.Ordering.{ordering_index}
use Rattle.std.specs.declared.cmp.Ordering.{Ordering}
use Rattle.std.specs.declared.cmp.Ordering.TheVariants.{Less, Equal, Greater}
use Rattle.search_jobs.specs.Explorations.{TicketSeen}
use Rattle.search_pool.specs.inside.Frontiers.{AreAtMost, AreRising}

abbrev pub number_of : TicketSeen → ℕ
number_of t = t.number

-- ---- one more ticket

pub rising_push : (out : List TicketSeen) (t : TicketSeen) (taken : ℕ) → AreRising out → AreAtMost taken out → taken < t.number → AreRising (out ++ t ∷ [])
rising_push out t taken rising given above i j d lt within =
    let long = length-append out (t ∷ []) in
    ⊎_elim
    (λ l. omega (arith, ap number_of (get_or_append_left out (t ∷ []) d i (omega arith)), ap number_of (get_or_append_left out (t ∷ []) d j l), rising i j d lt l))
    (λ g. omega (arith, ap number_of (get_or_append_left out (t ∷ []) d i (omega arith)), ap number_of (get_or_push out t d j (omega arith)), given i d (omega arith)))
    (cases_lt j (length out))

pub given_push : (out : List TicketSeen) (t : TicketSeen) (taken : ℕ) → AreAtMost taken out → t.number ≡ taken + 1 → AreAtMost (taken + 1) (out ++ t ∷ [])
given_push out t taken given is i d within =
    let long = length-append out (t ∷ []) in
    ⊎_elim
    (λ l. omega (arith, ap number_of (get_or_append_left out (t ∷ []) d i l), given i d l))
    (λ g. omega (arith, ap number_of (get_or_push out t d i (omega arith))))
    (cases_lt i (length out))

-- ---- one less

pub rising_remove : (out : List TicketSeen) (at : ℕ) → at < length out → AreRising out → AreRising (remove out at)
rising_remove out at there rising i j d lt within =
    let long = length-remove out at there in
    ⊎_elim
    (λ l. omega (arith, ap number_of (get_or-remove_below out at d i (omega arith) there), ap number_of (get_or-remove_below out at d j l there), rising i j d lt (omega arith)))
    (λ g. ⊎_elim
    (λ l. omega (arith, ap number_of (get_or-remove_below out at d i l there), ap number_of (get_or-remove_above out at d j g there), rising i (j + 1) d (omega arith) (omega arith)))
    (λ h. omega (arith, ap number_of (get_or-remove_above out at d i h there), ap number_of (get_or-remove_above out at d j g there), rising (i + 1) (j + 1) d (omega arith) (omega arith)))
    (cases_lt i at))
    (cases_lt j at)

pub given_remove : (out : List TicketSeen) (at taken : ℕ) → at < length out → AreAtMost taken out → AreAtMost taken (remove out at)
given_remove out at taken there given i d within =
    let long = length-remove out at there in
    ⊎_elim
    (λ l. omega (arith, ap number_of (get_or-remove_below out at d i l there), given i d (omega arith)))
    (λ g. omega (arith, ap number_of (get_or-remove_above out at d i g there), given (i + 1) d (omega arith)))
    (cases_lt i at)

-- ---- where a ticket is

pub out_at : (out : List TicketSeen) (ticket : TicketSeen) (at : ℕ) → at < length out → get_or out at ticket ≡ ticket → out ≡ take at out ++ ticket ∷ drop (suc at) out
out_at out ticket at lt is = split_at out at ticket lt ∙ ap (λ (x : TicketSeen). take at out ++ x ∷ drop (suc at) out) is

-- of one number there is one
one_place : (out : List TicketSeen) (i j : ℕ) (d : TicketSeen) → AreRising out → i < length out → j < length out → (get_or out i d).number ≡ (get_or out j d).number → i ≡ j
one_place out i j d rising p q same =
    ⊎_elim
    (λ l. absurd (omega (arith, rising i j d l q)))
    (λ g. ⊎_elim (λ l. absurd (omega (arith, rising j i d l p))) (λ h. omega arith) (cases_lt j i))
    (cases_lt i j)

-- the ticket of the number is another one
pub other_ticket : (out : List TicketSeen) (ticket : TicketSeen) (at : ℕ) → AreRising out → at < length out → (get_or out at ticket).number ≡ ticket.number → (get_or out at ticket ≡ ticket → ⊥) → Contains out ticket → ⊥
other_ticket out ticket at rising lt same other c =
    let place : at ≡ c.0 = one_place out at c.0 ticket rising lt c.1 (same ∙ sym (ap number_of c.2)) in
    other (ap (λ (k : ℕ). get_or out k ticket) place ∙ c.2)

-- ---- what a search by the number says

pub found_number : (out : List TicketSeen) (number at : ℕ) → HoldsAt (λ (t : TicketSeen). nat_cmp t.number number ≡ Equal) out at → (d : TicketSeen) → (get_or out at d).number ≡ number
found_number out number at holds d = ranked (get_or out at d).number number Equal (sym (holds d))

index_rises : (a b n : ℕ) → a ≤ b → ordering_index (nat_cmp a n) ≤ ordering_index (nat_cmp b n)
index_rises a b n le = go (nat_cmp a n) (nat_cmp b n) refl refl
  where
    go : (o p : Ordering) → o ≡ nat_cmp a n → p ≡ nat_cmp b n → ordering_index o ≤ ordering_index p
    go Less p e f = omega arith
    go Equal Less e f = let same : a ≡ n = ranked a n Equal e in let less : b < n = ranked b n Less f in absurd (omega arith)
    go Equal Equal e f = omega arith
    go Equal Greater e f = omega arith
    go Greater Less e f = let more : n < a = ranked a n Greater e in let less : b < n = ranked b n Less f in absurd (omega arith)
    go Greater Equal e f = let more : n < a = ranked a n Greater e in let same : b ≡ n = ranked b n Equal f in absurd (omega arith)
    go Greater Greater e f = omega arith

pub searchable : (out : List TicketSeen) (number : ℕ) → AreRising out → IsNonDecreasingBy (λ (t : TicketSeen). ordering_index (nat_cmp t.number number)) out
searchable out number rising i j d le lt =
    index_rises (get_or out i d).number (get_or out j d).number number
    (⊎_elim
    (λ l. let less = rising i j d l lt in omega arith)
    (λ g. let same : i ≡ j = omega arith in omega (arith, ap (λ (k : ℕ). (get_or out k d).number) same))
    (cases_lt i j))

pub not_out : (out : List TicketSeen) (ticket : TicketSeen) (i : ℕ) → IsPartitionPoint (λ (t : TicketSeen). nat_cmp t.number ticket.number ≡ Less) (λ (t : TicketSeen). nat_cmp t.number ticket.number ≡ Greater) out i → Contains out ticket → ⊥
not_out out ticket i parts c =
    let there = get_or out c.0 ticket in
    let same : there.number ≡ ticket.number = ap number_of c.2 in
    ⊎_elim
    (λ l. let less : there.number < ticket.number = ranked there.number ticket.number Less (sym (parts.0 c.0 ticket (omega arith) l)) in omega arith)
    (λ g. let more : ticket.number < there.number = ranked there.number ticket.number Greater (sym (parts.1 c.0 ticket g c.1)) in omega arith)
    (cases_lt c.0 i)

-- what is known of an answer
pub ok_part : {A B : Type 0} (P : A → Type 0) (Q : B → Type 0) (r : Result A B) (x : A) → r ≡ Ok x → MatchResult r P Q → P x
ok_part P Q r x is h = subst (λ z. MatchResult z P Q) is h

pub err_part : {A B : Type 0} (P : A → Type 0) (Q : B → Type 0) (r : Result A B) (x : B) → r ≡ Err x → MatchResult r P Q → Q x
err_part P Q r x is h = subst (λ z. MatchResult z P Q) is h
