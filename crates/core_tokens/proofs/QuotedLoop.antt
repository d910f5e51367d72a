-- Reading what is between quotes, as a loop does.
use Rattle.std.proofs.Common.{◌≡◌, ℕ, suc, ◌-◌, ◌+◌, ◌≤◌, ◌<◌, List, [], ◌∷◌, ◌++◌, length, Some, None, Result, Ok, Err, refl, sym, ap, ◌∙◌, append_assoc, arith}
use Rattle.std.proofs.lemmas.List.{append-nil}
use Rattle.core_tokens.specs.declared.lexer.trouble.TokenError.{TokenError}
use Rattle.core_tokens.specs.declared.lexer.trouble.TokenError.TheVariants as errors
use Rattle.core_tokens.specs.inside.Lexing.{◌>>=◌, unit_at, behind_quote_at, quoted_in}

-- what was read before, and what is still read
abbrev pub with_front : List ℕ → Result (List ℕ × List ℕ) TokenError → Result (List ℕ × List ℕ) TokenError
with_front front read = read >>= λ q. Ok (front ++ q.0, q.1)

regroup : (front : List ℕ) (c : ℕ) (read : Result (List ℕ × List ℕ) TokenError) → with_front front (read >>= λ q. Ok (c ∷ q.0, q.1)) ≡ with_front (front ++ c ∷ []) read
regroup front c (Ok q) = ap (λ (cs : List ℕ). Ok (cs, q.1)) (simp append_assoc)
regroup front c (Err e) = refl

pub goes_on : (front text bytes after : List ℕ) (quote i c : ℕ) (total : Result (List ℕ × List ℕ) TokenError) → i < length text → behind_quote_at quote bytes ≡ None → unit_at quote bytes ≡ Some (c, after)
    → with_front front (quoted_in (length text - i) quote bytes) ≡ total → with_front (front ++ c ∷ []) (quoted_in (length text - (i + 1)) quote after) ≡ total
unfolding quoted_in
goes_on front text bytes after quote i c total lt not_closed e so_far =
    let k : length text - i ≡ suc (length text - (i + 1)) = omega arith in
    let one : with_front front (quoted_in (length text - i) quote bytes) ≡ with_front (front ++ c ∷ []) (quoted_in (length text - (i + 1)) quote after) = rw (k, not_closed, e) (regroup front c (quoted_in (length text - (i + 1)) quote after)) in
    sym one ∙ so_far

pub closes_here : (front text bytes after : List ℕ) (quote i : ℕ) (total : Result (List ℕ × List ℕ) TokenError) → i < length text → behind_quote_at quote bytes ≡ Some after
    → with_front front (quoted_in (length text - i) quote bytes) ≡ total → total ≡ Ok (front, after)
unfolding quoted_in
closes_here front text bytes after quote i total lt closed so_far =
    let k : length text - i ≡ suc (length text - (i + 1)) = omega arith in
    let one : with_front front (quoted_in (length text - i) quote bytes) ≡ Ok (front, after) = rw (k, closed) (ap (λ (cs : List ℕ). Ok (cs, after)) (append-nil front)) in
    sym so_far ∙ one

pub fails_here : (front text bytes : List ℕ) (quote i : ℕ) (total : Result (List ℕ × List ℕ) TokenError) → i < length text → behind_quote_at quote bytes ≡ None → unit_at quote bytes ≡ None
    → with_front front (quoted_in (length text - i) quote bytes) ≡ total → total ≡ Err errors.NoToken
unfolding quoted_in
fails_here front text bytes quote i total lt not_closed e so_far =
    let k : length text - i ≡ suc (length text - (i + 1)) = omega arith in
    let one : with_front front (quoted_in (length text - i) quote bytes) ≡ Err errors.NoToken = rw (k, not_closed, e) refl in
    sym so_far ∙ one

pub is_out : (front text bytes : List ℕ) (quote i : ℕ) (total : Result (List ℕ × List ℕ) TokenError) → length text ≤ i
    → with_front front (quoted_in (length text - i) quote bytes) ≡ total → total ≡ Err errors.NoToken
unfolding quoted_in
is_out front text bytes quote i total le so_far =
    let k : length text - i ≡ 0 = omega arith in
    let one : with_front front (quoted_in (length text - i) quote bytes) ≡ Err errors.NoToken = rw k refl in
    sym so_far ∙ one
