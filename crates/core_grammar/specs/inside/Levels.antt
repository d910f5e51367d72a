-- What is read of at most n levels, by what n is.
use Rattle.std.proofs.Common.{◌≡◌, ◌≢◌, ℕ, zero, suc, ◌-◌, ◌<◌, List, Some, None, Ok, Err, refl, ◌∙◌, arith}
use Rattle.core_tokens.specs.declared.fault.ReadFault.{ReadFault}
use Rattle.core_tokens.specs.declared.fault.ReadFault.TheVariants.{Memory}
use Rattle.core_tokens.specs.declared.token.Mark.TheVariants as m
use Rattle.core_tokens.specs.Piece.{Piece}
use Rattle.core_tree.specs.Syntax.{Pattern}
use Rattle.core_scopes.specs.Outcomes.{◌>>=◌}
use Rattle.core_grammar.specs.inside.Decoder.{State, Read, with_pieces, after_mark, too_deep, in_note_at, noted_at, constant_at, constant_form_at, deep_constant, pattern_at, pattern_form_at, alias_at, deep_pattern}

pub constant_zero : (n : ℕ) (s : State) → n ≡ 0 → constant_at n s ≡ Err (deep_constant s)
unfolding constant_at
constant_zero n s e = rw e refl

pub constant_more : (n : ℕ) (s : State) → 0 < n → constant_at n s ≡ constant_form_at (constant_at (n - 1)) s
unfolding constant_at
constant_more zero s h = absurd (omega arith)
constant_more (suc n) s h =
    let e : suc n - 1 ≡ n = omega arith in
    rw e refl

pub pattern_zero : (n : ℕ) (s : State) → n ≡ 0 → pattern_at n s ≡ Err (deep_pattern s)
unfolding pattern_at
pattern_zero n s e = rw e refl

pub pattern_more : (n : ℕ) (s : State) → 0 < n
    → pattern_at n s ≡ (pattern_form_at (pattern_at (n - 1)) (constant_at (n - 1)) s >>= λ q. alias_at (pattern_at (n - 1)) (constant_at (n - 1)) q.0 q.1)
unfolding pattern_at
pattern_more zero s h = absurd (omega arith)
pattern_more (suc n) s h =
    let e : suc n - 1 ≡ n = omega arith in
    rw e refl

pub pattern_fails : (e : ReadFault) (n : ℕ) (s : State) → 0 < n → (e ≢ Memory → pattern_form_at (pattern_at (n - 1)) (constant_at (n - 1)) s ≡ Err e) → e ≢ Memory → pattern_at n s ≡ Err e
pattern_fails e n s h failed real =
    let read = failed real in
    let one : (pattern_form_at (pattern_at (n - 1)) (constant_at (n - 1)) s >>= λ q. alias_at (pattern_at (n - 1)) (constant_at (n - 1)) q.0 q.1) ≡ Err e = rw read refl in
    pattern_more n s h ∙ one

pub pattern_reads : (r : Pattern × State) (n : ℕ) (s s1 : State) (q : Pattern) → 0 < n → pattern_form_at (pattern_at (n - 1)) (constant_at (n - 1)) s ≡ Ok (q, s1)
    → alias_at (pattern_at (n - 1)) (constant_at (n - 1)) q s1 ≡ Ok r → pattern_at n s ≡ Ok r
pattern_reads r n s s1 q h form whole =
    let one : (pattern_form_at (pattern_at (n - 1)) (constant_at (n - 1)) s >>= λ q. alias_at (pattern_at (n - 1)) (constant_at (n - 1)) q.0 q.1) ≡ Ok r = rw (form, whole) refl in
    pattern_more n s h ∙ one

pub alias_fails : (e : ReadFault) (n : ℕ) (s s1 : State) (q : Pattern) → 0 < n → pattern_form_at (pattern_at (n - 1)) (constant_at (n - 1)) s ≡ Ok (q, s1)
    → (e ≢ Memory → alias_at (pattern_at (n - 1)) (constant_at (n - 1)) q s1 ≡ Err e) → e ≢ Memory → pattern_at n s ≡ Err e
alias_fails e n s s1 q h form failed real =
    let whole = failed real in
    let one : (pattern_form_at (pattern_at (n - 1)) (constant_at (n - 1)) s >>= λ q. alias_at (pattern_at (n - 1)) (constant_at (n - 1)) q.0 q.1) ≡ Err e = rw (form, whole) refl in
    pattern_more n s h ∙ one

-- ---- what is annotated any number of times

module _ {X : Type 0} (bare : ℕ → State → Read X) where
  pub noted_bare : (n : ℕ) (s : State) → after_mark m.LeftParenthesis s.pieces ≡ None → noted_at bare n s ≡ bare n s
  unfolding noted_at
  noted_bare zero s e = rw e refl
  noted_bare (suc n) s e = rw e refl

  pub noted_deep : (n : ℕ) (s : State) (ps : List Piece) → n ≡ 0 → after_mark m.LeftParenthesis s.pieces ≡ Some ps → noted_at bare n s ≡ Err (too_deep s)
  unfolding noted_at
  noted_deep n s ps z e = rw (z, e) refl

  pub noted_inside : (n : ℕ) (s : State) (ps : List Piece) → 0 < n → after_mark m.LeftParenthesis s.pieces ≡ Some ps
      → noted_at bare n s ≡ in_note_at (constant_at (n - 1)) (noted_at bare (n - 1)) (with_pieces s ps)
  unfolding noted_at
  noted_inside zero s ps h e = absurd (omega arith)
  noted_inside (suc n) s ps h e =
      let f : suc n - 1 ≡ n = omega arith in
      rw (f, e) refl
