-- Blanks and comments are passed over as they are spelt.
use Rattle.std.proofs.Common.{◌≡◌, ℕ, ◌<◌, cond, inl, inr, List, [], ◌∷◌, length, Some, None, eqb, sym, subst, arith}
use Rattle.std.proofs.lemmas.Bool.{eqb-true, eqb-false}
use Rattle.core_tokens.specs.TokenText.{is_blank, is_in_line}
use Rattle.core_tokens.specs.Tokens.{blank, comment}
use Rattle.core_tokens.specs.inside.Lexing.{behind_run, behind_blank_at, Skips, BeginsNoBlank}
use Rattle.core_tokens.proofs.Basics.{chosen, some_is, guard_some}
use Rattle.core_tokens.proofs.Runs.{run_sound, run_length}

pub record Passes (bytes rest : List ℕ) : Type 0 where
  pub skips : Skips bytes rest
  pub shorter : length rest < length bytes

past_comment : (bytes : List ℕ) → Passes (37 ∷ bytes) (behind_run is_in_line bytes)
past_comment bytes =
    let r = run_sound is_in_line bytes in
    record { skips = λ stop behind last ps end s. comment r s; shorter = omega (arith, run_length is_in_line bytes _ _ r) }

pub blank_sound : (bytes rest : List ℕ) → behind_blank_at bytes ≡ Some rest → Passes bytes rest
unfolding behind_blank_at
blank_sound [] rest e = absurd cc
blank_sound (c ∷ bytes) rest e =
    elim (chosen (is_blank c) (Some bytes) (cond (eqb c 37) (Some (behind_run is_in_line bytes)) None) (Some rest) e) [
      | inl h ↦ subst (λ (r : List ℕ). Passes (c ∷ bytes) r) (some_is bytes rest h.1) (record { skips = λ stop behind last ps end s. blank h.0 s; shorter = omega arith })
      | inr h ↦
          let g = guard_some (eqb c 37) (behind_run is_in_line bytes) rest h.1 in
          subst (λ (r : List ℕ). Passes (c ∷ bytes) r) g.1 (subst (λ (x : ℕ). Passes (x ∷ bytes) (behind_run is_in_line bytes)) (sym (eqb-true c 37 g.0)) (past_comment bytes))
    ]

pub blank_none : (bytes : List ℕ) → behind_blank_at bytes ≡ None → BeginsNoBlank bytes
unfolding behind_blank_at
blank_none [] e = tt
blank_none (c ∷ bytes) e =
    elim (chosen (is_blank c) (Some bytes) (cond (eqb c 37) (Some (behind_run is_in_line bytes)) None) None e) [
      | inl h ↦ absurd (let f = h.1 in cc)
      | inr h ↦
          elim (chosen (eqb c 37) (Some (behind_run is_in_line bytes)) None None h.1) [
            | inl g ↦ absurd (let f = g.1 in cc)
            | inr g ↦ (h.0, eqb-false c 37 g.0)
          ]
    ]
