-- Objects that have no part after a position, and the position after that of the key.
use Rattle.std.proofs.Common.{◌≡◌, Bool, true, false, ◌||◌, if◌then◌else◌, ◌==◌, ℕ, ◌+◌, ◌-◌, ◌<◌, ◌≤◌, [], ◌∷◌, length, Some, None, refl, ap, ◌∙◌, arith}
use Rattle.std.proofs.lemmas.Bool.{eqb-true}
use Rattle.world_model.specs.Objects.{is_key_or_none}
use Rattle.world_model.specs.Rows.{Object, part_at}

not_true : (b : Bool) → (b ≡ true → ⊥) → b ≡ false
not_true true h = absurd (h refl)
not_true false h = refl

apart : (a b : ℕ) → (a ≡ b → ⊥) → (a == b) ≡ false
apart a b h = not_true (a == b) (λ e. h (eqb-true a b e))

no_part : (xs : Object) (n : ℕ) → length xs < n → part_at n xs ≡ None
no_part [] n h = refl
no_part (x ∷ xs) n h =
    ap (λ b. if b then None else (if n == 1 then Some x else part_at (n - 1) xs)) (apart n 0 (λ e. omega arith))
    ∙ ap (λ b. if b then Some x else part_at (n - 1) xs) (apart n 1 (λ e. omega arith))
    ∙ no_part xs (n - 1) (omega arith)

-- an object that is at most that long has no part after it
pub no_part_after : (n : ℕ) (xs : Object) → length xs ≤ n → part_at (n + 1) xs ≡ None
no_part_after n xs h = no_part xs (n + 1) (omega arith)

-- the position after that of the key may be written
pub after_is_free : (n : ℕ) → is_key_or_none n (n + 1) ≡ false
after_is_free n =
    ap (λ b. b || (n + 1) == n) (apart (n + 1) 0 (λ e. omega arith))
    ∙ apart (n + 1) n (λ e. omega arith)
