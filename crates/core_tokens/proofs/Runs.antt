-- The longest front that passes a test.
use Rattle.std.proofs.Common.{◌≡◌, ℕ, suc, ◌+◌, ◌≤◌, Bool, true, false, cond, List, [], ◌∷◌, length, take, drop, refl, ap, arith}
use Rattle.std.specs.List.{prefix_len}
use Rattle.core_tokens.specs.TokenText.{StopsAt, Run, halts, takes}
use Rattle.core_tokens.specs.inside.Lexing.{run_of, behind_run}

sound_by : (test : ℕ → Bool) (c : ℕ) (bytes : List ℕ) (b : Bool) → test c ≡ b → Run test bytes (run_of test bytes) (behind_run test bytes)
    → Run test (c ∷ bytes) (take (cond b (1 + prefix_len test bytes) 0) (c ∷ bytes)) (drop (cond b (1 + prefix_len test bytes) 0) (c ∷ bytes))
sound_by test c bytes true e r = let k : 1 + prefix_len test bytes ≡ suc (prefix_len test bytes) = omega arith in rw k (takes e r)
sound_by test c bytes false e r = halts e

pub run_sound : (test : ℕ → Bool) (bytes : List ℕ) → Run test bytes (run_of test bytes) (behind_run test bytes)
run_sound test [] = halts tt
run_sound test (c ∷ bytes) = sound_by test c bytes (test c) refl (run_sound test bytes)

pub record IsRunOf (test : ℕ → Bool) (bytes front rest : List ℕ) : Type 0 where
  pub front_is : run_of test bytes ≡ front
  pub rest_is : behind_run test bytes ≡ rest

stops_here : (test : ℕ → Bool) (bytes : List ℕ) → StopsAt test bytes → IsRunOf test bytes [] bytes
stops_here test [] h = record { front_is = refl; rest_is = refl }
stops_here test (c ∷ bytes) h = record { front_is = rw h refl; rest_is = rw h refl }

takes_one : (test : ℕ → Bool) (c : ℕ) (bytes front rest : List ℕ) → test c ≡ true → IsRunOf test bytes front rest → IsRunOf test (c ∷ bytes) (c ∷ front) rest
takes_one test c bytes front rest e h =
    let k : 1 + prefix_len test bytes ≡ suc (prefix_len test bytes) = omega arith in
    record { front_is = rw (e, k) (ap (λ (t : List ℕ). c ∷ t) h.front_is); rest_is = rw (e, k) h.rest_is }

pub run_complete : (test : ℕ → Bool) (bytes front rest : List ℕ) → Run test bytes front rest → IsRunOf test bytes front rest
run_complete test bytes front rest (halts h) = stops_here test bytes h
run_complete test bytes front rest (takes {bytes = more} {front = others} {c} e r) = takes_one test c more others rest e (run_complete test more others rest r)

pub run_length : (test : ℕ → Bool) (bytes front rest : List ℕ) → Run test bytes front rest → length rest ≤ length bytes
run_length test bytes front rest (halts h) = omega arith
run_length test bytes front rest (takes {bytes = more} {front = others} {c} p r) = omega (arith, run_length test more others rest r)

-- the first byte of a run passes
pub run_head : (test : ℕ → Bool) (bytes front rest : List ℕ) → Run test bytes front rest → (d : ℕ) (ds : List ℕ) → front ≡ d ∷ ds → (more : List ℕ) × (bytes ≡ d ∷ more) × (test d ≡ true) × (length rest ≤ length more)
run_head test bytes front rest (halts h) d ds e = absurd cc
run_head test bytes front rest (takes {bytes = more} {front = others} {c} p r) d ds e =
    let same : c ≡ d = cc in
    (more, ap (λ (x : ℕ). x ∷ more) same, rw (← same) p, run_length test more others rest r)
