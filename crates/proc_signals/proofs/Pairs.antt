-- The pairs of processes that have a channel are those whose channel is not empty.
use Rattle.std.proofs.Common.{◌≡◌, ◌&&◌, inl, inr, Bool, true, false, List, [], ◌∷◌, refl, ap, ◌∙◌, if◌then◌else◌}
use Rattle.std.specs.Map.{keys_of}
use Rattle.world_model.specs.Events.{Signal}
use Rattle.world_model.specs.Names.{Pid, IsAmong, same_pid}
use Rattle.world_model.proofs.Meeting.{both}
use Rattle.proc_signals.specs.Channels.{Queue, Senders, between, signals_in}
use Rattle.proc_signals.proofs.Beside.{pids_same, pid_itself}

-- a channel is not empty
pub never_empty : (q : Queue) → signals_in q ≡ [] → ⊥
never_empty q e = absurd cc

pub pair_itself : (s r : Pid) → (same_pid s s && same_pid r r) ≡ true
pair_itself s r = ap (λ b. b && same_pid r r) (pid_itself s) ∙ pid_itself r

-- a pair that passes for another is it
pub pairs_same : (k : Pid × Pid) (s r : Pid) → (same_pid k.0 s && same_pid k.1 r) ≡ true → k ≡ (s, r)
pairs_same k s r e =
    let parts = both (same_pid k.0 s) (same_pid k.1 r) e in
    λ i. (pids_same k.0 s parts.0 i, pids_same k.1 r parts.1 i)

found : (b : Bool) (q : Queue) (rest : List Signal) → b ≡ true → (if b then signals_in q else rest) ≡ [] → ⊥
found true q rest is empty = never_empty q empty
found false q rest is empty = absurd cc

behind : (b : Bool) (q : Queue) (rest : List Signal) → (rest ≡ [] → ⊥) → (if b then signals_in q else rest) ≡ [] → ⊥
behind true q rest not empty = never_empty q empty
behind false q rest not empty = not empty

pub listed_have : (cs : Senders) (s r : Pid) → IsAmong (s, r) (keys_of cs) → between cs s r ≡ [] → ⊥
listed_have [] s r among = absurd among
listed_have (c ∷ cs) s r (inl is) =
    found (same_pid c.0.0 s && same_pid c.0.1 r) c.1 (between cs s r) (ap (λ k. same_pid k.0 s && same_pid k.1 r) is ∙ pair_itself s r)
listed_have (c ∷ cs) s r (inr among) = behind (same_pid c.0.0 s && same_pid c.0.1 r) c.1 (between cs s r) (listed_have cs s r among)

either_if : (b : Bool) (q : Queue) (rest : List Signal) (T : Type 0) → (b ≡ true → T) → ((rest ≡ [] → ⊥) → T) → ((if b then signals_in q else rest) ≡ [] → ⊥) → T
either_if true q rest T here later not = here refl
either_if false q rest T here later not = later not

pub have_listed : (cs : Senders) (s r : Pid) → (between cs s r ≡ [] → ⊥) → IsAmong (s, r) (keys_of cs)
have_listed [] s r not = absurd (not refl)
have_listed (c ∷ cs) s r not =
    either_if (same_pid c.0.0 s && same_pid c.0.1 r) c.1 (between cs s r) (IsAmong (s, r) (keys_of (c ∷ cs)))
    (λ b. inl (pairs_same c.0 s r b)) (λ rest. inr (have_listed cs s r rest)) not
