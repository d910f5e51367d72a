-- What a step reads stays where changes do not touch it: the cells, and what is first in them.
use Rattle.std.proofs.Common.{◌≡◌, Bool, true, false, ℕ, List, [], ◌∷◌, ◌++◌, Option, Some, refl, sym, ap, ◌∙◌, suc, zero, append_assoc, if◌then◌else◌, drop}
use Rattle.term_core.specs.Meaning.{Meaning}
use Rattle.world_model.specs.Names.{Pid, same_term}
use Rattle.world_model.specs.Events.{Signal}
use Rattle.world_model.specs.Cells.{Cell, Taken, Mailed, Front, Tail, meet, Contents}
use Rattle.world_model.specs.Changes.{Change, without_first, SignalPut, cell_of, changed, after}
use Rattle.world_model.specs.Mailboxes.{left_of, mailbox_in, selected_of}
use Rattle.world_model.specs.Signals.{first_of}
use Rattle.world_model.specs.Frames.{SeesFirst, AgreeOn}
use Rattle.world_model.proofs.Commuting.{came, left_false, right_false, stays}
use Rattle.world_model.proofs.Outcomes.{touches, meets}

-- ---- a channel

-- appending to a list that is not empty leaves what is in front
first_stays : (n : ℕ) (xs ys : List Signal) (x : Signal) → first_of (drop n xs) ≡ Some x → first_of (drop n (xs ++ ys)) ≡ Some x
first_stays zero [] ys x e = absurd cc
first_stays zero (z ∷ xs) ys x e = e
first_stays (suc n) [] ys x e = absurd cc
first_stays (suc n) (z ∷ xs) ys x e = first_stays n xs ys x e

not_longer : {A : Type 0} (xs : List A) → xs ≡ xs ++ []
not_longer [] = refl
not_longer (x ∷ xs) = ap (λ ys. x ∷ ys) (not_longer xs)

longer_by : {A : Type 0} (b : Bool) (xs : List A) (x : A) → (more : List A) × ((if b then xs ++ (x ∷ []) else xs) ≡ xs ++ more)
longer_by true xs x = (x ∷ [], refl)
longer_by false xs x = ([], not_longer xs)

same_as : {A : Type 0} (b : Bool) (xs : List A) → (more : List A) × ((if b then xs else xs) ≡ xs ++ more)
same_as true xs = ([], not_longer xs)
same_as false xs = ([], not_longer xs)

-- the tail of a channel only grows
grown_by : (k : Change) (v : Contents) (s r : Pid) → (more : List Signal) × (changed k v (Tail s r) ≡ v (Tail s r) ++ more)
grown_by (SignalPut a b x) v s r = longer_by (meet (Tail a b) (Tail s r)) (v (Tail s r)) x
grown_by k v s r = same_as (meet (cell_of k) (Tail s r)) (v (Tail s r))

grown : (ks : List Change) (v : Contents) (s r : Pid) → (more : List Signal) × (after ks v (Tail s r) ≡ v (Tail s r) ++ more)
grown [] v s r = ([], not_longer (v (Tail s r)))
grown (k ∷ ks) v s r =
    let one = grown_by k v s r in
    let rest = grown ks (changed k v) s r in
    (one.0 ++ rest.0, rest.1 ∙ ap (λ xs. xs ++ rest.0) one.1 ∙ append_assoc (v (Tail s r)) one.0 rest.0)

-- ---- a mailbox

-- what comes after stays after what is left
without_by : (b : Bool) (x : Meaning) (xs ys us ws more : List Meaning) → us ≡ ws ++ more → (rest : List Meaning) × ((if b then xs ++ ys else x ∷ us) ≡ (if b then xs else x ∷ ws) ++ rest)
without_by true x xs ys us ws more is = (ys, refl)
without_by false x xs ys us ws more is = (more, ap (λ zs. x ∷ zs) is)

without_more : (test : Meaning → Bool) (xs ys : List Meaning) → (more : List Meaning) × (without_first test (xs ++ ys) ≡ without_first test xs ++ more)
without_more test [] ys = (without_first test ys, refl)
without_more test (x ∷ xs) ys =
    let rest = without_more test xs ys in
    without_by (test x) x xs ys (without_first test (xs ++ ys)) (without_first test xs) rest.0 rest.1

left_more : (taken xs ys : List Meaning) → (more : List Meaning) × (left_of taken (xs ++ ys) ≡ left_of taken xs ++ more)
left_more [] xs ys = (ys, refl)
left_more (t ∷ ts) xs ys =
    let one = without_more (same_term t) xs ys in
    let rest = left_more ts (without_first (same_term t) xs) one.0 in
    (rest.0, ap (left_of ts) one.1 ∙ rest.1)

-- and does not matter to a receive that finds a message
found_by : (b : Bool) (x m : Meaning) (o q : Option Meaning) → (o ≡ Some m → q ≡ Some m) → (if b then Some x else o) ≡ Some m → (if b then Some x else q) ≡ Some m
found_by true x m o q rest is = is
found_by false x m o q rest is = rest is

selected_stays : (selects : Meaning → Bool) (xs ys : List Meaning) (m : Meaning) → selected_of selects xs ≡ Some m → selected_of selects (xs ++ ys) ≡ Some m
selected_stays selects [] ys m is = absurd cc
selected_stays selects (x ∷ xs) ys m is = found_by (selects x) x m (selected_of selects xs) (selected_of selects (xs ++ ys)) (selected_stays selects xs ys m) is

-- ---- what is read

-- what is first stays first
sees_first : (ks : List Change) (v : Contents) (c : Cell) → touches ks c ≡ false → SeesFirst v (after ks v) c
sees_first ks v (Front s r) other =
    let more = grown ks v s r in
    λ x is. ap (λ n. first_of (drop n (after ks v (Tail s r)))) (stays ks v (Front s r) other) ∙ ap (λ xs. first_of (drop (v (Front s r)) xs)) more.1 ∙ first_stays (v (Front s r)) (v (Tail s r)) more.0 x is
sees_first ks v (Taken p) other =
    let more = came ks v p in
    let rest = left_more (v (Taken p)) (v (Mailed p)) more.0 in
    λ selects m is.
    ap (λ ts. selected_of selects (left_of ts (after ks v (Mailed p)))) (stays ks v (Taken p) other)
    ∙ ap (λ xs. selected_of selects (left_of (v (Taken p)) xs)) more.1
    ∙ ap (selected_of selects) rest.1
    ∙ selected_stays selects (mailbox_in v p) rest.0 m is
sees_first ks v c other = tt

-- so what is read stays where it is not touched
pub agree_after : (ks : List Change) (v : Contents) (cs : List Cell) → meets ks cs ≡ false → AgreeOn v (after ks v) cs
agree_after ks v [] other = tt
agree_after ks v (c ∷ cs) other =
    let here = left_false (touches ks c) (meets ks cs) other in
    ((sym (stays ks v c here), sees_first ks v c here), agree_after ks v cs (right_false (touches ks c) (meets ks cs) other))
