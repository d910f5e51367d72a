-- Changes leave the cells that they do not touch, and so independent steps commute.
use Rattle.std.proofs.Common.{◌≡◌, Bool, true, false, ◌||◌, ◌&&◌, ℕ, List, [], ◌∷◌, ◌++◌, Option, Some, None, refl, sym, ap, ◌∙◌, suc, zero, append_assoc, true≢false, if◌then◌else◌, map, ◌⊎◌, inl, inr, drop}
use Rattle.term_core.specs.Meaning.{Meaning}
use Rattle.term_core.specs.declared.step.Step.{Step}
use Rattle.world_model.specs.Names.{Name, Pid, Ref, same_name, same_ref, same_term}
use Rattle.world_model.specs.Requests.{Program}
use Rattle.world_model.specs.Events.{Signal}
use Rattle.world_model.specs.Rows.{Key, same_key, RowChange, rows_rewritten}
use Rattle.world_model.specs.Cells.{Cell, Taken, Mailed, Front, Tail, Holder, Holders, Row, Rows, meet, Contents}
use Rattle.world_model.specs.Changes.{Change, MessageAdded, without_first, SignalPut, HolderSet, HolderCleared, RowWritten, CellTouched, cell_of, renewed, changed, after}
use Rattle.world_model.specs.Mailboxes.{left_of, mailbox_in, selected_of}
use Rattle.world_model.specs.Signals.{first_of}
use Rattle.world_model.specs.Steps.{reads}
use Rattle.world_model.specs.Frames.{SeesFirst, AgreeOn}
use Rattle.world_model.proofs.Meeting.{is_part, left_meets, pid_itself, pids_same, right_meets, both, refs_same}
use Rattle.world_model.proofs.HolderLaws.{held_change, cell_held, holders_with, renewed_held, holders_swapped}
use Rattle.world_model.proofs.RowLaws.{rows_swapped, keys_same}
use Rattle.world_model.proofs.Outcomes.{Outcome, outcome, touches, meets, AreIndependent, Commute}

-- ---- tests

pub left_false : (a b : Bool) → (a || b) ≡ false → a ≡ false
left_false false b e = refl
left_false true b e = e

pub right_false : (a b : Bool) → (a || b) ≡ false → b ≡ false
right_false false b e = e
right_false true b e = absurd cc

pub either_is : (b : Bool) → (b ≡ true) ⊎ (b ≡ false)
either_is true = inl refl
either_is false = inr refl

-- ---- what changes leave

changed_not : (k : Change) (v : Contents) (c : Cell) → meet (cell_of k) c ≡ false → changed k v c ≡ v c
changed_not k v c other = ap (λ b. if b then renewed k c (v c) else v c) other

-- a cell that is not touched contains what it did
pub stays : (ks : List Change) (v : Contents) (c : Cell) → touches ks c ≡ false → after ks v c ≡ v c
stays [] v c other = refl
stays (k ∷ ks) v c other = stays ks (changed k v) c (right_false (meet (cell_of k) c) (touches ks c) other) ∙ changed_not k v c (left_false (meet (cell_of k) c) (touches ks c) other)

-- what a cell contains afterwards is a matter of what it contained
pub follows : (ks : List Change) (v w : Contents) (c : Cell) → v c ≡ w c → after ks v c ≡ after ks w c
follows [] v w c same = same
follows (k ∷ ks) v w c same = follows ks (changed k v) (changed k w) c (ap (λ x. if meet (cell_of k) c then renewed k c x else x) same)

-- ---- a channel

-- appending to a list that is not empty leaves what is in front
first_stays : (n : ℕ) (xs ys : List Signal) (x : Signal) → first_of (drop n xs) ≡ Some x → first_of (drop n (xs ++ ys)) ≡ Some x
first_stays zero [] ys x e = absurd cc
first_stays zero (z ∷ xs) ys x e = e
first_stays (suc n) [] ys x e = absurd cc
first_stays (suc n) (z ∷ xs) ys x e = first_stays n xs ys x e

not_longer : {A : Type 0} (xs : List A) → xs ≡ xs ++ []
not_longer [] = refl
not_longer (x ∷ xs) = ap (λ ys. x ∷ ys) (not_longer xs)

longer_by : {A : Type 0} (b : Bool) (xs : List A) (x : A) → (more : List A) × ((if b then xs ++ (x ∷ []) else xs) ≡ xs ++ more)
longer_by true xs x = (x ∷ [], refl)
longer_by false xs x = ([], not_longer xs)

same_as : {A : Type 0} (b : Bool) (xs : List A) → (more : List A) × ((if b then xs else xs) ≡ xs ++ more)
same_as true xs = ([], not_longer xs)
same_as false xs = ([], not_longer xs)

-- the tail of a channel only grows
grown_by : (k : Change) (v : Contents) (s r : Pid) → (more : List Signal) × (changed k v (Tail s r) ≡ v (Tail s r) ++ more)
grown_by (SignalPut a b x) v s r = longer_by (meet (Tail a b) (Tail s r)) (v (Tail s r)) x
grown_by k v s r = same_as (meet (cell_of k) (Tail s r)) (v (Tail s r))

grown : (ks : List Change) (v : Contents) (s r : Pid) → (more : List Signal) × (after ks v (Tail s r) ≡ v (Tail s r) ++ more)
grown [] v s r = ([], not_longer (v (Tail s r)))
grown (k ∷ ks) v s r =
    let one = grown_by k v s r in
    let rest = grown ks (changed k v) s r in
    (one.0 ++ rest.0, rest.1 ∙ ap (λ xs. xs ++ rest.0) one.1 ∙ append_assoc (v (Tail s r)) one.0 rest.0)

-- ---- a mailbox

-- what came only grows
came_by : (k : Change) (v : Contents) (p : Pid) → (more : List Meaning) × (changed k v (Mailed p) ≡ v (Mailed p) ++ more)
came_by (MessageAdded q m) v p = longer_by (meet (Mailed q) (Mailed p)) (v (Mailed p)) m
came_by k v p = same_as (meet (cell_of k) (Mailed p)) (v (Mailed p))

pub came : (ks : List Change) (v : Contents) (p : Pid) → (more : List Meaning) × (after ks v (Mailed p) ≡ v (Mailed p) ++ more)
came [] v p = ([], not_longer (v (Mailed p)))
came (k ∷ ks) v p =
    let one = came_by k v p in
    let rest = came ks (changed k v) p in
    (one.0 ++ rest.0, rest.1 ∙ ap (λ xs. xs ++ rest.0) one.1 ∙ append_assoc (v (Mailed p)) one.0 rest.0)

-- what comes after stays after what is left
without_by : (b : Bool) (x : Meaning) (xs ys us ws more : List Meaning) → us ≡ ws ++ more → (rest : List Meaning) × ((if b then xs ++ ys else x ∷ us) ≡ (if b then xs else x ∷ ws) ++ rest)
without_by true x xs ys us ws more is = (ys, refl)
without_by false x xs ys us ws more is = (more, ap (λ zs. x ∷ zs) is)

without_more : (test : Meaning → Bool) (xs ys : List Meaning) → (more : List Meaning) × (without_first test (xs ++ ys) ≡ without_first test xs ++ more)
without_more test [] ys = (without_first test ys, refl)
without_more test (x ∷ xs) ys =
    let rest = without_more test xs ys in
    without_by (test x) x xs ys (without_first test (xs ++ ys)) (without_first test xs) rest.0 rest.1

left_more : (taken xs ys : List Meaning) → (more : List Meaning) × (left_of taken (xs ++ ys) ≡ left_of taken xs ++ more)
left_more [] xs ys = (ys, refl)
left_more (t ∷ ts) xs ys =
    let one = without_more (same_term t) xs ys in
    let rest = left_more ts (without_first (same_term t) xs) one.0 in
    (rest.0, ap (left_of ts) one.1 ∙ rest.1)

-- and does not matter to a receive that finds a message
found_by : (b : Bool) (x m : Meaning) (o q : Option Meaning) → (o ≡ Some m → q ≡ Some m) → (if b then Some x else o) ≡ Some m → (if b then Some x else q) ≡ Some m
found_by true x m o q rest is = is
found_by false x m o q rest is = rest is

selected_stays : (selects : Meaning → Bool) (xs ys : List Meaning) (m : Meaning) → selected_of selects xs ≡ Some m → selected_of selects (xs ++ ys) ≡ Some m
selected_stays selects [] ys m is = absurd cc
selected_stays selects (x ∷ xs) ys m is = found_by (selects x) x m (selected_of selects xs) (selected_of selects (xs ++ ys)) (selected_stays selects xs ys m) is

-- ---- the law of frames, and commuting

-- what is first stays first
sees_first : (ks : List Change) (v : Contents) (c : Cell) → touches ks c ≡ false → SeesFirst v (after ks v) c
sees_first ks v (Front s r) other =
    let more = grown ks v s r in
    λ x is. ap (λ n. first_of (drop n (after ks v (Tail s r)))) (stays ks v (Front s r) other) ∙ ap (λ xs. first_of (drop (v (Front s r)) xs)) more.1 ∙ first_stays (v (Front s r)) (v (Tail s r)) more.0 x is
sees_first ks v (Taken p) other =
    let more = came ks v p in
    let rest = left_more (v (Taken p)) (v (Mailed p)) more.0 in
    λ selects m is.
    ap (λ ts. selected_of selects (left_of ts (after ks v (Mailed p)))) (stays ks v (Taken p) other)
    ∙ ap (λ xs. selected_of selects (left_of (v (Taken p)) xs)) more.1
    ∙ ap (selected_of selects) rest.1
    ∙ selected_stays selects (mailbox_in v p) rest.0 m is
sees_first ks v c other = tt

-- so what is read stays where it is not touched
agree_after : (ks : List Change) (v : Contents) (cs : List Cell) → meets ks cs ≡ false → AgreeOn v (after ks v) cs
agree_after ks v [] other = tt
agree_after ks v (c ∷ cs) other =
    let here = left_false (touches ks c) (meets ks cs) other in
    ((sym (stays ks v c here), sees_first ks v c here), agree_after ks v cs (right_false (touches ks c) (meets ks cs) other))

-- ---- two changes that do not meet leave the same in either order

follows_one : (k : Change) (v w : Contents) (c : Cell) → v c ≡ w c → changed k v c ≡ changed k w c
follows_one k v w c same = follows (k ∷ []) v w c same

-- a change passes one that leaves a cell as it is
passes : (k l : Change) (v : Contents) (c : Cell) → ((w : Contents) → changed k w c ≡ w c) → changed l (changed k v) c ≡ changed k (changed l v) c
passes k l v c idle = follows_one l (changed k v) v c (idle v) ∙ sym (idle (changed l v))

-- a change is of a whole cell, or of a row, or of the holder of a name, or changes nothing
IsWrite : Change → Type 0
IsWrite k = (t : Ref) × (key : Key) × (x : RowChange) × (k ≡ RowWritten t key x)

IsHeld : Change → Type 0
IsHeld k = (n : Name) × (o : Option Pid) × (k ≡ held_change n o)

IsIdle : Change → Type 0
IsIdle k = (v : Contents) (c : Cell) → changed k v c ≡ v c

pub either_way : {A : Type 0} (b : Bool) (x : A) → (if b then x else x) ≡ x
either_way true x = refl
either_way false x = refl

Nature : Change → Type 0
Nature k = (is_part (cell_of k) ≡ false) ⊎ (IsWrite k ⊎ (IsHeld k ⊎ IsIdle k))

nature : (k : Change) → Nature k
unfolding Nature IsWrite IsHeld IsIdle
nature (RowWritten t key x) = inr (inl (t, key, x, refl))
nature (HolderSet n p) = inr (inr (inl (n, Some p, refl)))
nature (HolderCleared n) = inr (inr (inl (n, None, refl)))
nature (CellTouched d) = inr (inr (inr (λ v c. either_way (meet d c) (v c))))
nature k = inl refl

changed_is : (k : Change) (v : Contents) (c : Cell) → meet (cell_of k) c ≡ true → changed k v c ≡ renewed k c (v c)
changed_is k v c here = ap (λ b. if b then renewed k c (v c) else v c) here

-- two writes
not_keys : (t u : Ref) (a b : Key) → t ≡ u → meet (Row t a) (Row u b) ≡ false → same_ref t u ≡ true → same_key a b ≡ false
not_keys t u a b same apart here = ap (λ x. x && same_key a b) (sym here) ∙ apart

writes_swapped : (t u : Ref) (a b : Key) (x y : RowChange) (v : Contents) (c : Cell) → meet (Row t a) (Row u b) ≡ false → meet (Row t a) c ≡ true → meet (Row u b) c ≡ true → changed (RowWritten u b y) (changed (RowWritten t a x) v) c ≡ changed (RowWritten t a x) (changed (RowWritten u b y) v) c
writes_swapped t u a b x y v (Rows s) apart here there =
    let same : t ≡ u = refs_same t s here ∙ sym (refs_same u s there) in
    let tables : same_ref t u ≡ true = ap (λ r. same_ref t r) (refs_same u s there) ∙ here in
    let keys = not_keys t u a b same apart tables in
    changed_is (RowWritten u b y) (changed (RowWritten t a x) v) (Rows s) there
    ∙ ap (rows_rewritten b y) (changed_is (RowWritten t a x) v (Rows s) here)
    ∙ rows_swapped a b x y (v (Rows s)) keys
    ∙ sym (changed_is (RowWritten t a x) (changed (RowWritten u b y) v) (Rows s) here ∙ ap (rows_rewritten a x) (changed_is (RowWritten u b y) v (Rows s) there))
writes_swapped t u a b x y v (Row s k) apart here there =
    let right = both (same_ref u s) (same_key b k) there in
    absurd (true≢false (sym here ∙ sym (λ i. same_ref t (refs_same u s right.0 i) && same_key a (keys_same b k right.1 i)) ∙ apart))
writes_swapped t u a b x y v c apart here there = absurd (true≢false (sym here))

-- two holders
holds_swapped : (n m : Name) (o q : Option Pid) (v : Contents) (c : Cell) → meet (Holder n) (Holder m) ≡ false → meet (Holder n) c ≡ true → meet (Holder m) c ≡ true → changed (held_change m q) (changed (held_change n o) v) c ≡ changed (held_change n o) (changed (held_change m q) v) c
holds_swapped n m o q v Holders apart here there =
    renewed_held m q (changed (held_change n o) v)
    ∙ ap (holders_with m q) (renewed_held n o v)
    ∙ holders_swapped n m o q (v Holders) apart
    ∙ sym (renewed_held n o (changed (held_change m q) v) ∙ ap (holders_with n o) (renewed_held m q v))
holds_swapped n m o q v (Holder k) apart here there =
    absurd (true≢false (sym (pid_itself n) ∙ ap (same_name n) (pids_same n k here ∙ sym (pids_same m k there)) ∙ apart))
holds_swapped n m o q v c apart here there = absurd (true≢false (sym here))

-- no cell is met by a row and by the holder of a name
no_both : (t : Ref) (key : Key) (n : Name) (c : Cell) → meet (Row t key) c ≡ true → meet (Holder n) c ≡ true → ⊥
no_both t key n (Row u l) here there = true≢false (sym there)
no_both t key n (Rows u) here there = true≢false (sym there)
no_both t key n c here there = true≢false (sym here)

-- of two changes that meet one cell and not each other, both are writes, or both of holders
where_both : (k l : Change) (v : Contents) (c : Cell) → meet (cell_of k) (cell_of l) ≡ false → meet (cell_of k) c ≡ true → meet (cell_of l) c ≡ true → Nature k → Nature l → changed l (changed k v) c ≡ changed k (changed l v) c
unfolding Nature IsWrite IsHeld IsIdle
where_both k l v c apart here there (inl whole_) n = absurd (true≢false (sym (left_meets (cell_of k) (cell_of l) c whole_ here there) ∙ apart))
where_both k l v c apart here there m (inl whole_) = absurd (true≢false (sym (right_meets (cell_of k) (cell_of l) c whole_ here there) ∙ apart))
where_both k l v c apart here there (inr (inr (inr idle))) n = passes k l v c (λ w. idle w c)
where_both k l v c apart here there m (inr (inr (inr idle))) = sym (passes l k v c (λ w. idle w c))
where_both k l v c apart here there (inr (inl one)) (inr (inl two)) =
    let ks = one.3 in
    let ls = two.3 in
    (λ i. changed (ls i) (changed (ks i) v) c)
    ∙ writes_swapped one.0 two.0 one.1 two.1 one.2 two.2 v c ((λ i. meet (cell_of (sym ks i)) (cell_of (sym ls i))) ∙ apart) ((λ i. meet (cell_of (sym ks i)) c) ∙ here) ((λ i. meet (cell_of (sym ls i)) c) ∙ there)
    ∙ sym (λ i. changed (ks i) (changed (ls i) v) c)
where_both k l v c apart here there (inr (inr (inl one))) (inr (inr (inl two))) =
    let ks = one.2 in
    let ls = two.2 in
    let first : cell_of k ≡ Holder one.0 = ap cell_of ks ∙ cell_held one.0 one.1 in
    let second : cell_of l ≡ Holder two.0 = ap cell_of ls ∙ cell_held two.0 two.1 in
    (λ i. changed (ls i) (changed (ks i) v) c)
    ∙ holds_swapped one.0 two.0 one.1 two.1 v c ((λ i. meet (sym first i) (sym second i)) ∙ apart) ((λ i. meet (sym first i) c) ∙ here) ((λ i. meet (sym second i) c) ∙ there)
    ∙ sym (λ i. changed (ks i) (changed (ls i) v) c)
where_both k l v c apart here there (inr (inl one)) (inr (inr (inl two))) =
    absurd (no_both one.0 one.1 two.0 c ((λ i. meet (cell_of (sym one.3 i)) c) ∙ here) ((λ i. meet (sym (ap cell_of two.2 ∙ cell_held two.0 two.1) i) c) ∙ there))
where_both k l v c apart here there (inr (inr (inl one))) (inr (inl two)) =
    absurd (no_both two.0 two.1 one.0 c ((λ i. meet (cell_of (sym two.3 i)) c) ∙ there) ((λ i. meet (sym (ap cell_of one.2 ∙ cell_held one.0 one.1) i) c) ∙ here))

in_either_order : (k l : Change) (v : Contents) (c : Cell) → meet (cell_of k) (cell_of l) ≡ false → changed l (changed k v) c ≡ changed k (changed l v) c
in_either_order k l v c apart =
    elim (either_is (meet (cell_of k) c)) [
      | inr other ↦ passes k l v c (λ w. changed_not k w c other)
      | inl here ↦ elim (either_is (meet (cell_of l) c)) [
        | inr other ↦ sym (passes l k v c (λ w. changed_not l w c other))
        | inl there ↦ where_both k l v c apart here there (nature k) (nature l)
      ]
    ]

-- ---- lists of changes

first_apart : (k : Change) (ks : List Change) (cs : List Cell) → meets (k ∷ ks) cs ≡ false → meets (k ∷ []) cs ≡ false
first_apart k ks [] apart = refl
first_apart k ks (c ∷ cs) apart =
    let here = left_false (meet (cell_of k) c || touches ks c) (meets (k ∷ ks) cs) apart in
    λ i. (left_false (meet (cell_of k) c) (touches ks c) here i || false) || first_apart k ks cs (right_false (meet (cell_of k) c || touches ks c) (meets (k ∷ ks) cs) apart) i

rest_apart : (k : Change) (ks : List Change) (cs : List Cell) → meets (k ∷ ks) cs ≡ false → meets ks cs ≡ false
rest_apart k ks [] apart = refl
rest_apart k ks (c ∷ cs) apart =
    let here = left_false (meet (cell_of k) c || touches ks c) (meets (k ∷ ks) cs) apart in
    λ i. right_false (meet (cell_of k) c) (touches ks c) here i || rest_apart k ks cs (right_false (meet (cell_of k) c || touches ks c) (meets (k ∷ ks) cs) apart) i

one_passes : (k : Change) (ls : List Change) (v : Contents) → meets (k ∷ []) (map cell_of ls) ≡ false → after ls (changed k v) ≡ changed k (after ls v)
one_passes k [] v apart = refl
one_passes k (l ∷ ls) v apart =
    let here = left_false (meet (cell_of k) (cell_of l)) false (left_false (meet (cell_of k) (cell_of l) || false) (meets (k ∷ []) (map cell_of ls)) apart) in
    (λ i. after ls (λ c. in_either_order k l v c here i)) ∙ one_passes k ls (changed l v) (right_false (meet (cell_of k) (cell_of l) || false) (meets (k ∷ []) (map cell_of ls)) apart)

-- changes that do not meet leave the same in either order
same_in_order : (ks ls : List Change) (v : Contents) → meets ks (map cell_of ls) ≡ false → after ls (after ks v) ≡ after ks (after ls v)
same_in_order [] ls v apart = refl
same_in_order (k ∷ ks) ls v apart = same_in_order ks ls (changed k v) (rest_apart k ks (map cell_of ls) apart) ∙ ap (after ks) (one_passes k ls v (first_apart k ks (map cell_of ls) apart))

-- the law of frames: contents that agree on what a step reads give it the same outcome, and the same reads
abbrev pub Frames : Program → Type 0
Frames a = (v w : Contents) (s : Step) → AgreeOn v w (reads a v s) → (outcome a v s ≡ outcome a w s) × (reads a v s ≡ reads a w s)

-- a step is after another what it was before, where that writes nothing that it reads
same_after : (a : Program) (v : Contents) (s : Step) (o : Outcome) (ks : List Change) → Frames a → outcome a v s ≡ Some o → meets ks (reads a v s) ≡ false → outcome a (after ks v) s ≡ Some o
same_after a v s o ks frames is apart = sym (frames v (after ks v) s (agree_after ks v (reads a v s) apart)).0 ∙ is

-- independent steps commute
pub commute : (a : Program) (v : Contents) (s t : Step) (d e : Outcome) → Frames a → outcome a v s ≡ Some d → outcome a v t ≡ Some e → AreIndependent a v s t d.1 e.1 → Commute a v s t d e
commute a v s t d e frames first second apart = record {
  second_after_first = same_after a v t e d.1 frames second apart.second_reads;
  first_after_second = same_after a v s d e.1 frames first apart.first_reads;
  same = λ c i. same_in_order d.1 e.1 v apart.writes i c;
}
