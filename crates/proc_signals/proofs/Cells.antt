-- How mailboxes and channels follow the changes of cells.
use Rattle.std.proofs.Common.{◌≡◌, ◌&&◌, ◌+◌, ◌≤◌, ℕ, Option, Some, None, slice_get, option_map, IsSome, Bool, true, false, List, [], ◌∷◌, ◌++◌, refl, sym, ap, ◌∙◌, subst, if◌then◌else◌, drop, length, length-append, append_assoc, arith}
use Prim.Native.Nat.{suc, zero}
use Rattle.std.specs.List.{list_any, remove}
use Rattle.term_core.specs.Meaning.{Meaning}
use Rattle.world_model.proofs.MailboxLaws.{left_last, without_behind, selected_there, without_selected, without_none}
use Rattle.world_model.proofs.Meeting.{both}
use Rattle.world_model.specs.Cells.{Contents, Taken, Mailed, Front, Tail}
use Rattle.world_model.specs.Changes.{changed, after, without_first, MessageAdded, MessageTaken, SignalPut, SignalDelivered}
use Rattle.world_model.specs.Events.{Signal}
use Rattle.world_model.specs.Mailboxes.{left_of, selected_of, picked}
use Rattle.world_model.specs.Names.{Pid, same_pid, same_term}
use Rattle.world_model.specs.Signals.{first_of}
use Rattle.proc_signals.specs.Channels.{Senders, between, IsChangedBetween, AreWaiting, AreChannels}
use Rattle.proc_signals.specs.Mailbox.{first_place, IsMailbox}
use Rattle.proc_signals.proofs.Beside.{pid_itself, pids_same}
use Rattle.proc_signals.proofs.Removing.{place_selected, place_removed}

chosen : {A : Type 0} (b : Bool) (x y : A) → b ≡ true → (if b then x else y) ≡ x
chosen true x y e = refl
chosen false x y e = absurd cc

-- ---- mailboxes

abbrev Left : List Meaning → List Meaning → List Meaning → Type 0
Left messages ts xs = (messages ≡ left_of ts xs) × ((more : List Meaning) → left_of ts (xs ++ more) ≡ messages ++ more)

mailed_if : (b : Bool) (ms ts xs : List Meaning) (m : Meaning) → Left ms ts xs → Left (if b then ms ++ (m ∷ []) else ms) ts (if b then xs ++ (m ∷ []) else xs)
mailed_if true ms ts xs m told =
    (sym (told.1 (m ∷ [])), λ more. ap (left_of ts) (append_assoc xs (m ∷ []) more) ∙ told.1 (m ∷ more) ∙ sym (append_assoc ms (m ∷ []) more))
mailed_if false ms ts xs m told = told

picked_if : (b : Bool) (ms ts xs : List Meaning) (m : Meaning) → (b ≡ true → list_any (same_term m) ms ≡ true) → Left ms ts xs → Left (if b then without_first (same_term m) ms else ms) (if b then ts ++ (m ∷ []) else ts) xs
picked_if true ms ts xs m there told =
    (ap (without_first (same_term m)) told.0 ∙ sym (left_last ts m xs), λ more. left_last ts m (xs ++ more) ∙ ap (without_first (same_term m)) (told.1 more) ∙ without_behind (same_term m) ms more (there refl))
picked_if false ms ts xs m there told = told

-- a message comes in at one process, and others have what they had
pub mails_at : (p q : Pid) (m : Meaning) (ms : List Meaning) (v : Contents) → IsMailbox ms v q → IsMailbox (if same_pid p q then ms ++ (m ∷ []) else ms) (changed (MessageAdded p m) v) q
mails_at p q m ms v told =
    let now = mailed_if (same_pid p q) ms (v (Taken q)) (v (Mailed q)) m (told.left, told.behind) in
    record { left = now.0; behind = now.1 }

-- a message that is there is taken
pub picks_at : (p q : Pid) (m : Meaning) (ms : List Meaning) (v : Contents) → (same_pid p q ≡ true → list_any (same_term m) ms ≡ true) → IsMailbox ms v q → IsMailbox (if same_pid p q then without_first (same_term m) ms else ms) (changed (MessageTaken p m) v) q
picks_at p q m ms v there told =
    let now = picked_if (same_pid p q) ms (v (Taken q)) (v (Mailed q)) m there (told.left, told.behind) in
    record { left = now.0; behind = now.1 }

pub mails_follow : (p : Pid) (m : Meaning) (old new : List Meaning) (v : Contents) → new ≡ old ++ (m ∷ []) → IsMailbox old v p → IsMailbox new (changed (MessageAdded p m) v) p
mails_follow p m old new v is told = subst (λ ms. IsMailbox ms (changed (MessageAdded p m) v) p) (chosen (same_pid p p) (old ++ (m ∷ [])) old (pid_itself p) ∙ sym is) (mails_at p p m old v told)

-- the first message of a selection is taken
pub picks_selected : (test : Meaning → Bool) (p : Pid) (old new : List Meaning) (v : Contents) (m : Meaning) → selected_of test old ≡ Some m → new ≡ without_first test old → IsMailbox old v p → IsMailbox new (changed (MessageTaken p m) v) p
picks_selected test p old new v m is at told =
    subst (λ ms. IsMailbox ms (changed (MessageTaken p m) v) p) (chosen (same_pid p p) (without_first (same_term m) old) old (pid_itself p) ∙ without_selected test old m is ∙ sym at) (picks_at p p m old v (λ same. selected_there test old m is) told)

-- what is found is taken, if it is
pub picked_follows : (test : Meaning → Bool) (p : Pid) (old new : List Meaning) (v : Contents) (o : Option Meaning) → selected_of test old ≡ o → new ≡ without_first test old → IsMailbox old v p → IsMailbox new (after (picked p o) v) p
picked_follows test p old new v None is at told = subst (λ ms. IsMailbox ms v p) (sym (without_none test old is) ∙ sym at) told
picked_follows test p old new v (Some m) is at told = picks_selected test p old new v m is at told

-- a message that was found is taken out
pub picks_follow : (selects : Meaning → Bool) (p : Pid) (old new : List Meaning) (v : Contents) (n : ℕ) (x : Meaning) → first_place selects old ≡ Some n → slice_get old n ≡ Some x → new ≡ remove old n → IsMailbox old v p → IsMailbox new (changed (MessageTaken p x) v) p
picks_follow selects p old new v n x first at rest told =
    picks_selected selects p old new v x (sym (place_selected selects old n first) ∙ at) (rest ∙ sym (place_removed selects old n first)) told

-- ---- channels

drop_behind : (n : ℕ) (xs ys : List Signal) → n ≤ length xs → drop n (xs ++ ys) ≡ drop n xs ++ ys
drop_behind zero xs ys le = refl
drop_behind (suc n) [] ys le = absurd (omega arith)
drop_behind (suc n) (x ∷ xs) ys le = drop_behind n xs ys (omega arith)

put_if : (b : Bool) (w : List Signal) (n : ℕ) (t : List Signal) (x : Signal) → AreWaiting w n t → (if b then w ++ (x ∷ []) else w) ≡ drop n (if b then t ++ (x ∷ []) else t)
put_if true w n t x told = ap (λ ws. ws ++ (x ∷ [])) told.waiting ∙ sym (drop_behind n t (x ∷ []) told.counted)
put_if false w n t x told = told.waiting

counted_if : (b : Bool) (n : ℕ) (t : List Signal) (x : Signal) → n ≤ length t → n ≤ length (if b then t ++ (x ∷ []) else t)
counted_if true n t x le = omega (arith, length-append t (x ∷ []))
counted_if false n t x le = le

-- a signal that is put waits after the others
pub puts_follow : (v : Contents) (c d : Senders) (a b : Pid) (x : Signal) → IsChangedBetween a b (λ xs. xs ++ x ∷ []) c d → AreChannels c v → AreChannels d (changed (SignalPut a b x) v)
puts_follow v c d a b x now told s r =
    let in_order = told s r in
    record {
      waiting = now s r ∙ put_if (same_pid a s && same_pid b r) (between c s r) (v (Front s r)) (v (Tail s r)) x in_order;
      counted = counted_if (same_pid a s && same_pid b r) (v (Front s r)) (v (Tail s r)) x in_order.counted;
    }

next : (n : ℕ) → suc (n + 1) ≡ suc n + 1
next n = omega arith

drop_more : (n : ℕ) (xs : List Signal) → drop 1 (drop n xs) ≡ drop (n + 1) xs
drop_more zero [] = refl
drop_more zero (x ∷ xs) = refl
drop_more (suc n) [] = ap (λ k. drop k []) (next n)
drop_more (suc n) (x ∷ xs) = drop_more n xs ∙ ap (λ k. drop k (x ∷ xs)) (next n)

longer : (n : ℕ) (t : List Signal) (x : Signal) → first_of (drop n t) ≡ Some x → n + 1 ≤ length t
longer zero [] x some = absurd cc
longer zero (y ∷ t) x some = omega arith
longer (suc n) [] x some = absurd cc
longer (suc n) (y ∷ t) x some = let l = longer n t x some in omega arith

fetch_if : (b : Bool) (w : List Signal) (n : ℕ) (t : List Signal) → AreWaiting w n t → (if b then drop 1 w else w) ≡ drop (if b then n + 1 else n) t
fetch_if true w n t told = ap (drop 1) told.waiting ∙ drop_more n t
fetch_if false w n t told = told.waiting

fetched_if : (b : Bool) (w : List Signal) (n : ℕ) (t : List Signal) (x : Signal) → AreWaiting w n t → (b ≡ true → first_of w ≡ Some x) → (if b then n + 1 else n) ≤ length t
fetched_if true w n t x told some = longer n t x (ap first_of (sym told.waiting) ∙ some refl)
fetched_if false w n t x told some = told.counted

at_same : (a b s r : Pid) (P : Pid → Pid → Type 0) → P a b → (same_pid a s && same_pid b r) ≡ true → P s r
at_same a b s r P here e =
    let parts = both (same_pid a s) (same_pid b r) e in
    subst (λ x. P x r) (pids_same a s parts.0) (subst (λ y. P a y) (pids_same b r parts.1) here)

-- the oldest, once taken, no longer waits
pub fetches_follow : (v : Contents) (c d : Senders) (a b : Pid) (x : Signal) → IsChangedBetween a b (drop 1) c d → first_of (between c a b) ≡ Some x → AreChannels c v → AreChannels d (changed (SignalDelivered a b) v)
fetches_follow v c d a b x now some told s r =
    let in_order = told s r in
    record {
      waiting = now s r ∙ fetch_if (same_pid a s && same_pid b r) (between c s r) (v (Front s r)) (v (Tail s r)) in_order;
      counted = fetched_if (same_pid a s && same_pid b r) (between c s r) (v (Front s r)) (v (Tail s r)) x in_order (at_same a b s r (λ p q. first_of (between c p q) ≡ Some x) some);
    }

pub taken_follows : {S : Type 0} (f : S → Signal) (v : Contents) (c d : Senders) (a b : Pid) (taken : Option S) → IsChangedBetween a b (drop 1) c d → option_map f taken ≡ first_of (between c a b) → IsSome taken → AreChannels c v → AreChannels d (changed (SignalDelivered a b) v)
taken_follows f v c d a b None now is some told = absurd cc
taken_follows f v c d a b (Some x) now is some told = fetches_follow v c d a b (f x) now (sym is) told
