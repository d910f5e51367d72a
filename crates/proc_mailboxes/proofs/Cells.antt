-- How mailboxes follow the changes of cells.
use Rattle.std.proofs.Common.{◌≡◌, ◌<◌, ◌||◌, ℕ, Bool, true, false, true≢false, List, [], ◌∷◌, ◌++◌, Option, Some, None, refl, sym, ap, ◌∙◌, subst, arith, if◌then◌else◌, length, slice_get}
use Prim.Native.Nat.{suc, zero}
use Rattle.std.specs.List.{list_any, remove}
use Rattle.term_core.specs.Meaning.{Meaning}
use Rattle.term_core.proofs.Equality.{terms_same}
use Rattle.world_model.specs.Cells.{Contents}
use Rattle.world_model.specs.Changes.{after, changed, without_first, MessageAdded, MessageTaken}
use Rattle.world_model.specs.Mailboxes.{picked, selected_of}
use Rattle.world_model.specs.Names.{Pid, same_pid, same_term}
use Rattle.proc_signals.proofs.Beside.{pids_same}
use Rattle.proc_signals.proofs.Removing.{place_selected, place_removed}
use Rattle.proc_signals.proofs.Cells.{mails_at, picks_at}
use Rattle.world_model.proofs.MailboxLaws.{selected_there, without_selected, without_none}
use Rattle.proc_signals.specs.Mailbox.{first_place, IsMailbox}
use Rattle.proc_mailboxes.proofs.Kept.{if_alike}
use Rattle.proc_mailboxes.specs.Mailboxes.{Mailboxes, AreMailboxes, IsChangedAt, messages_in}

-- a message comes in at one process
pub mails_follow : (p : Pid) (m : Meaning) (old new : Mailboxes) (v : Contents) → IsChangedAt p (λ messages. messages ++ m ∷ []) old new → AreMailboxes old v → AreMailboxes new (changed (MessageAdded p m) v)
mails_follow p m old new v is told q = subst (λ ms. IsMailbox ms (changed (MessageAdded p m) v) q) (sym (is q)) (mails_at p q m (messages_in old q) v (told q))

-- the same change, made in another way
in_other_way : (f g : List Meaning → List Meaning) (p : Pid) (old new : Mailboxes) → f (messages_in old p) ≡ g (messages_in old p) → IsChangedAt p f old new → IsChangedAt p g old new
in_other_way f g p old new same is q =
    is q ∙ if_alike (same_pid p q) (f (messages_in old q)) (g (messages_in old q)) (messages_in old q) (λ e. subst (λ r. f (messages_in old r) ≡ g (messages_in old r)) (pids_same p q e) same)

-- within a list there is an item
pub is_there : (ms : List Meaning) (n : ℕ) → None ≡ slice_get ms n → n < length ms → ⊥
is_there [] n none within = omega arith
is_there (m ∷ ms) zero none within = absurd cc
is_there (m ∷ ms) (suc n) none within = is_there ms n none (omega arith)

if_either : (b : Bool) (x : List Meaning) → (if b then x else x) ≡ x
if_either true x = refl
if_either false x = refl

-- what is selected at one process is taken there, if it is
picked_follows : (test : Meaning → Bool) (p : Pid) (old new : Mailboxes) (v : Contents) (o : Option Meaning) → selected_of test (messages_in old p) ≡ o → IsChangedAt p (without_first test) old new → AreMailboxes old v → AreMailboxes new (after (picked p o) v)
picked_follows test p old new v None is at told q =
    let same = if_alike (same_pid p q) (without_first test (messages_in old q)) (messages_in old q) (messages_in old q) (λ e. without_none test (messages_in old q) (ap (λ r. selected_of test (messages_in old r)) (sym (pids_same p q e)) ∙ is)) in
    subst (λ ms. IsMailbox ms v q) (sym (at q ∙ same ∙ if_either (same_pid p q) (messages_in old q))) (told q)
picked_follows test p old new v (Some m) is at told q =
    let here : same_pid p q ≡ true → selected_of test (messages_in old q) ≡ Some m = λ e. ap (λ r. selected_of test (messages_in old r)) (sym (pids_same p q e)) ∙ is in
    let same = if_alike (same_pid p q) (without_first test (messages_in old q)) (without_first (same_term m) (messages_in old q)) (messages_in old q) (λ e. sym (without_selected test (messages_in old q) m (here e))) in
    subst (λ ms. IsMailbox ms (changed (MessageTaken p m) v) q) (sym (at q ∙ same)) (picks_at p q m (messages_in old q) v (λ e. selected_there test (messages_in old q) m (here e)) (told q))

-- a message that is found and taken is picked
pub picks_follow : (selects : Meaning → Bool) (p : Pid) (old new : Mailboxes) (n : ℕ) (taken : Option Meaning) → Some n ≡ first_place selects (messages_in old p) → n < length (messages_in old p) → taken ≡ slice_get (messages_in old p) n
    → IsChangedAt p (λ messages. remove messages n) old new → (v : Contents) → AreMailboxes old v → AreMailboxes new (after (picked p taken) v)
picks_follow selects p old new n None found within is at v told = absurd (is_there (messages_in old p) n is within)
picks_follow selects p old new n (Some x) found within is at v told =
    picked_follows selects p old new v (Some x) (sym (place_selected selects (messages_in old p) n (sym found)) ∙ sym is)
    (in_other_way (λ messages. remove messages n) (without_first selects) p old new (sym (place_removed selects (messages_in old p) n (sym found))) at) told

-- a message that is there is the oldest that is the same
there_first : (b : Bool) (x m : Meaning) (o : Option Meaning) → (b ≡ true → x ≡ m) → (b ≡ false → o ≡ Some m) → (if b then Some x else o) ≡ Some m
there_first true x m o here later = ap Some (here refl)
there_first false x m o here later = later refl

later_there : (a b : Bool) → a ≡ false → (a || b) ≡ true → b ≡ true
later_there true b e there = absurd (true≢false e)
later_there false b e there = there

pub same_selected : (m : Meaning) (ms : List Meaning) → list_any (same_term m) ms ≡ true → selected_of (same_term m) ms ≡ Some m
same_selected m [] there = absurd (true≢false (sym there))
same_selected m (x ∷ xs) there =
    there_first (same_term m x) x m (selected_of (same_term m) xs) (λ e. sym ((terms_same m x (same_term m x) refl).0 e))
    (λ e. same_selected m xs (later_there (same_term m x) (list_any (same_term m) xs) e there))
