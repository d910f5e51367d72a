-- Other ways to say who waits, and which messages lie in a mailbox.
use Rattle.std.proofs.Common.{◌≡◌, ◌<◌, ◌≤◌, ℕ, ◌+◌, List, [], ◌∷◌, ◌++◌, length, drop, get_or, Some, None, refl, sym, ap, ◌∙◌, append-nil, arith, codes}
use Rattle.std.specs.List.{flat_map, slice_get}
use Rattle.std.proofs.lemmas.List.{at_drop_more, at_drop_all}
use Rattle.std.proofs.lemmas.Option.{none-some, same_Some, slice_get-get_or}
use Rattle.term_core.specs.Meaning.{Meaning}
use Rattle.term_core.specs.Text.{text_of_pid}
use Rattle.term_core.specs.TermText.{text_of_term}
use Rattle.core_tree.specs.Syntax.{ModuleTree}
use Rattle.proc_mailboxes.specs.Mailboxes.{Mailboxes, messages_in}
use Rattle.world_model.specs.Events.{History}
use Rattle.world_model.specs.Mailboxes.{mailbox_in}
use Rattle.world_model.specs.Names.{Pid}
use Rattle.world_model.specs.World.{contents}
use Rattle.world_records.specs.Records.{Agrees, mailboxes_of}
use Rattle.world_records.specs.declared.records.Records.{Records}
use Rattle.world_event_text.specs.CallText.{behind_comma, text_of_arguments}
use Rattle.report_explained.specs.Explained.{indented, text_of_all_waiting, text_of_waiting}

-- ---- processes

-- the line of one process, and then of those after it
pub waiting-item : (h : History) (ps : List Pid) (i : ℕ) (d p : Pid) → i < length ps → p ≡ get_or ps i d → text_of_all_waiting h (drop i ps) ≡ indented (text_of_waiting p (mailbox_in (contents h) p)) ++ text_of_all_waiting h (drop (i + 1) ps)
waiting-item h ps i d p within at =
    at_drop_more (text_of_all_waiting h) ps i d within ∙ ap (λ (q : Pid). indented (text_of_waiting q (mailbox_in (contents h) q)) ++ text_of_all_waiting h (drop (i + 1) ps)) (sym at)

-- no process is left
pub waiting-end : (h : History) (ps : List Pid) (i : ℕ) → length ps ≤ i → text_of_all_waiting h (drop i ps) ≡ []
waiting-end h ps i all = at_drop_all (text_of_all_waiting h) ps i all

-- by what is kept of the mailboxes
pub waiting-messages : (m : ModuleTree) (records : Records) (h : History) (p : Pid) (mailboxes : Mailboxes) → Agrees m records (contents h) → mailboxes ≡ mailboxes_of records
    → indented (text_of_waiting p (mailbox_in (contents h) p)) ≡ codes "    " ++ (text_of_pid p ++ (codes " waits, mailbox [" ++ (text_of_arguments (messages_in mailboxes p) ++ codes "]\n")))
waiting-messages m records h p mailboxes agrees is =
    let same : messages_in mailboxes p ≡ mailbox_in (contents h) p = ap (λ (kept : Mailboxes). messages_in kept p) is ∙ (agrees.mailboxes_are p).left in
    sym (ap (λ (ms : List Meaning). codes "    " ++ (text_of_pid p ++ (codes " waits, mailbox [" ++ (text_of_arguments ms ++ codes "]\n")))) same)

-- ---- messages

-- the first, and each other after a comma
pub messages-cons : (m : Meaning) (ms : List Meaning) → text_of_arguments (m ∷ ms) ≡ text_of_term m ++ flat_map behind_comma ms
messages-cons m [] = sym (append-nil (text_of_term m))
messages-cons m (n ∷ ms) = ap (λ w. text_of_term m ++ (codes "," ++ w)) (messages-cons n ms)

-- there is a first one
pub messages-first : (messages : List Meaning) (m : Meaning) → Some m ≡ slice_get messages 0 → text_of_arguments messages ≡ text_of_term m ++ flat_map behind_comma (drop 1 messages)
messages-first [] m is = absurd (none-some m (sym is))
messages-first (n ∷ ms) m is = messages-cons n ms ∙ ap (λ (k : Meaning). text_of_term k ++ flat_map behind_comma ms) (sym (same_Some m n is))

-- the list is empty
pub messages-none : (messages : List Meaning) → None ≡ slice_get messages 0 → text_of_arguments messages ≡ []
messages-none [] is = refl
messages-none (m ∷ ms) is = absurd (none-some m is)

-- there is one at each place of the mailbox
pub messages-there : (messages : List Meaning) (i : ℕ) → i < length messages → None ≡ slice_get messages i → ⊥
messages-there [] i within is = omega (arith, within)
messages-there (m ∷ ms) i within is = none-some (get_or (m ∷ ms) i m) (is ∙ slice_get-get_or (m ∷ ms) i m within)
