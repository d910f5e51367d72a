-- Other ways to say who waits, and which messages lie in a mailbox.
use Rattle.std.proofs.Common.{◌≡◌, ◌<◌, ◌≤◌, ℕ, ◌+◌, List, [], ◌∷◌, ◌++◌, length, drop, get_or, Some, None, refl, sym, ap, ◌∙◌, codes}
use Rattle.std.specs.List.{flat_map, slice_get}
use Rattle.std.proofs.lemmas.List.{at_drop_more, at_drop_all}
use Rattle.std.proofs.lemmas.Option.{none-some, same_Some}
use Rattle.term_core.specs.Meaning.{Meaning}
use Rattle.core_tree.specs.Syntax.{ModuleTree}
use Rattle.proc_mailboxes.specs.Mailboxes.{Mailboxes, messages_in}
use Rattle.world_model.specs.Events.{History}
use Rattle.world_model.specs.Mailboxes.{mailbox_in}
use Rattle.world_model.specs.Names.{Pid}
use Rattle.world_model.specs.World.{contents}
use Rattle.world_records.specs.Records.{Agrees, mailboxes_of}
use Rattle.world_records.specs.declared.records.Records.{Records}
use Rattle.report_terms.specs.Strings.{string_of_pid, string_of_term, strings_of_terms, term_after_comma}
use Rattle.report_terms.specs.TermsReport.{waits_line, waits_lines}

-- ---- processes

-- the line of one process, and then of those after it
pub waiting-item : (h : History) (ps : List Pid) (i : ℕ) (d p : Pid) → i < length ps → p ≡ get_or ps i d → waits_lines h (drop i ps) ≡ waits_line p (mailbox_in (contents h) p) ++ waits_lines h (drop (i + 1) ps)
waiting-item h ps i d p within at =
    at_drop_more (waits_lines h) ps i d within ∙ ap (λ (q : Pid). waits_line q (mailbox_in (contents h) q) ++ waits_lines h (drop (i + 1) ps)) (sym at)

-- no process is left
pub waiting-end : (h : History) (ps : List Pid) (i : ℕ) → length ps ≤ i → waits_lines h (drop i ps) ≡ []
waiting-end h ps i all = at_drop_all (waits_lines h) ps i all

-- by what is kept of the mailboxes
pub waiting-messages : (m : ModuleTree) (records : Records) (h : History) (p : Pid) (mailboxes : Mailboxes) → Agrees m records (contents h) → mailboxes ≡ mailboxes_of records
    → waits_line p (mailbox_in (contents h) p) ≡ codes "{waits," ++ (string_of_pid p ++ (codes ",[" ++ (strings_of_terms (messages_in mailboxes p) ++ codes "]}.\n")))
waiting-messages m records h p mailboxes agrees is =
    let same : messages_in mailboxes p ≡ mailbox_in (contents h) p = ap (λ (kept : Mailboxes). messages_in kept p) is ∙ (agrees.mailboxes_are p).left in
    sym (ap (λ (ms : List Meaning). codes "{waits," ++ (string_of_pid p ++ (codes ",[" ++ (strings_of_terms ms ++ codes "]}.\n")))) same)

-- ---- messages

-- there is a first one
pub messages-first : (messages : List Meaning) (m : Meaning) → Some m ≡ slice_get messages 0 → strings_of_terms messages ≡ string_of_term m ++ flat_map term_after_comma (drop 1 messages)
messages-first [] m is = absurd (none-some m (sym is))
messages-first (n ∷ ms) m is = ap (λ (k : Meaning). string_of_term k ++ flat_map term_after_comma ms) (sym (same_Some m n is))

-- the list is empty
pub messages-none : (messages : List Meaning) → None ≡ slice_get messages 0 → strings_of_terms messages ≡ []
messages-none [] is = refl
messages-none (m ∷ ms) is = absurd (none-some m is)
