-- The texts of identities and of schedules have no line end in them.
use Rattle.std.proofs.Common.{◌≡◌, ◌==◌, ◌&&◌, inl, ℕ, suc, ◌+◌, ◌/◌, ◌%◌, ◌<◌, ◌^◌, nat_lt, Bool, true, false, not, if◌then◌else◌, List, [], ◌∷◌, ◌++◌, Option, Some, None, IfSome, codes, ℤ, pos, negsuc, refl, arith, ne_eqb}
use Rattle.std.specs.Fmt.{decimal, signed_decimal}
use Rattle.std.specs.List.{AllByRecursion, flat_map}
use Rattle.core_calls.specs.Calls.{signature}
use Rattle.core_calls.specs.declared.call.CallKind.{CallKind}
use Rattle.core_calls.specs.declared.call.CallKind.TheVariants.{Spawn, SpawnLink, SpawnMonitor, Bang, Send, Exit, Link, Unlink, Monitor, Demonitor, DemonitorWith, ProcessFlag, Register, Unregister, Whereis, IsProcessAlive, MakeRef, MonitorWith, Alias, AliasWith, Unalias, StartTimer, SendAfter, CancelTimer, ReadTimer, Registered, ProcessInfo, New, Lookup, Member, LookupElement, First, Last, Next, Prev, TableToList, Insert, InsertNew, DeleteTable, DeleteKey, DeleteObject, DeleteAllObjects, Take, UpdateCounter, UpdateCounterWith, UpdateElement, GiveAway, SetOptions, Info, InfoAll}
use Rattle.world_identities.specs.Order.{number_of_rule}
use Rattle.report_identities.specs.Lawful.{IsLawfulIdentity}
use Rattle.world_event_text.specs.CallText.{name_of_rule, text_of_arguments, text_of_broken_rule, text_of_call, text_of_owner, text_of_rule}
use Rattle.report_text.specs.IdentityText.{pid_behind_blank, text_of_identity}
use Rattle.term_core.proofs.NumberTexts.{IsDigit, all_digits-decimal}
use Rattle.term_core.proofs.PidTexts.{lacks-pid}
use Rattle.term_core.proofs.Pieces.{all-append, all_weaker}
use Rattle.term_core.specs.Integers.{has_64_bits}
use Rattle.term_core.specs.Meaning as terms
use Rattle.term_core.specs.Meaning.{Meaning, Meanings, NoMore, Also}
use Rattle.term_core.specs.Schedule.{AreLawful, IsLawfulStep}
use Rattle.term_core.specs.TermText.{behind_bar, printed_byte, text_of_atom, text_of_others, text_of_reference, text_of_tail, text_of_term, text_of_tuple}
use Rattle.term_core.specs.Text.{dotted, text_of_pid, text_of_schedule, text_of_step}
use Rattle.term_core.specs.declared.step.Step.{Step}
use Rattle.term_core.specs.declared.step.Step.TheVariants.{Turn, Deliver}
use Rattle.term_reader.proofs.IntegerTexts.{bits_below, bits_below_negative}
use Rattle.term_reader.specs.Lawful as reader
use Rattle.term_reader.specs.Lawful.{AreNumbers, IsLawful}
use Rattle.world_model.specs.Names.{Pid}
use Rattle.world_model.specs.Shown.{Identity, End, Deadlock, Runaway, RefusedCall, Unread}
use Rattle.world_model.specs.declared.rule.Rule.{Rule}
use Rattle.world_model.specs.declared.rule.Rule.TheVariants.{BadTable, NoTable, PrivateRead, PrivateWrite, ProtectedWrite, NotOwner, BadName, BadOption, NameTaken, NotObject, ShortObject, BadPosition, NoKey, NotInteger, BagRefused, DeadTarget, OwnTarget, BadItem, CounterRange}

-- no byte ends a line
abbrev pub HasNoEnd : List ℕ → Type 0
HasNoEnd bytes = AllByRecursion (λ byte. (byte == 10) ≡ false) bytes

pub no_end-append : (a b : List ℕ) → HasNoEnd a → HasNoEnd b → HasNoEnd (a ++ b)
no_end-append a b h k = all-append (λ byte. (byte == 10) ≡ false) a b h k

-- of words that are known it is computed
abbrev pub no_end : List ℕ → Bool
no_end [] = true
no_end (x ∷ xs) = not (x == 10) && no_end xs

pub computed : (xs : List ℕ) → no_end xs ≡ true → HasNoEnd xs
computed [] e = tt
computed (x ∷ xs) e = go (x == 10) refl (λ same. computed xs same) e
  where
    go : (b : Bool) → (x == 10) ≡ b → (no_end xs ≡ true → HasNoEnd xs) → (not b && no_end xs) ≡ true → HasNoEnd (x ∷ xs)
    go true is more same = absurd cc
    go false is more same = (is, more same)

-- ---- numbers and pids

pub no_end-decimal : (n : ℕ) → n < 2 ^ 64 → HasNoEnd (decimal n)
no_end-decimal n h = all_weaker IsDigit (λ byte. (byte == 10) ≡ false) (λ byte d. ne_eqb byte 10 (λ e. absurd (omega arith))) (decimal n) (all_digits-decimal n h)

no_end-integer : (n : ℤ) → has_64_bits n ≡ true → HasNoEnd (signed_decimal n)
no_end-integer (pos n) h = no_end-decimal n (omega (arith, bits_below n h))
no_end-integer (negsuc n) h = (refl, no_end-decimal (suc n) (omega (arith, bits_below_negative n h)))

no_end-numbers : (ns : List ℕ) → AreNumbers ns → HasNoEnd (flat_map dotted ns)
no_end-numbers [] h = tt
no_end-numbers (n ∷ ns) h = (refl, no_end-append (decimal n) (flat_map dotted ns) (no_end-decimal n h.0) (no_end-numbers ns h.1))

no_end-pid : (p : List ℕ) → AreNumbers p → HasNoEnd (text_of_pid p)
no_end-pid p h = (refl, no_end-numbers p h)

no_end-reference : (p : List ℕ) (n : ℕ) → AreNumbers p → n < 2 ^ 64 → HasNoEnd (text_of_reference p n)
no_end-reference p n h k = (refl, no_end-append (text_of_pid p) (46 ∷ decimal n) (no_end-pid p h) (refl, no_end-decimal n k))

-- ---- atoms

no_end-cond : (b : Bool) (x y : List ℕ) → HasNoEnd x → (b ≡ false → HasNoEnd y) → HasNoEnd (if b then x else y)
no_end-cond true x y p q = p
no_end-cond false x y p q = q refl

no_end-plain : (c : ℕ) (b : Bool) → (c == 10) ≡ false → HasNoEnd (if b then 92 ∷ (48 + c / 64) ∷ (48 + c / 8 % 8) ∷ (48 + c % 8) ∷ [] else c ∷ [])
no_end-plain c true other = (refl, (ne_eqb (48 + c / 64) 10 (λ e. absurd (omega arith)), (ne_eqb (48 + c / 8 % 8) 10 (λ e. absurd (omega arith)), (ne_eqb (48 + c % 8) 10 (λ e. absurd (omega arith)), tt))))
no_end-plain c false other = (other, tt)

no_end-printed : (c : ℕ) → HasNoEnd (printed_byte c)
no_end-printed c =
    no_end-cond (c == 39) _ _ (refl, (refl, tt)) (λ a.
    no_end-cond (c == 92) _ _ (refl, (refl, tt)) (λ b.
    no_end-cond (c == 8) _ _ (refl, (refl, tt)) (λ d.
    no_end-cond (c == 9) _ _ (refl, (refl, tt)) (λ e.
    no_end-cond (c == 10) _ _ (refl, (refl, tt)) (λ ten.
    no_end-cond (c == 11) _ _ (refl, (refl, tt)) (λ f.
    no_end-cond (c == 12) _ _ (refl, (refl, tt)) (λ g.
    no_end-cond (c == 13) _ _ (refl, (refl, tt)) (λ h.
    no_end-cond (c == 27) _ _ (refl, (refl, tt)) (λ i.
    no_end-cond (c == 127) _ _ (refl, (refl, tt)) (λ j.
    no_end-plain c (nat_lt c 32) ten))))))))))

no_end-bytes : (bytes : List ℕ) → HasNoEnd (flat_map printed_byte bytes)
no_end-bytes [] = tt
no_end-bytes (c ∷ cs) = no_end-append (printed_byte c) (flat_map printed_byte cs) (no_end-printed c) (no_end-bytes cs)

no_end-atom : (text : List ℕ) → HasNoEnd (text_of_atom text)
no_end-atom text = (refl, no_end-append (flat_map printed_byte text) (39 ∷ []) (no_end-bytes text) (refl, tt))

-- ---- terms

no_end-bar : (text : List ℕ) → HasNoEnd text → HasNoEnd (behind_bar text)
no_end-bar text h = (refl, no_end-append text (93 ∷ []) h (refl, tt))

mutual
  no_end-term : (m : Meaning) → IsLawful m → HasNoEnd (text_of_term m)
  no_end-term (terms.Int n) l = no_end-integer n l
  no_end-term (terms.Atom text) l = no_end-atom text
  no_end-term (terms.Ref p n) l = no_end-reference p n l.0 l.1
  no_end-term (terms.Pid p) l = no_end-pid p l
  no_end-term (terms.Tuple parts) l = no_end-tuple parts l
  no_end-term terms.Nil l = (refl, (refl, tt))
  no_end-term (terms.Cons head tail) l = (refl, no_end-append (text_of_term head) (text_of_tail tail) (no_end-term head l.0) (no_end-tail tail l.1))

  no_end-tail : (m : Meaning) → IsLawful m → HasNoEnd (text_of_tail m)
  no_end-tail (terms.Int n) l = no_end-bar (signed_decimal n) (no_end-integer n l)
  no_end-tail (terms.Atom text) l = no_end-bar (text_of_atom text) (no_end-atom text)
  no_end-tail (terms.Ref p n) l = no_end-bar (text_of_reference p n) (no_end-reference p n l.0 l.1)
  no_end-tail (terms.Pid p) l = no_end-bar (text_of_pid p) (no_end-pid p l)
  no_end-tail (terms.Tuple parts) l = no_end-bar (text_of_tuple parts) (no_end-tuple parts l)
  no_end-tail terms.Nil l = (refl, tt)
  no_end-tail (terms.Cons head tail) l = (refl, no_end-append (text_of_term head) (text_of_tail tail) (no_end-term head l.0) (no_end-tail tail l.1))

  no_end-tuple : (ms : Meanings) → reader.AreLawful ms → HasNoEnd (text_of_tuple ms)
  no_end-tuple NoMore l = (refl, (refl, tt))
  no_end-tuple (Also m ms) l = (refl, no_end-append (text_of_term m) (text_of_others ms) (no_end-term m l.0) (no_end-others ms l.1))

  no_end-others : (ms : Meanings) → reader.AreLawful ms → HasNoEnd (text_of_others ms)
  no_end-others NoMore l = (refl, tt)
  no_end-others (Also m ms) l = (refl, no_end-append (text_of_term m) (text_of_others ms) (no_end-term m l.0) (no_end-others ms l.1))

-- ---- calls and rules

no_end-arguments : (ms : List Meaning) → AllByRecursion IsLawful ms → HasNoEnd (text_of_arguments ms)
no_end-arguments [] h = tt
no_end-arguments (m ∷ []) h = no_end-term m h.0
no_end-arguments (m ∷ n ∷ ms) h = no_end-append (text_of_term m) (codes "," ++ text_of_arguments (n ∷ ms)) (no_end-term m h.0) (refl, no_end-arguments (n ∷ ms) h.1)

no_end-module : (kind : CallKind) → no_end (signature kind).module_name ≡ true
no_end-module Spawn = refl
no_end-module SpawnLink = refl
no_end-module SpawnMonitor = refl
no_end-module Bang = refl
no_end-module Send = refl
no_end-module Exit = refl
no_end-module Link = refl
no_end-module Unlink = refl
no_end-module Monitor = refl
no_end-module Demonitor = refl
no_end-module DemonitorWith = refl
no_end-module ProcessFlag = refl
no_end-module Register = refl
no_end-module Unregister = refl
no_end-module Whereis = refl
no_end-module IsProcessAlive = refl
no_end-module MakeRef = refl
no_end-module MonitorWith = refl
no_end-module Alias = refl
no_end-module AliasWith = refl
no_end-module Unalias = refl
no_end-module StartTimer = refl
no_end-module SendAfter = refl
no_end-module CancelTimer = refl
no_end-module ReadTimer = refl
no_end-module Registered = refl
no_end-module ProcessInfo = refl
no_end-module New = refl
no_end-module Lookup = refl
no_end-module Member = refl
no_end-module LookupElement = refl
no_end-module First = refl
no_end-module Last = refl
no_end-module Next = refl
no_end-module Prev = refl
no_end-module TableToList = refl
no_end-module Insert = refl
no_end-module InsertNew = refl
no_end-module DeleteTable = refl
no_end-module DeleteKey = refl
no_end-module DeleteObject = refl
no_end-module DeleteAllObjects = refl
no_end-module Take = refl
no_end-module UpdateCounter = refl
no_end-module UpdateCounterWith = refl
no_end-module UpdateElement = refl
no_end-module GiveAway = refl
no_end-module SetOptions = refl
no_end-module Info = refl
no_end-module InfoAll = refl

no_end-function : (kind : CallKind) → no_end (signature kind).function_name ≡ true
no_end-function Spawn = refl
no_end-function SpawnLink = refl
no_end-function SpawnMonitor = refl
no_end-function Bang = refl
no_end-function Send = refl
no_end-function Exit = refl
no_end-function Link = refl
no_end-function Unlink = refl
no_end-function Monitor = refl
no_end-function Demonitor = refl
no_end-function DemonitorWith = refl
no_end-function ProcessFlag = refl
no_end-function Register = refl
no_end-function Unregister = refl
no_end-function Whereis = refl
no_end-function IsProcessAlive = refl
no_end-function MakeRef = refl
no_end-function MonitorWith = refl
no_end-function Alias = refl
no_end-function AliasWith = refl
no_end-function Unalias = refl
no_end-function StartTimer = refl
no_end-function SendAfter = refl
no_end-function CancelTimer = refl
no_end-function ReadTimer = refl
no_end-function Registered = refl
no_end-function ProcessInfo = refl
no_end-function New = refl
no_end-function Lookup = refl
no_end-function Member = refl
no_end-function LookupElement = refl
no_end-function First = refl
no_end-function Last = refl
no_end-function Next = refl
no_end-function Prev = refl
no_end-function TableToList = refl
no_end-function Insert = refl
no_end-function InsertNew = refl
no_end-function DeleteTable = refl
no_end-function DeleteKey = refl
no_end-function DeleteObject = refl
no_end-function DeleteAllObjects = refl
no_end-function Take = refl
no_end-function UpdateCounter = refl
no_end-function UpdateCounterWith = refl
no_end-function UpdateElement = refl
no_end-function GiveAway = refl
no_end-function SetOptions = refl
no_end-function Info = refl
no_end-function InfoAll = refl

no_end-call : (kind : CallKind) (ms : List Meaning) → AllByRecursion IsLawful ms → HasNoEnd (text_of_call kind ms)
no_end-call kind ms h =
    no_end-append (signature kind).module_name _ (computed (signature kind).module_name (no_end-module kind)) (
      refl,
      no_end-append (signature kind).function_name _ (computed (signature kind).function_name (no_end-function kind)) (
        refl,
        no_end-append (text_of_arguments ms) (codes ")") (no_end-arguments ms h) (refl, tt),
      ),
    )

no_end-name : (rule : Rule) → no_end (name_of_rule rule) ≡ true
no_end-name BadTable = refl
no_end-name NoTable = refl
no_end-name PrivateRead = refl
no_end-name PrivateWrite = refl
no_end-name ProtectedWrite = refl
no_end-name NotOwner = refl
no_end-name BadName = refl
no_end-name BadOption = refl
no_end-name NameTaken = refl
no_end-name NotObject = refl
no_end-name ShortObject = refl
no_end-name BadPosition = refl
no_end-name NoKey = refl
no_end-name NotInteger = refl
no_end-name BagRefused = refl
no_end-name DeadTarget = refl
no_end-name OwnTarget = refl
no_end-name BadItem = refl
no_end-name CounterRange = refl

few_rules : (rule : Rule) → number_of_rule rule < 2 ^ 64
few_rules BadTable = omega arith
few_rules NoTable = omega arith
few_rules PrivateRead = omega arith
few_rules PrivateWrite = omega arith
few_rules ProtectedWrite = omega arith
few_rules NotOwner = omega arith
few_rules BadName = omega arith
few_rules BadOption = omega arith
few_rules NameTaken = omega arith
few_rules NotObject = omega arith
few_rules ShortObject = omega arith
few_rules BadPosition = omega arith
few_rules NoKey = omega arith
few_rules NotInteger = omega arith
few_rules BagRefused = omega arith
few_rules DeadTarget = omega arith
few_rules OwnTarget = omega arith
few_rules BadItem = omega arith
few_rules CounterRange = omega arith

no_end-owner : (told : Option Pid) → IfSome told AreNumbers → HasNoEnd (text_of_owner told)
no_end-owner None h = tt
no_end-owner (Some p) h = no_end-append (codes ", owner ") (text_of_pid p) (computed (codes ", owner ") refl) (no_end-pid p h)

no_end-reason : (rule : Rule) (told : Option Pid) → IfSome told AreNumbers → HasNoEnd (text_of_broken_rule rule told)
no_end-reason rule told h =
    no_end-append (codes "badarg (") _ (computed (codes "badarg (") refl)
    (no_end-append (text_of_rule rule) _
    (no_end-append (decimal (number_of_rule rule)) _ (no_end-decimal (number_of_rule rule) (few_rules rule)) (refl, computed (name_of_rule rule) (no_end-name rule)))
    (no_end-append (text_of_owner told) (codes ")") (no_end-owner told h) (refl, tt)))

-- ---- identities

no_end-processes : (ps : List Pid) → AllByRecursion AreNumbers ps → HasNoEnd (flat_map pid_behind_blank ps)
no_end-processes [] h = tt
no_end-processes (p ∷ ps) h = (refl, no_end-append (text_of_pid p) (flat_map pid_behind_blank ps) (no_end-pid p h.0) (no_end-processes ps h.1))

pub no_end-identity : (i : Identity) → IsLawfulIdentity i → HasNoEnd (text_of_identity i)
no_end-identity (End p reason) h = no_end-append (text_of_pid p) _ (no_end-pid p h.0) (refl, no_end-append (codes "ends ") (text_of_term reason) (computed (codes "ends ") refl) (no_end-term reason h.1))
no_end-identity (Deadlock ps) h = no_end-append (codes "deadlock of") (flat_map pid_behind_blank ps) (computed (codes "deadlock of") refl) (no_end-processes ps h.1)
no_end-identity (Runaway p) h = no_end-append (text_of_pid p) (codes " runs away") (no_end-pid p h) (computed (codes " runs away") refl)
no_end-identity (RefusedCall p request kind arguments rule told) h =
    no_end-append (text_of_pid p) _ (no_end-pid p h.process)
    (no_end-append (codes " request ") _ (computed (codes " request ") refl)
    (no_end-append (decimal request) _ (no_end-decimal request h.number) (
      refl,
      no_end-append (text_of_call kind arguments) _ (no_end-call kind arguments h.terms)
          (no_end-append (codes " -> ") (text_of_broken_rule rule told) (computed (codes " -> ") refl) (no_end-reason rule told h.owner)),
    )))
no_end-identity (Unread ps) h = no_end-append (codes "unread messages of") (flat_map pid_behind_blank ps) (computed (codes "unread messages of") refl) (no_end-processes ps h.1)

-- ---- schedules

no_end-step : (step : Step) → IsLawfulStep step → HasNoEnd (text_of_step step)
no_end-step (Turn p) h = lacks-pid 10 (inl (omega arith)) refl p h
no_end-step (Deliver from to) h = no_end-append (text_of_pid from) (62 ∷ text_of_pid to) (lacks-pid 10 (inl (omega arith)) refl from h.0) (refl, lacks-pid 10 (inl (omega arith)) refl to h.1)

pub no_end-schedule : (steps : List Step) → AreLawful steps → HasNoEnd (text_of_schedule steps)
no_end-schedule [] h = tt
no_end-schedule (s ∷ []) h = no_end-step s h.0
no_end-schedule (s ∷ t ∷ steps) h = no_end-append (text_of_step s) (32 ∷ text_of_schedule (t ∷ steps)) (no_end-step s h.0) (refl, no_end-schedule (t ∷ steps) h.1)
