-- The texts of identities: that each says one, and which may be refused.
use Rattle.std.proofs.Common.{◌≡◌, inl, ℕ, ◌<◌, ◌^◌, List, [], ◌++◌, length, get_or, Option, Result, Ok, Err, IfOk, MatchResult, codes, ap, ap₂, sym, refl, ◌∙◌, subst, arith}
use Rattle.std.proofs.lemmas.Fmt.{decimal_injective}
use Rattle.std.proofs.lemmas.List.{append_cancel_left}
use Rattle.std.specs.Fmt.{decimal}
use Rattle.std.specs.List.{AllByRecursion}
use Rattle.term_core.proofs.Pieces.{Begins, front-append, one_cut}
use Rattle.term_core.specs.Meaning.{Meaning, Tuple, meanings_of}
use Rattle.term_core.specs.Text.{text_of_pid}
use Rattle.term_core.specs.TermText.{text_of_term}
use Rattle.core_calls.specs.Calls.{signature}
use Rattle.core_calls.specs.declared.call.CallKind.{CallKind}
use Rattle.term_reader.proofs.Heights.{height_below_nodes}
use Rattle.term_reader.proofs.OneTerm.{term_injective}
use Rattle.term_reader.specs.Height.{height}
use Rattle.term_reader.specs.Lawful.{AreNumbers, IsLawful}
use Rattle.world_model.specs.Names.{Pid}
use Rattle.world_model.specs.Shown.{Identity, End, Deadlock, Runaway, RefusedCall, Unread}
use Rattle.world_model.specs.declared.rule.Rule.{Rule}
use Rattle.world_event_text.specs.CallText.{text_of_arguments}
use Rattle.report_text.specs.IdentityText.{text_of_identity, text_of_refused_call}
use Rattle.report_identities.specs.Lawful.{HasLargeTerm, IsLawfulCall, IsLawfulIdentity, MayRefuse, height_in}
use Rattle.report_identities.specs.inside.CallPieces.{IsCutInto, name_of_call, text_of_reason, text_of_told_call}
use Rattle.report_identities.specs.inside.Cuts.{front}
use Rattle.report_identities.specs.inside.Cuts as cuts
use Rattle.report_identities.specs.inside.Reading.{IsReason, text_of_processes}
use Rattle.report_identities.specs.declared.fault.IdentityFault.{IdentityFault}
use Rattle.report_identities.specs.declared.fault.IdentityFault.TheVariants.{BadIdentity, Memory}
use Rattle.report_identities.proofs.ArgumentTexts.{large_argument, one_list}
use Rattle.report_identities.proofs.CallPieces.{call_text, one_cutting, told_is_cut}
use Rattle.report_identities.proofs.CallNames.{one_call}
use Rattle.report_identities.proofs.Marks.{begins_as}
use Rattle.report_identities.proofs.ProcessTexts.{lacks-pid, pid_injective, processes_injective, some_text}
use Rattle.report_identities.proofs.ReasonTexts.{one_reason}

-- ---- what is shown of one process

abbrev pub IsOfOne : Identity → Type 0
IsOfOne (End p reason) = Unit {0}
IsOfOne (Deadlock processes) = ⊥
IsOfOne (Runaway p) = Unit {0}
IsOfOne (RefusedCall p request kind arguments rule told) = Unit {0}
IsOfOne (Unread processes) = ⊥

abbrev pub process_of : Identity → Pid
process_of (End p reason) = p
process_of (Deadlock processes) = []
process_of (Runaway p) = p
process_of (RefusedCall p request kind arguments rule told) = p
process_of (Unread processes) = []

-- what follows the process
abbrev pub behind_process : Identity → List ℕ
behind_process (End p reason) = codes " ends " ++ text_of_term reason
behind_process (Deadlock processes) = []
behind_process (Runaway p) = codes " runs away"
behind_process (RefusedCall p request kind arguments rule told) = codes " request " ++ text_of_told_call request kind arguments rule told
behind_process (Unread processes) = []

pub refused_call_text : (p : Pid) (request : ℕ) (kind : CallKind) (arguments : List Meaning) (rule : Rule) (told : Option Pid) → text_of_refused_call p request kind arguments rule told ≡ text_of_pid p ++ (codes " request " ++ text_of_told_call request kind arguments rule told)
refused_call_text p request kind arguments rule told = ap (λ w. text_of_pid p ++ (codes " request " ++ (decimal request ++ (codes " " ++ w)))) (call_text kind arguments rule told)

text_is : (i : Identity) → IsOfOne i → text_of_identity i ≡ text_of_pid (process_of i) ++ behind_process i
text_is (End p reason) one = refl
text_is (Deadlock processes) one = absurd one
text_is (Runaway p) one = refl
text_is (RefusedCall p request kind arguments rule told) one = refused_call_text p request kind arguments rule told
text_is (Unread processes) one = absurd one

behind_begins : (i : Identity) → IsOfOne i → Begins 32 (behind_process i)
behind_begins (End p reason) one = refl
behind_begins (Deadlock processes) one = absurd one
behind_begins (Runaway p) one = refl
behind_begins (RefusedCall p request kind arguments rule told) one = refl
behind_begins (Unread processes) one = absurd one

lawful_process : (i : Identity) → IsLawfulIdentity i → AreNumbers (process_of i)
lawful_process (End p reason) l = l.0
lawful_process (Deadlock processes) l = tt
lawful_process (Runaway p) l = l
lawful_process (RefusedCall p request kind arguments rule told) l = l.process
lawful_process (Unread processes) l = tt

-- a text that begins with a process is of one
begins_process : (p : Pid) (rest : List ℕ) (i : Identity) → text_of_pid p ++ rest ≡ text_of_identity i → IsOfOne i
begins_process q rest (End p reason) e = tt
begins_process q rest (Deadlock processes) e = omega (arith, ap (λ bs. get_or bs 0 0) e)
begins_process q rest (Runaway p) e = tt
begins_process q rest (RefusedCall p request kind arguments rule told) e = tt
begins_process q rest (Unread processes) e = omega (arith, ap (λ bs. get_or bs 0 0) e)

-- a process and what follows it, as a text has them
record IsOf (p : Pid) (rest : List ℕ) (i : Identity) : Type 0 where
  one : IsOfOne i
  process : p ≡ process_of i
  behind : rest ≡ behind_process i

of_process : (p : Pid) (rest : List ℕ) (i : Identity) → AreNumbers p → Begins 32 rest → IsLawfulIdentity i → text_of_pid p ++ rest ≡ text_of_identity i → IsOf p rest i
of_process p rest i h begins l e =
    let one = begins_process p rest i e in
    let same = one_cut 32 (text_of_pid p) rest (text_of_pid (process_of i)) (behind_process i) (lacks-pid 32 (omega arith) p h) begins (lacks-pid 32 (omega arith) (process_of i) (lawful_process i l)) (behind_begins i one) (e ∙ text_is i one) in
    record { one = one; process = pid_injective p (process_of i) h (lawful_process i l) same.0; behind = same.1 }

-- ---- one text, one identity

differ : (n : ℕ) (a b : List ℕ) → a ≡ b → get_or a n 0 ≡ get_or b n 0
differ n a b e = ap (λ w. get_or w n 0) e

one_told_call : (r s : ℕ) (j k : CallKind) (xs ys : List Meaning) (x y : Rule) (t u : Option Pid) (p q : Pid) → IsLawfulCall p r j xs t → IsLawfulCall q s k ys u → p ≡ q → text_of_told_call r j xs x t ≡ text_of_told_call s k ys y u → RefusedCall p r j xs x t ≡ RefusedCall q s k ys y u
one_told_call r s j k xs ys x y t u p q l m e f =
    let same = one_cutting _ _ _ _ _ _ _ _ _ (told_is_cut (text_of_told_call r j xs x t) r j xs x t l.number l.owner refl) (told_is_cut (text_of_told_call r j xs x t) s k ys y u m.number m.owner f) in
    let requests = decimal_injective r s l.number m.number same.request in
    let lists = one_list xs ys l.terms m.terms same.arguments in
    let kinds = one_call j k same.name (sym l.arity ∙ ap length lists ∙ m.arity) in
    let reasons = one_reason x y t u l.owner m.owner same.reason in
    λ c. RefusedCall (e c) (requests c) (kinds c) (lists c) (reasons.0 c) (reasons.1 c)

one_shown : (i j : Identity) → IsLawfulIdentity i → IsLawfulIdentity j → IsOfOne i → IsOfOne j → process_of i ≡ process_of j → behind_process i ≡ behind_process j → i ≡ j
one_shown (End p r) (End q s) l k v w e f = ap₂ End e (term_injective r s l.1 k.1 (append_cancel_left (codes " ends ") (text_of_term r) (text_of_term s) f))
one_shown (End p r) (Runaway q) l k v w e f = absurd (omega (arith, differ 1 _ _ f))
one_shown (End p r) (RefusedCall q n c a b t) l k v w e f = absurd (omega (arith, differ 1 _ _ f))
one_shown (Runaway p) (End q s) l k v w e f = absurd (omega (arith, differ 1 _ _ f))
one_shown (Runaway p) (Runaway q) l k v w e f = ap Runaway e
one_shown (Runaway p) (RefusedCall q n c a b t) l k v w e f = absurd (omega (arith, differ 2 _ _ f))
one_shown (RefusedCall p m d x y u) (End q s) l k v w e f = absurd (omega (arith, differ 1 _ _ f))
one_shown (RefusedCall p m d x y u) (Runaway q) l k v w e f = absurd (omega (arith, differ 2 _ _ f))
one_shown (RefusedCall p m d x y u) (RefusedCall q n c a b t) l k v w e f = one_told_call m n d c x a y b u t p q l k e (append_cancel_left (codes " request ") (text_of_told_call m d x y u) (text_of_told_call n c a b t) f)
one_shown (End p r) (Deadlock qs) l k v w e f = absurd w
one_shown (Runaway p) (Deadlock qs) l k v w e f = absurd w
one_shown (RefusedCall p m d x y u) (Deadlock qs) l k v w e f = absurd w
one_shown (End p r) (Unread qs) l k v w e f = absurd w
one_shown (Runaway p) (Unread qs) l k v w e f = absurd w
one_shown (RefusedCall p m d x y u) (Unread qs) l k v w e f = absurd w
one_shown (Deadlock ps) j l k v w e f = absurd v
one_shown (Unread ps) j l k v w e f = absurd v

one_of_one : (i j : Identity) → IsLawfulIdentity i → IsLawfulIdentity j → IsOfOne i → text_of_identity i ≡ text_of_identity j → i ≡ j
one_of_one i j l k v e =
    let is = of_process (process_of i) (behind_process i) j (lawful_process i l) (behind_begins i v) k (sym (text_is i v) ∙ e) in
    one_shown i j l k v is.one is.process is.behind

one_deadlock : (ps : List Pid) (j : Identity) → AllByRecursion AreNumbers ps → IsLawfulIdentity j → text_of_identity (Deadlock ps) ≡ text_of_identity j → Deadlock ps ≡ j
one_deadlock ps (End q s) l k e = absurd (omega (arith, differ 0 _ _ e))
one_deadlock ps (Deadlock qs) l k e = ap Deadlock (processes_injective ps qs l k.1 (append_cancel_left (codes "deadlock of") (text_of_processes ps) (text_of_processes qs) e))
one_deadlock ps (Runaway q) l k e = absurd (omega (arith, differ 0 _ _ e))
one_deadlock ps (RefusedCall q n c a b t) l k e = absurd (omega (arith, differ 0 _ _ e))
one_deadlock ps (Unread qs) l k e = absurd (omega (arith, differ 0 _ _ e))

one_unread : (ps : List Pid) (j : Identity) → AllByRecursion AreNumbers ps → IsLawfulIdentity j → text_of_identity (Unread ps) ≡ text_of_identity j → Unread ps ≡ j
one_unread ps (End q s) l k e = absurd (omega (arith, differ 0 _ _ e))
one_unread ps (Deadlock qs) l k e = absurd (omega (arith, differ 0 _ _ e))
one_unread ps (Runaway q) l k e = absurd (omega (arith, differ 0 _ _ e))
one_unread ps (RefusedCall q n c a b t) l k e = absurd (omega (arith, differ 0 _ _ e))
one_unread ps (Unread qs) l k e = ap Unread (processes_injective ps qs l k.1 (append_cancel_left (codes "unread messages of") (text_of_processes ps) (text_of_processes qs) e))

-- a text says one identity alone
pub one_identity : (i j : Identity) → IsLawfulIdentity i → IsLawfulIdentity j → text_of_identity i ≡ text_of_identity j → i ≡ j
one_identity (End p r) j l k e = one_of_one (End p r) j l k tt e
one_identity (Deadlock ps) j l k e = one_deadlock ps j l.1 k e
one_identity (Runaway p) j l k e = one_of_one (Runaway p) j l k tt e
one_identity (RefusedCall p m d x y u) j l k e = one_of_one (RefusedCall p m d x y u) j l k tt e
one_identity (Unread ps) j l k e = one_unread ps j l.1 k e

-- what is read is the identity with this text, and the text of an identity is refused only for its terms or for lack of memory
pub reads_only : {V : Type 0} (identity : V → Identity) (text : List ℕ) (result : Result V IdentityFault)
    → MatchResult result (λ v. IsLawfulIdentity (identity v) × (text ≡ text_of_identity (identity v))) (λ fault. (i : Identity) → IsLawfulIdentity i → text ≡ text_of_identity i → MayRefuse (height_in i) fault)
    → (i : Identity) → IsLawfulIdentity i → text ≡ text_of_identity i → MatchResult result (λ v. identity v ≡ i) (λ fault. MayRefuse (height_in i) fault)
reads_only identity text (Ok v) r i l e = one_identity (identity v) i r.0 l (sym r.1 ∙ e)
reads_only identity text (Err fault) r i l e = r i l e

pub reads_ok : {V : Type 0} (identity : V → Identity) (text : List ℕ) (result : Result V IdentityFault)
    → MatchResult result (λ v. IsLawfulIdentity (identity v) × (text ≡ text_of_identity (identity v))) (λ fault. (i : Identity) → IsLawfulIdentity i → text ≡ text_of_identity i → MayRefuse (height_in i) fault)
    → IfOk result (λ v. IsLawfulIdentity (identity v) × (text ≡ text_of_identity (identity v)))
reads_ok identity text (Ok v) r = r
reads_ok identity text (Err fault) r = tt

pub reads_no_bad : {V : Type 0} (identity : V → Identity) (text : List ℕ) (result : Result V IdentityFault)
    → MatchResult result (λ v. IsLawfulIdentity (identity v) × (text ≡ text_of_identity (identity v))) (λ fault. (i : Identity) → IsLawfulIdentity i → text ≡ text_of_identity i → MayRefuse (height_in i) fault)
    → ◌≡◌ {A = Result V IdentityFault} result (Err BadIdentity) → (i : Identity) → IsLawfulIdentity i → text ≡ text_of_identity i → ⊥
reads_no_bad identity text (Ok v) r is = λ i l e. cc
reads_no_bad identity text (Err fault) r is = λ i l e. let same : fault ≡ BadIdentity = cc in subst (MayRefuse (height_in i)) same (r i l e)

-- ---- refusals

-- for lack of memory all may be refused
pub for_memory : (i : Identity) (fault : IdentityFault) → fault ≡ Memory → MayRefuse (height_in i) fault
for_memory i fault e = subst (MayRefuse (height_in i)) (sym e) tt

-- a text that begins as a deadlock does, is that of one
of_deadlock : (text : List ℕ) (i : Identity) (X : Type 0) → IsLawfulIdentity i → codes "deadlock of" ++ text ≡ text_of_identity i → ((ps : List Pid) → 0 < length ps → AllByRecursion AreNumbers ps → text ≡ text_of_processes ps → X) → X
of_deadlock text (End p reason) X l e only = absurd (omega (arith, differ 0 _ _ e))
of_deadlock text (Deadlock ps) X l e only = only ps l.0 l.1 (append_cancel_left (codes "deadlock of") text (text_of_processes ps) e)
of_deadlock text (Runaway p) X l e only = absurd (omega (arith, differ 0 _ _ e))
of_deadlock text (RefusedCall p n k a r t) X l e only = absurd (omega (arith, differ 0 _ _ e))
of_deadlock text (Unread ps) X l e only = absurd (omega (arith, differ 0 _ _ e))

pub refused_deadlock : (text : List ℕ) (fault : IdentityFault) → ((ps : List Pid) → AllByRecursion AreNumbers ps → text ≡ text_of_processes ps → fault ≡ Memory) → (i : Identity) → IsLawfulIdentity i → codes "deadlock of" ++ text ≡ text_of_identity i → MayRefuse (height_in i) fault
refused_deadlock text fault only i l e = for_memory i fault (of_deadlock text i (fault ≡ Memory) l e (λ ps some all f. only ps all f))

pub no_deadlock : (text : List ℕ) → text ≡ [] → (i : Identity) → IsLawfulIdentity i → codes "deadlock of" ++ text ≡ text_of_identity i → ⊥
no_deadlock text none i l e = of_deadlock text i ⊥ l e (λ ps some all f. some_text ps some (sym none ∙ f))

-- and one that begins as unread messages do, is that of these
of_unread : (text : List ℕ) (i : Identity) (X : Type 0) → IsLawfulIdentity i → codes "unread messages of" ++ text ≡ text_of_identity i → ((ps : List Pid) → 0 < length ps → AllByRecursion AreNumbers ps → text ≡ text_of_processes ps → X) → X
of_unread text (End p reason) X l e only = absurd (omega (arith, differ 0 _ _ e))
of_unread text (Deadlock ps) X l e only = absurd (omega (arith, differ 0 _ _ e))
of_unread text (Runaway p) X l e only = absurd (omega (arith, differ 0 _ _ e))
of_unread text (RefusedCall p n k a r t) X l e only = absurd (omega (arith, differ 0 _ _ e))
of_unread text (Unread ps) X l e only = only ps l.0 l.1 (append_cancel_left (codes "unread messages of") text (text_of_processes ps) e)

pub refused_unread : (text : List ℕ) (fault : IdentityFault) → ((ps : List Pid) → AllByRecursion AreNumbers ps → text ≡ text_of_processes ps → fault ≡ Memory) → (i : Identity) → IsLawfulIdentity i → codes "unread messages of" ++ text ≡ text_of_identity i → MayRefuse (height_in i) fault
refused_unread text fault only i l e = for_memory i fault (of_unread text i (fault ≡ Memory) l e (λ ps some all f. only ps all f))

pub no_unread : (text : List ℕ) → text ≡ [] → (i : Identity) → IsLawfulIdentity i → codes "unread messages of" ++ text ≡ text_of_identity i → ⊥
no_unread text none i l e = of_unread text i ⊥ l e (λ ps some all f. some_text ps some (sym none ∙ f))

-- a text that begins as neither does, begins with a process
of_others : (text : List ℕ) → ((rest : List ℕ) → text ≡ codes "deadlock of" ++ rest → ⊥) → ((rest : List ℕ) → text ≡ codes "unread messages of" ++ rest → ⊥) → (i : Identity) → text ≡ text_of_identity i → IsOfOne i
of_others text dead unread (End p reason) e = tt
of_others text dead unread (Deadlock ps) e = absurd (dead (text_of_processes ps) e)
of_others text dead unread (Runaway p) e = tt
of_others text dead unread (RefusedCall p n k a r t) e = tt
of_others text dead unread (Unread ps) e = absurd (unread (text_of_processes ps) e)

pub refused_process : (text : List ℕ) (fault : IdentityFault) → ((rest : List ℕ) → text ≡ codes "deadlock of" ++ rest → ⊥) → ((rest : List ℕ) → text ≡ codes "unread messages of" ++ rest → ⊥) → ((p : Pid) → AreNumbers p → front 32 text ≡ text_of_pid p → fault ≡ Memory)
    → (i : Identity) → IsLawfulIdentity i → text ≡ text_of_identity i → MayRefuse (height_in i) fault
refused_process text fault dead unread only i l e =
    let one = of_others text dead unread i e in
    let p = process_of i in
    let h = lawful_process i l in
    for_memory i fault (only p h (ap (front 32) (e ∙ text_is i one) ∙ front-append 32 (text_of_pid p) (behind_process i) (lacks-pid 32 (omega arith) p h) (behind_begins i one)))

no_words : (rest : List ℕ) → ((w : List ℕ) → rest ≡ codes " ends " ++ w → ⊥) → ((w : List ℕ) → rest ≡ codes " request " ++ w → ⊥) → (rest ≡ codes " runs away" → ⊥) → (i : Identity) → IsOfOne i → rest ≡ behind_process i → ⊥
no_words rest h j k (End p reason) one e = h (text_of_term reason) e
no_words rest h j k (Deadlock ps) one e = one
no_words rest h j k (Runaway p) one e = k e
no_words rest h j k (RefusedCall p n c a r t) one e = j (text_of_told_call n c a r t) e
no_words rest h j k (Unread ps) one e = one

-- one of three words follows a process
pub nothing_behind : (p : Pid) (rest : List ℕ) → AreNumbers p → cuts.Begins 32 rest → ((w : List ℕ) → rest ≡ codes " ends " ++ w → ⊥) → ((w : List ℕ) → rest ≡ codes " request " ++ w → ⊥) → (rest ≡ codes " runs away" → ⊥) → (i : Identity) → IsLawfulIdentity i → text_of_pid p ++ rest ≡ text_of_identity i → ⊥
nothing_behind p rest h begins x y z i l e = let is = of_process p rest i h (begins_as 32 rest begins) l e in no_words rest x y z i is.one is.behind

refused_reason : (text : List ℕ) (fault : IdentityFault) → ((m : Meaning) → IsLawful m → text ≡ text_of_term m → MayRefuse (height m) fault) → (i : Identity) → IsLawfulIdentity i → IsOfOne i → codes " ends " ++ text ≡ behind_process i → MayRefuse (height_in i) fault
refused_reason text fault only (End p reason) l one e = only reason l.1 (append_cancel_left (codes " ends ") text (text_of_term reason) e)
refused_reason text fault only (Deadlock ps) l one e = absurd one
refused_reason text fault only (Runaway p) l one e = absurd (omega (arith, differ 1 _ _ e))
refused_reason text fault only (RefusedCall p n k a r t) l one e = absurd (omega (arith, differ 1 _ _ e))
refused_reason text fault only (Unread ps) l one e = absurd one

-- an end is refused as its reason is
pub refused_end : (p : Pid) (text : List ℕ) (fault : IdentityFault) → AreNumbers p → ((m : Meaning) → IsLawful m → text ≡ text_of_term m → MayRefuse (height m) fault) → (i : Identity) → IsLawfulIdentity i → text_of_pid p ++ (codes " ends " ++ text) ≡ text_of_identity i → MayRefuse (height_in i) fault
refused_end p text fault h only i l e = let is = of_process p (codes " ends " ++ text) i h refl l e in refused_reason text fault only i l is.one is.behind

-- ---- refused calls

-- what a call with these pieces may be refused for
abbrev pub CallsRefused : List ℕ → IdentityFault → Type 0
CallsRefused text fault = (p : Pid) (request : ℕ) (kind : CallKind) (arguments : List Meaning) (rule : Rule) (told : Option Pid) → IsLawfulCall p request kind arguments told
    → IsCutInto text (decimal request) (name_of_call kind) (text_of_arguments arguments) (text_of_reason rule told) → MayRefuse (height (Tuple (meanings_of arguments))) fault

refused_told : (text : List ℕ) (fault : IdentityFault) → CallsRefused text fault → (i : Identity) → IsLawfulIdentity i → IsOfOne i → codes " request " ++ text ≡ behind_process i → MayRefuse (height_in i) fault
refused_told text fault only (End p reason) l one e = absurd (omega (arith, differ 1 _ _ e))
refused_told text fault only (Deadlock ps) l one e = absurd one
refused_told text fault only (Runaway p) l one e = absurd (omega (arith, differ 2 _ _ e))
refused_told text fault only (Unread ps) l one e = absurd one
refused_told text fault only (RefusedCall p n k a r t) l one e =
    only p n k a r t l (told_is_cut text n k a r t l.number l.owner (append_cancel_left (codes " request ") text (text_of_told_call n k a r t) e))

pub refused_call : (p : Pid) (text : List ℕ) (fault : IdentityFault) → AreNumbers p → CallsRefused text fault → (i : Identity) → IsLawfulIdentity i → text_of_pid p ++ (codes " request " ++ text) ≡ text_of_identity i → MayRefuse (height_in i) fault
refused_call p text fault h only i l e = let is = of_process p (codes " request " ++ text) i h refl l e in refused_told text fault only i l is.one is.behind

-- no pieces
pub no_pieces : (text : List ℕ) → ((r n a s : List ℕ) → IsCutInto text r n a s → ⊥) → CallsRefused text BadIdentity
no_pieces text none p request kind arguments rule told l cut = none _ _ _ _ cut

-- a piece that is none of its kind
pub no_request : (text r n a s : List ℕ) → IsCutInto text r n a s → ((k : ℕ) → k < 2 ^ 64 → r ≡ decimal k → ⊥) → CallsRefused text BadIdentity
no_request text r n a s c none p request kind arguments rule told l cut = none request l.number (one_cutting text r n a s _ _ _ _ c cut).request

pub no_arguments : (text r n a s : List ℕ) (fault : IdentityFault) → IsCutInto text r n a s → ((xs : List Meaning) → AllByRecursion IsLawful xs → a ≡ text_of_arguments xs → MayRefuse (height (Tuple (meanings_of xs))) fault) → CallsRefused text fault
no_arguments text r n a s fault c only p request kind arguments rule told l cut = only arguments l.terms (one_cutting text r n a s _ _ _ _ c cut).arguments

pub no_kind : (text r n a s : List ℕ) (xs : List Meaning) (arity : ℕ) → IsCutInto text r n a s → AllByRecursion IsLawful xs → a ≡ text_of_arguments xs → arity ≡ length xs → ((k : CallKind) → n ≡ name_of_call k → arity ≡ (signature k).arity → ⊥) → CallsRefused text BadIdentity
no_kind text r n a s xs arity c h e f none p request kind arguments rule told l cut =
    let same = one_cutting text r n a s _ _ _ _ c cut in
    let lists = one_list xs arguments h l.terms (sym e ∙ same.arguments) in
    none kind same.name (f ∙ ap length lists ∙ l.arity)

pub no_reason : (text r n a s : List ℕ) (fault : IdentityFault) → IsCutInto text r n a s → ((x : Rule) (t : Option Pid) → IsReason s x t → fault ≡ Memory) → CallsRefused text fault
no_reason text r n a s fault c only p request kind arguments rule told l cut = for_memory (RefusedCall p request kind arguments rule told) fault (only rule told (l.owner, (one_cutting text r n a s _ _ _ _ c cut).reason))

-- all pieces together
pub call_is : (p : Pid) (text r n a s : List ℕ) (request : ℕ) (kind : CallKind) (xs : List Meaning) (rule : Rule) (told : Option Pid) → IsCutInto text r n a s → r ≡ decimal request → n ≡ name_of_call kind → a ≡ text_of_arguments xs → s ≡ text_of_reason rule told
    → text_of_pid p ++ (codes " request " ++ text) ≡ text_of_refused_call p request kind xs rule told
call_is p text r n a s request kind xs rule told c e f g h =
    let told_text : text ≡ text_of_told_call request kind xs rule told = c.parts ∙ (λ i. e i ++ (codes " " ++ (f i ++ (codes "(" ++ (g i ++ (codes ") -> badarg (" ++ h i)))))) in
    ap (λ w. text_of_pid p ++ (codes " request " ++ w)) told_text ∙ sym (refused_call_text p request kind xs rule told)

-- ---- high terms

-- where terms are higher than 10,000, one of them has more than 10,000 nodes
pub has_large : (i : Identity) → 10000 < height_in i → HasLargeTerm i
has_large (End p reason) h = record { term = reason; among = inl refl; large = omega (arith, h, height_below_nodes reason) }
has_large (Deadlock ps) h = absurd (omega (arith, h))
has_large (Runaway p) h = absurd (omega (arith, h))
has_large (RefusedCall p n k xs r t) h = let large = large_argument xs h in record { term = large.term; among = large.among; large = large.large }
has_large (Unread ps) h = absurd (omega (arith, h))
