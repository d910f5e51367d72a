-- What a reader results in, and what each part of it results in.
use Rattle.std.specs.List.{AllByRecursion, flat_map}
use Rattle.std.specs.Prelude.{◌≡◌, ℕ, List, Option, IfSome, Result, MatchResult}
use Rattle.term_core.specs.Meaning.{Meaning, Tuple, meanings_of}
use Rattle.term_core.specs.Term.{meaning_of}
use Rattle.term_core.specs.TermText.{text_of_term}
use Rattle.term_core.specs.Text.{text_of_pid}
use Rattle.term_core.specs.declared.term.Term.{Term}
use Rattle.world_model.specs.Names.{Pid}
use Rattle.world_model.specs.Shown as shown
use Rattle.world_model.specs.declared.rule.Rule.{Rule}
use Rattle.world_identities.specs.Identities.{identity_in}
use Rattle.world_identities.specs.declared.identity.Identity.{Identity}
use Rattle.world_event_text.specs.CallText.{text_of_arguments, text_of_owner}
use Rattle.world_identities.specs.declared.identity.Identity.{Identity}
use Rattle.report_text.specs.IdentityText.{text_of_identity, pid_behind_blank}
use Rattle.term_reader.specs.Height.{height}
use Rattle.term_reader.specs.Lawful.{AreNumbers, IsLawful}
use Rattle.report_identities.specs.Lawful.{IsLawfulIdentity, MayRefuse, height_in}
use Rattle.report_identities.specs.inside.CallPieces.{text_of_reason}
use Rattle.report_identities.specs.declared.fault.IdentityFault.{IdentityFault}
use Rattle.report_identities.specs.declared.fault.IdentityFault.TheVariants.{Memory}

-- a term
abbrev pub ReadsTerm : List ℕ → Result Term IdentityFault → Type 0
ReadsTerm text result = MatchResult result
    (λ read. IsLawful (meaning_of read) × (text ≡ text_of_term (meaning_of read)))
    (λ fault. (m : Meaning) → IsLawful m → text ≡ text_of_term m → MayRefuse (height m) fault)

-- what is read has this text, and of what has it, none is refused that may not be
abbrev pub ReadsIdentity : List ℕ → Result Identity IdentityFault → Type 0
ReadsIdentity text result = MatchResult result
    (λ read. IsLawfulIdentity (identity_in read) × (text ≡ text_of_identity (identity_in read)))
    (λ fault. (i : shown.Identity) → IsLawfulIdentity i → text ≡ text_of_identity i → MayRefuse (height_in i) fault)

-- a process
abbrev pub ReadsPid : List ℕ → Result Pid IdentityFault → Type 0
ReadsPid text result = MatchResult result
    (λ read. AreNumbers read × (text ≡ text_of_pid read))
    (λ fault. (p : Pid) → AreNumbers p → text ≡ text_of_pid p → fault ≡ Memory)

-- each process after a blank
abbrev pub text_of_processes : List Pid → List ℕ
text_of_processes processes = flat_map pid_behind_blank processes

-- a text is that of these processes, and is refused only where memory runs out
abbrev pub AreProcesses : List ℕ → List Pid → Type 0
AreProcesses text processes = AllByRecursion AreNumbers processes × (text ≡ text_of_processes processes)

abbrev pub MayRefuseProcesses : List ℕ → IdentityFault → Type 0
MayRefuseProcesses text fault = (processes : List Pid) → AllByRecursion AreNumbers processes → text ≡ text_of_processes processes → fault ≡ Memory

-- a text is that of these arguments, and is refused only where memory runs out, or where they are too high
abbrev pub AreArguments : List ℕ → List Meaning → Type 0
AreArguments text arguments = AllByRecursion IsLawful arguments × (text ≡ text_of_arguments arguments)

abbrev pub MayRefuseArguments : List ℕ → IdentityFault → Type 0
MayRefuseArguments text fault = (arguments : List Meaning) → AllByRecursion IsLawful arguments → text ≡ text_of_arguments arguments → MayRefuse (height (Tuple (meanings_of arguments))) fault

-- a text is that of this owner, if one is named, and is refused only where memory runs out
abbrev pub IsOwner : List ℕ → Option Pid → Type 0
IsOwner text told = IfSome told AreNumbers × (text ≡ text_of_owner told)

abbrev pub MayRefuseOwner : List ℕ → IdentityFault → Type 0
MayRefuseOwner text fault = (told : Option Pid) → IfSome told AreNumbers → text ≡ text_of_owner told → fault ≡ Memory

-- why a call was refused
abbrev pub IsReason : List ℕ → Rule → Option Pid → Type 0
IsReason text rule told = IfSome told AreNumbers × (text ≡ text_of_reason rule told)
