-- Whether a step does something, by the values that it reads.
use Rattle.std.proofs.Common.{◌≡◌, ◌∙◌, Bool, true, false, ℕ, List, [], ◌∷◌, Option, Some, None, is_some, option_map, refl, sym, ap, true≢false, if◌then◌else◌}
use Rattle.std.specs.Prelude.{◌+◌, not, unwrap_or}
use Rattle.term_core.specs.declared.step.Step.TheVariants.{Turn}
use Rattle.term_core.specs.Meaning.{Meaning}
use Rattle.core_tree.specs.Syntax.{ModuleTree}
use Rattle.core_calls.specs.declared.call.CallKind.{CallKind}
use Rattle.proc_signals.specs.Mailbox.{first_place}
use Rattle.world_model.specs.Asking.{program_of}
use Rattle.world_model.specs.Calls.{call_of}
use Rattle.world_model.specs.Cells as cells
use Rattle.world_model.specs.Cells.{Contents}
use Rattle.world_model.specs.Events.{Deed}
use Rattle.world_model.specs.Lines.{line}
use Rattle.world_model.specs.Names.{Pid}
use Rattle.world_model.specs.Requests.{Request}
use Rattle.world_model.specs.Mailboxes.{selected_of}
use Rattle.world_model.specs.Steps.{asked, deed_asked, deed_of_call, ended_or, ends_itself, judged, must_wait, next_deed, received}

same_first : (takes : Meaning → Bool) (m : Meaning) (b : Bool) (o : Option ℕ) (rest : Option Meaning) → is_some o ≡ is_some rest → is_some (if b then Some 0 else option_map (λ n. n + 1) o) ≡ is_some (if b then Some m else rest)
same_first takes m true o rest e = refl
same_first takes m false None rest e = e
same_first takes m false (Some n) rest e = e

pub firsts : (takes : Meaning → Bool) (ms : List Meaning) → is_some (first_place takes ms) ≡ is_some (selected_of takes ms)
firsts takes [] = refl
firsts takes (m ∷ ms) = same_first takes m (takes m) (first_place takes ms) (selected_of takes ms) (firsts takes ms)

pub same_in : {A : Type 0} (x y : A) → Some x ≡ Some y → x ≡ y
same_in x y e = ap (λ o. unwrap_or o x) e

pub turn_has : (m : ModuleTree) (v : Contents) (p : Pid) (request : Request) (is_so : Bool) → v (cells.Alive p) ≡ true → asked (program_of m) p (v (cells.Machine p)) ≡ request → is_so ≡ is_some (deed_asked v p request) → is_so ≡ is_some (next_deed (program_of m) v (Turn p))
turn_has m v p request is_so lives is so = so ∙ ap (λ r. is_some (deed_asked v p r)) (sym is) ∙ sym (ap (λ b. is_some (if b then deed_asked v p (asked (program_of m) p (v (cells.Machine p))) else None)) lives)

not_waiting : (waits : Bool) (deed : Deed) → not waits ≡ is_some (if waits then None else Some deed)
not_waiting true deed = refl
not_waiting false deed = refl

pub call_has : (v : Contents) (p : Pid) (kind : CallKind) (arguments : List Meaning) → not (must_wait v p (call_of kind arguments)) ≡ is_some (deed_of_call v p kind arguments)
call_has v p kind arguments = not_waiting (must_wait v p (call_of kind arguments)) (ended_or kind arguments (ends_itself v p (call_of kind arguments)) (judged kind arguments (line v p (call_of kind arguments)).refusal (line v p (call_of kind arguments)).answer))

pub timeout_has : (waits : Bool) (o : Option Meaning) → waits ≡ false → not waits ≡ is_some (received waits o)
timeout_has true o e = absurd (true≢false e)
timeout_has false None e = refl
timeout_has false (Some m) e = refl

pub wait_has : (waits has : Bool) (o : Option Meaning) → waits ≡ true → has ≡ is_some o → has ≡ is_some (received waits o)
wait_has true has None e is = is
wait_has true has (Some m) e is = is
wait_has false has o e is = absurd (true≢false (sym e))
