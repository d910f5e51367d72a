-- What mailboxes are after a change at one process.
use Rattle.std.proofs.Common.{◌≡◌, Bool, true, false, List, [], ◌∷◌, ◌++◌, Option, Some, refl, sym, ap, ◌∙◌, subst, if◌then◌else◌}
use Rattle.std.proofs.lemmas.Map.Steps.{set_value_same}
use Rattle.std.proofs.lemmas.Map.Text.{is_eq-slice_cmp}
use Rattle.std.specs.BTreeMap.{is_at}
use Rattle.std.specs.Map.{lookup, set_value}
use Rattle.std.specs.Result.{OnErr}
use Rattle.std.specs.declared.result.Result.{Result}
use Rattle.std.specs.declared.result.Result.TheVariants.{Ok, Err}
use Rattle.term_core.specs.Meaning.{Meaning}
use Rattle.term_core.specs.Order.{order_of_lists}
use Rattle.world_model.specs.Names.{Pid, same_pid}
use Rattle.proc_signals.proofs.Beside.{pids_same}
use Rattle.proc_signals.specs.Channels.{beside}
use Rattle.proc_mailboxes.specs.Mailboxes.{Mailboxes, IsChangedAt, TakesFrom, messages_in, messages_of}

-- a process is changed, another is not
after_if : (f : List Meaning → List Meaning) (w o : Option (List Meaning)) (b : Bool) → (b ≡ true → messages_of w ≡ f (messages_of o)) → messages_of (if b then w else o) ≡ (if b then f (messages_of o) else messages_of o)
after_if f w o true here = here refl
after_if f w o false here = refl

-- after a change at one key its process has what f makes of its messages
at_key : (f : List Meaning → List Meaning) (es fs : Mailboxes) (k : Pid) (w : Option (List Meaning)) → ((q : Pid) → lookup (is_at (order_of_lists q)) fs ≡ (if is_at (order_of_lists k) q then w else lookup (is_at (order_of_lists q)) es))
    → messages_of w ≡ f (messages_in es k) → IsChangedAt k f es fs
at_key f es fs k w now here q =
    ap messages_of (now q) ∙ ap (λ b. messages_of (if b then w else beside es q)) (is_eq-slice_cmp k q)
    ∙ after_if f w (beside es q) (same_pid k q) (λ e. subst (λ r. messages_of w ≡ f (messages_in es r)) (pids_same k q e) here)

-- the same of mailboxes that are seen as `now`, where the key is a copy of the pid
pub changed_at : (f : List Meaning → List Meaning) (es fs now : Mailboxes) (j k : Pid) (w : Option (List Meaning)) → es ≡ now → j ≡ k
    → ((q : Pid) → lookup (is_at (order_of_lists q)) fs ≡ (if is_at (order_of_lists j) q then w else lookup (is_at (order_of_lists q)) es))
    → messages_of w ≡ f (messages_in now k) → IsChangedAt k f now fs
changed_at f es fs now j k w view same new here =
    subst (λ m. IsChangedAt k f m fs) view
    (subst (λ p. IsChangedAt p f es fs) same (at_key f es fs j w new (here ∙ ap (λ m. f (messages_in m k)) (sym view) ∙ ap (λ p. f (messages_in es p)) (sym same))))

pub if_alike : (b : Bool) (x y z : List Meaning) → (b ≡ true → x ≡ y) → (if b then x else z) ≡ (if b then y else z)
if_alike true x y z same = same refl
if_alike false x y z same = refl

-- a process that has the messages of its mailbox in others takes them over
pub takes_from : (p : Pid) (other old new : Mailboxes) → IsChangedAt p (λ _. messages_in other p) old new → TakesFrom p other old new
takes_from p other old new is q = is q ∙ if_alike (same_pid p q) (messages_in other p) (messages_in other q) (messages_in old q) (λ e. ap (messages_in other) (pids_same p q e))

-- what is made of the messages that were there
pub made_of : (f : List Meaning → List Meaning) (es now : Mailboxes) (k : Pid) (was new : List Meaning) → es ≡ now → Some was ≡ lookup (is_at (order_of_lists k)) es → new ≡ f was → new ≡ f (messages_in now k)
made_of f es now k was new view found made = made ∙ ap (λ o. f (messages_of o)) found ∙ ap (λ m. f (messages_in m k)) view

-- a message comes in where no message was
pub begun_of : (now : Mailboxes) (k : Pid) (was new : List Meaning) (message : Meaning) → messages_in now k ≡ [] → was ≡ [] → new ≡ was ++ message ∷ [] → new ≡ messages_in now k ++ message ∷ []
begun_of now k was new message none empty made = made ∙ ap (λ ms. ms ++ message ∷ []) (empty ∙ sym none)

-- a mailbox that is written back as it was
pub unchanged_at : (es fs now : Mailboxes) (k : Pid) (was new : List Meaning) → es ≡ now → Some was ≡ lookup (is_at (order_of_lists k)) es → new ≡ was → fs ≡ set_value (is_at (order_of_lists k)) es new → fs ≡ now
unchanged_at es fs now k was new view found same set = set ∙ set_value_same (is_at (order_of_lists k)) es new (sym found ∙ ap Some (sym same)) ∙ view

pub on_err : {A E P : Type 0} (r : Result A E) → P → OnErr r P
on_err (Ok x) p = tt
on_err (Err e) p = p
