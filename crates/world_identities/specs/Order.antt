-- The order of identities: ends, deadlocks, runaways, refused calls and unread messages; within a kind by the fields as they are written.
use Rattle.std.specs.Cmp.Lexicographic.{slice_cmp}
use Rattle.std.specs.Ordering.{nat_cmp, on, then_cmp}
use Rattle.std.specs.Prelude.{ℕ, List, [], ◌∷◌, option_to_list}
use Rattle.std.specs.declared.cmp.Ordering.{Ordering}
use Rattle.term_core.specs.Meaning.{Meaning}
use Rattle.term_core.specs.Order.{order_of_lists, order_of_items}
use Rattle.core_calls.specs.CallCodes.{number_of_call}
use Rattle.core_calls.specs.Calls.{signature}
use Rattle.world_model.specs.Names.{Pid}
use Rattle.world_model.specs.Shown.{Identity, End, Deadlock, Runaway, RefusedCall, Unread}
use Rattle.world_model.specs.declared.rule.Rule.{Rule}
use Rattle.world_model.specs.declared.rule.Rule.TheVariants.{BadTable, NoTable, PrivateRead, PrivateWrite, ProtectedWrite, NotOwner, BadName, BadOption, NameTaken, NotObject, ShortObject, BadPosition, NoKey, NotInteger, BagRefused, DeadTarget, OwnTarget, BadItem, CounterRange}

-- the number of a rule, as it is printed
abbrev pub number_of_rule : Rule → ℕ
number_of_rule BadTable = 1
number_of_rule NoTable = 2
number_of_rule PrivateRead = 3
number_of_rule PrivateWrite = 4
number_of_rule ProtectedWrite = 5
number_of_rule NotOwner = 6
number_of_rule BadName = 7
number_of_rule BadOption = 8
number_of_rule NameTaken = 9
number_of_rule NotObject = 10
number_of_rule ShortObject = 11
number_of_rule BadPosition = 12
number_of_rule NoKey = 13
number_of_rule NotInteger = 14
number_of_rule BagRefused = 15
number_of_rule DeadTarget = 16
number_of_rule OwnTarget = 17
number_of_rule BadItem = 18
number_of_rule CounterRange = 19

-- ---- the fields of an identity, in their order; a field that a kind does not have is the same for all of that kind

abbrev pub kind_of : Identity → ℕ
kind_of (End p reason) = 1
kind_of (Deadlock ps) = 2
kind_of (Runaway p) = 3
kind_of (RefusedCall p request call arguments rule told) = 4
kind_of (Unread ps) = 5

abbrev pub processes_of : Identity → List Pid
processes_of (End p reason) = p ∷ []
processes_of (Deadlock ps) = ps
processes_of (Runaway p) = p ∷ []
processes_of (RefusedCall p request call arguments rule told) = p ∷ []
processes_of (Unread ps) = ps

-- the reason of an end, and the arguments of a call
abbrev pub terms_of : Identity → List Meaning
terms_of (End p reason) = reason ∷ []
terms_of (RefusedCall p request call arguments rule told) = arguments
terms_of i = []

abbrev pub request_of : Identity → ℕ
request_of (RefusedCall p request call arguments rule told) = request
request_of i = 0

abbrev pub function_of : Identity → List ℕ
function_of (RefusedCall p request call arguments rule told) = (signature call).function_name
function_of i = []

abbrev pub rule_of : Identity → ℕ
rule_of (RefusedCall p request call arguments rule told) = number_of_rule rule
rule_of i = 0

-- the owner that is reported, if one is: none comes before any
abbrev pub owner_of : Identity → List Pid
owner_of (RefusedCall p request call arguments rule told) = option_to_list told
owner_of i = []

-- two calls of one name have different numbers of arguments, so this decides nothing between calls that are made
abbrev pub call_of : Identity → ℕ
call_of (RefusedCall p request call arguments rule told) = number_of_call call
call_of i = 0

-- lists of processes, item by item, a prefix before its longer ones
abbrev pub order_of_processes : List Pid → List Pid → Ordering
order_of_processes = slice_cmp order_of_lists

-- a call by its name, then by its arguments
abbrev pub order_of_calls : Identity → Identity → Ordering
order_of_calls = then_cmp (on function_of order_of_lists) (on terms_of order_of_items)

abbrev pub order_of_identities : Identity → Identity → Ordering
order_of_identities = then_cmp (on kind_of nat_cmp) (then_cmp (on processes_of order_of_processes) (then_cmp (on request_of nat_cmp) (then_cmp order_of_calls (then_cmp (on rule_of nat_cmp) (then_cmp (on owner_of order_of_processes) (on call_of nat_cmp))))))
