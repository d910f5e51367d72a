-- What calls of tables answer of their rows, in small modules.
use Rattle.std.specs.Prelude.{◌∷◌, ℕ, ℤ, pos, negsuc, List, [], Some, false, codes}
use Rattle.term_core.specs.Meaning.{Meaning, Int}
use Rattle.term_core.specs.declared.step.Step.TheVariants.{Turn}
use Rattle.core_tree.specs.Expression as trees
use Rattle.core_tree.specs.Syntax.{ModuleTree, Tree}
use Rattle.core_calls.specs.declared.call.CallKind.{CallKind}
use Rattle.core_calls.specs.declared.call.CallKind.TheVariants as kinds
use Rattle.world_model.specs.ExampleRuns.{P, R_1, serves_it, refuses_it, EndsWith}
use Rattle.world_model.specs.Modules.{the, mention, the_atom, the_number, the_tuple, the_list, the_table, ask_for, in_turn, with_result, module_of, main}
use Rattle.world_model.specs.Names.{Name}
use Rattle.world_model.specs.Terms.{atom, number, list_of, ok, truth, tuple}
use Rattle.world_model.specs.declared.rule.Rule.{Rule}
use Rattle.world_model.specs.declared.rule.Rule.TheVariants.{BadPosition, NotObject, ShortObject, CounterRange, BagRefused}

-- ---- a table of one process, found by its reference: these objects are put in, and then it is called

abbrev pub on_it : CallKind → List Tree → Tree
on_it kind arguments = ask_for kind (the (codes "T") ∷ arguments)

abbrev pub with_objects : List Tree → List Tree → Tree → ModuleTree
with_objects options objects call = module_of (main (with_result (codes "T") (ask_for kinds.New (the_table ∷ the_list options ∷ [])) (in_turn (on_it kinds.Insert (the_list objects ∷ [])) call)) ∷ [])

-- the call is served with this answer
abbrev pub Answers : List Tree → List Tree → CallKind → List Tree → List Meaning → Meaning → Type 0
Answers options objects kind arguments given answer = EndsWith (with_objects options objects (on_it kind arguments)) (Turn P ∷ Turn P ∷ Turn P ∷ []) (serves_it P kind (R_1 ∷ given) answer)

-- after another call it is
abbrev pub ThenAnswers : List Tree → List Tree → Tree → CallKind → List Tree → List Meaning → Meaning → Type 0
ThenAnswers options objects first kind arguments given answer = EndsWith (with_objects options objects (in_turn first (on_it kind arguments))) (Turn P ∷ Turn P ∷ Turn P ∷ Turn P ∷ []) (serves_it P kind (R_1 ∷ given) answer)

-- the call is refused by this rule
abbrev pub Refuses : List Tree → List Tree → CallKind → List Tree → List Meaning → Rule → Type 0
Refuses options objects kind arguments given rule = EndsWith (with_objects options objects (on_it kind arguments)) (Turn P ∷ Turn P ∷ Turn P ∷ []) (refuses_it P kind (R_1 ∷ given) rule (Some P))

abbrev pub pair_of : ℤ → Name → Tree
pair_of n text = the_tuple (the_number n ∷ the_atom text ∷ [])

-- ---- a bag holds each object once, in the order in which they came

abbrev pub bag : List Tree
bag = the_atom (codes "bag") ∷ []

abbrev pub three : List Tree
three = pair_of (pos 1) (codes "x") ∷ pair_of (pos 1) (codes "x") ∷ pair_of (pos 1) (codes "w") ∷ []

abbrev pub BagHoldsEachOnce : Type 0
BagHoldsEachOnce = Answers bag three kinds.Lookup (the_number (pos 1) ∷ []) (number 1 ∷ []) (list_of (tuple (number 1 ∷ atom (codes "x") ∷ []) ∷ tuple (number 1 ∷ atom (codes "w") ∷ []) ∷ []))

abbrev pub BagGivesEachElement : Type 0
BagGivesEachElement = Answers bag three kinds.LookupElement (the_number (pos 1) ∷ the_number (pos 2) ∷ []) (number 1 ∷ number 2 ∷ []) (list_of (atom (codes "x") ∷ atom (codes "w") ∷ []))

abbrev pub BagHasNoCounter : Type 0
BagHasNoCounter = Refuses bag three kinds.UpdateCounter (the_number (pos 1) ∷ the_number (pos 1) ∷ []) (number 1 ∷ number 1 ∷ []) BagRefused

-- a duplicate_bag holds it as often as it came
abbrev pub DuplicateBagHoldsAll : Type 0
DuplicateBagHoldsAll = Answers (the_atom (codes "duplicate_bag") ∷ []) three kinds.LookupElement (the_number (pos 1) ∷ the_number (pos 2) ∷ []) (number 1 ∷ number 2 ∷ []) (list_of (atom (codes "x") ∷ atom (codes "x") ∷ atom (codes "w") ∷ []))

-- a set keeps the last
abbrev pub SetKeepsTheLast : Type 0
SetKeepsTheLast = Answers [] three kinds.LookupElement (the_number (pos 1) ∷ the_number (pos 2) ∷ []) (number 1 ∷ number 2 ∷ []) (atom (codes "w"))

-- and so does an ordered_set
abbrev pub OrderedSetKeepsTheLast : Type 0
OrderedSetKeepsTheLast = Answers (the_atom (codes "ordered_set") ∷ []) three kinds.Lookup (the_number (pos 1) ∷ []) (number 1 ∷ []) (list_of (tuple (number 1 ∷ atom (codes "w") ∷ []) ∷ []))

-- of two kinds that are asked for the last counts
abbrev pub LastKindCounts : Type 0
LastKindCounts = Answers (the_atom (codes "bag") ∷ the_atom (codes "set") ∷ []) three kinds.LookupElement (the_number (pos 1) ∷ the_number (pos 2) ∷ []) (number 1 ∷ number 2 ∷ []) (atom (codes "w"))

abbrev pub two : List Tree
two = pair_of (pos 2) (codes "x") ∷ pair_of (pos 1) (codes "x") ∷ []

-- ---- an insert_new puts in all or nothing

abbrev pub put_new : Tree
put_new = the_list (pair_of (pos 3) (codes "y") ∷ pair_of (pos 2) (codes "y") ∷ [])

abbrev pub AllOrNothing : Type 0
AllOrNothing = ThenAnswers [] two (on_it kinds.InsertNew (put_new ∷ [])) kinds.Lookup (the_number (pos 3) ∷ []) (number 3 ∷ []) (list_of [])

-- ---- what is there, what goes, and what is left

abbrev pub MemberIsThere : Type 0
MemberIsThere = Answers [] two kinds.Member (the_number (pos 2) ∷ []) (number 2 ∷ []) ok

abbrev pub OtherIsNotThere : Type 0
OtherIsNotThere = Answers [] two kinds.Member (the_number (pos 3) ∷ []) (number 3 ∷ []) (truth false)

abbrev pub TakenIsTold : Type 0
TakenIsTold = Answers [] two kinds.Take (the_number (pos 2) ∷ []) (number 2 ∷ []) (list_of (tuple (number 2 ∷ atom (codes "x") ∷ []) ∷ []))

abbrev pub TakenIsGone : Type 0
TakenIsGone = ThenAnswers [] two (on_it kinds.Take (the_number (pos 2) ∷ [])) kinds.Lookup (the_number (pos 2) ∷ []) (number 2 ∷ []) (list_of [])

abbrev pub delete_two : Tree
delete_two = on_it kinds.DeleteKey (the_number (pos 2) ∷ [])

abbrev pub DeletedIsGone : Type 0
DeletedIsGone = ThenAnswers [] two delete_two kinds.Lookup (the_number (pos 2) ∷ []) (number 2 ∷ []) (list_of [])

abbrev pub OthersStay : Type 0
OthersStay = ThenAnswers [] two delete_two kinds.Lookup (the_number (pos 1) ∷ []) (number 1 ∷ []) (list_of (tuple (number 1 ∷ atom (codes "x") ∷ []) ∷ []))

-- of a duplicate_bag each object that is the same goes, and no other
abbrev pub SameObjectsAreGone : Type 0
SameObjectsAreGone = ThenAnswers (the_atom (codes "duplicate_bag") ∷ []) three (on_it kinds.DeleteObject (pair_of (pos 1) (codes "x") ∷ [])) kinds.Lookup (the_number (pos 1) ∷ []) (number 1 ∷ []) (list_of (tuple (number 1 ∷ atom (codes "w") ∷ []) ∷ []))

-- ---- an element is changed, where its key is there

abbrev pub to_y : Tree
to_y = the_tuple (the_number (pos 2) ∷ the_atom (codes "y") ∷ [])

abbrev pub ElementIsChanged : Type 0
ElementIsChanged = ThenAnswers [] two (on_it kinds.UpdateElement (the_number (pos 1) ∷ to_y ∷ [])) kinds.Lookup (the_number (pos 1) ∷ []) (number 1 ∷ []) (list_of (tuple (number 1 ∷ atom (codes "y") ∷ []) ∷ []))

abbrev pub NoElementIsChanged : Type 0
NoElementIsChanged = Answers [] two kinds.UpdateElement (the_number (pos 3) ∷ to_y ∷ []) (number 3 ∷ tuple (number 2 ∷ atom (codes "y") ∷ []) ∷ []) (truth false)

-- ---- keys at another place, and sums

abbrev pub second_is_key : List Tree
second_is_key = the_tuple (the_atom (codes "keypos") ∷ the_number (pos 2) ∷ []) ∷ []

abbrev pub ShortHasNoPlace : Type 0
ShortHasNoPlace = Refuses second_is_key (pair_of (pos 1) (codes "k") ∷ []) kinds.UpdateCounter (the_atom (codes "k") ∷ the_number (pos 1) ∷ []) (atom (codes "k") ∷ number 1 ∷ []) BadPosition

abbrev pub ShortHasNoKey : Type 0
ShortHasNoKey = Refuses second_is_key (pair_of (pos 1) (codes "k") ∷ []) kinds.Insert (the_tuple (the_atom (codes "v") ∷ []) ∷ []) (tuple (atom (codes "v") ∷ []) ∷ []) ShortObject

abbrev pub largest : ℤ
largest = pos 9223372036854775807

abbrev pub SumHasItsRange : Type 0
SumHasItsRange = Refuses [] (the_tuple (the_atom (codes "k") ∷ the_number largest ∷ []) ∷ []) kinds.UpdateCounter (the_atom (codes "k") ∷ the_number (pos 1) ∷ []) (atom (codes "k") ∷ number 1 ∷ []) CounterRange

abbrev pub CounterCounts : Type 0
CounterCounts = Answers [] (the_tuple (the_atom (codes "k") ∷ the_number (pos 1) ∷ []) ∷ []) kinds.UpdateCounter (the_atom (codes "k") ∷ the_number (pos 1) ∷ []) (atom (codes "k") ∷ number 1 ∷ []) (number 2)

-- ---- several additions, limits and defaults

abbrev pub pair : ℤ → ℤ → Tree
pair a b = the_tuple (the_number a ∷ the_number b ∷ [])

abbrev pub one_k : List Tree
one_k = the_tuple (the_atom (codes "k") ∷ the_number (pos 1) ∷ []) ∷ []

abbrev pub k_with : ℕ → Meaning
k_with n = tuple (atom (codes "k") ∷ number n ∷ [])

-- one goes on from what the other leaves
abbrev pub AdditionsGoOn : Type 0
AdditionsGoOn = Answers [] one_k kinds.UpdateCounter (the_atom (codes "k") ∷ the_list (pair (pos 2) (pos 1) ∷ pair (pos 2) (pos 5) ∷ []) ∷ []) (atom (codes "k") ∷ list_of (tuple (number 2 ∷ number 1 ∷ []) ∷ tuple (number 2 ∷ number 5 ∷ []) ∷ []) ∷ []) (list_of (number 2 ∷ number 7 ∷ []))

abbrev pub within : ℤ → ℤ → ℤ → Tree
within amount limit value = the_tuple (the_number (pos 2) ∷ the_number amount ∷ the_number limit ∷ the_number value ∷ [])

-- a sum at its limit stays, and one past it is set
abbrev pub LimitIsReached : Type 0
LimitIsReached = Answers [] one_k kinds.UpdateCounter (the_atom (codes "k") ∷ within (pos 2) (pos 3) (pos 0) ∷ []) (atom (codes "k") ∷ tuple (number 2 ∷ number 2 ∷ number 3 ∷ number 0 ∷ []) ∷ []) (number 3)

abbrev pub LimitIsPassed : Type 0
LimitIsPassed = Answers [] one_k kinds.UpdateCounter (the_atom (codes "k") ∷ within (pos 3) (pos 3) (pos 0) ∷ []) (atom (codes "k") ∷ tuple (number 2 ∷ number 3 ∷ number 3 ∷ number 0 ∷ []) ∷ []) (number 0)

-- below it where something is taken away
abbrev pub LimitIsPassedDown : Type 0
LimitIsPassedDown = Answers [] one_k kinds.UpdateCounter (the_atom (codes "k") ∷ within (negsuc 0) (pos 1) (pos 9) ∷ []) (atom (codes "k") ∷ tuple (number 2 ∷ Int (negsuc 0) ∷ number 1 ∷ number 9 ∷ []) ∷ []) (number 9)

-- a limit keeps a sum in its range
abbrev pub LimitKeepsTheRange : Type 0
LimitKeepsTheRange = Answers [] (the_tuple (the_atom (codes "k") ∷ the_number largest ∷ []) ∷ []) kinds.UpdateCounter (the_atom (codes "k") ∷ within (pos 1) largest (pos 0) ∷ []) (atom (codes "k") ∷ tuple (number 2 ∷ number 1 ∷ Int largest ∷ number 0 ∷ []) ∷ []) (number 0)

-- a call that may fail, and what is looked up after it
abbrev pub tried : Tree → Tree
tried call = trees.Try 0 call (mention (codes "X") ∷ []) (the (codes "X")) (mention (codes "K") ∷ mention (codes "R") ∷ []) (the_atom (codes "none"))

-- where one of several is refused nothing is added
abbrev pub AllOrNoneIsAdded : Type 0
AllOrNoneIsAdded = ThenAnswers [] one_k (tried (on_it kinds.UpdateCounter (the_atom (codes "k") ∷ the_list (pair (pos 2) (pos 1) ∷ pair (pos 3) (pos 1) ∷ []) ∷ []))) kinds.Lookup (the_atom (codes "k") ∷ []) (atom (codes "k") ∷ []) (list_of (k_with 1 ∷ []))

-- a default is put in under the key, and counted
abbrev pub default : Tree
default = the_tuple (the_atom (codes "d") ∷ the_number (pos 4) ∷ [])

abbrev pub DefaultIsCounted : Type 0
DefaultIsCounted = ThenAnswers [] [] (on_it kinds.UpdateCounterWith (the_atom (codes "k") ∷ the_number (pos 1) ∷ default ∷ [])) kinds.Lookup (the_atom (codes "k") ∷ []) (atom (codes "k") ∷ []) (list_of (k_with 5 ∷ []))

-- also where nothing is added
abbrev pub DefaultIsPutIn : Type 0
DefaultIsPutIn = ThenAnswers [] [] (on_it kinds.UpdateCounterWith (the_atom (codes "k") ∷ the_list [] ∷ default ∷ [])) kinds.Lookup (the_atom (codes "k") ∷ []) (atom (codes "k") ∷ []) (list_of (k_with 4 ∷ []))

-- but not where the key is there
abbrev pub DefaultIsLeft : Type 0
DefaultIsLeft = Answers [] one_k kinds.UpdateCounterWith (the_atom (codes "k") ∷ the_number (pos 1) ∷ default ∷ []) (atom (codes "k") ∷ number 1 ∷ tuple (atom (codes "d") ∷ number 4 ∷ []) ∷ []) (number 2)

-- what is no object is refused also there, one without a key only where it is taken
abbrev pub DefaultIsNoObject : Type 0
DefaultIsNoObject = Refuses [] one_k kinds.UpdateCounterWith (the_atom (codes "k") ∷ the_number (pos 1) ∷ the_number (pos 0) ∷ []) (atom (codes "k") ∷ number 1 ∷ number 0 ∷ []) NotObject

abbrev pub DefaultHasNoKey : Type 0
DefaultHasNoKey = Refuses [] one_k kinds.UpdateCounterWith (the_atom (codes "l") ∷ the_list [] ∷ the_tuple [] ∷ []) (atom (codes "l") ∷ list_of [] ∷ tuple [] ∷ []) ShortObject

-- ---- several elements

-- of two at one position the later one stays
abbrev pub ElementsAreChanged : Type 0
ElementsAreChanged = ThenAnswers [] two (on_it kinds.UpdateElement (the_number (pos 1) ∷ the_list (pair_of (pos 2) (codes "y") ∷ pair_of (pos 2) (codes "z") ∷ []) ∷ [])) kinds.Lookup (the_number (pos 1) ∷ []) (number 1 ∷ []) (list_of (tuple (number 1 ∷ atom (codes "z") ∷ []) ∷ []))

-- where one is refused none is changed
abbrev pub AllOrNoneIsChanged : Type 0
AllOrNoneIsChanged = ThenAnswers [] two (tried (on_it kinds.UpdateElement (the_number (pos 1) ∷ the_list (pair_of (pos 2) (codes "y") ∷ pair_of (pos 1) (codes "z") ∷ []) ∷ []))) kinds.Lookup (the_number (pos 1) ∷ []) (number 1 ∷ []) (list_of (tuple (number 1 ∷ atom (codes "x") ∷ []) ∷ []))

-- where the key is missing a change at the place of the key is still refused
abbrev pub ChangeOfTheKeyIsRefused : Type 0
ChangeOfTheKeyIsRefused = Refuses [] two kinds.UpdateElement (the_number (pos 3) ∷ pair_of (pos 1) (codes "y") ∷ []) (number 3 ∷ tuple (number 1 ∷ atom (codes "y") ∷ []) ∷ []) BadPosition
