-- What ends, deletes and names leave, in small modules.
use Rattle.std.specs.Prelude.{◌∷◌, [], None, codes}
use Rattle.term_core.specs.declared.step.Step.TheVariants.{Turn}
use Rattle.core_tree.specs.Syntax.{ModuleTree}
use Rattle.core_calls.specs.declared.call.CallKind.TheVariants as kinds
use Rattle.core_calls.specs.declared.pure.PureCall.TheVariants as pures
use Rattle.world_model.specs.Calls.{ByName, ByReference}
use Rattle.world_model.specs.ExampleRuns.{P, P_1, P_2, t, serves_it, refuses_it, EndsWith}
use Rattle.world_model.specs.Modules.{the, the_atom, the_tuple, the_table, ask_for, compute, in_turn, with_result, module_of, main, child, spawn_child, new_table, put_one, look_up}
use Rattle.world_model.specs.OrderExamples.{a, me_as_n}
use Rattle.world_model.specs.Orders.{OrderMatters, Tells}
use Rattle.world_model.specs.ProcessExamples.{first_ref}
use Rattle.world_model.specs.TableExamples.{writes, bequeaths}
use Rattle.world_model.specs.Terms.{atom, process}
use Rattle.world_model.specs.World.{found, rows, owner}
use Rattle.world_model.specs.declared.rule.Rule.TheVariants.{NoTable}

-- ---- a table that is found by its name is not found by its reference

abbrev pub NamedHasNoReference : Type 0
NamedHasNoReference = Tells (λ h. found h (ByReference first_ref)) writes (Turn P ∷ []) None

-- ---- a deleted table has no owner, no rows, and is not found

abbrev pub deletes_it : ModuleTree
deletes_it = module_of (main (in_turn (new_table []) (in_turn put_one (ask_for kinds.DeleteTable (the_table ∷ [])))) ∷ [])

abbrev pub DeletedIsNotFound : Type 0
DeletedIsNotFound = Tells (λ h. found h (ByName (codes "t"))) deletes_it (Turn P ∷ Turn P ∷ Turn P ∷ []) None

abbrev pub DeletedHasNoOwner : Type 0
DeletedHasNoOwner = Tells (λ h. owner h first_ref) deletes_it (Turn P ∷ Turn P ∷ Turn P ∷ []) None

abbrev pub DeletedHasNoRows : Type 0
DeletedHasNoRows = Tells (λ h. rows h first_ref a) deletes_it (Turn P ∷ Turn P ∷ Turn P ∷ []) []

-- ---- a process that ends is no heir of itself

abbrev pub own_heir : ModuleTree
own_heir = module_of (main (with_result (codes "Me") (compute pures.OwnPid []) (in_turn (new_table (the_tuple (the_atom (codes "heir") ∷ the (codes "Me") ∷ the_atom (codes "d") ∷ []) ∷ [])) spawn_child)) ∷ child look_up ∷ [])

abbrev pub OwnHeirIsNone : Type 0
OwnHeirIsNone = EndsWith own_heir (Turn P ∷ Turn P ∷ Turn P ∷ Turn P_2 ∷ []) (refuses_it P_2 kinds.Lookup (t ∷ a ∷ []) NoTable None)

-- and a process that has ended is no heir: the child of `bequeaths`, which is refused its write, ends before its parent does
abbrev pub DeadHeirIsNone : Type 0
DeadHeirIsNone = Tells (λ h. found h (ByName (codes "t"))) bequeaths (Turn P ∷ Turn P ∷ Turn P ∷ Turn P_1 ∷ Turn P_1 ∷ Turn P ∷ []) None

-- ---- with a process its name goes

abbrev pub seeks_n : ModuleTree
seeks_n = module_of (main (in_turn spawn_child (ask_for kinds.Whereis (the_atom (codes "n") ∷ []))) ∷ child me_as_n ∷ [])

abbrev pub NameGoesWithItsHolder : Type 0
NameGoesWithItsHolder = OrderMatters seeks_n (Turn P ∷ Turn P_1 ∷ []) (Turn P_1) (Turn P) (serves_it P kinds.Whereis (atom (codes "n") ∷ []) (process P_1)) (serves_it P kinds.Whereis (atom (codes "n") ∷ []) (atom (codes "undefined")))
