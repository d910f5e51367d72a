-- The nodes of the tree of a module, and how many small modules have.
use Rattle.std.specs.Cmp.Lexicographic.{slice_cmp}
use Rattle.std.specs.declared.cmp.Ordering.{Ordering}
use Rattle.std.specs.declared.cmp.Ordering.TheVariants.{Less}
use Rattle.std.specs.Prelude.{◌≡◌, ◌≤◌, ℕ, pos, true, List, [], ◌∷◌, Some, codes, length}
use Rattle.term_core.specs.StepOrder.{order_of_steps}
use Rattle.term_core.specs.declared.step.Step.{Step}
use Rattle.term_core.specs.declared.step.Step.TheVariants.{Turn}
use Rattle.core_tree.specs.Expression as trees
use Rattle.core_tree.specs.Syntax.{ModuleTree, Tree}
use Rattle.core_calls.specs.declared.call.CallKind.TheVariants as kinds
use Rattle.world_model.specs.Asking.{program_of}
use Rattle.world_model.specs.Events.{Event, History}
use Rattle.world_model.specs.ExampleRuns.{P, P_1}
use Rattle.world_model.specs.Independence.{are_independent}
use Rattle.world_model.specs.Modules.{module_of, main, child, spawn_child, new_table, look_up, put_one, mention, the, in_turn, ask_for, the_atom, the_number, the_list, the_tuple, the_table}
use Rattle.world_model.specs.Names.{Name, IsAmong}
use Rattle.world_model.specs.OrderExamples.{unlinks}
use Rattle.world_model.specs.Requests.{Program}
use Rattle.world_model.specs.Run.{next_event, run}
use Rattle.world_model.specs.TableExamples.{stranger}
use Rattle.tree_sleep_sets.specs.Nodes.{paths}
use Rattle.tree_sleep_sets.specs.Search.{search}
use Rattle.tree_coverage.specs.Explored.{explored, choice}

-- the schedules of the nodes, each before those of the nodes below it
abbrev pub nodes : Program → ℕ → List (List Step)
nodes a n = paths (explored a) (search (explored a) (choice a)) n tt [] []

-- how many there are
abbrev pub node_count : Program → ℕ → ℕ
node_count a n = length (nodes a n)

-- each is a schedule of at most so many steps, and it runs
abbrev pub NodesRun : Type 0
NodesRun = (a : Program) (n : ℕ) (s : List Step) → IsAmong s (nodes a n) → (length s ≤ n) × (h : History) × (run a s ≡ Some h)

-- two schedules step by step, a prefix before its longer ones
abbrev pub order_in_tree : List Step → List Step → Ordering
order_in_tree = slice_cmp order_of_steps

-- schedules in that order, each once: each comes before all that follow it
abbrev pub GoesBefore : List Step → List (List Step) → Type 0
GoesBefore s [] = Unit {0}
GoesBefore s (t ∷ ts) = (order_in_tree s t ≡ Less) × GoesBefore s ts

abbrev pub AreInTreeOrder : List (List Step) → Type 0
AreInTreeOrder [] = Unit {0}
AreInTreeOrder (s ∷ ss) = GoesBefore s ss × AreInTreeOrder ss

abbrev pub NodesAreInOrder : Type 0
NodesAreInOrder = (a : Program) (n : ℕ) → AreInTreeOrder (nodes a n)

-- after a history one schedule becomes the other by swaps of neighbours that are independent at their places
pub data AreEquivalent (a : Program) : History → List Step → List Step → Type 0 where
  Itself : {h : History} {s : List Step} → AreEquivalent a h s s
  Swap : {h : History} {s t : Step} {rest : List Step} → are_independent a h s t ≡ true → AreEquivalent a h (s ∷ t ∷ rest) (t ∷ s ∷ rest)
  After : {h : History} {s : Step} {e : Event} {r t : List Step} → next_event a h s ≡ Some e → AreEquivalent a (e ∷ h) r t → AreEquivalent a h (s ∷ r) (s ∷ t)
  Chain : {h : History} {r s t : List Step} → AreEquivalent a h r s → AreEquivalent a h s t → AreEquivalent a h r t

-- each schedule of at most so many steps that runs is equivalent to one of the list
abbrev pub NodesCover : Type 0
NodesCover = (a : Program) (n : ℕ) (s : List Step) (h : History) → length s ≤ n → run a s ≡ Some h → (p : List Step) × IsAmong p (nodes a n) × AreEquivalent a [] s p

-- the tree of a module to this depth has so many nodes
abbrev pub HasNodes : ModuleTree → ℕ → ℕ → Type 0
HasNodes m n count = node_count (program_of m) n ≡ count

-- and these are the schedules of its nodes
abbrev pub HasTree : ModuleTree → ℕ → List (List Step) → Type 0
HasTree m n schedules = nodes (program_of m) n ≡ schedules

-- ---- small modules

-- a process that ends at once
abbrev pub idle : ModuleTree
idle = module_of (main (the_atom (codes "ok")) ∷ [])

abbrev pub IdleHasOne : Type 0
IdleHasOne = HasNodes idle 0 1

abbrev pub IdleHasTwo : Type 0
IdleHasTwo = HasNodes idle 1 2

-- two processes make a table of their own each and end: nothing that one does matters to the other
abbrev pub own_table : Name → Tree
own_table name = ask_for kinds.New (the_atom name ∷ the_list [] ∷ [])

abbrev pub two_tables : ModuleTree
two_tables = module_of (main (in_turn spawn_child (own_table (codes "a"))) ∷ child (own_table (codes "b")) ∷ [])

abbrev pub p : Step
p = Turn P

abbrev pub c : Step
c = Turn P_1

abbrev pub TwoTablesHaveTen : Type 0
TwoTablesHaveTen = HasTree two_tables 5 (
    []
    ∷ (p ∷ [])
    ∷ (p ∷ p ∷ [])
    ∷ (p ∷ p ∷ p ∷ [])
    ∷ (p ∷ p ∷ p ∷ c ∷ [])
    ∷ (p ∷ p ∷ p ∷ c ∷ c ∷ [])
    ∷ (p ∷ p ∷ c ∷ [])
    ∷ (p ∷ p ∷ c ∷ c ∷ [])
    ∷ (p ∷ c ∷ [])
    ∷ (p ∷ c ∷ c ∷ [])
    ∷ [])

-- another process writes a protected table: its call and the end of the owner depend on each other
abbrev pub StrangerHasTen : Type 0
StrangerHasTen = HasNodes stranger 5 10

-- another process reads a private table, and goes on
abbrev pub private_read : ModuleTree
private_read = module_of (
    main (in_turn (new_table (the_atom (codes "private") ∷ [])) spawn_child)
    ∷ child (trees.Try 0 look_up (mention (codes "X") ∷ []) (the (codes "X")) (mention (codes "K") ∷ mention (codes "R") ∷ []) (the_atom (codes "none")))
    ∷ [])

abbrev pub PrivateReadHasFive : Type 0
PrivateReadHasFive = HasNodes private_read 3 5

-- two processes put objects under two keys of one table: the inserts do not depend on each other
abbrev pub put_other : Tree
put_other = ask_for kinds.Insert (the_table ∷ the_tuple (the_atom (codes "b") ∷ the_number (pos 1) ∷ []) ∷ [])

abbrev pub two_keys : ModuleTree
two_keys = module_of (main (in_turn (new_table (the_atom (codes "public") ∷ [])) (in_turn spawn_child put_one)) ∷ child put_other ∷ [])

abbrev pub TwoKeysHaveEight : Type 0
TwoKeysHaveEight = HasNodes two_keys 4 8

abbrev pub TwoKeysHaveThirteen : Type 0
TwoKeysHaveThirteen = HasNodes two_keys 6 13

-- a process ends when its link is gone: its signal is dropped, and does not depend on whether its receiver traps exits
abbrev pub UnlinkedHaveSeventeen : Type 0
UnlinkedHaveSeventeen = HasNodes unlinks 5 17

abbrev pub UnlinkedHaveNineteen : Type 0
UnlinkedHaveNineteen = HasNodes unlinks 6 19
