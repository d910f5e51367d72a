-- Good covers of small modules, and lines that are no good cover, where what is an error under the flags counts as one.
use Rattle.std.specs.Prelude.{ℕ, List, [], ◌∷◌, codes}
use Rattle.core_tree.specs.Syntax.{ModuleTree}
use Rattle.term_core.specs.declared.step.Step.{Step}
use Rattle.term_core.specs.declared.step.Step.TheVariants.{Turn}
use Rattle.world_model.specs.Asking.{program_of}
use Rattle.world_model.specs.ExampleRuns.{P_2}
use Rattle.world_model.specs.Modules.{module_of, main, child, spawn_child, new_table, put_one, in_turn, the_atom}
use Rattle.world_model.specs.Shown.{is_error}
use Rattle.world_model.specs.ShownExamples.{plain, strict}
use Rattle.tree_coverage.specs.Covers.{Lines, IsGoodCover}
use Rattle.tree_coverage.specs.Trees.{p, c, idle, private_read}

abbrev pub IsCover : ModuleTree → ℕ → Lines → Type 0
IsCover m n lines = IsGoodCover (is_error plain) (program_of m) n lines

abbrev pub IsRefused : ModuleTree → ℕ → Lines → Type 0
IsRefused m n lines = IsCover m n lines → ⊥

-- a process spawns another, and both end
abbrev pub two_end : ModuleTree
two_end = module_of (main (in_turn spawn_child (the_atom (codes "x"))) ∷ child (the_atom (codes "x")) ∷ [])

abbrev pub one : Step → List Step
one s = s ∷ []

-- the tree of the search, and the same with the second node's steps in the other order
abbrev pub OwnOrderIsGood : Type 0
OwnOrderIsGood = IsCover two_end 3 (one p ∷ (p ∷ c ∷ []) ∷ one c ∷ [] ∷ [] ∷ [])

abbrev pub OtherOrderIsGood : Type 0
OtherOrderIsGood = IsCover two_end 3 (one p ∷ (c ∷ p ∷ []) ∷ one p ∷ [] ∷ [] ∷ [])

-- a step that sleeps may be taken all the same
abbrev pub SleepingStepIsGood : Type 0
SleepingStepIsGood = IsCover two_end 3 (one p ∷ (p ∷ c ∷ []) ∷ one c ∷ [] ∷ one p ∷ [] ∷ [])

-- a branch is missing: an enabled step is neither taken nor asleep
abbrev pub MissingBranchIsRefused : Type 0
MissingBranchIsRefused = IsRefused two_end 3 (one p ∷ one p ∷ one c ∷ [] ∷ [])

-- a step does not sleep for those that come before it
abbrev pub LaterStepIsWanted : Type 0
LaterStepIsWanted = IsRefused two_end 3 (one p ∷ (p ∷ c ∷ []) ∷ [] ∷ [] ∷ [])

-- two processes put one object into one table: a step that slept wakes up where a step is taken that depends on it
abbrev pub one_key : ModuleTree
one_key = module_of (main (in_turn (new_table (the_atom (codes "public") ∷ [])) (in_turn spawn_child put_one)) ∷ child put_one ∷ [])

-- the process that it spawned with its second request
abbrev pub d : Step
d = Turn P_2

abbrev pub BothOrdersAreGood : Type 0
BothOrdersAreGood = IsCover one_key 4 (one p ∷ one p ∷ (p ∷ d ∷ []) ∷ (p ∷ d ∷ []) ∷ [] ∷ [] ∷ (p ∷ d ∷ []) ∷ [] ∷ [] ∷ [])

abbrev pub WokenStepIsWanted : Type 0
WokenStepIsWanted = IsRefused one_key 4 (one p ∷ one p ∷ (p ∷ d ∷ []) ∷ (p ∷ d ∷ []) ∷ [] ∷ [] ∷ one d ∷ [] ∷ [])

-- a step occurs twice in a line, with the lines of both of its nodes
abbrev pub StepTwiceIsRefused : Type 0
StepTwiceIsRefused = IsRefused two_end 3 (one p ∷ (p ∷ p ∷ c ∷ []) ∷ one c ∷ [] ∷ one c ∷ [] ∷ [] ∷ [])

-- a line has a step that is not enabled
abbrev pub StrangeStepIsRefused : Type 0
StrangeStepIsRefused = IsRefused idle 1 ((p ∷ c ∷ []) ∷ [] ∷ [])

-- a line takes a step at the depth
abbrev pub StepAtTheDepthIsRefused : Type 0
StepAtTheDepthIsRefused = IsRefused idle 0 (one p ∷ [])

-- the lines of some nodes are missing
abbrev pub ShortCoverIsRefused : Type 0
ShortCoverIsRefused = IsRefused two_end 3 (one p ∷ [])

-- a line is left over
abbrev pub LongCoverIsRefused : Type 0
LongCoverIsRefused = IsRefused two_end 3 (one p ∷ (p ∷ c ∷ []) ∷ one c ∷ [] ∷ [] ∷ [] ∷ [])

-- a process reads a private table of another: its call is refused, which is an error where access is strict alone
abbrev pub private_lines : Lines
private_lines = one p ∷ one p ∷ (p ∷ d ∷ []) ∷ [] ∷ [] ∷ []

abbrev pub RefusalIsGood : Type 0
RefusalIsGood = IsCover private_read 3 private_lines

abbrev pub ErrorIsRefused : Type 0
ErrorIsRefused = IsGoodCover (is_error strict) (program_of private_read) 3 private_lines → ⊥
