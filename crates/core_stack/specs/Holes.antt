-- A stack of what is still to do, as contracts see it: each item is an expression with one part left out.
use Rattle.std.specs.Prelude.{Bool, true, false, if◌then◌else◌, List, [], ◌∷◌, ◌++◌, Option, Some, None, option_map}
use Rattle.core_tree.specs.Syntax.{Mention, Tree, ClauseTree}
use Rattle.term_core.specs.Meaning.{Meaning}
use Rattle.core_stack.specs.Matching.{Environment}
pub use Rattle.core_stack.specs.Purposes.{Purpose}

-- what is left out: one of several parts, the tail of a list, the value of a `let`, the first part of a `do`, the values of a `case`, the guard of a clause with what it binds, the timeout of a receive with its clauses and its action, what a `try` or a `catch` protects; the values of variables are kept for what is above them, and those of an applied function's parameters hide all others
pub data Hole : Type 0 where
  Parts : (purpose : Purpose) (done : List Meaning) (later : List Tree) → Hole
  Tail : (items : List Meaning) → Hole
  Body : (variables : List Mention) (body : Tree) → Hole
  Second : (second : Tree) → Hole
  Clauses : (clauses : List ClauseTree) → Hole
  Guard : (bindings : Environment) (body : Tree) (others : List ClauseTree) (values : List Meaning) → Hole
  Receive : (clauses : List ClauseTree) (action : Tree) → Hole
  Try : (variables : List Mention) (body : Tree) (caught : List Mention) (handler : Tree) → Hole
  Catch : Hole
  Kept : (bindings : Environment) → Hole
  Applied : (bindings : Environment) → Hole

-- the variables that a hole keeps for what is above it
abbrev pub kept_in : Hole → Environment
kept_in (Parts purpose done later) = []
kept_in (Tail items) = []
kept_in (Body variables body) = []
kept_in (Second second) = []
kept_in (Clauses clauses) = []
kept_in (Guard bindings body others values) = bindings
kept_in (Receive clauses action) = []
kept_in (Try variables body caught handler) = []
kept_in Catch = []
kept_in (Kept bindings) = bindings
kept_in (Applied bindings) = bindings

-- whether a hole hides the variables below it
abbrev pub hides : Hole → Bool
hides (Applied bindings) = true
hides hole = false

-- whether a hole only keeps variables
abbrev pub only_keeps : Hole → Bool
only_keeps (Kept bindings) = true
only_keeps (Applied bindings) = true
only_keeps hole = false

-- the variables in scope on top of a stack
abbrev pub scope : List Hole → Environment
scope [] = []
scope (hole ∷ holes) = kept_in hole ++ (if hides hole then [] else scope holes)

-- a receive that waits on top of a stack, with what is below it
pub record Wait : Type 0 where
  pub clauses : List ClauseTree
  pub action : Tree
  pub below : List Hole

-- the receive on top of a stack, if there is one
abbrev pub receive_on : List Hole → Option Wait
receive_on (Receive clauses action ∷ holes) = Some (record { clauses = clauses; action = action; below = holes })
receive_on holes = None

-- the clauses and the action of the receive on top of a stack, if there is one
abbrev pub waits_on : List Hole → Option (List ClauseTree × Tree)
waits_on holes = option_map (λ w. (w.clauses, w.action)) (receive_on holes)

-- whether the top of a stack only keeps variables
abbrev pub keeps_on_top : List Hole → Bool
keeps_on_top [] = false
keeps_on_top (hole ∷ holes) = only_keeps hole
