-- Expressions as contracts see them (Core Erlang 1.0.3, "Expressions"): the forms and their parts, without where they lie in memory.
use Rattle.std.specs.Prelude.{ℕ, ℤ, [], ◌∷◌}
use Rattle.std.specs.Prelude as prelude
use Rattle.core_tree.specs.Named.{Mention}
use Rattle.core_tree.specs.Callee.{Callee}
use Rattle.core_tree.specs.Pattern.{Pattern}

-- an expression; a place is that of its first word
mutual
  pub data Tree : Type 0 where
    Integer : (value : ℤ) → Tree
    Character : (character : ℕ) → Tree
    Text : (characters : prelude.List ℕ) → Tree
    Atom : (text : prelude.List ℕ) → Tree
    Variable : (variable : Mention) → Tree
    Tuple : (parts : Trees) → Tree
    List : (items : Trees) → Tree
    Onto : (items : Trees) (tail : Tree) → Tree
    Values : (values : Trees) → Tree
    Let : (variables : prelude.List Mention) (value body : Tree) → Tree
    Case : (at : ℕ) (value : Tree) (clauses : Clauses) → Tree
    Do : (first second : Tree) → Tree
    Call : (at : ℕ) (callee : Callee) (arguments : Trees) → Tree
    Try : (at : ℕ) (value : Tree) (variables : prelude.List Mention) (body : Tree) (caught : prelude.List Mention) (handler : Tree) → Tree
    Catch : (at : ℕ) (value : Tree) → Tree
    Receive : (at : ℕ) (clauses : Clauses) (timeout action : Tree) → Tree

  pub data Trees : Type 0 where
    NoMore : Trees
    Also : (first : Tree) (others : Trees) → Trees

  pub data Clauses : Type 0 where
    NoClause : Clauses
    Clause : (patterns : prelude.List Pattern) (guard body : Tree) (others : Clauses) → Clauses

-- expressions, from a list
abbrev pub trees_of : prelude.List Tree → Trees
trees_of [] = NoMore
trees_of (t ∷ ts) = Also t (trees_of ts)

-- a clause of a `case` or of a `receive`
pub record ClauseTree : Type 0 where
  pub patterns : prelude.List Pattern
  pub guard : Tree
  pub body : Tree

-- clauses, from a list
abbrev pub clauses_of : prelude.List ClauseTree → Clauses
clauses_of [] = NoClause
clauses_of (c ∷ cs) = Clause c.patterns c.guard c.body (clauses_of cs)
