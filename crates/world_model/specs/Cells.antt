-- The cells of the world, and what each contains.
use Rattle.std.specs.FinMap.{FinMap}
use Rattle.std.specs.Prelude.{◌≡◌, ℕ, Bool, true, false, ◌&&◌, List, Option}
use Rattle.term_core.specs.Meaning.{Meaning}
use Rattle.term_core.specs.Order.{order_of_lists}
use Rattle.core_semantics.specs.Asked.{Answered}
use Rattle.world_model.specs.Events.{Signal}
use Rattle.world_model.specs.Guards as guards
use Rattle.world_model.specs.Names.{Name, Pid, Ref, same_pid, same_ref, same_name}
use Rattle.world_model.specs.Requests.{Origin}
use Rattle.world_model.specs.Rows as rows
use Rattle.world_model.specs.Rows.{Key, Object, same_key}
use Rattle.world_model.specs.Tables as tables

pub data Cell : Type 0 where
  -- the course of a process, whether it lives, and whether it traps exits
  Machine : (p : Pid) → Cell
  Alive : (p : Pid) → Cell
  Trap : (p : Pid) → Cell
  -- its mailbox: what was taken from it, and what came
  Taken : (p : Pid) → Cell
  Mailed : (p : Pid) → Cell
  -- the channel from one process to another: how far it is delivered, and what was put
  Front : (s r : Pid) → Cell
  Tail : (s r : Pid) → Cell
  -- the processes that a process is linked to, those that watch it, and the process that a watch is for
  Links : (p : Pid) → Cell
  Watchers : (p : Pid) → Cell
  Watch : (ref : Ref) → Cell
  -- what lets messages in that are sent to a reference
  Guard : (ref : Ref) → Cell
  -- who holds a name, who holds any at once, and which name a process has
  Holder : (name : Name) → Cell
  Holders : Cell
  NameOf : (p : Pid) → Cell
  -- which table a name means, the table itself, the objects under one of its keys, and all its rows at once
  TableName : (name : Name) → Cell
  Table : (t : Ref) → Cell
  Row : (t : Ref) (key : Key) → Cell
  Rows : (t : Ref) → Cell
  -- the tables of a process
  Owned : (p : Pid) → Cell

-- whether two cells are the same, or one is a part of the other
abbrev pub meet : Cell → Cell → Bool
meet (Machine p) (Machine q) = same_pid p q
meet (Alive p) (Alive q) = same_pid p q
meet (Trap p) (Trap q) = same_pid p q
meet (Taken p) (Taken q) = same_pid p q
meet (Mailed p) (Mailed q) = same_pid p q
meet (Front s r) (Front t u) = same_pid s t && same_pid r u
meet (Tail s r) (Tail t u) = same_pid s t && same_pid r u
meet (Links p) (Links q) = same_pid p q
meet (Watchers p) (Watchers q) = same_pid p q
meet (Watch a) (Watch b) = same_ref a b
meet (Guard a) (Guard b) = same_ref a b
meet (Holder n) (Holder m) = same_name n m
meet (Holder n) Holders = true
meet Holders (Holder n) = true
meet Holders Holders = true
meet (NameOf p) (NameOf q) = same_pid p q
meet (TableName n) (TableName m) = same_name n m
meet (Table t) (Table u) = same_ref t u
meet (Row t k) (Row u l) = same_ref t u && same_key k l
meet (Row t k) (Rows u) = same_ref t u
meet (Rows t) (Row u l) = same_ref t u
meet (Rows t) (Rows u) = same_ref t u
meet (Owned p) (Owned q) = same_pid p q
meet a b = false

-- the course of a process: where it began, how many turns it took, its answers, and the reason of its end
pub record Course : Type 0 where
  pub origin : Origin
  pub turns : ℕ
  pub answers : List Answered
  pub ended : Option Meaning

abbrev pub Content : Cell → Type 0
Content (Machine p) = Course
Content (Alive p) = Bool
Content (Trap p) = Bool
-- all messages that were taken, and all that came, in order
Content (Taken p) = List Meaning
Content (Mailed p) = List Meaning
-- how many signals were delivered
Content (Front s r) = ℕ
-- all signals that were put, in order
Content (Tail s r) = List Signal
-- its partners, in the order of pids
Content (Links p) = List Pid
-- the watches of it, in the order of references; each names its watcher
Content (Watchers p) = List Ref
Content (Watch ref) = Option Pid
Content (Guard ref) = Option guards.Guard
Content (Holder name) = Option Pid
-- each name that has a holder, with that, in the order of names
Content Holders = FinMap order_of_lists Pid
Content (NameOf p) = Option Name
Content (TableName name) = Option Ref
Content (Table t) = Option tables.Table
Content (Row t key) = List Object
-- each key that has objects, with these, in the order of keys
Content (Rows t) = rows.Rows
-- by the references of their creations, in order
Content (Owned p) = List Ref

-- what all cells contain
abbrev pub Contents : Type 0
Contents = (c : Cell) → Content c

-- the processes of which this is true live, and no others
abbrev pub AreAlive : (Pid → Bool) → Contents → Type 0
AreAlive lives v = (p : Pid) → lives p ≡ v (Alive p)
