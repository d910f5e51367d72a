-- Names: of processes, of what they create, and those that programs give; and when two are the same.
use Rattle.std.specs.Ordering.{eq_by_cmp}
use Rattle.std.specs.Prelude.{◌≡◌, ◌∷◌, ◌⊎◌, ℕ, Bool, List, bytes_eq, ◌==◌, ◌&&◌, [], codes}
use Rattle.term_core.specs.Meaning.{Meaning}
use Rattle.term_core.specs.Order.{order_of_terms}
use Rattle.term_core.specs.StepOrder.{order_of_reference_ids}
use Rattle.std.specs.declared.cmp.Ordering.{Ordering}

-- a process: the first is [], and what request k of process p spawns is p with k at its end
abbrev pub Pid : Type 0
Pid = List ℕ

-- what a process created, a table, a watch or a bare reference: the process and the number of its request
pub record Ref : Type 0 where
  pub pid : Pid
  pub number : ℕ

-- a reference of the code, of its process and its number
abbrev pub ref_of : List ℕ × ℕ → Ref
ref_of id = record { pid = id.0; number = id.1 }

-- a name that a program gives: the text of an atom
abbrev pub Name : Type 0
Name = List ℕ

-- the node of the world, which is alone (Erlang manual, `node/0`)
abbrev pub own_node : Name
own_node = codes "nonode@nohost"

abbrev pub same_pid : Pid → Pid → Bool
same_pid p q = bytes_eq p q

abbrev pub same_name : Name → Name → Bool
same_name a b = bytes_eq a b

abbrev pub same_ref : Ref → Ref → Bool
same_ref a b = same_pid a.pid b.pid && a.number == b.number

-- by their processes, and then by their numbers
abbrev pub order_of_refs : Ref → Ref → Ordering
order_of_refs a b = order_of_reference_ids (a.pid, a.number) (b.pid, b.number)

-- two terms are the same where neither comes before the other (Erlang reference manual, "Term Comparisons")
abbrev pub same_term : Meaning → Meaning → Bool
same_term a b = eq_by_cmp order_of_terms a b

-- whether something is one of several
abbrev pub IsAmong : {A : Type 0} → A → List A → Type 0
IsAmong x [] = ⊥
IsAmong x (y ∷ ys) = (y ≡ x) ⊎ IsAmong x ys
