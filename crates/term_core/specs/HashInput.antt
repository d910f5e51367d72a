-- What hashing a term feeds a hasher: the kind, and then the parts. A text ends with a byte that no UTF-8 has, and the numbers of a pid and the parts of a tuple follow their count.
use Rattle.std.specs.Prelude.{ℕ, List, [], ◌++◌, length}
use Rattle.std.specs.Hash as fed
use Rattle.std.specs.Hash.{HashWrites}
use Rattle.term_core.specs.Meaning.{Meaning, Meanings, Int, Atom, Ref, Pid, Tuple, Nil, Cons, NoMore, Also, parts_of}
use Rattle.term_core.specs.declared.step.Step.{Step}
use Rattle.term_core.specs.declared.step.Step.TheVariants.{Turn, Deliver}

-- a pid: how many numbers, and the numbers
abbrev pub writes_of_pid : List ℕ → HashWrites
writes_of_pid = fed.slice fed.u64

-- a reference: its pid, and its number
abbrev pub writes_of_reference : List ℕ → ℕ → HashWrites
writes_of_reference p n = writes_of_pid p ++ fed.u64 n

abbrev mutual
  -- a term: the rank of its kind, and its parts
  pub writes_of_term : Meaning → HashWrites
  writes_of_term (Int n) = fed.u8 0 ++ fed.i64 n
  writes_of_term (Atom t) = fed.u8 1 ++ fed.str t
  writes_of_term (Ref p n) = fed.u8 2 ++ writes_of_reference p n
  writes_of_term (Pid p) = fed.u8 3 ++ writes_of_pid p
  writes_of_term (Tuple ms) = fed.u8 4 ++ (fed.usize (length (parts_of ms)) ++ writes_of_parts ms)
  writes_of_term Nil = fed.u8 5
  writes_of_term (Cons a b) = fed.u8 6 ++ (writes_of_term a ++ writes_of_term b)

  -- the parts of a tuple, one after another
  pub writes_of_parts : Meanings → HashWrites
  writes_of_parts NoMore = []
  writes_of_parts (Also m ms) = writes_of_term m ++ writes_of_parts ms

-- a list of terms: how many, and each
abbrev pub writes_of_items : List Meaning → HashWrites
writes_of_items = fed.slice writes_of_term

-- a list cell: its head, and its tail
abbrev pub writes_of_pair : Meaning × Meaning → HashWrites
writes_of_pair p = writes_of_term p.0 ++ writes_of_term p.1

-- a reference as a value
abbrev pub writes_of_reference_id : List ℕ × ℕ → HashWrites
writes_of_reference_id r = writes_of_reference r.0 r.1

-- a step: whether it is a turn or a delivery, and its pids
abbrev pub writes_of_step : Step → HashWrites
writes_of_step (Turn p) = fed.u8 0 ++ writes_of_pid p
writes_of_step (Deliver from to) = fed.u8 1 ++ (writes_of_pid from ++ writes_of_pid to)
