-- How high terms are.
use Rattle.std.specs.Prelude.{ℕ, ◌+◌, max}
use Rattle.term_core.specs.Meaning.{Meaning, Meanings, Int, Atom, Ref, Pid, Tuple, Nil, Cons, NoMore, Also}

abbrev mutual
  -- the height of a term: 0 where it has no parts, else one more than that of its highest part
  pub height : Meaning → ℕ
  height (Int n) = 0
  height (Atom text) = 0
  height (Ref pid number) = 0
  height (Pid pid) = 0
  height (Tuple parts) = height_over parts
  height Nil = 0
  height (Cons head tail) = 1 + max (height head) (height tail)

  -- the height over these parts
  pub height_over : Meanings → ℕ
  height_over NoMore = 0
  height_over (Also first others) = max (1 + height first) (height_over others)
