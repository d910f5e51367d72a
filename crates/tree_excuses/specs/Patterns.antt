-- Patterns: terms in which the atom '_' stands for any term (Erlang/OTP, STDLIB reference manual, module ets, `match/2`:
-- "'_' matches any Erlang term").
use Rattle.std.specs.Prelude.{Bool, true, false, ◌&&◌, ◌||◌, codes}
use Rattle.term_core.specs.Kinds.{is_the_atom}
use Rattle.term_core.specs.Meaning.{Meaning, Meanings, Atom, Tuple, Cons, NoMore, Also}
use Rattle.world_model.specs.Names.{same_term}

-- the atom '_'
abbrev pub any : Meaning
any = Atom (codes "_")

-- whether a term is it
abbrev pub is_any : Meaning → Bool
is_any = is_the_atom (codes "_")

abbrev mutual
  -- whether a pattern matches a term: a tuple matches part by part, a list cell by its head and its tail; '_' matches any term, and anything else the same term alone
  pub matches : Meaning → Meaning → Bool
  matches (Tuple ps) (Tuple ms) = all_match ps ms
  matches (Cons p q) (Cons a b) = matches p a && matches q b
  matches p m = is_any p || same_term p m

  -- whether as many patterns match these terms, each the one at its place
  pub all_match : Meanings → Meanings → Bool
  all_match NoMore NoMore = true
  all_match (Also p ps) (Also m ms) = matches p m && all_match ps ms
  all_match ps ms = false

abbrev mutual
  -- whether '_' stands anywhere in a term
  pub has_any : Meaning → Bool
  has_any (Tuple ps) = one_has_any ps
  has_any (Cons p q) = has_any p || has_any q
  has_any p = is_any p

  -- or in one of these
  pub one_has_any : Meanings → Bool
  one_has_any NoMore = false
  one_has_any (Also p ps) = has_any p || one_has_any ps
