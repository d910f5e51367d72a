-- Whether a value matches a pattern, without what is bound (Core Erlang 1.0.3, "Pattern matching").
use Rattle.std.specs.Prelude.{pos, ◌&&◌, Bool, true, false, List, [], ◌∷◌}
use Rattle.core_tree.specs.Syntax.{Pattern, Patterns}
use Rattle.core_tree.specs.Pattern as patterns
use Rattle.term_core.specs.Meaning.{Meaning, Tuple, Cons, parts_of}
use Rattle.term_core.specs.Kinds.{is_the_atom}
use Rattle.core_stack.specs.Matching.{is_nil, is_number, is_text}

abbrev mutual
  -- a pattern and a value
  pub fits : Pattern → Meaning → Bool
  fits (patterns.Integer n) m = is_number n m
  fits (patterns.Character c) m = is_number (pos c) m
  fits (patterns.Text cs) m = is_text cs m
  fits (patterns.Atom t) m = is_the_atom t m
  fits (patterns.Variable v) m = true
  fits (patterns.Tuple ps) (Tuple ms) = each_fits ps (parts_of ms)
  fits (patterns.Tuple ps) m = false
  fits (patterns.List ps) m = items_fit ps is_nil m
  fits (patterns.Onto ps p) m = items_fit ps (λ tail. fits p tail) m
  fits (patterns.Alias v p) m = fits p m

  -- as many patterns as values
  pub each_fits : Patterns → List Meaning → Bool
  each_fits patterns.NoMore [] = true
  each_fits patterns.NoMore (m ∷ ms) = false
  each_fits (patterns.Also p ps) [] = false
  each_fits (patterns.Also p ps) (m ∷ ms) = fits p m && each_fits ps ms

  -- the first items of a list, and what is asked of its rest
  pub items_fit : Patterns → (Meaning → Bool) → Meaning → Bool
  items_fit patterns.NoMore behind m = behind m
  items_fit (patterns.Also p ps) behind (Cons a b) = fits p a && items_fit ps behind b
  items_fit (patterns.Also p ps) behind m = false
