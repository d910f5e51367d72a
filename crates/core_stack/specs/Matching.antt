-- Patterns (Core Erlang 1.0.3, "Pattern matching"): which variables a pattern binds to a value and its parts, from left to right, if the value matches it.
use Rattle.std.specs.Prelude.{ℕ, ℤ, pos, map, ◌&&◌, Bool, true, false, List, [], ◌∷◌, Option, Some, None, if◌then◌else◌}
use Rattle.std.specs.Ordering.{int_eq}
use Rattle.core_tree.specs.Syntax.{Mention, Pattern, Patterns}
use Rattle.core_tree.specs.Pattern as patterns
use Rattle.term_core.specs.Meaning.{Meaning, Int, Tuple, Nil, Cons, parts_of}
use Rattle.term_core.specs.Term.{list_onto}
use Rattle.term_core.specs.Kinds.{is_the_atom, same_text}

-- the values of variables in scope, innermost first
abbrev pub Environment : Type 0
Environment = List (List ℕ × Meaning)

-- the innermost value of a variable
abbrev pub lookup : List ℕ → Environment → Option Meaning
lookup name [] = None
lookup name (b ∷ env) = if same_text b.0 name then Some b.1 else lookup name env

-- as many variables as values are bound to them, in order, on top of what is bound before
abbrev pub bound : List Mention → List Meaning → Environment → Option Environment
bound [] [] before = Some before
bound [] (m ∷ ms) before = None
bound (v ∷ vs) [] before = None
bound (v ∷ vs) (m ∷ ms) before = bound vs ms ((v.name, m) ∷ before)

-- the list of the numbers of characters
abbrev pub text_of : List ℕ → Meaning
text_of cs = list_onto (map (λ c. Int (pos c)) cs) Nil

-- whether a term is this integer
abbrev pub is_number : ℤ → Meaning → Bool
is_number n (Int m) = int_eq m n
is_number n m = false

-- whether a term is nil
abbrev pub is_nil : Meaning → Bool
is_nil Nil = true
is_nil m = false

-- whether a term is the list of the numbers of these characters
abbrev pub is_text : List ℕ → Meaning → Bool
is_text [] m = is_nil m
is_text (c ∷ cs) (Cons a b) = is_number (pos c) a && is_text cs b
is_text (c ∷ cs) m = false

-- a literal binds no variable
abbrev pub literal : Bool → Environment → Option Environment
literal matches before = if matches then Some before else None

-- with what is bound so far, if the value matched, the matching goes on
abbrev pub and_then : Option Environment → (Environment → Option Environment) → Option Environment
and_then None go = None
and_then (Some before) go = go before

abbrev mutual
  -- a pattern and a value, on top of what is bound before
  pub match : Pattern → Meaning → Environment → Option Environment
  match (patterns.Integer n) m before = literal (is_number n m) before
  match (patterns.Character c) m before = literal (is_number (pos c) m) before
  match (patterns.Text cs) m before = literal (is_text cs m) before
  match (patterns.Atom t) m before = literal (is_the_atom t m) before
  match (patterns.Variable v) m before = Some ((v.name, m) ∷ before)
  match (patterns.Tuple ps) (Tuple ms) before = match_each ps (parts_of ms) before
  match (patterns.Tuple ps) m before = None
  match (patterns.List ps) m before = match_items ps (λ tail so_far. literal (is_nil tail) so_far) m before
  match (patterns.Onto ps p) m before = match_items ps (λ tail so_far. match p tail so_far) m before
  match (patterns.Alias v p) m before = match p m ((v.name, m) ∷ before)

  -- as many patterns as values
  pub match_each : Patterns → List Meaning → Environment → Option Environment
  match_each patterns.NoMore [] before = Some before
  match_each patterns.NoMore (m ∷ ms) before = None
  match_each (patterns.Also p ps) [] before = None
  match_each (patterns.Also p ps) (m ∷ ms) before = and_then (match p m before) (λ so_far. match_each ps ms so_far)

  -- the first items of a list, and what is to match after them
  pub match_items : Patterns → (Meaning → Environment → Option Environment) → Meaning → Environment → Option Environment
  match_items patterns.NoMore behind m before = behind m before
  match_items (patterns.Also p ps) behind (Cons a b) before = and_then (match p a before) (λ so_far. match_items ps behind b so_far)
  match_items (patterns.Also p ps) behind m before = None
