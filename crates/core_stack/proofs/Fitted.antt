-- There is a match where a value fits, whatever is bound before.
use Rattle.std.proofs.Common.{◌≡◌, ◌∙◌, Bool, true, false, List, [], ◌∷◌, ◌&&◌, ap, sym, refl}
use Rattle.std.specs.Prelude.{Option, Some, None, is_some}
use Rattle.core_tree.specs.Syntax.{Pattern, Patterns, patterns_of}
use Rattle.core_tree.specs.Pattern as patterns
use Rattle.term_core.specs.Meaning.{Meaning, Int, Atom, Ref, Pid, Tuple, Nil, Cons, meanings_of, parts_of, parts_of-meanings_of}
use Rattle.core_stack.specs.inside.Fitting.{fits, each_fits, items_fit}
use Rattle.core_stack.specs.Matching.{Environment, and_then, is_nil, literal, match, match_each, match_items}

-- a literal binds nothing
literal_matches : (test : Bool) (before : Environment) → is_some (literal test before) ≡ test
literal_matches true before = refl
literal_matches false before = refl

-- what comes after a match decides
then_matches : (o : Option Environment) (go : Environment → Option Environment) (one both : Bool) → is_some o ≡ one → ((before : Environment) → is_some (go before) ≡ both) → is_some (and_then o go) ≡ (one && both)
then_matches None go one both is h = ap (λ (b : Bool). b && both) is
then_matches (Some before) go one both is h = h before ∙ ap (λ (b : Bool). b && both) is

mutual
  pub matches_where_fits : (p : Pattern) (m : Meaning) (before : Environment) → is_some (match p m before) ≡ fits p m
  matches_where_fits (patterns.Integer n) m before = literal_matches _ before
  matches_where_fits (patterns.Character c) m before = literal_matches _ before
  matches_where_fits (patterns.Text cs) m before = literal_matches _ before
  matches_where_fits (patterns.Atom t) m before = literal_matches _ before
  matches_where_fits (patterns.Variable v) m before = refl
  matches_where_fits (patterns.Tuple ps) (Tuple ms) before = each_matches_where_fits ps (parts_of ms) before
  matches_where_fits (patterns.Tuple ps) (Int n) before = refl
  matches_where_fits (patterns.Tuple ps) (Atom t) before = refl
  matches_where_fits (patterns.Tuple ps) (Ref c n) before = refl
  matches_where_fits (patterns.Tuple ps) (Pid q) before = refl
  matches_where_fits (patterns.Tuple ps) Nil before = refl
  matches_where_fits (patterns.Tuple ps) (Cons a b) before = refl
  matches_where_fits (patterns.List ps) m before = items_match_where_fit ps _ is_nil m before (λ tail so_far. literal_matches _ so_far)
  matches_where_fits (patterns.Onto ps p) m before = items_match_where_fit ps _ (λ tail. fits p tail) m before (λ tail so_far. matches_where_fits p tail so_far)
  matches_where_fits (patterns.Alias v p) m before = matches_where_fits p m _

  each_matches_where_fits : (ps : Patterns) (ms : List Meaning) (before : Environment) → is_some (match_each ps ms before) ≡ each_fits ps ms
  each_matches_where_fits patterns.NoMore [] before = refl
  each_matches_where_fits patterns.NoMore (m ∷ ms) before = refl
  each_matches_where_fits (patterns.Also p ps) [] before = refl
  each_matches_where_fits (patterns.Also p ps) (m ∷ ms) before = then_matches (match p m before) _ _ _ (matches_where_fits p m before) (λ so_far. each_matches_where_fits ps ms so_far)

  items_match_where_fit : (ps : Patterns) (behind : Meaning → Environment → Option Environment) (fit : Meaning → Bool) (m : Meaning) (before : Environment) → ((tail : Meaning) (so_far : Environment) → is_some (behind tail so_far) ≡ fit tail) → is_some (match_items ps behind m before) ≡ items_fit ps fit m
  items_match_where_fit patterns.NoMore behind fit m before h = h m before
  items_match_where_fit (patterns.Also p ps) behind fit (Cons a b) before h = then_matches (match p a before) _ _ _ (matches_where_fits p a before) (λ so_far. items_match_where_fit ps behind fit b so_far h)
  items_match_where_fit (patterns.Also p ps) behind fit (Int n) before h = refl
  items_match_where_fit (patterns.Also p ps) behind fit (Atom t) before h = refl
  items_match_where_fit (patterns.Also p ps) behind fit (Ref c n) before h = refl
  items_match_where_fit (patterns.Also p ps) behind fit (Pid q) before h = refl
  items_match_where_fit (patterns.Also p ps) behind fit (Tuple ms) before h = refl
  items_match_where_fit (patterns.Also p ps) behind fit Nil before h = refl

-- a tuple fits where its parts do
pub tuple_fits : (fit : Bool) (p : Pattern) (ps : List Pattern) (m : Meaning) (ms ns : List Meaning) → p ≡ patterns.Tuple (patterns_of ps) → m ≡ Tuple (meanings_of ms) → ns ≡ ms → fit ≡ each_fits (patterns_of ps) ns → fit ≡ fits p m
tuple_fits fit p ps m ms ns e f same h =
    h ∙ ap (λ (xs : List Meaning). each_fits (patterns_of ps) xs) (same ∙ sym (parts_of-meanings_of ms))
    ∙ sym (ap (λ (n : Meaning). fits (patterns.Tuple (patterns_of ps)) n) f) ∙ sym (ap (λ (q : Pattern). fits q m) e)
