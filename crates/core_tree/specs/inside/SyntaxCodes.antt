-- The codes of trees, by which proofs distinguish values.
use Rattle.std.specs.Prelude.{◌≡◌, ℕ, zero, suc, ℤ, pos, negsuc, List, [], ◌∷◌, get_or, refl}
use Rattle.std.specs.Coded.{Coded, code_by, coded×, coded_list, coded_ℕ}
use base.Stored.{Gv, gnil, gnum, gcons}
use denote.Struct.Codes.{itself}
use Rattle.core_calls.specs.CallCodes.{number_of_call, call_of_number, call_of_number-number_of_call}
use Rattle.core_calls.specs.CallCodes.{number_of_pure, pure_of_number, pure_of_number-number_of_pure}
use Rattle.core_tree.specs.Syntax.{Mention, Function, NamedAt, Callee, Pattern, Patterns, Tree, Trees, Clauses, ClauseTree, Constant, Constants, AttributeTree, DefinitionTree, ModuleTree}
use Rattle.core_tree.specs.Callee as callees
use Rattle.core_tree.specs.Pattern as patterns
use Rattle.core_tree.specs.Expression as trees
use Rattle.core_tree.specs.Constant as constants

abbrev number_in : Gv → ℕ
number_in gnil = 0
number_in (gnum n) = n
number_in (gcons a b) = 0

abbrev head_in : Gv → Gv
head_in gnil = gnil
head_in (gnum n) = gnil
head_in (gcons a b) = a

abbrev tail_in : Gv → Gv
tail_in gnil = gnil
tail_in (gnum n) = gnil
tail_in (gcons a b) = b

abbrev numbers : List ℕ → Gv
numbers [] = gnil
numbers (n ∷ ns) = gcons (gnum n) (numbers ns)

abbrev numbers_in : Gv → List ℕ
numbers_in gnil = []
numbers_in (gnum n) = []
numbers_in (gcons a b) = number_in a ∷ numbers_in b

pub numbers_in-numbers : (ns : List ℕ) → numbers_in (numbers ns) ≡ ns
numbers_in-numbers [] = refl
numbers_in-numbers (n ∷ ns) = λ i. n ∷ numbers_in-numbers ns i

abbrev mention : Mention → Gv
mention v = gcons (gnum v.at) (numbers v.name)

abbrev mention_in : Gv → Mention
mention_in g = record { at = number_in (head_in g); name = numbers_in (tail_in g) }

mention_in-mention : (v : Mention) → mention_in (mention v) ≡ v
mention_in-mention v = λ i. record { at = v.at; name = numbers_in-numbers v.name i }

abbrev mentions : List Mention → Gv
mentions [] = gnil
mentions (v ∷ vs) = gcons (mention v) (mentions vs)

abbrev mentions_in : Gv → List Mention
mentions_in gnil = []
mentions_in (gnum n) = []
mentions_in (gcons a b) = mention_in a ∷ mentions_in b

mentions_in-mentions : (vs : List Mention) → mentions_in (mentions vs) ≡ vs
mentions_in-mentions [] = refl
mentions_in-mentions (v ∷ vs) = λ i. mention_in-mention v i ∷ mentions_in-mentions vs i

abbrev integer : ℤ → Gv
integer (pos n) = gcons (gnum 0) (gnum n)
integer (negsuc n) = gcons (gnum 1) (gnum n)

abbrev integer_by : ℕ → ℕ → ℤ
integer_by zero n = pos n
integer_by (suc k) n = negsuc n

abbrev integer_in : Gv → ℤ
integer_in g = integer_by (number_in (head_in g)) (number_in (tail_in g))

integer_in-integer : (n : ℤ) → integer_in (integer n) ≡ n
integer_in-integer (pos n) = refl
integer_in-integer (negsuc n) = refl

-- ---- what a call applies

abbrev function : Function → Gv
function f = gcons (gnum f.arity) (numbers f.name)

abbrev function_in : Gv → Function
function_in g = record { name = numbers_in (tail_in g); arity = number_in (head_in g) }

function_in-function : (f : Function) → function_in (function f) ≡ f
function_in-function f = λ i. record { name = numbers_in-numbers f.name i; arity = f.arity }

abbrev callee : Callee → Gv
callee (callees.World k) = gcons (gnum 0) (gnum (number_of_call k))
callee (callees.Pure k) = gcons (gnum 1) (gnum (number_of_pure k))
callee (callees.Exported f) = gcons (gnum 2) (function f)
callee (callees.Defined n) = gcons (gnum 3) (gcons (gnum n.at) (function n.function))
callee callees.MatchFail = gcons (gnum 4) gnil
callee callees.Raise = gcons (gnum 5) gnil

-- the targets that a code may be of, by tag
abbrev targets_in : Gv → List Callee
targets_in g =
    callees.World (call_of_number (number_in g)) ∷ callees.Pure (pure_of_number (number_in g)) ∷ callees.Exported (function_in g) ∷ callees.Defined (record { at = number_in (head_in g); function = function_in (tail_in g) }) ∷ callees.MatchFail ∷ []

abbrev callee_in : Gv → Callee
callee_in g = get_or (targets_in (tail_in g)) (number_in (head_in g)) callees.Raise

pub callee_in-callee : (c : Callee) → callee_in (callee c) ≡ c
callee_in-callee (callees.World k) = λ i. callees.World (call_of_number-number_of_call k i)
callee_in-callee (callees.Pure k) = λ i. callees.Pure (pure_of_number-number_of_pure k i)
callee_in-callee (callees.Exported f) = λ i. callees.Exported (function_in-function f i)
callee_in-callee (callees.Defined n) = λ i. callees.Defined (record { at = n.at; function = function_in-function n.function i })
callee_in-callee callees.MatchFail = refl
callee_in-callee callees.Raise = refl

abbrev pub coded_callee : Coded Callee
coded_callee = code_by Gv itself callee callee_in callee_in-callee

-- ---- patterns

abbrev mutual
  pub code_of_pattern : Pattern → Gv
  code_of_pattern (patterns.Integer n) = gcons (gnum 0) (integer n)
  code_of_pattern (patterns.Character c) = gcons (gnum 1) (gnum c)
  code_of_pattern (patterns.Text cs) = gcons (gnum 2) (numbers cs)
  code_of_pattern (patterns.Atom t) = gcons (gnum 3) (numbers t)
  code_of_pattern (patterns.Variable v) = gcons (gnum 4) (mention v)
  code_of_pattern (patterns.Tuple ps) = gcons (gnum 5) (code_of_patterns ps)
  code_of_pattern (patterns.List ps) = gcons (gnum 6) (code_of_patterns ps)
  code_of_pattern (patterns.Onto ps p) = gcons (gnum 7) (gcons (code_of_pattern p) (code_of_patterns ps))
  code_of_pattern (patterns.Alias v p) = gcons (gnum 8) (gcons (code_of_pattern p) (mention v))

  pub code_of_patterns : Patterns → Gv
  code_of_patterns patterns.NoMore = gnil
  code_of_patterns (patterns.Also p ps) = gcons (code_of_pattern p) (code_of_patterns ps)

abbrev first_pattern : Patterns → Pattern
first_pattern patterns.NoMore = patterns.List patterns.NoMore
first_pattern (patterns.Also p ps) = p

abbrev other_patterns : Patterns → Patterns
other_patterns patterns.NoMore = patterns.NoMore
other_patterns (patterns.Also p ps) = ps

-- the patterns that a code may be of, by tag
abbrev patterns_by_tag : Gv → Patterns → List Pattern
patterns_by_tag g ms =
    patterns.Integer (integer_in g) ∷ patterns.Character (number_in g) ∷ patterns.Text (numbers_in g) ∷ patterns.Atom (numbers_in g) ∷ patterns.Variable (mention_in g) ∷ patterns.Tuple ms ∷ patterns.List ms ∷ patterns.Onto (other_patterns ms) (first_pattern ms) ∷ patterns.Alias (mention_in (tail_in g)) (first_pattern ms) ∷ []

pub record FoundPattern : Type 0 where
  pub one : Pattern
  pub many : Patterns

abbrev pattern_in : Gv → FoundPattern
pattern_in gnil = record { one = patterns.List patterns.NoMore; many = patterns.NoMore }
pattern_in (gnum n) = record { one = patterns.List patterns.NoMore; many = patterns.NoMore }
pattern_in (gcons a b) = record { one = get_or (patterns_by_tag b (pattern_in b).many) (number_in a) (patterns.List patterns.NoMore); many = patterns.Also (pattern_in a).one (pattern_in b).many }

mutual
  pub pattern_in-code : (p : Pattern) → (pattern_in (code_of_pattern p)).one ≡ p
  pattern_in-code (patterns.Integer n) = λ i. patterns.Integer (integer_in-integer n i)
  pattern_in-code (patterns.Character c) = refl
  pattern_in-code (patterns.Text cs) = λ i. patterns.Text (numbers_in-numbers cs i)
  pattern_in-code (patterns.Atom t) = λ i. patterns.Atom (numbers_in-numbers t i)
  pattern_in-code (patterns.Variable v) = λ i. patterns.Variable (mention_in-mention v i)
  pattern_in-code (patterns.Tuple ps) = λ i. patterns.Tuple (pattern_in-codes ps i)
  pattern_in-code (patterns.List ps) = λ i. patterns.List (pattern_in-codes ps i)
  pattern_in-code (patterns.Onto ps p) = λ i. patterns.Onto (pattern_in-codes ps i) (pattern_in-code p i)
  pattern_in-code (patterns.Alias v p) = λ i. patterns.Alias (mention_in-mention v i) (pattern_in-code p i)

  pub pattern_in-codes : (ps : Patterns) → (pattern_in (code_of_patterns ps)).many ≡ ps
  pattern_in-codes patterns.NoMore = refl
  pattern_in-codes (patterns.Also p ps) = λ i. patterns.Also (pattern_in-code p i) (pattern_in-codes ps i)

abbrev pub coded_pattern : Coded Pattern
coded_pattern = code_by Gv itself code_of_pattern (λ g. (pattern_in g).one) pattern_in-code

abbrev pattern_list : List Pattern → Gv
pattern_list [] = gnil
pattern_list (p ∷ ps) = gcons (code_of_pattern p) (pattern_list ps)

abbrev pattern_list_in : Gv → List Pattern
pattern_list_in gnil = []
pattern_list_in (gnum n) = []
pattern_list_in (gcons a b) = (pattern_in a).one ∷ pattern_list_in b

pattern_list_in-pattern_list : (ps : List Pattern) → pattern_list_in (pattern_list ps) ≡ ps
pattern_list_in-pattern_list [] = refl
pattern_list_in-pattern_list (p ∷ ps) = λ i. pattern_in-code p i ∷ pattern_list_in-pattern_list ps i

-- ---- expressions

abbrev mutual
  pub code_of : Tree → Gv
  code_of (trees.Integer n) = gcons (gnum 0) (integer n)
  code_of (trees.Character c) = gcons (gnum 1) (gnum c)
  code_of (trees.Text cs) = gcons (gnum 2) (numbers cs)
  code_of (trees.Atom t) = gcons (gnum 3) (numbers t)
  code_of (trees.Variable v) = gcons (gnum 4) (mention v)
  code_of (trees.Tuple ts) = gcons (gnum 5) (codes_of ts)
  code_of (trees.List ts) = gcons (gnum 6) (codes_of ts)
  code_of (trees.Onto ts t) = gcons (gnum 7) (gcons (code_of t) (codes_of ts))
  code_of (trees.Values ts) = gcons (gnum 8) (codes_of ts)
  code_of (trees.Let vs t u) = gcons (gnum 9) (gcons (code_of t) (gcons (code_of u) (mentions vs)))
  code_of (trees.Case at t cs) = gcons (gnum 10) (gcons (gnum at) (gcons (code_of t) (codes_of_clauses cs)))
  code_of (trees.Do t u) = gcons (gnum 11) (gcons (code_of t) (gcons (code_of u) gnil))
  code_of (trees.Call at c ts) = gcons (gnum 12) (gcons (gcons (gnum at) (callee c)) (codes_of ts))
  code_of (trees.Try at t vs u ws h) = gcons (gnum 13) (gcons (code_of t) (gcons (code_of u) (gcons (code_of h) (gcons (gnum at) (gcons (mentions vs) (mentions ws))))))
  code_of (trees.Catch at t) = gcons (gnum 14) (gcons (code_of t) (gnum at))
  code_of (trees.Receive at cs t u) = gcons (gnum 15) (gcons (gnum at) (gcons (code_of t) (gcons (code_of u) (codes_of_clauses cs))))

  pub codes_of : Trees → Gv
  codes_of trees.NoMore = gnil
  codes_of (trees.Also t ts) = gcons (code_of t) (codes_of ts)

  pub codes_of_clauses : Clauses → Gv
  codes_of_clauses trees.NoClause = gnil
  codes_of_clauses (trees.Clause ps g b cs) = gcons (gcons (code_of g) (gcons (code_of b) (pattern_list ps))) (codes_of_clauses cs)

abbrev first_of : Trees → Tree
first_of trees.NoMore = trees.List trees.NoMore
first_of (trees.Also t ts) = t

abbrev others_of : Trees → Trees
others_of trees.NoMore = trees.NoMore
others_of (trees.Also t ts) = ts

abbrev other_clauses : Clauses → Clauses
other_clauses trees.NoClause = trees.NoClause
other_clauses (trees.Clause ps g b cs) = cs

-- what follows the three expressions of a `try`
abbrev tail_of_try : Gv → Gv
tail_of_try g = tail_in (tail_in (tail_in g))

-- the expressions that a code may be of, by tag
abbrev trees_by_tag : Gv → Trees → Clauses → List Tree
trees_by_tag g ms cs =
    trees.Integer (integer_in g)
    ∷ trees.Character (number_in g)
    ∷ trees.Text (numbers_in g)
    ∷ trees.Atom (numbers_in g)
    ∷ trees.Variable (mention_in g)
    ∷ trees.Tuple ms
    ∷ trees.List ms
    ∷ trees.Onto (others_of ms) (first_of ms)
    ∷ trees.Values ms
    ∷ trees.Let (mentions_in (tail_in (tail_in g))) (first_of ms) (first_of (others_of ms))
    ∷ trees.Case (number_in (head_in g)) (first_of (others_of ms)) (other_clauses (other_clauses cs))
    ∷ trees.Do (first_of ms) (first_of (others_of ms))
    ∷ trees.Call (number_in (head_in (head_in g))) (callee_in (tail_in (head_in g))) (others_of ms)
    ∷ trees.Try (number_in (head_in (tail_of_try g))) (first_of ms) (mentions_in (head_in (tail_in (tail_of_try g)))) (first_of (others_of ms)) (mentions_in (tail_in (tail_in (tail_of_try g)))) (first_of (others_of (others_of ms)))
    ∷ trees.Catch (number_in (tail_in g)) (first_of ms)
    ∷ trees.Receive (number_in (head_in g)) (other_clauses (other_clauses (other_clauses cs))) (first_of (others_of ms)) (first_of (others_of (others_of ms)))
    ∷ []

pub record Found : Type 0 where
  pub one : Tree
  pub many : Trees
  pub clauses : Clauses

abbrev found_in : Gv → Found
found_in gnil = record { one = trees.List trees.NoMore; many = trees.NoMore; clauses = trees.NoClause }
found_in (gnum n) = record { one = trees.List trees.NoMore; many = trees.NoMore; clauses = trees.NoClause }
found_in (gcons a b) = record { one = get_or (trees_by_tag b (found_in b).many (found_in b).clauses) (number_in a) (trees.List trees.NoMore); many = trees.Also (found_in a).one (found_in b).many; clauses = trees.Clause (pattern_list_in (tail_in (tail_in a))) (first_of (found_in a).many) (first_of (others_of (found_in a).many)) (found_in b).clauses }

mutual
  pub found_in-code_of : (t : Tree) → (found_in (code_of t)).one ≡ t
  found_in-code_of (trees.Integer n) = λ i. trees.Integer (integer_in-integer n i)
  found_in-code_of (trees.Character c) = refl
  found_in-code_of (trees.Text cs) = λ i. trees.Text (numbers_in-numbers cs i)
  found_in-code_of (trees.Atom t) = λ i. trees.Atom (numbers_in-numbers t i)
  found_in-code_of (trees.Variable v) = λ i. trees.Variable (mention_in-mention v i)
  found_in-code_of (trees.Tuple ts) = λ i. trees.Tuple (found_in-codes_of ts i)
  found_in-code_of (trees.List ts) = λ i. trees.List (found_in-codes_of ts i)
  found_in-code_of (trees.Onto ts t) = λ i. trees.Onto (found_in-codes_of ts i) (found_in-code_of t i)
  found_in-code_of (trees.Values ts) = λ i. trees.Values (found_in-codes_of ts i)
  found_in-code_of (trees.Let vs t u) = λ i. trees.Let (mentions_in-mentions vs i) (found_in-code_of t i) (found_in-code_of u i)
  found_in-code_of (trees.Case at t cs) = λ i. trees.Case at (found_in-code_of t i) (found_in-codes_of_clauses cs i)
  found_in-code_of (trees.Do t u) = λ i. trees.Do (found_in-code_of t i) (found_in-code_of u i)
  found_in-code_of (trees.Call at c ts) = λ i. trees.Call at (callee_in-callee c i) (found_in-codes_of ts i)
  found_in-code_of (trees.Try at t vs u ws h) = λ i. trees.Try at (found_in-code_of t i) (mentions_in-mentions vs i) (found_in-code_of u i) (mentions_in-mentions ws i) (found_in-code_of h i)
  found_in-code_of (trees.Catch at t) = λ i. trees.Catch at (found_in-code_of t i)
  found_in-code_of (trees.Receive at cs t u) = λ i. trees.Receive at (found_in-codes_of_clauses cs i) (found_in-code_of t i) (found_in-code_of u i)

  pub found_in-codes_of : (ts : Trees) → (found_in (codes_of ts)).many ≡ ts
  found_in-codes_of trees.NoMore = refl
  found_in-codes_of (trees.Also t ts) = λ i. trees.Also (found_in-code_of t i) (found_in-codes_of ts i)

  pub found_in-codes_of_clauses : (cs : Clauses) → (found_in (codes_of_clauses cs)).clauses ≡ cs
  found_in-codes_of_clauses trees.NoClause = refl
  found_in-codes_of_clauses (trees.Clause ps g b cs) = λ i. trees.Clause (pattern_list_in-pattern_list ps i) (found_in-code_of g i) (found_in-code_of b i) (found_in-codes_of_clauses cs i)

abbrev pub coded_tree : Coded Tree
coded_tree = code_by Gv itself code_of (λ g. (found_in g).one) found_in-code_of

abbrev pub coded_clause : Coded ClauseTree
coded_clause = code_by (List Pattern × (Tree × Tree)) (coded× (coded_list coded_pattern) (coded× coded_tree coded_tree)) (λ c. (c.patterns, (c.guard, c.body))) (λ p. record { patterns = p.0; guard = p.1.0; body = p.1.1 }) (λ _. refl)

abbrev pub coded_mention : Coded Mention
coded_mention = code_by (ℕ × List ℕ) (coded× coded_ℕ (coded_list coded_ℕ)) (λ v. (v.at, v.name)) (λ p. record { at = p.0; name = p.1 }) (λ _. refl)

-- ---- constants

abbrev mutual
  pub code_of_constant : Constant → Gv
  code_of_constant (constants.Integer n) = gcons (gnum 0) (integer n)
  code_of_constant (constants.Character c) = gcons (gnum 1) (gnum c)
  code_of_constant (constants.Text cs) = gcons (gnum 2) (numbers cs)
  code_of_constant (constants.Atom t) = gcons (gnum 3) (numbers t)
  code_of_constant (constants.Tuple cs) = gcons (gnum 4) (code_of_constants cs)
  code_of_constant (constants.List cs) = gcons (gnum 5) (code_of_constants cs)
  code_of_constant (constants.Onto cs c) = gcons (gnum 6) (gcons (code_of_constant c) (code_of_constants cs))

  pub code_of_constants : Constants → Gv
  code_of_constants constants.NoMore = gnil
  code_of_constants (constants.Also c cs) = gcons (code_of_constant c) (code_of_constants cs)

abbrev first_constant : Constants → Constant
first_constant constants.NoMore = constants.List constants.NoMore
first_constant (constants.Also c cs) = c

abbrev other_constants : Constants → Constants
other_constants constants.NoMore = constants.NoMore
other_constants (constants.Also c cs) = cs

abbrev constant_by_tag : ℕ → Gv → Constants → Constant
constant_by_tag zero g ms = constants.Integer (integer_in g)
constant_by_tag (suc zero) g ms = constants.Character (number_in g)
constant_by_tag (suc (suc zero)) g ms = constants.Text (numbers_in g)
constant_by_tag (suc (suc (suc zero))) g ms = constants.Atom (numbers_in g)
constant_by_tag (suc (suc (suc (suc zero)))) g ms = constants.Tuple ms
constant_by_tag (suc (suc (suc (suc (suc zero))))) g ms = constants.List ms
constant_by_tag (suc (suc (suc (suc (suc (suc n)))))) g ms = constants.Onto (other_constants ms) (first_constant ms)

pub record FoundConstant : Type 0 where
  pub one : Constant
  pub many : Constants

abbrev constant_in : Gv → FoundConstant
constant_in gnil = record { one = constants.List constants.NoMore; many = constants.NoMore }
constant_in (gnum n) = record { one = constants.List constants.NoMore; many = constants.NoMore }
constant_in (gcons a b) = record { one = constant_by_tag (number_in a) b (constant_in b).many; many = constants.Also (constant_in a).one (constant_in b).many }

mutual
  pub constant_in-code : (c : Constant) → (constant_in (code_of_constant c)).one ≡ c
  constant_in-code (constants.Integer n) = λ i. constants.Integer (integer_in-integer n i)
  constant_in-code (constants.Character c) = refl
  constant_in-code (constants.Text cs) = λ i. constants.Text (numbers_in-numbers cs i)
  constant_in-code (constants.Atom t) = λ i. constants.Atom (numbers_in-numbers t i)
  constant_in-code (constants.Tuple cs) = λ i. constants.Tuple (constant_in-codes cs i)
  constant_in-code (constants.List cs) = λ i. constants.List (constant_in-codes cs i)
  constant_in-code (constants.Onto cs c) = λ i. constants.Onto (constant_in-codes cs i) (constant_in-code c i)

  pub constant_in-codes : (cs : Constants) → (constant_in (code_of_constants cs)).many ≡ cs
  constant_in-codes constants.NoMore = refl
  constant_in-codes (constants.Also c cs) = λ i. constants.Also (constant_in-code c i) (constant_in-codes cs i)

abbrev pub coded_constant : Coded Constant
coded_constant = code_by Gv itself code_of_constant (λ g. (constant_in g).one) constant_in-code

-- ---- the parts of modules

abbrev pub coded_function : Coded Function
coded_function = code_by (List ℕ × ℕ) (coded× (coded_list coded_ℕ) coded_ℕ) (λ f. (f.name, f.arity)) (λ p. record { name = p.0; arity = p.1 }) (λ _. refl)

abbrev pub coded_named : Coded NamedAt
coded_named = code_by (ℕ × Function) (coded× coded_ℕ coded_function) (λ n. (n.at, n.function)) (λ p. record { at = p.0; function = p.1 }) (λ _. refl)

abbrev pub coded_attribute : Coded AttributeTree
coded_attribute = code_by (List ℕ × Constant) (coded× (coded_list coded_ℕ) coded_constant) (λ a. (a.name, a.value)) (λ p. record { name = p.0; value = p.1 }) (λ _. refl)

abbrev pub coded_definition : Coded DefinitionTree
coded_definition = code_by (NamedAt × (List Mention × Tree)) (coded× coded_named (coded× (coded_list coded_mention) coded_tree)) (λ d. (d.named, (d.parameters, d.body))) (λ p. record { named = p.0; parameters = p.1.0; body = p.1.1 }) (λ _. refl)

abbrev pub coded_module : Coded ModuleTree
coded_module = code_by (List ℕ × (List NamedAt × (List AttributeTree × List DefinitionTree)))
    (coded× (coded_list coded_ℕ) (coded× (coded_list coded_named) (coded× (coded_list coded_attribute) (coded_list coded_definition))))
    (λ m. (m.name, (m.exports, (m.attributes, m.definitions)))) (λ p. record { name = p.0; exports = p.1.0; attributes = p.1.1.0; definitions = p.1.1.1 }) (λ _. refl)
