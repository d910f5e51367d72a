-- Applications of a module's own functions (Core Erlang 1.0.3, "Function application" and "Inter-module calls"): what they give, and how many there are between two requests.
use Rattle.std.specs.Prelude.{ℕ, zero, suc, ◌+◌, ◌-◌, ◌*◌, List, [], ◌∷◌, Option, Some, None, if◌then◌else◌, nat_lt, length, codes}
use Rattle.core_tree.specs.Syntax.{Mention, Tree, Function, DefinitionTree, ModuleTree}
use Rattle.core_tree.specs.Functions.{same_function}
use Rattle.term_core.specs.Meaning.{Meaning}
use Rattle.core_semantics.specs.Asked.{Runaway}
use Rattle.core_stack.specs.Matching.{bound}
pub use Rattle.core_semantics.specs.Outcomes.{limit}
pub use Rattle.core_semantics.specs.Limits.{allowed}
use Rattle.core_semantics.specs.Evaluation.{State, Outcome, Stops, Setting, error, within, evaluate}

-- the parameters and the body of a function
abbrev pub definition : Function → List DefinitionTree → Option (List Mention × Tree)
definition f [] = None
definition f (d ∷ ds) = if same_function f d.named.function then Some (d.parameters, d.body) else definition f ds

-- the body of a function with the arguments as its parameters, and no other variable in scope; without a function it is undefined
abbrev pub body_with : Setting → Option (List Mention × Tree) → List Meaning → State → Outcome
body_with setting None arguments s = error (codes "undef") s
body_with setting (Some f) arguments s = within (bound f.0 arguments []) [] (λ env s'. evaluate setting f.1 env s') s

-- after one more application
abbrev pub counted : State → State
counted s = record { answers = s.answers; dictionary = s.dictionary; made = s.made + 1 }

-- an application, where those in its body give what is reported; one more than the module allows runs away, which nothing catches
abbrev pub applied_once : ModuleTree → List ℕ → (Function → List Meaning → State → Outcome) → Function → List Meaning → State → Outcome
applied_once m own apply f arguments s =
    if nat_lt s.made (allowed m) then body_with (record { own = own; apply = apply }) (definition f m.definitions) arguments (counted s) else Stops Runaway

-- an application in which fewer than this many others are nested; the nesting of no module is deeper than the room
abbrev pub applied : ℕ → ModuleTree → List ℕ → Function → List Meaning → State → Outcome
applied zero m own f arguments s = Stops Runaway
applied (suc depth) m own f arguments s = applied_once m own (applied depth m own) f arguments s

-- the most applications that are still to come in any module: those up to the limit now, and after each answer all of them
abbrev pub room : State → ℕ
room s = (limit - s.made) + (limit + 1) * length s.answers

-- what an application of a function of the module gives, in a process with this pid
abbrev pub apply_of : ModuleTree → List ℕ → Function → List Meaning → State → Outcome
apply_of m own f arguments s = applied (suc (room s)) m own f arguments s

-- where the process with this pid evaluates the module
abbrev pub setting_of : ModuleTree → List ℕ → Setting
setting_of m own = record { own = own; apply = apply_of m own }
