-- Arguments as they are held, in the words of the calls of the explored world.
use Rattle.std.specs.Global.{Global}
use Rattle.std.specs.Prelude.{ℕ, List, Option, Vec, option_map, map}
use Rattle.term_core.specs.Meaning.{Meaning}
use Rattle.term_core.specs.declared.term.Term.{Term}
use Rattle.ets_store.specs.Parts.{part_in}
use Rattle.world_model.specs.Calls as calls
use Rattle.ets_calls.specs.declared.argument.TableArgument.{TableArgument}
use Rattle.ets_calls.specs.declared.argument.TableArgument.TheVariants.{ByName, ByReference, ByNothing}
use Rattle.ets_calls.specs.declared.increment.Addition.{Addition}
use Rattle.ets_calls.specs.declared.increment.Increment.{Increment}
use Rattle.ets_calls.specs.declared.increment.Increment.TheVariants.{AfterKey, AtPlace, InTurn, NotGiven}

-- by what a table is called
abbrev pub argument_in : TableArgument → calls.TableArgument
argument_in (ByName name) = calls.ByName name
argument_in (ByReference id) = calls.ByReference (record { pid = id.0; number = id.1 })
argument_in ByNothing = calls.ByNothing

-- what is added
abbrev pub addition_in : Addition → calls.Addition
addition_in a = record { position = a.position; amount = a.amount; limit = a.limit }

abbrev pub increment_in : Increment → calls.Increment
increment_in (AfterKey n) = calls.AfterKey n
increment_in (AtPlace addition) = calls.AtPlace (addition_in addition)
increment_in (InTurn additions) = calls.InTurn (map addition_in additions.items)
increment_in NotGiven = calls.NotGiven

-- where an object changes, and what is to be there
abbrev pub changes_in : Option (Vec (ℕ × Term) Global) → Option (List (ℕ × Meaning))
changes_in changes = option_map (λ cs. map part_in cs.items) changes
