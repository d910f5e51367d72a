-- Calls that raise (Erlang reference manual, module erlang, `error/1`, `error/2`, `exit/1`, `throw/1`).
use Rattle.std.specs.Prelude.{codes}
use Rattle.term_core.specs.Meaning.{Meaning}
use Rattle.core_pure_calls.specs.declared.outcome.Class.TheVariants as classes
use Rattle.core_pure_calls.specs.Answers.{Answer, Raised, error}

-- `error/1`, and `error/2`, whose second argument has the arguments of the caller and is not kept
abbrev pub error_with : Meaning → Answer
error_with reason = Raised classes.Error reason

-- `exit/1`
abbrev pub exit_with : Meaning → Answer
exit_with reason = Raised classes.Exit reason

-- `throw/1`
abbrev pub throw_of : Meaning → Answer
throw_of term = Raised classes.Throw term

-- a call of no function: `get_module_info/1`, `get_module_info/2`, and a call with another number of arguments than the function has
abbrev pub undefined : Answer
undefined = error (codes "undef")
