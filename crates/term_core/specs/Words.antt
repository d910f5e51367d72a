-- The atoms that the language itself makes (Erlang reference manual, "Errors and Error Handling").
use Rattle.std.specs.Prelude.{ℕ, List, codes}
use Rattle.term_core.specs.declared.word.Word.{Word}
use Rattle.term_core.specs.declared.word.Word.TheVariants as words

-- the text of such an atom
abbrev pub text_of_word : Word → List ℕ
text_of_word words.True = codes "true"
text_of_word words.False = codes "false"
text_of_word words.Normal = codes "normal"
text_of_word words.BadArgument = codes "badarg"
text_of_word words.BadArithmetic = codes "badarith"
text_of_word words.Undefined = codes "undef"
text_of_word words.FunctionClause = codes "function_clause"
text_of_word words.CaseClause = codes "case_clause"
text_of_word words.TimeoutValue = codes "timeout_value"
text_of_word words.SystemLimit = codes "system_limit"
text_of_word words.ValueCount = codes "value_count"
text_of_word words.Unbound = codes "unbound"
text_of_word words.Error = codes "error"
text_of_word words.Exit = codes "exit"
text_of_word words.Throw = codes "throw"
text_of_word words.NoCatch = codes "nocatch"
text_of_word words.ExitTag = codes "EXIT"
text_of_word words.TraceTag = codes "$trace"
