-- Texts as strings of Erlang, as bytes.
use Rattle.std.specs.Prelude.{ℕ, ◌==◌, if◌then◌else◌, List, [], ◌∷◌, ◌++◌, codes}
use Rattle.std.specs.List.{flat_map}
use Rattle.term_core.specs.Meaning.{Meaning}
use Rattle.term_core.specs.Text.{text_of_pid, text_of_step, text_of_schedule}
use Rattle.term_core.specs.TermText.{text_of_term, text_of_reference}
use Rattle.term_core.specs.declared.step.Step.{Step}
use Rattle.world_model.specs.Names.{Pid, Ref}

-- ---- any text

-- a byte in a string: `"` and `\` after a backslash, and any other byte as it is
abbrev pub escaped_byte : ℕ → List ℕ
escaped_byte c = if c == 34 then 92 ∷ 34 ∷ [] else (if c == 92 then 92 ∷ 92 ∷ [] else c ∷ [])

-- a text between quotation marks, with escapes
abbrev pub quoted : List ℕ → List ℕ
quoted text = 34 ∷ (flat_map escaped_byte text ++ 34 ∷ [])

-- a text that needs no escape, as that of a pid, a step or the name of a call, between quotation marks
abbrev pub in_marks : List ℕ → List ℕ
in_marks text = 34 ∷ (text ++ 34 ∷ [])

-- ---- terms, pids, references, steps and schedules, each as its text

abbrev pub string_of_term : Meaning → List ℕ
string_of_term m = quoted (text_of_term m)

abbrev pub string_of_pid : Pid → List ℕ
string_of_pid p = in_marks (text_of_pid p)

abbrev pub string_of_reference : Ref → List ℕ
string_of_reference ref = in_marks (text_of_reference ref.pid ref.number)

abbrev pub string_of_step : Step → List ℕ
string_of_step step = in_marks (text_of_step step)

abbrev pub string_of_schedule : List Step → List ℕ
string_of_schedule steps = in_marks (text_of_schedule steps)

-- ---- several, with commas between them: the first, and each other after a comma

abbrev pub term_after_comma : Meaning → List ℕ
term_after_comma m = codes "," ++ string_of_term m

abbrev pub strings_of_terms : List Meaning → List ℕ
strings_of_terms [] = []
strings_of_terms (m ∷ ms) = string_of_term m ++ flat_map term_after_comma ms

abbrev pub pid_after_comma : Pid → List ℕ
pid_after_comma p = codes "," ++ string_of_pid p

abbrev pub strings_of_pids : List Pid → List ℕ
strings_of_pids [] = []
strings_of_pids (p ∷ ps) = string_of_pid p ++ flat_map pid_after_comma ps
