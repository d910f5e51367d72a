-- Worked rows: texts, terms and schedules as strings.
use Rattle.std.specs.Prelude.{◌≡◌, [], ◌∷◌, codes}
use Rattle.term_core.specs.Meaning.{Atom, Nil}
use Rattle.term_core.specs.declared.step.Step.TheVariants.{Turn, Deliver}
use Rattle.report_terms.specs.Strings.{quoted, string_of_schedule, string_of_term, strings_of_terms}

-- `a"b\c`
abbrev pub BothAreEscaped : Type 0
BothAreEscaped = quoted (codes "a\"b\\c") ≡ codes "\"a\\\"b\\\\c\""

-- `é`, whose two bytes stay as they are
abbrev pub OthersArePlain : Type 0
OthersArePlain = quoted (195 ∷ 169 ∷ []) ≡ 34 ∷ 195 ∷ 169 ∷ 34 ∷ []

-- the atom `it's`: the backslash that its text has is escaped
abbrev pub AtomIsQuoted : Type 0
AtomIsQuoted = string_of_term (Atom (codes "it's")) ≡ codes "\"'it\\\\'s'\""

abbrev pub TermsHaveCommas : Type 0
TermsHaveCommas = strings_of_terms (Atom (codes "a") ∷ Nil ∷ []) ≡ codes "\"'a'\",\"[]\""

-- a schedule, and one without a step
abbrev pub StepsHaveBlanks : Type 0
StepsHaveBlanks = string_of_schedule (Turn [] ∷ Deliver (2 ∷ []) [] ∷ []) ≡ codes "\"P P.2>P\""

abbrev pub NoStepIsEmpty : Type 0
NoStepIsEmpty = string_of_schedule [] ≡ codes "\"\""
