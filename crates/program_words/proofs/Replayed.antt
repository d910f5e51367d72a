-- What the parser makes of the words of a replay.
use Rattle.std.proofs.Common.{◌≡◌, ◌∙◌, ℕ, ◌==◌, true, false, List, [], ◌∷◌, Some, codes, refl, ap}
use Rattle.clap.specs.Words.{fault_of, is_simple, is_simple_and_free, subcommand_of}
use Rattle.clap.proofs.OnLiterals.{clap_on_literals}
use Rattle.program_words.specs.Words.{IsReplay, begins_with_hyphen}
use Rattle.program_words.specs.inside.CommandLine.{command_line}
use Rattle.program_words.specs.inside.Found.{schedule_in}

-- the parser says exactly what it makes of such a command line
pub line_is_simple : is_simple command_line ≡ true
unfolding clap_on_literals
line_is_simple = refl

pub line_is_free : is_simple_and_free command_line ≡ true
unfolding clap_on_literals
line_is_free = refl

asked_empty : (name : List ℕ) → schedule_in (subcommand_of command_line (name ∷ codes "replay" ∷ [] ∷ [])) ≡ Some []
unfolding clap_on_literals
asked_empty name = refl

asked_full : (name rest : List ℕ) (byte : ℕ) → (byte == 45) ≡ false → schedule_in (subcommand_of command_line (name ∷ codes "replay" ∷ (byte ∷ rest) ∷ [])) ≡ Some (byte ∷ rest)
unfolding clap_on_literals
asked_full name rest byte plain = simp plain refl

asked : (name schedule : List ℕ) → begins_with_hyphen schedule ≡ false → schedule_in (subcommand_of command_line (name ∷ codes "replay" ∷ schedule ∷ [])) ≡ Some schedule
asked name [] plain = asked_empty name
asked name (byte ∷ rest) plain = asked_full name rest byte plain

taken_empty : (name : List ℕ) → fault_of command_line (name ∷ codes "replay" ∷ [] ∷ []) ≡ []
unfolding clap_on_literals
taken_empty name = refl

taken_full : (name rest : List ℕ) (byte : ℕ) → (byte == 45) ≡ false → fault_of command_line (name ∷ codes "replay" ∷ (byte ∷ rest) ∷ []) ≡ []
unfolding clap_on_literals
taken_full name rest byte plain = simp plain refl

taken : (name schedule : List ℕ) → begins_with_hyphen schedule ≡ false → fault_of command_line (name ∷ codes "replay" ∷ schedule ∷ []) ≡ []
taken name [] plain = taken_empty name
taken name (byte ∷ rest) plain = taken_full name rest byte plain

-- a replay is asked for, with its schedule as it is
pub replay_enters : (words : List (List ℕ)) (schedule : List ℕ) → IsReplay words schedule → schedule_in (subcommand_of command_line words) ≡ Some schedule
replay_enters words schedule asks = ap (λ l. schedule_in (subcommand_of command_line l)) asks.words_are ∙ asked asks.name schedule asks.plain

-- and such words have no fault
pub replay_passes : (words : List (List ℕ)) (schedule : List ℕ) → IsReplay words schedule → fault_of command_line words ≡ []
replay_passes words schedule asks = ap (fault_of command_line) asks.words_are ∙ taken asks.name schedule asks.plain
