-- What the parser's getters read, as the rows of its matches say it.
use Rattle.std.proofs.Common.{◌≡◌, ◌∙◌, ℕ, Bool, true, false, List, Option, Some, None, codes, option_map, refl, sym, subst}
use Rattle.std.specs.Prelude.{MatchBool, Result, Ok, Err, Box}
use Rattle.std.specs.Box.{box_value}
use Rattle.std.specs.Str.Parse.{ParsesUnsigned}
use Rattle.std.proofs.lemmas.Slice.Eq.{bytes_eq-Decides}
use Rattle.clap.specs.Matches.{one_text}
use Rattle.clap.specs.Simple.{subcommand_rows}
use Rattle.clap.specs.Words.{ReadsOne, Row, Text, one_of, rows_of, subcommand_name_of, subcommand_rows_of}
use Rattle.clap.specs.declared.parser.matches.ArgMatches.{ArgMatches}
use Rattle.clap.specs.declared.parser.matches.ArgMatches.TheViews.{out-ArgMatches, out-SubCommand}
use Rattle.clap.specs.declared.parser.matches.Found.{Found}
use Rattle.clap.specs.declared.parser.matches.SubCommand.{SubCommand}
use Rattle.clap.proofs.WalkLemmas.{one_text-rows}
use Rattle.program_words.specs.declared.command_line.Split.{Split}
use Rattle.program_words.specs.inside.Found.{IsSplitIn, IsSplitOf, ReadsFlag, ReadsNumber, rows_in}

module _ {Z : Type 0} where
  named : (o : Option (Box SubCommand Z)) → option_map (λ p. p.0) (subcommand_rows o) ≡ option_map (λ b. (out-SubCommand (box_value b)).name.now) o
  named None = refl
  named (Some b) = refl

both_parts : (o : Option (Text × List Row)) (name : Text) (rows : List Row) → option_map (λ p. p.0) o ≡ Some name → option_map (λ p. p.1) o ≡ Some rows → o ≡ Some (name, rows)
both_parts None name rows e f = cc
both_parts (Some p) name rows e f =
    let first : p.0 ≡ name = cc in
    let second : p.1 ≡ rows = cc in
    (λ i. Some (first i, second i))

-- the rows of the subcommand that was found
pub rows_found : (o : Option (Text × List Row)) (rows : List Row) → Some rows ≡ option_map (λ p. p.1) o → rows ≡ rows_in o
rows_found None rows e = cc
rows_found (Some p) rows e = cc

-- the subcommand of this name and rows was found
pub found_rows : (m : ArgMatches) (name : Text) (rows : List Row) → subcommand_name_of m ≡ Some name → option_map (λ p. p.1) (subcommand_rows (out-ArgMatches m).subcommand) ≡ Some rows
    → subcommand_rows_of m ≡ Some (name, rows)
found_rows m name rows is has = both_parts (subcommand_rows_of m) name rows (named (out-ArgMatches m).subcommand ∙ is) has

-- the number of an option, where G is what the getter says of a text
pub number_of : (E : Type 0) (G : Text → Result ℕ E → Type 0) (f : Found) (id : Text) (r : Option ℕ) → (one_text f id ≡ None → r ≡ None) → ((text : Text) → one_text f id ≡ Some text → ReadsOne G text r)
    → ((text : Text) (x : Result ℕ E) → G text x → ParsesUnsigned 64 10 text x) → ReadsNumber (one_of id (rows_of f)) r
number_of E G f id r none value only = subst (λ o. ReadsNumber o r) (one_text-rows f id) (by (one_text f id) none value)
  where
    read : (text : Text) (r : Option ℕ) → ReadsOne G text r → ReadsNumber (Some text) r
    read text None reads = only text (Err reads.0) reads.1
    read text (Some n) reads = only text (Ok n) reads

    by : (o : Option Text) → (o ≡ None → r ≡ None) → ((text : Text) → o ≡ Some text → ReadsOne G text r) → ReadsNumber o r
    by None none value = subst (λ r. ReadsNumber None r) (sym (none refl)) tt
    by (Some text) none value = read text r (value text refl)

-- a flag
pub flag_of : (f : Found) (id : Text) (r : Bool) → (one_text f id ≡ Some (codes "true") → r ≡ true) → (one_text f id ≡ Some (codes "false") → r ≡ false)
    → ReadsFlag (one_of id (rows_of f)) r
flag_of f id r set unset = record { set = λ e. set (one_text-rows f id ∙ e); unset = λ e. unset (one_text-rows f id ∙ e) }

-- what is read of the rows of this command is read of it
pub split_of : (command : Text) (rows : List Row) (read : Option Split) → IsSplitIn rows read → IsSplitOf command (Some (command, rows)) read
split_of command rows read is = subst (λ (b : Bool). MatchBool b (IsSplitIn rows read) (read ≡ None)) (sym ((bytes_eq-Decides command command).1 refl)) is
