-- What is excused by the options of a command, and by what is read of them.
use Rattle.std.proofs.Common.{◌≡◌, ◌∙◌, ◌&&◌, ◌||◌, ℕ, ◌+◌, ◌<◌, ◌≤◌, zero, suc, Bool, true, false, List, [], ◌∷◌, length, map, Some, cond, codes, refl, sym, ap, subst, inl, inr, arith}
use Rattle.std.specs.List.{AllByRecursion, count_by}
use Rattle.clap.specs.Words.{Row, one_of}
use Rattle.term_core.specs.Meaning.{Meaning}
use Rattle.term_core.specs.TermText.{text_of_term}
use Rattle.term_reader.specs.Lawful.{IsLawful}
use Rattle.term_reader.proofs.OneTerm.{term_injective}
use Rattle.tree_excuses.specs.Excuses.{Excuses, excuses_in}
use Rattle.tree_excuses.specs.declared.excuses.Excuses as declared
use Rattle.world_identities.specs.declared.flags.Flags.{Flags}
use Rattle.program_words.specs.Words.{AreExcusesOf, ExcuseNothing, Given, HasNoTerm, is_allow_deadlock, is_idle_servers, is_main_deadlock, texts_of}
use Rattle.program_words.specs.inside.CommandLine.{Level}
use Rattle.program_words.specs.inside.Found.{AreExcusesIn, AskExcuses, texts_in}
use Rattle.program_words.proofs.Asked.{flag_is, flag_text, rows_of_given}
use Rattle.program_words.proofs.Texts.{texts_length, two_apart}
use Rattle.program_words.proofs.Rows.{given_row, given_texts, idle_servers_left, idle_servers_row, main_deadlock_left, main_deadlock_row, normal_left, put_all}

-- ---- the texts of terms

-- lawful terms with the same texts are the same
same_terms : (xs ys : List Meaning) → AllByRecursion IsLawful xs → AllByRecursion IsLawful ys → map text_of_term xs ≡ map text_of_term ys → xs ≡ ys
same_terms [] [] l j e = refl
same_terms [] (y ∷ ys) l j e = cc
same_terms (x ∷ xs) [] l j e = cc
same_terms (x ∷ xs) (y ∷ ys) l j e =
    let first : text_of_term x ≡ text_of_term y = cc in
    let rest : map text_of_term xs ≡ map text_of_term ys = cc in
    let one : x ≡ y = term_injective x y l.0 j.0 first in
    let others : xs ≡ ys = same_terms xs ys l.1 j.1 rest in
    (λ i. one i ∷ others i)

no_term : (terms : List Meaning) → AllByRecursion IsLawful terms → HasNoTerm (map text_of_term terms) → ⊥
no_term [] l none = none
no_term (term ∷ rest) l (inl bad) = bad term l.0 refl
no_term (term ∷ rest) l (inr none) = no_term rest l.1 none

-- what is read of rows is what they ask for
pub excuses_same : (flags : Flags) (rows : List Row) (excuses : Excuses) (read : declared.Excuses) → AskExcuses flags rows excuses → AreExcusesIn flags rows read → excuses_in read ≡ excuses
excuses_same flags rows excuses read asks is =
    let main : is.main ≡ asks.main = flag_is _ asks.main is.main asks.main_is is.main_is in
    let idle : is.idle ≡ asks.idle = flag_is _ asks.idle is.idle asks.idle_is is.idle_is in
    let either : (is.main || is.idle) ≡ (asks.main || asks.idle) = (λ i. main i || idle i) in
    let deadlock : read.main_deadlock ≡ excuses.main_deadlock = is.main_deadlock ∙ either ∙ sym asks.main_deadlock in
    let normal : (excuses_in read).normal ≡ excuses.normal = same_terms (excuses_in read).normal excuses.normal is.in_range.lawful asks.in_range.lawful (sym is.normal ∙ asks.normal) in
    (λ i. record { main_deadlock = deadlock i; normal = normal i })

-- ---- the rows of options

texts_given : (level : Level) (given : List Given) → texts_in (rows_of_given level given) ≡ texts_of given
texts_given level given = normal_left level (put_all [] given) ∙ given_texts given

main_text : (level : Level) (given : List Given) (flag : Bool) → count_by is_main_deadlock given ≡ cond flag 1 0
    → one_of (codes "main-deadlock") (rows_of_given level given) ≡ Some (cond flag (codes "true") (codes "false"))
main_text level given flag counted =
    flag_text level (codes "main-deadlock") is_main_deadlock given flag counted (main_deadlock_left level (put_all [] given)) (given_row (codes "main-deadlock") given refl ∙ main_deadlock_row given)

idle_text : (level : Level) (given : List Given) (flag : Bool) → count_by is_idle_servers given ≡ cond flag 1 0
    → one_of (codes "idle-servers") (rows_of_given level given) ≡ Some (cond flag (codes "true") (codes "false"))
idle_text level given flag counted =
    flag_text level (codes "idle-servers") is_idle_servers given flag counted (idle_servers_left level (put_all [] given)) (given_row (codes "idle-servers") given refl ∙ idle_servers_row given)

-- two flags that are given so many times, and one of which makes a deadlock normal
record AreFlags (m n : ℕ) (either : Bool) : Type 0 where
  pub main : Bool
  pub idle : Bool
  pub main_is : m ≡ cond main 1 0
  pub idle_is : n ≡ cond idle 1 0
  pub one : (main && idle) ≡ false
  pub either_is : either ≡ (main || idle)

-- one of them is given once, or neither is given
one_given : (m n : ℕ) (either : Bool) → m + n ≡ cond either 1 0 → AreFlags m n either
one_given zero n true counted =
    let other : n ≡ 1 = omega (arith, counted) in
    record { main = false; idle = true; main_is = refl; idle_is = other; one = refl; either_is = refl }
one_given zero n false counted =
    let other : n ≡ 0 = omega (arith, counted) in
    record { main = false; idle = false; main_is = refl; idle_is = other; one = refl; either_is = refl }
one_given (suc m) n true counted =
    let first : suc m ≡ 1 = omega (arith, counted) in
    let other : n ≡ 0 = omega (arith, counted) in
    record { main = true; idle = false; main_is = first; idle_is = other; one = refl; either_is = refl }
one_given (suc m) n false counted = absurd (omega (arith, counted))

-- the rows of options ask for what these excuse
pub given_asks : (level : Level) (given : List Given) (flags : Flags) (excuses : Excuses) → AreExcusesOf given flags excuses → AskExcuses flags (rows_of_given level given) excuses
given_asks level given flags excuses of =
    let asked = one_given (count_by is_main_deadlock given) (count_by is_idle_servers given) excuses.main_deadlock of.main_deadlock in
    record {
      main = asked.main;
      idle = asked.idle;
      main_is = main_text level given asked.main asked.main_is;
      idle_is = idle_text level given asked.idle asked.idle_is;
      one = asked.one;
      main_deadlock = asked.either_is;
      normal = texts_given level given ∙ of.normal;
      in_range = of.in_range;
      small = of.small;
    }

-- a flag that may be given once is given, or it is not
record IsFlag (n : ℕ) : Type 0 where
  pub flag : Bool
  pub counted : n ≡ cond flag 1 0

is_flag : (n : ℕ) → n ≤ 1 → IsFlag n
is_flag zero few = record { flag = false; counted = refl }
is_flag (suc zero) few = record { flag = true; counted = refl }
is_flag (suc (suc n)) few = absurd (omega (arith, few))

-- where more than one of three flags is counted, more than one is set
two_set : (a m n : ℕ) (allow main idle : Bool) → a ≡ cond allow 1 0 → m ≡ cond main 1 0 → n ≡ cond idle 1 0 → 1 < a + (m + n) → ((allow && (main || idle)) || (main && idle)) ≡ true
two_set a m n true true idle first second third two = refl
two_set a m n true false true first second third two = refl
two_set a m n true false false first second third two = absurd (omega arith)
two_set a m n false true true first second third two = refl
two_set a m n false true false first second third two = absurd (omega arith)
two_set a m n false false true first second third two = absurd (omega arith)
two_set a m n false false false first second third two = absurd (omega arith)

-- nothing is read of options that can excuse nothing
pub nothing_is_read : (level : Level) (given : List Given) (flags : Flags) (read : declared.Excuses) → count_by is_allow_deadlock given ≡ cond flags.allow_deadlock 1 0
    → count_by is_main_deadlock given ≤ 1 → count_by is_idle_servers given ≡ cond flags.idle_servers 1 0 → AreExcusesIn flags (rows_of_given level given) read → ExcuseNothing given → ⊥
nothing_is_read level given flags read allowed once idle is bad = by bad
  where
    texts : texts_of given ≡ map text_of_term (excuses_in read).normal
    texts = sym (texts_given level given) ∙ is.normal

    by : ExcuseNothing given → ⊥
    by (inl none) = no_term (excuses_in read).normal is.in_range.lawful (subst HasNoTerm texts none)
    by (inr (inl many)) = absurd (omega (arith, many, is.in_range.few, ap length texts, texts_length (excuses_in read).normal))
    by (inr (inr two)) =
        let main = is_flag (count_by is_main_deadlock given) once in
        let main_same : is.main ≡ main.flag = flag_is _ main.flag is.main (main_text level given main.flag main.counted) is.main_is in
        let idle_same : is.idle ≡ flags.idle_servers = flag_is _ flags.idle_servers is.idle (idle_text level given flags.idle_servers idle) is.idle_is in
        let set = two_set (count_by is_allow_deadlock given) (count_by is_main_deadlock given) (count_by is_idle_servers given) flags.allow_deadlock is.main is.idle allowed
        (main.counted ∙ sym (ap (λ b. cond {A = ℕ} b 1 0) main_same)) (idle ∙ sym (ap (λ b. cond {A = ℕ} b 1 0) idle_same)) two in
        two_apart flags.allow_deadlock is.main is.idle read.main_deadlock set is.one is.main_deadlock is.in_range.apart
