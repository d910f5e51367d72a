-- What the program makes of what its parser answers.
use Rattle.std.proofs.Common.{◌≡◌, ◌∙◌, ◌&&◌, ◌||◌, Bool, true, false, List, [], Option, Some, None, option_map, refl, sym, ap, inl, inr, subst}
use Rattle.std.specs.Borrow.{Bor}
use Rattle.std.specs.Option.{is_some}
use Rattle.std.specs.Prelude.{IfErr, IfOk, IsErr, Result, Err, Ok}
use Rattle.clap.specs.Kinds.{HasKind, Kinds}
use Rattle.clap.specs.Values.{kind_of}
use Rattle.clap.specs.Words.{App, Row, Text, fault_of, is_simple, is_simple_and_free, subcommand_of}
use Rattle.clap.specs.declared.error.Error.{Error}
use Rattle.clap.specs.declared.error.kind.ErrorKind.TheVariants.{OutOfMemory}
use Rattle.program_words.specs.Words.{AreReadAs, report_alone}
use Rattle.program_words.specs.declared.words.Printed.{Printed}
use Rattle.program_words.specs.declared.words.Words.{Words}
use Rattle.program_words.specs.inside.CommandLine.{command_line}
use Rattle.program_words.specs.inside.Found.{AsksForOne, IsReadOf, is_unknown}
use Rattle.program_words.proofs.Replayed.{line_is_free, line_is_simple}

-- the parser's command is the program's, and says exactly what it makes of words
pub entered_is : (app : App) (words : List Text) (found : Option (Text × List Row)) → app ≡ command_line → {rows : Type 0} → (is_simple app ≡ true → rows × (found ≡ subcommand_of app words))
    → found ≡ subcommand_of command_line words
entered_is app words found is matches = (matches (ap is_simple is ∙ line_is_simple)).1 ∙ ap (λ a. subcommand_of a words) is

pub passes_is : (app : App) (words : List Text) → app ≡ command_line → (is_simple_and_free app ≡ true → fault_of app words ≡ []) → fault_of command_line words ≡ []
passes_is app words is passes = ap (λ a. fault_of a words) (sym is) ∙ passes (ap is_simple_and_free is ∙ line_is_free)

for_memory : (kinds : Kinds) (e : Error) → kinds ≡ [] → HasKind kinds e → kind_of e ≡ OutOfMemory
for_memory kinds e none has = by (subst (λ (ks : Kinds). HasKind ks e) none has)
  where
    by : HasKind [] e → kind_of e ≡ OutOfMemory
    by (inl memory) = memory
    by (inr other) = absurd other

-- an error at words that are not at fault is one of memory
pub refused_for_memory : (app : App) (words : List Text) (Asks : Words → Type 0) (e : Error) (r : Result Words Error) → app ≡ command_line → fault_of command_line words ≡ []
    → (is_simple_and_free app ≡ true → HasKind (fault_of app words) e) → r ≡ Err e → AreReadAs Asks r
refused_for_memory app words Asks e r is passes kinds err =
    let memory = for_memory (fault_of app words) e (ap (λ a. fault_of a words) is ∙ passes) (kinds (ap is_simple_and_free is ∙ line_is_free)) in
    subst (AreReadAs Asks) (sym err) memory

-- what is found of a schedule, where there is one and where it is missing
pub word_found : (found : Option (Bor Text)) (word : Bor Text) (o : Option Text) → option_map (λ w. w.now) found ≡ o → found ≡ Some word → o ≡ Some word.now
word_found found word o is has = sym is ∙ ap (option_map (λ (w : Bor Text). w.now)) has

pub no_word_found : (found : Option (Bor Text)) (o : Option Text) → option_map (λ w. w.now) found ≡ o → found ≡ None → o ≡ None
no_word_found found o is none = sym is ∙ ap (option_map (λ (w : Bor Text). w.now)) none

-- ---- what is asked of a search by states

-- it is not asked for what is of the tree, where it asks for no cover and no job
pub nothing_of_tree : (states cover : Bool) (found : Option (Bor Text)) (o : Option Text) → option_map (λ w. w.now) found ≡ o → (states && (cover || is_some found)) ≡ true
    → (states ≡ true → (cover ≡ false) × (o ≡ None)) → ⊥
nothing_of_tree false cover found o is asks alone = cc
nothing_of_tree true true found o is asks alone =
    let none = (alone refl).0 in
    cc
nothing_of_tree true false None o is asks alone = cc
nothing_of_tree true false (Some word) o is asks alone =
    let none : Some word.now ≡ None = is ∙ (alone refl).1 in
    cc

-- where it is not, it asks for no cover
pub no_cover_of_states : (states cover : Bool) (found : Option (Bor Text)) → (states && (cover || is_some found)) ≡ false → (states && cover) ≡ false
no_cover_of_states false cover found none = refl
no_cover_of_states true true found none = cc
no_cover_of_states true false found none = refl

-- and a job is of a search by the tree
pub no_job_of_states : (states cover : Bool) (found : Option (Bor Text)) (word : Bor Text) → found ≡ Some word → (states && (cover || is_some found)) ≡ false → states ≡ false
no_job_of_states false cover found word is none = refl
no_job_of_states true cover found word is none = absurd (by cover (sym (ap (λ (o : Option (Bor Text)). cover || is_some o) is) ∙ none))
  where
    by : (b : Bool) → (b || true) ≡ false → ⊥
    by true e = cc
    by false e = cc

-- ---- what is printed

none_of_three : (a b c : Bool) → (a || (b || c)) ≡ false → (a ≡ false) × ((b ≡ false) × (c ≡ false))
none_of_three true b c none = cc
none_of_three false true c none = cc
none_of_three false false c none = (refl, (refl, none))

-- where no more is asked for, it is the report alone, as text
pub alone : (printed : Printed) → (printed.explained || (printed.cover || printed.terms)) ≡ false → printed ≡ report_alone
alone printed none =
    let each = none_of_three printed.explained printed.cover printed.terms none in
    let explained : printed.explained ≡ false = each.0 in
    let cover : printed.cover ≡ false = each.1.0 in
    let terms : printed.terms ≡ false = each.1.1 in
    (λ i. record { explained = explained i; cover = cover i; terms = terms i })

-- ---- a format

-- what is said of the format that was found is said of the text in the rows
pub format_said : (r said : Bool) (found : Option (Bor Text)) (o : Option Text) → option_map (λ w. w.now) found ≡ o → r ≡ is_unknown (option_map (λ w. w.now) found) → r ≡ said → is_unknown o ≡ said
format_said r said found o of is told = sym (ap is_unknown of) ∙ sym is ∙ told

-- ---- what is read of the command that was found

module _ (words : List Text) (o : Option (Text × List Row)) (found : o ≡ subcommand_of command_line words) (r : Result Words Error) (ok : IfOk r (IsReadOf o)) where
  -- words that ask for something are read as that, or there is no memory
  pub read_as : (Asks : Words → Type 0) → IfErr r (λ e. AsksForOne o → kind_of e ≡ OutOfMemory) → ((w : Words) → IsReadOf (subcommand_of command_line words) w → Asks w)
      → AsksForOne (subcommand_of command_line words) → AreReadAs Asks r
  read_as Asks refused reads asks = by r ok refused
    where
      by : (r : Result Words Error) → IfOk r (IsReadOf o) → IfErr r (λ e. AsksForOne o → kind_of e ≡ OutOfMemory) → AreReadAs Asks r
      by (Ok w) ok refused = reads w (subst (λ o. IsReadOf o w) found ok)
      by (Err e) ok refused = refused (subst AsksForOne (sym found) asks)

  -- what holds of all that can be read holds of what is read
  pub read_holds : (P : Words → Type 0) → ((w : Words) → IsReadOf (subcommand_of command_line words) w → P w) → IfOk r P
  read_holds P holds = by r ok
    where
      by : (r : Result Words Error) → IfOk r (IsReadOf o) → IfOk r P
      by (Ok w) ok = holds w (subst (λ o. IsReadOf o w) found ok)
      by (Err e) ok = tt

  pub read_fails : ((w : Words) → IsReadOf (subcommand_of command_line words) w → ⊥) → IsErr r
  read_fails nothing = by r ok
    where
      by : (r : Result Words Error) → IfOk r (IsReadOf o) → IsErr r
      by (Ok w) ok = absurd (nothing w (subst (λ o. IsReadOf o w) found ok))
      by (Err e) ok = refl
