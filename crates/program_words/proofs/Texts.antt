-- The texts of terms, read one after another.
use Rattle.std.proofs.Common.{◌≡◌, ◌∙◌, ◌&&◌, ◌||◌, ℕ, ◌+◌, ◌<◌, ◌≤◌, zero, suc, Bool, true, false, List, [], ◌∷◌, ◌++◌, length, map, take, get_or, Option, Some, None, codes, option_map, refl, sym, ap, subst, arith, true≢false}
use Rattle.std.specs.Borrow.{Bor}
use Rattle.std.specs.List.{AllByRecursion}
use Rattle.std.specs.Option.{unwrap_or}
use Rattle.std.specs.Prelude.{IfErr, Result, Err}
use Rattle.std.proofs.lemmas.List.{length-take, map-append, take_more}
use Rattle.clap.specs.Matches.{matched_of, raw_values}
use Rattle.clap.specs.Words.{Row, Text, one_of, rows_of}
use Rattle.clap.specs.declared.parser.matches.Found.{Found}
use Rattle.clap.proofs.WalkLemmas.{raw_values-rows}
use Rattle.term_core.specs.Meaning.{Meaning, node_count}
use Rattle.term_core.specs.Term.{meaning_of}
use Rattle.term_core.specs.TermText.{text_of_term}
use Rattle.term_core.specs.declared.term.Term.{Term}
use Rattle.term_reader.specs.Lawful.{IsLawful}
use Rattle.tree_excuses.specs.Excuses.{Excuses, excuses_in, no_excuses}
use Rattle.tree_excuses.specs.declared.excuses.Excuses as declared
use Rattle.world_identities.specs.declared.flags.Flags.{Flags}
use Rattle.program_words.specs.Words.{AreExcusesInRange, AreSmall}
use Rattle.program_words.specs.inside.Found.{AreExcusesIn, AreTextsOf, AskExcuses, ReadsFlag, rows_in, texts_in}
use Rattle.program_words.proofs.Asked.{flag_is}

-- ---- texts of terms that are small

pub record HasTerm (text : Text) : Type 0 where
  pub term : Meaning
  pub lawful : IsLawful term
  pub small : node_count term ≤ 10000
  pub text_is : text ≡ text_of_term term

term_in : (terms : List Meaning) (i : ℕ) (d : Text) → AllByRecursion IsLawful terms → AreSmall terms → i < length (map text_of_term terms) → HasTerm (get_or (map text_of_term terms) i d)
term_in [] i d l s lt = absurd (omega arith)
term_in (term ∷ rest) zero d l s lt = record { term = term; lawful = l.0; small = s.0; text_is = refl }
term_in (term ∷ rest) (suc i) d l s lt = term_in rest i d l.1 s.1 (omega arith)

-- each of the texts has its term
pub term_at : (terms : List Meaning) (texts : List Text) (i : ℕ) (d : Text) → AreTextsOf terms texts → AreSmall terms → i < length texts → HasTerm (get_or texts i d)
term_at terms texts i d is s lt = subst (λ xs. HasTerm (get_or xs i d)) (sym is.texts_are) (term_in terms i d is.lawful s (subst (λ xs. i < length xs) is.texts_are lt))

-- ---- texts that are borrowed

abbrev pub texts_behind : List (Bor Text) → List Text
texts_behind = map (λ text. text.now)

pub bors_length : (texts : List (Bor Text)) → length (texts_behind texts) ≡ length texts
bors_length [] = refl
bors_length (text ∷ rest) = ap (λ n. suc n) (bors_length rest)

pub behind_at : (texts : List (Bor Text)) (i : ℕ) (d : Bor Text) → get_or (texts_behind texts) i d.now ≡ (get_or texts i d).now
behind_at [] i d = refl
behind_at (text ∷ rest) zero d = refl
behind_at (text ∷ rest) (suc i) d = behind_at rest i d

-- where a text is refused only for one reason, so are all
pub refused_at : (X : Type 0) (texts : List (Bor Text)) (i : ℕ) (d : Bor Text) → i < length texts
    → ((term : Meaning) → IsLawful term → node_count term ≤ 10000 → (get_or texts i d).now ≡ text_of_term term → X) → (terms : List Meaning) → AreTextsOf terms (texts_behind texts) → AreSmall terms → X
refused_at X texts i d lt refused terms is small =
    let has = term_at terms (texts_behind texts) i d.now is small (omega (arith, bors_length texts)) in
    refused has.term has.lawful has.small (sym (behind_at texts i d) ∙ has.text_is)

pub if_err : {T E : Type 0} (P : E → Type 0) (r : Result T E) (e : E) → r ≡ Err e → P e → IfErr r P
if_err P r e is holds = subst (λ r. IfErr r P) (sym is) holds

-- ---- one text more

pub texts_length : (terms : List Meaning) → length (map text_of_term terms) ≡ length terms
texts_length [] = refl
texts_length (term ∷ rest) = ap (λ n. suc n) (texts_length rest)

-- there are no more than 16 texts of 16 terms
pub few_texts : (terms : List Meaning) (texts : List Text) → AreTextsOf terms texts → length texts ≤ 16
few_texts terms texts is = omega (arith, is.few, texts_length terms, ap length is.texts_are)

lawful_more : (terms : List Meaning) (term : Meaning) → AllByRecursion IsLawful terms → IsLawful term → AllByRecursion IsLawful (terms ++ term ∷ [])
lawful_more [] term all one = (one, tt)
lawful_more (first ∷ rest) term all one = (all.0, lawful_more rest term all.1 one)

pub none_yet : (texts : List Text) → AreTextsOf [] (take 0 texts)
none_yet texts = record { texts_are = refl; few = omega arith; lawful = tt }

-- the term of the next text is one more
pub text_more : (terms : List Meaning) (texts : List Text) (i : ℕ) (d : Text) (term : Meaning) → i < length texts → length texts ≤ 16 → AreTextsOf terms (take i texts) → get_or texts i d ≡ text_of_term term
    → IsLawful term → AreTextsOf (terms ++ term ∷ []) (take (i + 1) texts)
text_more terms texts i d term lt few is text lawful =
    let texts_are : take (i + 1) texts ≡ map text_of_term (terms ++ term ∷ []) =
    take_more texts i d lt ∙ (λ j. is.texts_are j ++ text j ∷ []) ∙ sym (map-append text_of_term terms (term ∷ [])) in
    record {
      texts_are = texts_are;
      few = omega (arith, few, lt, ap length texts_are, texts_length (terms ++ term ∷ []), length-take (i + 1) texts);
      lawful = lawful_more terms term is.lawful lawful;
    }

pub term_more : (items : List Term) (now : List Term) (term : Term) (texts : List (Bor Text)) (i : ℕ) (d : Bor Text) → now ≡ items ++ term ∷ [] → i < length texts → length texts ≤ 16
    → AreTextsOf (map meaning_of items) (take i (texts_behind texts)) → (get_or texts i d).now ≡ text_of_term (meaning_of term) → IsLawful (meaning_of term)
    → AreTextsOf (map meaning_of now) (take (i + 1) (texts_behind texts))
term_more items now term texts i d pushed lt few is text lawful =
    let same : map meaning_of now ≡ map meaning_of items ++ meaning_of term ∷ [] = ap (map meaning_of) pushed ∙ map-append meaning_of items (term ∷ []) in
    subst (λ ms. AreTextsOf ms (take (i + 1) (texts_behind texts))) (sym same)
    (text_more (map meaning_of items) (texts_behind texts) i d.now (meaning_of term) (omega (arith, bors_length texts)) (omega (arith, bors_length texts)) is (behind_at texts i d ∙ text) lawful)

-- ---- what the parser found

-- the texts of `--normal`, as its getter gives them
module _ (f : Found) (found : Option (Bor (List (Bor Text)))) (is : option_map (λ texts. texts_behind texts.now) found ≡ option_map raw_values (matched_of f (codes "normal"))) where
  texts_got : texts_in (rows_of f) ≡ unwrap_or (option_map (λ texts. texts_behind texts.now) found) []
  texts_got = sym (ap (λ o. unwrap_or o []) (is ∙ raw_values-rows f (codes "normal")))

  pub texts_found : (texts : Bor (List (Bor Text))) → found ≡ Some texts → texts_in (rows_of f) ≡ texts_behind texts.now
  texts_found texts some = texts_got ∙ ap (λ (o : Option (Bor (List (Bor Text)))). unwrap_or (option_map (λ texts. texts_behind texts.now) o) []) some

  pub no_texts_found : found ≡ None → texts_in (rows_of f) ≡ []
  no_texts_found none = texts_got ∙ ap (λ (o : Option (Bor (List (Bor Text)))). unwrap_or (option_map (λ texts. texts_behind texts.now) o) []) none

-- the rows of the subcommand that was found
pub rows_found : (o : Option (Text × List Row)) (rows : List Row) → option_map (λ p. p.1) o ≡ Some rows → rows_in o ≡ rows
rows_found None rows is = cc
rows_found (Some p) rows is = cc

pub no_rows : (o : Option (Text × List Row)) → option_map (λ p. p.1) o ≡ None → rows_in o ≡ []
no_rows None is = refl
no_rows (Some p) is = cc

pub and_false : (b : Bool) → (b && false) ≡ false
and_false true = refl
and_false false = refl

-- without rows, a flag is not given
no_flag : (id : Text) (rows : List Row) → rows ≡ [] → ReadsFlag (one_of id rows) false
no_flag id rows none = record {
  set = λ e. let some : None ≡ Some (codes "true") = sym (ap (one_of id) none) ∙ e in cc;
  unset = λ e. refl;
}

-- and nothing is excused
pub none_excused : (flags : Flags) (rows : List Row) (read : declared.Excuses) → rows ≡ [] → excuses_in read ≡ no_excuses → AreExcusesIn flags rows read
none_excused flags rows read none is = record {
  main = false;
  idle = false;
  main_is = no_flag (codes "main-deadlock") rows none;
  idle_is = no_flag (codes "idle-servers") rows none;
  one = refl;
  main_deadlock = ap (λ (x : Excuses). x.main_deadlock) is;
  normal = ap texts_in none ∙ sym (ap (λ (x : Excuses). map text_of_term x.normal) is);
  in_range = subst (AreExcusesInRange flags) (sym is) (record { few = omega arith; lawful = tt; apart = and_false flags.allow_deadlock });
}

-- more than one flag of deadlocks excuses nothing
pub two_apart : (allow main idle excused : Bool) → ((allow && (main || idle)) || (main && idle)) ≡ true → (main && idle) ≡ false → excused ≡ (main || idle) → (allow && excused) ≡ false → ⊥
two_apart true main idle excused two one is apart =
    let none : (main || idle) ≡ false = sym is ∙ apart in
    let both : ((main || idle) || (main && idle)) ≡ false = (λ j. none j || one j) in
    true≢false (sym two ∙ both)
two_apart false main idle excused two one is apart = true≢false (sym two ∙ one)

-- so it is asked for by no rows of excuses
pub two_refused : (flags : Flags) (rows : List Row) (excuses : Excuses) (main idle : Bool) → ReadsFlag (one_of (codes "main-deadlock") rows) main → ReadsFlag (one_of (codes "idle-servers") rows) idle
    → ((flags.allow_deadlock && (main || idle)) || (main && idle)) ≡ true → AskExcuses flags rows excuses → ⊥
two_refused flags rows excuses main idle main_reads idle_reads two asks =
    let same : main ≡ asks.main = flag_is _ asks.main main asks.main_is main_reads in
    let other : idle ≡ asks.idle = flag_is _ asks.idle idle asks.idle_is idle_reads in
    let both : (main && idle) ≡ (asks.main && asks.idle) = (λ j. same j && other j) in
    let either : (main || idle) ≡ (asks.main || asks.idle) = (λ j. same j || other j) in
    two_apart flags.allow_deadlock main idle excuses.main_deadlock two (both ∙ asks.one) (asks.main_deadlock ∙ sym either) asks.in_range.apart

-- the terms that rows of excuses ask for
pub terms_asked : (flags : Flags) (rows : List Row) (excuses : Excuses) → AskExcuses flags rows excuses → AreTextsOf excuses.normal (texts_in rows)
terms_asked flags rows excuses asks = record { texts_are = asks.normal; few = asks.in_range.few; lawful = asks.in_range.lawful }
