-- The numbers that a walk over any words leaves for a command are in their ranges.
use Rattle.std.proofs.Common.{◌≡◌, ◌∙◌, ◌⊎◌, ◌&&◌, ℕ, Bool, true, false, List, [], ◌∷◌, ◌++◌, Some, cond, codes, option_map, refl, sym, ap, subst, inl, inr}
use Rattle.std.specs.List.{find, fold, list_all}
use Rattle.std.specs.Prelude.{option_and_then, slice_get}
use Rattle.std.specs.Str.{bytes_eq}
use Rattle.std.proofs.lemmas.Slice.Eq.{bytes_eq-Decides}
use Rattle.clap.specs.Faults.{level_fault, settle_fault, use_fault, walk_fault}
use Rattle.clap.specs.Kinds.{Kinds, or_else, values_kinds}
use Rattle.clap.specs.Simple.{Shape, filled, help_rule}
use Rattle.clap.specs.Values.{read_as, refused_kind}
use Rattle.clap.specs.ValueTests.{accepts, is_unsigned_in}
use Rattle.clap.specs.Walk.{Row, Rule, Text, at_row, default_rows, has_row, more_values, nothing_held, one_of, reading_by, row_text, rows_after, used, walk, walk_from, with_default, with_values, without}
use Rattle.clap.specs.declared.builder.value_parser.Reading.{Reading}
use Rattle.clap.specs.declared.builder.value_parser.Reading.TheVariants.{AsWritten}
use Rattle.clap.specs.declared.builder.value_parser.ValueParser.{ValueParser}
use Rattle.clap.specs.declared.builder.value_parser.ValueParser.TheVariants.{Unsigned}
use Rattle.clap.specs.declared.parser.matches.ValueSource.{ValueSource}
use Rattle.clap.specs.declared.parser.matches.ValueSource.TheVariants.{CommandLine, DefaultValue}
use Rattle.program_words.specs.inside.CommandLine.{Level, at_rule, built_of, check_built, checking, depth_rule, explore_built, exploring, flag_rule, format_rule, job_rule, nodes_rule, normal_rule, runs_rule, sample_built, sampling, seed_rule, split_built, split_name, splitting, workers_rule}
use Rattle.program_words.proofs.Kept.{both_pass, walk_leaves}

-- values that are not at fault passed their parser
accepted : (ignore_case : Bool) (parser : ValueParser) (values : List Text) → values_kinds ignore_case parser values ≡ [] → list_all (accepts ignore_case parser) values ≡ true
accepted ignore_case parser [] none = refl
accepted ignore_case parser (v ∷ vs) none = by (accepts ignore_case parser v) none (accepted ignore_case parser vs)
  where
    by : (b : Bool) → or_else (cond b [] (refused_kind parser ∷ [])) (values_kinds ignore_case parser vs) ≡ []
        → (values_kinds ignore_case parser vs ≡ [] → list_all (accepts ignore_case parser) vs ≡ true) → (b && list_all (accepts ignore_case parser) vs) ≡ true
    by true none rest = rest none
    by false none rest = cc

list_all-append : {X : Type 0} (p : X → Bool) (xs ys : List X) → list_all p xs ≡ true → list_all p ys ≡ true → list_all p (xs ++ ys) ≡ true
list_all-append p [] ys first second = second
list_all-append p (x ∷ xs) ys first second = by (p x) first (list_all-append p xs ys)
  where
    by : (b : Bool) → (b && list_all p xs) ≡ true → (list_all p xs ≡ true → list_all p ys ≡ true → list_all p (xs ++ ys) ≡ true) → (b && list_all p (xs ++ ys)) ≡ true
    by true first rest = rest first second
    by false first rest = cc

-- the rule that a search finds is one of the list
abbrev Among : Rule → List Rule → Type 0
Among a [] = ⊥
Among a (x ∷ xs) = (a ≡ x) ⊎ Among a xs

among : (p : Rule → Bool) (xs : List Rule) (a : Rule) → find p xs ≡ Some a → Among a xs
among p [] a found = cc
among p (x ∷ xs) a found = by (p x) found (among p xs a)
  where
    by : (b : Bool) → cond b (Some x) (find p xs) ≡ Some a → (find p xs ≡ Some a → Among a xs) → (a ≡ x) ⊎ Among a xs
    by true found rest = inl (cc)
    by false found rest = inr (rest found)

-- the options that have a number, as they are built
abbrev depth_built : Rule
depth_built = filled depth_rule

abbrev nodes_built : Rule
nodes_built = filled nodes_rule

abbrev workers_built : Rule
workers_built = filled workers_rule

abbrev at_built : Rule
at_built = filled at_rule

abbrev runs_built : Rule
runs_built = filled runs_rule

abbrev seed_built : Rule
seed_built = filled seed_rule

-- the argument is none of the options that say what counts as an error
record AreOthers (id : Text) : Type 0 where
  pub allow_deadlock : bytes_eq (codes "allow-deadlock") id ≡ false
  pub main_deadlock : bytes_eq (codes "main-deadlock") id ≡ false
  pub idle_servers : bytes_eq (codes "idle-servers") id ≡ false
  pub normal : bytes_eq (codes "normal") id ≡ false
  pub strict_access : bytes_eq (codes "strict-access") id ≡ false

-- the values of an argument are numbers in its range, and are read as they are written
module _ (id : Text) (low high : ℕ) where
  abbrev Fits : Row → Type 0
  Fits r = bytes_eq r.id id ≡ true → (list_all (is_unsigned_in low high) r.values ≡ true) × (r.reading ≡ AsWritten)

  abbrev AllFit : List Row → Type 0
  AllFit [] = Unit {0}
  AllFit (r ∷ rs) = Fits r × AllFit rs

  AllFit-append : (xs ys : List Row) → AllFit xs → AllFit ys → AllFit (xs ++ ys)
  AllFit-append [] ys first second = second
  AllFit-append (x ∷ xs) ys first second = (first.0, AllFit-append xs ys first.1 second)

  at_row_fits : (other : Text) (change : Row → List Row) (missing rows : List Row) → ((r : Row) → bytes_eq r.id other ≡ true → Fits r → AllFit (change r)) → AllFit missing → AllFit rows
      → AllFit (at_row other change missing rows)
  at_row_fits other change missing [] changed new fit = new
  at_row_fits other change missing (r ∷ rs) changed new fit = by (bytes_eq r.id other) refl (at_row_fits other change missing rs changed new fit.1)
    where
      by : (b : Bool) → bytes_eq r.id other ≡ b → AllFit (at_row other change missing rs) → AllFit (cond b (change r ++ rs) (r ∷ at_row other change missing rs))
      by true is rest = AllFit-append (change r) rs (changed r is fit.0) fit.1
      by false is rest = (fit.0, rest)

  without_fits : (other : Text) (rows : List Row) → AllFit rows → AllFit (without other rows)
  without_fits other rows fit = at_row_fits other (λ r. []) [] rows (λ r is fits. tt) tt fit

  apart : (other text : Text) → bytes_eq other id ≡ false → bytes_eq text other ≡ true → bytes_eq text id ≡ true → ⊥
  apart other text differs first second =
      let same : bytes_eq other id ≡ true = subst (λ t. bytes_eq t id ≡ true) ((bytes_eq-Decides text other).0 first) second in
      cc

  -- values of another argument
  others_fit : (other : Text) (how : Reading) (source : ValueSource) (values : List Text) (rows : List Row) → bytes_eq other id ≡ false → AllFit rows
      → AllFit (with_values other how source values rows)
  others_fit other how source values rows differs fit =
      at_row_fits other (more_values source values) _ rows (λ r is fits. ((λ own. absurd (apart other r.id differs is own)), tt)) ((λ own. cc), tt) fit

  -- values of the argument itself
  own_fit : (how : Reading) (source : ValueSource) (values : List Text) (rows : List Row) → how ≡ AsWritten → list_all (is_unsigned_in low high) values ≡ true → AllFit rows
      → AllFit (with_values id how source values rows)
  own_fit how source values rows is passed fit =
      at_row_fits id (more_values source values) _ rows (λ r here fits. ((λ own. (list_all-append (is_unsigned_in low high) r.values values (fits here).0 passed, (fits here).1)), tt)) ((λ own. (passed, is)), tt) fit

  default_fits : (a : Rule) (rows : List Row) → AllFit (default_rows a.id (reading_by a) a.defaults rows) → AllFit rows → AllFit (with_default rows a)
  default_fits a rows given fit = by (has_row a.id rows)
    where
      by : (b : Bool) → AllFit (cond b rows (default_rows a.id (reading_by a) a.defaults rows))
      by true = fit
      by false = given

  kept_default : (a : Rule) (rows : List Row) → (AllFit rows → AllFit (default_rows a.id (reading_by a) a.defaults rows)) → AllFit rows → AllFit (with_default rows a)
  kept_default a rows given fit = default_fits a rows (given fit) fit

  flag_default : (name : Text) (rows : List Row) → bytes_eq name id ≡ false → AllFit rows → AllFit (with_default rows (filled (flag_rule name)))
  flag_default name rows differs fit = default_fits (filled (flag_rule name)) rows (others_fit name AsWritten DefaultValue (codes "false" ∷ []) rows differs fit) fit

  -- a text that is read of them is one of these numbers
  text_fits : (rows : List Row) (text : Text) → AllFit rows → one_of id rows ≡ Some text → is_unsigned_in low high text ≡ true
  text_fits [] text fit reads = cc
  text_fits (r ∷ rs) text fit reads = by (bytes_eq r.id id) refl reads (text_fits rs text fit.1)
    where
      first : (values : List Text) (how : Reading) → how ≡ AsWritten → list_all (is_unsigned_in low high) values ≡ true → option_map (read_as how) (slice_get values 0) ≡ Some text
          → is_unsigned_in low high text ≡ true
      first [] how is passed reads = cc
      first (v ∷ vs) how is passed reads =
          let same : Some v ≡ Some text = ap (λ h. Some (read_as h v)) (sym is) ∙ reads in
          let word : v ≡ text = cc in
          subst (λ t. is_unsigned_in low high t ≡ true) word (head (is_unsigned_in low high v) passed)
        where
          head : (b : Bool) → (b && list_all (is_unsigned_in low high) vs) ≡ true → b ≡ true
          head true e = refl
          head false e = e

      by : (b : Bool) → bytes_eq r.id id ≡ b → option_and_then row_text (cond b (Some r) (find (λ x. bytes_eq x.id id) rs)) ≡ Some text
          → (one_of id rs ≡ Some text → is_unsigned_in low high text ≡ true) → is_unsigned_in low high text ≡ true
      by true is reads rest = first r.values r.reading (fit.0 is).1 (fit.0 is).0 reads
      by false is reads rest = rest reads

  -- a use of the argument that is not at fault, in its range, in the number of its uses and in its values
  used_fits : (counted repeated : Kinds) (values : List Text) (rows : List Row) → or_else counted (or_else repeated (values_kinds false (Unsigned low high) values)) ≡ [] → AllFit rows
      → AllFit (with_values id AsWritten CommandLine values (without id rows))
  used_fits counted repeated values rows none fit =
      let first = both_pass counted (or_else repeated (values_kinds false (Unsigned low high) values)) none in
      let second = both_pass repeated (values_kinds false (Unsigned low high) values) first.1 in
      own_fit AsWritten CommandLine values (without id rows) refl (accepted false (Unsigned low high) values second.1) (without_fits id rows fit)

  -- a use of another
  other_used_fits : (other : Text) (how : Reading) (values : List Text) (rows : List Row) → bytes_eq other id ≡ false → AllFit rows
      → AllFit (with_values other how CommandLine values (without other rows))
  other_used_fits other how values rows differs fit = others_fit other how CommandLine values (without other rows) differs (without_fits other rows fit)

  -- each use of an option of `explore` keeps them, where one of a number does
  each_use_fits : (values : List Text) (rows : List Row) → (use_fault false depth_built values rows ≡ [] → AllFit (used depth_built values rows))
      → (use_fault false nodes_built values rows ≡ [] → AllFit (used nodes_built values rows)) → (use_fault false workers_built values rows ≡ [] → AllFit (used workers_built values rows))
      → AreOthers id → bytes_eq (codes "explain") id ≡ false → bytes_eq (codes "cover") id ≡ false → bytes_eq (codes "job") id ≡ false → bytes_eq (codes "states") id ≡ false
      → bytes_eq (codes "at-once") id ≡ false → bytes_eq (codes "format") id ≡ false
      → (p : Rule → Bool) (a : Rule) → find p explore_built.rules ≡ Some a → use_fault false a values rows ≡ [] → AllFit rows → AllFit (used a values rows)
  each_use_fits values rows depth nodes workers others no_explain no_cover no_job no_states no_at_once no_format p a found none fit = by (among p explore_built.rules a found)
    where
      at : (x : Rule) → a ≡ x → (use_fault false x values rows ≡ [] → AllFit (used x values rows)) → AllFit (used a values rows)
      at x is kept = subst (λ y. use_fault false y values rows ≡ [] → AllFit (used y values rows)) (sym is) kept none

      by : Among a explore_built.rules → AllFit (used a values rows)
      by (inl is) = at depth_built is depth
      by (inr (inl is)) = at nodes_built is nodes
      by (inr (inr (inl is))) = at workers_built is workers
      by (inr (inr (inr (inl is)))) = at _ is (λ none. other_used_fits (codes "allow-deadlock") AsWritten _ rows others.allow_deadlock fit)
      by (inr (inr (inr (inr (inl is))))) = at _ is (λ none. other_used_fits (codes "main-deadlock") AsWritten _ rows others.main_deadlock fit)
      by (inr (inr (inr (inr (inr (inl is)))))) = at _ is (λ none. other_used_fits (codes "idle-servers") AsWritten _ rows others.idle_servers fit)
      by (inr (inr (inr (inr (inr (inr (inl is))))))) = at _ is (λ none. others_fit (codes "normal") AsWritten CommandLine _ rows others.normal fit)
      by (inr (inr (inr (inr (inr (inr (inr (inl is)))))))) = at _ is (λ none. other_used_fits (codes "strict-access") AsWritten _ rows others.strict_access fit)
      by (inr (inr (inr (inr (inr (inr (inr (inr (inl is))))))))) = at _ is (λ none. other_used_fits (codes "explain") AsWritten _ rows no_explain fit)
      by (inr (inr (inr (inr (inr (inr (inr (inr (inr (inl is)))))))))) = at _ is (λ none. other_used_fits (codes "cover") AsWritten _ rows no_cover fit)
      by (inr (inr (inr (inr (inr (inr (inr (inr (inr (inr (inl is))))))))))) = at _ is (λ none. other_used_fits (codes "job") AsWritten _ rows no_job fit)
      by (inr (inr (inr (inr (inr (inr (inr (inr (inr (inr (inr (inl is)))))))))))) = at _ is (λ none. other_used_fits (codes "states") AsWritten _ rows no_states fit)
      by (inr (inr (inr (inr (inr (inr (inr (inr (inr (inr (inr (inr (inl is))))))))))))) = at _ is (λ none. other_used_fits (codes "at-once") AsWritten _ rows no_at_once fit)
      by (inr (inr (inr (inr (inr (inr (inr (inr (inr (inr (inr (inr (inr (inl is)))))))))))))) = at _ is (λ none. other_used_fits (codes "format") AsWritten _ rows no_format fit)
      by (inr (inr (inr (inr (inr (inr (inr (inr (inr (inr (inr (inr (inr (inr (inl is))))))))))))))) = at _ is (λ none. fit)
      by (inr (inr (inr (inr (inr (inr (inr (inr (inr (inr (inr (inr (inr (inr (inr nothing))))))))))))))) = absurd nothing

  -- and so does each of `check`
  each_check_use_fits : (values : List Text) (rows : List Row) → (use_fault false depth_built values rows ≡ [] → AllFit (used depth_built values rows))
      → AreOthers id → (p : Rule → Bool) (a : Rule) → find p check_built.rules ≡ Some a → use_fault false a values rows ≡ [] → AllFit rows → AllFit (used a values rows)
  each_check_use_fits values rows depth others p a found none fit = by (among p check_built.rules a found)
    where
      at : (x : Rule) → a ≡ x → (use_fault false x values rows ≡ [] → AllFit (used x values rows)) → AllFit (used a values rows)
      at x is kept = subst (λ y. use_fault false y values rows ≡ [] → AllFit (used y values rows)) (sym is) kept none

      by : Among a check_built.rules → AllFit (used a values rows)
      by (inl is) = at depth_built is depth
      by (inr (inl is)) = at _ is (λ none. other_used_fits (codes "allow-deadlock") AsWritten _ rows others.allow_deadlock fit)
      by (inr (inr (inl is))) = at _ is (λ none. other_used_fits (codes "main-deadlock") AsWritten _ rows others.main_deadlock fit)
      by (inr (inr (inr (inl is)))) = at _ is (λ none. other_used_fits (codes "idle-servers") AsWritten _ rows others.idle_servers fit)
      by (inr (inr (inr (inr (inl is))))) = at _ is (λ none. others_fit (codes "normal") AsWritten CommandLine _ rows others.normal fit)
      by (inr (inr (inr (inr (inr (inl is)))))) = at _ is (λ none. other_used_fits (codes "strict-access") AsWritten _ rows others.strict_access fit)
      by (inr (inr (inr (inr (inr (inr (inl is))))))) = at _ is (λ none. fit)
      by (inr (inr (inr (inr (inr (inr (inr nothing))))))) = absurd nothing

  -- and of a command that splits the tree
  each_split_use_fits : (name : Text) (values : List Text) (rows : List Row) → (use_fault false depth_built values rows ≡ [] → AllFit (used depth_built values rows))
      → (use_fault false at_built values rows ≡ [] → AllFit (used at_built values rows))
      → AreOthers id → (p : Rule → Bool) (a : Rule) → find p (split_built name).rules ≡ Some a → use_fault false a values rows ≡ [] → AllFit rows → AllFit (used a values rows)
  each_split_use_fits name values rows depth place others p a found none fit = by (among p (split_built name).rules a found)
    where
      at : (x : Rule) → a ≡ x → (use_fault false x values rows ≡ [] → AllFit (used x values rows)) → AllFit (used a values rows)
      at x is kept = subst (λ y. use_fault false y values rows ≡ [] → AllFit (used y values rows)) (sym is) kept none

      by : Among a (split_built name).rules → AllFit (used a values rows)
      by (inl is) = at depth_built is depth
      by (inr (inl is)) = at at_built is place
      by (inr (inr (inl is))) = at _ is (λ none. other_used_fits (codes "allow-deadlock") AsWritten _ rows others.allow_deadlock fit)
      by (inr (inr (inr (inl is)))) = at _ is (λ none. other_used_fits (codes "main-deadlock") AsWritten _ rows others.main_deadlock fit)
      by (inr (inr (inr (inr (inl is))))) = at _ is (λ none. other_used_fits (codes "idle-servers") AsWritten _ rows others.idle_servers fit)
      by (inr (inr (inr (inr (inr (inl is)))))) = at _ is (λ none. others_fit (codes "normal") AsWritten CommandLine _ rows others.normal fit)
      by (inr (inr (inr (inr (inr (inr (inl is))))))) = at _ is (λ none. other_used_fits (codes "strict-access") AsWritten _ rows others.strict_access fit)
      by (inr (inr (inr (inr (inr (inr (inr (inl is)))))))) = at _ is (λ none. fit)
      by (inr (inr (inr (inr (inr (inr (inr (inr nothing)))))))) = absurd nothing

  -- and of `sample`
  each_sample_use_fits : (values : List Text) (rows : List Row) → (use_fault false depth_built values rows ≡ [] → AllFit (used depth_built values rows))
      → (use_fault false runs_built values rows ≡ [] → AllFit (used runs_built values rows)) → (use_fault false seed_built values rows ≡ [] → AllFit (used seed_built values rows))
      → AreOthers id → bytes_eq (codes "explain") id ≡ false → bytes_eq (codes "at-once") id ≡ false → bytes_eq (codes "format") id ≡ false
      → (p : Rule → Bool) (a : Rule) → find p sample_built.rules ≡ Some a → use_fault false a values rows ≡ [] → AllFit rows → AllFit (used a values rows)
  each_sample_use_fits values rows depth runs seed others no_explain no_at_once no_format p a found none fit = by (among p sample_built.rules a found)
    where
      at : (x : Rule) → a ≡ x → (use_fault false x values rows ≡ [] → AllFit (used x values rows)) → AllFit (used a values rows)
      at x is kept = subst (λ y. use_fault false y values rows ≡ [] → AllFit (used y values rows)) (sym is) kept none

      by : Among a sample_built.rules → AllFit (used a values rows)
      by (inl is) = at depth_built is depth
      by (inr (inl is)) = at runs_built is runs
      by (inr (inr (inl is))) = at seed_built is seed
      by (inr (inr (inr (inl is)))) = at _ is (λ none. other_used_fits (codes "allow-deadlock") AsWritten _ rows others.allow_deadlock fit)
      by (inr (inr (inr (inr (inl is))))) = at _ is (λ none. other_used_fits (codes "main-deadlock") AsWritten _ rows others.main_deadlock fit)
      by (inr (inr (inr (inr (inr (inl is)))))) = at _ is (λ none. other_used_fits (codes "idle-servers") AsWritten _ rows others.idle_servers fit)
      by (inr (inr (inr (inr (inr (inr (inl is))))))) = at _ is (λ none. others_fit (codes "normal") AsWritten CommandLine _ rows others.normal fit)
      by (inr (inr (inr (inr (inr (inr (inr (inl is)))))))) = at _ is (λ none. other_used_fits (codes "strict-access") AsWritten _ rows others.strict_access fit)
      by (inr (inr (inr (inr (inr (inr (inr (inr (inl is))))))))) = at _ is (λ none. other_used_fits (codes "explain") AsWritten _ rows no_explain fit)
      by (inr (inr (inr (inr (inr (inr (inr (inr (inr (inl is)))))))))) = at _ is (λ none. other_used_fits (codes "at-once") AsWritten _ rows no_at_once fit)
      by (inr (inr (inr (inr (inr (inr (inr (inr (inr (inr (inl is))))))))))) = at _ is (λ none. other_used_fits (codes "format") AsWritten _ rows no_format fit)
      by (inr (inr (inr (inr (inr (inr (inr (inr (inr (inr (inr (inl is)))))))))))) = at _ is (λ none. fit)
      by (inr (inr (inr (inr (inr (inr (inr (inr (inr (inr (inr (inr nothing)))))))))))) = absurd nothing

  -- and so does each default of `explore`
  defaults_fit : (rows : List Row) → ((rows : List Row) → AllFit rows → AllFit (with_values (codes "nodes") AsWritten DefaultValue (codes "1000000" ∷ []) rows))
      → ((rows : List Row) → AllFit rows → AllFit (with_values (codes "workers") AsWritten DefaultValue (codes "1" ∷ []) rows))
      → AreOthers id → bytes_eq (codes "explain") id ≡ false → bytes_eq (codes "cover") id ≡ false → bytes_eq (codes "states") id ≡ false → bytes_eq (codes "at-once") id ≡ false → AllFit rows
      → AllFit (fold with_default rows explore_built.rules)
  defaults_fit rows nodes workers others no_explain no_cover no_states no_at_once fit =
      let one = kept_default depth_built rows (λ fit. fit) fit in
      let two = kept_default nodes_built _ (nodes _) one in
      let three = kept_default workers_built _ (workers _) two in
      let four = flag_default (codes "allow-deadlock") _ others.allow_deadlock three in
      let five = flag_default (codes "main-deadlock") _ others.main_deadlock four in
      let six = flag_default (codes "idle-servers") _ others.idle_servers five in
      let seven = kept_default (filled normal_rule) _ (λ fit. fit) six in
      let eight = flag_default (codes "strict-access") _ others.strict_access seven in
      let nine = flag_default (codes "explain") _ no_explain eight in
      let ten = flag_default (codes "cover") _ no_cover nine in
      let eleven = kept_default (filled job_rule) _ (λ fit. fit) ten in
      let twelve = flag_default (codes "states") _ no_states eleven in
      let thirteen = flag_default (codes "at-once") _ no_at_once twelve in
      let fourteen = kept_default (filled format_rule) _ (λ fit. fit) thirteen in
      kept_default (filled help_rule) _ (λ fit. fit) fourteen

  -- and of `check`
  check_defaults_fit : (rows : List Row) → AreOthers id → AllFit rows → AllFit (fold with_default rows check_built.rules)
  check_defaults_fit rows others fit =
      let one = kept_default depth_built rows (λ fit. fit) fit in
      let two = flag_default (codes "allow-deadlock") _ others.allow_deadlock one in
      let three = flag_default (codes "main-deadlock") _ others.main_deadlock two in
      let four = flag_default (codes "idle-servers") _ others.idle_servers three in
      let five = kept_default (filled normal_rule) _ (λ fit. fit) four in
      let six = flag_default (codes "strict-access") _ others.strict_access five in
      kept_default (filled help_rule) _ (λ fit. fit) six

  -- and of a command that splits the tree
  split_defaults_fit : (name : Text) (rows : List Row) → AreOthers id → AllFit rows → AllFit (fold with_default rows (split_built name).rules)
  split_defaults_fit name rows others fit =
      let one = kept_default depth_built rows (λ fit. fit) fit in
      let two = kept_default at_built _ (λ fit. fit) one in
      let three = flag_default (codes "allow-deadlock") _ others.allow_deadlock two in
      let four = flag_default (codes "main-deadlock") _ others.main_deadlock three in
      let five = flag_default (codes "idle-servers") _ others.idle_servers four in
      let six = kept_default (filled normal_rule) _ (λ fit. fit) five in
      let seven = flag_default (codes "strict-access") _ others.strict_access six in
      kept_default (filled help_rule) _ (λ fit. fit) seven

  -- and of `sample`
  sample_defaults_fit : (rows : List Row) → ((rows : List Row) → AllFit rows → AllFit (with_values (codes "runs") AsWritten DefaultValue (codes "1000" ∷ []) rows))
      → ((rows : List Row) → AllFit rows → AllFit (with_values (codes "seed") AsWritten DefaultValue (codes "1" ∷ []) rows))
      → AreOthers id → bytes_eq (codes "explain") id ≡ false → bytes_eq (codes "at-once") id ≡ false → AllFit rows → AllFit (fold with_default rows sample_built.rules)
  sample_defaults_fit rows runs seed others no_explain no_at_once fit =
      let one = kept_default depth_built rows (λ fit. fit) fit in
      let two = kept_default runs_built _ (runs _) one in
      let three = kept_default seed_built _ (seed _) two in
      let four = flag_default (codes "allow-deadlock") _ others.allow_deadlock three in
      let five = flag_default (codes "main-deadlock") _ others.main_deadlock four in
      let six = flag_default (codes "idle-servers") _ others.idle_servers five in
      let seven = kept_default (filled normal_rule) _ (λ fit. fit) six in
      let eight = flag_default (codes "strict-access") _ others.strict_access seven in
      let nine = flag_default (codes "explain") _ no_explain eight in
      let ten = flag_default (codes "at-once") _ no_at_once nine in
      let eleven = kept_default (filled format_rule) _ (λ fit. fit) ten in
      kept_default (filled help_rule) _ (λ fit. fit) eleven

  -- what a walk without a fault leaves of an id
  left_fits : (s : Shape) (words : List Text) (text : Text)
      → ((p : Rule → Bool) (a : Rule) (values : List Text) (rows : List Row) → find p s.rules ≡ Some a → use_fault s.args_override_self a values rows ≡ [] → AllFit rows → AllFit (used a values rows))
      → ((rows : List Row) → AllFit rows → AllFit (fold with_default rows s.rules))
      → level_fault s [] nothing_held words false [] ≡ [] → one_of id (rows_after s.rules [] words) ≡ Some text → is_unsigned_in low high text ≡ true
  left_fits s words text uses defaults none reads =
      let first = both_pass (walk_fault s [] (walk_from nothing_held) words) _ none in
      let second = both_pass (settle_fault s.rules s.args_override_self (walk s.rules [] nothing_held words).held) _ first.1 in
      text_fits (rows_after s.rules [] words) text (defaults _ (walk_leaves s AllFit uses [] words nothing_held first.0 second.0 tt)) reads

depth_apart : AreOthers (codes "depth")
depth_apart = record { allow_deadlock = refl; main_deadlock = refl; idle_servers = refl; normal = refl; strict_access = refl }

nodes_apart : AreOthers (codes "nodes")
nodes_apart = record { allow_deadlock = refl; main_deadlock = refl; idle_servers = refl; normal = refl; strict_access = refl }

workers_apart : AreOthers (codes "workers")
workers_apart = record { allow_deadlock = refl; main_deadlock = refl; idle_servers = refl; normal = refl; strict_access = refl }

runs_apart : AreOthers (codes "runs")
runs_apart = record { allow_deadlock = refl; main_deadlock = refl; idle_servers = refl; normal = refl; strict_access = refl }

seed_apart : AreOthers (codes "seed")
seed_apart = record { allow_deadlock = refl; main_deadlock = refl; idle_servers = refl; normal = refl; strict_access = refl }

-- where a command is not at fault, its depth is in its range
pub depth_fits : (level : Level) (words : List Text) (text : Text) → level_fault (built_of level) [] nothing_held words false [] ≡ [] → one_of (codes "depth") (rows_after (built_of level).rules [] words) ≡ Some text
    → is_unsigned_in 0 400 text ≡ true
depth_fits exploring words text =
    left_fits (codes "depth") 0 400 explore_built words text
    (λ p a values rows found none fit. each_use_fits (codes "depth") 0 400 values rows (λ none. used_fits (codes "depth") 0 400 _ _ _ rows none fit)
    (λ none. other_used_fits (codes "depth") 0 400 (codes "nodes") AsWritten _ rows refl fit) (λ none. other_used_fits (codes "depth") 0 400 (codes "workers") AsWritten _ rows refl fit) depth_apart refl refl refl refl refl refl p a found none fit)
    (λ rows fit. defaults_fit (codes "depth") 0 400 rows (λ rows fit. others_fit (codes "depth") 0 400 (codes "nodes") AsWritten DefaultValue _ rows refl fit)
    (λ rows fit. others_fit (codes "depth") 0 400 (codes "workers") AsWritten DefaultValue _ rows refl fit) depth_apart refl refl refl refl fit)
depth_fits checking words text =
    left_fits (codes "depth") 0 400 check_built words text
    (λ p a values rows found none fit. each_check_use_fits (codes "depth") 0 400 values rows (λ none. used_fits (codes "depth") 0 400 _ _ _ rows none fit) depth_apart p a found none fit)
    (λ rows fit. check_defaults_fit (codes "depth") 0 400 rows depth_apart fit)
depth_fits sampling words text =
    left_fits (codes "depth") 0 400 sample_built words text
    (λ p a values rows found none fit. each_sample_use_fits (codes "depth") 0 400 values rows (λ none. used_fits (codes "depth") 0 400 _ _ _ rows none fit)
    (λ none. other_used_fits (codes "depth") 0 400 (codes "runs") AsWritten _ rows refl fit) (λ none. other_used_fits (codes "depth") 0 400 (codes "seed") AsWritten _ rows refl fit) depth_apart refl refl refl p a found none fit)
    (λ rows fit. sample_defaults_fit (codes "depth") 0 400 rows (λ rows fit. others_fit (codes "depth") 0 400 (codes "runs") AsWritten DefaultValue _ rows refl fit)
    (λ rows fit. others_fit (codes "depth") 0 400 (codes "seed") AsWritten DefaultValue _ rows refl fit) depth_apart refl refl fit)
depth_fits (splitting which) words text =
    left_fits (codes "depth") 0 400 (split_built (split_name which)) words text
    (λ p a values rows found none fit. each_split_use_fits (codes "depth") 0 400 (split_name which) values rows (λ none. used_fits (codes "depth") 0 400 _ _ _ rows none fit)
    (λ none. other_used_fits (codes "depth") 0 400 (codes "at") AsWritten _ rows refl fit) depth_apart p a found none fit)
    (λ rows fit. split_defaults_fit (codes "depth") 0 400 (split_name which) rows depth_apart fit)

-- and the numbers of nodes and of workers of an exploration are in theirs
pub nodes_fits : (words : List Text) (text : Text) → level_fault explore_built [] nothing_held words false [] ≡ [] → one_of (codes "nodes") (rows_after explore_built.rules [] words) ≡ Some text
    → is_unsigned_in 1 10000000 text ≡ true
nodes_fits words text =
    left_fits (codes "nodes") 1 10000000 explore_built words text
    (λ p a values rows found none fit. each_use_fits (codes "nodes") 1 10000000 values rows (λ none. other_used_fits (codes "nodes") 1 10000000 (codes "depth") AsWritten _ rows refl fit)
    (λ none. used_fits (codes "nodes") 1 10000000 _ _ _ rows none fit) (λ none. other_used_fits (codes "nodes") 1 10000000 (codes "workers") AsWritten _ rows refl fit) nodes_apart refl refl refl refl refl refl p a found none fit)
    (λ rows fit. defaults_fit (codes "nodes") 1 10000000 rows (λ rows fit. own_fit (codes "nodes") 1 10000000 AsWritten DefaultValue _ rows refl refl fit)
    (λ rows fit. others_fit (codes "nodes") 1 10000000 (codes "workers") AsWritten DefaultValue _ rows refl fit) nodes_apart refl refl refl refl fit)

pub workers_fits : (words : List Text) (text : Text) → level_fault explore_built [] nothing_held words false [] ≡ [] → one_of (codes "workers") (rows_after explore_built.rules [] words) ≡ Some text
    → is_unsigned_in 1 16 text ≡ true
workers_fits words text =
    left_fits (codes "workers") 1 16 explore_built words text
    (λ p a values rows found none fit. each_use_fits (codes "workers") 1 16 values rows (λ none. other_used_fits (codes "workers") 1 16 (codes "depth") AsWritten _ rows refl fit)
    (λ none. other_used_fits (codes "workers") 1 16 (codes "nodes") AsWritten _ rows refl fit) (λ none. used_fits (codes "workers") 1 16 _ _ _ rows none fit) workers_apart refl refl refl refl refl refl p a found none fit)
    (λ rows fit. defaults_fit (codes "workers") 1 16 rows (λ rows fit. others_fit (codes "workers") 1 16 (codes "nodes") AsWritten DefaultValue _ rows refl fit)
    (λ rows fit. own_fit (codes "workers") 1 16 AsWritten DefaultValue _ rows refl refl fit) workers_apart refl refl refl refl fit)

-- and so are the number of random schedules and their seed
pub runs_fits : (words : List Text) (text : Text) → level_fault sample_built [] nothing_held words false [] ≡ [] → one_of (codes "runs") (rows_after sample_built.rules [] words) ≡ Some text
    → is_unsigned_in 1 1000000 text ≡ true
runs_fits words text =
    left_fits (codes "runs") 1 1000000 sample_built words text
    (λ p a values rows found none fit. each_sample_use_fits (codes "runs") 1 1000000 values rows (λ none. other_used_fits (codes "runs") 1 1000000 (codes "depth") AsWritten _ rows refl fit)
    (λ none. used_fits (codes "runs") 1 1000000 _ _ _ rows none fit) (λ none. other_used_fits (codes "runs") 1 1000000 (codes "seed") AsWritten _ rows refl fit) runs_apart refl refl refl p a found none fit)
    (λ rows fit. sample_defaults_fit (codes "runs") 1 1000000 rows (λ rows fit. own_fit (codes "runs") 1 1000000 AsWritten DefaultValue _ rows refl refl fit)
    (λ rows fit. others_fit (codes "runs") 1 1000000 (codes "seed") AsWritten DefaultValue _ rows refl fit) runs_apart refl refl fit)

pub seed_fits : (words : List Text) (text : Text) → level_fault sample_built [] nothing_held words false [] ≡ [] → one_of (codes "seed") (rows_after sample_built.rules [] words) ≡ Some text
    → is_unsigned_in 0 4294967295 text ≡ true
seed_fits words text =
    left_fits (codes "seed") 0 4294967295 sample_built words text
    (λ p a values rows found none fit. each_sample_use_fits (codes "seed") 0 4294967295 values rows (λ none. other_used_fits (codes "seed") 0 4294967295 (codes "depth") AsWritten _ rows refl fit)
    (λ none. other_used_fits (codes "seed") 0 4294967295 (codes "runs") AsWritten _ rows refl fit) (λ none. used_fits (codes "seed") 0 4294967295 _ _ _ rows none fit) seed_apart refl refl refl p a found none fit)
    (λ rows fit. sample_defaults_fit (codes "seed") 0 4294967295 rows (λ rows fit. others_fit (codes "seed") 0 4294967295 (codes "runs") AsWritten DefaultValue _ rows refl fit)
    (λ rows fit. own_fit (codes "seed") 0 4294967295 AsWritten DefaultValue _ rows refl refl fit) seed_apart refl refl fit)
