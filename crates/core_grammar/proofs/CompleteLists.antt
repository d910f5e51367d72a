-- What is spelt as a list is read.
use Rattle.std.proofs.Common.{◌≡◌, ℕ, zero, suc, ◌<◌, ◌≤◌, true, false, List, ◌∷◌, length, Some, None, Ok, refl, ap, arith}
use Rattle.std.specs.Prelude.{◌==◌, nat_lt}
use Rattle.std.proofs.lemmas.Bool.Decides.{nat_tests}
use Rattle.core_tokens.specs.declared.token.Mark.{Mark}
use Rattle.core_tokens.specs.declared.token.Mark.TheVariants as m
use Rattle.core_tokens.specs.declared.token.Keyword.{Keyword}
use Rattle.core_tokens.specs.Piece.{Piece}
use Rattle.core_grammar.specs.Grammar.{mark, word, atom, Commas, spells_one, spells_next, Enclosed, spells_none, spells_some, Row, ends_here, goes_on}
use Rattle.core_grammar.specs.inside.Decoder.{State, Read, mark_number, word_number, after_mark, after_word, mark_at, word_at, atom_at, commas_at, items_at, closed_at, brackets_at, exactly_at, row_at, rows_at}
use Rattle.core_grammar.specs.Whole.{start}

abbrev pub Complete : {X : Type 0} → (State → Read X) → (List Piece → X → List Piece → Type 0) → Type 0
Complete {X = X} item Item = (stop : ℕ) (ps : List Piece) (x : X) (rest : List Piece) → Item ps x rest → item (start stop ps) ≡ Ok (x, start stop rest)

-- what is spelt takes a token
abbrev pub TakesOne : {X : Type 0} → (List Piece → X → List Piece → Type 0) → Type 0
TakesOne {X = X} Item = (ps : List Piece) (x : X) (rest : List Piece) → Item ps x rest → length rest < length ps

-- ---- tokens

number_own : (n : ℕ) → (n == n) ≡ true
number_own n = grind (arith, nat_tests)

pub mark_again : (x : Mark) (stop at : ℕ) (ps : List Piece) → mark_at x (start stop (mark at x ∷ ps)) ≡ Ok (start stop ps)
unfolding mark_at
mark_again x stop at ps = rw (number_own (mark_number x)) refl

pub found_again : (x : Mark) (at : ℕ) (ps : List Piece) → after_mark x (mark at x ∷ ps) ≡ Some ps
found_again x at ps = rw (number_own (mark_number x)) refl

pub word_again : (x : Keyword) (stop at : ℕ) (ps : List Piece) → word_at x (start stop (word at x ∷ ps)) ≡ Ok (start stop ps)
unfolding word_at
word_again x stop at ps = rw (number_own (word_number x)) refl

pub atom_again : (stop at : ℕ) (t : List ℕ) (ps : List Piece) → atom_at (start stop (atom at t ∷ ps)) ≡ Ok (t, start stop ps)
unfolding atom_at
atom_again stop at t ps = refl

pub less_again : (n m : ℕ) → n < m → nat_lt n m ≡ true
less_again n m h = grind (arith, nat_tests)

-- ---- lists

-- a mark that closes: no item begins with it, and it is no comma
pub record IsClosing (close : Mark) : Type 0 where
  pub parenthesis : (0 == mark_number close) ≡ false
  pub bracket : (2 == mark_number close) ≡ false
  pub brace : (4 == mark_number close) ≡ false
  pub less : (6 == mark_number close) ≡ false
  pub comma : (mark_number close == 8) ≡ false

pub closing_brace : IsClosing m.RightBrace
closing_brace = record { parenthesis = refl; bracket = refl; brace = refl; less = refl; comma = refl }

pub closing_bracket : IsClosing m.RightBracket
closing_bracket = record { parenthesis = refl; bracket = refl; brace = refl; less = refl; comma = refl }

pub closing_parenthesis : IsClosing m.RightParenthesis
closing_parenthesis = record { parenthesis = refl; bracket = refl; brace = refl; less = refl; comma = refl }

pub closing_greater : IsClosing m.Greater
closing_greater = record { parenthesis = refl; bracket = refl; brace = refl; less = refl; comma = refl }

abbrev pub BeginsElse : {X : Type 0} → (List Piece → X → List Piece → Type 0) → Type 0
BeginsElse {X = X} Item = (close : Mark) → IsClosing close → (ps : List Piece) (x : X) (rest : List Piece) → Item ps x rest → after_mark close ps ≡ None

module _ {X : Type 0} (Item : List Piece → X → List Piece → Type 0) (takes : TakesOne Item) where
  pub commas_take : (ps : List Piece) (xs : List X) (rest : List Piece) → Commas Item ps xs rest → length rest < length ps
  commas_take ps xs rest (spells_one {x = x} h) = takes ps x rest h
  commas_take ps xs rest (spells_next {more = more} {at = at} {x = x} {xs = ys} h g) = omega (arith, takes ps x (mark at m.Comma ∷ more) h, commas_take more ys rest g)

  pub enclosed_take : (close : Mark) (ps : List Piece) (xs : List X) (rest : List Piece) → Enclosed Item close ps xs rest → length rest < length ps
  enclosed_take close ps xs rest spells_none = omega arith
  enclosed_take close ps xs rest (spells_some {at = at} h) = omega (arith, commas_take ps xs (mark at close ∷ rest) h)

module _ {X : Type 0} (item : State → Read X) (Item : List Piece → X → List Piece → Type 0) (each : Complete item Item) (takes : TakesOne Item) (begins : BeginsElse Item) where
  commas_begin : (close : Mark) → IsClosing close → (ps : List Piece) (xs : List X) (rest : List Piece) → Commas Item ps xs rest → after_mark close ps ≡ None
  commas_begin close is ps xs rest (spells_one {x = x} h) = begins close is ps x rest h
  commas_begin close is ps xs rest (spells_next {more = more} {at = at} {x = x} h g) = begins close is ps x (mark at m.Comma ∷ more) h

  commas_complete : (n stop : ℕ) (ps : List Piece) (xs : List X) (rest : List Piece) → length ps ≤ n → Commas Item ps xs rest → after_mark m.Comma rest ≡ None → commas_at item n (start stop ps) ≡ Ok (xs, start stop rest)
  unfolding commas_at
  commas_complete zero stop ps xs rest le h ends = absurd (omega (arith, commas_take Item takes ps xs rest h))
  commas_complete (suc n) stop ps xs rest le (spells_one {x = x} h) ends = rw (each stop ps x rest h, ends) refl
  commas_complete (suc n) stop ps xs rest le (spells_next {more = more} {at = at} {x = x} {xs = ys} h g) ends =
      let short : length more ≤ n = omega (arith, takes ps x (mark at m.Comma ∷ more) h) in
      rw (each stop ps x (mark at m.Comma ∷ more) h, commas_complete n stop more ys rest short g ends) refl

  items_complete : (stop : ℕ) (ps : List Piece) (xs : List X) (rest : List Piece) → Commas Item ps xs rest → after_mark m.Comma rest ≡ None → items_at item (start stop ps) ≡ Ok (xs, start stop rest)
  unfolding items_at
  items_complete stop ps xs rest h ends = commas_complete (length ps) stop ps xs rest (omega arith) h ends

  no_comma : (close : Mark) → IsClosing close → (at : ℕ) (ps : List Piece) → after_mark m.Comma (mark at close ∷ ps) ≡ None
  no_comma close is at ps = rw is.comma refl

  pub closed_complete : (close : Mark) → IsClosing close → (stop : ℕ) (ps : List Piece) (xs : List X) (rest : List Piece) → Enclosed Item close ps xs rest → closed_at item close (start stop ps) ≡ Ok (xs, start stop rest)
  unfolding closed_at
  closed_complete close is stop ps xs rest (spells_none {at = at}) = rw (number_own (mark_number close)) refl
  closed_complete close is stop ps xs rest (spells_some {at = at} h) =
      rw (commas_begin close is ps xs (mark at close ∷ rest) h, items_complete stop ps xs (mark at close ∷ rest) h (no_comma close is at rest), mark_again close stop at rest) refl

  pub brackets_complete : (stop : ℕ) (ps : List Piece) (xs : List X) (rest : List Piece) → Enclosed Item m.RightBracket ps xs rest → brackets_at item (start stop ps) ≡ Ok ((xs, None), start stop rest)
  unfolding brackets_at
  brackets_complete stop ps xs rest (spells_none {at = at}) = refl
  brackets_complete stop ps xs rest (spells_some {at = at} h) =
      rw (commas_begin m.RightBracket closing_bracket ps xs (mark at m.RightBracket ∷ rest) h, items_complete stop ps xs (mark at m.RightBracket ∷ rest) h refl, mark_again m.RightBracket stop at rest) refl

  pub join_complete : (stop at bt : ℕ) (ps more : List Piece) (xs : List X) (x : X) (rest : List Piece) → Commas Item ps xs (mark at m.Bar ∷ more) → Item more x (mark bt m.RightBracket ∷ rest) → brackets_at item (start stop ps) ≡ Ok ((xs, Some x), start stop rest)
  unfolding brackets_at
  join_complete stop at bt ps more xs x rest h g =
      rw (commas_begin m.RightBracket closing_bracket ps xs (mark at m.Bar ∷ more) h, items_complete stop ps xs (mark at m.Bar ∷ more) h refl, each stop more x (mark bt m.RightBracket ∷ rest) g, mark_again m.RightBracket stop bt rest) refl

  -- ---- exactly so many items

  others_again : (stop at : ℕ) (ps : List Piece) (xs : List X) (rest : List Piece) → Commas Item ps xs rest → exactly_at item false (length xs) (start stop (mark at m.Comma ∷ ps)) ≡ Ok (xs, start stop rest)
  unfolding exactly_at mark_at
  others_again stop at ps xs rest (spells_one {x = x} h) = rw (each stop ps x rest h) refl
  others_again stop at ps xs rest (spells_next {more = more} {at = bt} {x = x} {xs = ys} h g) = rw (each stop ps x (mark bt m.Comma ∷ more) h, others_again stop bt more ys rest g) refl

  all_again : (stop : ℕ) (ps : List Piece) (xs : List X) (rest : List Piece) → Commas Item ps xs rest → exactly_at item true (length xs) (start stop ps) ≡ Ok (xs, start stop rest)
  unfolding exactly_at
  all_again stop ps xs rest (spells_one {x = x} h) = rw (each stop ps x rest h) refl
  all_again stop ps xs rest (spells_next {more = more} {at = bt} {x = x} {xs = ys} h g) = rw (each stop ps x (mark bt m.Comma ∷ more) h, others_again stop bt more ys rest g) refl

  -- exactly as many items as there are, and what comes before the closing mark
  pub exactly_complete : (close : Mark) (stop : ℕ) (ps : List Piece) (xs : List X) (rest : List Piece) → Enclosed Item close ps xs rest → (at : ℕ) × (exactly_at item true (length xs) (start stop ps) ≡ Ok (xs, start stop (mark at close ∷ rest)))
  unfolding exactly_at
  exactly_complete close stop ps xs rest (spells_none {at = at}) = (at, refl)
  exactly_complete close stop ps xs rest (spells_some {at = at} h) = (at, all_again stop ps xs (mark at close ∷ rest) h)

-- ---- items one after the other

-- no item begins with a keyword
abbrev pub BeginsNoWord : {X : Type 0} → (List Piece → X → List Piece → Type 0) → Type 0
BeginsNoWord {X = X} Item = (close : Keyword) (ps : List Piece) (x : X) (rest : List Piece) → Item ps x rest → after_word close ps ≡ None

module _ {X : Type 0} (item : State → Read X) (Item : List Piece → X → List Piece → Type 0) (each : Complete item Item) (takes : TakesOne Item) (begins : BeginsNoWord Item) (close : Keyword) where
  row_complete : (n stop : ℕ) (ps : List Piece) (xs : List X) (at : ℕ) (rest more : List Piece) → length ps ≤ n → rest ≡ word at close ∷ more → Row Item ps xs rest → row_at item close n (start stop ps) ≡ Ok (xs, start stop rest)
  unfolding row_at
  row_complete zero stop ps xs at rest more le is ends_here = let long : length rest ≡ suc (length more) = ap length is in absurd (omega (arith, le, long))
  row_complete zero stop ps xs at rest more le is (goes_on {more = us} {x = x} h g) = absurd (omega (arith, takes ps x us h))
  row_complete (suc n) stop ps xs at rest more le is ends_here = rw (is, number_own (word_number close)) refl
  row_complete (suc n) stop ps xs at rest more le is (goes_on {more = us} {x = x} {xs = ys} h g) =
      let short : length us ≤ n = omega (arith, takes ps x us h) in
      rw (begins close ps x us h, each stop ps x us h, row_complete n stop us ys at rest more short is g) refl

  pub rows_complete : (stop : ℕ) (ps : List Piece) (xs : List X) (at : ℕ) (more : List Piece) → Row Item ps xs (word at close ∷ more) → rows_at item close (start stop ps) ≡ Ok (xs, start stop (word at close ∷ more))
  unfolding rows_at
  rows_complete stop ps xs at more h = row_complete (length ps) stop ps xs at (word at close ∷ more) more (omega arith) refl h

-- a row takes no tokens before its own
pub row_take : {X : Type 0} (Item : List Piece → X → List Piece → Type 0) → TakesOne Item → (ps : List Piece) (xs : List X) (rest : List Piece) → Row Item ps xs rest → length rest ≤ length ps
row_take Item takes ps xs rest ends_here = omega arith
row_take Item takes ps xs rest (goes_on {more = us} {x = x} {xs = ys} h g) = omega (arith, takes ps x us h, row_take Item takes us ys rest g)
