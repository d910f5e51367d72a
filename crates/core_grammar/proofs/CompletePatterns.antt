-- What is spelt as a pattern is read.
use Rattle.std.proofs.Common.{◌≡◌, ℕ, zero, suc, cond, List, [], ◌∷◌, Some, None, Ok, refl, arith}
use Rattle.core_tokens.specs.declared.token.Mark.TheVariants as m
use Rattle.core_tokens.specs.Piece.{Piece, Shape}
use Rattle.core_tokens.specs.Piece as lexemes
use Rattle.core_tree.specs.Syntax.{Mention, Pattern, Constant}
use Rattle.core_tree.specs.Pattern as patterns
use Rattle.core_grammar.specs.Grammar.{mark, InNote, in_note, ConstantIn, PatternForm, matches_integer, matches_character, matches_text, matches_atom, matches_any, matches_tuple, matches_list, matches_join, matches_noted, IsNoEquals, HasNoEquals, StandsAlone, PatternOrAlias, no_alias, is_alias, PatternIn}
use Rattle.core_grammar.specs.inside.Decoder.{is_mark, after_mark, constant_at, pattern_tuple_at, pattern_list_at, pattern_form_at, alias_at, pattern_at}
use Rattle.core_grammar.specs.Whole.{start}
use Rattle.core_grammar.proofs.CompleteLists.{Complete, TakesOne, closing_brace, BeginsElse, commas_take, enclosed_take, closed_complete, brackets_complete, join_complete}
use Rattle.core_grammar.proofs.CompleteNames.{in_note_take, in_note_complete, in_note_begins, constant_takes, constant_begins, constant_complete}

no_equals_again : (ps : List Piece) → HasNoEquals ps → after_mark m.Equals ps ≡ None
no_equals_again [] h = refl
no_equals_again (p ∷ ps) h = by p.shape h
  where
    by : (shape : Shape) → IsNoEquals shape → cond (is_mark m.Equals shape) (Some ps) None ≡ None
    by (lexemes.Mark m.Equals) h = absurd h
    by shape h = refl

module _ (Inner : List Piece → Pattern → List Piece → Type 0) (Note : List Piece → Constant → List Piece → Type 0) (takes : TakesOne Inner) (notes : TakesOne Note) where
  pub pattern_form_takes : TakesOne (PatternForm Inner Note)
  pattern_form_takes ps c rest matches_integer = omega arith
  pattern_form_takes ps c rest matches_character = omega arith
  pattern_form_takes ps c rest matches_text = omega arith
  pattern_form_takes ps c rest matches_atom = omega arith
  pattern_form_takes ps c rest matches_any = omega arith
  pattern_form_takes ps c rest (matches_tuple {ps = qs} {qs = us} h) = omega (arith, enclosed_take Inner takes m.RightBrace qs us rest h)
  pattern_form_takes ps c rest (matches_list {ps = qs} {qs = us} h) = omega (arith, enclosed_take Inner takes m.RightBracket qs us rest h)
  pattern_form_takes ps c rest (matches_join {ps = qs} {more = more} {bt = bt} {ct = ct} {qs = us} {q = d} h g) = omega (arith, commas_take Inner takes qs us (mark bt m.Bar ∷ more) h, takes more d (mark ct m.RightBracket ∷ rest) g)
  pattern_form_takes ps c rest (matches_noted h) = in_note_take Inner Note takes notes ps c rest h

  alias_takes : TakesOne (PatternOrAlias (PatternForm Inner Note) Inner)
  alias_takes ps q rest (no_alias h alone) = pattern_form_takes ps q rest h
  alias_takes ps q rest (is_alias {more = more} {at = at} {v = v} {q = u} h g) = omega (arith, pattern_form_takes ps (patterns.Variable v) (mark at m.Equals ∷ more) h, takes more u rest g)

module _ (Inner : List Piece → Pattern → List Piece → Type 0) (Note : List Piece → Constant → List Piece → Type 0) where
  pattern_form_begins : BeginsElse (PatternForm Inner Note)
  pattern_form_begins close is ps c rest matches_integer = refl
  pattern_form_begins close is ps c rest matches_character = refl
  pattern_form_begins close is ps c rest matches_text = refl
  pattern_form_begins close is ps c rest matches_atom = refl
  pattern_form_begins close is ps c rest matches_any = refl
  pattern_form_begins close is ps c rest (matches_tuple h) = rw is.brace refl
  pattern_form_begins close is ps c rest (matches_list h) = rw is.bracket refl
  pattern_form_begins close is ps c rest (matches_join h g) = rw is.bracket refl
  pattern_form_begins close is ps c rest (matches_noted h) = in_note_begins Inner Note close is ps c rest h

  alias_begins : BeginsElse (PatternOrAlias (PatternForm Inner Note) Inner)
  alias_begins close is ps q rest (no_alias h alone) = pattern_form_begins close is ps q rest h
  alias_begins close is ps q rest (is_alias {more = more} {at = at} {v = v} h g) = pattern_form_begins close is ps (patterns.Variable v) (mark at m.Equals ∷ more) h

pub pattern_takes : (n : ℕ) → TakesOne (PatternIn n)
pattern_takes zero ps q rest h = absurd h
pattern_takes (suc n) ps q rest h = alias_takes (PatternIn n) (ConstantIn n) (pattern_takes n) (constant_takes n) ps q rest h

pub pattern_begins : (n : ℕ) → BeginsElse (PatternIn n)
pattern_begins zero close is ps q rest h = absurd h
pattern_begins (suc n) close is ps q rest h = alias_begins (PatternIn n) (ConstantIn n) close is ps q rest h

module _ (n : ℕ) (each : Complete (pattern_at n) (PatternIn n)) where
  noted_pattern : (stop : ℕ) (ps : List Piece) (q : Pattern) (rest : List Piece) → InNote (PatternIn n) (ConstantIn n) ps q rest → pattern_form_at (pattern_at n) (constant_at n) (start stop ps) ≡ Ok (q, start stop rest)
  unfolding pattern_form_at
  noted_pattern stop ps q rest (in_note {ps = qs} {more = more} h g) =
      in_note_complete (constant_at n) (ConstantIn n) (constant_complete n) (constant_takes n) (constant_begins n) (pattern_at n) stop qs q more rest (each stop qs q more h) g

  pattern_form_complete : Complete (pattern_form_at (pattern_at n) (constant_at n)) (PatternForm (PatternIn n) (ConstantIn n))
  unfolding pattern_form_at pattern_tuple_at pattern_list_at
  pattern_form_complete stop ps c rest matches_integer = refl
  pattern_form_complete stop ps c rest matches_character = refl
  pattern_form_complete stop ps c rest matches_text = refl
  pattern_form_complete stop ps c rest matches_atom = refl
  pattern_form_complete stop ps c rest matches_any = refl
  pattern_form_complete stop ps c rest (matches_tuple {ps = qs} {qs = us} h) = rw (closed_complete (pattern_at n) (PatternIn n) each (pattern_takes n) (pattern_begins n) m.RightBrace closing_brace stop qs us rest h) refl
  pattern_form_complete stop ps c rest (matches_list {ps = qs} {qs = us} h) = rw (brackets_complete (pattern_at n) (PatternIn n) each (pattern_takes n) (pattern_begins n) stop qs us rest h) refl
  pattern_form_complete stop ps c rest (matches_join {ps = qs} {more = more} {bt = bt} {ct = ct} {qs = us} {q = d} h g) = rw (join_complete (pattern_at n) (PatternIn n) each (pattern_takes n) (pattern_begins n) stop bt ct qs more us d rest h g) refl
  pattern_form_complete stop ps c rest (matches_noted h) = noted_pattern stop ps c rest h

  -- a pattern that is alone stays as it is
  pub alone_again : (stop : ℕ) (q : Pattern) (rest : List Piece) → StandsAlone q rest → alias_at (pattern_at n) (constant_at n) q (start stop rest) ≡ Ok (q, start stop rest)
  unfolding alias_at
  alone_again stop (patterns.Variable v) rest h = rw (no_equals_again rest h) refl
  alone_again stop (patterns.Integer i) rest h = refl
  alone_again stop (patterns.Character i) rest h = refl
  alone_again stop (patterns.Text i) rest h = refl
  alone_again stop (patterns.Atom i) rest h = refl
  alone_again stop (patterns.Tuple i) rest h = refl
  alone_again stop (patterns.List i) rest h = refl
  alone_again stop (patterns.Onto i j) rest h = refl
  alone_again stop (patterns.Alias i j) rest h = refl

  -- a variable with `=` after it names the pattern after that
  pub alias_again : (stop at : ℕ) (v : Mention) (more : List Piece) (q : Pattern) (rest : List Piece) → PatternIn n more q rest → alias_at (pattern_at n) (constant_at n) (patterns.Variable v) (start stop (mark at m.Equals ∷ more)) ≡ Ok (patterns.Alias v q, start stop rest)
  unfolding alias_at
  alias_again stop at v more q rest h = rw (each stop more q rest h) refl

  alias_complete : (stop : ℕ) (ps : List Piece) (q : Pattern) (rest : List Piece) → PatternOrAlias (PatternForm (PatternIn n) (ConstantIn n)) (PatternIn n) ps q rest → pattern_at (suc n) (start stop ps) ≡ Ok (q, start stop rest)
  unfolding pattern_at
  alias_complete stop ps q rest (no_alias h alone) = rw (pattern_form_complete stop ps q rest h) (alone_again stop q rest alone)
  alias_complete stop ps q rest (is_alias {more = more} {at = at} {v = v} {q = u} h g) = rw (pattern_form_complete stop ps (patterns.Variable v) (mark at m.Equals ∷ more) h) (alias_again stop at v more u rest g)

pub pattern_complete : (n : ℕ) → Complete (pattern_at n) (PatternIn n)
unfolding pattern_at
pattern_complete zero stop ps q rest h = absurd h
pattern_complete (suc n) stop ps q rest h = alias_complete n (pattern_complete n) stop ps q rest h
