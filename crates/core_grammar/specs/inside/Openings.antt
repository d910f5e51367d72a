-- What a definition begins with, as the code reads it.
use Rattle.std.proofs.Common.{◌≡◌, ◌≢◌, ℕ, zero, suc, ◌-◌, ◌<◌, List, Bool, true, false, Some, None, Result, Ok, Err, refl, sym, ap, ◌∙◌, arith}
use Rattle.core_tokens.specs.declared.fault.ReadFault.{ReadFault}
use Rattle.core_tokens.specs.declared.fault.ReadFault.TheVariants.{Memory}
use Rattle.core_tokens.specs.declared.token.Mark.TheVariants as m
use Rattle.core_tokens.specs.Piece.{Piece}
use Rattle.core_tree.specs.Syntax.{NamedAt}
use Rattle.core_grammar.specs.inside.Decoder.{State, with_pieces, after_mark, too_deep, note_at, in_note_at, constant_at, bare_name_at}
use Rattle.core_grammar.specs.inside.DecoderModules.{Opening, TheName, bare_opening_at, inside_opening_at, opening_at}
use Rattle.core_grammar.specs.inside.Decoder.{Opens, PassesUnlessMemory, MovesUnlessMemory}
use Rattle.std.specs.Result.{result_and}
use Rattle.core_grammar.specs.inside.Notes.{opens_none, opens_some, in_note_fails, in_note_ends}

module _ (own : List ℕ) where
  opening_bare : (n : ℕ) (s : State) → after_mark m.LeftParenthesis s.pieces ≡ None → opening_at own n s ≡ bare_opening_at own s
  unfolding opening_at
  opening_bare zero s e = rw e refl
  opening_bare (suc n) s e = rw e refl

  opening_deep : (n : ℕ) (s : State) (ps : List Piece) → n ≡ 0 → after_mark m.LeftParenthesis s.pieces ≡ Some ps → opening_at own n s ≡ Err (too_deep s)
  unfolding opening_at
  opening_deep n s ps z e = rw (z, e) refl

  opening_inside : (n : ℕ) (s : State) (ps : List Piece) → 0 < n → after_mark m.LeftParenthesis s.pieces ≡ Some ps
      → opening_at own n s ≡ in_note_at (constant_at (n - 1)) (inside_opening_at own (n - 1) (opening_at own (n - 1))) (with_pieces s ps)
  unfolding opening_at
  opening_inside zero s ps h e = absurd (omega arith)
  opening_inside (suc n) s ps h e =
      let f : suc n - 1 ≡ n = omega arith in
      rw (f, e) refl

  pub opening_is_deep : (e : ReadFault) (n : ℕ) (s s1 : State) → Opens n (Err e) s s1 → opening_at own n s ≡ Err e
  opening_is_deep e n s s1 h = opening_deep n s s1.pieces h.0 h.1 ∙ ap Err (sym h.2)

  pub name_fails : (e : ReadFault) (b : Bool) (n : ℕ) (s s1 : State) → b ≡ false → Opens n (Ok b) s s1 → (e ≢ Memory → bare_name_at s1 ≡ Err e) → e ≢ Memory → opening_at own n s ≡ Err e
  unfolding bare_opening_at
  name_fails e b n s s1 f h failed real =
      let o = opens_none b n s s1 f h in
      let read = failed real in
      let one : bare_opening_at own s1 ≡ Err e = rw read refl in
      opening_bare n s o.0 ∙ ap (bare_opening_at own) (sym o.1) ∙ one

  pub name_reads : (named : NamedAt) (b : Bool) (n : ℕ) (s s1 s2 : State) → b ≡ false → Opens n (Ok b) s s1 → bare_name_at s1 ≡ Ok (named, s2) → opening_at own n s ≡ Ok (TheName named, s2)
  unfolding bare_opening_at
  name_reads named b n s s1 s2 f h read =
      let o = opens_none b n s s1 f h in
      let one : bare_opening_at own s1 ≡ Ok (TheName named, s2) = rw read refl in
      opening_bare n s o.0 ∙ ap (bare_opening_at own) (sym o.1) ∙ one

  step_inside : (b : Bool) (n : ℕ) (s s1 : State) → b ≡ true → Opens n (Ok b) s s1
      → opening_at own n s ≡ in_note_at (constant_at (n - 1)) (inside_opening_at own (n - 1) (opening_at own (n - 1))) s1
  step_inside b n s s1 t h =
      let o = opens_some b n s s1 t h in
      opening_inside n s s1.pieces o.0 o.1.0 ∙ ap (in_note_at (constant_at (n - 1)) (inside_opening_at own (n - 1) (opening_at own (n - 1)))) (sym o.1.1)

  pub opening_fails : (e : ReadFault) (b : Bool) (n : ℕ) (s s1 : State) → b ≡ true → Opens n (Ok b) s s1 → (e ≢ Memory → inside_opening_at own (n - 1) (opening_at own (n - 1)) s1 ≡ Err e) → e ≢ Memory → opening_at own n s ≡ Err e
  opening_fails e b n s s1 t h failed real = step_inside b n s s1 t h ∙ in_note_fails (constant_at (n - 1)) (inside_opening_at own (n - 1) (opening_at own (n - 1))) e s1 (failed real)

  pub opening_ends : {V : Type 0} (view : V → Opening) (x : V) (note : Result (Unit {0}) ReadFault) (b : Bool) (n : ℕ) (s s1 s2 s3 : State) → b ≡ true → Opens n (Ok b) s s1
      → inside_opening_at own (n - 1) (opening_at own (n - 1)) s1 ≡ Ok (view x, s2) → PassesUnlessMemory note s3 (note_at (constant_at (n - 1)) s2) → MovesUnlessMemory view (result_and note (Ok x)) s3 (opening_at own n s)
  opening_ends view x note b n s s1 s2 s3 t h read ends =
      rw (step_inside b n s s1 t h) (in_note_ends (constant_at (n - 1)) (inside_opening_at own (n - 1) (opening_at own (n - 1))) view x note s1 s2 s3 read ends)
