-- Annotated rules, as the code reads them: a step over the parenthesis, the rule itself, and the end of the annotation.
use Rattle.std.proofs.Common.{◌≡◌, ◌≢◌, ℕ, ◌-◌, ◌<◌, Bool, true, false, None, Result, Ok, Err, refl, sym, ap, ◌∙◌}
use Rattle.core_tokens.specs.declared.fault.ReadFault.{ReadFault}
use Rattle.core_tokens.specs.declared.fault.ReadFault.TheVariants.{Memory}
use Rattle.core_tokens.specs.declared.token.Mark.TheVariants as m
use Rattle.core_tree.specs.Syntax.{Constant}
use Rattle.core_grammar.specs.inside.Decoder.{State, Read, after_mark, note_at, in_note_at, noted_at, constant_at}
use Rattle.core_grammar.specs.inside.Decoder.{Skips, Opens, PassesUnlessMemory, MovesUnlessMemory}
use Rattle.std.specs.Result.{result_and}
use Rattle.core_grammar.specs.inside.Levels.{noted_bare, noted_deep, noted_inside}

pub opens_none : (b : Bool) (n : ℕ) (s s1 : State) → b ≡ false → Opens n (Ok b) s s1 → (after_mark m.LeftParenthesis s.pieces ≡ None) × (s1 ≡ s)
opens_none true n s s1 f h = absurd cc
opens_none false n s s1 f h = h

pub opens_some : (b : Bool) (n : ℕ) (s s1 : State) → b ≡ true → Opens n (Ok b) s s1 → (0 < n) × Skips true (after_mark m.LeftParenthesis s.pieces) s s1
opens_some true n s s1 f h = h
opens_some false n s s1 f h = absurd cc

-- ---- what is in the parentheses of an annotation

module _ {X : Type 0} (inner : State → Read Constant) (item : State → Read X) where
  pub in_note_fails : (e : ReadFault) (s : State) → item s ≡ Err e → in_note_at inner item s ≡ Err e
  unfolding in_note_at
  in_note_fails e s read = rw read refl

  pub in_note_lacks : (e : ReadFault) (s s1 : State) (x : X) → item s ≡ Ok (x, s1) → note_at inner s1 ≡ Err e → in_note_at inner item s ≡ Err e
  unfolding in_note_at
  in_note_lacks e s s1 x read note = rw (read, note) refl

  pub in_note_reads : (s s1 s2 : State) (x : X) → item s ≡ Ok (x, s1) → note_at inner s1 ≡ Ok s2 → in_note_at inner item s ≡ Ok (x, s2)
  unfolding in_note_at
  in_note_reads s s1 s2 x read note = rw (read, note) refl

  pub in_note_ends : {V : Type 0} (view : V → X) (x : V) (note : Result (Unit {0}) ReadFault) (s s1 s2 : State) → item s ≡ Ok (view x, s1) → PassesUnlessMemory note s2 (note_at inner s1)
      → MovesUnlessMemory view (result_and note (Ok x)) s2 (in_note_at inner item s)
  in_note_ends view x (Ok u) s s1 s2 read ends = in_note_reads s s1 s2 (view x) read ends
  in_note_ends view x (Err e) s s1 s2 read fails = λ real. in_note_lacks e s s1 (view x) read (fails real)

-- ---- a rule that is annotated any number of times

module _ {X : Type 0} (bare : ℕ → State → Read X) where
  pub is_deep : (e : ReadFault) (n : ℕ) (s s1 : State) → Opens n (Err e) s s1 → noted_at bare n s ≡ Err e
  is_deep e n s s1 h = noted_deep bare n s s1.pieces h.0 h.1 ∙ ap Err (sym h.2)

  pub bare_fails : (e : ReadFault) (b : Bool) (n : ℕ) (s s1 : State) → b ≡ false → Opens n (Ok b) s s1 → (e ≢ Memory → bare n s1 ≡ Err e) → e ≢ Memory → noted_at bare n s ≡ Err e
  bare_fails e b n s s1 f h failed real =
      let o = opens_none b n s s1 f h in
      noted_bare bare n s o.0 ∙ ap (bare n) (sym o.1) ∙ failed real

  pub bare_reads : (r : X × State) (b : Bool) (n : ℕ) (s s1 : State) → b ≡ false → Opens n (Ok b) s s1 → bare n s1 ≡ Ok r → noted_at bare n s ≡ Ok r
  bare_reads r b n s s1 f h read =
      let o = opens_none b n s s1 f h in
      noted_bare bare n s o.0 ∙ ap (bare n) (sym o.1) ∙ read

  pub inside_fails : (e : ReadFault) (b : Bool) (n : ℕ) (s s1 : State) → b ≡ true → Opens n (Ok b) s s1 → (e ≢ Memory → noted_at bare (n - 1) s1 ≡ Err e) → e ≢ Memory → noted_at bare n s ≡ Err e
  inside_fails e b n s s1 t h failed real =
      let o = opens_some b n s s1 t h in
      noted_inside bare n s s1.pieces o.0 o.1.0 ∙ ap (in_note_at (constant_at (n - 1)) (noted_at bare (n - 1))) (sym o.1.1) ∙ in_note_fails (constant_at (n - 1)) (noted_at bare (n - 1)) e s1 (failed real)

  pub note_fails : (e : ReadFault) (b : Bool) (n : ℕ) (s s1 s2 : State) (x : X) → b ≡ true → Opens n (Ok b) s s1 → noted_at bare (n - 1) s1 ≡ Ok (x, s2)
      → (e ≢ Memory → note_at (constant_at (n - 1)) s2 ≡ Err e) → e ≢ Memory → noted_at bare n s ≡ Err e
  note_fails e b n s s1 s2 x t h read failed real =
      let o = opens_some b n s s1 t h in
      noted_inside bare n s s1.pieces o.0 o.1.0 ∙ ap (in_note_at (constant_at (n - 1)) (noted_at bare (n - 1))) (sym o.1.1) ∙ in_note_lacks (constant_at (n - 1)) (noted_at bare (n - 1)) e s1 s2 x read (failed real)

  pub note_reads : (b : Bool) (n : ℕ) (s s1 s2 s3 : State) (x : X) → b ≡ true → Opens n (Ok b) s s1 → noted_at bare (n - 1) s1 ≡ Ok (x, s2)
      → note_at (constant_at (n - 1)) s2 ≡ Ok s3 → noted_at bare n s ≡ Ok (x, s3)
  note_reads b n s s1 s2 s3 x t h read note =
      let o = opens_some b n s s1 t h in
      noted_inside bare n s s1.pieces o.0 o.1.0 ∙ ap (in_note_at (constant_at (n - 1)) (noted_at bare (n - 1))) (sym o.1.1) ∙ in_note_reads (constant_at (n - 1)) (noted_at bare (n - 1)) s1 s2 s3 x read note
