-- Keywords, names and marks are read as they are spelt.
use Rattle.std.proofs.Common.{◌≡◌, ℕ, true, cond, inl, inr, List, [], ◌∷◌, ◌++◌, Some, None, eqb, refl, sym, ap, ◌∙◌}
use Rattle.std.proofs.lemmas.Bool.{eqb-true}
use Rattle.std.specs.Option.{option_map}
use Rattle.std.specs.Str.{bytes_eq}
use Rattle.std.specs.Char.{is_ascii_lowercase}
use Rattle.std.proofs.lemmas.Slice.Eq.{bytes_eq-Decides}
use Rattle.core_tokens.specs.declared.token.Keyword.{Keyword}
use Rattle.core_tokens.specs.declared.token.Keyword.TheVariants as keyword
use Rattle.core_tokens.specs.declared.token.Mark.{Mark}
use Rattle.core_tokens.specs.declared.token.Mark.TheVariants as mark
use Rattle.core_tokens.specs.TokenText.{keyword_text, mark_text, is_in_name, is_variable_name, Run}
use Rattle.core_tokens.specs.inside.Lexing.{run_of, behind_run, keyword_by, keywords, keyword_of, word_at, name_at, is_alone, mark_by, short_marks, mark_of, mark_behind_minus, mark_at}
use Rattle.core_tokens.proofs.Basics.{map_some, some_is, chosen, guard_some}
use Rattle.core_tokens.proofs.Runs.{run_sound, run_complete}

-- ---- keywords

keyword_by_sound : (ks : List Keyword) (word : List ℕ) (k : Keyword) → keyword_by ks word ≡ Some k → word ≡ keyword_text k
keyword_by_sound [] word k e = absurd cc
keyword_by_sound (j ∷ ks) word k e =
    elim (chosen (bytes_eq word (keyword_text j)) (Some j) (keyword_by ks word) (Some k) e) [
      | inl h ↦ (bytes_eq-Decides word (keyword_text j)).0 h.0 ∙ ap keyword_text (some_is j k h.1)
      | inr h ↦ keyword_by_sound ks word k h.1
    ]

pub keyword_sound : (word : List ℕ) (k : Keyword) → keyword_of word ≡ Some k → word ≡ keyword_text k
unfolding keyword_of
keyword_sound word k e = keyword_by_sound keywords word k e

pub keyword_complete : (k : Keyword) → keyword_of (keyword_text k) ≡ Some k
unfolding keyword_of
keyword_complete keyword.Module = refl
keyword_complete keyword.Attributes = refl
keyword_complete keyword.End = refl
keyword_complete keyword.Fun = refl
keyword_complete keyword.Let = refl
keyword_complete keyword.In = refl
keyword_complete keyword.Case = refl
keyword_complete keyword.Of = refl
keyword_complete keyword.When = refl
keyword_complete keyword.Apply = refl
keyword_complete keyword.Call = refl
keyword_complete keyword.Primop = refl
keyword_complete keyword.Do = refl
keyword_complete keyword.Try = refl
keyword_complete keyword.Catch = refl
keyword_complete keyword.Receive = refl
keyword_complete keyword.After = refl
keyword_complete keyword.Letrec = refl

pub word_sound : (bytes : List ℕ) (x : Keyword × List ℕ) → word_at bytes ≡ Some x → Run is_ascii_lowercase bytes (keyword_text x.0) x.1
unfolding word_at
word_sound bytes x e =
    let k = map_some (λ (j : Keyword). (j, behind_run is_ascii_lowercase bytes)) (keyword_of (run_of is_ascii_lowercase bytes)) x e in
    let letters = keyword_sound (run_of is_ascii_lowercase bytes) k.0 k.1 in
    rw (← k.2, ← letters) (run_sound is_ascii_lowercase bytes)

pub word_complete : (bytes rest : List ℕ) (k : Keyword) → Run is_ascii_lowercase bytes (keyword_text k) rest → word_at bytes ≡ Some (k, rest)
unfolding word_at
word_complete bytes rest k r =
    let is = run_complete is_ascii_lowercase bytes (keyword_text k) rest r in
    rw (is.front_is, is.rest_is, keyword_complete k) refl

-- ---- names

pub name_sound : (bytes : List ℕ) (x : List ℕ × List ℕ) → name_at bytes ≡ Some x → Run is_in_name bytes x.0 x.1 × (is_variable_name x.0 ≡ true)
unfolding name_at
name_sound bytes x e =
    let g = guard_some (is_variable_name (run_of is_in_name bytes)) (run_of is_in_name bytes, behind_run is_in_name bytes) x e in
    rw (← g.1) (run_sound is_in_name bytes, g.0)

pub name_complete : (bytes name rest : List ℕ) → Run is_in_name bytes name rest → is_variable_name name ≡ true → name_at bytes ≡ Some (name, rest)
unfolding name_at
name_complete bytes name rest r h =
    let is = run_complete is_in_name bytes name rest r in
    rw (is.front_is, is.rest_is, h) refl

-- ---- marks

alone_is : (c : ℕ) (text : List ℕ) → is_alone c text ≡ true → text ≡ c ∷ []
alone_is c [] h = absurd cc
alone_is c (d ∷ []) h = ap (λ (x : ℕ). x ∷ []) (sym (eqb-true c d h))
alone_is c (d ∷ e ∷ ds) h = absurd cc

mark_by_sound : (ms : List Mark) (c : ℕ) (m : Mark) → mark_by ms c ≡ Some m → mark_text m ≡ c ∷ []
mark_by_sound [] c m e = absurd cc
mark_by_sound (j ∷ ms) c m e =
    elim (chosen (is_alone c (mark_text j)) (Some j) (mark_by ms c) (Some m) e) [
      | inl h ↦ ap mark_text (sym (some_is j m h.1)) ∙ alone_is c (mark_text j) h.0
      | inr h ↦ mark_by_sound ms c m h.1
    ]

minus_sound : (bytes : List ℕ) (x : Mark × List ℕ) → mark_behind_minus bytes ≡ Some x → 45 ∷ bytes ≡ mark_text x.0 ++ x.1
unfolding mark_behind_minus
minus_sound [] x e = absurd cc
minus_sound (c ∷ bytes) x e =
    elim (chosen (eqb c 62) (Some (mark.Arrow, bytes)) (cond (eqb c 124) (Some (mark.Note, bytes)) None) (Some x) e) [
      | inl h ↦ rw (← some_is (mark.Arrow, bytes) x h.1) (ap (λ (y : ℕ). 45 ∷ y ∷ bytes) (eqb-true c 62 h.0))
      | inr h ↦
          let g = guard_some (eqb c 124) (mark.Note, bytes) x h.1 in
          rw (← g.1) (ap (λ (y : ℕ). 45 ∷ y ∷ bytes) (eqb-true c 124 g.0))
    ]

pub mark_sound : (bytes : List ℕ) (x : Mark × List ℕ) → mark_at bytes ≡ Some x → bytes ≡ mark_text x.0 ++ x.1
unfolding mark_at mark_of
mark_sound [] x e = absurd cc
mark_sound (c ∷ bytes) x e =
    elim (chosen (eqb c 45) (mark_behind_minus bytes) (option_map (λ m. (m, bytes)) (mark_of c)) (Some x) e) [
      | inl h ↦ ap (λ (y : ℕ). y ∷ bytes) (eqb-true c 45 h.0) ∙ minus_sound bytes x h.1
      | inr h ↦
          let m = map_some (λ (m : Mark). (m, bytes)) (mark_of c) x h.1 in
          rw (← m.2) (ap (λ (t : List ℕ). t ++ bytes) (sym (mark_by_sound short_marks c m.0 m.1)))
    ]

pub mark_complete : (m : Mark) (rest : List ℕ) → mark_at (mark_text m ++ rest) ≡ Some (m, rest)
unfolding mark_at mark_of mark_behind_minus
mark_complete mark.LeftParenthesis rest = refl
mark_complete mark.RightParenthesis rest = refl
mark_complete mark.LeftBracket rest = refl
mark_complete mark.RightBracket rest = refl
mark_complete mark.LeftBrace rest = refl
mark_complete mark.RightBrace rest = refl
mark_complete mark.Less rest = refl
mark_complete mark.Greater rest = refl
mark_complete mark.Comma rest = refl
mark_complete mark.Bar rest = refl
mark_complete mark.Equals rest = refl
mark_complete mark.Slash rest = refl
mark_complete mark.Colon rest = refl
mark_complete mark.Arrow rest = refl
mark_complete mark.Note rest = refl
mark_complete mark.Hash rest = refl
mark_complete mark.Tilde rest = refl
