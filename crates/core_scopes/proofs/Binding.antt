-- Variables bound one after the other, and scopes looked through.
use Rattle.std.proofs.Common.{◌≡◌, ◌≢◌, ℕ, Bool, true, false, ◌||◌, List, [], ◌∷◌, ◌++◌, Result, Ok, Err, refl, sym, ap, ◌∙◌, append_assoc, not, if◌then◌else◌, ℤ, ◌⊎◌, inl, inr, Vec, Global}
use Rattle.term_core.specs.declared.atom.Atom.{Atom}
use Rattle.core_tree.specs.declared.pattern.Pattern.{Pattern as Shape}
use Rattle.core_tree.specs.declared.pattern.Pattern.TheVariants as shapes
use Rattle.core_tree.specs.Tree.{pattern_of}
use Rattle.std.specs.List.{list_any}
use Rattle.std.proofs.lemmas.List.{map-append, append-nil}
use Rattle.std.proofs.lemmas.Cmp.{nat_list_eq_equiv}
use denote.Ref.{Bor}
use Rattle.core_tokens.specs.declared.fault.ReadFault.{ReadFault}
use Rattle.core_tokens.specs.declared.fault.ReadFault.TheVariants.{DuplicateVariable, Memory}
use Rattle.core_tree.specs.Syntax.{Mention}
use Rattle.core_scopes.specs.Scopes.{names, variables_of}
use Rattle.core_scopes.specs.Outcomes.{◌>>=◌}
use Rattle.term_core.specs.Kinds.{same_text}
use Rattle.core_scopes.specs.ScopeChecks.{Checked, is_among, check_distinct}
use Rattle.core_scopes.specs.inside.Environment.{shown, AddsUnlessMemory}

-- ---- names, by a set of borrowed names

turned : (a b : List ℕ) → same_text a b ≡ same_text b a
turned a b = nat_list_eq_equiv.symm a b

abbrev same_name : Bor (List ℕ) → Bor (List ℕ) → Bool
same_name a b = same_text a.now b.now

pub among_shown : (ks : List (Bor (List ℕ))) (name : List ℕ) → list_any (λ k. same_text name k.now) ks ≡ is_among (shown ks) name
among_shown [] name = refl
among_shown (k ∷ ks) name = ap (λ (b : Bool). b || list_any (λ (x : Bor (List ℕ)). same_text name x.now) ks) (turned name k.now) ∙ ap (λ (b : Bool). same_text k.now name || b) (among_shown ks name)

-- ---- one more variable

opposite : (r b : Bool) → r ≡ not b → r ≡ true → b ≡ false
opposite r true e h = absurd cc
opposite r false e h = refl

opposed : (r b : Bool) → r ≡ not b → r ≡ false → b ≡ true
opposed r true e h = refl
opposed r false e h = absurd cc

module _ (ks new : List (Bor (List ℕ))) (k : Bor (List ℕ)) (r : Bool) (v w : Mention) (added : r ≡ not (list_any (same_name k) ks)) (named : k.now ≡ w.name) (is : w ≡ v) where
  bound_before : list_any (same_name k) ks ≡ is_among (shown ks) v.name
  bound_before = among_shown ks k.now ∙ ap (is_among (shown ks)) (named ∙ ap (λ (x : Mention). x.name) is)

  pub binds_new : r ≡ true → new ≡ (if list_any (same_name k) ks then ks else ks ++ k ∷ []) → AddsUnlessMemory (v ∷ []) (Ok tt) (shown ks) (shown new)
  unfolding check_distinct
  binds_new e keys =
      let fresh : list_any (same_name k) ks ≡ false = opposite r _ added e in
      let last : new ≡ ks ++ k ∷ [] = keys ∙ ap (λ (b : Bool). if b then ks else ks ++ k ∷ []) fresh in
      let among : is_among (shown ks) v.name ≡ false = sym bound_before ∙ fresh in
      (rw among refl, ap shown last ∙ map-append (λ (x : Bor (List ℕ)). x.now) ks (k ∷ []) ∙ ap (λ (n : List ℕ). shown ks ++ n ∷ []) (named ∙ ap (λ (x : Mention). x.name) is))

  pub binds_twice : r ≡ false → (e : ReadFault) → e ≡ DuplicateVariable w.at → e ≢ Memory → check_distinct (shown ks) (v ∷ []) ≡ Err e
  unfolding check_distinct
  binds_twice e f fault real =
      let among : is_among (shown ks) v.name ≡ true = sym bound_before ∙ opposed r _ added e in
      let one : check_distinct (shown ks) (v ∷ []) ≡ Err (DuplicateVariable v.at) = rw among refl in
      one ∙ ap (λ (x : Mention). Err (DuplicateVariable x.at)) (sym is) ∙ ap Err (sym fault)

-- ---- variables after variables

pub distinct_append : (before : List (List ℕ)) (vs ws : List Mention) → check_distinct before (vs ++ ws) ≡ (check_distinct before vs >>= λ _. check_distinct (before ++ names vs) ws)
unfolding check_distinct
distinct_append before [] ws = ap (λ (ns : List (List ℕ)). check_distinct ns ws) (sym (append-nil before))
distinct_append before (v ∷ vs) ws = by (is_among before v.name) (distinct_append (before ++ v.name ∷ []) vs ws ∙ ap (λ (ns : List (List ℕ)). check_distinct (before ++ v.name ∷ []) vs >>= λ _. check_distinct ns ws) (append_assoc before (v.name ∷ []) (names vs)))
  where
    by : (b : Bool) → check_distinct (before ++ v.name ∷ []) (vs ++ ws) ≡ (check_distinct (before ++ v.name ∷ []) vs >>= λ _. check_distinct (before ++ v.name ∷ names vs) ws)
        → (if b then Err (DuplicateVariable v.at) else check_distinct (before ++ v.name ∷ []) (vs ++ ws)) ≡ ((if b then Err (DuplicateVariable v.at) else check_distinct (before ++ v.name ∷ []) vs) >>= λ _. check_distinct (before ++ v.name ∷ names vs) ws)
    by true rest = refl
    by false rest = rest

pub adds_nothing : (old : List (List ℕ)) → AddsUnlessMemory [] (Ok tt) old old
unfolding check_distinct
adds_nothing old = (refl, sym (append-nil old))

-- a pattern without variables
pub leaf_adds : (p : Shape) (old : List (List ℕ))
    → ((n : ℤ) × (p ≡ shapes.Integer n)) ⊎ (((c : ℕ) × (p ≡ shapes.Character c)) ⊎ (((t : Vec ℕ Global) × (p ≡ shapes.Text t)) ⊎ ((a : Atom) × (p ≡ shapes.Atom a))))
    → AddsUnlessMemory (variables_of (pattern_of p)) (Ok tt) old old
leaf_adds p old (inl w) = rw w.1 (adds_nothing old)
leaf_adds p old (inr (inl w)) = rw w.1 (adds_nothing old)
leaf_adds p old (inr (inr (inl w))) = rw w.1 (adds_nothing old)
leaf_adds p old (inr (inr (inr w))) = rw w.1 (adds_nothing old)

pub adds_both : (vs ws : List Mention) (r : Result (Unit {0}) ReadFault) (old mid new : List (List ℕ)) → AddsUnlessMemory vs (Ok tt) old mid → AddsUnlessMemory ws r mid new → AddsUnlessMemory (vs ++ ws) r old new
adds_both vs ws (Ok u) old mid new first second =
    let rest : check_distinct (old ++ names vs) ws ≡ Ok tt = ap (λ (ns : List (List ℕ)). check_distinct ns ws) (sym first.1) ∙ second.0 in
    let all : check_distinct old (vs ++ ws) ≡ Ok tt = distinct_append old vs ws ∙ ap (λ (c : Checked). c >>= λ _. check_distinct (old ++ names vs) ws) first.0 ∙ rest in
    (all, second.1 ∙ ap (λ (ns : List (List ℕ)). ns ++ names ws) first.1 ∙ append_assoc old (names vs) (names ws) ∙ ap (λ (ns : List (List ℕ)). old ++ ns) (sym (map-append (λ (v : Mention). v.name) vs ws)))
adds_both vs ws (Err e) old mid new first second = λ real.
    let rest : check_distinct (old ++ names vs) ws ≡ Err e = ap (λ (ns : List (List ℕ)). check_distinct ns ws) (sym first.1) ∙ second real in
    distinct_append old vs ws ∙ ap (λ (c : Checked). c >>= λ _. check_distinct (old ++ names vs) ws) first.0 ∙ rest

pub adds_fails : (vs ws : List Mention) (e : ReadFault) (old : List (List ℕ)) → (e ≢ Memory → check_distinct old vs ≡ Err e) → e ≢ Memory → check_distinct old (vs ++ ws) ≡ Err e
adds_fails vs ws e old failed real = distinct_append old vs ws ∙ ap (λ (c : Checked). c >>= λ _. check_distinct (old ++ names vs) ws) (failed real)

-- ---- a row of variables, by a loop

-- what was bound so far, and what is left
abbrev pub Adding : List (List ℕ) → List Mention → List (List ℕ) → List Mention → Type 0
Adding old vs now rest = (check_distinct now rest ≡ check_distinct old vs) × (now ++ names rest ≡ old ++ names vs)

pub adding_next : (old : List (List ℕ)) (vs ws rest : List Mention) (now new : List (List ℕ)) → Adding old vs now (ws ++ rest) → AddsUnlessMemory ws (Ok tt) now new → Adding old vs new rest
adding_next old vs ws rest now new so_far one =
    let here : check_distinct now (ws ++ rest) ≡ check_distinct (now ++ names ws) rest = distinct_append now ws rest ∙ ap (λ (c : Checked). c >>= λ _. check_distinct (now ++ names ws) rest) one.0 in (
      ap (λ (ns : List (List ℕ)). check_distinct ns rest) one.1 ∙ sym here ∙ so_far.0,
      ap (λ (ns : List (List ℕ)). ns ++ names rest) one.1 ∙ append_assoc now (names ws) (names rest) ∙ ap (λ (ns : List (List ℕ)). now ++ ns) (sym (map-append (λ (v : Mention). v.name) ws rest)) ∙ so_far.1,
    )

pub adding_fails : (old : List (List ℕ)) (vs ws rest : List Mention) (now : List (List ℕ)) (e : ReadFault) → Adding old vs now (ws ++ rest) → (e ≢ Memory → check_distinct now ws ≡ Err e) → e ≢ Memory → check_distinct old vs ≡ Err e
adding_fails old vs ws rest now e so_far failed real = sym so_far.0 ∙ adds_fails ws rest e now failed real

pub adding_done : (old : List (List ℕ)) (vs : List Mention) (now : List (List ℕ)) → Adding old vs now [] → AddsUnlessMemory vs (Ok tt) old now
unfolding check_distinct
adding_done old vs now so_far = (sym so_far.0, sym (append-nil now) ∙ so_far.1)
