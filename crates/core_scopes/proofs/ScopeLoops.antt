-- Lists gone through by loops.
use Rattle.std.proofs.Common.{◌≡◌, ℕ, ◌+◌, ◌≤◌, ◌<◌, List, [], ◌∷◌, ◌++◌, length, get_or, drop, Ok, Err, ◌≢◌, refl, sym, ap, ◌∙◌}
use Rattle.std.proofs.lemmas.List.{at_drop_more, at_drop_all}
use Rattle.core_tokens.specs.declared.fault.ReadFault.{ReadFault}
use Rattle.core_tokens.specs.declared.fault.ReadFault.TheVariants.{Memory}
use Rattle.core_tree.specs.Syntax.{ClauseTree, clauses_of}
use Rattle.core_scopes.specs.Scopes.{names, bound_by, Setting, guard_of}
use Rattle.core_scopes.specs.Outcomes.{◌>>=◌}
use Rattle.core_scopes.specs.ScopeChecks.{Checked, check_distinct, check_tree, check_clauses}
use Rattle.core_scopes.specs.inside.Environment.{check_clause}

pub drop_item : {X : Type 0} (xs : List X) (i : ℕ) (x : X) → i < length xs → x ≡ get_or xs i x → drop i xs ≡ x ∷ drop (i + 1) xs
drop_item {X = X} xs i x lt is = at_drop_more (λ (ys : List X). ys) xs i x lt ∙ ap (λ (y : X). y ∷ drop (i + 1) xs) (sym is)

pub drop_all : {X : Type 0} (xs : List X) (i : ℕ) → length xs ≤ i → drop i xs ≡ []
drop_all {X = X} xs i le = at_drop_all (λ (ys : List X). ys) xs i le

three_steps : (a b c d : Checked) → (a >>= λ _. (b >>= λ _. (c >>= λ _. d))) ≡ ((a >>= λ _. (b >>= λ _. c)) >>= λ _. d)
three_steps (Ok u) (Ok v) c d = refl
three_steps (Ok u) (Err e) c d = refl
three_steps (Err e) b c d = refl

-- a clause that has a fault
pub clauses_fail : (x : Setting) (bound : List (List ℕ)) (cs : List ClauseTree) (i : ℕ) (c : ClauseTree) (e : ReadFault) (total : Checked) → i < length cs → c ≡ get_or cs i c
    → check_clauses x bound (clauses_of (drop i cs)) ≡ total → (e ≢ Memory → check_clause x bound c ≡ Err e) → e ≢ Memory → total ≡ Err e
clauses_fail x bound cs i c e total lt is so_far failed real =
    let vs = bound_by c.patterns in
    let rest : Checked = check_clauses x bound (clauses_of (drop (i + 1) cs)) in
    let one : check_clauses x bound (clauses_of (drop i cs)) ≡ (check_clause x bound c >>= λ _. rest) =
    ap (λ (ds : List ClauseTree). check_clauses x bound (clauses_of ds)) (drop_item cs i c lt is) ∙ three_steps (check_distinct [] vs) (check_tree (guard_of x) (names vs ++ bound) c.guard) (check_tree x (names vs ++ bound) c.body) rest in
    sym so_far ∙ one ∙ ap (λ (r : Checked). r >>= λ _. rest) (failed real)
