-- How what is planned to change grows.
use Rattle.std.proofs.Common.{◌≡◌, ◌∙◌, ◌<◌, ◌+◌, ℕ, true, false, List, [], ◌∷◌, ◌++◌, Option, map, take, drop, get_or, length, refl, sym, ap, append_assoc, true≢false, arith}
use Rattle.std.specs.Prelude.{◌==◌}
use Rattle.std.proofs.lemmas.List.{append-nil, map-append, take_more, drop_more}
use Rattle.ets_rules.specs.Changes.{all_changes_of_tables, changes_of_tables}
use Rattle.ets_rules.specs.declared.change.TableChange.{TableChange}
use Rattle.ets_rules.specs.declared.changes.Changes.{Changes}
use Rattle.ets_rules.specs.inside.Planned.{Adds}
use Rattle.ets_store.specs.Tables.{heir_in}
use Rattle.ets_store.specs.declared.table.Heir as held
use Rattle.world_model.specs.Changes.{Change, HeirSet}
use Rattle.world_model.specs.Names.{Ref}
use Rattle.world_model.specs.Objects.{stored_at, stores}
use Rattle.world_model.specs.Ownership.{heirs_set}
use Rattle.world_model.specs.Rows.{Object, part_at}
use Rattle.world_model.specs.TableAccess.{Found}
use Rattle.world_model.specs.Tables.{Heir}

-- ---- changes that several mean

pub all_both : (xs ys : List TableChange) → all_changes_of_tables (xs ++ ys) ≡ all_changes_of_tables xs ++ all_changes_of_tables ys
all_both [] ys = refl
all_both (x ∷ xs) ys = ap (λ zs. changes_of_tables x ++ zs) (all_both xs ys) ∙ sym (append_assoc (changes_of_tables x) (all_changes_of_tables xs) (all_changes_of_tables ys))

pub one_change : (xs : List TableChange) (c : TableChange) → all_changes_of_tables (xs ++ c ∷ []) ≡ all_changes_of_tables xs ++ changes_of_tables c
one_change xs c = all_both xs (c ∷ []) ∙ ap (λ ks. all_changes_of_tables xs ++ ks) (append-nil (changes_of_tables c))

pub all_rest : (cs : List TableChange) (i : ℕ) (k : TableChange) → i < length cs → k ≡ get_or cs i k → all_changes_of_tables (drop i cs) ≡ changes_of_tables k ++ all_changes_of_tables (drop (i + 1) cs)
all_rest cs i k within at = ap all_changes_of_tables (drop_more cs i k within ∙ ap (λ x. x ∷ drop (i + 1) cs) (sym at))

pub all_taken : (cs : List TableChange) (i : ℕ) (k : TableChange) → i < length cs → k ≡ get_or cs i k → all_changes_of_tables (take (i + 1) cs) ≡ all_changes_of_tables (take i cs) ++ changes_of_tables k
all_taken cs i k within at = ap all_changes_of_tables (take_more cs i k within ∙ ap (λ (x : TableChange). take i cs ++ x ∷ []) (sym at)) ∙ one_change (take i cs) k

-- ---- what grows

-- nothing is added
pub adds_none : (f : Changes) → Adds [] f f
adds_none f = record { more = sym (append-nil (all_changes_of_tables f.list.items)) }

-- first some, then others
pub adds_then : (ks ls : List Change) (f g h : Changes) → Adds ks f g → Adds ls g h → Adds (ks ++ ls) f h
adds_then ks ls f g h first then_ = record { more = then_.more ∙ ap (λ zs. zs ++ ls) first.more ∙ append_assoc (all_changes_of_tables f.list.items) ks ls }

-- the same under another name
pub adds_as : (ks ls : List Change) (f g : Changes) → ks ≡ ls → Adds ks f g → Adds ls f g
adds_as ks ls f g same adds = record { more = adds.more ∙ ap (λ zs. all_changes_of_tables f.list.items ++ zs) same }

-- one item more of a list that is gone through
pub adds_item : {X : Type 0} (ks : List X → List Change) (more : X → List Change) → ((xs : List X) (x : X) → ks (xs ++ x ∷ []) ≡ ks xs ++ more x)
    → (xs : List X) (i : ℕ) (x : X) (f g h : Changes) → i < length xs → x ≡ get_or xs i x → Adds (ks (take i xs)) f g → Adds (more x) g h → Adds (ks (take (i + 1) xs)) f h
adds_item {X = X} ks more alters_ xs i x f g h lt is before now_ =
    let one : take (i + 1) xs ≡ take i xs ++ x ∷ [] = take_more xs i x lt ∙ ap (λ (y : X). take i xs ++ y ∷ []) (sym is) in
    adds_as (ks (take i xs) ++ more x) (ks (take (i + 1) xs)) f h (sym (ap ks one ∙ alters_ (take i xs) x)) (adds_then (ks (take i xs)) (more x) f g h before now_)

-- ---- items

-- one object more
pub stores_more : (f : Found) (os : List Object) (o : Object) → stores f (os ++ o ∷ []) ≡ stores f os ++ stored_at f o (part_at f.table.position o)
stores_more f [] o = append-nil (stored_at f o (part_at f.table.position o))
stores_more f (x ∷ os) o =
    let one = stored_at f x (part_at f.table.position x) in
    ap (λ ks. one ++ ks) (stores_more f os o) ∙ sym (append_assoc one (stores f os) (stored_at f o (part_at f.table.position o)))

-- one heir more
pub heirs_more : (t : Ref) (hs : List (Option held.Heir)) (h : Option held.Heir) → map (HeirSet t) (map heir_in (hs ++ h ∷ [])) ≡ map (HeirSet t) (map heir_in hs) ++ HeirSet t (heir_in h) ∷ []
heirs_more t hs h = ap (map (HeirSet t)) (map-append heir_in hs (h ∷ [])) ∙ map-append (HeirSet t) (map heir_in hs) (heir_in h ∷ [])

-- some heirs, or none
pub set_some : {A : Type 0} (t : Ref) (h : A → Heir) (xs : List A) → false ≡ (length xs == 0) → map (HeirSet t) (map h xs) ≡ heirs_set t (map h xs)
set_some t h [] e = absurd (true≢false (sym e))
set_some t h (x ∷ xs) e = refl

pub set_none : {A : Type 0} (t : Ref) (h : A → Heir) (xs : List A) → true ≡ (length xs == 0) → heirs_set t [] ≡ heirs_set t (map h xs)
set_none t h [] e = refl
set_none t h (x ∷ xs) e = absurd (some_length e)
  where
    some_length : true ≡ (length (x ∷ xs) == 0) → ⊥
    some_length e = grind arith
