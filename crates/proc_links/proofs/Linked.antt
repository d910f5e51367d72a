-- What two processes are to each other after a link begins or ends.
use Rattle.std.proofs.Common.{◌≡◌, ◌||◌, Bool, true, false, List, [], ◌∷◌, bytes_eq, if◌then◌else◌, refl, sym, ap, ◌∙◌, true≢false}
use Rattle.std.specs.BTreeMap.{is_at}
use Rattle.std.specs.List.{list_any}
use Rattle.std.proofs.lemmas.Map.Text.{is_eq-slice_cmp}
use Rattle.std.proofs.lemmas.Slice.Eq.{bytes_eq-Decides}
use Rattle.term_core.specs.Order.{order_of_lists}
use Rattle.world_model.specs.Names.{Pid, same_pid}
use Rattle.world_model.specs.Changes.{without_first}
use Rattle.world_model.specs.Bonds.{parted, unpaired}

pub any_same : (q : Pid) (xs : List Pid) → list_any (is_at (order_of_lists q)) xs ≡ list_any (same_pid q) xs
any_same q [] = refl
any_same q (x ∷ xs) = ap (λ b. b || list_any (is_at (order_of_lists q)) xs) (is_eq-slice_cmp q x) ∙ ap (λ b. same_pid q x || b) (any_same q xs)

without_same : (q : Pid) (xs : List Pid) → without_first (is_at (order_of_lists q)) xs ≡ without_first (same_pid q) xs
without_same q [] = refl
without_same q (x ∷ xs) = ap (λ b. if b then xs else x ∷ without_first (is_at (order_of_lists q)) xs) (is_eq-slice_cmp q x) ∙ ap (λ zs. if same_pid q x then xs else x ∷ zs) (without_same q xs)

pub parted-is : (p q x : Pid) (there : List Pid) → (if bytes_eq p x then without_first (is_at (order_of_lists q)) there else there) ≡ parted p q x there
parted-is p q x there = ap (λ xs. if bytes_eq p x then xs else there) (without_same q there)

-- an item that is not there cannot go
without_or : {A : Type 0} (b c : Bool) (x : A) (xs ys : List A) → (b || c) ≡ false → (c ≡ false → ys ≡ xs) → (if b then xs else x ∷ ys) ≡ x ∷ xs
without_or true c x xs ys none rest = absurd (true≢false none)
without_or false c x xs ys none rest = ap (λ zs. x ∷ zs) (rest none)

pub without-none : {A : Type 0} (test : A → Bool) (xs : List A) → list_any test xs ≡ false → without_first test xs ≡ xs
without-none test [] none = refl
without-none test (x ∷ xs) none = without_or (test x) (list_any test xs) x xs (without_first test xs) none (without-none test xs)

pub parted-none : (partners : Pid → List Pid) (p q : Pid) → list_any (same_pid q) (partners p) ≡ false → (r : Pid) → parted p q r (partners r) ≡ partners r
parted-none partners p q none r =
    elim (bytes_eq p r) as (λ b. bytes_eq p r ≡ b → (if b then without_first (same_pid q) (partners r) else partners r) ≡ partners r) [
      | true ↦ λ e. without-none (same_pid q) (partners r) (ap (λ s. list_any (same_pid q) (partners s)) (sym ((bytes_eq-Decides p r).0 e)) ∙ none)
      | false ↦ λ e. refl
    ] refl

pub unpaired-apart : (partners : Pid → List Pid) (p q : Pid) → list_any (same_pid q) (partners p) ≡ false → list_any (same_pid p) (partners q) ≡ false → (r : Pid) → unpaired p q r (partners r) ≡ partners r
unpaired-apart partners p q none nor r = ap (parted q p r) (parted-none partners p q none r) ∙ parted-none partners q p nor r
