-- Whether a test holds of one of the items of a list, item by item.
use Rattle.std.proofs.Common.{◌≡◌, Bool, true, false, ◌||◌, ℕ, zero, suc, ◌+◌, ◌<◌, List, [], ◌∷◌, length, map, drop, get_or, add-one, sym, ap, ◌∙◌, arith}
use Rattle.std.specs.List.{list_any}

-- it holds of this one, and so of one of those from here on
pub found : {A B : Type 0} (p : B → Bool) (f : A → B) (xs : List A) (i : ℕ) (x : A) → i < length xs → x ≡ get_or xs i x → p (f x) ≡ true → list_any p (map f (drop i xs)) ≡ true
found p f [] i x h is so = absurd (omega arith)
found p f (y ∷ ys) zero x h is so = ap (λ b. b || list_any p (map f ys)) (ap (λ z. p (f z)) (sym is) ∙ so)
found p f (y ∷ ys) (suc i) x h is so = found p f ys i x (omega arith) is so

-- it does not, and so of one of those from here on if of one of those after it
passed_by : {A B : Type 0} (p : B → Bool) (f : A → B) (xs : List A) (i : ℕ) (x : A) → i < length xs → x ≡ get_or xs i x → p (f x) ≡ false → list_any p (map f (drop (suc i) xs)) ≡ list_any p (map f (drop i xs))
passed_by p f [] i x h is other = absurd (omega arith)
passed_by p f (y ∷ ys) zero x h is other = sym (ap (λ b. b || list_any p (map f ys)) (ap (λ z. p (f z)) (sym is) ∙ other))
passed_by p f (y ∷ ys) (suc i) x h is other = passed_by p f ys i x (omega arith) is other

pub passed : {A B : Type 0} (p : B → Bool) (f : A → B) (xs : List A) (i : ℕ) (x : A) → i < length xs → x ≡ get_or xs i x → p (f x) ≡ false → list_any p (map f (drop (i + 1) xs)) ≡ list_any p (map f (drop i xs))
passed p f xs i x h is other = ap (λ n. list_any p (map f (drop n xs))) (add-one i) ∙ passed_by p f xs i x h is other
