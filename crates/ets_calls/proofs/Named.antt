-- What is looked up beside names.
use Rattle.std.proofs.Common.{◌≡◌, List, [], ◌∷◌, Some, None, if◌then◌else◌, false, refl, sym, ap, ◌∙◌}
use Rattle.std.proofs.lemmas.Bool.{false_from_ne_true}
use Rattle.std.proofs.lemmas.Slice.Eq.{bytes_eq-Decides}
use Rattle.world_model.specs.Names.{Name, same_name}
use Rattle.world_model.specs.Tables.{found_beside}

unlike : (word text : Name) → (text ≡ word → ⊥) → same_name word text ≡ false
unlike word text other = false_from_ne_true (same_name word text) (λ e. other (sym ((bytes_eq-Decides word text).0 e)))

-- each of the names is another one
abbrev pub AreOthers : {A : Type 0} → Name → List (Name × A) → Type 0
AreOthers text [] = Unit
AreOthers text (x ∷ xs) = (text ≡ x.0 → ⊥) × AreOthers text xs

pub absent : {A : Type 0} (text : Name) (xs : List (Name × A)) → AreOthers text xs → None ≡ found_beside text xs
absent text [] others = refl
absent text (x ∷ xs) others = absent text xs others.1 ∙ sym (ap (λ b. if b then Some x.1 else found_beside text xs) (unlike x.0 text others.0))
