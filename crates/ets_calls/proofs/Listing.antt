-- Lists read item by item, and the parts of tuples.
use Rattle.std.proofs.Common.{◌≡◌, List, [], ◌∷◌, ◌++◌, map, Option, Some, None, option_map, append_assoc, refl, sym, ap, ◌∙◌}
use Rattle.std.proofs.lemmas.List.{map-append}
use Rattle.term_core.specs.Kinds.{cell_in}
use Rattle.term_core.specs.Meaning.{Meaning, Int, Atom, Ref, Pid, Tuple, Nil, Cons, meanings_of, parts_of-meanings_of}
use Rattle.world_model.specs.Terms.{parts_in, before, each_in}

-- the parts of a tuple are those that it was made of
pub parts_in_tuple : (parts : List Meaning) → parts_in (Tuple (meanings_of parts)) ≡ Some parts
parts_in_tuple parts = ap Some (parts_of-meanings_of parts)

-- items that are read, before what the others are
abbrev pub onto : {A : Type 0} → List A → Option (List A) → Option (List A)
onto xs others = option_map (λ ys. xs ++ ys) others

one_more : {A : Type 0} (xs : List A) (x : A) (others : Option (List A)) → onto (xs ++ x ∷ []) others ≡ onto xs (before (Some x) others)
one_more xs x None = refl
one_more xs x (Some ys) = ap Some (append_assoc xs (x ∷ []) ys)

cell_is : (m : Meaning) (pair : Meaning × Meaning) → Some pair ≡ cell_in m → m ≡ Cons pair.0 pair.1
cell_is (Cons head tail) pair is = cc
cell_is (Int n) pair is = cc
cell_is (Atom text) pair is = cc
cell_is (Ref p n) pair is = cc
cell_is (Pid p) pair is = cc
cell_is (Tuple parts) pair is = cc
cell_is Nil pair is = cc

-- a cell is read: its head is one of the items, and its tail is left
pub read_on : {A B : Type 0} (read : Meaning → Option B) (show : A → B) (old new : List A) (x : A) (rest : Meaning) (pair : Meaning × Meaning) (head tail : Meaning) (whole : Option (List B))
    → Some pair ≡ cell_in rest → head ≡ pair.0 → tail ≡ pair.1 → Some (show x) ≡ read head → new ≡ old ++ x ∷ []
    → onto (map show old) (each_in read rest) ≡ whole → onto (map show new) (each_in read tail) ≡ whole
read_on read show old new x rest pair head tail whole is is_head is_tail shows added so_far =
    ap (λ xs. onto (map show xs) (each_in read tail)) added
    ∙ ap (λ xs. onto xs (each_in read tail)) (map-append show old (x ∷ []))
    ∙ one_more (map show old) (show x) (each_in read tail)
    ∙ ap (λ y. onto (map show old) (before y (each_in read tail))) shows
    ∙ ap (λ m. onto (map show old) (before (read m) (each_in read tail))) is_head
    ∙ ap (λ m. onto (map show old) (before (read pair.0) (each_in read m))) is_tail
    ∙ sym (ap (λ m. onto (map show old) (each_in read m)) (cell_is rest pair is))
    ∙ so_far
