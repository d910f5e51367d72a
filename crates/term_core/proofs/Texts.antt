-- Other ways to say the texts.
use Rattle.std.proofs.Common.{◌≡◌, ℕ, zero, suc, ◌+◌, ◌<◌, ◌≤◌, List, [], ◌∷◌, ◌++◌, refl, sym, ap, ◌∙◌, append-nil, length, drop, get_or, map, false, arith}
use Rattle.std.specs.Bool.{◌==◌}
use Rattle.std.proofs.lemmas.Bool.{false≢true}
use Rattle.std.specs.List.{flat_map}
use Rattle.std.proofs.lemmas.List.{at_drop_more}
use Rattle.term_core.specs.Text.{text_of_step, text_of_schedule, behind_blank}
use Rattle.term_core.specs.Meaning.{Meaning, Meanings, NoMore, Also, meanings_of, node_count, sum_of_nodes}
use Rattle.term_core.specs.Meaning as terms
use Rattle.term_core.specs.Term.{meaning_of}
use Rattle.term_core.specs.TermText.{text_of_term, text_of_tail, text_of_others, text_of_tuple, text_of_end}
use Rattle.term_core.specs.declared.step.Step.{Step}
use Rattle.term_core.specs.declared.term.Term.{Term}
use Rattle.term_core.specs.declared.term.Term.TheVariants.{Int, Atom, Ref, Pid, Tuple, Nil, Cons}

-- the first step, and each other after a blank
pub text_of_schedule-cons : (s : Step) (steps : List Step) → text_of_schedule (s ∷ steps) ≡ text_of_step s ++ flat_map behind_blank steps
text_of_schedule-cons s [] = sym (append-nil (text_of_step s))
text_of_schedule-cons s (t ∷ steps) = ap (λ w. text_of_step s ++ 32 ∷ w) (text_of_schedule-cons t steps)

-- the parts of a tuple from here on, the first of them after this mark
abbrev pub marked : ℕ → Meanings → List ℕ
marked mark NoMore = 125 ∷ []
marked mark (Also first others) = mark ∷ (text_of_term first ++ text_of_others others)

pub marked-comma : (ms : Meanings) → marked 44 ms ≡ text_of_others ms
marked-comma NoMore = refl
marked-comma (Also m ms) = refl

-- a part after its mark, and the parts after it
pub marked-cons : (mark : ℕ) (first : Meaning) (others : List Meaning) → marked mark (meanings_of (first ∷ others)) ≡ (mark ∷ text_of_term first) ++ marked 44 (meanings_of others)
marked-cons mark first others = ap (λ w. mark ∷ (text_of_term first ++ w)) (sym (marked-comma (meanings_of others)))

-- a tuple that has parts
pub tuple_opens : (ms : List Meaning) → (ms ≡ [] → ⊥) → text_of_tuple (meanings_of ms) ≡ marked 123 (meanings_of ms)
tuple_opens [] ne = absurd (ne refl)
tuple_opens (m ∷ ms) ne = refl

-- a list as its first head after a bracket, and the tail
pub list_opens : (p q : Meaning × Meaning) → q ≡ p → 91 ∷ (text_of_term p.0 ++ text_of_tail p.1) ≡ (91 ∷ text_of_term q.0) ++ text_of_tail q.1
list_opens p q e = sym (ap (λ (r : Meaning × Meaning). 91 ∷ (text_of_term r.0 ++ text_of_tail r.1)) e)

-- a cell's tail as its head after a comma, and the tail
pub tail_goes_on : (m : Meaning) (p : Meaning × Meaning) → m ≡ terms.Cons p.0 p.1 → text_of_tail m ≡ (44 ∷ text_of_term p.0) ++ text_of_tail p.1
tail_goes_on m p e = ap text_of_tail e

-- a last tail that is not nil comes after a bar
pub end_behind_bar : (t : Term) → (t ≡ Nil → ⊥) → text_of_end (meaning_of t) ≡ (124 ∷ text_of_term (meaning_of t)) ++ 93 ∷ []
end_behind_bar (Int n) ne = refl
end_behind_bar (Atom a) ne = refl
end_behind_bar (Ref r) ne = refl
end_behind_bar (Pid p) ne = refl
end_behind_bar (Tuple ts) ne = refl
end_behind_bar Nil ne = absurd (ne refl)
end_behind_bar (Cons p) ne = refl

-- the parts that are left, as the first after its mark and the others
pub marked-drop : (mark i : ℕ) (items : List Term) (item : Term) → i < length items → item ≡ get_or items i item → marked mark (meanings_of (map meaning_of (drop i items))) ≡ (mark ∷ text_of_term (meaning_of item)) ++ marked 44 (meanings_of (map meaning_of (drop (i + 1) items)))
marked-drop mark i items item h e =
    at_drop_more (λ ts. marked mark (meanings_of (map meaning_of ts))) items i item h ∙ ap (λ t. marked mark (meanings_of (map meaning_of (t ∷ drop (i + 1) items)))) (sym e) ∙ marked-cons mark (meaning_of item) (map meaning_of (drop (i + 1) items))

-- a part has at most as many nodes as all together
pub part_smaller : (ts : List Term) (i : ℕ) (d : Term) → i < length ts → node_count (meaning_of (get_or ts i d)) ≤ sum_of_nodes (map meaning_of ts)
part_smaller [] i d h = absurd (omega arith)
part_smaller (t ∷ ts) zero d h = omega arith
part_smaller (t ∷ ts) (suc i) d h = omega (arith, part_smaller ts i d (omega arith))

-- parts that are not none
pub parts_left : (ts : List Term) (ms : List Meaning) (n : ℕ) → map meaning_of ts ≡ ms → length ts ≡ n → false ≡ (n == 0) → ms ≡ [] → ⊥
parts_left [] ms n e l f h = false≢true (f ∙ ap (λ k. k == 0) (sym l))
parts_left (t ∷ ts) ms n e l f h = let k = e ∙ h in cc
