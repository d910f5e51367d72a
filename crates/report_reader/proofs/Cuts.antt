-- Texts in pieces: fronts, one after another, and cuts at marks.
use Rattle.std.proofs.Common.{◌≡◌, ◌==◌, ℕ, Bool, true, false, List, [], ◌∷◌, ◌++◌, length, ap, sym, refl, ◌∙◌, subst, arith, append_assoc, eqb-true, one-add}
use Rattle.std.proofs.lemmas.Bool.{eq-eqb}
use Rattle.std.proofs.lemmas.List.{append_cancel_left}
use Rattle.term_core.proofs.Pieces.{Begins, behind, behind-append, behind_begins, front, front-append-behind, one_cut}
use Rattle.report_reader.specs.inside.Reading.{HasNoFront, HasNoMark, IsCut, LacksMark}

-- ---- fronts

-- what follows a front is determined
pub same_behind : (a mid more text : List ℕ) → text ≡ a ++ mid → text ≡ a ++ more → mid ≡ more
same_behind a mid more text e f = append_cancel_left a mid more (sym e ∙ f)

-- one front after another
pub joined : (a b text mid rest : List ℕ) → text ≡ a ++ mid → mid ≡ b ++ rest → text ≡ (a ++ b) ++ rest
joined a b text mid rest e f = e ∙ ap (λ w. a ++ w) f ∙ sym (append_assoc a b rest)

pub no_first : (a b text : List ℕ) → HasNoFront a text → HasNoFront (a ++ b) text
no_first a b text none = λ rest e. none (b ++ rest) (e ∙ append_assoc a b rest)

pub no_second : (a b text mid : List ℕ) → text ≡ a ++ mid → HasNoFront b mid → HasNoFront (a ++ b) text
no_second a b text mid e none = λ rest f. none rest (same_behind a mid (b ++ rest) text e (f ∙ append_assoc a b rest))

-- ---- cuts

lacks_or : (test : Bool) (mark x : ℕ) (xs : List ℕ) → (x == mark) ≡ test → LacksMark mark (front mark xs) → LacksMark mark (front mark (x ∷ xs))
lacks_or true mark x xs e h = rw e tt
lacks_or false mark x xs e h = rw (e, one-add) (e, h)

lacks_front : (mark : ℕ) (bytes : List ℕ) → LacksMark mark (front mark bytes)
lacks_front mark [] = tt
lacks_front mark (x ∷ xs) = lacks_or (x == mark) mark x xs refl (lacks_front mark xs)

-- a text that was split before its first mark
pub cut_at : (mark : ℕ) (text line rest next : List ℕ) (b : ℕ) → line ≡ front mark text → rest ≡ behind mark text → rest ≡ b ∷ next → IsCut mark text line next
cut_at mark text line rest next b is back cut =
    let marked : b ≡ mark = eqb-true b mark (subst (Begins mark) (sym back ∙ cut) (behind_begins mark text)) in (
      subst (LacksMark mark) (sym is) (lacks_front mark text),
      sym (front-append-behind mark text) ∙ ap (λ w. front mark text ++ w) (sym back ∙ cut ∙ ap (λ c. c ∷ next) marked) ∙ ap (λ w. w ++ mark ∷ next) (sym is),
    )

-- or has none
pub no_cut : (mark : ℕ) (text rest : List ℕ) → rest ≡ behind mark text → length rest ≡ 0 → HasNoMark mark text
no_cut mark text rest back none = λ a b lacks e.
    omega (arith, none, ap length (back ∙ ap (behind mark) e ∙ behind-append mark a (mark ∷ b) lacks (eq-eqb mark mark refl)))

-- a text has one such cut
pub same_cut : (mark : ℕ) (text a b c d : List ℕ) → IsCut mark text a b → LacksMark mark c → text ≡ c ++ mark ∷ d → (a ≡ c) × (b ≡ d)
same_cut mark text a b c d cut lacks e =
    let begins : (mark == mark) ≡ true = eq-eqb mark mark refl in
    let same = one_cut mark a (mark ∷ b) c (mark ∷ d) cut.0 begins lacks begins (sym cut.1 ∙ e) in
    let more : mark ∷ b ≡ mark ∷ d = same.1 in (same.0, cc)
