-- Bytes that are cut at their marks.
use Rattle.std.proofs.Common.{◌≡◌, ◌==◌, ℕ, Bool, true, false, not, List, [], ◌∷◌, ◌++◌, length, drop, drop_at, ap, ap₂, sym, refl, ◌∙◌, subst, arith, append_assoc, append-nil, eq-eqb, eqb-true, ne_eqb, one-add, true≢false}
use Rattle.std.proofs.lemmas.Bool.{and_parts, not-true}
use Rattle.std.specs.List.{list_all}
use Rattle.term_core.proofs.Pieces.{Begins, all-append, behind_begins, front-append-behind, one_cut}
use Rattle.report_identities.specs.inside.Cuts as cuts
use Rattle.report_identities.specs.inside.Cuts.{IsFirstCut, IsLastCut, Lacks, behind, front}

-- ---- the first mark

front_stops : (mark b : ℕ) (bs : List ℕ) → (b == mark) ≡ true → front mark (b ∷ bs) ≡ []
front_stops mark b bs e = rw e refl

front_on : (mark b : ℕ) (bs : List ℕ) → (b == mark) ≡ false → front mark (b ∷ bs) ≡ b ∷ front mark bs
front_on mark b bs e = rw (e, one-add) refl

lacks_by_first : (test : Bool) (mark b : ℕ) (bs : List ℕ) → (b == mark) ≡ test → Lacks mark (front mark bs) → Lacks mark (front mark (b ∷ bs))
lacks_by_first true mark b bs e l = subst (Lacks mark) (sym (front_stops mark b bs e)) tt
lacks_by_first false mark b bs e l = subst (Lacks mark) (sym (front_on mark b bs e)) (e, l)

-- what comes before the first mark has none
pub lacks-front : (mark : ℕ) (bytes : List ℕ) → Lacks mark (front mark bytes)
lacks-front mark [] = tt
lacks-front mark (b ∷ bs) = lacks_by_first (b == mark) mark b bs refl (lacks-front mark bs)

-- a beginning by a mark, in the words of the texts of schedules
pub begins_as : (mark : ℕ) (bytes : List ℕ) → cuts.Begins mark bytes → Begins mark bytes
begins_as mark [] h = tt
begins_as mark (b ∷ bs) h = h

begins_so : (mark : ℕ) (bytes : List ℕ) → Begins mark bytes → cuts.Begins mark bytes
begins_so mark [] h = tt
begins_so mark (b ∷ bs) h = h

-- the rest begins with the mark
pub rest_begins : (mark : ℕ) (bytes : List ℕ) → cuts.Begins mark (behind mark bytes)
rest_begins mark bytes = begins_so mark (behind mark bytes) (behind_begins mark bytes)

-- ---- the last mark

-- bytes around a mark have one
pub lacks_none : (mark : ℕ) (a b : List ℕ) → Lacks mark (a ++ mark ∷ b) → ⊥
lacks_none mark [] b l = true≢false (sym (eq-eqb mark mark refl) ∙ l.0)
lacks_none mark (x ∷ a) b l = lacks_none mark a b l.1

-- two cuts at the last mark are one
pub one_last_cut : (mark : ℕ) (a b c d : List ℕ) → Lacks mark b → Lacks mark d → a ++ mark ∷ b ≡ c ++ mark ∷ d → (a ≡ c) × (b ≡ d)
one_last_cut mark [] b [] d l k e = (refl, cc)
one_last_cut mark [] b (y ∷ c) d l k e =
    let same : b ≡ c ++ mark ∷ d = cc in
    absurd (lacks_none mark c d (subst (Lacks mark) same l))
one_last_cut mark (x ∷ a) b [] d l k e =
    let same : a ++ mark ∷ b ≡ d = cc in
    absurd (lacks_none mark a b (subst (Lacks mark) (sym same) k))
one_last_cut mark (x ∷ a) b (y ∷ c) d l k e =
    let first : x ≡ y = cc in
    let rest : a ++ mark ∷ b ≡ c ++ mark ∷ d = cc in
    let same = one_last_cut mark a b c d l k rest in
    (ap₂ ◌∷◌ first same.0, same.1)

-- a list without items is empty
pub nothing : {X : Type 0} (xs : List X) → length xs ≡ 0 → xs ≡ []
nothing [] e = refl
nothing (x ∷ xs) e = absurd (omega arith)

-- two cuts at the first mark are one
pub one_first_cut : (mark : ℕ) (a b c d : List ℕ) → Lacks mark a → Lacks mark c → a ++ mark ∷ b ≡ c ++ mark ∷ d → (a ≡ c) × (b ≡ d)
one_first_cut mark a b c d l k e =
    let begins : (mark == mark) ≡ true = eq-eqb mark mark refl in
    let same = one_cut mark a (mark ∷ b) c (mark ∷ d) l begins k begins e in
    let rests : mark ∷ b ≡ mark ∷ d = same.1 in
    (same.0, cc)

-- bytes that are split before their first mark are cut there
pub cut_first : (mark : ℕ) (bytes before rest cut : List ℕ) (first : ℕ) → before ≡ front mark bytes → rest ≡ behind mark bytes → rest ≡ first ∷ cut → IsFirstCut mark bytes before cut
cut_first mark bytes before rest cut first e f g =
    let marked : first ≡ mark = eqb-true first mark (subst (Begins mark) (sym f ∙ g) (behind_begins mark bytes)) in
    record {
      parts = sym (front-append-behind mark bytes) ∙ ap (λ w. front mark bytes ++ w) (sym f ∙ g ∙ ap (λ b. b ∷ cut) marked) ∙ ap (λ w. w ++ mark ∷ cut) (sym e);
      lacks = subst (Lacks mark) (sym e) (lacks-front mark bytes);
    }

-- or have no mark
pub no_first : (mark : ℕ) (bytes rest : List ℕ) → rest ≡ behind mark bytes → length rest ≡ 0 → Lacks mark bytes
no_first mark bytes rest e none =
    let all : front mark bytes ≡ bytes = sym (append-nil (front mark bytes)) ∙ ap (λ w. front mark bytes ++ w) (sym (nothing rest none) ∙ e) ∙ front-append-behind mark bytes in
    subst (Lacks mark) all (lacks-front mark bytes)

-- bytes whose end has no mark
pub record LeavesLast (mark : ℕ) (bytes rest : List ℕ) : Type 0 where
  pub end : List ℕ
  pub parts : bytes ≡ rest ++ end
  pub lacks : Lacks mark end

pub leaves_all : (mark : ℕ) (bytes : List ℕ) → LeavesLast mark bytes bytes
leaves_all mark bytes = record { end = []; parts = sym (append-nil bytes); lacks = tt }

last_parts : (bytes rest before : List ℕ) (last : ℕ) (end : List ℕ) → bytes ≡ rest ++ end → rest ≡ before ++ last ∷ [] → bytes ≡ before ++ last ∷ end
last_parts bytes rest before last end e f = e ∙ ap (λ w. w ++ end) f ∙ append_assoc before (last ∷ []) end

-- a mark before that end is the last
pub found_last : (mark : ℕ) (bytes rest before cut : List ℕ) (last : ℕ) → LeavesLast mark bytes rest → rest ≡ before ++ last ∷ [] → last ≡ mark → cut ≡ drop (length rest) bytes → IsLastCut mark bytes before cut
found_last mark bytes rest before cut last l e same at =
    let end : l.end ≡ cut = sym (at ∙ ap (drop (length rest)) l.parts ∙ drop_at rest l.end (length rest) refl) in
    record { parts = last_parts bytes rest before last l.end l.parts e ∙ (λ i. before ++ same i ∷ end i); lacks = subst (Lacks mark) end l.lacks }

-- another byte before it belongs to it
pub leaves_more : (mark : ℕ) (bytes rest before : List ℕ) (last : ℕ) → LeavesLast mark bytes rest → rest ≡ before ++ last ∷ [] → (last ≡ mark → ⊥) → LeavesLast mark bytes before
leaves_more mark bytes rest before last l e other = record { end = last ∷ l.end; parts = last_parts bytes rest before last l.end l.parts e; lacks = (ne_eqb last mark other, l.lacks) }

pub no_mark : (mark : ℕ) (bytes rest : List ℕ) → LeavesLast mark bytes rest → length rest ≡ 0 → Lacks mark bytes
no_mark mark bytes rest l none = subst (Lacks mark) (sym (l.parts ∙ ap (λ w. w ++ l.end) (nothing rest none))) l.lacks

-- ---- two texts, and tests

pub lacks-append : (mark : ℕ) (a b : List ℕ) → Lacks mark a → Lacks mark b → Lacks mark (a ++ b)
lacks-append mark a b = all-append (λ byte. (byte == mark) ≡ false) a b

-- no byte is the mark, by a test
abbrev pub has_none : ℕ → List ℕ → Bool
has_none mark bytes = list_all (λ byte. not (byte == mark)) bytes

pub lacks_by : (mark : ℕ) (bytes : List ℕ) → has_none mark bytes ≡ true → Lacks mark bytes
lacks_by mark [] e = tt
lacks_by mark (b ∷ bs) e =
    let parts = and_parts _ _ e in
    (not-true _ parts.0, lacks_by mark bs parts.1)
