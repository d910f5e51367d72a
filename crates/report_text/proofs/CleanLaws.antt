-- What the last line of an explained report says.
use Rattle.std.proofs.Common.{◌≡◌, ◌==◌, ℕ, zero, suc, Bool, true, false, if◌then◌else◌, List, [], ◌∷◌, ◌++◌, codes, refl, ap, ◌∙◌, arith}
use Rattle.std.proofs.lemmas.Bool.{eq-eqb, eqb-true}
use Rattle.std.specs.Fmt.{decimal}
use Rattle.tree_coverage.specs.Findings.{Finding}
use Rattle.tree_excuses.specs.Excuses.{counted}
use Rattle.tree_findings.specs.declared.outcome.Outcome.TheVariants.{Complete, Incomplete}
use Rattle.tree_schedules.specs.declared.delivery.Delivery.{Delivery}
use Rattle.tree_schedules.specs.declared.delivery.Delivery.TheVariants.{AnyTime, AtOnce}
use Rattle.report_text.specs.Clean.{LastLinesSayIt, all_clean_line}
use Rattle.report_text.specs.ReportText.{complete_result, delivery_in, schedules_by}

-- the byte at a place
abbrev byte_at : ℕ → List ℕ → ℕ
byte_at n [] = 0
byte_at zero (x ∷ xs) = x
byte_at (suc n) (x ∷ xs) = byte_at n xs

abbrev line_of : Delivery → ℕ → List Finding → Bool → List ℕ
line_of v depth errors whole =
    codes "result: " ++ ((complete_result errors ++ (if whole then (codes ", all " ++ schedules_by v) else (codes " to depth " ++ decimal depth))) ++ codes "\n")

-- by the first byte where the lines differ: that of the words for the schedules, of what follows `clean`, or of the result
of_all : (v d : Delivery) (depth : ℕ) (errors : List Finding) (cut : ℕ) (whole : Bool) → (cut == 0) ≡ whole → line_of v depth errors whole ≡ all_clean_line d → (v ≡ d) × ((errors ≡ []) × (cut ≡ 0))
of_all AnyTime AnyTime depth [] cut true is said = (refl, (refl, eqb-true cut 0 is))
of_all AtOnce AtOnce depth [] cut true is said = (refl, (refl, eqb-true cut 0 is))
of_all AnyTime AtOnce depth [] cut true is said = absurd (omega (arith, ap (byte_at 19) said))
of_all AtOnce AnyTime depth [] cut true is said = absurd (omega (arith, ap (byte_at 19) said))
of_all v AnyTime depth [] cut false is said = absurd (omega (arith, ap (byte_at 13) said))
of_all v AtOnce depth [] cut false is said = absurd (omega (arith, ap (byte_at 13) said))
of_all v AnyTime depth (f ∷ fs) cut true is said = absurd (omega (arith, ap (byte_at 8) said))
of_all v AtOnce depth (f ∷ fs) cut true is said = absurd (omega (arith, ap (byte_at 8) said))
of_all v AnyTime depth (f ∷ fs) cut false is said = absurd (omega (arith, ap (byte_at 8) said))
of_all v AtOnce depth (f ∷ fs) cut false is said = absurd (omega (arith, ap (byte_at 8) said))

clean : (d : Delivery) (depth : ℕ) → line_of d depth [] true ≡ all_clean_line d
clean AnyTime depth = refl
clean AtOnce depth = refl

says : (v d : Delivery) (depth : ℕ) (errors : List Finding) (cut : ℕ) → v ≡ d → errors ≡ [] → cut ≡ 0 → line_of v depth errors (cut == 0) ≡ all_clean_line d
says v d depth errors cut same none whole = (λ i. line_of (same i) depth (none i) (eq-eqb cut 0 whole i)) ∙ clean d depth

stopped : (d : Delivery) → (codes "result: " ++ (codes "incomplete" ++ codes "\n")) ≡ all_clean_line d → ⊥
stopped AnyTime said = omega (arith, ap (byte_at 8) said)
stopped AtOnce said = omega (arith, ap (byte_at 8) said)

pub lines_say_it : LastLinesSayIt
lines_say_it visited depth x (Complete findings extent) d =
    let errors = counted x findings.errors in
    let v = delivery_in visited in
    (of_all v d depth errors extent.cut (extent.cut == 0) refl, λ all. says v d depth errors extent.cut all.0 all.1.0 all.1.1)
lines_say_it visited depth x (Incomplete cause findings) d = (λ said. absurd (stopped d said), λ none. absurd none.1)
