use Rattle.std.proofs.Common.{rules, ap, sym, ◌∙◌, pos, ℤ, Option}
use Rattle.std.specs.Prelude.{FitsSigned, unsigned_abs}
use Rattle.std.specs.Int.{w64}
use Rattle.std.proofs.lemmas.Int.{to_z-of_z}
use Rattle.core_pure_calls.specs.Answers.{whole, wrong_argument}
use Rattle.core_pure_calls.specs.Arithmetic.{with_integer}
use Rattle.core_pure_calls.proofs.Numbers.{absolute_fits}
use Rattle.core_pure_calls.proofs.arithmetic.absolute.Goals as goal

pub returns-in-Some : goal.returns-in-Some
returns-in-Some c =
    let fits : FitsSigned w64 c.in-Some.number = search rules in
    let told = simp to_z-of_z at c.checked_abs.ensures in
    c.in_range.ensures _ (absolute_fits c.in-Some.number c.checked_abs.result fits told)
    ∙ ap (λ (o : Option ℤ). with_integer (λ a. whole (pos (unsigned_abs a))) wrong_argument o) (sym c.in-Some.is ∙ c.integer.ensures)
