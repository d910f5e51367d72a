-- What outcomes result in: lawful outcomes, in any order, in any grouping.
use Rattle.std.proofs.Common.{◌≡◌, inl, ⊎_elim, ℕ, ◌+◌, ◌<◌, ◌≤◌, ◌^◌, ap, sym, refl, ◌∙◌, arith}
use Rattle.std.proofs.lemmas.Bool.{cases_lt}
use Rattle.world_model.specs.Shown.{is_error, is_refusal}
use Rattle.tree_findings.proofs.Putting.{merged_comm}
use Rattle.tree_findings.proofs.Schedules.{any_grouping}
use Rattle.tree_findings.specs.Merging.{merged_findings}
use Rattle.tree_findings.specs.declared.extent.Extent.{Extent}
use Rattle.tree_findings.specs.declared.outcome.Outcome.{Outcome}
use Rattle.tree_findings.specs.declared.outcome.Outcome.TheVariants.{Complete, Incomplete}
use Rattle.report_text.specs.ReportText.{findings_in}
use Rattle.report_reader.specs.Lawful.{IsLawfulExtent}
use Rattle.report_reader.specs.Merged.{AreTooMany, GroupingDoesNotMatter, MergedAreLawful, OrderDoesNotMatter, merged_outcome, sum_of}
use Rattle.report_reader.proofs.ListLaws.{merged_lawful}

pub findings_merged : (a b : Outcome) → findings_in (merged_outcome a b) ≡ merged_findings (findings_in a) (findings_in b)
findings_merged (Complete f e) (Complete g k) = refl
findings_merged (Complete f e) (Incomplete cause g) = refl
findings_merged (Incomplete cause f) (Complete g k) = refl
findings_merged (Incomplete cause f) (Incomplete other g) = refl

below : (n : ℕ) → (2 ^ 64 ≤ n → ⊥) → n < 2 ^ 64
below n few = ⊎_elim (λ h. h) (λ h. absurd (few h)) (cases_lt n (2 ^ 64))

extent_merged : (a b : Outcome) → IsLawfulExtent a → IsLawfulExtent b → (AreTooMany a b → ⊥) → IsLawfulExtent (merged_outcome a b)
extent_merged (Complete f e) (Complete g k) h j few = (below (e.nodes + k.nodes) (λ many. few (inl many)), omega (arith, h.1, j.1))
extent_merged (Complete f e) (Incomplete cause g) h j few = tt
extent_merged (Incomplete cause f) more h j few = tt

pub merged_are_lawful : MergedAreLawful
merged_are_lawful flags (Complete f e) (Complete g k) h j few = record {
  errors = merged_lawful (is_error flags) f.errors g.errors h.errors j.errors;
  refusals = merged_lawful is_refusal f.refusals g.refusals h.refusals j.refusals;
  extent = extent_merged (Complete f e) (Complete g k) h.extent j.extent few;
}
merged_are_lawful flags (Complete f e) (Incomplete cause g) h j few = record {
  errors = merged_lawful (is_error flags) f.errors g.errors h.errors j.errors;
  refusals = merged_lawful is_refusal f.refusals g.refusals h.refusals j.refusals;
  extent = tt;
}
merged_are_lawful flags (Incomplete cause f) (Complete g k) h j few = record {
  errors = merged_lawful (is_error flags) f.errors g.errors h.errors j.errors;
  refusals = merged_lawful is_refusal f.refusals g.refusals h.refusals j.refusals;
  extent = tt;
}
merged_are_lawful flags (Incomplete cause f) (Incomplete other g) h j few = record {
  errors = merged_lawful (is_error flags) f.errors g.errors h.errors j.errors;
  refusals = merged_lawful is_refusal f.refusals g.refusals h.refusals j.refusals;
  extent = tt;
}

pub order_does_not_matter : OrderDoesNotMatter
order_does_not_matter flags f g a b h j =
    let errors = merged_comm f.errors g.errors h.errors.sorted j.errors.sorted in
    let refusals = merged_comm f.refusals g.refusals h.refusals.sorted j.refusals.sorted in
    let nodes : a.nodes + b.nodes ≡ b.nodes + a.nodes = omega arith in
    let cut : a.cut + b.cut ≡ b.cut + a.cut = omega arith in
    λ i. Complete (record { errors = errors i; refusals = refusals i }) (record { nodes = nodes i; cut = cut i })

sums_grouped : (a b c : Extent) → sum_of (sum_of a b) c ≡ sum_of a (sum_of b c)
sums_grouped a b c =
    let nodes : a.nodes + b.nodes + c.nodes ≡ a.nodes + (b.nodes + c.nodes) = omega arith in
    let cut : a.cut + b.cut + c.cut ≡ a.cut + (b.cut + c.cut) = omega arith in
    λ i. record { nodes = nodes i; cut = cut i }

pub grouping_does_not_matter : GroupingDoesNotMatter
grouping_does_not_matter (Complete f a) (Complete g b) (Complete h c) = λ i. Complete (any_grouping f g h i) (sums_grouped a b c i)
grouping_does_not_matter (Complete f a) (Complete g b) (Incomplete cause h) = λ i. Incomplete cause (any_grouping f g h i)
grouping_does_not_matter (Complete f a) (Incomplete cause g) more = λ i. Incomplete cause (any_grouping f g (findings_in more) i)
grouping_does_not_matter (Incomplete cause f) b c =
    ap (Incomplete cause) (any_grouping f (findings_in b) (findings_in c) ∙ ap (merged_findings f) (sym (findings_merged b c)))
