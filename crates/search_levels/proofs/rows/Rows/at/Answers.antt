use Rattle.std.proofs.Common.{◌≡◌, ◌∙◌, ◌<◌, inl, inr, Some, refl, ap, arith, length, slice_get, slice_range, subst, sym}
use Rattle.std.proofs.lemmas.Option.{slice_get_read}
use Rattle.search_levels.proofs.Lying.{as_many, entry_at, lies_at}
use Rattle.search_levels.proofs.rows.Rows.at.Goals as goal

pub index-span-requires : goal.index-span-requires
index-span-requires g c = omega (arith, c.requires, ap length c.self.view_is, as_many c.self.inside.numbers.items c.self.inside.spans.items, c.self.inside.spans.ok.0)

pub unreachable-requires : goal.unreachable-requires
unreachable-requires g c =
    let spans = c.self.inside.spans.items in
    let span = c.index-span.result.now in
    let within : c.args.place < length c.self.inside.spans.items = omega (arith, c.requires, ap length c.self.view_is, as_many c.self.inside.numbers.items spans) in
    let there : slice_get spans c.args.place ≡ Some span = slice_get_read spans (length spans) c.args.place span refl within c.index-span.ensures in
    let lies = lies_at c.self.inside.numbers.items spans c.args.place span c.self.invariant there in
    let is = ap length c.deref.ensures.value in
    elim c.in_default.ensures.lookup.0 [ inl less ↦ omega (arith, less, lies.0) | inr past ↦ omega (arith, past, lies.1, is) ]

pub returns : goal.returns
returns g c =
    let numbers = c.self.inside.numbers.items in
    let spans = c.self.inside.spans.items in
    let span = c.index-span.result.now in
    let within : c.args.place < length c.self.inside.spans.items = omega (arith, c.requires, ap length c.self.view_is, as_many numbers spans) in
    let there : slice_get spans c.args.place ≡ Some span = slice_get_read spans (length spans) c.args.place span refl within c.index-span.ensures in
    let row : c.in-Some.row.now ≡ slice_range numbers span.start span.end = c.in-Some.ensures.lookup.0.2 ∙ ap (λ xs. slice_range xs span.start span.end) c.deref.ensures.value in
    subst (λ es. slice_get es c.args.place ≡ Some (record { of = span.of; row = c.in-Some.row.now })) c.self.view_is
    (entry_at numbers spans c.args.place span there ∙ ap (λ r. Some (record { of = span.of; row = r })) (sym row))
