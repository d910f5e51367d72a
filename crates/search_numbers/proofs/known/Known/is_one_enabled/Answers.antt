use Rattle.std.proofs.Common.{◌≡◌, ◌<◌, get_or, length, refl, subst, sym}
use borrow.Author.Tests.{ltb-true}
use Rattle.std.proofs.lemmas.Option.{slice_get_read}
use Rattle.search_numbers.specs.Rows.{numbers_in}
use Rattle.search_numbers.proofs.Listed.{one_goes_on}
use Rattle.search_numbers.proofs.known.Known.is_one_enabled.Goals as goal

pub returns-then-is_enabled_in : goal.returns-then-is_enabled_in
returns-then-is_enabled_in c = λ on right.
    let at = get_or c.args.places.now c.loop-at.at-index 0 in
    let r = c.in-Some.remembered.now in
    one_goes_on c.args.self.now (numbers_in c.args.row.now) r.step at right
    (record { remembered = r; there = slice_get_read c.args.self.now.remembered.items (length c.args.self.now.remembered.items) at r refl (subst (λ xs. at < length xs) c.deref.ensures.value (ltb-true at (length c.deref.result.now) (sym c.in-Some.ensures.lookup.0))) (subst (λ xs. r ≡ get_or xs at r) c.deref.ensures.value c.in-Some.ensures.lookup.1); is_of = refl; matches = c.is_enabled_in.ensures.matches c.if-is_enabled_in.true }) (c.is_enabled_in.ensures.enabled c.if-is_enabled_in.true)
