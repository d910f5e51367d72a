use Rattle.std.proofs.Common.{◌≡◌, ◌+◌, ◌∙◌, Some, length, refl, slice_get, sym, ap, subst}
use Rattle.std.proofs.lemmas.Option.{slice_get_read}
use Rattle.std.proofs.lemmas.Result.{IfOk-weaker}
use Rattle.search_numbers.proofs.Followed.{follows_itself}
use Rattle.search_numbers.proofs.Keeping.{stands_for_found, stands_for_opening}
use Rattle.search_numbers.specs.Stored.{module_in, numbered}
use Rattle.world_model.specs.Cells.{Contents}
use Rattle.world_records.specs.Places.{AgreesAt, AgreesTooAt}
use Rattle.search_numbers.proofs.store.Store.number.Goals as goal

pub returns-in_err-place-clause-follows : goal.returns-in_err-place-clause-follows
returns-in_err-place-clause-follows c = follows_itself c.args.self.now

pub returns-then-is_same_at-clause-number : goal.returns-then-is_same_at-clause-number
returns-then-is_same_at-clause-number c =
    let store = c.args.self.now in
    let places = store.places.items in
    let there : slice_get places c.args.column ≡ Some c.in_ok-place.place = slice_get_read places (length places) c.args.column c.index.result.now refl c.requires.there c.index.ensures ∙ ap Some (sym c.in_ok-place.ensures) in
    stands_for_opening store c.args.column c.in_ok-place.place c.args.records.now.value c.requires.whole.opens there (subst (AgreesTooAt c.in_ok-place.place store.opening) c.deref.ensures (c.if-is_same_at.ensures refl))

pub returns-then-is_same_at-clause-follows : goal.returns-then-is_same_at-clause-follows
returns-then-is_same_at-clause-follows c = follows_itself c.args.self.now

pub returns-in-Some-clause-number : goal.returns-in-Some-clause-number
returns-in-Some-clause-number c =
    let store = c.args.self.now in
    let places = store.places.items in
    let m = module_in store.opening in
    let place = c.in_ok-place.place in
    let there : slice_get places c.args.column ≡ Some place = slice_get_read places (length places) c.args.column c.index.result.now refl c.requires.there c.index.ensures ∙ ap Some (sym c.in_ok-place.ensures) in
    let stands : (v : Contents) → AgreesAt m place c.args.records.now.value v → AgreesAt m place (numbered store (c.in-Some.at + 1)) v = subst (λ records. (v : Contents) → AgreesAt m place records v → AgreesAt m place (numbered store (c.in-Some.at + 1)) v) c.deref-3.ensures c.in-Some.ensures.1 in
    IfOk-weaker c.number_at.result _ _ (λ n is. stands_for_found store c.args.column place c.args.records.now.value n c.in-Some.at there is stands) c.number_at.ensures

pub returns-in-Some-clause-follows : goal.returns-in-Some-clause-follows
returns-in-Some-clause-follows c = follows_itself c.args.self.now
