use Rattle.std.proofs.Common.{◌≡◌, ◌∙◌, Some, length, refl, slice_get, ap}
use Rattle.std.proofs.lemmas.Option.{slice_get_read}
use Rattle.std.proofs.lemmas.Result.{on_ok_weaker}
use Rattle.search_numbers.specs.Rows.{numbers_in}
use Rattle.search_numbers.specs.Stored.{numbered}
use Rattle.search_numbers.proofs.Keeping.{column_taken}
use Rattle.search_numbers.proofs.store.Store.take_column.Goals as goal

pub returns : goal.returns
returns c =
    let store = c.args.self.now in
    let places = store.places.items in
    let there : slice_get places c.args.column ≡ Some c.index.result.now = slice_get_read places (length places) c.args.column c.index.result.now refl c.requires.there c.index.ensures in
    let same : c.numbered.result.now ≡ numbered store (numbers_in c.args.row.now c.args.column) = c.numbered.ensures ∙ ap (numbered store) c.number_in-number.ensures in
    on_ok_weaker c.take_place.result (λ takes. column_taken store (numbers_in c.args.row.now) c.args.column c.index.result.now c.numbered.result.now c.args.records.now c.take_place.new.self c.requires.whole.columns c.requires.whole.each there c.requires.so_far same takes) c.take_place.ensures
