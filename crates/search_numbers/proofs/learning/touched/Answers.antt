use Rattle.std.proofs.Common.{◌∙◌, ◌+◌, ◌++◌, ◌∷◌, [], get_or, refl, subst, sym, take}
use Rattle.std.proofs.lemmas.List.{take_more}
use Rattle.search_numbers.specs.inside.Learning.{AreTouched}
use Rattle.search_numbers.specs.Rows.{numbers_in}
use Rattle.search_numbers.proofs.Kept.{follows_too}
use Rattle.search_numbers.proofs.Followed.{follows_itself}
use Rattle.search_numbers.proofs.Learned.{touched_more, touched_none}
use Rattle.search_numbers.proofs.learning.touched.Goals as goal

pub returns-in_err-touches-clause-follows : goal.returns-in_err-touches-clause-follows
returns-in_err-touches-clause-follows c = follows_itself c.args.store.now

pub loop-column-init : goal.loop-column-init
loop-column-init c = record {
  touched = touched_none c.args.store.now (numbers_in c.args.row.now) c.args.after.now.value c.in_ok-touches.touches.items c.in_ok-touches.ensures.items;
  follows = follows_itself c.args.store.now;
  places = refl;
}

pub number-requires-clause-whole : goal.number-requires-clause-whole
number-requires-clause-whole c = c.loop-column.invariant.follows.whole c.requires.2

pub loop-column-preserved : goal.loop-column-preserved
loop-column-preserved c =
    let old = c.loop-column.store in
    let new = c.number.new.self in
    let numbers = numbers_in c.args.row.now in
    let left = c.args.after.now.value in
    let columns = c.args.columns.now in
    let i = c.loop-column.column-index in
    let column = get_or columns i 0 in
    let more = touched_more old new numbers left (take i columns) c.loop-column.touches.items (record { column = column; before = c.number_in.result; after = c.in_ok-number.number })
    c.in_ok-number.ensures.follows (λ j. (c.in_ok-number.ensures.places j).items) c.loop-column.invariant.touched c.number_in.ensures c.in_ok-number.ensures.kept c.in_ok-number.ensures.number in
    record {
      touched = subst (λ ts. AreTouched new numbers left (take (i + 1) columns) ts) (sym c.in_ok-push.ensures.items)
          (subst (λ cs. AreTouched new numbers left cs (c.loop-column.touches.items ++ record { column = column; before = c.number_in.result; after = c.in_ok-number.number } ∷ [])) (sym (take_more columns i 0 c.loop-column-test.true)) more);
      follows = follows_too c.args.store.now old new c.loop-column.invariant.follows c.in_ok-number.ensures.follows;
      places = c.in_ok-number.ensures.places ∙ c.loop-column.invariant.places;
    }
