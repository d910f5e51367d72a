use Rattle.std.proofs.Common.{Some, refl, subst, sym}
use Rattle.search_numbers.specs.Rows.{numbers_in}
use Rattle.search_numbers.specs.Stored.{BeginsAt}
use Rattle.search_numbers.proofs.Followed.{follows_itself}
use Rattle.search_numbers.proofs.Learned.{right_event, something_left}
use Rattle.search_numbers.proofs.learning.learn_of_an_event.Goals as goal

pub returns-in_err-shown-clause-follows : goal.returns-in_err-shown-clause-follows
returns-in_err-shown-clause-follows c = follows_itself c.args.store.now

pub returns-in_err-after-clause-follows : goal.returns-in_err-after-clause-follows
returns-in_err-after-clause-follows c = follows_itself c.args.store.now

pub touched-requires : goal.touched-requires
touched-requires c =
    let planned = c.requires.planned in
    (planned.within, something_left c.args.store.now (numbers_in c.args.row.now) c.args.records c.in_ok-after.after.value c.args.plan.now c.args.columns.now planned c.in_ok-after.ensures, planned.world.whole)

pub returns-clause-learned : goal.returns-clause-learned
returns-clause-learned c =
    right_event c.args.store.now c.touched.new.store (numbers_in c.args.row.now) c.args.records c.in_ok-after.after.value c.args.plan.now c.args.columns.now
    (record { step = c.in_ok-copy.field-0; column = c.args.begins; touches = c.in_ok-touches.touches; shown = Some c.in_ok-shown.shown }) c.in_ok-shown.shown
    c.requires.planned c.requires.enabled c.in_ok-touches.ensures.follows (λ i. (c.in_ok-touches.ensures.places i).items) c.in_ok-touches.ensures.touches c.in_ok-after.ensures c.in_ok-shown.ensures.shown (subst (BeginsAt c.args.store.now.places.items c.args.begins) (sym c.in_ok-copy.ensures) c.requires.begins) c.in_ok-copy.ensures refl
