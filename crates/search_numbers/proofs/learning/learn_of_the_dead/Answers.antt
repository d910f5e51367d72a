use Rattle.std.proofs.Common.{◌∙◌, None, ap, refl, subst, sym}
use Rattle.world_records.specs.declared.place.Place.TheVariants.{Inbox}
use Rattle.search_numbers.specs.Rows.{numbers_in}
use Rattle.search_numbers.specs.Stored.{BeginsAt, column_in}
use Rattle.search_numbers.proofs.Followed.{follows_itself}
use Rattle.search_numbers.proofs.Learned.{right_dead}
use Rattle.search_numbers.proofs.learning.learn_of_the_dead.Goals as goal

pub returns-in_err-copy-clause-follows : goal.returns-in_err-copy-clause-follows
returns-in_err-copy-clause-follows c = follows_itself c.args.store.now

pub returns-clause-learned : goal.returns-clause-learned
returns-clause-learned c =
    right_dead c.args.store.now c.add.new.self (numbers_in c.args.row.now) c.args.step.now c.in_ok-column.column (record { step = c.in_ok-copy-2.field-0; column = c.args.begins; touches = c.in_ok-touches.touches; shown = None })
    c.requires.dead c.in_ok-column.ensures.follows (ap (λ p. column_in c.add.new.self.places.items (Inbox p)) (sym (c.in_ok-copy.ensures ∙ c.actor_of.ensures)) ∙ c.in_ok-column.ensures.column) c.in_ok-touches.ensures (subst (BeginsAt c.args.store.now.places.items c.args.begins) (sym c.in_ok-copy-2.ensures) c.requires.begins) c.in_ok-copy-2.ensures refl
