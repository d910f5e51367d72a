use Rattle.std.proofs.Common.{◌≡◌, ◌∙◌, None, Some, is_none, refl, sym, ap, true≢false}
use Rattle.search_numbers.specs.Rows.{numbers_in}
use Rattle.search_numbers.specs.Stored.{BeginsAt}
use Rattle.search_numbers.proofs.Followed.{begins_read}
use Rattle.search_numbers.proofs.Listed.{at_last, found_is, knows_grown, knows_itself, knows_too}
use Rattle.search_numbers.proofs.known.Known.learn_up.Goals as goal

pub returns-in-Some-clause-answers : goal.returns-in-Some-clause-answers
returns-in-Some-clause-answers c s begins = found_is c.args.self.now (numbers_in c.args.row.now) c.args.column s c.in-Some.at c.requires.right c.in-Some.ensures begins

pub returns-in-Some-clause-knows : goal.returns-in-Some-clause-knows
returns-in-Some-clause-knows c = knows_itself c.args.self.now

pub returns-in_err-step-clause-knows : goal.returns-in_err-step-clause-knows
returns-in_err-step-clause-knows c = knows_itself c.args.self.now

-- a step begins there
pub unreachable-requires : goal.unreachable-requires
unreachable-requires c =
    let is = c.requires.begins.begins in
    let place = begins_read c.args.self.now.store.places.items c.args.column c.requires.begins.step c.index.result.now is c.index.ensures in
    let none : None ≡ Some c.requires.begins.step = sym c.in_default-2.is ∙ c.in_ok-step.ensures ∙ place.1 in
    true≢false (ap is_none none)

pub learn-requires-clause-begins : goal.learn-requires-clause-begins
learn-requires-clause-begins c = record {
  place = c.index.result.now;
  there = (begins_read c.args.self.now.store.places.items c.args.column c.requires.begins.step c.index.result.now c.requires.begins.begins c.index.ensures).0;
  begins = sym (sym c.in-Some-2.is ∙ c.in_ok-step.ensures);
}

pub returns-in_err-learned-clause-knows : goal.returns-in_err-learned-clause-knows
returns-in_err-learned-clause-knows c = knows_grown c.args.self.now _ c.in_err-learned.ensures.follows refl

pub returns-clause-answers : goal.returns-clause-answers
returns-clause-answers c =
    let places = c.args.self.now.store.places.items in
    let begins : BeginsAt places c.args.column c.in-Some-2.step = record {
      place = c.index.result.now;
      there = (begins_read places c.args.column c.requires.begins.step c.index.result.now c.requires.begins.begins c.index.ensures).0;
      begins = sym (sym c.in-Some-2.is ∙ c.in_ok-step.ensures);
    } in
    at_last c.remember.new.self (numbers_in c.args.row.now) places c.args.column c.in-Some-2.step c.learn.new.store c.args.self.now.remembered.items c.in_ok-learned.learned c.remember.result begins c.in_ok-learned.ensures.learned c.remember.ensures.place c.remember.ensures.more

pub returns-clause-knows : goal.returns-clause-knows
returns-clause-knows c = knows_too c.args.self.now _ c.remember.new.self (knows_grown c.args.self.now _ c.in_ok-learned.ensures.follows refl) c.remember.ensures.knows
