use Rattle.std.proofs.Common.{◌≡◌, ◌+◌, ◌∙◌, ◌≤◌, ◌∷◌, [], ap, length, refl, arith, length-append}
use Rattle.search_numbers.proofs.Followed.{follows_itself}
use Rattle.search_numbers.proofs.Keeping.{follows_parts, follows_same, is_part, last_number}
use Rattle.search_numbers.proofs.store.Store.keep.Goals as goal

pub returns-in_err-number-clause-follows : goal.returns-in_err-number-clause-follows
returns-in_err-number-clause-follows c = follows_itself c.args.self.now

pub returns-in_err-copy-clause-follows : goal.returns-in_err-copy-clause-follows
returns-in_err-copy-clause-follows c = follows_itself c.args.self.now

pub returns-in_err-try_clone-clause-follows : goal.returns-in_err-try_clone-clause-follows
returns-in_err-try_clone-clause-follows c = follows_itself c.args.self.now

pub returns-in_err-put-clause-follows : goal.returns-in_err-put-clause-follows
returns-in_err-put-clause-follows c = follows_same _ c.args.self.now refl refl refl refl

pub returns-in_err-push-clause-follows : goal.returns-in_err-push-clause-follows
returns-in_err-push-clause-follows c = follows_same _ c.args.self.now refl refl c.in_err-push.ensures.items refl

pub returns-clause-number : goal.returns-clause-number
returns-clause-number c =
    let old = c.args.self.now.parts.items in
    let is : c.in_ok-number.number ≡ length old + 1 = omega (arith, c.in_ok-number.ensures, c.len.ensures) in
    let long : length c.push.new.self.items ≡ length old + 1 = ap length c.in_ok-push.ensures.items ∙ length-append old (record { place = c.in_ok-copy.field-0; records = c.in_ok-try_clone.field-0 } ∷ []) in
    let low : c.in_ok-number.number ≤ length c.push.new.self.items = omega arith in
    (last_number (record { opening = c.args.self.now.opening; places = c.args.self.now.places; parts = c.push.new.self; index = c.put.new.self; steps = c.args.self.now.steps }) old (record { place = c.in_ok-copy.field-0; records = c.in_ok-try_clone.field-0 }) c.in_ok-number.number c.in_ok-push.ensures.items is ∙ c.in_ok-try_clone.ensures, low)

pub returns-clause-follows : goal.returns-clause-follows
returns-clause-follows c = follows_parts _ c.args.self.now (record { place = c.in_ok-copy.field-0; records = c.in_ok-try_clone.field-0 }) refl refl c.in_ok-push.ensures.items refl
    (is_part c.args.self.now.opening c.args.records.now.value (record { place = c.in_ok-copy.field-0; records = c.in_ok-try_clone.field-0 }) c.in_ok-try_clone.ensures c.requires)
