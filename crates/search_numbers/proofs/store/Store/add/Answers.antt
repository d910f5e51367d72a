use Rattle.std.proofs.Common.{◌≡◌, ◌∙◌, ◌≤◌, ◌++◌, ◌∷◌, [], Global, Some, None, Vec, length, refl, slice_get, sym, ap, subst, arith}
use Rattle.std.specs.Vec.{vec_capacity, vec_len}
use Rattle.search_numbers.specs.Stored.{column_in}
use Rattle.search_numbers.proofs.Asking.{column_last}
use Rattle.search_numbers.proofs.Followed.{follows_itself}
use Rattle.search_numbers.proofs.Keeping.{follows_places, follows_same}
use Rattle.search_numbers.proofs.store.Store.add.Goals as goal
use Rattle.world_records.specs.declared.place.Place.{Place}

pub returns-in-Some-clause-follows : goal.returns-in-Some-clause-follows
returns-in-Some-clause-follows c = follows_itself c.args.self.now

pub returns-in_err-reserve-clause-follows : goal.returns-in_err-reserve-clause-follows
returns-in_err-reserve-clause-follows c = follows_same _ c.args.self.now refl c.reserve.ensures.items refl refl

pub returns-in_err-begin-clause-follows : goal.returns-in_err-begin-clause-follows
returns-in_err-begin-clause-follows c =
    follows_same c.begin.new.self c.args.self.now c.begin.ensures.opening (ap (λ ps. ps.items) c.begin.ensures.places ∙ c.reserve.ensures.items) (ap (λ ps. ps.items) c.begin.ensures.parts) c.in_err-begin.ensures.stays

-- there is room for it
pub returns-in_err-push-clause-follows : goal.returns-in_err-push-clause-follows
returns-in_err-push-clause-follows c =
    let full = subst (λ (ps : Vec Place Global). vec_capacity ps ≤ vec_len ps) c.begin.ensures.places c.in_err-push.ensures.full in
    absurd (omega (arith, full, c.in_ok-reserve.ensures.ok))

pub returns-clause-column : goal.returns-clause-column
returns-clause-column c =
    let places = c.args.self.now.places.items in
    let none : column_in places c.args.place ≡ None = cc in
    let more : c.push.new.self.items ≡ places ++ c.args.place ∷ [] = c.in_ok-push.ensures.items ∙ ap (λ ps. ps.items ++ c.args.place ∷ []) c.begin.ensures.places ∙ ap (λ ps. ps ++ c.args.place ∷ []) c.reserve.ensures.items in
    let end : length places ≡ c.len-column.result = omega (arith, c.len-column.ensures) in
    ap (λ ps. column_in ps c.args.place) more ∙ column_last places c.args.place none ∙ ap Some end

pub returns-clause-follows : goal.returns-clause-follows
returns-clause-follows c =
    let places = c.args.self.now.places.items in
    let none : column_in places c.args.place ≡ None = cc in
    let more : c.push.new.self.items ≡ places ++ c.args.place ∷ [] = c.in_ok-push.ensures.items ∙ ap (λ ps. ps.items ++ c.args.place ∷ []) c.begin.ensures.places ∙ ap (λ ps. ps ++ c.args.place ∷ []) c.reserve.ensures.items in
    let end : length places ≡ c.len-column.result = omega (arith, c.len-column.ensures) in
    follows_places _ c.args.self.now c.args.place c.begin.ensures.opening more (ap (λ ps. ps.items) c.begin.ensures.parts) none c.begin.ensures.more c.in_ok-begin.ensures.own
    (λ qs last each. c.begin.ensures.each qs (ap (slice_get qs) (sym end) ∙ last) each)
