use Rattle.std.proofs.Common.{◌≡◌, ◌∙◌, Some, sym, subst}
use Rattle.std.specs.Map.{keys_of}
use Rattle.search_numbers.proofs.Asking.{among_inserted, each_inserted, inserted_among}
use Rattle.search_numbers.proofs.store.Store.begin.Goals as goal
use Rattle.search_numbers.specs.Stored.{EachBegins, step_at}
use Rattle.world_model.specs.Names.{IsAmong}

pub returns-in_ok-_before-clause-more : goal.returns-in_ok-_before-clause-more
returns-in_ok-_before-clause-more c s there =
    subst (λ es. IsAmong s (keys_of es)) (sym c.in_ok-_before.ensures.entries) (among_inserted c.in-Some.step s c.args.column c.args.self.now.steps.entries there)

pub returns-in_ok-_before-clause-own : goal.returns-in_ok-_before-clause-own
returns-in_ok-_before-clause-own c s is =
    let both : Some c.in-Some.step ≡ Some s = sym c.in-Some.is ∙ c.in_ok-step.ensures ∙ is in
    let same : c.in-Some.step ≡ s = cc in
    subst (λ t. IsAmong t (keys_of c.insert.new.self.entries)) same (subst (λ es. IsAmong c.in-Some.step (keys_of es)) (sym c.in_ok-_before.ensures.entries) (inserted_among c.in-Some.step c.args.column c.args.self.now.steps.entries))

pub returns-in_ok-_before-clause-each : goal.returns-in_ok-_before-clause-each
returns-in_ok-_before-clause-each c qs there each =
    let step : step_at c.args.place.now ≡ Some c.in-Some.step = sym (sym c.in-Some.is ∙ c.in_ok-step.ensures) in
    subst (EachBegins qs) (sym c.in_ok-_before.ensures.entries) (each_inserted qs c.in-Some.step c.args.column c.args.self.now.steps.entries (record { place = c.args.place.now; there = there; begins = step }) each)
