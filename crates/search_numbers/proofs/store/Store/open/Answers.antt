use Rattle.std.proofs.Common.{rules, ◌≡◌, ◌∙◌, ◌++◌, ◌∷◌, List, [], ap}
use Rattle.search_numbers.proofs.Opening.{first_placed, nothing_kept, one_begins, one_column, opens_as}
use Rattle.search_numbers.proofs.store.Store.open.Goals as goal
use Rattle.search_numbers.specs.Stored.{Starts}
use Rattle.term_core.specs.declared.step.Step.TheVariants.{Turn}
use Rattle.world_records.specs.declared.place.Place.{Place}
use Rattle.world_records.specs.declared.place.Place.TheVariants.{Course}

pub returns-clause-whole : goal.returns-clause-whole
returns-clause-whole c =
    let places : c.push.new.self.items ≡ Course [] ∷ [] =
    c.in_ok-push.ensures.items ∙ ap (λ (xs : List Place). xs ++ Course c.in_ok-copy.field-0 ∷ []) c.new-places.ensures.items
    ∙ ap (λ p. Course p ∷ []) (c.in_ok-copy.ensures ∙ c.in_ok-first.ensures ∙ c.new.ensures.items) in
    let starts : Starts c.insert.new.self.entries = search rules in
    let entries : c.insert.new.self.entries ≡ (Turn [], 0) ∷ [] = search rules in
    record {
      opens = opens_as c.in_ok-open.field-0 c.args.program.now c.in_ok-open.ensures;
      each = nothing_kept c.in_ok-open.field-0 c.new-3.result.items c.new-3.ensures.items;
      columns = one_column c.push.new.self.items places;
      begins = one_begins c.push.new.self.items c.insert.new.self.entries places starts;
      placed = first_placed c.push.new.self.items c.insert.new.self.entries places entries;
      starts = starts;
    }
