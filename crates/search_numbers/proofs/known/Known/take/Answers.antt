use Rattle.std.proofs.lemmas.Option.{slice_get_within}
use Rattle.std.proofs.Common.{◌∙◌, ap}
use Rattle.search_numbers.specs.Rows.{numbers_in, written}
use Rattle.search_numbers.proofs.Listed.{read_at}
use Rattle.search_numbers.proofs.Taking.{is_taken, world_taken}
use Rattle.search_numbers.proofs.known.Known.take.Goals as goal

pub returns-clause-taken : goal.returns-clause-taken
returns-clause-taken c =
    let there = c.requires.there.enabled in
    let within = slice_get_within c.args.self.now.remembered.items c.args.at there.remembered there.there in
    is_taken c.args.self.now (numbers_in c.args.row.now) c.args.at c.index-remembered.result.now (numbers_in c.become_after.new.self.numbers.items) _ c.requires.right (read_at c.args.self.now c.args.at c.index-remembered.result.now within c.index-remembered.ensures) c.in_ok-copy.ensures c.in_ok-copies.ensures (λ k. c.in_ok-become_after.ensures k ∙ ap (λ ts. written ts (numbers_in c.args.row.now) k) c.as_slice.ensures.value)

pub returns-clause-world : goal.returns-clause-world
returns-clause-world c =
    let there = c.requires.there.enabled in
    let within = slice_get_within c.args.self.now.remembered.items c.args.at there.remembered there.there in
    world_taken c.args.self.now (numbers_in c.args.row.now) c.args.at c.index-remembered.result.now (numbers_in c.become_after.new.self.numbers.items) (record { step = c.in_ok-copy.field-0; shown = c.in_ok-copies.field-0 }) c.requires.right (read_at c.args.self.now c.args.at c.index-remembered.result.now within c.index-remembered.ensures) c.in_ok-copy.ensures c.in_ok-copies.ensures (λ k. c.in_ok-become_after.ensures k ∙ ap (λ ts. written ts (numbers_in c.args.row.now) k) c.as_slice.ensures.value) c.requires.world c.requires.there
