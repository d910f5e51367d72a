use Rattle.std.proofs.Common.{◌≡◌, ◌∙◌, rules, of_calls, subst, ap, nat_cmp, get_or}
use Rattle.std.proofs.lemmas.Fn.{always_returns_same}
use Rattle.std.proofs.lemmas.List.{get_or_default}
use Rattle.std.specs.List.Sorted.{IsPartitionPoint}
use Rattle.std.specs.declared.cmp.Ordering.TheVariants.{Less, Greater}
use Rattle.search_jobs.specs.Explorations.{TicketSeen}
use Rattle.search_pool.proofs.Tickets.{err_part, found_number, not_out, number_of, ok_part, other_ticket, searchable}
use Rattle.search_pool.proofs.numbered.place_of.Goals as goal

pub returns-else-is_ticket : goal.returns-else-is_ticket
returns-else-is_ticket c =
    let out = c.args.out.now in
    let ticket = c.args.ticket.now in
    let number = c.ticket.inside.number in
    let at = c.in-Ok.at in
    let key = always_returns_same _ _ _ (λ a r f k. search (rules, of_calls)) in
    let there = ok_part _ _ c.binary_search_by.result at c.in-Ok.is (c.binary_search_by.ensures.position (λ (t : TicketSeen). nat_cmp t.number number) key) in
    let same : (get_or out at ticket).number ≡ ticket.number = found_number out number at there ticket ∙ ap number_of c.ticket.view_is in
    other_ticket out ticket at c.requires c.in-Ok.ensures.bound same
    (λ e. c.is_ticket.ensures.no c.if-is_ticket.false (c.index-out-at.is ∙ get_or_default out at c.index-out-at.result ticket c.in-Ok.ensures.bound ∙ e))

pub returns-in-Err : goal.returns-in-Err
returns-in-Err c =
    let out = c.args.out.now in
    let ticket = c.args.ticket.now in
    let number = c.ticket.inside.number in
    let at = c.in-Err.field-0 in
    let key = always_returns_same _ _ _ (λ a r f k. search (rules, of_calls)) in
    let parts = err_part _ _ c.binary_search_by.result at c.in-Err.is (c.binary_search_by.ensures.position (λ (t : TicketSeen). nat_cmp t.number number) key) (searchable out number c.requires) in
    not_out out ticket at (subst (λ n. IsPartitionPoint (λ (t : TicketSeen). nat_cmp t.number n ≡ Less) (λ (t : TicketSeen). nat_cmp t.number n ≡ Greater) out at) (ap number_of c.ticket.view_is) parts)
