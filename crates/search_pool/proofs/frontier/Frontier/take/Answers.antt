use Rattle.std.proofs.Common.{◌≡◌, ◌+◌, ◌-◌, ◌∷◌, ◌++◌, [], List, length, ◌∙◌, ap, arith}
use Rattle.tree_findings.specs.declared.extent.Extent.{Extent}
use Rattle.search_jobs.specs.Explorations.{JobSeen, TicketSeen, exploration_in}
use Rattle.search_pool.proofs.Frontiers.{last_is, take_done, take_kept, ticket_for}
use Rattle.search_pool.specs.declared.entry.PoolEvent.{PoolEvent}
use Rattle.search_pool.specs.declared.entry.PoolEvent.TheVariants.{Took}
use Rattle.search_pool.proofs.frontier.Frontier.take.Goals as goal

pub invariant_of-self-2 : goal.invariant_of-self-2
invariant_of-self-2 c =
    let f = c.self.inside in
    let x : Extent = record { nodes = f.nodes; cut = f.cut } in
    let job = c.in-Some.job in
    let popped = c.pop.new.self.items in
    let there : length popped ≡ c.len-last.result - 1 = omega (arith, c.len-last.ensures, c.in-Some.ensures.cases) in
    let last : c.index.result.now ≡ job = last_is f.todo.items popped job c.index.result.now (c.len-last.result - 1) c.in-Some.ensures.items there c.index.ensures in
    let own : c.in_ok-tickets.tickets.1 ≡ ticket_for f.taken job = c.in_ok-tickets.ensures.second ∙ ap (λ (j : JobSeen). ticket_for f.taken j) last in
    take_kept (exploration_in f.exploration) f.start f.limit f.todo.items popped job f.out.items _ f.findings x f.taken f.events.items _ f.stop
    c.in-Some.ensures.items
    (c.put.ensures.items ∙ ap (λ (l : List TicketSeen). l ++ c.in_ok-tickets.tickets.1 ∷ []) c.in_ok-reserve.ensures.items ∙ ap (λ (t : TicketSeen). f.out.items ++ t ∷ []) own)
    (c.put-2.ensures.items ∙ ap (λ (l : List PoolEvent). l ++ Took (f.taken + 1) ∷ []) c.in_ok-reserve-2.ensures.items)
    c.in-None.is
    c.self.invariant

pub returns-clause-taken : goal.returns-clause-taken
returns-clause-taken c =
    let f = c.self.inside in
    let x : Extent = record { nodes = f.nodes; cut = f.cut } in
    let job = c.in-Some.job in
    let popped = c.pop.new.self.items in
    let there : length popped ≡ c.len-last.result - 1 = omega (arith, c.len-last.ensures, c.in-Some.ensures.cases) in
    let last : c.index.result.now ≡ job = last_is f.todo.items popped job c.index.result.now (c.len-last.result - 1) c.in-Some.ensures.items there c.index.ensures in
    let first : c.in_ok-tickets.tickets.0 ≡ ticket_for f.taken job = c.in_ok-tickets.ensures.first ∙ ap (λ (j : JobSeen). ticket_for f.taken j) last in
    let own : c.in_ok-tickets.tickets.1 ≡ ticket_for f.taken job = c.in_ok-tickets.ensures.second ∙ ap (λ (j : JobSeen). ticket_for f.taken j) last in
    rw (← c.self.view_is, c.set_number.ensures, first)
    (take_done (exploration_in f.exploration) f.start f.limit f.todo.items popped job f.out.items _ f.findings x f.taken f.events.items _ f.stop
    c.in-Some.ensures.items
    (c.put.ensures.items ∙ ap (λ (l : List TicketSeen). l ++ c.in_ok-tickets.tickets.1 ∷ []) c.in_ok-reserve.ensures.items ∙ ap (λ (t : TicketSeen). f.out.items ++ t ∷ []) own)
    (c.put-2.ensures.items ∙ ap (λ (l : List PoolEvent). l ++ Took (f.taken + 1) ∷ []) c.in_ok-reserve-2.ensures.items)
    c.in-None.is
    c.self.invariant.carried)
