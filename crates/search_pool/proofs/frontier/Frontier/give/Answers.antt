use Rattle.std.proofs.Common.{◌≡◌, ◌+◌, ◌^◌, ◌<◌, ◌≤◌, length, length-append, List, [], ◌∷◌, ◌++◌, false, get_or, is_err, reverse, refl, subst, sym, ◌∙◌, ap, arith}
use Rattle.tree_findings.specs.declared.extent.Extent.{Extent}
use Rattle.tree_findings.specs.Merging.{merged_findings}
use Rattle.search_jobs.specs.Explorations.{JobSeen, TicketSeen, exploration_in}
use Rattle.search_pool.proofs.Frontiers.{counts_given, give_done, give_kept, on_ok}
use Rattle.search_pool.proofs.Outcomes.{fewer_cuts}
use Rattle.search_pool.specs.declared.entry.PoolEvent.{PoolEvent}
use Rattle.search_pool.specs.declared.entry.PoolEvent.TheVariants.{Gave}
use Rattle.search_pool.proofs.frontier.Frontier.give.Goals as goal

-- the tree is cut at no more nodes than were visited
pub overflow_add-self-2 : goal.overflow_add-self-2
overflow_add-self-2 c =
    let f = c.self.inside in
    let x : Extent = record { nodes = f.nodes; cut = f.cut } in
    let fewer : f.cut ≤ f.nodes = fewer_cuts (exploration_in f.exploration) f.start f.limit f.todo.items f.out.items f.findings x f.taken f.events.items f.stop c.self.invariant in
    grind (arith, fewer, c.self.invariant.bounded, c.widened-cut.ensures.small)

pub invariant_of-self-2 : goal.invariant_of-self-2
invariant_of-self-2 c =
    let f = c.self.inside in
    let at = c.in-Some.at in
    let ticket = c.args.ticket.now in
    let piece = c.args.piece in
    let taken = c.take_in-taken_in in
    let slice = c.as_slice.ensures.value in
    let lt : at < length f.out.items = subst (λ (l : List TicketSeen). at < length l) slice c.in-Some.ensures.0 in
    let is : get_or f.out.items at ticket ≡ ticket = subst (λ (l : List TicketSeen). get_or l at ticket ≡ ticket) slice c.in-Some.ensures.1 in
    let same = c.if-not-is_for.ensures.yes refl in
    let fine : is_err taken.result ≡ false = sym c.is_err.ensures.value ∙ c.if-is_err.false in
    let opened : taken.new.todo.items ≡ f.todo.items ++ reverse c.into_parts-more.result.1.items = on_ok taken.result _ fine taken.ensures.opened in
    let found : taken.new.findings ≡ merged_findings f.findings c.into_parts-more.result.0 = on_ok taken.result _ fine taken.ensures.found in
    let is_todo = opened ∙ ap (λ (l : List JobSeen). f.todo.items ++ reverse l) c.into_parts-more.ensures.rest in
    let is_found = found ∙ ap (merged_findings f.findings) c.into_parts-more.ensures.found in
    let x : Extent = record { nodes = f.nodes; cut = f.cut } in
    let nodes : c.widened-visited.result ≡ piece.extent.nodes = c.widened-visited.ensures.same ∙ ap (λ (y : Extent). y.nodes) c.extent-extent.ensures in
    let cut : c.widened-cut.result ≡ piece.extent.cut = c.widened-cut.ensures.same ∙ ap (λ (y : Extent). y.cut) c.extent-extent.ensures in
    let is_extent = counts_given x piece.extent c.widened-visited.result c.widened-cut.result nodes cut in
    let is_events : c.put.new.items.items ≡ f.events.items ++ Gave ticket.number ∷ [] =
    c.put.ensures.items ∙ ap (λ (l : List PoolEvent). l ++ Gave c.ticket.inside.number ∷ []) taken.ensures.events ∙ ap (λ (t : TicketSeen). f.events.items ++ Gave t.number ∷ []) c.ticket.view_is in
    let place : c.len.result ≡ length f.events.items + 1 = omega (arith, ap length is_events, length-append f.events.items (Gave ticket.number ∷ [])) in
    let small : piece.extent.nodes ≤ 2 ^ 64 = omega (arith, nodes, c.widened-visited.ensures.small) in
    give_kept (exploration_in f.exploration) f.start f.limit f.todo.items _ f.out.items _ f.findings _ x _ f.taken f.events.items _ f.stop _
    at ticket piece c.len.result
    lt is same.0 same.1 is_todo c.remove.ensures.items is_found is_extent is_events place c.limited-self-inside.ensures
    c.into_parts-more.ensures.piece small c.self.invariant

pub returns-clause-given : goal.returns-clause-given
returns-clause-given c =
    let f = c.self.inside in
    let at = c.in-Some.at in
    let ticket = c.args.ticket.now in
    let piece = c.args.piece in
    let taken = c.take_in-taken_in in
    let slice = c.as_slice.ensures.value in
    let lt : at < length f.out.items = subst (λ (l : List TicketSeen). at < length l) slice c.in-Some.ensures.0 in
    let is : get_or f.out.items at ticket ≡ ticket = subst (λ (l : List TicketSeen). get_or l at ticket ≡ ticket) slice c.in-Some.ensures.1 in
    let same = c.if-not-is_for.ensures.yes refl in
    let fine : is_err taken.result ≡ false = sym c.is_err.ensures.value ∙ c.if-is_err.false in
    let opened : taken.new.todo.items ≡ f.todo.items ++ reverse c.into_parts-more.result.1.items = on_ok taken.result _ fine taken.ensures.opened in
    let found : taken.new.findings ≡ merged_findings f.findings c.into_parts-more.result.0 = on_ok taken.result _ fine taken.ensures.found in
    let is_todo = opened ∙ ap (λ (l : List JobSeen). f.todo.items ++ reverse l) c.into_parts-more.ensures.rest in
    let is_found = found ∙ ap (merged_findings f.findings) c.into_parts-more.ensures.found in
    let x : Extent = record { nodes = f.nodes; cut = f.cut } in
    let nodes : c.widened-visited.result ≡ piece.extent.nodes = c.widened-visited.ensures.same ∙ ap (λ (y : Extent). y.nodes) c.extent-extent.ensures in
    let cut : c.widened-cut.result ≡ piece.extent.cut = c.widened-cut.ensures.same ∙ ap (λ (y : Extent). y.cut) c.extent-extent.ensures in
    let is_extent = counts_given x piece.extent c.widened-visited.result c.widened-cut.result nodes cut in
    let is_events : c.put.new.items.items ≡ f.events.items ++ Gave ticket.number ∷ [] =
    c.put.ensures.items ∙ ap (λ (l : List PoolEvent). l ++ Gave c.ticket.inside.number ∷ []) taken.ensures.events ∙ ap (λ (t : TicketSeen). f.events.items ++ Gave t.number ∷ []) c.ticket.view_is in
    let place : c.len.result ≡ length f.events.items + 1 = omega (arith, ap length is_events, length-append f.events.items (Gave ticket.number ∷ [])) in
    rw (← c.self.view_is)
    (give_done (exploration_in f.exploration) f.start f.limit f.todo.items _ f.out.items _ f.findings _ x _ f.taken f.events.items _ f.stop _
    at ticket piece c.len.result
    lt is same.0 same.1 is_todo c.remove.ensures.items is_found is_extent is_events place c.limited-self-inside.ensures)
