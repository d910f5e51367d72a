use Rattle.std.proofs.Common.{◌≡◌, ◌∙◌, ◌∷◌, ◌++◌, [], List, ap, sym}
use Rattle.search_jobs.specs.Explorations.{JobSeen, exploration_in}
use Rattle.search_pool.proofs.Frontiers.{frontier_opens, opens_standing, opens_with}
use Rattle.search_pool.proofs.frontier.Frontier.open.Goals as goal

pub invariant_of-result : goal.invariant_of-result
invariant_of-result c =
    let e = exploration_in c.exploration-exploration.result in
    let job = c.args.job in
    let start = c.in_ok-start.start in
    let one : c.push.new.self.items ≡ job ∷ [] = c.in_ok-push.ensures.items ∙ ap (λ (js : List JobSeen). js ++ job ∷ []) c.new-todo.ensures.items in
    let name : job.name ≡ start = sym (c.in_ok-start.ensures ∙ c.name.ensures) in
    let own : job.exploration ≡ e = sym c.exploration-exploration.ensures in
    frontier_opens e start c.args.options.now.nodes c.push.new.self.items c.new-out.result.items c.new-findings.result c.new-events.result.items
    (opens_standing start c.push.new.self.items job c.new-out.result.items c.new-findings.result one name c.new-out.ensures.items c.new-findings.ensures)
    c.new-events.ensures.items c.new-out.ensures.items (opens_with e c.push.new.self.items job one own)
