use Rattle.search_expansion.proofs.node.Node.below.Goals as goal

pub returns-clause-node : goal.returns-clause-node
returns-clause-node c = λ m h e world agenda plan next slept.
    let there = c.in_ok-records.ensures m h e world plan next in
    record { world = there; agenda = c.in_ok-agenda.ensures m h e agenda plan next there; slept = slept }
