use Rattle.std.proofs.Common.{◌∙◌}
use Rattle.proc_signals.proofs.Beside.{on_err}
use Rattle.proc_signals.proofs.Changing.{placed, oldest_there, taken_there, closed_there, closed_sorted, same_there, set_there}
use Rattle.proc_signals.proofs.senders.Senders.take_front.Goals as goal

pub invariant_of-self : goal.invariant_of-self
invariant_of-self c =
    let there = placed c.args.from.now c.args.to.now _ c.self.inside.channels.items c.in-Some.at c.index.result.now c.as_slice.ensures.value c.in-Some.ensures.within c.in-Some.ensures.there c.index.ensures c.self.invariant in
    closed_sorted _ _ _ c.args.self.now _ _ there _ c.remove.ensures.items

pub returns-then-is_single-clause-taken : goal.returns-then-is_single-clause-taken
returns-then-is_single-clause-taken c =
    let there = placed c.args.from.now c.args.to.now _ c.self.inside.channels.items c.in-Some.at c.index-then-is_single.result.now c.as_slice.ensures.value c.in-Some.ensures.within c.in-Some.ensures.there c.index-then-is_single.ensures c.self.invariant in
    oldest_there _ _ _ c.args.self.now _ _ there c.self.view_is _ (c.in_ok-signal.ensures ∙ c.oldest.ensures)

pub returns-then-is_single-clause-ok : goal.returns-then-is_single-clause-ok
returns-then-is_single-clause-ok c =
    let there = placed c.args.from.now c.args.to.now _ c.self.inside.channels.items c.in-Some.at c.index.result.now c.as_slice.ensures.value c.in-Some.ensures.within c.in-Some.ensures.there c.index.ensures c.self.invariant in
    closed_there _ _ _ c.args.self.now _ _ there c.self.view_is (c.is_single.ensures.0 c.if-is_single.true) _ c.remove.ensures.items

pub invariant_of-self-in_err-signal-2 : goal.invariant_of-self-in_err-signal-2
invariant_of-self-in_err-signal-2 c =
    let there = placed c.args.from.now c.args.to.now _ c.self.inside.channels.items c.in-Some.at c.index_mut.result.now c.as_slice.ensures.value c.in-Some.ensures.within c.in-Some.ensures.there c.index_mut.ensures.value c.self.invariant in
    set_there _ _ _ c.args.self.now _ _ there c.take_oldest.new.self c.take_oldest.ensures.pair

pub returns-in_err-signal-2-clause-err : goal.returns-in_err-signal-2-clause-err
returns-in_err-signal-2-clause-err c =
    let there = placed c.args.from.now c.args.to.now _ c.self.inside.channels.items c.in-Some.at c.index_mut.result.now c.as_slice.ensures.value c.in-Some.ensures.within c.in-Some.ensures.there c.index_mut.ensures.value c.self.invariant in
    on_err _ (same_there _ _ _ c.args.self.now _ _ there c.self.view_is c.take_oldest.new.self c.take_oldest.ensures.pair c.in_err-signal-2.ensures.err)

pub invariant_of-self-2 : goal.invariant_of-self-2
invariant_of-self-2 c =
    let there = placed c.args.from.now c.args.to.now _ c.self.inside.channels.items c.in-Some.at c.index_mut.result.now c.as_slice.ensures.value c.in-Some.ensures.within c.in-Some.ensures.there c.index_mut.ensures.value c.self.invariant in
    set_there _ _ _ c.args.self.now _ _ there c.take_oldest.new.self c.take_oldest.ensures.pair

pub returns-clause-taken : goal.returns-clause-taken
returns-clause-taken c =
    let there = placed c.args.from.now c.args.to.now _ c.self.inside.channels.items c.in-Some.at c.index_mut.result.now c.as_slice.ensures.value c.in-Some.ensures.within c.in-Some.ensures.there c.index_mut.ensures.value c.self.invariant in
    oldest_there _ _ _ c.args.self.now _ _ there c.self.view_is _ c.in_ok-signal-2.ensures.taken

pub returns-clause-ok : goal.returns-clause-ok
returns-clause-ok c =
    let there = placed c.args.from.now c.args.to.now _ c.self.inside.channels.items c.in-Some.at c.index_mut.result.now c.as_slice.ensures.value c.in-Some.ensures.within c.in-Some.ensures.there c.index_mut.ensures.value c.self.invariant in
    taken_there _ _ _ c.args.self.now _ _ there c.self.view_is c.take_oldest.new.self c.take_oldest.ensures.pair c.in_ok-signal-2.ensures.rest
