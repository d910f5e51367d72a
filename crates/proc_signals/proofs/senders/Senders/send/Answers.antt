use Rattle.proc_signals.specs.Signal.{signal_of}
use Rattle.proc_signals.proofs.Beside.{on_err}
use Rattle.proc_signals.proofs.Changing.{placed, pushed_there, same_there, set_there}
use Rattle.proc_signals.proofs.senders.Senders.send.Goals as goal

pub invariant_of-self : goal.invariant_of-self
invariant_of-self c =
    let there = placed c.args.from.now c.args.to.now _ c.self.inside.channels.items c.in-Some.at c.index_mut.result.now c.as_slice.ensures.value c.in-Some.ensures.within c.in-Some.ensures.there c.index_mut.ensures.value c.self.invariant in
    set_there _ _ _ c.args.self.now _ _ there c.push.new.self c.push.ensures.pair

pub returns-in_err-push-clause-err : goal.returns-in_err-push-clause-err
returns-in_err-push-clause-err c =
    let there = placed c.args.from.now c.args.to.now _ c.self.inside.channels.items c.in-Some.at c.index_mut.result.now c.as_slice.ensures.value c.in-Some.ensures.within c.in-Some.ensures.there c.index_mut.ensures.value c.self.invariant in
    on_err _ (same_there _ _ _ c.args.self.now _ _ there c.self.view_is c.push.new.self c.push.ensures.pair c.in_err-push.ensures.err)

pub invariant_of-self-in-Some : goal.invariant_of-self-in-Some
invariant_of-self-in-Some c =
    let there = placed c.args.from.now c.args.to.now _ c.self.inside.channels.items c.in-Some.at c.index_mut.result.now c.as_slice.ensures.value c.in-Some.ensures.within c.in-Some.ensures.there c.index_mut.ensures.value c.self.invariant in
    set_there _ _ _ c.args.self.now _ _ there c.push.new.self c.push.ensures.pair

pub returns-in-Some-clause-ok : goal.returns-in-Some-clause-ok
returns-in-Some-clause-ok c =
    let there = placed c.args.from.now c.args.to.now _ c.self.inside.channels.items c.in-Some.at c.index_mut.result.now c.as_slice.ensures.value c.in-Some.ensures.within c.in-Some.ensures.there c.index_mut.ensures.value c.self.invariant in
    pushed_there _ _ _ c.args.self.now _ _ there c.self.view_is c.push.new.self (signal_of c.args.signal) c.push.ensures.pair c.in_ok-push.ensures.ok
