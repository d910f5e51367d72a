use Rattle.std.proofs.Common.{◌≡◌, [], ◌∙◌, ap, refl, rules, sym}
use Rattle.proc_signals.specs.Channels.{Senders, between, signals_in}
use Rattle.proc_signals.proofs.Changing.{placed, put_in, opened_sorted, replaced_there, set_there}
use Rattle.proc_signals.proofs.senders.Senders.put.Goals as goal

pub invariant_of-self : goal.invariant_of-self
invariant_of-self c =
    let there = placed c.args.from.now c.args.to.now _ c.self.inside.channels.items c.in-Some.at c.index_mut.result.now c.as_slice.ensures.value c.in-Some.ensures.within c.in-Some.ensures.there c.index_mut.ensures.value c.self.invariant in
    set_there _ _ _ c.args.self.now _ _ there c.args.channel (c.requires ∙ sym there.pair)

pub returns-in-Some-clause-ok : goal.returns-in-Some-clause-ok
returns-in-Some-clause-ok c =
    let there = placed c.args.from.now c.args.to.now _ c.self.inside.channels.items c.in-Some.at c.index_mut.result.now c.as_slice.ensures.value c.in-Some.ensures.within c.in-Some.ensures.there c.index_mut.ensures.value c.self.invariant in
    replaced_there _ _ _ c.args.self.now _ _ there c.self.view_is c.args.channel c.requires

pub invariant_of-self-2 : goal.invariant_of-self-2
invariant_of-self-2 c =
    let room = c.room_of-at.ensures in
    let none : between c.as_slice.result.now c.args.from.now c.args.to.now ≡ [] = search rules in
    opened_sorted c.args.from.now c.args.to.now c.as_slice-2.result.now c.self.inside.channels.items c.room_of-at.result c.args.channel _ c.as_slice-2.ensures.value room.within room.before room.behind
    c.requires (ap (λ (cs : Senders). between cs c.args.from.now c.args.to.now) (sym c.as_slice.ensures.value) ∙ none) c.self.invariant c.in_ok-insert.ensures.items

pub returns-clause-ok : goal.returns-clause-ok
returns-clause-ok c =
    let none : between c.as_slice.result.now c.args.from.now c.args.to.now ≡ [] = search rules in
    put_in c.args.from.now c.args.to.now c.as_slice-2.result.now c.self.inside.channels.items c.room_of-at.result c.args.channel _ (λ _. signals_in c.args.channel.1) c.args.self.now c.as_slice-2.ensures.value c.self.view_is c.room_of-at.ensures.within
    c.requires refl (ap (λ (cs : Senders). between cs c.args.from.now c.args.to.now) (sym c.self.view_is ∙ sym c.as_slice.ensures.value) ∙ none) c.in_ok-insert.ensures.items
