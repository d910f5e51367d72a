use Rattle.std.proofs.Common.{◌≡◌, ◌<◌, ◌∙◌, ap, sym, arith, false, length}
use Rattle.std.proofs.lemmas.List.{get_or_read}
use Rattle.std.specs.List.{HoldsAt}
use Rattle.proc_signals.proofs.Places.{Channel, is_pair, none_found}
use Rattle.proc_signals.proofs.senders.place_by_halves.Goals as goal
use Rattle.proc_signals.proofs.senders.place_by_halves.Goals.{else-at-channels-via-then-at-channels+else-is_between, else-at-channels-via-else-at-channels}

pub returns-clause-none : goal.returns-clause-none
returns-clause-none c =
    let at = c.room_of-at.result in
    let channels = c.args.channels.now in
    let other : at < length channels → HoldsAt (λ (channel : Channel). is_pair channel.0 c.args.from.now c.args.to.now ≡ false) channels at =
    elim c.else-at-channels.branch [
      | else-at-channels-via-then-at-channels+else-is_between w ↦ λ within d.
          ap (λ (channel : Channel). is_pair channel.0 c.args.from.now c.args.to.now) (sym (get_or_read channels at w.index-channels-at.result within w.index-channels-at.is d)) ∙ sym w.is_between.ensures ∙ w.if-is_between.false
      | else-at-channels-via-else-at-channels w ↦ λ within d. absurd (omega arith)
    ] in
    λ none. none_found c.args.from.now c.args.to.now channels at c.room_of-at.ensures.within c.room_of-at.ensures.before c.room_of-at.ensures.behind other c.requires
