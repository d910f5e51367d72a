use Rattle.std.proofs.Common.{◌≡◌, ◌∙◌, map, sym}
use Rattle.proc_signals.specs.Signal.{signal_of}
use Rattle.proc_signals.specs.Alike.{same_signal}
use Rattle.proc_signals.specs.inside.Alike.{not_off, signal_told, signals_told}
use Rattle.proc_signals.proofs.queue.Queue.is_same.Goals as goal

pub returns : goal.returns
returns c = λ e.
    let a = c.self.inside in
    let b = c.other.inside in
    let oldest : signal_of a.oldest ≡ signal_of b.oldest = signal_told (signal_of a.oldest) (signal_of b.oldest) (not_off (same_signal (signal_of a.oldest) (signal_of b.oldest)) c.if-ne.ensures) in
    let later : map signal_of a.later.items ≡ map signal_of b.later.items = signals_told signal_of a.later.items b.later.items (sym c.eq.ensures ∙ e) in
    sym c.self.view_is ∙ (λ i. (oldest i, later i)) ∙ c.other.view_is
