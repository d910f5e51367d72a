use Rattle.std.proofs.Common.{◌≡◌, ◌∙◌, ap, sym}
use Rattle.std.proofs.lemmas.Slice.Eq.{bytes_eq-Decides}
use Rattle.std.specs.Str.{bytes_eq}
use Rattle.core_stack.specs.inside.Bare.{bare_holes}
use Rattle.core_eval.specs.Standing.{Standing, is_spent}
use Rattle.core_eval.proofs.Sameness.{are_one, not_off}
use Rattle.core_eval.proofs.machine.Machine.is_same.Goals as goal

pub returns : goal.returns
returns c = λ e modules.
    let pids : c.self.inside.pid ≡ c.other.inside.pid = (bytes_eq-Decides c.self.inside.pid c.other.inside.pid).0 (not_off (bytes_eq c.self.inside.pid c.other.inside.pid) c.if-ne.ensures) in
    are_one c.args.self.now c.args.other.now
    (ap is_spent (sym c.self.view_is) ∙ c.if-self.false)
    (ap is_spent (sym c.other.view_is) ∙ c.if-other.false)
    (ap (λ (m : Standing). m.own) (sym c.self.view_is) ∙ pids ∙ ap (λ (m : Standing). m.own) c.other.view_is)
    (ap (λ (m : Standing). m.dictionary) (sym c.self.view_is) ∙ c.is_same-2.ensures c.if-not-is_same-2.false ∙ ap (λ (m : Standing). m.dictionary) c.other.view_is)
    (ap (λ (m : Standing). m.told) (sym c.self.view_is) ∙ c.is_same.ensures c.if-not-is_same.false ∙ ap (λ (m : Standing). m.told) c.other.view_is)
    (ap (λ (m : Standing). bare_holes m.holes) (sym c.self.view_is) ∙ c.is_same-3.ensures e ∙ ap (λ (m : Standing). bare_holes m.holes) c.other.view_is)
    modules
