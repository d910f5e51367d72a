use Rattle.std.proofs.Common.{◌≡◌, ◌∙◌, ◌==◌, ◌&&◌, Bool, false, Some, ap, sym}
use Rattle.std.proofs.lemmas.Bool.{eq-eqb, ne_eqb}
use Rattle.tree_cuts.specs.Cuts.{goes_on}
use Rattle.search_expansion.proofs.Stepping.{goes_first}
use Rattle.search_expansion.proofs.node.is_cut.Goals as goal

pub returns-then-left-eq0 : goal.returns-then-left-eq0
returns-then-left-eq0 c = λ a h is.
    goes_first a h c.first_enabled.result c.is_some.result (c.first_enabled.ensures a h is) (sym c.is_some.ensures)
    ∙ ap (λ (b : Bool). b && goes_on a (Some h)) (sym (eq-eqb c.args.left 0 c.if-left-eq0.true))

pub returns-else-left-eq0 : goal.returns-else-left-eq0
returns-else-left-eq0 c = λ a h is.
    let higher : (c.args.left == 0) ≡ false = ne_eqb c.args.left 0 c.if-left-eq0.false in
    higher ∙ ap (λ (b : Bool). b && goes_on a (Some h)) (sym higher)
