use Rattle.std.proofs.Common.{◌≡◌, ◌∷◌, ◌++◌, ◌∙◌, [], ap, map, sym}
use Rattle.std.proofs.lemmas.List.{map-append}
use Rattle.world_core.proofs.shows.listed.Goals as goal

pub loop-pid-preserved : goal.loop-pid-preserved
loop-pid-preserved c =
    c.in_ok-push.ensures.items ∙ ap (λ xs. xs ++ c.in_ok-copy.field-0 ∷ []) c.loop-pid.invariant ∙ ap (λ p. map (λ x. x.now) c.loop-pid.yielded ++ p ∷ []) c.in_ok-copy.ensures ∙ sym (map-append (λ x. x.now) c.loop-pid.yielded (c.in-Some.pid ∷ []))
