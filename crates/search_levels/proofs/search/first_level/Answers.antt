use Rattle.std.proofs.Common.{◌∷◌, ◌++◌, ◌∙◌, [], ap, refl, sym, subst}
use Rattle.search_levels.specs.Arrivals.{of_module}
use Rattle.search_levels.specs.inside.Searching.{Begins}
use Rattle.search_levels.specs.declared.path.Path.TheVariants.{Start}
use Rattle.search_levels.specs.inside.Visits.{Visit}
use Rattle.search_levels.proofs.Going.{begins}
use Rattle.search_levels.proofs.Putting.{takes_last}
use Rattle.world_model.specs.Names.{IsAmong}
use Rattle.search_levels.proofs.search.first_level.Goals as goal

pub returns-clause-begins : goal.returns-clause-begins
returns-clause-begins g c = λ known m.
    let Agrees = of_module (g.W.Worlds.agrees known) m in
    let first : Visit = record { of = Start; row = c.args.first.now } in
    subst (Begins Agrees c.args.first.now) (sym (c.in_ok-put.ensures.puts ∙ ap (λ level. level ++ first ∷ []) c.new-level.ensures)) (begins Agrees first refl)

pub returns-clause-of_known : goal.returns-clause-of_known
returns-clause-of_known g c = λ known is. takes_last (g.W.Worlds.is_of known) c.new-level.result.rows c.put.new.self.rows (record { of = Start; row = c.args.first.now }) c.in_ok-put.ensures.puts (λ x there. absurd (subst (IsAmong x) c.new-level.ensures there)) is
