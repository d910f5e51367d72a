use Rattle.std.proofs.Common.{[], ◌∷◌, subst, sym}
use Rattle.world_model.specs.Changes.{OwnedCleared, after}
use Rattle.ets_tables.specs.Ends.{tables_left}
use Rattle.ets_rules.specs.Tables.{Hold}
use Rattle.ets_rules.proofs.Planning.{after_append, hold_copied}
use Rattle.ets_rules.proofs.tables.Tables.owner_ends.Goals as goal

pub returns-clause-tables : goal.returns-clause-tables
returns-clause-tables c = λ v hold alive.
    let p = c.args.pid.now in
    subst (λ w. Hold c.empty.new.self w) (sym (after_append (tables_left v p) (OwnedCleared p ∷ []) v))
    (c.in_ok-empty.ensures.ok (after (tables_left v p) v) (c.in_ok-transfers.ensures.ok v hold alive v (hold_copied c.args.self.now c.in_ok-changed.changed v c.in_ok-changed.ensures hold)))
