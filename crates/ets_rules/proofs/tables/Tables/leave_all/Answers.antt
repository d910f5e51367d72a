use Rattle.std.proofs.Common.{ap, map, subst, sym, ◌∙◌}
use Rattle.world_model.specs.Changes.{after}
use Rattle.world_model.specs.Ends.{tables_pass}
use Rattle.ets_rules.specs.Tables.{Hold}
use Rattle.ets_tables.specs.Ends.{transfer_of, transfers_in}
use Rattle.ets_rules.proofs.tables.Tables.leave_all.Goals as goal

pub returns-in_default : goal.returns-in_default
returns-in_default c =
    let p = c.args.pid.now in
    record {
      ok = λ v hold alive w told. subst (λ ts. Hold c.args.changed.now (after (tables_pass v p ts) w)) (c.in_default.ensures ∙ hold.are.owned p) told;
      told = λ v hold alive. ap (λ ts. transfers_in (tables_pass v p ts)) (sym (c.in_default.ensures ∙ hold.are.owned p)) ∙ ap (map transfer_of) (sym c.new.ensures.items);
    }

pub returns : goal.returns
returns c =
    let p = c.args.pid.now in
    record {
      ok = λ v hold alive w told. subst (λ ts. Hold c.leave_each.new.changed (after (tables_pass v p ts) w)) (c.in-Some.ensures ∙ hold.are.owned p) (c.in_ok-transfers.ensures.ok v hold alive w told);
      told = λ v hold alive. ap (λ ts. transfers_in (tables_pass v p ts)) (sym (c.in-Some.ensures ∙ hold.are.owned p)) ∙ c.in_ok-transfers.ensures.told v hold alive;
    }
