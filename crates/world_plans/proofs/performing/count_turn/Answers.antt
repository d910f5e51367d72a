use Rattle.std.proofs.Common.{◌∙◌, ◌∷◌, [], ap, sym, subst}
use Rattle.std.specs.Prelude.{OnOk}
use Rattle.core_semantics.specs.Asked as answered
use Rattle.world_model.specs.Changes.{TurnTaken, after}
use Rattle.world_records.specs.Records.{Agrees, Follows}
use Rattle.world_footprints.specs.Deeds.{deed_in}
use Rattle.world_footprints.specs.Plans.{first_of_turn}
use Rattle.world_footprints.specs.declared.deed.Deed.{Deed}
use Rattle.world_plans.proofs.Turning.{on_ok}
use Rattle.world_plans.proofs.performing.count_turn.Goals as goal

pub returns-in_ok-copy-in-Served : goal.returns-in_ok-copy-in-Served
returns-in_ok-copy-in-Served c =
    let p = c.args.pid.now in
    subst (λ ks. OnOk c.turn.result (Follows (λ v. ks) c.args.records.now c.turn.new.self)) (ap (λ x. TurnTaken p (answered.Value x ∷ []) ∷ []) c.in_ok-copy-in-Served.ensures ∙ ap (λ (d : Deed). first_of_turn p (deed_in d)) (sym c.in-Served.is)) c.turn.ensures

pub returns-in_ok-reason-in-Refused : goal.returns-in_ok-reason-in-Refused
returns-in_ok-reason-in-Refused c =
    let p = c.args.pid.now in
    subst (λ ks. OnOk c.turn-in-Refused.result (Follows (λ v. ks) c.args.records.now c.turn-in-Refused.new.self)) (ap (λ x. TurnTaken p (answered.Raise x ∷ []) ∷ []) c.in_ok-reason-in-Refused.ensures ∙ ap (λ (d : Deed). first_of_turn p (deed_in d)) (sym c.in-Refused.is)) c.turn-in-Refused.ensures

pub returns-in_ok-copy-in-Received : goal.returns-in_ok-copy-in-Received
returns-in_ok-copy-in-Received c =
    let p = c.args.pid.now in
    subst (λ ks. OnOk c.turn-in-Received.result (Follows (λ v. ks) c.args.records.now c.turn-in-Received.new.self)) (ap (λ x. TurnTaken p (answered.Message x ∷ []) ∷ []) c.in_ok-copy-in-Received.ensures ∙ ap (λ (d : Deed). first_of_turn p (deed_in d)) (sym c.in-Received.is)) c.turn-in-Received.ensures

pub returns-in-TimedOut : goal.returns-in-TimedOut
returns-in-TimedOut c =
    let p = c.args.pid.now in
    subst (λ ks. OnOk c.turn-in-TimedOut.result (Follows (λ v. ks) c.args.records.now c.turn-in-TimedOut.new.self)) (ap (λ (d : Deed). first_of_turn p (deed_in d)) (sym c.in-TimedOut.is)) c.turn-in-TimedOut.ensures

pub returns-in-EndedItself : goal.returns-in-EndedItself
returns-in-EndedItself c =
    let p = c.args.pid.now in
    on_ok c.end_turn.result _ _ (λ ends m v told. subst (λ (d : Deed). Agrees m c.end_turn.new.self (after (first_of_turn p (deed_in d)) v)) (sym c.in-EndedItself.is) (ends m v _ told)) c.end_turn.ensures

pub returns-in-Ended : goal.returns-in-Ended
returns-in-Ended c =
    let p = c.args.pid.now in
    on_ok c.end_turn-in-Ended.result _ _ (λ ends m v told. subst (λ (d : Deed). Agrees m c.end_turn-in-Ended.new.self (after (first_of_turn p (deed_in d)) v)) (sym c.in-Ended.is) (ends m v _ told)) c.end_turn-in-Ended.ensures

pub returns-in-RanAway : goal.returns-in-RanAway
returns-in-RanAway c =
    let p = c.args.pid.now in
    on_ok c.end_turn-in-RanAway.result _ _ (λ ends m v told. subst (λ (d : Deed). Agrees m c.end_turn-in-RanAway.new.self (after (first_of_turn p (deed_in d)) v)) (sym c.in-RanAway.is) (ends m v _ told)) c.end_turn-in-RanAway.ensures
