use Rattle.std.proofs.Common.{◌≡◌, ◌∙◌, Global, None, Some, Vec, ap, map, option_map, subst, sym}
use Rattle.ets_calls.specs.Options.{option_in}
use Rattle.ets_calls.specs.declared.options.TableOption.{TableOption}
use Rattle.ets_rules.specs.Tables.{Hold}
use Rattle.world_model.specs.Calls as calls
use Rattle.world_model.specs.Lines.{line}
use Rattle.world_model.specs.NewTables.{new_reads}
use Rattle.world_planned.specs.inside.PlannedCalls.{IsReply, changes_of_reply}
use Rattle.world_planned.proofs.Adding.{adds_as, adds_then, end_nil}
use Rattle.world_table_calls.proofs.Going.{new_plans}
use Rattle.world_table_calls.proofs.on_tables.make_named.Goals as goal

pub returns : goal.returns
returns c = λ m v told meant.
    let p = c.args.caller.now in
    let name = c.in-Some.named in
    let reply = c.in_ok-reply.reply in
    let options = option_map (λ (os : Vec TableOption Global). map option_in os.items) c.args.options in
    let os = map option_in c.in-Some-options.options.items in
    let is : options ≡ Some os = ap (option_map (λ (os : Vec TableOption Global). map option_in os.items)) c.in-Some-options.is in
    let hold = subst (λ ts. Hold ts v) (sym c.tables.ensures) told.tables_are in
    let none : None ≡ (line v p (calls.New (Some name) options)).refusal = subst (λ n. None ≡ (line v p (calls.New n options)).refusal) c.in-Some.is (c.in_default-judge_new.ensures v p hold) in
    let served : (line v p (calls.New (Some name) (Some os))).refusal ≡ None = ap (λ o. (line v p (calls.New (Some name) o)).refusal) (sym is) ∙ sym none in
    new_plans v p c.args.name.now options name reply _ _ c.in-Some.is
    (subst (λ o. IsReply v p (calls.New (Some name) o) reply) (sym is) (c.in_ok-reply.ensures.reply m v told served))
    (adds_as _ _ _ _ _ _ (end_nil (new_reads name options)) (ap (λ o. changes_of_reply v p (calls.New (Some name) o) reply) (sym is))
    (adds_then _ _ _ _ _ _ _ c.in_ok-read_new_name.ensures (c.in_ok-reply.ensures.adds m v told)))
