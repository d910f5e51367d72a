use denote.Exit.{no}
use denote.Param.Send.{arg_sync, param_sync}
use Rattle.std.proofs.Common.{◌∙◌, ◌++◌, List, [], ap, map}
use Rattle.std.proofs.lemmas.Result.{IfOk-weaker}
use Rattle.search_numbers.proofs.Followed.{follows_itself, follows_on}
use Rattle.search_numbers.proofs.Kept.{are_later}
use Rattle.search_numbers.specs.Rows.{numbers_in}
use Rattle.search_numbers.specs.Stored.{AreOf, IsWorldOf}
use Rattle.search_states.proofs.Crossing.{numbered_sync}
use Rattle.search_states.proofs.There.{still_read}
use Rattle.search_states.proofs.search.search_states.Goals as goal
use Rattle.world_identities.specs.Identities.{identity_in}
use Rattle.world_identities.specs.declared.identity.Identity.{Identity}
use Rattle.world_model.specs.Asking.{program_of}
use Rattle.world_model.specs.Run.{enabled_steps}
use Rattle.world_model.specs.Shown.{shown_at_rest}

-- what is known may be shared
pub search_levels-requires-sync-W : goal.search_levels-requires-sync-W
search_levels-requires-sync-W g c κs within = param_sync _ _ (arg_sync _ no _ (numbered_sync _))

pub search_levels-requires-after_bounds : goal.search_levels-requires-after_bounds
search_levels-requires-after_bounds g c κs within =
    let known = c.in_ok-known.known in
    still_read known c.add_deadlock.new.look (numbers_in []) c.add_deadlock.ensures.knows (c.in_ok-known.ensures.right, c.in_ok-known.ensures.world)

pub returns : goal.returns
returns g c =
    let m = c.args.program.now in
    let known = c.in_ok-known.known in
    let shown_in = c.add_deadlock.new.look in
    let last = c.search_levels.new.worlds.known in
    let numbers = numbers_in [] in
    let are : AreOf known.store numbers m [] = c.in_ok-known.ensures.are in
    let world : IsWorldOf known.store numbers = c.in_ok-known.ensures.world in
    let kept = world.kept in
    let follows = follows_on last.store shown_in.store known.store (c.search_levels.ensures.grows.passes c.search_levels.new.worlds (follows_itself last.store)) c.add_deadlock.ensures.knows.follows in
    let told = c.in_ok-add_deadlock.ensures.adds shown_in.store m [] (follows_itself shown_in.store) (are_later known.store shown_in.store numbers c.add_deadlock.ensures.knows.follows kept m [] are) in
    IfOk-weaker c.search_levels.result _ _
    (λ searched is. is c.search_levels.new.worlds (follows_itself last.store) m (are_later known.store last.store numbers follows kept m [] are)
    (ap (map identity_in) c.as_slice.ensures.value ∙ told ∙ ap (λ (xs : List Identity). map identity_in xs ++ shown_at_rest (enabled_steps (program_of m) []) []) c.new-shown.ensures.items))
    c.search_levels.ensures.searched
