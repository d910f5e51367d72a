use Rattle.std.proofs.Common.{◌∙◌, sym}
use Rattle.world_model.specs.Asking.{program_of}
use Rattle.world_model.specs.Run.{enabled_steps}
use Rattle.search_expansion.proofs.Stepping.{dies_out, lives_on, none_enabled, some_enabled}
use Rattle.search_expansion.proofs.node.Node.add_deadlock.Goals as goal

pub returns-then-is_some : goal.returns-then-is_some
returns-then-is_some c = λ m h is.
    lives_on (program_of m) h c.args.shown.now.items
    (some_enabled c.first_enabled.result (enabled_steps (program_of m) h) (c.first_enabled.ensures (program_of m) h is.agenda) (sym c.is_some.ensures ∙ c.if-is_some.true))

pub returns : goal.returns
returns c = λ m h is.
    dies_out (program_of m) h c.args.shown.now.items c.push_deadlock.new.shown.items
    (none_enabled c.first_enabled.result (enabled_steps (program_of m) h) (c.first_enabled.ensures (program_of m) h is.agenda) (sym c.is_some.ensures ∙ c.if-is_some.false))
    (c.in_ok-push_deadlock.ensures m h is.world.agrees)
