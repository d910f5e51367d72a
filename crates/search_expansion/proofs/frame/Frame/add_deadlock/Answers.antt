use Rattle.std.proofs.Common.{◌∙◌, ◌∷◌, ap, sym, subst}
use Rattle.world_model.specs.Asking.{program_of}
use Rattle.world_model.specs.Run.{next_event}
use Rattle.world_model.specs.World.{contents}
use Rattle.search_agenda.specs.Plans.{IsPlan, IsWorld}
use Rattle.world_footprints.specs.declared.plan.Plan.{Plan}
use Rattle.search_expansion.proofs.Stepping.{dies_out, goes, goes_not, lives_on, none_there, some_there}
use Rattle.search_expansion.proofs.frame.Frame.add_deadlock.Goals as goal

pub returns-then-lives_below-clause-adds : goal.returns-then-lives_below-clause-adds
returns-then-lives_below-clause-adds c = λ m h e is next.
    lives_on (program_of m) (e ∷ h) c.args.shown.now.items
    (c.lives_below.ensures.lives c.if-lives_below.true (program_of m) h e is.agenda (subst (IsPlan (program_of m) h) (sym c.deref.ensures) is.line.0) (ap (λ (p : Plan). next_event (program_of m) h p.step) c.deref.ensures ∙ next))

pub returns-then-lives_below-clause-lives : goal.returns-then-lives_below-clause-lives
returns-then-lives_below-clause-lives c = λ m h e is next.
    sym (goes (program_of m) (e ∷ h)
    (c.lives_below.ensures.lives c.if-lives_below.true (program_of m) h e is.agenda (subst (IsPlan (program_of m) h) (sym c.deref.ensures) is.line.0) (ap (λ (p : Plan). next_event (program_of m) h p.step) c.deref.ensures ∙ next)))

pub returns-then-not-is_empty-clause-adds : goal.returns-then-not-is_empty-clause-adds
returns-then-not-is_empty-clause-adds c = λ m h e is next.
    let copied : IsWorld m h c.in_ok-copy.field-0 = record { agrees = c.in_ok-copy.ensures.alike m (contents h) is.world.agrees; is_run = is.world.is_run } in
    let plan = subst (IsPlan (program_of m) h) (sym c.deref-2.ensures) is.line.0 in
    let there = c.in_ok-records.ensures m h e copied plan (ap (λ (p : Plan). next_event (program_of m) h p.step) c.deref-2.ensures ∙ next) in
    let listed = c.in_ok-enabled.ensures m (e ∷ h) there.agrees in
    lives_on (program_of m) (e ∷ h) c.args.shown.now.items (λ none. some_there c.in_ok-enabled.enabled.items _ c.in_ok-enabled.enabled.ok.0 c.if-not-is_empty.ensures (listed ∙ none))

pub returns-then-not-is_empty-clause-lives : goal.returns-then-not-is_empty-clause-lives
returns-then-not-is_empty-clause-lives c = λ m h e is next.
    let copied : IsWorld m h c.in_ok-copy.field-0 = record { agrees = c.in_ok-copy.ensures.alike m (contents h) is.world.agrees; is_run = is.world.is_run } in
    let plan = subst (IsPlan (program_of m) h) (sym c.deref-2.ensures) is.line.0 in
    let there = c.in_ok-records.ensures m h e copied plan (ap (λ (p : Plan). next_event (program_of m) h p.step) c.deref-2.ensures ∙ next) in
    let listed = c.in_ok-enabled.ensures m (e ∷ h) there.agrees in
    sym (goes (program_of m) (e ∷ h) (λ none. some_there c.in_ok-enabled.enabled.items _ c.in_ok-enabled.enabled.ok.0 c.if-not-is_empty.ensures (listed ∙ none)))

pub returns-clause-adds : goal.returns-clause-adds
returns-clause-adds c = λ m h e is next.
    let copied : IsWorld m h c.in_ok-copy.field-0 = record { agrees = c.in_ok-copy.ensures.alike m (contents h) is.world.agrees; is_run = is.world.is_run } in
    let plan = subst (IsPlan (program_of m) h) (sym c.deref-2.ensures) is.line.0 in
    let there = c.in_ok-records.ensures m h e copied plan (ap (λ (p : Plan). next_event (program_of m) h p.step) c.deref-2.ensures ∙ next) in
    let listed = c.in_ok-enabled.ensures m (e ∷ h) there.agrees in
    dies_out (program_of m) (e ∷ h) c.args.shown.now.items c.push_deadlock.new.shown.items (sym listed ∙ none_there c.in_ok-enabled.enabled.items _ c.in_ok-enabled.enabled.ok.0 c.if-not-is_empty.ensures) (c.in_ok-push_deadlock.ensures m (e ∷ h) there.agrees)

pub returns-clause-lives : goal.returns-clause-lives
returns-clause-lives c = λ m h e is next.
    let copied : IsWorld m h c.in_ok-copy.field-0 = record { agrees = c.in_ok-copy.ensures.alike m (contents h) is.world.agrees; is_run = is.world.is_run } in
    let plan = subst (IsPlan (program_of m) h) (sym c.deref-2.ensures) is.line.0 in
    let there = c.in_ok-records.ensures m h e copied plan (ap (λ (p : Plan). next_event (program_of m) h p.step) c.deref-2.ensures ∙ next) in
    let listed = c.in_ok-enabled.ensures m (e ∷ h) there.agrees in
    sym (goes_not (program_of m) (e ∷ h) (sym listed ∙ none_there c.in_ok-enabled.enabled.items _ c.in_ok-enabled.enabled.ok.0 c.if-not-is_empty.ensures))
