use Rattle.std.proofs.Common.{◌≡◌, ◌∙◌, ◌∷◌, [], inl, inr, ap, refl, sym, subst, arith, reverse}
use Rattle.world_model.specs.Asking.{program_of}
use Rattle.tree_coverage.specs.Jobs.{awake_steps}
use Rattle.search_agenda.specs.Plans.{ArePlans, steps_in}
use Rattle.search_jobs.proofs.Lists.{reverse_last, reverse_none}
use Rattle.search_expansion.proofs.Agendas.{awake_given}
use Rattle.search_expansion.proofs.Frames.{awake_enabled}
use Rattle.search_expansion.proofs.frame.open.Goals as goal

pub returns-then-left-eq0 : goal.returns-then-left-eq0
returns-then-left-eq0 c = λ m h is. inl (refl, inl c.if-left-eq0.true)

pub returns-in_default : goal.returns-in_default
returns-in_default c = λ m h is.
    let slept = c.args.node.slept.items in
    let awake = c.in_ok-after.ensures (program_of m) h is.agenda in
    let none : awake_steps (program_of m) h (steps_in slept) ≡ [] =
    sym (awake.steps ∙ awake_given (program_of m) h c.as_slice.result.now slept c.as_slice.ensures.value) ∙ ap steps_in (reverse_none c.in_ok-after.after.items (omega (arith, c.in_default.ensures.cases.0))) in
    inl (refl, inr none)

pub returns : goal.returns
returns c = λ m h is.
    let slept = c.args.node.slept.items in
    let plans = c.in-Some.next ∷ reverse c.pop.new.self.items in
    let awake = c.in_ok-after.ensures (program_of m) h is.agenda in
    let whole : reverse c.in_ok-after.after.items ≡ plans = ap reverse c.in-Some.ensures.items ∙ reverse_last c.pop.new.self.items c.in-Some.next in
    let line : steps_in plans ≡ awake_steps (program_of m) h (steps_in slept) =
    ap steps_in (sym whole) ∙ awake.steps ∙ awake_given (program_of m) h c.as_slice.result.now slept c.as_slice.ensures.value in
    inr (record {
      frame = _;
      more = λ none. absurd (omega (arith, none, c.if-left-eq0.false));
      is = c.in_ok-push.ensures.items;
      taken_is = refl;
      holds = record {
        world = is.world;
        agenda = is.agenda;
        slept = is.slept;
        line = subst (ArePlans (program_of m) h) whole awake.plans;
        enabled = awake_enabled (program_of m) h (steps_in slept) (steps_in plans) line;
      };
      slept = refl;
      line = line;
      left = refl;
    })
