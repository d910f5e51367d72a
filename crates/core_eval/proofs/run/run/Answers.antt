use Rattle.std.proofs.Common.{◌≡◌, ◌∙◌, refl, ap, sym, arith}
use Rattle.core_semantics.specs.Applications.{setting_of}
use Rattle.core_semantics.specs.Ask.{request_of}
use Rattle.core_semantics.specs.Asked.{Asked}
use Rattle.core_semantics.specs.Evaluation.{Setting, State}
use Rattle.core_semantics.specs.Limits.{allowed, allowed_by}
use Rattle.core_stack.specs.Holes.{Hole}
use Rattle.std.specs.Prelude.{List}
use Rattle.core_eval.specs.declared.control.Pause.{Pause}
use Rattle.core_eval.specs.inside.Steps.{paused}
use Rattle.core_eval.proofs.Running.{asks_in_body, asks_to_run_away, halts_at}
use Rattle.core_eval.proofs.run.run.Goals as goal

-- an application that the machine paused at asks what the pause does
at_pause : (setting : Setting) (holes : List Hole) (p q : Pause) (s : State) (asked : Asked) → p ≡ q → request_of (paused setting holes p s) ≡ asked → request_of (paused setting holes q s) ≡ asked
at_pause setting holes p q s asked is e = sym (ap (λ (r : Pause). request_of (paused setting holes r s)) is) ∙ e

pub applications-preserved : goal.applications-preserved
applications-preserved c = λ answers.
    let setting : Setting = setting_of c.args.program.now c.args.own.now in
    let s : State = record { answers = answers; dictionary = c.advance.new.dictionary; made = c.applications._made } in
    let is : c.allowed_by-allowed.result ≡ allowed c.args.program.now = c.allowed_by-allowed.ensures ∙ ap allowed_by c.as_slice.ensures.value ∙ ap allowed c.program.view_is in
    asks_in_body c.args.program.now c.args.own.now c.in-Application.function.now c.in-Application.arguments s
    c.advance.new.stack c.apply.new.stack c.in_ok-control-in-Application.control _ (omega (arith, c.applications-test.true, is)) c.in_ok-control-in-Application.ensures.same
    (at_pause setting c.advance.new.stack _ _ s _ c.in-Application.is (ap request_of (c.in_ok-halt.ensures setting refl s) ∙ c.applications.invariant answers))

pub returns : goal.returns
returns c = λ answers.
    let setting : Setting = setting_of c.args.program.now c.args.own.now in
    let s : State = record { answers = answers; dictionary = c.advance-2.new.dictionary; made = c.applications._made } in
    let is : c.allowed_by-allowed.result ≡ allowed c.args.program.now = c.allowed_by-allowed.ensures ∙ ap allowed_by c.as_slice.ensures.value ∙ ap allowed c.program.view_is in
    asks_to_run_away c.args.program.now c.args.own.now c.in-Application-2.field-0.now c.in-Application-2.field-1 s
    c.advance-2.new.stack _ (omega (arith, c.applications-test.false, is))
    (at_pause setting c.advance-2.new.stack _ _ s _ c.in-Application-2.is (ap request_of (c.in_ok-halt-2.ensures setting refl s) ∙ c.applications.invariant answers))

pub returns-in-Halt : goal.returns-in-Halt
returns-in-Halt c =
    let setting : Setting = setting_of c.args.program.now c.args.own.now in
    halts_at c.request_at.result c.args.program.now c.args.own.now c.args.stack.now c.advance.new.stack c.args.dictionary.now c.advance.new.dictionary c.args.control c.in-Halt.halt c.applications._made c.request_at.ensures
    (λ answers.
    let s : State = record { answers = answers; dictionary = c.advance.new.dictionary; made = c.applications._made } in
    at_pause setting c.advance.new.stack _ _ s _ c.in-Halt.is (ap request_of (c.in_ok-halt.ensures setting refl s) ∙ c.applications.invariant answers))

pub returns-in-Halt-2 : goal.returns-in-Halt-2
returns-in-Halt-2 c =
    let setting : Setting = setting_of c.args.program.now c.args.own.now in
    halts_at c.request_at-in-Halt-2.result c.args.program.now c.args.own.now c.args.stack.now c.advance-2.new.stack c.args.dictionary.now c.advance-2.new.dictionary c.args.control c.in-Halt-2.halt c.applications._made c.request_at-in-Halt-2.ensures
    (λ answers.
    let s : State = record { answers = answers; dictionary = c.advance-2.new.dictionary; made = c.applications._made } in
    at_pause setting c.advance-2.new.stack _ _ s _ c.in-Halt-2.is (ap request_of (c.in_ok-halt-2.ensures setting refl s) ∙ c.applications.invariant answers))
