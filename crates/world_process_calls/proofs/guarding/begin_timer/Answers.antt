use Rattle.std.proofs.Common.{◌∷◌, [], refl}
use Rattle.proc_calls.specs.Arguments.{is_named}
use Rattle.proc_links.specs.Guards.{guard_of}
use Rattle.term_core.specs.Term.{meaning_of}
use Rattle.world_model.specs.Changes.{Change, GuardSet}
use Rattle.world_model.specs.Events.{Elapsed}
use Rattle.world_model.specs.Guards.{Guard, Timer}
use Rattle.world_model.specs.Names.{ref_of}
use Rattle.world_model.specs.ProcessLines.{timer_message}
use Rattle.world_model.specs.Signals.{put_if}
use Rattle.term_core.specs.Meaning.{Meaning}
use Rattle.std.specs.Prelude.{List}
use Rattle.world_planned.proofs.Adding.{adds_as, adds_then}
use Rattle.world_planned.proofs.Calling.{timer_serves}
use Rattle.world_process_calls.proofs.guarding.begin_timer.Goals as goal

pub returns : goal.returns
returns c = λ time is m v told meant.
    let q = c.args.to.now in
    let ref = ref_of c.in_ok-reference.reference in
    let sender = c.in_ok-sender.sender in
    let lives = c.lives-lives.result in
    let changes : Guard → Meaning → List Change = λ timer message. GuardSet ref timer ∷ put_if lives sender q (Elapsed ref message) in
    let given = timer_message (is_named c.args.naming) ref (meaning_of c.args.message) in
    timer_serves v c.args.caller.now sender ref (is_named c.args.naming) time q lives (meaning_of c.args.message) _ _ _ (c.in_ok-sender.ensures m v told) (c.in_ok-reference.ensures m v told) (c.lives-lives.ensures m v told) refl
    (adds_then _ _ _ _ _ _ _ c.in_ok-read_process.ensures
    (adds_as [] [] (changes (guard_of c.args.timer) (meaning_of c.in_ok-told.told)) (changes (Timer q time) given) _ _ refl (λ i. changes (is i) (c.in_ok-told.ensures i))
    (adds_then [] [] (GuardSet ref (guard_of c.args.timer) ∷ []) (put_if lives sender q (Elapsed ref (meaning_of c.in_ok-told.told))) _ _ _ c.in_ok-set_timer.ensures c.in_ok-put_elapsed.ensures)))
