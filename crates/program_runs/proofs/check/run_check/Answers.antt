use Rattle.std.proofs.Common.{rules, ◌≡◌, ◌∙◌, ℕ, List, Option, None, Some, refl, ap, subst}
use Rattle.std.specs.Prelude.{Err, option_map}
use Rattle.std.proofs.lemmas.Result.{err_from_is_err_and}
use Rattle.tree_covers.specs.CoverText.{IsCut}
use Rattle.tree_excuses.specs.Excuses.{counts, excuses_in}
use Rattle.world_identities.specs.Identities.{flags_in}
use Rattle.program_runs.proofs.CheckLaws.{cover_refused, found_good, good_untold, module_refused}
use Rattle.program_runs.proofs.check.run_check.Goals as goal

pub returns-in_err-program-clause-run : goal.returns-in_err-program-clause-run
returns-in_err-program-clause-run g c =
    let p = err_from_is_err_and c.from_residual-in_err-program.result c.from_residual-in_err-program.ensures.1 in
    module_refused (g.R.Source.remaining c.args.source.now) c.in_ok-text.text.items c.split_at_mark.result.0.now (option_map (λ behind. behind.now) c.split_at_mark.result.1) c.args.depth (counts (flags_in c.args.flags) (excuses_in c.args.excuses.now)) (g.W.Sink.contents c.args.sink.now) (g.W.Sink.has_failed c.args.sink.now)
    c.in_err-program.field-0.0 c.from_residual-in_err-program.result (p.1 ∙ ap Err p.2) c.in_ok-text.ensures.input
    (subst (λ (t : List ℕ). IsCut t c.split_at_mark.result.0.now (option_map (λ behind. behind.now) c.split_at_mark.result.1)) c.deref.ensures.value c.split_at_mark.ensures)
    c.in_err-program.ensures.refusal c.requires.writable

pub returns-in_default-clause-run : goal.returns-in_default-clause-run
returns-in_default-clause-run g c =
    let none : option_map (λ behind. behind.now) c.split_at_mark.result.1 ≡ None = search rules in
    cover_refused (g.R.Source.remaining c.args.source.now) c.in_ok-text.text.items c.split_at_mark.result.0.now None c.args.depth (counts (flags_in c.args.flags) (excuses_in c.args.excuses.now)) (g.W.Sink.contents c.args.sink.now) (g.W.Sink.has_failed c.args.sink.now)
    c.in_ok-program.program _ _ refl c.in_ok-text.ensures.input
    (subst (λ (t : List ℕ). IsCut t c.split_at_mark.result.0.now None) c.deref.ensures.value (subst (λ (b : Option (List ℕ)). IsCut c.deref.result.now c.split_at_mark.result.0.now b) none c.split_at_mark.ensures))
    c.in_ok-program.ensures.spelt refl c.requires.writable

pub returns-in_err-check_cover-clause-run : goal.returns-in_err-check_cover-clause-run
returns-in_err-check_cover-clause-run g c =
    let p = err_from_is_err_and c.from_residual-in_err-check_cover.result c.from_residual-in_err-check_cover.ensures.1 in
    let some : option_map (λ behind. behind.now) c.split_at_mark.result.1 ≡ Some c.in-Some.cover_text.now = search rules in
    cover_refused (g.R.Source.remaining c.args.source.now) c.in_ok-text.text.items c.split_at_mark.result.0.now (Some c.in-Some.cover_text.now) c.args.depth (counts (flags_in c.args.flags) (excuses_in c.args.excuses.now)) (g.W.Sink.contents c.args.sink.now) (g.W.Sink.has_failed c.args.sink.now)
    c.in_ok-program.program c.in_err-check_cover.field-0.0 c.from_residual-in_err-check_cover.result (p.1 ∙ ap Err p.2) c.in_ok-text.ensures.input
    (subst (λ (t : List ℕ). IsCut t c.split_at_mark.result.0.now (Some c.in-Some.cover_text.now)) c.deref.ensures.value (subst (λ (b : Option (List ℕ)). IsCut c.deref.result.now c.split_at_mark.result.0.now b) some c.split_at_mark.ensures))
    c.in_ok-program.ensures.spelt c.in_err-check_cover.ensures.fault c.requires.writable

pub returns-in_err-write_good-clause-run : goal.returns-in_err-write_good-clause-run
returns-in_err-write_good-clause-run g c =
    let p = err_from_is_err_and c.from_residual-in_err-write_good.result c.from_residual-in_err-write_good.ensures.1 in
    let some : option_map (λ behind. behind.now) c.split_at_mark.result.1 ≡ Some c.in-Some.cover_text.now = search rules in
    good_untold (g.R.Source.remaining c.args.source.now) c.in_ok-text.text.items c.split_at_mark.result.0.now c.in-Some.cover_text.now c.args.depth (counts (flags_in c.args.flags) (excuses_in c.args.excuses.now)) (g.W.Sink.contents c.args.sink.now) (g.W.Sink.contents c.write_good.new.sink) (g.W.Sink.has_failed c.write_good.new.sink)
    c.in_ok-program.program c.from_residual-in_err-write_good.result (p.1 ∙ ap Err p.2) c.in_ok-text.ensures.input
    (subst (λ (t : List ℕ). IsCut t c.split_at_mark.result.0.now (Some c.in-Some.cover_text.now)) c.deref.ensures.value (subst (λ (b : Option (List ℕ)). IsCut c.deref.result.now c.split_at_mark.result.0.now b) some c.split_at_mark.ensures))
    c.in_ok-program.ensures.spelt c.in_ok-check_cover.ensures.good c.in_ok-check_cover.ensures.clean c.in_err-write_good.ensures.written

pub returns-clause-run : goal.returns-clause-run
returns-clause-run g c =
    let some : option_map (λ behind. behind.now) c.split_at_mark.result.1 ≡ Some c.in-Some.cover_text.now = search rules in
    found_good (g.R.Source.remaining c.args.source.now) c.in_ok-text.text.items c.split_at_mark.result.0.now c.in-Some.cover_text.now c.args.depth (counts (flags_in c.args.flags) (excuses_in c.args.excuses.now)) (g.W.Sink.contents c.args.sink.now) (g.W.Sink.contents c.write_good.new.sink) (g.W.Sink.has_failed c.write_good.new.sink)
    c.in_ok-program.program c.in_ok-text.ensures.input
    (subst (λ (t : List ℕ). IsCut t c.split_at_mark.result.0.now (Some c.in-Some.cover_text.now)) c.deref.ensures.value (subst (λ (b : Option (List ℕ)). IsCut c.deref.result.now c.split_at_mark.result.0.now b) some c.split_at_mark.ensures))
    c.in_ok-program.ensures.spelt c.in_ok-check_cover.ensures.good c.in_ok-check_cover.ensures.clean c.in_ok-write_good.ensures.written
