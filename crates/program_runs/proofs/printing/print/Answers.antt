use Rattle.std.proofs.Common.{rules, ◌≡◌, ◌∙◌, true, Bool, ap, sym, subst}
use Rattle.std.specs.Prelude.{Err, Result}
use Rattle.std.proofs.lemmas.Result.{err_from_is_err_and}
use Rattle.tree_covers.specs.Writing.{IsWritten}
use Rattle.tree_excuses.specs.Excuses.{excuses_in}
use Rattle.term_core.specs.Stream.{WritesAll}
use Rattle.world_model.specs.Asking.{program_of}
use Rattle.program_runs.specs.Explored.{cover_if, has_cover, print_found, verdict_of}
use Rattle.program_runs.specs.Printing.{IsPrinted}
use Rattle.program_runs.specs.declared.print_fault.PrintFault.{PrintFault}
use Rattle.program_runs.proofs.ReportLaws.{both_written, cover_stops, form_stops}
use Rattle.program_runs.proofs.printing.print.Goals as goal

pub returns-in_err-write_form : goal.returns-in_err-write_form
returns-in_err-write_form g c =
    let print = print_found c.args.printed c.args.program.now c.args.depth (excuses_in c.args.excuses.now) c.args.found.now in
    let old = g.W.Sink.contents c.args.sink.now in
    let new = g.W.Sink.contents c.write_form.new.sink in
    let failed = g.W.Sink.has_failed c.write_form.new.sink in
    let p = err_from_is_err_and c.from_residual.result c.from_residual.ensures.1 in
    subst (λ (r : Result (Unit {0}) PrintFault). IsPrinted print old new failed r) (sym (p.1 ∙ ap Err p.2)) (form_stops print old new failed c.in_err-write_form.field-0.0 c.in_err-write_form.ensures)

pub returns-in_err-write_cover : goal.returns-in_err-write_cover
returns-in_err-write_cover g c =
    let a = program_of c.args.program.now in
    let x = excuses_in c.args.excuses.now in
    let print = print_found c.args.printed c.args.program.now c.args.depth x c.args.found.now in
    let old = g.W.Sink.contents c.args.sink.now in
    let mid = g.W.Sink.contents c.write_form.new.sink in
    let new = g.W.Sink.contents c.write_cover.new.sink in
    let failed = g.W.Sink.has_failed c.write_form.new.sink in
    let after = g.W.Sink.has_failed c.write_cover.new.sink in
    let is : has_cover c.args.printed (verdict_of x c.args.found.now.outcome) ≡ true = search rules in
    let fault = c.in_err-write_cover.field-0.0 in
    let p = err_from_is_err_and c.from_residual-in_err-write_cover.result c.from_residual-in_err-write_cover.ensures.1 in
    subst (λ (r : Result (Unit {0}) PrintFault). IsPrinted print old new after r) (sym (p.1 ∙ ap Err p.2))
    (cover_stops print old mid new failed after fault c.in_ok-write_form.ensures is (subst (λ (b : Bool). IsWritten (cover_if b a c.args.depth) mid new after (Err fault)) (sym is) c.in_err-write_cover.ensures))

pub returns : goal.returns
returns g c =
    let a = program_of c.args.program.now in
    let x = excuses_in c.args.excuses.now in
    let mid = g.W.Sink.contents c.write_form.new.sink in
    let new = g.W.Sink.contents c.write_cover.new.sink in
    let after = g.W.Sink.has_failed c.write_cover.new.sink in
    let is : has_cover c.args.printed (verdict_of x c.args.found.now.outcome) ≡ true = search rules in
    both_written (print_found c.args.printed c.args.program.now c.args.depth x c.args.found.now)
    (g.W.Sink.contents c.args.sink.now) mid new (g.W.Sink.has_failed c.write_form.new.sink) after c.in_ok-write_form.ensures
    (subst (λ (b : Bool). WritesAll mid new after (cover_if b a c.args.depth)) (sym is) c.in_ok-write_cover.ensures)
