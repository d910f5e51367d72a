use Rattle.std.proofs.Common.{rules, ◌≡◌, ◌∙◌, ◌∷◌, ◌++◌, [], List, ap, refl, sym, subst}
use Rattle.std.specs.Prelude.{Err, codes}
use Rattle.std.proofs.lemmas.Result.{err_from_is_err_and}
use Rattle.term_core.specs.Stream.{WritesAll}
use Rattle.term_core.specs.Text.{text_of_schedule}
use Rattle.term_core.specs.declared.step.Step.{Step}
use Rattle.world_model.specs.Asking.{program_of}
use Rattle.tree_coverage.specs.Covers.{cover_of, lines_of}
use Rattle.tree_coverage.specs.Jobs.{root, taken_steps}
use Rattle.core_tree.specs.Syntax.{ModuleTree}
use Rattle.tree_covers.specs.CoverText.{text_of_cover, text_of_lines}
use Rattle.tree_covers.specs.Faults.{places_below, root_place}
use Rattle.tree_covers.specs.inside.Frames.{AreEnabled, WalkSeen, place_of}
use Rattle.tree_covers.specs.inside.Owned.{own_lines_of}
use Rattle.tree_covers.proofs.JudgeLaws.{taken_enabled}
use Rattle.tree_covers.proofs.OwedLaws.{fewer, first_broken, line_broken, line_written, lines_owed, wants_memory}
use Rattle.tree_covers.proofs.writing.write_cover.Goals as goal

pub returns-in_err-write_all : goal.returns-in_err-write_all
returns-in_err-write_all g c =
    let p = err_from_is_err_and c.from_residual.result c.from_residual.ensures.1 in
    first_broken (codes "%%cover\n") (text_of_lines (lines_of (cover_of (program_of c.args.program.now) c.args.depth root))) (g.W.Sink.contents c.args.sink.now) (g.W.Sink.contents c.write_all.new.sink) (g.W.Sink.has_failed c.write_all.new.sink) c.from_residual.result (p.1 ∙ ap Err p.2) c.in_err-write_all.ensures

pub loop-walk-init : goal.loop-walk-init
loop-walk-init g c =
    let m = c.args.program.now in
    let ahead : c.in_ok-walk.walk.ahead ≡ root_place c.args.depth ∷ [] = ap (λ (w : WalkSeen). w.ahead) c.in_ok-walk.ensures in
    record {
      sound = c.in_ok-write_all.ensures.sound;
      owes = lines_owed (program_of m) c.args.depth c.in_ok-walk.walk.ahead (g.W.Sink.contents c.args.sink.now) (g.W.Sink.contents c.write_all.new.sink) (codes "%%cover\n") ahead c.in_ok-write_all.ensures.appends;
      program = ap (λ (w : WalkSeen). w.program) c.in_ok-walk.ensures;
    }

pub returns-in_err-write_line : goal.returns-in_err-write_line
returns-in_err-write_line g c =
    let m = c.args.program.now in
    let p = err_from_is_err_and c.from_residual-in_err-write_line.result c.from_residual-in_err-write_line.ensures.1 in
    let next : c.loop-walk.walk.ahead ≡ place_of c.in-Some.node ∷ c.take.new.self.ahead = search rules in
    let same : c.in-Some.node.program ≡ m = search rules in
    let taken : c.in_ok-line.line.items ≡ taken_steps (program_of m) c.in-Some.node.left c.in-Some.node.history c.in-Some.node.slept = c.in_ok-line.ensures ∙ ap (λ (k : ModuleTree). taken_steps (program_of k) c.in-Some.node.left c.in-Some.node.history c.in-Some.node.slept) same in
    line_broken (program_of m) c.loop-walk.walk.ahead c.take.new.self.ahead (place_of c.in-Some.node) c.as_slice.result.now (g.W.Sink.contents c.args.sink.now) (g.W.Sink.contents c.loop-walk.sink) (g.W.Sink.contents c.write_line.new.sink) (g.W.Sink.has_failed c.write_line.new.sink)
    (text_of_cover (lines_of (cover_of (program_of m) c.args.depth root))) c.from_residual-in_err-write_line.result (p.1 ∙ ap Err p.2) next (c.as_slice.ensures.value ∙ taken) c.loop-walk.invariant.owes c.in_err-write_line.ensures

pub go_below-requires-clause-enabled : goal.go_below-requires-clause-enabled
go_below-requires-clause-enabled g c =
    subst (λ (line : List Step). AreEnabled (program_of c.in-Some.node.program) c.in-Some.node.history line) (sym c.in_ok-line.ensures) (taken_enabled (program_of c.in-Some.node.program) c.in-Some.node.left c.in-Some.node.history c.in-Some.node.slept)

pub loop-walk-smaller : goal.loop-walk-smaller
loop-walk-smaller g c =
    let m = c.args.program.now in
    let next : c.loop-walk.walk.ahead ≡ place_of c.in-Some.node ∷ c.take.new.self.ahead = search rules in
    let same : c.in-Some.node.program ≡ m = search rules in
    let taken : c.in_ok-line.line.items ≡ taken_steps (program_of m) c.in-Some.node.left c.in-Some.node.history c.in-Some.node.slept = c.in_ok-line.ensures ∙ ap (λ (k : ModuleTree). taken_steps (program_of k) c.in-Some.node.left c.in-Some.node.history c.in-Some.node.slept) same in
    let below : c.go_below.new.self.ahead ≡ places_below (program_of m) (place_of c.in-Some.node) c.in_ok-line.line.items ++ c.take.new.self.ahead = c.in_ok-go_below.ensures.next ∙ ap (λ (k : ModuleTree). places_below (program_of k) (place_of c.in-Some.node) c.in_ok-line.line.items ++ c.take.new.self.ahead) same in
    fewer (program_of m) c.loop-walk.walk.ahead c.take.new.self.ahead c.go_below.new.self.ahead (place_of c.in-Some.node) c.in_ok-line.line.items next taken below

pub loop-walk-preserved : goal.loop-walk-preserved
loop-walk-preserved g c =
    let m = c.args.program.now in
    let next : c.loop-walk.walk.ahead ≡ place_of c.in-Some.node ∷ c.take.new.self.ahead = search rules in
    let same : c.in-Some.node.program ≡ m = search rules in
    let taken : c.in_ok-line.line.items ≡ taken_steps (program_of m) c.in-Some.node.left c.in-Some.node.history c.in-Some.node.slept = c.in_ok-line.ensures ∙ ap (λ (k : ModuleTree). taken_steps (program_of k) c.in-Some.node.left c.in-Some.node.history c.in-Some.node.slept) same in
    let below : c.go_below.new.self.ahead ≡ places_below (program_of m) (place_of c.in-Some.node) c.in_ok-line.line.items ++ c.take.new.self.ahead = c.in_ok-go_below.ensures.next ∙ ap (λ (k : ModuleTree). places_below (program_of k) (place_of c.in-Some.node) c.in_ok-line.line.items ++ c.take.new.self.ahead) same in
    let written : WritesAll (g.W.Sink.contents c.loop-walk.sink) (g.W.Sink.contents c.write_line.new.sink) (g.W.Sink.has_failed c.write_line.new.sink) (text_of_schedule c.in_ok-line.line.items ++ 10 ∷ []) = subst (λ (l : List Step). WritesAll (g.W.Sink.contents c.loop-walk.sink) (g.W.Sink.contents c.write_line.new.sink) (g.W.Sink.has_failed c.write_line.new.sink) (text_of_schedule l ++ 10 ∷ [])) c.as_slice.ensures.value c.in_ok-write_line.ensures in
    record {
      sound = c.in_ok-write_line.ensures.sound;
      owes = line_written (program_of m) c.loop-walk.walk.ahead c.take.new.self.ahead c.go_below.new.self.ahead (place_of c.in-Some.node) c.in_ok-line.line.items (g.W.Sink.contents c.args.sink.now) (g.W.Sink.contents c.loop-walk.sink) (g.W.Sink.contents c.write_line.new.sink) (g.W.Sink.has_failed c.write_line.new.sink) (text_of_cover (lines_of (cover_of (program_of m) c.args.depth root))) next taken below c.loop-walk.invariant.owes written;
      program = search rules;
    }

pub returns-in_err-go_below : goal.returns-in_err-go_below
returns-in_err-go_below g c =
    let m = c.args.program.now in
    let next : c.loop-walk.walk.ahead ≡ place_of c.in-Some.node ∷ c.take.new.self.ahead = search rules in
    let same : c.in-Some.node.program ≡ m = search rules in
    let taken : c.in_ok-line.line.items ≡ taken_steps (program_of m) c.in-Some.node.left c.in-Some.node.history c.in-Some.node.slept = c.in_ok-line.ensures ∙ ap (λ (k : ModuleTree). taken_steps (program_of k) c.in-Some.node.left c.in-Some.node.history c.in-Some.node.slept) same in
    let written : WritesAll (g.W.Sink.contents c.loop-walk.sink) (g.W.Sink.contents c.write_line.new.sink) (g.W.Sink.has_failed c.write_line.new.sink) (text_of_schedule c.in_ok-line.line.items ++ 10 ∷ []) = subst (λ (l : List Step). WritesAll (g.W.Sink.contents c.loop-walk.sink) (g.W.Sink.contents c.write_line.new.sink) (g.W.Sink.has_failed c.write_line.new.sink) (text_of_schedule l ++ 10 ∷ [])) c.as_slice.ensures.value c.in_ok-write_line.ensures in
    let p = err_from_is_err_and c.from_residual-in_err-go_below.result c.from_residual-in_err-go_below.ensures.1 in
    let ahead = places_below (program_of m) (place_of c.in-Some.node) c.in_ok-line.line.items ++ c.take.new.self.ahead in
    wants_memory (text_of_cover (lines_of (cover_of (program_of m) c.args.depth root))) (text_of_lines (own_lines_of (program_of m) ahead)) (g.W.Sink.contents c.args.sink.now) (g.W.Sink.contents c.write_line.new.sink) (g.W.Sink.has_failed c.write_line.new.sink) c.from_residual-in_err-go_below.result (p.1 ∙ ap Err p.2) c.in_ok-write_line.ensures.sound
    (line_written (program_of m) c.loop-walk.walk.ahead c.take.new.self.ahead ahead (place_of c.in-Some.node) c.in_ok-line.line.items (g.W.Sink.contents c.args.sink.now) (g.W.Sink.contents c.loop-walk.sink) (g.W.Sink.contents c.write_line.new.sink) (g.W.Sink.has_failed c.write_line.new.sink) (text_of_cover (lines_of (cover_of (program_of m) c.args.depth root))) next taken refl c.loop-walk.invariant.owes written)
