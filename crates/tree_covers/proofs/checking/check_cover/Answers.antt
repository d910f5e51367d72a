use Rattle.std.proofs.Common.{rules, ◌≡◌, ◌∙◌, ◌∷◌, [], ap, arith}
use Rattle.std.specs.Prelude.{Err}
use Rattle.std.proofs.lemmas.Result.{err_from_is_err_and}
use Rattle.tree_excuses.specs.Excuses.{counts, excuses_in}
use Rattle.world_identities.specs.Identities.{flags_in}
use Rattle.world_model.specs.Asking.{program_of}
use Rattle.tree_covers.specs.CoverText.{lines_in}
use Rattle.tree_covers.specs.declared.fault.CoverFault.TheVariants as faults
use Rattle.tree_covers.specs.inside.Frames.{place_of}
use Rattle.tree_covers.proofs.FaultLaws.{goes_on_below, is_good, is_long, is_short, line_fault, no_error, only_memory, refused_by}
use Rattle.tree_covers.proofs.JudgeLaws.{good_enabled}
use Rattle.tree_covers.proofs.checking.check_cover.Goals as goal

pub returns-in_default-2-clause-accepted : goal.returns-in_default-2-clause-accepted
returns-in_default-2-clause-accepted g c = λ good.
    let f = counts (flags_in c.args.flags) (excuses_in c.args.excuses.now) in
    let m = c.args.program.now in
    let none : c.loop-line.walk.ahead ≡ [] = search rules in
    only_memory f (program_of m) c.args.depth c.args.bytes.now (faults.Long c.loop-line.number)
    (is_long f m c.args.depth c.args.bytes.now c.loop-line.number c.loop-line.walk.ahead (lines_in c.loop-line.rest.now) c.loop-line.invariant.stands c.in-Some.line.now (lines_in c.in-Some.behind.now) none c.in-Some.ensures.lines) good

pub returns-in_err-steps-clause-accepted : goal.returns-in_err-steps-clause-accepted
returns-in_err-steps-clause-accepted g c = λ good.
    let f = counts (flags_in c.args.flags) (excuses_in c.args.excuses.now) in
    let m = c.args.program.now in
    let p = err_from_is_err_and c.from_residual-in_err-steps.result c.from_residual-in_err-steps.ensures.1 in
    let next : c.loop-line.walk.ahead ≡ place_of c.in-Some-2.node ∷ c.take.new.self.ahead = search rules in
    let same : c.in-Some-2.node.program ≡ m = search rules in
    refused_by f (program_of m) c.args.depth c.args.bytes.now c.from_residual-in_err-steps.result c.in_err-steps.field-0.0 (p.1 ∙ ap Err p.2)
    (line_fault f m c.args.depth c.args.bytes.now c.loop-line.number c.loop-line.walk.ahead (lines_in c.loop-line.rest.now) c.loop-line.invariant.stands c.in-Some-2.node.program (place_of c.in-Some-2.node) c.take.new.self.ahead c.in-Some.line.now (lines_in c.in-Some.behind.now) same next c.in-Some.ensures.lines
    c.in_err-steps.field-0.0 c.in_err-steps.ensures.refused) good

pub go_below-requires-clause-enabled : goal.go_below-requires-clause-enabled
go_below-requires-clause-enabled g c =
    good_enabled (counts (flags_in c.args.flags) (excuses_in c.args.excuses.now)) (program_of c.in-Some-2.node.program) (place_of c.in-Some-2.node) c.in_ok-steps.steps.items c.in_ok-steps.ensures.good

pub loop-line-preserved : goal.loop-line-preserved
loop-line-preserved g c =
    let f = counts (flags_in c.args.flags) (excuses_in c.args.excuses.now) in
    let m = c.args.program.now in
    let next : c.loop-line.walk.ahead ≡ place_of c.in-Some-2.node ∷ c.take.new.self.ahead = search rules in
    let same : c.in-Some-2.node.program ≡ m = search rules in
    record {
      stands = goes_on_below f m c.args.depth c.args.bytes.now c.loop-line.number c.loop-line.walk.ahead (lines_in c.loop-line.rest.now) c.loop-line.invariant.stands c.in-Some-2.node.program (place_of c.in-Some-2.node) c.take.new.self.ahead c.in-Some.line.now (lines_in c.in-Some.behind.now) same next c.in-Some.ensures.lines
          c.in_ok-steps.steps.items c.go_below.new.self.ahead c.in_ok-steps.ensures.lawful.0 c.in_ok-steps.ensures.lawful.1 c.in_ok-steps.ensures.good c.in_ok-go_below.ensures.next;
      program = search rules;
      counted = omega (arith, c.loop-line.invariant.counted, c.in-Some.ensures.shorter);
    }

pub returns-in_default-3-clause-good : goal.returns-in_default-3-clause-good
returns-in_default-3-clause-good g c =
    let f = counts (flags_in c.args.flags) (excuses_in c.args.excuses.now) in
    let m = c.args.program.now in
    let none : c.loop-line.walk.ahead ≡ [] = search rules in
    let empty : c.loop-line.rest.now ≡ [] = search rules in
    is_good f m c.args.depth c.args.bytes.now c.loop-line.number c.loop-line.walk.ahead (lines_in c.loop-line.rest.now) c.loop-line.invariant.stands none (ap lines_in empty)

pub returns-in_default-3-clause-clean : goal.returns-in_default-3-clause-clean
returns-in_default-3-clause-clean g c =
    let f = counts (flags_in c.args.flags) (excuses_in c.args.excuses.now) in
    let m = c.args.program.now in
    let none : c.loop-line.walk.ahead ≡ [] = search rules in
    let empty : c.loop-line.rest.now ≡ [] = search rules in
    no_error f (program_of m) c.args.depth c.args.bytes.now c.covers_show_no_error.ensures
    (is_good f m c.args.depth c.args.bytes.now c.loop-line.number c.loop-line.walk.ahead (lines_in c.loop-line.rest.now) c.loop-line.invariant.stands none (ap lines_in empty))

pub returns-clause-accepted : goal.returns-clause-accepted
returns-clause-accepted g c = λ good.
    let f = counts (flags_in c.args.flags) (excuses_in c.args.excuses.now) in
    let m = c.args.program.now in
    let next : c.loop-line.walk.ahead ≡ place_of c.in-Some-3._node ∷ c.take-2.new.self.ahead = search rules in
    let empty : c.loop-line.rest.now ≡ [] = search rules in
    only_memory f (program_of m) c.args.depth c.args.bytes.now (faults.Short c.loop-line.number)
    (is_short f m c.args.depth c.args.bytes.now c.loop-line.number c.loop-line.walk.ahead (lines_in c.loop-line.rest.now) c.loop-line.invariant.stands (place_of c.in-Some-3._node) c.take-2.new.self.ahead next (ap lines_in empty)) good
