use Rattle.std.proofs.Common.{◌≡◌, [], length, rules, arith, refl, sym, ◌∙◌}
use Rattle.term_reader.specs.inside.Marks.{Follows, MeansAt, rest_of}
use Rattle.term_reader.proofs.Marks.{starts, ended_ok, ended_only, ended_place, holds_on, place_on, refused_on, popped}
use Rattle.term_reader.proofs.reader.read_term.Goals as goal
use Rattle.term_reader.proofs.reader.read_term.Goals.{in-Wanted, in-Found+in-Some}

pub marks-init : goal.marks-init
marks-init c = record {
  read = [];
  parts = refl;
  within = omega arith;
  same = starts c.args.text.now _ c.new.ensures.items c.args.text.now;
  wider = λ left m like k. (starts c.args.text.now c.new.result.items c.new.ensures.items left).from m k;
  back = λ left m alike b. (starts c.args.text.now c.new.result.items c.new.ensures.items left).to m b;
}

pub returns-in_default-clause-ok : goal.returns-in_default-clause-ok
returns-in_default-clause-ok c =
    let h = rw c.in-Found.is at c.marks.invariant in
    let none : length c.in-Found.outer.items ≡ 0 = search rules in
    ended_ok _ c.in-Found.outer.items _ _ c.ended.result h.same none c.ended.ensures.ok

pub returns-in_default-clause-only : goal.returns-in_default-clause-only
returns-in_default-clause-only c =
    let h = rw c.in-Found.is at c.marks.invariant in
    let none : length c.in-Found.outer.items ≡ 0 = search rules in
    ended_only _ c.in-Found.outer.items _ _ c.ended.result _ h.same none c.ended.ensures.ok c.ended.ensures.fault

pub returns-in_default-clause-place : goal.returns-in_default-clause-place
returns-in_default-clause-place c =
    let h = rw c.in-Found.is at c.marks.invariant in
    let none : length c.in-Found.outer.items ≡ 0 = search rules in
    ended_place _ _ c.in-Found.outer.items _ c.in-Found.rest.now c.ended.result _ h (λ left m k. k) (λ left m k. k) refl none (omega (arith, h.within)) c.ended.ensures.fault

pub marks-preserved : goal.marks-preserved
marks-preserved c = elim c.match-state.branch [
  | in-Wanted w ↦
      let f : Follows (MeansAt c.marks.state) (rest_of c.marks.state) c.args.text.now w.begin-next.result = rw w.in-Wanted.is w.begin-next.ensures in
      holds_on c.args.text.now c.marks.state c.in-Ok.reached w.begin-next.result c.marks.invariant f (sym w.next-is ∙ c.in-Ok.is)
  | in-Found+in-Some w ↦
      let g = popped w.in-Found.outer.items w.pop.new.self.items _ _ _ _ _ w.in-Some.ensures.items w.go_on-next.ensures in
      let f : Follows (MeansAt c.marks.state) (rest_of c.marks.state) c.args.text.now w.go_on-next.result = rw w.in-Found.is g in
      holds_on c.args.text.now c.marks.state c.in-Ok.reached w.go_on-next.result c.marks.invariant f (sym w.next-is ∙ c.in-Ok.is)
]

pub returns-in-Err-clause-only : goal.returns-in-Err-clause-only
returns-in-Err-clause-only c = elim c.match-state.branch [
  | in-Wanted w ↦
      let f : Follows (MeansAt c.marks.state) (rest_of c.marks.state) c.args.text.now w.begin-next.result = rw w.in-Wanted.is w.begin-next.ensures in
      refused_on c.args.text.now c.marks.state c.in-Err.fault w.begin-next.result c.marks.invariant f (sym w.next-is ∙ c.in-Err.is)
  | in-Found+in-Some w ↦
      let g = popped w.in-Found.outer.items w.pop.new.self.items _ _ _ _ _ w.in-Some.ensures.items w.go_on-next.ensures in
      let f : Follows (MeansAt c.marks.state) (rest_of c.marks.state) c.args.text.now w.go_on-next.result = rw w.in-Found.is g in
      refused_on c.args.text.now c.marks.state c.in-Err.fault w.go_on-next.result c.marks.invariant f (sym w.next-is ∙ c.in-Err.is)
]

pub returns-in-Err-clause-place : goal.returns-in-Err-clause-place
returns-in-Err-clause-place c = elim c.match-state.branch [
  | in-Wanted w ↦
      let f : Follows (MeansAt c.marks.state) (rest_of c.marks.state) c.args.text.now w.begin-next.result = rw w.in-Wanted.is w.begin-next.ensures in
      place_on c.args.text.now c.marks.state c.in-Err.fault w.begin-next.result c.marks.invariant f (sym w.next-is ∙ c.in-Err.is)
  | in-Found+in-Some w ↦
      let g = popped w.in-Found.outer.items w.pop.new.self.items _ _ _ _ _ w.in-Some.ensures.items w.go_on-next.ensures in
      let f : Follows (MeansAt c.marks.state) (rest_of c.marks.state) c.args.text.now w.go_on-next.result = rw w.in-Found.is g in
      place_on c.args.text.now c.marks.state c.in-Err.fault w.go_on-next.result c.marks.invariant f (sym w.next-is ∙ c.in-Err.is)
]
