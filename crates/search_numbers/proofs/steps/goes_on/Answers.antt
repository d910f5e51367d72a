use Rattle.std.proofs.Common.{true, false, get_or, map, refl, subst}
use Rattle.std.proofs.lemmas.List.{take_all}
use Rattle.search_numbers.specs.Rows.{numbers_in}
use Rattle.search_numbers.proofs.Listed.{NoneIs, every, item_begins, knows_itself, knows_too, none_goes_on, one_goes_on, still_none_taken}
use Rattle.search_numbers.proofs.Looked.{asked_seen, next_asked, store_seen, told_seen, within_seen}
use Rattle.search_numbers.proofs.steps.goes_on.Goals as goal

pub asked-requires : goal.asked-requires
asked-requires g c = store_seen c.known.result.now (g.L.Look.seen c.args.look.now) c.known.ensures c.requires.world.whole

pub returns-in_err-asked-clause-knows : goal.returns-in_err-asked-clause-knows
returns-in_err-asked-clause-knows g c = knows_itself (g.L.Look.seen c.args.look.now)

pub loop-column-init : goal.loop-column-init
loop-column-init g c = record { knows = knows_itself (g.L.Look.seen c.args.look.now); none = λ step each later m h follows are. refl }

pub look_up-requires : goal.look_up-requires
look_up-requires g c κs =
    let first = g.L.Look.seen c.args.look.now in
    let numbers = numbers_in c.args.row.now in
    let items = c.as_slice-column-items.result.now in
    let asked = asked_seen c.known.result.now first numbers _ items c.known.ensures c.as_slice-column-items.ensures.value c.in_ok-asked.ensures in
    ((refl, tt), next_asked first (g.L.Look.seen c.loop-column.look) numbers items c.loop-column.column-index c.loop-column.invariant.knows c.requires.world c.requires.right asked c.loop-column-test.true)

pub is_enabled_at-requires : goal.is_enabled_at-requires
is_enabled_at-requires g c =
    let first = g.L.Look.seen c.args.look.now in
    let numbers = numbers_in c.args.row.now in
    let items = c.as_slice-column-items.result.now in
    let i = c.loop-column.column-index in
    let asked = asked_seen c.known.result.now first numbers _ items c.known.ensures c.as_slice-column-items.ensures.value c.in_ok-asked.ensures in
    let is = c.in_ok-at.ensures.answers (asked.step (get_or items i 0)) (item_begins first (g.L.Look.seen c.loop-column.look) asked.step items i c.loop-column.invariant.knows asked.begin c.loop-column-test.true) in
    within_seen c.known-in-loop-column.result.now (g.L.Look.seen c.look_up.new.self) numbers _ c.in_ok-at.at c.known-in-loop-column.ensures is

pub returns-in_err-at-clause-knows : goal.returns-in_err-at-clause-knows
returns-in_err-at-clause-knows g c = knows_too (g.L.Look.seen c.args.look.now) (g.L.Look.seen c.loop-column.look) (g.L.Look.seen c.look_up.new.self) c.loop-column.invariant.knows c.look_up.ensures.knows

pub returns-then-is_enabled_at-clause-goes_on : goal.returns-then-is_enabled_at-clause-goes_on
returns-then-is_enabled_at-clause-goes_on g c =
    let first = g.L.Look.seen c.args.look.now in
    let new = g.L.Look.seen c.look_up.new.self in
    let numbers = numbers_in c.args.row.now in
    let items = c.as_slice-column-items.result.now in
    let i = c.loop-column.column-index in
    let asked = asked_seen c.known.result.now first numbers _ items c.known.ensures c.as_slice-column-items.ensures.value c.in_ok-asked.ensures in
    let right = c.look_up.ensures.knows.right (c.loop-column.invariant.knows.right c.requires.right) in
    let is = c.in_ok-at.ensures.answers (asked.step (get_or items i 0)) (item_begins first (g.L.Look.seen c.loop-column.look) asked.step items i c.loop-column.invariant.knows asked.begin c.loop-column-test.true) in
    one_goes_on new numbers _ c.in_ok-at.at right is (told_seen c.known-in-loop-column.result.now new numbers _ c.in_ok-at.at c.is_enabled_at.result true c.known-in-loop-column.ensures is c.is_enabled_at.ensures c.if-is_enabled_at.true)

pub returns-then-is_enabled_at-clause-knows : goal.returns-then-is_enabled_at-clause-knows
returns-then-is_enabled_at-clause-knows g c = knows_too (g.L.Look.seen c.args.look.now) (g.L.Look.seen c.loop-column.look) (g.L.Look.seen c.look_up.new.self) c.loop-column.invariant.knows c.look_up.ensures.knows

pub loop-column-preserved : goal.loop-column-preserved
loop-column-preserved g c =
    let first = g.L.Look.seen c.args.look.now in
    let old = g.L.Look.seen c.loop-column.look in
    let new = g.L.Look.seen c.look_up.new.self in
    let numbers = numbers_in c.args.row.now in
    let items = c.as_slice-column-items.result.now in
    let i = c.loop-column.column-index in
    let within = c.loop-column-test.true in
    let knows = c.look_up.ensures.knows in
    let right = knows.right (c.loop-column.invariant.knows.right c.requires.right) in
    record {
      knows = knows_too first old new c.loop-column.invariant.knows knows;
      none = λ step each.
          let is = c.in_ok-at.ensures.answers (step (get_or items i 0)) (item_begins first old step items i c.loop-column.invariant.knows each within) in
          still_none_taken old new numbers step items i within every c.in_ok-at.at knows right (c.loop-column.invariant.none step each) is
          (told_seen c.known-in-loop-column.result.now new numbers _ c.in_ok-at.at c.is_enabled_at.result false c.known-in-loop-column.ensures is c.is_enabled_at.ensures c.if-is_enabled_at.false);
    }

pub returns-clause-goes_on : goal.returns-clause-goes_on
returns-clause-goes_on g c =
    let first = g.L.Look.seen c.args.look.now in
    let last = g.L.Look.seen c.loop-column.look in
    let items = c.as_slice-column-items.result.now in
    let numbers = numbers_in c.args.row.now in
    let asked = asked_seen c.known.result.now first numbers _ items c.known.ensures c.as_slice-column-items.ensures.value c.in_ok-asked.ensures in
    none_goes_on first last numbers items c.requires.world asked c.loop-column.invariant.knows
    (subst (λ xs. NoneIs every last numbers (map asked.step xs)) (take_all c.loop-column.column-index items c.loop-column-test.false) (c.loop-column.invariant.none asked.step asked.begin))
