use Rattle.std.proofs.Common.{◌∙◌, ◌+◌, true, false, get_or, map, refl, subst, sym, take}
use Rattle.std.proofs.lemmas.List.{take_all}
use Rattle.tree_schedules.specs.Deliveries.{is_at_once}
use Rattle.search_numbers.specs.Knowing.{KnowsMore}
use Rattle.search_numbers.specs.Rows.{numbers_in}
use Rattle.search_numbers.proofs.Listed.{NoneIs, first_taken, item_begins, knows_itself, knows_too, none_at_once, passed_over_taken, still_none_taken}
use Rattle.search_numbers.proofs.AtOnce.{told_at_once}
use Rattle.search_numbers.proofs.Kept.{world_later}
use Rattle.search_numbers.proofs.Looked.{asked_seen, next_asked, store_seen, told_seen, within_seen}
use Rattle.search_numbers.proofs.steps.first_at_once.Goals as goal
use Rattle.search_numbers.proofs.steps.first_at_once.Goals.{then-is_at_once+in_ok-at+else-is_enabled_at, else-is_at_once}

pub asked-requires : goal.asked-requires
asked-requires g c = store_seen c.known.result.now (g.L.Look.seen c.args.look.now) c.known.ensures c.requires.world.whole

pub returns-in_err-asked-clause-knows : goal.returns-in_err-asked-clause-knows
returns-in_err-asked-clause-knows g c = knows_itself (g.L.Look.seen c.args.look.now)

pub loop-column-init : goal.loop-column-init
loop-column-init g c = record { knows = knows_itself (g.L.Look.seen c.args.look.now); none = λ step each later m h follows are. refl }

pub look_up-requires : goal.look_up-requires
look_up-requires g c κs =
    let first = g.L.Look.seen c.args.look.now in
    let numbers = numbers_in c.args.row.now in
    let items = c.as_slice-column-items.result.now in
    let asked = asked_seen c.known.result.now first numbers _ items c.known.ensures c.as_slice-column-items.ensures.value c.in_ok-asked.ensures in
    ((refl, tt), next_asked first (g.L.Look.seen c.loop-column.look) numbers items c.loop-column.column-index c.loop-column.invariant.knows c.requires.world c.requires.right asked c.loop-column-test.true)

pub is_enabled_at-requires : goal.is_enabled_at-requires
is_enabled_at-requires g c =
    let first = g.L.Look.seen c.args.look.now in
    let numbers = numbers_in c.args.row.now in
    let items = c.as_slice-column-items.result.now in
    let i = c.loop-column.column-index in
    let asked = asked_seen c.known.result.now first numbers _ items c.known.ensures c.as_slice-column-items.ensures.value c.in_ok-asked.ensures in
    let is = c.in_ok-at.ensures.answers (asked.step (get_or items i 0)) (item_begins first (g.L.Look.seen c.loop-column.look) asked.step items i c.loop-column.invariant.knows asked.begin c.loop-column-test.true) in
    within_seen c.known-then-is_at_once.result.now (g.L.Look.seen c.look_up.new.self) numbers _ c.in_ok-at.at c.known-then-is_at_once.ensures is

pub returns-in_err-at-clause-knows : goal.returns-in_err-at-clause-knows
returns-in_err-at-clause-knows g c = knows_too (g.L.Look.seen c.args.look.now) (g.L.Look.seen c.loop-column.look) (g.L.Look.seen c.look_up.new.self) c.loop-column.invariant.knows c.look_up.ensures.knows

pub returns-then-is_enabled_at-clause-first : goal.returns-then-is_enabled_at-clause-first
returns-then-is_enabled_at-clause-first g c =
    let first = g.L.Look.seen c.args.look.now in
    let old = g.L.Look.seen c.loop-column.look in
    let new = g.L.Look.seen c.look_up.new.self in
    let numbers = numbers_in c.args.row.now in
    let items = c.as_slice-column-items.result.now in
    let i = c.loop-column.column-index in
    let within = c.loop-column-test.true in
    let asked = asked_seen c.known.result.now first numbers _ items c.known.ensures c.as_slice-column-items.ensures.value c.in_ok-asked.ensures in
    let knows = c.look_up.ensures.knows in
    let right = knows.right (c.loop-column.invariant.knows.right c.requires.right) in
    let begins = item_begins first old asked.step items i c.loop-column.invariant.knows asked.begin within in
    let is = c.in_ok-at.ensures.answers (asked.step (get_or items i 0)) begins in
    first_taken first old new numbers items i c.in_ok-at.at within c.requires.world asked c.loop-column.invariant.knows knows right (c.loop-column.invariant.none asked.step asked.begin)
    (told_at_once c.known-in-loop-column.result.now old numbers _ _ c.is_at_once.result true c.known-in-loop-column.ensures (world_later first.store old.store numbers c.loop-column.invariant.knows.follows c.requires.world) begins c.is_at_once.ensures c.if-is_at_once.true) is
    (told_seen c.known-then-is_at_once.result.now new numbers _ c.in_ok-at.at c.is_enabled_at.result true c.known-then-is_at_once.ensures is c.is_enabled_at.ensures c.if-is_enabled_at.true)

pub returns-then-is_enabled_at-clause-knows : goal.returns-then-is_enabled_at-clause-knows
returns-then-is_enabled_at-clause-knows g c = knows_too (g.L.Look.seen c.args.look.now) (g.L.Look.seen c.loop-column.look) (g.L.Look.seen c.look_up.new.self) c.loop-column.invariant.knows c.look_up.ensures.knows

pub loop-column-preserved : goal.loop-column-preserved
loop-column-preserved g c =
    let first = g.L.Look.seen c.args.look.now in
    let old = g.L.Look.seen c.loop-column.look in
    let numbers = numbers_in c.args.row.now in
    let items = c.as_slice-column-items.result.now in
    let i = c.loop-column.column-index in
    let within = c.loop-column-test.true in
    let before = c.loop-column.invariant in
    record {
      knows = elim c.if-is_at_once.branch [
        | then-is_at_once+in_ok-at+else-is_enabled_at w ↦ subst (λ l. KnowsMore first (g.L.Look.seen l)) (sym w.look-is) (knows_too first old (g.L.Look.seen w.look_up.new.self) before.knows w.look_up.ensures.knows)
        | else-is_at_once w ↦ subst (λ l. KnowsMore first (g.L.Look.seen l)) (sym w.look-is) before.knows
      ];
      none = λ step each.
          let begins = item_begins first old step items i before.knows each within in
          let world = world_later first.store old.store numbers before.knows.follows c.requires.world in
          elim c.if-is_at_once.branch [
            | then-is_at_once+in_ok-at+else-is_enabled_at w ↦
                let new = g.L.Look.seen w.look_up.new.self in
                let is = w.in_ok-at.ensures.answers (step (get_or items i 0)) begins in
                subst (λ l. NoneIs is_at_once (g.L.Look.seen l) numbers (map step (take (i + 1) items))) (sym w.look-is)
                (still_none_taken old new numbers step items i within is_at_once w.in_ok-at.at w.look_up.ensures.knows (w.look_up.ensures.knows.right (before.knows.right c.requires.right)) (before.none step each) is
                (told_seen w.known-then-is_at_once.result.now new numbers _ w.in_ok-at.at w.is_enabled_at.result false w.known-then-is_at_once.ensures is w.is_enabled_at.ensures w.if-is_enabled_at.false))
            | else-is_at_once w ↦
                subst (λ l. NoneIs is_at_once (g.L.Look.seen l) numbers (map step (take (i + 1) items))) (sym w.look-is)
                (passed_over_taken is_at_once old numbers step items i within (told_at_once c.known-in-loop-column.result.now old numbers _ _ c.is_at_once.result false c.known-in-loop-column.ensures world begins c.is_at_once.ensures w.if-is_at_once.false) (before.none step each))
          ];
    }

pub returns-clause-first : goal.returns-clause-first
returns-clause-first g c =
    let first = g.L.Look.seen c.args.look.now in
    let last = g.L.Look.seen c.loop-column.look in
    let items = c.as_slice-column-items.result.now in
    let numbers = numbers_in c.args.row.now in
    let asked = asked_seen c.known.result.now first numbers _ items c.known.ensures c.as_slice-column-items.ensures.value c.in_ok-asked.ensures in
    none_at_once first last numbers items c.requires.world asked c.loop-column.invariant.knows
    (subst (λ xs. NoneIs is_at_once last numbers (map asked.step xs)) (take_all c.loop-column.column-index items c.loop-column-test.false) (c.loop-column.invariant.none asked.step asked.begin))
