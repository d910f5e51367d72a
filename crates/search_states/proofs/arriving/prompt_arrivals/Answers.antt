use Rattle.std.proofs.Common.{refl, subst}
use Rattle.std.proofs.lemmas.Result.{on_ok_weaker}
use Rattle.search_numbers.specs.Knowing.{IsFirstAtOnce}
use Rattle.search_numbers.specs.Rows.{numbers_in}
use Rattle.search_states.proofs.Deadlocks.{all_arrive, first_arrives}
use Rattle.search_states.proofs.There.{first_there, read_alone, still_read}
use Rattle.search_states.proofs.arriving.prompt_arrivals.Goals as goal

pub arrival_alone-requires : goal.arrival_alone-requires
arrival_alone-requires g c κs =
    let first = g.L.Look.seen c.first_at_once.new.look in
    let numbers = numbers_in c.args.row.now in
    let can = still_read (g.L.Look.seen c.args.look.now) first numbers c.first_at_once.ensures.knows c.requires in
    ((refl, tt), (can, first_there first numbers c.in-Some.at can.1 (subst (IsFirstAtOnce first numbers) c.in-Some.is c.in_ok-at.ensures.first)))

pub all_arrivals-requires : goal.all_arrivals-requires
all_arrivals-requires g c κs = ((refl, tt), still_read (g.L.Look.seen c.args.look.now) (g.L.Look.seen c.first_at_once.new.look) (numbers_in c.args.row.now) c.first_at_once.ensures.knows c.requires)

pub returns-in-Some-clause-arrivals : goal.returns-in-Some-clause-arrivals
returns-in-Some-clause-arrivals g c =
    let first = g.L.Look.seen c.first_at_once.new.look in
    let numbers = numbers_in c.args.row.now in
    on_ok_weaker c.arrival_alone.result (λ alone. first_arrives first (g.L.Look.seen c.arrival_alone.new.look) numbers c.in-Some.at c.arrival_alone.new.into (subst (IsFirstAtOnce first numbers) c.in-Some.is c.in_ok-at.ensures.first) c.arrival_alone.ensures.knows alone) c.arrival_alone.ensures.puts

pub returns-in-None-clause-arrivals : goal.returns-in-None-clause-arrivals
returns-in-None-clause-arrivals g c =
    let first = g.L.Look.seen c.first_at_once.new.look in
    let numbers = numbers_in c.args.row.now in
    on_ok_weaker c.all_arrivals.result (λ all. all_arrive first (g.L.Look.seen c.all_arrivals.new.look) numbers c.all_arrivals.new.into (subst (IsFirstAtOnce first numbers) c.in-None.is c.in_ok-at.ensures.first) c.all_arrivals.ensures.knows all) c.all_arrivals.ensures.arrivals

pub returns-in-Some-clause-of_known : goal.returns-in-Some-clause-of_known
returns-in-Some-clause-of_known g c = on_ok_weaker c.arrival_alone.result (λ alone. read_alone _ _ _ _ _ alone) c.arrival_alone.ensures.puts
