use Rattle.world_records.proofs.Opening.{alike}
use Rattle.world_records.proofs.Placed.{alike_at}
use Rattle.world_records.proofs.records.Records.copy.Goals as goal

pub returns-clause-alike : goal.returns-clause-alike
returns-clause-alike c = alike _ _ c.in_ok-copy.ensures c.in_ok-copy-2.ensures c.in_ok-copy-3.ensures c.in_ok-copy-4.ensures c.in_ok-copy-5.ensures c.in_ok-copy-6.ensures c.in_ok-copy-7.ensures.holders c.in_ok-copy-7.ensures.names c.in_ok-copy-8.ensures

pub returns-clause-places : goal.returns-clause-places
returns-clause-places c = alike_at _ _ c.in_ok-copy.ensures c.in_ok-copy-2.ensures c.in_ok-copy-3.ensures c.in_ok-copy-4.ensures c.in_ok-copy-5.ensures c.in_ok-copy-6.ensures record { holders = c.in_ok-copy-7.ensures.holders; names = c.in_ok-copy-7.ensures.names } c.in_ok-copy-8.ensures
