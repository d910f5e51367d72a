use Rattle.world_records.proofs.Opening.{begins}
use Rattle.world_records.proofs.records.Records.open.Goals as goal

pub returns : goal.returns
returns c = begins c.args.program.now _ c.in_ok-open.ensures c.in_ok-new.ensures c.in_ok-new-2.ensures c.in_ok-new-3.ensures c.in_ok-new-4.ensures.watchers c.in_ok-new-4.ensures.watches c.in_ok-new-5.ensures c.in_ok-new-6.ensures.holders c.in_ok-new-6.ensures.names
    c.in_ok-new-7.ensures.tables c.in_ok-new-7.ensures.names c.in_ok-new-7.ensures.owned
