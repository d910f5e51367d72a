use denote.Exit.{no}
use denote.Param.{param}
use denote.Param.Send.{arg_send, param_send}
use Rattle.search_crew.proofs.Crossing.{worker_send}
use Rattle.search_crew.proofs.crew.fn.work_together.scope.Goals as goal

-- the pool and the module may be shared, and the seat handed over
pub spawn_scoped-requires-send-F : goal.spawn_scoped-requires-send-F
spawn_scoped-requires-send-F g c κs lives =
    param_send _ _ (arg_send _ no _ (worker_send (param 0 g.row.N) g.N.PoolName g.N.Ledger _ _ _ _ _ _ g.row.R g.row.O c.requires.shared.2 c.requires.shared.3))
