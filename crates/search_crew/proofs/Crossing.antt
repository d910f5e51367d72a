-- A module and a pool may be shared by threads, and a seat handed to one: each type by its fields.
use denote.Param.Send.{IsSend, IsSync, sendable, shr_send, view_send, view_sync}
use denote.Param.SendFields.{as_row_send, declared_send, declared_sync}
use denote.Param.{param}
use denote.RattleType.{RattleType}
use denote.Ref.{NamedLft, ShrRef}
use denote.Struct.Field.{row_field, u64-field}
use denote.Struct.Tuple.{TupleAt, type_at}
use mathlib.Core.List.{[], ◌∷◌}
use mir.Syntax.{Sym}
use Rattle.core_tree.below.indexmap.proofs.map.IndexMap.TheSendSync as map
use Rattle.core_tree.proofs.constant.Consts.TheLaws.TheKnot as constants
use Rattle.core_tree.proofs.module.FunctionName.TheSendSync as function
use Rattle.core_tree.proofs.module.NamedFunction.TheSendSync as named
use Rattle.core_tree.proofs.pattern.Alias.TheLaws.TheKnot as patterns
use Rattle.core_tree.proofs.tree.Call.TheLaws.TheKnot as expressions
use Rattle.core_tree.proofs.tree.Callee.TheSendSync as callee
use Rattle.core_tree.proofs.variable.Variable.TheSendSync as variable
use Rattle.core_tree.specs.contracts.module.Attribute as Attribute
use Rattle.core_tree.specs.contracts.module.Definition as Definition
use Rattle.core_tree.specs.contracts.module.Module as Module
use Rattle.core_tree.specs.contracts.module.Module.TheInside as ModuleInside
use Rattle.core_tree.specs.contracts.tree.Expr as Expr
use Rattle.world_identities.proofs.flags.Flags.TheSendSync as flags
use Rattle.search_pool.proofs.entry.PoolEvent.TheSendSync as entry
use Rattle.search_pool.proofs.entry.Stop.TheSendSync as stop
use Rattle.search_pool.specs.contracts.frontier.Frontier as Frontier
use Rattle.search_pool.specs.contracts.frontier.Frontier.TheInside as FrontierInside
use Rattle.search_pool.specs.contracts.pool.Pool as Pool
use Rattle.search_pool.specs.contracts.seat.Seat as Seat
use Rattle.search_pool.specs.contracts.seat.Seat.TheInside as SeatInside
use Rattle.search_pool.specs.contracts.state.PoolState as PoolState
use Rattle.search_pool.specs.contracts.state.PoolState.TheInside as PoolStateInside
use Rattle.search_pool.specs.declared.seat.PoolName as PoolName
use Rattle.search_jobs.specs.contracts.exploration.Exploration as Exploration
use Rattle.search_jobs.specs.contracts.job.Job as Job
use Rattle.search_jobs.specs.contracts.job.Job.TheInside as JobInside
use Rattle.search_jobs.specs.contracts.names.JobName as JobName
use Rattle.search_jobs.specs.contracts.names.JobName.TheInside as JobNameInside
use Rattle.search_jobs.specs.contracts.names.Ticket as Ticket
use Rattle.search_jobs.specs.contracts.names.Ticket.TheInside as TicketInside
use Rattle.std.proofs.Crossing.{crosses}
use Rattle.std.proofs.MapsCrossing as maps
use Rattle.std.proofs.sync.ledger.Book.TheSendSync as book
use Rattle.std.proofs.sync.ledger.Share.TheSendSync as share
use Rattle.std.specs.contracts.alloc.Global as Global
use Rattle.std.specs.declared.sync.ledger.Ledger as Ledger
use Rattle.term_core.proofs.atom.Atom.TheSendSync as atom
use Rattle.term_core.proofs.step.Step.TheSendSync as step
use Rattle.search_crew.proofs.Findings.{findings_send}

-- ---- modules

expr_sync : IsSync Expr.the_row
expr_sync = search (callee.the_sync, variable.the_sync, atom.the_sync, crosses, patterns.crosses, expressions.crosses, sendable) depth 60 fits 20000

attribute_sync : IsSync Attribute.the_row
attribute_sync = search (atom.the_sync, crosses, constants.crosses, sendable) depth 60 fits 20000

definition_sync : IsSync Definition.the_row
definition_sync = declared_sync Definition.the_type (search sendable, (search (variable.the_sync, crosses, maps.crosses, sendable) depth 20, (expr_sync, tt)))

pub module_sync : IsSync Module.the_row
module_sync = view_sync _ _ _ _ _ (declared_sync ModuleInside.the_type (atom.the_sync, (search (named.the_sync, crosses, maps.crosses, sendable) depth 20, (search (attribute_sync, crosses, maps.crosses, sendable) depth 20, (search (definition_sync, function.the_sync, map.the_sync, crosses, sendable) depth 30, tt)))))

-- ---- jobs

exploration_send : (a : NamedLft) → IsSend (Exploration.the_row a)
exploration_send a = declared_send (Exploration.the_type a) (search (module_sync, sendable) depth 20, (search sendable, (flags.the_send, tt)))

job_name_send : IsSend JobName.the_row
job_name_send = view_send _ _ _ _ _ (declared_send JobNameInside.the_type (search (step.the_send, crosses, maps.crosses, sendable) depth 20, (search (step.the_send, crosses, maps.crosses, sendable) depth 20, tt)))

ticket_send : IsSend Ticket.the_row
ticket_send = view_send _ _ _ _ _ (declared_send TicketInside.the_type (search sendable, (search (job_name_send, sendable) depth 20, tt)))

job_send : (a : NamedLft) → IsSend (Job.the_row a)
job_send a = view_send _ _ _ _ _ (declared_send (JobInside.the_type a) (search (exploration_send, sendable) depth 20, (search (job_name_send, sendable) depth 20, (search sendable, tt))))

-- ---- the pool

frontier_send : (a : NamedLft) → IsSend (Frontier.the_row a)
frontier_send a = view_send _ _ _ _ _ (declared_send (FrontierInside.the_type a) (search (exploration_send, sendable) depth 20, (search (job_name_send, sendable) depth 20, (search sendable, (search (job_send, crosses, maps.crosses, sendable) depth 20, (search (ticket_send, crosses, maps.crosses, sendable) depth 20, (search (findings_send, sendable) depth 20, (search sendable, (search sendable, (search sendable, (search (entry.the_send, crosses, maps.crosses, sendable) depth 20, (search (stop.the_send, sendable) depth 20, tt))))))))))))

module _ (N : RattleType) (g : PoolName.Ghosts N.Denot) (l : Ledger.Ghosts N.Denot) where
  pool_state_send : (a : NamedLft) → IsSend (PoolState.the_row a N g l)
  pool_state_send a = view_send _ _ _ _ _ (declared_send (PoolStateInside.the_type a N g l) (search (frontier_send, sendable) depth 20, (search sendable, (search (book.the_send, sendable) depth 40, (search (share.the_send, sendable) depth 40, tt)))))

  pub pool_sync : (a : NamedLft) → IsSync (Pool.the_row a N g l)
  pool_sync a = declared_sync (Pool.the_type a N g l) (search (pool_state_send, crosses, sendable) depth 20, (search (crosses, sendable) depth 20, (search (crosses, sendable) depth 20, tt)))

  pub seat_send : IsSend (Seat.the_row N g l)
  seat_send = view_send _ _ _ _ _ (declared_send (SeatInside.the_type N g l) (search sendable, (search (share.the_send, sendable) depth 40, tt)))

  -- what the closure of a worker has: the runtime, the allocator, the pool, its seat, the module, the least budget and the observer
  pub worker_send : (name : Sym) (a b c d e : NamedLft) (R G : RattleType) → IsSync (param 1 R) → IsSync (param 2 G) → IsSend (TupleAt name (ShrRef a.mir a.lft (param 1 R) ∷ Global.the_row ∷ ShrRef b.mir b.lft (Pool.the_row c N g l) ∷ Seat.the_row N g l ∷ ShrRef d.mir d.lft Module.the_row ∷ u64-field.row ∷ ShrRef e.mir e.lft (param 2 G) ∷ []))
  worker_send name a b c d e R G r s =
      declared_send (type_at name (ShrRef a.mir a.lft (param 1 R) ∷ Global.the_row ∷ ShrRef b.mir b.lft (Pool.the_row c N g l) ∷ Seat.the_row N g l ∷ ShrRef d.mir d.lft Module.the_row ∷ u64-field.row ∷ ShrRef e.mir e.lft (param 2 G) ∷ []))
      (as_row_send (row_field (ShrRef a.mir a.lft (param 1 R))) (shr_send a.mir a.lft (param 1 R) r), (search (crosses, sendable) depth 20, (search (pool_sync, sendable) depth 20, (search (seat_send, sendable) depth 20, (search (module_sync, sendable) depth 20, (search sendable depth 20, (as_row_send (row_field (ShrRef e.mir e.lft (param 2 G))) (shr_send e.mir e.lft (param 2 G) s), tt)))))))
