-- What follows states may be handed to another thread: each type by its fields.
use denote.Param.Send.{IsSend, IsSync, sendable, view_send}
use denote.Param.SendFields.{declared_send, variants_send}
use Rattle.core_calls.proofs.call.CallKind.TheSendSync as call
use Rattle.search_levels.specs.contracts.arrival.Arrival as Arrival
use Rattle.search_levels.specs.contracts.following.Followed as Followed
use Rattle.search_levels.specs.contracts.rows.Rows as Rows
use Rattle.search_levels.specs.contracts.rows.Rows.TheInside as RowsInside
use Rattle.search_levels.specs.contracts.span.Span as Span
use Rattle.std.proofs.Crossing.{crosses}
use Rattle.std.proofs.MapsCrossing as maps
use Rattle.term_core.proofs.pid.Pid.TheSendSync as pid
use Rattle.term_core.proofs.step.Step.TheSendSync as step
use Rattle.term_core.proofs.term.Pair.TheLaws.TheKnot as terms
use Rattle.term_core.specs.contracts.term.Term as Term
use Rattle.term_core.specs.contracts.term.Terms as Terms
use Rattle.world_identities.specs.contracts.identity.Identity as Identity
use Rattle.world_model.proofs.rule.Rule.TheSendSync as rule

-- ---- what is shown

term_send : IsSend Term.the_row
term_send = search (crosses, terms.crosses, sendable) depth 60 fits 20000

terms_send : IsSend Terms.the_row
terms_send = search (crosses, terms.crosses, sendable) depth 60 fits 20000

terms_sync : IsSync Terms.the_row
terms_sync = search (crosses, terms.crosses, sendable) depth 60 fits 20000

identity_send : IsSend Identity.the_row
identity_send = variants_send Identity.enum ((pid.the_send, (term_send, tt)), ((search (pid.the_send, crosses, maps.crosses, sendable) depth 20, tt), ((pid.the_send, tt), ((pid.the_send, (search sendable, (call.the_send, (search (terms_send, terms_sync, crosses, maps.crosses, sendable) depth 20, (search (rule.the_send, sendable) depth 20, (search (pid.the_send, sendable) depth 20, tt)))))), ((search (pid.the_send, crosses, maps.crosses, sendable) depth 20, tt), tt)))))

-- ---- arrivals

arrival_send : IsSend Arrival.the_row
arrival_send = declared_send Arrival.the_type (step.the_send, (search (identity_send, crosses, maps.crosses, sendable) depth 20, tt))

span_send : IsSend (Span.the_row Arrival.the_row)
span_send = declared_send (Span.the_type Arrival.the_row) (search sendable, (search sendable, (search sendable, (search (arrival_send, sendable) depth 20, tt))))

rows_send : IsSend (Rows.the_row Arrival.the_row)
rows_send = view_send _ _ _ _ _ (declared_send (RowsInside.the_type Arrival.the_row) (search (crosses, maps.crosses, sendable) depth 20, (search (span_send, crosses, maps.crosses, sendable) depth 20, tt)))

pub followed_send : IsSend Followed.the_row
followed_send = declared_send Followed.the_type (search (rows_send, sendable) depth 20, (search (crosses, maps.crosses, sendable) depth 20, tt))
