-- What was found may be handed to a thread: each type by its fields.
use denote.Param.Send.{IsSend, IsSync, sendable, view_send}
use denote.Param.SendFields.{declared_send, variants_send}
use Rattle.core_calls.proofs.call.CallKind.TheSendSync as call
use Rattle.tree_findings.specs.contracts.finding.Finding as Finding
use Rattle.tree_findings.specs.contracts.found.Findings as Findings
use Rattle.tree_findings.specs.contracts.found.Findings.TheInside as FindingsInside
use Rattle.world_identities.specs.contracts.identity.Identity as Identity
use Rattle.tree_findings.specs.contracts.list.FindingList as FindingList
use Rattle.tree_findings.specs.contracts.list.FindingList.TheInside as FindingListInside
use Rattle.std.proofs.Crossing.{crosses}
use Rattle.std.proofs.MapsCrossing as maps
use Rattle.term_core.proofs.pid.Pid.TheSendSync as pid
use Rattle.term_core.proofs.step.Step.TheSendSync as step
use Rattle.term_core.proofs.term.Pair.TheLaws.TheKnot as terms
use Rattle.term_core.specs.contracts.term.Term as Term
use Rattle.term_core.specs.contracts.term.Terms as Terms
use Rattle.world_model.proofs.rule.Rule.TheSendSync as rule

-- ---- terms

term_send : IsSend Term.the_row
term_send = search (crosses, terms.crosses, sendable) depth 60 fits 20000

terms_send : IsSend Terms.the_row
terms_send = search (crosses, terms.crosses, sendable) depth 60 fits 20000

terms_sync : IsSync Terms.the_row
terms_sync = search (crosses, terms.crosses, sendable) depth 60 fits 20000

-- ---- findings

identity_send : IsSend Identity.the_row
identity_send = variants_send Identity.enum ((pid.the_send, (term_send, tt)), ((search (pid.the_send, crosses, maps.crosses, sendable) depth 20, tt), ((pid.the_send, tt), ((pid.the_send, (search sendable, (call.the_send, (search (terms_send, terms_sync, crosses, maps.crosses, sendable) depth 20, (search (rule.the_send, sendable) depth 20, (search (pid.the_send, sendable) depth 20, tt)))))), ((search (pid.the_send, crosses, maps.crosses, sendable) depth 20, tt), tt)))))

finding_send : IsSend Finding.the_row
finding_send = declared_send Finding.the_type (identity_send, (search (step.the_send, crosses, maps.crosses, sendable) depth 20, tt))

finding_list_send : IsSend FindingList.the_row
finding_list_send = view_send _ _ _ _ _ (declared_send FindingListInside.the_type (search (finding_send, crosses, maps.crosses, sendable) depth 20, tt))

pub findings_send : IsSend Findings.the_row
findings_send = view_send _ _ _ _ _ (declared_send FindingsInside.the_type (search (finding_list_send, sendable) depth 20, (search (finding_list_send, sendable) depth 20, tt)))
