use Rattle.core_scopes.specs.Drafts.{draft_of}
use Rattle.core_scopes.proofs.ClosedModules.{is_lawful, is_only, is_fault}
use Rattle.core_scopes.proofs.functions.closed_module.Goals as goal

pub returns-clause-lawful : goal.returns-clause-lawful
returns-clause-lawful c = is_lawful (draft_of c.args.draft).0 c.args.draft.end _ c.checked_module.ensures

pub returns-clause-only : goal.returns-clause-only
returns-clause-only c = is_only (draft_of c.args.draft).0 c.args.draft.end _ c.checked_module.ensures

pub returns-clause-fault : goal.returns-clause-fault
returns-clause-fault c = is_fault (draft_of c.args.draft).0 c.args.draft.end _ c.checked_module.ensures
