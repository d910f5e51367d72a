use Rattle.report_identities.proofs.CallPieces.{before_last, cut_is, has_blank, has_bracket, has_last_bracket}
use Rattle.report_identities.proofs.pieces.cut_call.Goals as goal

pub returns-in_err-request : goal.returns-in_err-request
returns-in_err-request c = rw c.from_residual.ensures (λ r n a s cut. has_blank _ r n a s cut c.in_err-request.ensures)

pub returns-in_err-name : goal.returns-in_err-name
returns-in_err-name c = rw c.from_residual-in_err-name.ensures (λ r n a s cut. has_bracket _ _ _ r n a s c.in_ok-request.ensures cut c.in_err-name.ensures)

pub returns-in_err-front : goal.returns-in_err-front
returns-in_err-front c = rw c.from_residual-in_err-front.ensures (λ r n a s cut. has_last_bracket _ _ _ _ _ r n a s c.in_ok-request.ensures c.in_ok-name.ensures cut c.in_err-front.ensures)

pub returns-in_err-arguments : goal.returns-in_err-arguments
returns-in_err-arguments c =
    rw c.from_residual-in_err-arguments.ensures (λ r n a s cut. c.in_err-arguments.ensures _ (before_last _ _ _ _ _ _ _ r n a s c.in_ok-request.ensures c.in_ok-name.ensures c.in_ok-front.ensures cut))

pub returns : goal.returns
returns c = cut_is _ _ _ _ _ _ _ _ c.in_ok-request.ensures c.in_ok-name.ensures c.in_ok-front.ensures c.in_ok-arguments.ensures
