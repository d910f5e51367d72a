use Rattle.std.proofs.Common.{arith}
use Rattle.std.proofs.lemmas.Result.{err_from_is_err_and}
use Rattle.core_grammar.specs.inside.Decoder.{variable_at}
use Rattle.core_parser.specs.inside.ParserView.{state_of}
use Rattle.core_grammar.specs.inside.Loops.{exactly_on, exactly_lack_comma, exactly_lack, exactly_done}
use Rattle.core_parser.proofs.parser.Parser.parameters.Goals as goal

pub returns-in_err-comma : goal.returns-in_err-comma
returns-in_err-comma c =
    let p = err_from_is_err_and c.from_residual.result c.from_residual.ensures.1 in
    rw (p.1, p.2) (exactly_lack_comma (variable_at c.args.levels) _ c.parameters.parameters.items _ c.parameters.taken (state_of c.parameters.self) _ (omega arith) c.in_err-comma.ensures c.parameters.invariant)

pub returns-in_err-variable : goal.returns-in_err-variable
returns-in_err-variable c =
    let p = err_from_is_err_and c.from_residual-in_err-variable.result c.from_residual-in_err-variable.ensures.1 in
    rw (p.1, p.2) (exactly_lack (variable_at c.args.levels) _ c.parameters.parameters.items _ c.parameters.taken (state_of c.parameters.self) (state_of c.comma.new.self) _ (omega arith) c.in_ok-comma.ensures c.in_err-variable.ensures c.parameters.invariant)

pub parameters-preserved : goal.parameters-preserved
parameters-preserved c =
    rw c.in_ok-push.ensures.items (exactly_on (variable_at c.args.levels) c.parameters.parameters.items _ c.parameters.taken (state_of c.parameters.self) (state_of c.comma.new.self) (state_of c.variable.new.self) _ _ (omega arith) c.in_ok-comma.ensures c.in_ok-variable.ensures c.parameters.invariant)

pub returns : goal.returns
returns c = exactly_done (variable_at c.args.levels) c.parameters.parameters.items _ c.parameters.taken (state_of c.parameters.self) _ _ (omega arith) c.parameters.invariant
