use Rattle.std.proofs.Common.{sym, ap, ◌∙◌, arith, Err}
use Rattle.std.proofs.lemmas.Result.{err_from_is_err_and}
use Rattle.core_grammar.specs.inside.Decoder.{variable_at}
use Rattle.core_parser.specs.inside.ParserView.{state_of}
use Rattle.core_grammar.specs.inside.Loops.{begins, goes_on, ends, fails, is_out, pieces_length}
use Rattle.core_parser.proofs.parser.Parser.variable_items.Goals as goal

pub items-init : goal.items-init
items-init c = rw c.new-items.ensures.items (begins (variable_at c.args.levels) _ (state_of c.args.self.now) (sym (pieces_length c.args.self.now.tokens.now)))

pub returns-in_err-variable : goal.returns-in_err-variable
returns-in_err-variable c =
    let p = err_from_is_err_and c.from_residual.result c.from_residual.ensures.1 in
    rw (p.1, p.2) (fails (variable_at c.args.levels) _ c.items.items.items _ c.items._taken (state_of c.items.self) _ (omega arith) c.in_err-variable.ensures c.items.invariant)

pub returns-then-not-skip_mark : goal.returns-then-not-skip_mark
returns-then-not-skip_mark c =
    rw c.in_ok-push.ensures.items (ends (variable_at c.args.levels) c.items.items.items _ c.items._taken (state_of c.items.self) (state_of c.variable.new.self) _ _ _ (omega arith) c.in_ok-variable.ensures c.if-not-skip_mark.ensures c.items.invariant)

pub items-preserved : goal.items-preserved
items-preserved c =
    rw c.in_ok-push.ensures.items (goes_on (variable_at c.args.levels) c.items.items.items _ c.items._taken (state_of c.items.self) (state_of c.variable.new.self) _ _ _ (omega arith) c.in_ok-variable.ensures c.if-not-skip_mark.ensures c.items.invariant)

pub returns : goal.returns
returns c = λ _. is_out (variable_at c.args.levels) c.items.items.items _ c.items._taken (state_of c.items.self) _ (omega arith) c.items.invariant ∙ ap Err (sym c.fault.ensures)
