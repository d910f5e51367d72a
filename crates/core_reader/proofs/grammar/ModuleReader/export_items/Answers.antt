use Rattle.std.proofs.Common.{sym, ap, ◌∙◌, arith, Err}
use Rattle.std.proofs.lemmas.Result.{err_from_is_err_and}
use Rattle.core_grammar.specs.inside.Decoder.{function_name_at}
use Rattle.core_parser.specs.inside.ParserView.{state_of}
use Rattle.core_reader.specs.inside.ReaderView.{state_in}
use Rattle.core_grammar.specs.inside.Loops.{begins, goes_on, ends, fails, is_out, pieces_length}
use Rattle.core_reader.proofs.grammar.ModuleReader.export_items.Goals as goal

pub items-init : goal.items-init
items-init c = rw c.new-items.ensures.items (begins (function_name_at c.args.levels) _ (state_in c.args.self.now) (sym (pieces_length c.args.self.now.forms.parser.tokens.now)))

pub returns-in_err-function_name : goal.returns-in_err-function_name
returns-in_err-function_name c =
    let p = err_from_is_err_and c.from_residual.result c.from_residual.ensures.1 in
    rw (p.1, p.2) (fails (function_name_at c.args.levels) _ c.items.items.items _ c.items._taken (state_in c.items.self) _ (omega arith) c.in_err-function_name.ensures c.items.invariant)

pub returns-then-not-skip_mark : goal.returns-then-not-skip_mark
returns-then-not-skip_mark c =
    rw c.in_ok-push.ensures.items (ends (function_name_at c.args.levels) c.items.items.items _ c.items._taken (state_in c.items.self) (state_of c.function_name.new.self) _ _ _ (omega arith) c.in_ok-function_name.ensures c.if-not-skip_mark.ensures c.items.invariant)

pub items-preserved : goal.items-preserved
items-preserved c =
    rw c.in_ok-push.ensures.items (goes_on (function_name_at c.args.levels) c.items.items.items _ c.items._taken (state_in c.items.self) (state_of c.function_name.new.self) _ _ _ (omega arith) c.in_ok-function_name.ensures c.if-not-skip_mark.ensures c.items.invariant)

pub returns : goal.returns
returns c = λ _. is_out (function_name_at c.args.levels) c.items.items.items _ c.items._taken (state_in c.items.self) _ (omega arith) c.items.invariant ∙ ap Err (sym c.fault.ensures)
