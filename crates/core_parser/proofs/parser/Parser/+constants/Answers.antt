use Rattle.std.proofs.Common.{map, sym, ap, ◌∙◌, arith, Err}
use Rattle.std.proofs.lemmas.Result.{err_from_is_err_and}
use Rattle.std.proofs.lemmas.List.{map-append}
use Rattle.core_grammar.specs.inside.Decoder.{constant_at}
use Rattle.core_parser.specs.inside.ParserView.{state_of}
use Rattle.core_tree.specs.Tree.{constant_of}
use Rattle.core_grammar.specs.inside.Loops.{begins, goes_on, ends, fails, is_out, pieces_length}
use Rattle.core_grammar.specs.inside.Levels.{constant_zero, constant_more}
use Rattle.core_parser.proofs.parser.Parser.+constants.Goals as goal

pub constant-returns-in_err-constant_form : goal.constant-returns-in_err-constant_form
constant-returns-in_err-constant_form t c =
    let p = err_from_is_err_and c.from_residual.result c.from_residual.ensures.1 in
    rw (p.1, p.2) (λ real. constant_more c.args.levels (state_of c.args.self.now) (omega arith) ∙ c.in_err-constant_form.ensures real)

pub constant-returns-then-levels-eq0 : goal.constant-returns-then-levels-eq0
constant-returns-then-levels-eq0 t c = λ _. constant_zero c.args.levels (state_of c.args.self.now) (omega arith) ∙ ap Err (sym c.deep_constant.ensures)

pub constant-returns-in_ok-constant_form : goal.constant-returns-in_ok-constant_form
constant-returns-in_ok-constant_form t c = constant_more c.args.levels (state_of c.args.self.now) (omega arith) ∙ c.in_ok-constant_form.ensures

pub constant_items-items-init : goal.constant_items-items-init
constant_items-items-init t c =
    rw c.new-items.ensures.items (begins (constant_at c.args.levels) _ (state_of c.args.self.now) (sym (pieces_length c.args.self.now.tokens.now)))

pub constant_items-returns-in_err-constant : goal.constant_items-returns-in_err-constant
constant_items-returns-in_err-constant t c =
    let p = err_from_is_err_and c.from_residual.result c.from_residual.ensures.1 in
    rw (p.1, p.2) (fails (constant_at c.args.levels) _ (map constant_of c.items.items.items) _ c.items._taken (state_of c.items.self) _ (omega arith) c.in_err-constant.ensures c.items.invariant)

pub constant_items-returns-then-not-skip_mark : goal.constant_items-returns-then-not-skip_mark
constant_items-returns-then-not-skip_mark t c =
    rw (c.in_ok-push.ensures.items, map-append) (ends (constant_at c.args.levels) (map constant_of c.items.items.items) _ c.items._taken (state_of c.items.self) (state_of c.constant.new.self) _ _ _ (omega arith) c.in_ok-constant.ensures c.if-not-skip_mark.ensures c.items.invariant)

pub constant_items-items-preserved : goal.constant_items-items-preserved
constant_items-items-preserved t c =
    rw (c.in_ok-push.ensures.items, map-append) (goes_on (constant_at c.args.levels) (map constant_of c.items.items.items) _ c.items._taken (state_of c.items.self) (state_of c.constant.new.self) _ _ _ (omega arith) c.in_ok-constant.ensures c.if-not-skip_mark.ensures c.items.invariant)

pub constant_items-returns : goal.constant_items-returns
constant_items-returns t c = λ _. is_out (constant_at c.args.levels) (map constant_of c.items.items.items) _ c.items._taken (state_of c.items.self) _ (omega arith) c.items.invariant ∙ ap Err (sym c.fault.ensures)
