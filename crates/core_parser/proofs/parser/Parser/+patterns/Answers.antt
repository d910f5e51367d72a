use Rattle.std.proofs.Common.{map, sym, ap, ◌∙◌, arith, Err}
use Rattle.std.proofs.lemmas.Result.{err_from_is_err_and}
use Rattle.std.proofs.lemmas.List.{map-append}
use Rattle.core_grammar.specs.inside.Decoder.{pattern_at}
use Rattle.core_parser.specs.inside.ParserView.{state_of}
use Rattle.core_tree.specs.Tree.{pattern_of}
use Rattle.core_grammar.specs.inside.Loops.{begins, goes_on, ends, fails, is_out, pieces_length}
use Rattle.core_grammar.specs.inside.Levels.{pattern_zero, pattern_fails, alias_fails, pattern_reads}
use Rattle.core_parser.proofs.parser.Parser.+patterns.Goals as goal

pub pattern-returns-then-levels-eq0 : goal.pattern-returns-then-levels-eq0
pattern-returns-then-levels-eq0 t c = λ _. pattern_zero c.args.levels (state_of c.args.self.now) (omega arith) ∙ ap Err (sym c.deep_pattern.ensures)

pub pattern-returns-in_err-pattern : goal.pattern-returns-in_err-pattern
pattern-returns-in_err-pattern t c =
    let p = err_from_is_err_and c.from_residual.result c.from_residual.ensures.1 in
    rw (p.1, p.2) (pattern_fails _ c.args.levels (state_of c.args.self.now) (omega arith) c.in_err-pattern.ensures)

pub pattern-returns-in_err-alias : goal.pattern-returns-in_err-alias
pattern-returns-in_err-alias t c =
    let p = err_from_is_err_and c.from_residual-in_err-alias.result c.from_residual-in_err-alias.ensures.1 in
    rw (p.1, p.2) (alias_fails _ c.args.levels (state_of c.args.self.now) _ _ (omega arith) c.in_ok-pattern.ensures c.in_err-alias.ensures)

pub pattern-returns : goal.pattern-returns
pattern-returns t c = pattern_reads _ c.args.levels (state_of c.args.self.now) _ _ (omega arith) c.in_ok-pattern.ensures c.in_ok-alias.ensures

pub pattern_items-items-init : goal.pattern_items-items-init
pattern_items-items-init t c =
    rw c.new-items.ensures.items (begins (pattern_at c.args.levels) _ (state_of c.args.self.now) (sym (pieces_length c.args.self.now.tokens.now)))

pub pattern_items-returns-in_err-pattern : goal.pattern_items-returns-in_err-pattern
pattern_items-returns-in_err-pattern t c =
    let p = err_from_is_err_and c.from_residual.result c.from_residual.ensures.1 in
    rw (p.1, p.2) (fails (pattern_at c.args.levels) _ (map pattern_of c.items.items.items) _ c.items._taken (state_of c.items.self) _ (omega arith) c.in_err-pattern.ensures c.items.invariant)

pub pattern_items-returns-then-not-skip_mark : goal.pattern_items-returns-then-not-skip_mark
pattern_items-returns-then-not-skip_mark t c =
    rw (c.in_ok-push.ensures.items, map-append) (ends (pattern_at c.args.levels) (map pattern_of c.items.items.items) _ c.items._taken (state_of c.items.self) (state_of c.pattern.new.self) _ _ _ (omega arith) c.in_ok-pattern.ensures c.if-not-skip_mark.ensures c.items.invariant)

pub pattern_items-items-preserved : goal.pattern_items-items-preserved
pattern_items-items-preserved t c =
    rw (c.in_ok-push.ensures.items, map-append) (goes_on (pattern_at c.args.levels) (map pattern_of c.items.items.items) _ c.items._taken (state_of c.items.self) (state_of c.pattern.new.self) _ _ _ (omega arith) c.in_ok-pattern.ensures c.if-not-skip_mark.ensures c.items.invariant)

pub pattern_items-returns : goal.pattern_items-returns
pattern_items-returns t c = λ _. is_out (pattern_at c.args.levels) (map pattern_of c.items.items.items) _ c.items._taken (state_of c.items.self) _ (omega arith) c.items.invariant ∙ ap Err (sym c.fault.ensures)
