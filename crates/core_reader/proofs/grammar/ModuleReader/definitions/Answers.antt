use Rattle.std.proofs.Common.{map, sym, ap, ◌∙◌, arith, Err}
use Rattle.std.proofs.lemmas.Result.{err_from_is_err_and}
use Rattle.std.proofs.lemmas.List.{map-append}
use Rattle.core_tokens.specs.declared.token.Keyword.TheVariants as k
use Rattle.core_grammar.specs.inside.DecoderModules.{definition_at}
use Rattle.core_scopes.specs.Drafts.{defined_of}
use Rattle.core_reader.specs.inside.ReaderView.{state_in}
use Rattle.core_grammar.specs.inside.Loops.{rows_begin, rows_on, rows_end, rows_fail, rows_out, pieces_length}
use Rattle.core_reader.proofs.grammar.ModuleReader.definitions.Goals as goal

pub definitions-init : goal.definitions-init
definitions-init c = rw c.new-definitions.ensures.items (rows_begin (definition_at c.args.own.now c.args.levels) k.End _ (state_in c.args.self.now) (sym (pieces_length c.args.self.now.forms.parser.tokens.now)))

pub returns-then-is_at_word : goal.returns-then-is_at_word
returns-then-is_at_word c = rows_end (definition_at c.args.own.now c.args.levels) k.End (map defined_of c.definitions.definitions.items) _ c.definitions._taken (state_in c.definitions.self) _ (omega arith) (sym c.if-is_at_word.ensures) c.definitions.invariant

pub returns-in_err-definition : goal.returns-in_err-definition
returns-in_err-definition c =
    let p = err_from_is_err_and c.from_residual.result c.from_residual.ensures.1 in
    rw (p.1, p.2) (rows_fail (definition_at c.args.own.now c.args.levels) k.End _ (map defined_of c.definitions.definitions.items) _ c.definitions._taken (state_in c.definitions.self) _ (omega arith) (sym c.if-is_at_word.ensures) c.in_err-definition.ensures c.definitions.invariant)

pub definitions-preserved : goal.definitions-preserved
definitions-preserved c =
    rw (c.in_ok-push.ensures.items, map-append) (rows_on (definition_at c.args.own.now c.args.levels) k.End (map defined_of c.definitions.definitions.items) _ c.definitions._taken (state_in c.definitions.self) (state_in c.definition.new.self) _ _ (omega arith) (sym c.if-is_at_word.ensures) c.in_ok-definition.ensures c.definitions.invariant)

pub returns : goal.returns
returns c = λ _. rows_out (definition_at c.args.own.now c.args.levels) k.End (map defined_of c.definitions.definitions.items) _ c.definitions._taken (state_in c.definitions.self) _ (omega arith) c.definitions.invariant ∙ ap Err (sym c.fault.ensures)
