use Rattle.indexmap.proofs.CallerLemmas.{insert_entry-new}
use Rattle.std.proofs.Common.{◌∙◌}
use Rattle.core_tree.specs.Functions.{same_function}
use Rattle.core_copies.proofs.CopiedDefinitions.{next_copied}
use Rattle.core_copies.proofs.modules.copy_definitions.Goals as goal

pub loop-function-preserved-in_ok-insert : goal.loop-function-preserved-in_ok-insert
loop-function-preserved-in_ok-insert c =
    next_copied c.args.definitions.now.entries c.loop-function.copied.entries c.insert.new.self.entries c.loop-function.function-iterator c.next.new.self c.in-Some.function.now c.in_ok-copy_function.field-0 c.in-Some.definition.now c.in_ok-copy_definition.field-0 c.len.ensures.unique c.in-Some.ensures.steps c.in_ok-copy_function.ensures c.in_ok-copy_definition.ensures
    (λ new. c.in_ok-insert.ensures.entries ∙ insert_entry-new same_function c.loop-function.copied c.in_ok-copy_function.field-0 c.in_ok-copy_definition.field-0 new) c.loop-function.invariant

pub loop-function-preserved : goal.loop-function-preserved
loop-function-preserved c =
    next_copied c.args.definitions.now.entries c.loop-function.copied.entries c.insert.new.self.entries c.loop-function.function-iterator c.next.new.self c.in-Some.function.now c.in_ok-copy_function.field-0 c.in-Some.definition.now c.in_ok-copy_definition.field-0 c.len.ensures.unique c.in-Some.ensures.steps c.in_ok-copy_function.ensures c.in_ok-copy_definition.ensures
    (λ new. c.in_ok-insert.ensures.entries ∙ insert_entry-new same_function c.loop-function.copied c.in_ok-copy_function.field-0 c.in_ok-copy_definition.field-0 new) c.loop-function.invariant
