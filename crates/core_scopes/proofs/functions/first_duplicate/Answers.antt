use Rattle.std.proofs.Common.{ℕ, Some, sym, ap, ◌∙◌}
use Rattle.core_scopes.specs.Drafts.{defined_of}
use Rattle.core_scopes.proofs.Gathering.{second_stays, second_comes, second_lacks}
use Rattle.core_scopes.proofs.functions.first_duplicate.Goals as goal

pub returns-then-is_some : goal.returns-then-is_some
returns-then-is_some c = second_stays c.args.definitions.now.entries c.args.second (defined_of c.args.defined.now) (sym c.is_some.ensures ∙ c.if-is_some.true)

pub returns-then-is_defined : goal.returns-then-is_defined
returns-then-is_defined c =
    ap (λ (n : ℕ). Some (record { before = n; at = c.args.defined.now.definition.at })) c.len.ensures.len
    ∙ second_comes c.args.definitions.now.entries c.args.second (defined_of c.args.defined.now) (sym c.is_some.ensures ∙ c.if-is_some.false) (sym c.is_defined.ensures ∙ c.if-is_defined.true)

pub returns : goal.returns
returns c = second_lacks c.args.definitions.now.entries c.args.second (defined_of c.args.defined.now) (sym c.is_some.ensures ∙ c.if-is_some.false) (sym c.is_defined.ensures ∙ c.if-is_defined.false)
