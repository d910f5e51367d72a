use Rattle.std.proofs.Common.{List, sym, ap, ◌∙◌, Ok, ◌≡◌}
use Rattle.std.proofs.lemmas.Result.{err_from_is_err_and}
use Rattle.core_tree.specs.Syntax.{NamedAt, ModuleTree}
use Rattle.core_scopes.specs.Drafts.{draft_of}
use Rattle.core_scopes.specs.inside.Environment.{check_functions}
use Rattle.core_scopes.proofs.Gathering.{functions_fail, main_lacks, module_closed}
use Rattle.core_scopes.proofs.functions.checked_module.Goals as goal

pub returns-in_err-check_functions : goal.returns-in_err-check_functions
returns-in_err-check_functions c =
    let p = err_from_is_err_and c.from_residual-in_err-check_functions.result c.from_residual-in_err-check_functions.ensures.1 in
    let m : ModuleTree = (draft_of c.args.draft).0 in
    let g = c.in_ok-gathered.gathered in
    let h = rw c.deref.ensures.value at c.in_err-check_functions.ensures in
    rw (p.1, p.2) (functions_fail m c.args.draft.end g.second g.definitions.entries c.in_ok-gathered.ensures.names c.in_ok-gathered.ensures.checked _ h)

pub returns-then-not-branch : goal.returns-then-not-branch
returns-then-not-branch c =
    let m : ModuleTree = (draft_of c.args.draft).0 in
    let g = c.in_ok-gathered.gathered in
    let h : check_functions m.exports g.second g.definitions.entries ≡ Ok tt = ap (λ (es : List NamedAt). check_functions es g.second g.definitions.entries) (sym c.deref.ensures.value) ∙ c.in_ok-check_functions.ensures in
    λ _. main_lacks m c.args.draft.end g.second g.definitions.entries c.in_ok-gathered.ensures.names c.in_ok-gathered.ensures.checked h (sym c.in_ok-has_main.ensures.found ∙ c.if-not-branch.true)

pub returns : goal.returns
returns c =
    let m : ModuleTree = (draft_of c.args.draft).0 in
    let g = c.in_ok-gathered.gathered in
    let h : check_functions m.exports g.second g.definitions.entries ≡ Ok tt = ap (λ (es : List NamedAt). check_functions es g.second g.definitions.entries) (sym c.deref.ensures.value) ∙ c.in_ok-check_functions.ensures in
    module_closed m c.args.draft.end g.second g.definitions.entries c.in_ok-gathered.ensures.names c.in_ok-gathered.ensures.checked h c.in_ok-gathered.ensures.kept (sym c.in_ok-has_main.ensures.found ∙ c.if-not-branch.false)
