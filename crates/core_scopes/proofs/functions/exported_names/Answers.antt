use Rattle.std.proofs.Common.{◌≡◌, ◌||◌, List, ap, subst, arith}
use Rattle.core_tree.specs.Syntax.{Function, NamedAt}
use Rattle.core_scopes.specs.Scopes.{exported_by}
use Rattle.core_scopes.specs.ScopeChecks.{is_defined}
use Rattle.core_scopes.specs.inside.Environment.{shown}
use Rattle.core_scopes.proofs.Gathering.{export_next}
use Rattle.core_scopes.proofs.ScopeLoops.{drop_item}
use Rattle.core_scopes.proofs.functions.exported_names.Goals as goal

pub exports-preserved : goal.exports-preserved
exports-preserved c =
    let es = c.args.exports.now in
    let ks = c.exports.names.keys in
    export_next ks c.insert.new.self.keys _ c.export-item.result _ (is_defined (exported_by es)) (ap (λ (e : NamedAt). e.function) c.export.view_is)
    (subst (λ (ds : List NamedAt). (f : Function) → (is_defined (shown ks) f || is_defined (exported_by ds) f) ≡ is_defined (exported_by es) f) (drop_item es c.exports.export-index c.export-item.result (omega arith) c.export-item.is) c.exports.invariant)
    c.in_ok-insert.ensures.keys
