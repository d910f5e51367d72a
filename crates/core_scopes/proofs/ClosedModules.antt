-- What comes of looking for the first fault of a module.
use Rattle.std.proofs.Common.{◌≡◌, ◌≢◌, ℕ, Result, Ok, Err, refl, sym, subst, ◌∙◌}
use Rattle.std.specs.Prelude.{IfOk, IfErr}
use Rattle.core_tokens.specs.declared.fault.ReadFault.{ReadFault}
use Rattle.core_tokens.specs.declared.fault.ReadFault.TheVariants.{Memory}
use Rattle.core_tree.specs.Syntax.{ModuleTree}
use Rattle.core_scopes.specs.Outcomes.{GivesUnlessMemory}
use Rattle.core_scopes.specs.Scopes.{IsLawful}
use Rattle.core_scopes.specs.ScopeFaults.{IsFaultOfModule}
use Rattle.core_scopes.specs.ScopeChecks.{check_module}
use Rattle.core_scopes.proofs.ScopeLaws.{module_lawful, lawful_module}
use Rattle.core_scopes.proofs.ScopeFaultLaws.{module_breaks}

abbrev pub made : ModuleTree → Result ModuleTree ReadFault
made m = Ok m

abbrev pub fails_with : ReadFault → Result ModuleTree ReadFault
fails_with e = Err e

pub is_lawful : (m : ModuleTree) (end : ℕ) (r : Result ModuleTree ReadFault) → GivesUnlessMemory (λ x. x) r (check_module (m, end)) → IfOk r (λ x. IsLawful x × (x ≡ m))
is_lawful m end (Ok x) given =
    let h = module_lawful m end x given in
    (subst IsLawful h.1 h.0, sym h.1)
is_lawful m end (Err e) given = tt

-- where the module is made except for lack of memory, the fault is that
pub only_memory : (e : ReadFault) (m : ModuleTree) → (e ≢ Memory → made m ≡ fails_with e) → e ≡ Memory
only_memory Memory m h = refl
only_memory e m h = absurd (apart m e (h (λ same. absurd cc)))
  where
    apart : (x : ModuleTree) (f : ReadFault) → made x ≡ fails_with f → ⊥
    apart x f same = absurd cc

pub is_only : (m : ModuleTree) (end : ℕ) (r : Result ModuleTree ReadFault) → GivesUnlessMemory (λ x. x) r (check_module (m, end)) → IsLawful m → IfErr r (λ f. f ≡ Memory)
is_only m end (Ok x) given h = tt
is_only m end (Err e) given h = only_memory e m (λ real. sym (lawful_module m end h) ∙ given real)

pub is_fault : (m : ModuleTree) (end : ℕ) (r : Result ModuleTree ReadFault) → GivesUnlessMemory (λ x. x) r (check_module (m, end)) → IfErr r (λ f. f ≢ Memory → IsFaultOfModule m end f)
is_fault m end (Ok x) given = tt
is_fault m end (Err e) given = λ real. module_breaks m end e (given real)
