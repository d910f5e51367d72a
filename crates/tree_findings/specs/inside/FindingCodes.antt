-- The codes of findings, by which proofs distinguish values.
use Rattle.std.specs.Prelude.{◌≡◌, ◌⊎◌, ℕ, List, Option, refl}
use Rattle.std.specs.Coded.{Coded, code_by, coded×, coded⊎, coded_list, coded_option, coded_ℕ}
use mathlib.Core.Logic.{inl, inr}
use Rattle.term_core.specs.Meaning.{Meaning}
use Rattle.term_core.specs.inside.MeaningCodes.{coded_meaning}
use Rattle.term_core.specs.contracts.step.Step as steps
use Rattle.term_core.specs.declared.step.Step.{Step}
use Rattle.core_calls.specs.contracts.call.CallKind as kinds
use Rattle.core_calls.specs.declared.call.CallKind.{CallKind}
use Rattle.world_model.specs.contracts.rule.Rule as rules
use Rattle.world_model.specs.declared.rule.Rule.{Rule}
use Rattle.world_model.specs.Shown.{Identity, End, Deadlock, Runaway, RefusedCall, Unread}
use Rattle.tree_coverage.specs.Findings.{Finding, Findings}

abbrev Refused : Type 0
Refused = List ℕ × (ℕ × (CallKind × (List Meaning × (Rule × Option (List ℕ)))))

abbrev Parts : Type 0
Parts = (List ℕ × Meaning) ⊎ (List (List ℕ) ⊎ (List ℕ ⊎ (Refused ⊎ List (List ℕ))))

abbrev parts_of : Identity → Parts
parts_of (End p reason) = inl (p, reason)
parts_of (Deadlock ps) = inr (inl ps)
parts_of (Runaway p) = inr (inr (inl p))
parts_of (RefusedCall p request kind arguments rule told) = inr (inr (inr (inl (p, (request, (kind, (arguments, (rule, told))))))))
parts_of (Unread ps) = inr (inr (inr (inr ps)))

abbrev identity_of : Parts → Identity
identity_of (inl x) = End x.0 x.1
identity_of (inr (inl ps)) = Deadlock ps
identity_of (inr (inr (inl p))) = Runaway p
identity_of (inr (inr (inr (inl x)))) = RefusedCall x.0 x.1.0 x.1.1.0 x.1.1.1.0 x.1.1.1.1.0 x.1.1.1.1.1
identity_of (inr (inr (inr (inr ps)))) = Unread ps

pub identity_of-parts_of : (i : Identity) → identity_of (parts_of i) ≡ i
identity_of-parts_of (End p reason) = refl
identity_of-parts_of (Deadlock ps) = refl
identity_of-parts_of (Runaway p) = refl
identity_of-parts_of (RefusedCall p request kind arguments rule told) = refl
identity_of-parts_of (Unread ps) = refl

abbrev coded_pid : Coded (List ℕ)
coded_pid = coded_list coded_ℕ

abbrev coded_refused : Coded Refused
coded_refused = coded× coded_pid (coded× coded_ℕ (coded× kinds.the_row.coded (coded× (coded_list coded_meaning) (coded× rules.the_row.coded (coded_option coded_pid)))))

abbrev pub coded_identity : Coded Identity
coded_identity = code_by Parts (coded⊎ (coded× coded_pid coded_meaning) (coded⊎ (coded_list coded_pid) (coded⊎ coded_pid (coded⊎ coded_refused (coded_list coded_pid))))) parts_of identity_of identity_of-parts_of

abbrev pub coded_finding : Coded Finding
coded_finding = code_by (Identity × List Step) (coded× coded_identity (coded_list steps.the_row.coded)) (λ f. (f.identity, f.schedule)) (λ p. record { identity = p.0; schedule = p.1 }) (λ _. refl)

abbrev pub coded_findings : Coded Findings
coded_findings = code_by (List Finding × List Finding) (coded× (coded_list coded_finding) (coded_list coded_finding)) (λ f. (f.errors, f.refusals)) (λ p. record { errors = p.0; refusals = p.1 }) (λ _. refl)
