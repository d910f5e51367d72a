-- What a search by states finds, as the report and its theorem say it.
use Rattle.std.proofs.Common.{◌↔◌, ℕ, List, sym, subst}
use Rattle.term_core.specs.declared.step.Step.{Step}
use Rattle.world_model.specs.Requests.{Program}
use Rattle.world_model.specs.Shown.{Identity, is_error, is_refusal}
use Rattle.tree_coverage.specs.Findings.{Findings}
use Rattle.tree_coverage.specs.Shown.{RunShows}
use Rattle.tree_coverage.proofs.FindingLaws.{sorted_found}
use Rattle.tree_findings.specs.declared.outcome.Outcome.{Outcome}
use Rattle.tree_findings.specs.declared.outcome.Outcome.TheVariants.{Complete, Incomplete}
use Rattle.tree_schedules.specs.Deliveries.{DeliversBy}
use Rattle.tree_schedules.specs.Schedules.{IsEverShownBy, IsShownBy, all_schedules, findings_of_all}
use Rattle.tree_schedules.specs.declared.delivery.Delivery.{Delivery}
use Rattle.tree_schedules.specs.declared.delivery.Delivery.TheVariants.{AnyTime}
use Rattle.tree_schedules.proofs.Delivering.{from_ever_shown_by, from_shown_by, to_ever_shown_by, to_shown_by}
use Rattle.tree_schedules.proofs.Least.{errors_least, errors_of_all, refusals_least, refusals_of_all}
use Rattle.search_crew.specs.Outcomes.{IsExact, IsWhole}
use Rattle.search_jobs.specs.Explorations.{ExplorationSeen, program_in}
use Rattle.search_levels.specs.Searched.{IsLongest, IsOutcomeOfAll, TellsReach}
use Rattle.program_runs.specs.Explored.{IsExactBy, IsListedBy, IsListedOfAllBy, IsWholeBy}
use Rattle.program_runs.specs.Theorem.{AreOfAll}

module _ (d : Delivery) (e : ExplorationSeen) where
  a : Program
  a = program_in e

  found : Findings
  found = findings_of_all e.flags d a e.depth

  -- what all schedules show is listed
  listed : (i : Identity) → IsListedBy d e found i
  unfolding a found
  listed i = record { errors = errors_of_all e.flags d a e.depth i; refusals = refusals_of_all e.flags d a e.depth i }

  -- where none is longer, whatever a schedule shows one to the depth shows
  ever : IsLongest d a e.depth → (i : Identity) → IsEverShownBy d a i ↔ IsShownBy d a e.depth i
  unfolding a
  ever longest i = (λ s. shortly (from_ever_shown_by d a i s), λ s. let p = from_shown_by d a e.depth i s in to_ever_shown_by d a i p.0 p.2 p.3)
    where
      shortly : (s : List Step) × DeliversBy d a s × RunShows a s i → IsShownBy d a e.depth i
      shortly p = to_shown_by d a e.depth i p.0 (longest p.0 p.2.0 p.1 p.2.1) p.1 p.2

  listed_of_all : IsLongest d a e.depth → (i : Identity) → IsListedOfAllBy d e found i
  unfolding a found
  listed_of_all longest i = record {
    errors = (λ f. let p = (errors_of_all e.flags d a e.depth i).0 f in (p.0, (ever longest i).1 p.1), λ p. (errors_of_all e.flags d a e.depth i).1 (p.0, (ever longest i).0 p.1));
    refusals = (λ f. let p = (refusals_of_all e.flags d a e.depth i).0 f in (p.0, (ever longest i).1 p.1), λ p. (refusals_of_all e.flags d a e.depth i).1 (p.0, (ever longest i).0 p.1));
  }

  pub exact_by_states : (limit whole_to : ℕ) (o : Outcome) → IsOutcomeOfAll e.flags d (program_in e) e.depth limit whole_to o → IsExactBy d e o
  unfolding a found
  exact_by_states limit whole_to (Complete findings extent) is = λ i. subst (λ (f : Findings). IsListedBy d e f i) (sym is.0) (listed i)
  exact_by_states limit whole_to (Incomplete cause findings) is = tt

  pub whole_by_states : (limit whole_to : ℕ) (o : Outcome) → IsOutcomeOfAll e.flags d (program_in e) e.depth limit whole_to o → IsWholeBy d e o
  unfolding a found
  whole_by_states limit whole_to (Complete findings extent) is = λ uncut i. subst (λ (f : Findings). IsListedOfAllBy d e f i) (sym is.0) (listed_of_all (subst (TellsReach d a e.depth) uncut is.1) i)
  whole_by_states limit whole_to (Incomplete cause findings) is = tt

-- beside each is the least schedule of all
pub errors_of_states : (d : Delivery) (e : ExplorationSeen) → AreOfAll d (program_in e) e.depth (findings_of_all e.flags d (program_in e) e.depth).errors
errors_of_states d e = record { each_once = sorted_found (is_error e.flags) (program_in e) (all_schedules d (program_in e) e.depth); least = errors_least e.flags d (program_in e) e.depth }

pub refusals_of_states : (d : Delivery) (e : ExplorationSeen) → AreOfAll d (program_in e) e.depth (findings_of_all e.flags d (program_in e) e.depth).refusals
refusals_of_states d e = record { each_once = sorted_found is_refusal (program_in e) (all_schedules d (program_in e) e.depth); least = refusals_least e.flags d (program_in e) e.depth }

-- ---- the tree says so of all schedules

pub exact_by_tree : (e : ExplorationSeen) (o : Outcome) → IsExact e o → IsExactBy AnyTime e o
exact_by_tree e (Complete findings extent) is = λ i. record { errors = (is i).errors; refusals = (is i).refusals }
exact_by_tree e (Incomplete cause findings) is = tt

pub whole_by_tree : (e : ExplorationSeen) (o : Outcome) → IsWhole e o → IsWholeBy AnyTime e o
whole_by_tree e (Complete findings extent) is = λ uncut i. record { errors = (is uncut i).errors; refusals = (is uncut i).refusals }
whole_by_tree e (Incomplete cause findings) is = tt
