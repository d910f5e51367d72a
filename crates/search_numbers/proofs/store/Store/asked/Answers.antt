use Rattle.std.proofs.Common.{◌≡◌, ◌++◌, ◌∷◌, ℕ, List, [], map, refl, rules, sym, subst, Bor}
use Rattle.std.proofs.lemmas.List.{map-append}
use Rattle.std.proofs.lemmas.Map.Iter.{iter_end}
use Rattle.std.specs.Map.Iter.{deref_pair}
use Rattle.search_numbers.proofs.Asking.{ArePicked, are_asked, asked_not, asked_too}
use Rattle.search_numbers.proofs.Columns.{last_all}
use Rattle.search_numbers.specs.Rows.{numbers_in}
use Rattle.search_numbers.specs.Stored.{BeginsAt, EachBegins, IsIdle}
use Rattle.search_numbers.proofs.store.Store.asked.Goals as goal
use Rattle.term_core.specs.declared.step.Step.{Step}
use Rattle.world_records.specs.declared.place.Place.{Place}

-- one step more, whose column is asked or not
module _ (places : List Place) (numbers : ℕ → ℕ) (yielded : List (Bor Step × Bor ℕ)) (e : Bor Step × Bor ℕ) (columns : List ℕ) (before : EachBegins places (map deref_pair yielded) → ArePicked places numbers (map deref_pair yielded) columns) where
  taken_too : (more : List ℕ) → more ≡ columns ++ e.1.now ∷ [] → EachBegins places (map deref_pair (yielded ++ e ∷ [])) → ArePicked places numbers (map deref_pair (yielded ++ e ∷ [])) more
  taken_too more is each =
      let split = last_all (λ (x : Step × ℕ). BeginsAt places x.1 x.0) (map deref_pair yielded) (deref_pair e) (subst (EachBegins places) (map-append deref_pair yielded (e ∷ [])) each) in
      subst (λ es. ArePicked places numbers es more) (sym (map-append deref_pair yielded (e ∷ [])))
      (subst (ArePicked places numbers (map deref_pair yielded ++ deref_pair e ∷ [])) (sym is) (asked_too places numbers (map deref_pair yielded) columns (deref_pair e) split.1 (before split.0)))

  passed_by : ((s : Step) → BeginsAt places e.1.now s → IsIdle places numbers s) → EachBegins places (map deref_pair (yielded ++ e ∷ [])) → ArePicked places numbers (map deref_pair (yielded ++ e ∷ [])) columns
  passed_by idle each =
      let split = last_all (λ (x : Step × ℕ). BeginsAt places x.1 x.0) (map deref_pair yielded) (deref_pair e) (subst (EachBegins places) (map-append deref_pair yielded (e ∷ [])) each) in
      subst (λ es. ArePicked places numbers es columns) (sym (map-append deref_pair yielded (e ∷ []))) (asked_not places numbers (map deref_pair yielded) columns (deref_pair e) split.1 (before split.0) (idle e.0.now split.1))

pub loop-column-preserved-in-Continue-branch-2 : goal.loop-column-preserved-in-Continue-branch-2
loop-column-preserved-in-Continue-branch-2 c =
    let more : c.push.new.self.items ≡ c.loop-column.asked.items ++ c.in-Some.column.now ∷ [] = search rules in
    taken_too c.args.self.now.places.items (numbers_in c.args.row.now) c.loop-column.yielded _ c.loop-column.asked.items c.loop-column.invariant c.push.new.self.items more

pub loop-column-preserved : goal.loop-column-preserved
loop-column-preserved c = passed_by c.args.self.now.places.items (numbers_in c.args.row.now) c.loop-column.yielded _ c.loop-column.asked.items c.loop-column.invariant (c.if-may_be_enabled.ensures refl)

pub returns : goal.returns
returns c =
    let store = c.args.self.now in
    let all : map deref_pair c.loop-column.yielded ≡ store.steps.entries = search (rules, iter_end) in
    are_asked store (numbers_in c.args.row.now) c.loop-column.asked.items c.requires c.iter-column-items.ensures.ordered
    (subst (λ es. ArePicked store.places.items (numbers_in c.args.row.now) es c.loop-column.asked.items) all (c.loop-column.invariant (subst (EachBegins store.places.items) (sym all) c.requires.placed)))
