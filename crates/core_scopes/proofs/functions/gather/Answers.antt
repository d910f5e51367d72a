use Rattle.std.proofs.Common.{◌≡◌, List, [], ◌∷◌, map, length, ap, subst, arith}
use Rattle.std.specs.Vec.Iter.{into_iter_items}
use Rattle.std.proofs.lemmas.List.{nil_from_length}
use Rattle.core_tree.specs.Syntax.{DefinitionTree}
use Rattle.core_scopes.specs.Drafts.{defined_of}
use Rattle.core_scopes.proofs.Gathering.{Gathering, gathering_on, gathering_ends}
use Rattle.core_scopes.proofs.functions.gather.Goals as goal

pub definitions-preserved : goal.definitions-preserved
definitions-preserved c =
    let all = map defined_of c.args.all.items in
    let step = c.in-Some.ensures.steps in
    let before : Gathering all c.definitions.second c.definitions.definitions.entries (defined_of c.in-Some.defined ∷ map defined_of (into_iter_items c.next.new.self)) =
    subst (λ (ds : List DefinitionTree). Gathering all c.definitions.second c.definitions.definitions.entries ds) (ap (map defined_of) step.0) c.definitions.invariant.0 in (
      rw c.first_duplicate-second.ensures (gathering_on all (map defined_of (into_iter_items c.next.new.self)) c.definitions.definitions.entries c.keep.new.definitions.entries (c.in-Some.defined.function, c.in-Some.defined.definition) c.definitions.second c.in_ok-keep.ensures.new c.in_ok-keep.ensures.old before),
      omega (arith, step.1, c.definitions.invariant.1, ap length step.0),
    )

pub returns-clause-checked : goal.returns-clause-checked
returns-clause-checked c =
    let all = map defined_of c.args.all.items in
    let none : into_iter_items c.definitions.defined-iterator ≡ [] = nil_from_length _ (omega (arith, c.in-None.ensures.steps.0, c.definitions.invariant.1)) in
    (gathering_ends all c.definitions.second c.definitions.definitions.entries (subst (λ (ds : List DefinitionTree). Gathering all c.definitions.second c.definitions.definitions.entries ds) (ap (map defined_of) none) c.definitions.invariant.0)).0

pub returns-clause-names : goal.returns-clause-names
returns-clause-names c =
    let all = map defined_of c.args.all.items in
    let none : into_iter_items c.definitions.defined-iterator ≡ [] = nil_from_length _ (omega (arith, c.in-None.ensures.steps.0, c.definitions.invariant.1)) in
    (gathering_ends all c.definitions.second c.definitions.definitions.entries (subst (λ (ds : List DefinitionTree). Gathering all c.definitions.second c.definitions.definitions.entries ds) (ap (map defined_of) none) c.definitions.invariant.0)).1

pub returns-clause-kept : goal.returns-clause-kept
returns-clause-kept c =
    let all = map defined_of c.args.all.items in
    let none : into_iter_items c.definitions.defined-iterator ≡ [] = nil_from_length _ (omega (arith, c.in-None.ensures.steps.0, c.definitions.invariant.1)) in
    (gathering_ends all c.definitions.second c.definitions.definitions.entries (subst (λ (ds : List DefinitionTree). Gathering all c.definitions.second c.definitions.definitions.entries ds) (ap (map defined_of) none) c.definitions.invariant.0)).2
