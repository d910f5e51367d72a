use Rattle.std.proofs.Common.{◌≡◌, Some, None, rules}
use Rattle.world_model.specs.Guards.{Alias, unwatched}
use Rattle.world_model.specs.Names.{ref_of}
use Rattle.world_model.specs.declared.alias.AliasEnd.TheVariants.{ByUnalias}
use Rattle.proc_links.specs.Guards.{guard_in, guard_of}
use Rattle.proc_links.proofs.Guarding.{unwatched_by}
use Rattle.proc_links.proofs.guards.Guards.unwatch.Goals as goal

pub returns-in_ok-clear-in-Some-Alias-default-WithWatch : goal.returns-in_ok-clear-in-Some-Alias-default-WithWatch
returns-in_ok-clear-in-Some-Alias-default-WithWatch c =
    let old = c.args.self.now in
    let u = ref_of c.args.reference.now in
    let g = guard_of c.in-Some-Alias-default-WithWatch.field-0.now in
    let is : guard_in old u ≡ Some g = search rules in
    let ends : unwatched g ≡ None = search rules in
    record { ok = unwatched_by None old c.clear.new.self u g is ends c.in_ok-clear-in-Some-Alias-default-WithWatch.ensures.ok; err = tt }

pub returns-in_ok-clear-in-Some-NamedWatch-clause-ok : goal.returns-in_ok-clear-in-Some-NamedWatch-clause-ok
returns-in_ok-clear-in-Some-NamedWatch-clause-ok c =
    let old = c.args.self.now in
    let u = ref_of c.args.reference.now in
    let g = guard_of c.in-Some-NamedWatch.field-0.now in
    let is : guard_in old u ≡ Some g = search rules in
    let ends : unwatched g ≡ None = search rules in
    unwatched_by None old c.clear-in-Some-NamedWatch.new.self u g is ends c.in_ok-clear-in-Some-NamedWatch.ensures.ok

pub returns-in_ok-clear-in-Some-NamedAlias-default-default-WithWatch : goal.returns-in_ok-clear-in-Some-NamedAlias-default-default-WithWatch
returns-in_ok-clear-in-Some-NamedAlias-default-default-WithWatch c =
    let old = c.args.self.now in
    let u = ref_of c.args.reference.now in
    let g = guard_of c.in-Some-NamedAlias-default-default-WithWatch.field-0.now in
    let is : guard_in old u ≡ Some g = search rules in
    let ends : unwatched g ≡ None = search rules in
    record { ok = unwatched_by None old c.clear-in-Some-NamedAlias-default-default-WithWatch.new.self u g is ends c.in_ok-clear-in-Some-NamedAlias-default-default-WithWatch.ensures.ok; err = tt }

pub returns-in_ok-set-in-Some-NamedAlias-default-default-ByUnalias-clause-ok : goal.returns-in_ok-set-in-Some-NamedAlias-default-default-ByUnalias-clause-ok
returns-in_ok-set-in-Some-NamedAlias-default-default-ByUnalias-clause-ok c =
    let old = c.args.self.now in
    let u = ref_of c.args.reference.now in
    let g = guard_of c.in-Some-NamedAlias-default-default-ByUnalias.field-0.now in
    let kept = Alias c.in_ok-copy-in-Some-NamedAlias-default-default-ByUnalias.field-0 ByUnalias in
    let is : guard_in old u ≡ Some g = search rules in
    let ends : unwatched g ≡ Some kept = search rules in
    unwatched_by (Some kept) old c.set.new.self u g is ends c.in_ok-set-in-Some-NamedAlias-default-default-ByUnalias.ensures.ok
