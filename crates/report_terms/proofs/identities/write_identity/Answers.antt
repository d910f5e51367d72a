use Rattle.std.proofs.Common.{◌++◌, List, codes, subst, sym}
use Rattle.term_core.specs.Meaning.{Meaning}
use Rattle.world_identities.specs.Identities.{identity_in}
use Rattle.world_identities.specs.declared.identity.Identity.{Identity}
use Rattle.world_model.specs.Names.{Pid}
use Rattle.report_explained.specs.Explained.{IsExplained}
use Rattle.report_terms.specs.Strings.{strings_of_pids}
use Rattle.report_terms.specs.IdentityTerms.{identity_as_term, refused_call_as_term}
use Rattle.report_terms.proofs.identities.write_identity.Goals as goal

pub returns-in-Deadlock : goal.returns-in-Deadlock
returns-in-Deadlock g c =
    subst (λ (i : Identity). IsExplained (identity_as_term (identity_in i)) (g.W.Sink.contents c.args.sink.now) (g.W.Sink.contents c.write_processes.new.sink) (g.W.Sink.has_failed c.write_processes.new.sink) c.write_processes.result) (sym c.in-Deadlock.is)
    (subst (λ (ps : List Pid). IsExplained (codes "{deadlock,[" ++ (strings_of_pids ps ++ codes "]}")) (g.W.Sink.contents c.args.sink.now) (g.W.Sink.contents c.write_processes.new.sink) (g.W.Sink.has_failed c.write_processes.new.sink) c.write_processes.result) c.deref.ensures.value
    c.write_processes.ensures)

pub returns-in-Runaway : goal.returns-in-Runaway
returns-in-Runaway g c =
    subst (λ (i : Identity). IsExplained (identity_as_term (identity_in i)) (g.W.Sink.contents c.args.sink.now) (g.W.Sink.contents c.write_runaway.new.sink) (g.W.Sink.has_failed c.write_runaway.new.sink) c.write_runaway.result) (sym c.in-Runaway.is)
    c.write_runaway.ensures

pub returns-in-Refusal : goal.returns-in-Refusal
returns-in-Refusal g c =
    subst (λ (i : Identity). IsExplained (identity_as_term (identity_in i)) (g.W.Sink.contents c.args.sink.now) (g.W.Sink.contents c.write_refused_call.new.sink) (g.W.Sink.has_failed c.write_refused_call.new.sink) c.write_refused_call.result) (sym c.in-Refusal.is)
    (subst (λ (xs : List Meaning). IsExplained (refused_call_as_term c.in-Refusal.pid c.in-Refusal.request c.in-Refusal.kind xs c.in-Refusal.rule c.in-Refusal.owner) (g.W.Sink.contents c.args.sink.now) (g.W.Sink.contents c.write_refused_call.new.sink) (g.W.Sink.has_failed c.write_refused_call.new.sink) c.write_refused_call.result) c.deref-in-Refusal.ensures
    c.write_refused_call.ensures)
