use Rattle.std.proofs.Common.{◌++◌, map, ap, ◌∙◌}
use Rattle.std.proofs.lemmas.List.{map-append}
use Rattle.term_core.specs.Term.{meaning_of}
use Rattle.world_model.specs.Events.{LinkExit, Down}
use Rattle.world_model.specs.Names.{ref_of}
use Rattle.proc_links.specs.Put.{put_of}
use Rattle.proc_links.proofs.Telling.{puts_joined}
use Rattle.proc_links.proofs.signal.on_end.Goals as goal

pub returns : goal.returns
returns g c = λ v links watches alive.
    let reason = meaning_of c.args.reason.now in
    let first = c.in_ok-told.ensures ∙ ap (map (λ q. (q, LinkExit reason))) c.as_slice.ensures.value in
    let later = c.in_ok-later.ensures ∙ ap (λ ids. map (λ ref. (ref.pid, Down ref reason)) (map ref_of ids)) c.as_slice-2.ensures.value in
    puts_joined c.args.pid.now reason c.in_ok-partners.partners.items (map ref_of c.in_ok-references.references.items) _ _ _
    (ap (map put_of) c.in_ok-append.ensures.items ∙ map-append put_of _ _ ∙ ap (λ xs. xs ++ map put_of c.in_ok-later.later.items) first ∙ ap (λ ys. map (λ q. (q, LinkExit reason)) c.in_ok-partners.partners.items ++ ys) later)
    (c.in_ok-partners.ensures.cells v reason links alive)
    (c.in_ok-references.ensures.cells v reason watches alive)
