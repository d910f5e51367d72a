use Rattle.std.proofs.Common.{◌≡◌, rules, sym, ◌∙◌, ap}
use Rattle.term_core.specs.Meaning as terms
use Rattle.term_reader.proofs.LeafReads.{reads_atom_as, no_text, no_atom}
use Rattle.term_reader.proofs.leaves.read_atom.Goals as goal

pub returns-in-Ok : goal.returns-in-Ok
returns-in-Ok c =
    let r = rw c.in-Read.is at c.in_ok-bytes.ensures in
    let e : c.as_slice.result.now ≡ c.in-Read.bytes.items = search rules in
    reads_atom_as _ _ _ _ _ r (sym e) c.in-Ok.ensures.cases.1 (c.in_ok-atom-in-Ok.ensures ∙ ap terms.Atom c.in-Ok.ensures.cases.0)

pub returns-in-Read : goal.returns-in-Read
returns-in-Read c =
    let r = rw c.in-Read.is at c.in_ok-bytes.ensures in
    let e : c.as_slice.result.now ≡ c.in-Read.bytes.items = search rules in
    no_text _ _ _ r (rw e at c.in-Err.ensures.cases.0)

pub returns : goal.returns
returns c = no_atom c.args.inside.now (rw c.in-Bad.is at c.in_ok-bytes.ensures)
