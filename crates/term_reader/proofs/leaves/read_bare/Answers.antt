use Rattle.term_reader.proofs.LeafReads.{reads_word, no_word}
use Rattle.term_reader.proofs.leaves.read_bare.Goals as goal

pub returns-in-Some : goal.returns-in-Some
returns-in-Some c =
    let r = rw (c.in-Some.is, c.split_word.ensures.front) at c.in_ok-term.ensures in
    rw c.split_word.ensures.rest (reads_word c.args.text.now _ c.requires r.0 r.1 r.2)

pub returns-in-None : goal.returns-in-None
returns-in-None c =
    let r = rw (c.in-None.is, c.split_word.ensures.front) at c.in_ok-term.ensures in
    no_word c.args.text.now c.requires r
