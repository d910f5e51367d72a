use Rattle.std.proofs.Common.{arith}
use Rattle.term_core.specs.Term.{meaning_of}
use Rattle.term_core.specs.TermText.{text_of_term}
use Rattle.term_reader.proofs.LeafReads.{leaf_shortens}
use Rattle.term_reader.proofs.Marks.{bad_begins, leaf_begins, leaf_goes, leaf_steps, no_leaf_begins}
use Rattle.term_reader.proofs.brackets.begin_leaf.Goals as goal

pub returns-in-Read : goal.returns-in-Read
returns-in-Read c =
    let r = rw c.in-Read.is at c.in_ok-term.ensures in
    record {
      read = text_of_term (meaning_of c.in-Read.term);
      parts = r.parts;
      less = leaf_shortens _ _ _ r;
      same = leaf_goes _ _ _ _ r;
      wider = λ left m like k. leaf_steps _ _ _ _ r left m k;
      back = λ left m alike b. (leaf_begins _ _ _ _ r left alike).to m b;
    }

pub returns-in-Bad : goal.returns-in-Bad
returns-in-Bad c =
    let r = rw c.in-Bad.is at c.in_ok-term.ensures in
    bad_begins _ _ _ _ (omega arith) (no_leaf_begins _ c.args.rest.now c.requires.no_tuple c.requires.no_list r)
