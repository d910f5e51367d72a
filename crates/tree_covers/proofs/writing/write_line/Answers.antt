use Rattle.term_core.specs.inside.Writing.{owes_all, owes_less, writes_last}
use Rattle.tree_covers.proofs.writing.write_line.Goals as goal

pub returns : goal.returns
returns g c =
    let o1 = owes_less _ _ _ _ _ _ (owes_all _ _) c.in_ok-write_schedule.ensures.appends in
    writes_last _ _ _ _ _ _ _ o1 c.write_all.ensures
