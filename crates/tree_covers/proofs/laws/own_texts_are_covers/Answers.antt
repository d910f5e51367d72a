use Rattle.tree_covers.proofs.OwnLaws.{own_texts}
use Rattle.tree_covers.proofs.laws.own_texts_are_covers.Goals as goal

pub returns : goal.returns
returns c = own_texts
