use Rattle.std.proofs.Common.{arith, length, ap}
use Rattle.core_tree.specs.Tree.{pattern_of}
use Rattle.term_core.specs.Term.{meaning_of}
use Rattle.std.proofs.lemmas.List.{length-map}
use Rattle.core_eval.proofs.Fitting.{two_match_none}
use Rattle.core_eval.proofs.selection.fits_alone.Goals as goal

pub returns-in_default-2 : goal.returns-in_default-2
returns-in_default-2 c =
    two_match_none c.args.patterns.now (meaning_of c.args.message.now)
    (omega (arith, c.in_default.len_at_least, c.as_slice.ensures.len, ap length c.patterns.view_is, length-map c.patterns.inside.0.items pattern_of))
