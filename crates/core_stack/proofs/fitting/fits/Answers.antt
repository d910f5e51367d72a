use Rattle.std.proofs.Common.{◌∙◌, sym}
use Rattle.core_tree.specs.Tree.{pattern_of}
use Rattle.term_core.specs.Term.{meaning_of}
use Rattle.core_stack.proofs.Fitted.{matches_where_fits}
use Rattle.core_stack.proofs.fitting.fits.Goals as goal

pub returns : goal.returns
returns c = λ before. matches_where_fits (pattern_of c.args.pattern.now) (meaning_of c.args.value.now) before ∙ sym c.value_fits.ensures
