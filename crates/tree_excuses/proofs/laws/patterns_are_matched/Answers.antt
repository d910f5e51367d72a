use Rattle.tree_excuses.proofs.PatternLaws.{any_matches, itself_matches, plain_matches}
use Rattle.tree_excuses.proofs.laws.patterns_are_matched.Goals as goal

pub returns-clause-any : goal.returns-clause-any
returns-clause-any c = any_matches

pub returns-clause-plain : goal.returns-clause-plain
returns-clause-plain c = plain_matches

pub returns-clause-itself : goal.returns-clause-itself
returns-clause-itself c = itself_matches
