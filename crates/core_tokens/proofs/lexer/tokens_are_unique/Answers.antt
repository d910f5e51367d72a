use Rattle.core_tokens.proofs.SoFar.{only_tokens}
use Rattle.core_tokens.proofs.lexer.tokens_are_unique.Goals as goal

pub returns : goal.returns
returns c = only_tokens
