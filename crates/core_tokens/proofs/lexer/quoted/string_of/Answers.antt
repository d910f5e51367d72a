use Rattle.std.proofs.Common.{arith}
use Rattle.std.proofs.lemmas.Grind.{common_steps}
use Rattle.core_tokens.proofs.Characters.{encode_more}
use Rattle.core_tokens.proofs.lexer.quoted.string_of.Goals as goal

pub loop-c-preserved : goal.loop-c-preserved
loop-c-preserved c = grind (arith, common_steps, encode_more c.args.characters.now c.loop-c.c-index c.c-item.result (omega arith))
