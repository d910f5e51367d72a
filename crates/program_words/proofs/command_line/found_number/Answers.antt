use Rattle.std.specs.Str.Parse.{ExplainsUnsignedError, HasUnsignedDigitsIfOk, ParsesUnsigned}
use Rattle.clap.specs.Words.{found_of}
use Rattle.program_words.proofs.Found.{number_of}
use Rattle.program_words.proofs.command_line.found_number.Goals as goal

pub returns : goal.returns
returns c =
    number_of _ (λ text r. ParsesUnsigned 64 10 text r × ExplainsUnsignedError 10 text r × HasUnsignedDigitsIfOk text r) (found_of c.args.matches.now) c.args.id.now c.get_one.result
    c.get_one.ensures.none c.get_one.ensures.value (λ text x gives. gives.0)
