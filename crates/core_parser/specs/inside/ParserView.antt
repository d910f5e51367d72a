-- What a parser has left to read.
use Rattle.core_parser.specs.declared.parser.Parser.{Parser}
use Rattle.core_tokens.specs.Piece.{pieces}
use Rattle.core_grammar.specs.inside.Decoder.{State}

abbrev pub state_of : Parser → State
state_of p = record { pieces = pieces p.tokens.now; refused = p.refused; stop = p.length }
