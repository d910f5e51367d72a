-- How the records of reading expressions are seen, and two forms that are decoded.
use Rattle.std.specs.Prelude.{ℕ, List, map}
use Rattle.core_tokens.specs.Piece as lexemes
use Rattle.core_tokens.specs.Piece.{Piece}
use Rattle.core_tokens.specs.declared.token.Mark.{Mark}
use Rattle.core_tree.specs.Syntax.{Mention, Tree}
use Rattle.core_tree.specs.Tree.{tree_of, pattern_of}
use Rattle.core_parser.specs.inside.ParserView.{state_of}
use Rattle.core_grammar.specs.declared.subject.Subject.{Subject}
use Rattle.core_grammar.specs.inside.Decoder.{Read, State, constant_at, in_note_at, place_of}
use Rattle.core_grammar.specs.inside.DecoderForms.{Start, OnePattern, ManyPatterns, WholeClause, expression_at, form_by, inside_start_at, start_at}
use Rattle.core_expressions.specs.declared.clauses.Start.{Start as Begun}
use Rattle.core_expressions.specs.declared.clauses.Start.TheVariants as starts
use Rattle.core_expressions.specs.declared.expressions.Branch.{Branch}
use Rattle.core_expressions.specs.declared.form_reader.FormReader.{FormReader}

-- what is left to read
abbrev pub state_in : FormReader → State
state_in r = state_of r.parser

-- the variables of a part of a `try`, and what is evaluated there
abbrev pub branch_of : Branch → List Mention × Tree
branch_of b = (b.variables.items, tree_of b.body)

-- what a clause begins with
abbrev pub start_of : Begun → Start
start_of (starts.One q) = OnePattern (pattern_of q)
start_of (starts.Many qs) = ManyPatterns (map pattern_of qs.items)
start_of (starts.Whole c) = WholeClause c

-- an expression that begins with this mark, and these pieces after it
abbrev pub mark_form_at : List ℕ → ℕ → Mark → List Piece → State → Read Tree
mark_form_at own levels mark rest s = form_by own levels (expression_at own levels) (start_at own levels) (place_of s.stop s.pieces) (lexemes.Mark mark) rest s

-- what a clause begins with, in the parentheses of an annotation
abbrev pub start_in_note_at : List ℕ → ℕ → Subject → State → Read Start
start_in_note_at own levels subject s = in_note_at (constant_at levels) (inside_start_at own levels (expression_at own levels) (start_at own levels subject)) s
