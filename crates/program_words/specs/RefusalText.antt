-- What is said of words that a command line refuses and its parser does not, as bytes.
use Rattle.std.specs.Fmt.{decimal}
use Rattle.std.specs.Prelude.{ℕ, List, [], ◌++◌, codes}
use Rattle.term_reader.specs.declared.fault.TermFault.{TermFault}
use Rattle.term_reader.specs.declared.fault.TermFault.TheVariants.{BadTerm, TooDeep, Memory}

-- of a text of `--normal` that is that of no term, or of one that is too high; of want of memory nothing is said
abbrev pub text_of_no_term : List ℕ → TermFault → List ℕ
text_of_no_term text (BadTerm at) = codes "'" ++ (text ++ (codes "' is no term: see its byte " ++ decimal at))
text_of_no_term text (TooDeep at) = codes "'" ++ (text ++ (codes "' has more than 10000 nodes: see its byte " ++ decimal at))
text_of_no_term text Memory = []

-- of jobs at this place in a tree that is not so many steps deep
abbrev pub text_of_too_deep : ℕ → ℕ → List ℕ
text_of_too_deep place steps = codes "invalid value '" ++ (decimal place ++ (codes "' for '--at <D>': " ++ (decimal place ++ (codes " is not in 0..=" ++ decimal steps))))
