-- The words with which errors are listed.
use Rattle.std.specs.Prelude.{ℕ, List, codes}
use Rattle.tree_excuses.specs.declared.standing.Standing.{Standing}
use Rattle.tree_excuses.specs.declared.standing.Standing.TheVariants.{Counts, Normal}

-- the word of an error with this standing
abbrev pub word_of : Standing → List ℕ
word_of Counts = codes "error"
word_of Normal = codes "normal"
