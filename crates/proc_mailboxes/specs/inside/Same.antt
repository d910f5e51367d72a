-- Which messages are the same as one.
use Rattle.std.specs.Prelude.{Bool}
use Rattle.term_core.specs.Meaning.{Meaning}
use Rattle.term_core.specs.Term.{meaning_of}
use Rattle.world_model.specs.Names.{same_term}
use Rattle.proc_mailboxes.specs.declared.same.Same.{Same}

abbrev pub takes_same : Same → Meaning → Bool
takes_same same m = same_term (meaning_of same.message.now) m
