use Rattle.std.proofs.Common.{◌≡◌, List}
use Rattle.core_semantics.specs.Applications.{setting_of}
use Rattle.core_semantics.specs.Ask.{request_of}
use Rattle.core_semantics.specs.Asked.{Answered}
use Rattle.core_semantics.specs.Evaluation.{before}
use Rattle.core_eval.specs.inside.Steps.{going}
use Rattle.core_eval.proofs.run.run.Given as goal

-- what is on top of the stack asks, after so many applications, what it asked at first
abbrev pub invariant-applications : goal.invariant-applications
invariant-applications l = (answers : List Answered) → request_of (going (setting_of l.program l.own) l.stack l.control (record { answers = answers; dictionary = l.dictionary; made = l._made })) ≡ request_of (going (setting_of l.program l.own) l.fn.stack l.fn.control (before l.fn.dictionary answers))
