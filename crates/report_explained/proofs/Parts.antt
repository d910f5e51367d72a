-- An explained text that is written in parts: what becomes of it where a part is not written to its end.
use Rattle.std.proofs.Common.{◌≡◌, ℕ, Bool, false, List, [], ◌++◌, Option, refl, sym, subst}
use Rattle.std.specs.Prelude.{Result, Err}
use Rattle.term_core.specs.inside.Writing.{Owes, appends_none, begins_first, owes_break}
use Rattle.report_explained.specs.Explained.{IsExplained}
use Rattle.report_explained.specs.declared.explain_fault.ExplainFault.{ExplainFault}
use Rattle.report_explained.specs.declared.explain_fault.ExplainFault.TheVariants.{Memory, Write}

-- memory ran out between two parts
pub wants_memory : (start now : Option (List ℕ)) (failed : Bool) (rest whole : List ℕ) → failed ≡ false → Owes start now rest whole → IsExplained whole start now failed (Err Memory)
wants_memory start now failed rest whole sound o =
    (sound, o.breaks now (record { written = []; unwritten = rest; parts = refl; appends = appends_none now }))

rest_fails : (start now new : Option (List ℕ)) (failed : Bool) (fault : ExplainFault) (rest whole : List ℕ) → Owes start now rest whole → IsExplained rest now new failed (Err fault) → IsExplained whole start new failed (Err fault)
rest_fails start now new failed Memory rest whole o w = (w.0, o.breaks new w.1)
rest_fails start now new failed Write rest whole o w = owes_break start now new failed rest whole o w

fails_within : (now new : Option (List ℕ)) (failed : Bool) (fault : ExplainFault) (part rest : List ℕ) → IsExplained part now new failed (Err fault) → IsExplained (part ++ rest) now new failed (Err fault)
fails_within now new failed Memory part rest w = (w.0, begins_first now new part rest w.1)
fails_within now new failed Write part rest w = record { beginning = begins_first now new part rest w.beginning; fault = w.fault }

-- the last part was not written to its end; one that takes no memory broke off
pub last_fails : (start now new : Option (List ℕ)) (failed : Bool) (r : Result (Unit {0}) ExplainFault) (fault : ExplainFault) (rest whole : List ℕ) → r ≡ Err fault → Owes start now rest whole → IsExplained rest now new failed (Err fault) → IsExplained whole start new failed r
last_fails start now new failed r fault rest whole is o w =
    subst (λ (x : Result (Unit {0}) ExplainFault). IsExplained whole start new failed x) (sym is) (rest_fails start now new failed fault rest whole o w)

-- another part was not
pub part_fails : (start now new : Option (List ℕ)) (failed : Bool) (r : Result (Unit {0}) ExplainFault) (fault : ExplainFault) (part rest whole : List ℕ) → r ≡ Err fault → Owes start now (part ++ rest) whole → IsExplained part now new failed (Err fault) → IsExplained whole start new failed r
part_fails start now new failed r fault part rest whole is o w =
    last_fails start now new failed r fault (part ++ rest) whole is o (fails_within now new failed fault part rest w)
