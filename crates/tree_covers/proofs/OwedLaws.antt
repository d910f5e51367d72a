-- A cover on its way: what is still to be written.
use Rattle.std.proofs.Common.{◌≡◌, ◌<◌, ℕ, Bool, false, List, [], ◌∷◌, ◌++◌, length, Option, refl, sym, ap, ◌∙◌, subst, arith}
use Rattle.std.specs.Prelude.{Result, Err}
use Rattle.std.specs.Io.KnownBytes.{Appends}
use Rattle.term_core.specs.Stream.{BreaksOff, WritesAll}
use Rattle.term_core.specs.Text.{text_of_schedule}
use Rattle.term_core.specs.inside.Writing.{Owes, appends_none, begins_first, owes_all, owes_break_in, owes_less, owes_same}
use Rattle.term_core.specs.declared.step.Step.{Step}
use Rattle.world_model.specs.Requests.{Program}
use Rattle.tree_coverage.specs.Covers.{cover_of, lines_of}
use Rattle.tree_coverage.specs.Jobs.{root, taken_steps}
use Rattle.tree_covers.specs.CoverText.{text_of_lines}
use Rattle.tree_covers.specs.Faults.{places_below, root_place}
use Rattle.tree_covers.specs.Judging.{Place}
use Rattle.tree_covers.specs.Writing.{IsWritten}
use Rattle.tree_covers.specs.declared.fault.WriteCoverFault.{WriteCoverFault}
use Rattle.tree_covers.specs.declared.fault.WriteCoverFault.TheVariants.{Memory, Write}
use Rattle.tree_covers.specs.inside.Owned.{own_lines_of}
use Rattle.tree_covers.proofs.OwnLaws.{own_next, own_root}

pub first_broken : (front rest : List ℕ) (old new : Option (List ℕ)) (failed : Bool) (r : Result (Unit {0}) WriteCoverFault) → r ≡ Err Write → BreaksOff old new failed front → IsWritten (front ++ rest) old new failed r
first_broken front rest old new failed r e b =
    subst (λ (x : Result (Unit {0}) WriteCoverFault). IsWritten (front ++ rest) old new failed x) (sym e) (record { beginning = begins_first old new front rest b.beginning; fault = b.fault })

pub wants_memory : (text rest : List ℕ) (start now : Option (List ℕ)) (failed : Bool) (r : Result (Unit {0}) WriteCoverFault) → r ≡ Err Memory → failed ≡ false → Owes start now rest text → IsWritten text start now failed r
wants_memory text rest start now failed r e sound o =
    subst (λ (x : Result (Unit {0}) WriteCoverFault). IsWritten text start now failed x) (sym e) ((sound, o.breaks now (record { written = []; unwritten = rest; parts = refl; appends = appends_none now })))

module _ (a : Program) where
  -- the line of the next node, and then the others
  next_owed : (ahead places : List Place) (v : Place) (start now : Option (List ℕ)) (text : List ℕ) → ahead ≡ v ∷ places → Owes start now (text_of_lines (own_lines_of a ahead)) text
      → Owes start now ((text_of_schedule (taken_steps a v.left v.history v.slept) ++ 10 ∷ []) ++ text_of_lines (own_lines_of a (places_below a v (taken_steps a v.left v.history v.slept) ++ places))) text
  next_owed ahead places v start now text is o =
      owes_same start now (text_of_lines (own_lines_of a ahead)) _ text (ap (λ vs. text_of_lines (own_lines_of a vs)) is ∙ ap text_of_lines (own_next a v places)) o

  -- it was written
  pub line_written : (ahead places next : List Place) (v : Place) (line : List Step) (start now new : Option (List ℕ)) (failed : Bool) (text : List ℕ) → ahead ≡ v ∷ places → line ≡ taken_steps a v.left v.history v.slept → next ≡ places_below a v line ++ places
      → Owes start now (text_of_lines (own_lines_of a ahead)) text → WritesAll now new failed (text_of_schedule line ++ 10 ∷ []) → Owes start new (text_of_lines (own_lines_of a next)) text
  line_written ahead places next v line start now new failed text is taken below o w =
      let whole = next_owed ahead places v start now text is o in
      let piece : Appends now new (text_of_schedule (taken_steps a v.left v.history v.slept) ++ 10 ∷ []) = subst (λ (l : List Step). Appends now new (text_of_schedule l ++ 10 ∷ [])) taken w.appends in
      owes_same start new _ (text_of_lines (own_lines_of a next)) text (ap (λ vs. text_of_lines (own_lines_of a vs)) (ap (λ l. places_below a v l ++ places) (sym taken) ∙ sym below))
      (owes_less start now new (text_of_schedule (taken_steps a v.left v.history v.slept) ++ 10 ∷ []) (text_of_lines (own_lines_of a (places_below a v (taken_steps a v.left v.history v.slept) ++ places))) text whole piece)

  -- or broke off
  pub line_broken : (ahead places : List Place) (v : Place) (line : List Step) (start now new : Option (List ℕ)) (failed : Bool) (text : List ℕ) (r : Result (Unit {0}) WriteCoverFault) → r ≡ Err Write → ahead ≡ v ∷ places → line ≡ taken_steps a v.left v.history v.slept
      → Owes start now (text_of_lines (own_lines_of a ahead)) text → BreaksOff now new failed (text_of_schedule line ++ 10 ∷ []) → IsWritten text start new failed r
  line_broken ahead places v line start now new failed text r e is taken o b =
      let whole = next_owed ahead places v start now text is o in
      let part : BreaksOff now new failed (text_of_schedule (taken_steps a v.left v.history v.slept) ++ 10 ∷ []) = subst (λ (l : List Step). BreaksOff now new failed (text_of_schedule l ++ 10 ∷ [])) taken b in
      subst (λ (x : Result (Unit {0}) WriteCoverFault). IsWritten text start new failed x) (sym e)
      (owes_break_in start now new failed (text_of_schedule (taken_steps a v.left v.history v.slept) ++ 10 ∷ []) (text_of_lines (own_lines_of a (places_below a v (taken_steps a v.left v.history v.slept) ++ places))) text whole part)

  -- with each line there are fewer
  pub fewer : (ahead places next : List Place) (v : Place) (line : List Step) → ahead ≡ v ∷ places → line ≡ taken_steps a v.left v.history v.slept → next ≡ places_below a v line ++ places → length (own_lines_of a next) < length (own_lines_of a ahead)
  fewer ahead places next v line is taken below =
      let one : length (own_lines_of a ahead) ≡ length (taken_steps a v.left v.history v.slept ∷ own_lines_of a (places_below a v (taken_steps a v.left v.history v.slept) ++ places)) = ap (λ vs. length (own_lines_of a vs)) is ∙ ap length (own_next a v places) in
      let other : length (own_lines_of a next) ≡ length (own_lines_of a (places_below a v (taken_steps a v.left v.history v.slept) ++ places)) = ap (λ vs. length (own_lines_of a vs)) (below ∙ ap (λ l. places_below a v l ++ places) taken) in
      omega (arith, one, other)

  -- after the mark all lines are still to be written
  pub lines_owed : (n : ℕ) (ahead : List Place) (start now : Option (List ℕ)) (front : List ℕ) → ahead ≡ root_place n ∷ [] → Appends start now front → Owes start now (text_of_lines (own_lines_of a ahead)) (front ++ text_of_lines (lines_of (cover_of a n root)))
  lines_owed n ahead start now front is appends =
      owes_same start now (text_of_lines (lines_of (cover_of a n root))) (text_of_lines (own_lines_of a ahead)) _ (ap text_of_lines (sym (own_root a n)) ∙ ap (λ vs. text_of_lines (own_lines_of a vs)) (sym is))
      (owes_less start start now front (text_of_lines (lines_of (cover_of a n root))) (front ++ text_of_lines (lines_of (cover_of a n root))) (owes_all start (front ++ text_of_lines (lines_of (cover_of a n root)))) appends)
