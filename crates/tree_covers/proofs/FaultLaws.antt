-- A fault of a check is one of the bytes: they are no text of a good cover.
use Rattle.std.proofs.Common.{◌≡◌, ℕ, ◌+◌, Bool, true, false, true≢false, List, [], ◌∷◌, ◌++◌, map, Option, Some, None, refl, sym, ap, ◌∙◌, subst, arith, append-nil, length-append}
use Rattle.std.specs.Prelude.{option_and_then, Result, Ok, Err, IfErr}
use Rattle.term_core.proofs.ScheduleTexts.{schedule_injective}
use Rattle.term_core.specs.Schedule.{AreLawful}
use Rattle.term_core.specs.Text.{text_of_schedule}
use Rattle.term_core.specs.declared.step.Step.{Step}
use Rattle.core_tree.specs.Syntax.{ModuleTree}
use Rattle.world_model.specs.Asking.{program_of}
use Rattle.world_model.specs.Requests.{Program}
use Rattle.world_model.specs.Shown.{Identity}
use Rattle.tree_coverage.specs.Covers.{Lines, left_over, IsGoodCover, CoversShowNoError, ShowsNothing}
use Rattle.tree_covers.specs.CoverText.{lines_in, AreLawfulLines}
use Rattle.tree_covers.specs.Faults.{places_below, root_place, IsCoverText, StandsAt, IsSoAt, IsNoLine, IsJudged, IsFaultOf}
use Rattle.tree_covers.specs.Judging.{Place, judgement_of}
use Rattle.tree_covers.specs.inside.Lines.{IsLineFault}
use Rattle.tree_covers.specs.declared.fault.CoverFault.{CoverFault}
use Rattle.tree_covers.specs.declared.fault.CoverFault.TheVariants as faults
use Rattle.tree_covers.specs.declared.judging.Judgement.{Judgement}
use Rattle.tree_covers.specs.declared.judging.Judgement.TheVariants.{Good, Missing, Strange, ErrorFound}
use Rattle.tree_covers.proofs.PlaceLaws.{left_by_places, bad_line, no_line, one_more, all_good, good_leaves}

-- ---- lines that are spelt

-- the lines of a text are those that come before a place, and others
pub record GoesOn (lines before : Lines) (rest : List (List ℕ)) : Type 0 where
  pub more : Lines
  pub parts : lines ≡ before ++ more
  pub lawful : AreLawfulLines more
  pub spelt : map text_of_schedule more ≡ rest

pub goes_on : (lines before : Lines) (rest : List (List ℕ)) → AreLawfulLines lines → AreLawfulLines before → map text_of_schedule lines ≡ map text_of_schedule before ++ rest → GoesOn lines before rest
goes_on lines [] rest h k e = record { more = lines; parts = refl; lawful = h; spelt = e }
goes_on [] (line ∷ before) rest h k e = absurd cc
goes_on (line ∷ lines) (first ∷ before) rest h k e =
    let texts : text_of_schedule line ≡ text_of_schedule first = cc in
    let others : map text_of_schedule lines ≡ map text_of_schedule before ++ rest = cc in
    let same : line ≡ first = schedule_injective line first h.0 k.0 texts in
    let g = goes_on lines before rest h.1 k.1 others in
    record { more = g.more; parts = λ i. same i ∷ g.parts i; lawful = g.lawful; spelt = g.spelt }

pub lawful_join : (before : Lines) (line : List Step) → AreLawfulLines before → AreLawful line → AreLawfulLines (before ++ line ∷ [])
lawful_join [] line h k = (k, tt)
lawful_join (first ∷ before) line h k = (h.0, lawful_join before line h.1 k)

map_join : (before : Lines) (line : List Step) (rest : List (List ℕ)) → map text_of_schedule (before ++ line ∷ []) ++ rest ≡ map text_of_schedule before ++ text_of_schedule line ∷ rest
map_join [] line rest = refl
map_join (first ∷ before) line rest = ap (λ ls. text_of_schedule first ∷ ls) (map_join before line rest)

-- ---- a check on its way

module _ (counts : Identity → Bool) (a : Program) (n : ℕ) (bytes : List ℕ) where
  -- at the beginning the root is to come
  pub stands_first : StandsAt counts a n bytes 1 (root_place n ∷ []) (lines_in bytes)
  stands_first = record { before = []; lawful = tt; spelt = refl; counted = refl; good = refl }

  -- one good line more
  pub stands_next : (number : ℕ) (v : Place) (others : List Place) (line : List ℕ) (rest : List (List ℕ)) (steps : List Step) → StandsAt counts a n bytes number (v ∷ others) (line ∷ rest) → AreLawful steps → line ≡ text_of_schedule steps → judgement_of counts a v steps ≡ Good → StandsAt counts a n bytes (number + 1) (places_below a v steps ++ others) rest
  stands_next number v others line rest steps s lawful text good = record {
    before = s.before ++ steps ∷ [];
    lawful = lawful_join s.before steps s.lawful lawful;
    spelt = s.spelt ∙ ap (λ l. map text_of_schedule s.before ++ l ∷ rest) text ∙ sym (map_join s.before steps rest);
    counted = omega (arith, s.counted, length-append s.before (steps ∷ []));
    good = one_more counts a (root_place n ∷ []) others v s.before steps s.good good;
  }

  -- at the end the bytes are the text of a good cover
  pub stands_last : (number : ℕ) → StandsAt counts a n bytes number [] [] → IsCoverText counts a n bytes
  stands_last number s = record {
    lines = s.before;
    spells = record { lawful = s.lawful; spelt = s.spelt ∙ append-nil (map text_of_schedule s.before) };
    good = all_good counts a n s.before s.good;
  }

  pub no_error : CoversShowNoError → IsCoverText counts a n bytes → ShowsNothing counts a n
  no_error law c i error shown = absurd_error (counts i) error (law counts a n c.lines c.good shown.0 i shown.1 shown.2)
    where
      absurd_error : (b : Bool) → b ≡ true → b ≡ false → ⊥
      absurd_error b is is_not = absurd (true≢false (sym is ∙ is_not))

  -- ---- faults

  -- what the nodes that are to come leave of the other lines of a good cover: nothing
  left : (number : ℕ) (places : List Place) (rest : List (List ℕ)) → StandsAt counts a n bytes number places rest → IsCoverText counts a n bytes → (more : Lines) × AreLawfulLines more × (map text_of_schedule more ≡ rest) × (left_by_places counts a places more ≡ Some [])
  left number places rest s c =
      let g = goes_on c.lines s.before rest c.spells.lawful s.lawful (sym c.spells.spelt ∙ s.spelt) in
      (g.more, g.lawful, g.spelt, good_leaves counts a n s.before g.more places (subst (IsGoodCover counts a n) g.parts c.good) s.good)

  none_is : (let o : Option Lines = None in o) ≡ Some [] → ⊥
  none_is e = absurd cc

  -- a node without a line leaves nothing good
  wanting : (v : Place) (others : List Place) → left_by_places counts a (v ∷ others) [] ≡ Some [] → ⊥
  wanting v others e = none_is (sym (ap (option_and_then (left_by_places counts a others)) (no_line counts a v.left v.history v.slept)) ∙ e)

  refuse_short : (number : ℕ) (v : Place) (others : List Place) → StandsAt counts a n bytes number (v ∷ others) [] → IsCoverText counts a n bytes → ⊥
  refuse_short number v others s c = go (left number (v ∷ others) [] s c)
    where
      go : (more : Lines) × AreLawfulLines more × (map text_of_schedule more ≡ []) × (left_by_places counts a (v ∷ others) more ≡ Some []) → ⊥
      go l = at l.0 l.2 l.3
        where
          at : (more : Lines) → map text_of_schedule more ≡ [] → left_by_places counts a (v ∷ others) more ≡ Some [] → ⊥
          at [] e q = wanting v others q
          at (x ∷ more) e q = absurd cc

  refuse_long : (number : ℕ) (line : List ℕ) (rest : List (List ℕ)) → StandsAt counts a n bytes number [] (line ∷ rest) → IsCoverText counts a n bytes → ⊥
  refuse_long number line rest s c =
      let l = left number [] (line ∷ rest) s c in
      at l.0 l.2 l.3
    where
      at : (more : Lines) → map text_of_schedule more ≡ line ∷ rest → Some more ≡ Some [] → ⊥
      at [] e q = absurd cc
      at (x ∷ more) e q = absurd cc

  -- the line of a node of a good cover is good
  line_is_good : (number : ℕ) (v : Place) (others : List Place) (line : List ℕ) (rest : List (List ℕ)) → StandsAt counts a n bytes number (v ∷ others) (line ∷ rest) → IsCoverText counts a n bytes → (steps : List Step) × AreLawful steps × (line ≡ text_of_schedule steps) × ((judgement_of counts a v steps ≡ Good → ⊥) → ⊥)
  line_is_good number v others line rest s c =
      let l = left number (v ∷ others) (line ∷ rest) s c in
      at l.0 l.1 l.2 l.3
    where
      none : (o : Option Lines) → o ≡ None → option_and_then (left_by_places counts a others) o ≡ Some [] → ⊥
      none o e q = none_is (sym (ap (option_and_then (left_by_places counts a others)) e) ∙ q)

      at : (more : Lines) → AreLawfulLines more → map text_of_schedule more ≡ line ∷ rest → left_by_places counts a (v ∷ others) more ≡ Some [] → (steps : List Step) × AreLawful steps × (line ≡ text_of_schedule steps) × ((judgement_of counts a v steps ≡ Good → ⊥) → ⊥)
      at [] h e q = absurd cc
      at (steps ∷ more) h e q =
          (steps, h.0, (cc), λ bad. none (left_over counts a v.left v.history v.slept (steps ∷ more)) (bad_line counts a v steps more bad) q)

  refuse_no_line : (number : ℕ) → IsSoAt counts a n bytes number IsNoLine → IsCoverText counts a n bytes → ⊥
  refuse_no_line number s c =
      let l = line_is_good number s.place s.others s.line s.rest s.stands c in
      s.is_so l.0 l.1 l.2

  refuse_judged : (number : ℕ) (j : Judgement) → (j ≡ Good → ⊥) → IsSoAt counts a n bytes number (IsJudged counts a j) → IsCoverText counts a n bytes → ⊥
  refuse_judged number j bad s c =
      let l = line_is_good number s.place s.others s.line s.rest s.stands c in
      let same : s.is_so.steps ≡ l.0 = schedule_injective s.is_so.steps l.0 s.is_so.lawful l.1 (sym s.is_so.text ∙ l.2) in
      l.3 (λ good. bad (sym s.is_so.is ∙ ap (judgement_of counts a s.place) same ∙ good))

  -- so a good cover has no fault except lack of memory
  pub only_memory : (fault : CoverFault) → IsFaultOf counts a n bytes fault → IsCoverText counts a n bytes → fault ≡ faults.Memory
  only_memory (faults.Missing number) s c = absurd (refuse_judged number Missing (λ e. absurd cc) s c)
  only_memory (faults.Strange number) s c = absurd (refuse_judged number Strange (λ e. absurd cc) s c)
  only_memory (faults.Short number) s c = absurd (refuse_short number s.place s.others s.stands c)
  only_memory (faults.Long number) s c = absurd (refuse_long number s.line s.rest s.stands c)
  only_memory (faults.ErrorFound number) s c = absurd (refuse_judged number ErrorFound (λ e. absurd cc) s c)
  only_memory (faults.BadLine number) s c = absurd (refuse_no_line number s c)
  only_memory faults.Memory s c = refl

  pub accepted : {T : Type 0} (r : Result T CoverFault) → IfErr r (IsFaultOf counts a n bytes) → IsCoverText counts a n bytes → IfErr r (λ fault. fault ≡ faults.Memory)
  accepted (Ok done) f c = tt
  accepted (Err fault) f c = only_memory fault f c

-- ---- how a check ends

-- the nodes and the lines that are to come, said in another way
stands_as : (counts : Identity → Bool) (a : Program) (n : ℕ) (bytes : List ℕ) (number : ℕ) (places others : List Place) (lines rest : List (List ℕ)) → places ≡ others → lines ≡ rest → StandsAt counts a n bytes number places lines → StandsAt counts a n bytes number others rest
stands_as counts a n bytes number places others lines rest e f s =
    subst (λ (ls : List (List ℕ)). StandsAt counts a n bytes number others ls) f (subst (λ (vs : List Place). StandsAt counts a n bytes number vs lines) e s)

module _ (counts : Identity → Bool) (m : ModuleTree) (n : ℕ) (bytes : List ℕ) (number : ℕ) (places : List Place) (lines : List (List ℕ)) (stands : StandsAt counts (program_of m) n bytes number places lines) where
  pub is_long : (line : List ℕ) (rest : List (List ℕ)) → places ≡ [] → lines ≡ line ∷ rest → IsFaultOf counts (program_of m) n bytes (faults.Long number)
  is_long line rest none is = record { line = line; rest = rest; stands = stands_as counts (program_of m) n bytes number places [] lines (line ∷ rest) none is stands }

  pub is_short : (v : Place) (others : List Place) → places ≡ v ∷ others → lines ≡ [] → IsFaultOf counts (program_of m) n bytes (faults.Short number)
  is_short v others is none = record { place = v; others = others; stands = stands_as counts (program_of m) n bytes number places (v ∷ others) lines [] is none stands }

  pub is_good : places ≡ [] → lines ≡ [] → IsCoverText counts (program_of m) n bytes
  is_good none empty = stands_last counts (program_of m) n bytes number (stands_as counts (program_of m) n bytes number places [] lines [] none empty stands)

  -- at a line of a node
  module _ (k : ModuleTree) (v : Place) (others : List Place) (line : List ℕ) (rest : List (List ℕ)) (same : k ≡ m) (is_next : places ≡ v ∷ others) (is_first : lines ≡ line ∷ rest) where
    here : StandsAt counts (program_of m) n bytes number (v ∷ others) (line ∷ rest)
    here = stands_as counts (program_of m) n bytes number places (v ∷ others) lines (line ∷ rest) is_next is_first stands

    so_at : (IsSo : Place → List ℕ → Type 0) (at : ℕ) → at ≡ number → IsSo v line → IsSoAt counts (program_of m) n bytes at IsSo
    so_at IsSo at e so = record { place = v; others = others; line = line; rest = rest; stands = subst (λ (x : ℕ). StandsAt counts (program_of m) n bytes x (v ∷ others) (line ∷ rest)) (sym e) here; is_so = so }

    by_fault : (fault : CoverFault) → IsLineFault counts (program_of m) v line number fault → IsFaultOf counts (program_of m) n bytes fault
    by_fault (faults.Missing at) f = so_at (IsJudged counts (program_of m) Missing) at f.0 f.1
    by_fault (faults.Strange at) f = so_at (IsJudged counts (program_of m) Strange) at f.0 f.1
    by_fault (faults.Short at) f = absurd f
    by_fault (faults.Long at) f = absurd f
    by_fault (faults.ErrorFound at) f = so_at (IsJudged counts (program_of m) ErrorFound) at f.0 f.1
    by_fault (faults.BadLine at) f = so_at IsNoLine at f.0 f.1
    by_fault faults.Memory f = tt

    pub line_fault : (fault : CoverFault) → IsLineFault counts (program_of k) v line number fault → IsFaultOf counts (program_of m) n bytes fault
    line_fault fault f = by_fault fault (subst (λ (x : ModuleTree). IsLineFault counts (program_of x) v line number fault) same f)

    pub goes_on_below : (steps : List Step) (next : List Place) → AreLawful steps → line ≡ text_of_schedule steps → judgement_of counts (program_of k) v steps ≡ Good → next ≡ places_below (program_of k) v steps ++ others → StandsAt counts (program_of m) n bytes (number + 1) next rest
    goes_on_below steps next lawful text good now =
        subst (λ (vs : List Place). StandsAt counts (program_of m) n bytes (number + 1) vs rest)
        (sym (now ∙ ap (λ (x : ModuleTree). places_below (program_of x) v steps ++ others) same))
        (stands_next counts (program_of m) n bytes number v others line rest steps here lawful text (subst (λ (x : ModuleTree). judgement_of counts (program_of x) v steps ≡ Good) same good))

-- what a fault refuses is no good cover
pub refused_by : {T : Type 0} (counts : Identity → Bool) (a : Program) (n : ℕ) (bytes : List ℕ) (r : Result T CoverFault) (fault : CoverFault) → r ≡ Err fault → IsFaultOf counts a n bytes fault → IsCoverText counts a n bytes → IfErr r (λ f. f ≡ faults.Memory)
refused_by counts a n bytes r fault e f c = accepted counts a n bytes r (subst (λ (x : Result _ CoverFault). IfErr x (IsFaultOf counts a n bytes)) (sym e) f) c
