-- Contents that are those of one world at the places that are covered, and those of another world at all others.
use Rattle.std.proofs.Common.{◌≡◌, ◌∙◌, ◌⊎◌, inl, inr, ◌+◌, ◌∷◌, [], if◌then◌else◌, Bool, true, false, IsSome, List, None, Some, drop, is_some, refl, sym, ap, subst}
use Rattle.core_tree.specs.Syntax.{ModuleTree}
use Rattle.proc_machines.specs.Processes.{lives_in, standing_in, turns_in}
use Rattle.term_core.specs.declared.step.Step.{Step}
use Rattle.term_core.specs.declared.step.Step.TheVariants.{Turn, Deliver}
use Rattle.world_model.specs.Cells as cells
use Rattle.world_model.specs.Cells.{Cell, Contents}
use Rattle.world_model.specs.Frames.{AgreeOn, SeesFirst}
use Rattle.world_model.specs.Mailboxes.{left_of, selected_of}
use Rattle.world_model.specs.Names.{IsAmong, Name, Pid, Ref}
use Rattle.world_model.specs.ProcessLines.{next_ref, ref_of_turn}
use Rattle.world_model.specs.Requests.{Program}
use Rattle.world_model.specs.Signals.{first_of}
use Rattle.world_model.specs.Steps.{reads}
use Rattle.world_footprints.specs.Plans.{IsNewFor}
use Rattle.world_planned.specs.Replies.{NamesMeanTables}
use Rattle.world_records.specs.Places.{AgreesAt, place_of}
use Rattle.world_records.specs.declared.place.Place.{Place}
use Rattle.world_records.specs.declared.place.Place.TheVariants.{Course, Inbox, Tables}
use Rattle.world_records.specs.declared.records.Records.{Records}
use Rattle.search_numbers.specs.Local.{HasAll}
use Rattle.search_numbers.proofs.Seen.{SeesTheSame, seen_at, seen_in}

-- those of v where covered, and else those of w
abbrev pub mixed : (Place → Bool) → Contents → Contents → Contents
mixed covers v w c = if covers (place_of c) then v c else w c

-- what is kept of the places of two contents is the same at those that are covered
pub record Share (m : ModuleTree) (covers : Place → Bool) (at_first at : Place → Records) (w v : Contents) : Type 0 where
  pub first : HasAll m at_first w
  pub second : HasAll m at v
  pub same : (q : Place) → covers q ≡ true → at q ≡ at_first q

-- ---- what a place sees of the mixed contents

pub covered_cell : (covers : Place → Bool) (v w : Contents) (c : Cell) → covers (place_of c) ≡ true → mixed covers v w c ≡ v c
covered_cell covers v w c on = ap (λ b. if b then v c else w c) on

other_cell : (covers : Place → Bool) (v w : Contents) (c : Cell) → covers (place_of c) ≡ false → mixed covers v w c ≡ w c
other_cell covers v w c off = ap (λ b. if b then v c else w c) off

-- a process lives in both where its course or its mailbox is covered
same_life : (m : ModuleTree) (covers : Place → Bool) (at_first at : Place → Records) (w v : Contents) → Share m covers at_first at w v → (p : Pid) → (covers (Course p) ≡ true) ⊎ (covers (Inbox p) ≡ true) → v (cells.Alive p) ≡ w (cells.Alive p)
same_life m covers at_first at w v share p (inl on) = sym (share.second (Course p)).lives ∙ ap (λ records. is_some (standing_in records.processes p)) (share.same (Course p) on) ∙ (share.first (Course p)).lives
same_life m covers at_first at w v share p (inr on) = sym (share.second (Inbox p)).alive ∙ ap (λ records. lives_in records.processes p) (share.same (Inbox p) on) ∙ (share.first (Inbox p)).alive

first_of_same : (b x y : Bool) → x ≡ y → (if b then x else y) ≡ x
first_of_same true x y same = refl
first_of_same false x y same = sym same

second_if : (b x y : Bool) → (b ≡ true → x ≡ y) → (if b then x else y) ≡ y
second_if true x y same = same refl
second_if false x y same = refl

-- a place that is covered sees what v has
pub sees_covered : (m : ModuleTree) (covers : Place → Bool) (at_first at : Place → Records) (w v : Contents) → Share m covers at_first at w v → (q : Place) → covers q ≡ true → SeesTheSame q (mixed covers v w) v
sees_covered m covers at_first at w v share q on c seen = go (seen_in q c seen)
  where
    go : (place_of c ≡ q) ⊎ ((p : Pid) × (q ≡ Course p) × (c ≡ cells.Alive p)) → mixed covers v w c ≡ v c
    go (inl here) = covered_cell covers v w c (ap covers here ∙ on)
    go (inr (p, course, life)) =
        subst (λ d. mixed covers v w d ≡ v d) (sym life) (first_of_same (covers (Inbox p)) (v (cells.Alive p)) (w (cells.Alive p)) (same_life m covers at_first at w v share p (inl (ap covers (sym course) ∙ on))))

-- and another one what w has
sees_other : (m : ModuleTree) (covers : Place → Bool) (at_first at : Place → Records) (w v : Contents) → Share m covers at_first at w v → (q : Place) → covers q ≡ false → SeesTheSame q (mixed covers v w) w
sees_other m covers at_first at w v share q off c seen = go (seen_in q c seen)
  where
    go : (place_of c ≡ q) ⊎ ((p : Pid) × (q ≡ Course p) × (c ≡ cells.Alive p)) → mixed covers v w c ≡ w c
    go (inl here) = other_cell covers v w c (ap covers here ∙ off)
    go (inr (p, course, life)) =
        subst (λ d. mixed covers v w d ≡ w d) (sym life) (second_if (covers (Inbox p)) (v (cells.Alive p)) (w (cells.Alive p)) (λ on. same_life m covers at_first at w v share p (inr on)))

-- so what was kept of w agrees with the mixed contents at each place
pub mixed_has_all : (m : ModuleTree) (covers : Place → Bool) (at_first at : Place → Records) (w v : Contents) → Share m covers at_first at w v → HasAll m at_first (mixed covers v w)
mixed_has_all m covers at_first at w v share q = go (covers q) refl
  where
    go : (b : Bool) → covers q ≡ b → AgreesAt m q (at_first q) (mixed covers v w)
    go true on = seen_at m q (at_first q) v (mixed covers v w) (λ c seen. sym (sees_covered m covers at_first at w v share q on c seen)) (subst (λ records. AgreesAt m q records v) (share.same q on) (share.second q))
    go false off = seen_at m q (at_first q) w (mixed covers v w) (λ c seen. sym (sees_other m covers at_first at w v share q off c seen)) (share.first q)

-- ---- names of tables, and new references

means_if : (b : Bool) (v w : Contents) (name : Name) (t : Ref) → NamesMeanTables v → NamesMeanTables w → (if b then v (cells.TableName name) else w (cells.TableName name)) ≡ Some t → IsSome (if b then v (cells.Table t) else w (cells.Table t))
means_if true v w name t one other means = one name t means
means_if false v w name t one other means = other name t means

-- names mean tables in the mixed contents where they do so in both
pub mixed_names_mean : (covers : Place → Bool) (v w : Contents) → NamesMeanTables v → NamesMeanTables w → NamesMeanTables (mixed covers v w)
mixed_names_mean covers v w one other name t means = means_if (covers Tables) v w name t one other means

-- the reference that a process creates next is the same where its course is covered
same_next : (m : ModuleTree) (covers : Place → Bool) (at_first at : Place → Records) (w v : Contents) → Share m covers at_first at w v → (p : Pid) → covers (Course p) ≡ true → next_ref v p ≡ next_ref w p
same_next m covers at_first at w v share p on =
    let turns = sym (share.second (Course p)).turns ∙ ap (λ records. turns_in records.processes p) (share.same (Course p) on) ∙ (share.first (Course p)).turns in
    ap (λ n. record { pid = p; number = n + 1 }) turns

new_if : (b : Bool) (v w : Contents) (t : Ref) → v (cells.Table t) ≡ None → w (cells.Table t) ≡ None → (if b then v (cells.Table t) else w (cells.Table t)) ≡ None
new_if true v w t one other = one
new_if false v w t one other = other

-- so what is new for a step in both is new in the mixed contents
pub mixed_new_for : (m : ModuleTree) (covers : Place → Bool) (at_first at : Place → Records) (w v : Contents) → Share m covers at_first at w v → (a : Program) (step : Step) → ((c : Cell) → IsAmong c (reads a (mixed covers v w) step) → covers (place_of c) ≡ true) → IsNewFor v step → IsNewFor w step → IsNewFor (mixed covers v w) step
mixed_new_for m covers at_first at w v share a (Turn p) covered one other =
    let on : covers (Course p) ≡ true = covered (cells.Machine p) (inl refl) in
    let next : next_ref (mixed covers v w) p ≡ next_ref v p = ap (ref_of_turn p) (covered_cell covers v w (cells.Machine p) on) in
    let theirs : w (cells.Table (next_ref v p)) ≡ None = subst (λ t. w (cells.Table t) ≡ None) (sym (same_next m covers at_first at w v share p on)) other in
    subst (λ t. mixed covers v w (cells.Table t) ≡ None) (sym next) (new_if (covers Tables) v w (next_ref v p) one theirs)
mixed_new_for m covers at_first at w v share a (Deliver s r) covered one other = tt

-- ---- what is read

first_seen : (covers : Place → Bool) (v w : Contents) (c : Cell) → covers (place_of c) ≡ true → SeesFirst (mixed covers v w) v c
first_seen covers v w (cells.Front s r) on =
    let front = covered_cell covers v w (cells.Front s r) on in
    let tail = covered_cell covers v w (cells.Tail s r) on in
    λ x is. sym (λ i. first_of (drop (front i) (tail i))) ∙ is
first_seen covers v w (cells.Taken p) on =
    let taken = covered_cell covers v w (cells.Taken p) on in
    let mailed = covered_cell covers v w (cells.Mailed p) on in
    λ selects x is. sym (λ i. selected_of selects (left_of (taken i) (mailed i))) ∙ is
first_seen covers v w c on = tt

-- the mixed contents and v agree on cells that lie where it is covered
pub agree_where_covered : (covers : Place → Bool) (v w : Contents) (cs : List Cell) → ((c : Cell) → IsAmong c cs → covers (place_of c) ≡ true) → AgreeOn (mixed covers v w) v cs
agree_where_covered covers v w [] covered = tt
agree_where_covered covers v w (c ∷ cs) covered =
    let on = covered c (inl refl) in
    ((covered_cell covers v w c on, first_seen covers v w c on), agree_where_covered covers v w cs (λ d there. covered d (inr there)))
