-- The laws of rows and cells.
use Rattle.std.proofs.Common.{◌≡◌, ◌||◌, List, [], ◌∷◌, Option, Some, None, if◌then◌else◌, refl, ap, ◌∙◌}
use Rattle.std.specs.FinMap.{empty}
use Rattle.std.specs.List.{list_any}
use Rattle.world_model.specs.Calls.{has_items}
use Rattle.world_model.specs.Cells.{Contents, Row, Rows}
use Rattle.world_model.specs.Changes.{after}
use Rattle.world_model.specs.TableAccess.{Found}
use Rattle.world_model.specs.Names.{Ref, same_ref}
use Rattle.world_model.specs.Objects.{stored_at, stores, removed_at, one_present}
use Rattle.world_model.specs.Rows as rows
use Rattle.world_model.specs.Rows.{Key, Object, Stores, Removes, part_at, parts_at, rows_rewritten, under}
use Rattle.world_model.proofs.EndSorts.{after_both}
use Rattle.world_model.proofs.Meeting.{ref_itself}
use Rattle.ets_store.specs.CellLaws.{AreStored, AreRemoved, AreWritten, AreWiped, ArePresent}
use Rattle.ets_store.specs.TableRows.{with_objects, rewritten_at}

here : (t : Ref) (one other : rows.Rows) → (if same_ref t t then one else other) ≡ one
here t one other = ap (λ b. if b then one else other) (ref_itself t)

stored_rows : (f : Found) (o : Object) (x : Option Key) (v : Contents) → after (stored_at f o x) v (Rows f.ref) ≡ rewritten_at x (Stores f.table.kind o) (v (Rows f.ref))
stored_rows f o None v = refl
stored_rows f o (Some k) v = here f.ref (rows_rewritten k (Stores f.table.kind o) (v (Rows f.ref))) (v (Rows f.ref))

removed_rows : (f : Found) (o : Object) (x : Option Key) (v : Contents) → after (removed_at f o x) v (Rows f.ref) ≡ rewritten_at x (Removes o) (v (Rows f.ref))
removed_rows f o None v = refl
removed_rows f o (Some k) v = here f.ref (rows_rewritten k (Removes o) (v (Rows f.ref))) (v (Rows f.ref))

pub are_stored : AreStored
are_stored f [] v = refl
are_stored f (o ∷ os) v =
    after_both (stored_at f o (part_at f.table.position o)) (stores f os) v (Rows f.ref)
    ∙ are_stored f os (after (stored_at f o (part_at f.table.position o)) v)
    ∙ ap (with_objects f.table.kind f.table.position os) (stored_rows f o (part_at f.table.position o) v)

pub are_removed : AreRemoved
are_removed f o v = removed_rows f o (part_at f.table.position o) v

pub are_written : AreWritten
are_written t key change v = here t (rows_rewritten key change (v (Rows t))) (v (Rows t))

pub are_wiped : AreWiped
are_wiped t v = here t empty (v (Rows t))

among : (ks : List Key) (t : Ref) (v : Contents) → ((key : Key) → under (v (Rows t)) key ≡ v (Row t key)) → list_any (λ key. has_items (under (v (Rows t)) key)) ks ≡ one_present v t ks
among [] t v is = refl
among (k ∷ ks) t v is = λ i. has_items (is k i) || among ks t v is i

pub are_present : ArePresent
are_present t position objects v is = among (parts_at position objects) t v is
