-- What names have which holders after a change of one.
use Rattle.std.proofs.Common.{◌≡◌, true, false, cond, IsSome, Option, Some, bytes_eq, if◌then◌else◌, refl, subst, ap, ◌∙◌}
use Rattle.std.specs.BTreeMap.{BTreeMap, get, is_at, WritesThrough}
use Rattle.std.proofs.lemmas.Map.Text.{is_eq-slice_cmp}
use Rattle.std.proofs.lemmas.Slice.Eq.{bytes_eq-Decides}
use Rattle.term_core.specs.Order.{order_of_lists}
use Rattle.world_model.specs.Cells as cells
use Rattle.world_model.specs.Cells.{Contents}
use Rattle.world_model.specs.Names.{Name, Pid}
use Rattle.proc_links.specs.Bearers.{put_at}
use Rattle.proc_links.specs.Names.{name_in, AreBorne, IsNamed}
use Rattle.proc_links.specs.declared.names.Names.{Names}

pub put_now : {X : Type 0} (m n : BTreeMap Name X) (k : Name) (w : Option X) → ((q : Name) → get order_of_lists n q ≡ cond (is_at (order_of_lists k) q) w (get order_of_lists m q)) → (q : Name) → get order_of_lists n q ≡ put_at k w q (get order_of_lists m q)
put_now m n k w has q = has q ∙ ap (λ b. cond b w (get order_of_lists m q)) (is_eq-slice_cmp k q)

-- what is written through a reference is there, and all else as it was
pub written_now : {X : Type 0} (m n : BTreeMap Name X) (k : Name) (x before : X) → Some before ≡ get order_of_lists m k → WritesThrough order_of_lists (order_of_lists k) m x n → (q : Name) → get order_of_lists n q ≡ put_at k (Some x) q (get order_of_lists m q)
written_now m n k x before there writes = put_now m n k (Some x) (writes.3 (subst IsSome there refl)).0

-- what was there is there again
pub put_back : {X : Type 0} (f : Name → Option X) (k : Name) (w before : Option X) → before ≡ f k → (m : Name) → put_at k before m (put_at k w m (f m)) ≡ f m
put_back f k w before is m =
    elim (bytes_eq k m) as (λ b. bytes_eq k m ≡ b → (if b then before else (if b then w else f m)) ≡ f m) [
      | true ↦ λ e. is ∙ ap f ((bytes_eq-Decides k m).0 e)
      | false ↦ λ e. refl
    ] refl

-- a name that was given is held
pub put_there : {X : Type 0} (f : Name → Option X) (k : Name) (x : X) → put_at k (Some x) k (f k) ≡ Some x
put_there f k x = ap (λ b. if b then Some x else f k) ((bytes_eq-Decides k k).1 refl)

pub names_told : (old new : Names) (n : Name) (p : Pid) (h : Option Pid) (w : Option Name) (v : Contents) → IsNamed n p h w old new → AreBorne old v → (r : Pid) → name_in new r ≡ put_at p w r (v (cells.NameOf r))
names_told old new n p h w v named told r = named.names r ∙ ap (put_at p w r) (told r)
