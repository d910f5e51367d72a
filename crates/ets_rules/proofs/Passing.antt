-- What becomes of the tables of a process that ends, and of a table that is made where one was.
use Rattle.std.proofs.Common.{◌≡◌, ◌∙◌, Bool, true, false, List, [], ◌∷◌, ◌++◌, Some, None, map, if◌then◌else◌, refl, sym, ap, subst, append_assoc}
use Rattle.std.proofs.lemmas.List.{append-nil, map-append}
use Rattle.std.specs.FinMap.{empty, get-empty}
use Rattle.term_core.specs.Meaning.{Meaning}
use Rattle.term_core.specs.Order.{order_of_terms}
use Rattle.world_model.specs.Cells as cells
use Rattle.world_model.specs.Cells.{Cell, Contents}
use Rattle.world_model.specs.Changes.{OwnedAdded, RowsCleared, TableRemoved, TableSet, after, changed}
use Rattle.world_model.specs.Ends.{living_heir, passed, table_passes, tables_pass}
use Rattle.world_model.specs.Names.{Name, Pid, Ref, same_ref}
use Rattle.world_model.specs.NewTables.{made, means_if}
use Rattle.world_model.specs.Rows.{Key, listed, under}
use Rattle.world_model.specs.Tables as tables
use Rattle.world_model.specs.Tables.{TableOption, is_named, table_of}
use Rattle.world_model.proofs.Meeting.{refs_same, ref_itself}
use Rattle.ets_rules.specs.Tables.{Hold}
use Rattle.ets_rules.specs.declared.tables.Tables.{Tables}
use Rattle.ets_rules.proofs.Planning.{after_append, transfers_both}
use Rattle.ets_tables.specs.Ends.{transfer_of, transfers_in}
use Rattle.ets_tables.specs.declared.transfers.Transfer.{Transfer}

-- ---- heirs

-- a table that has an heir which lives, or none that does
pub passes_to : (u : Contents) (p : Pid) (t : Ref) (table : tables.Table) (heir : Pid × Meaning) (b : Bool) → b ≡ u (cells.Alive heir.0) → b ≡ true → table.heir ≡ Some heir
    → passed p t table (Some heir) ≡ passed p t table (living_heir u table.heir)
passes_to u p t table heir b is lives has = sym
    (ap (λ h. passed p t table (living_heir u h)) has ∙ ap (λ x. passed p t table (if x then Some heir else None)) (sym is ∙ lives))

pub goes_without : (u : Contents) (p : Pid) (t : Ref) (table : tables.Table) (heir : Pid × Meaning) (b : Bool) → b ≡ u (cells.Alive heir.0) → b ≡ false → table.heir ≡ Some heir
    → passed p t table None ≡ passed p t table (living_heir u table.heir)
goes_without u p t table heir b is dead has = sym
    (ap (λ h. passed p t table (living_heir u h)) has ∙ ap (λ x. passed p t table (if x then Some heir else None)) (sym is ∙ dead))

pub goes_heirless : (u : Contents) (p : Pid) (t : Ref) (table : tables.Table) → table.heir ≡ None → passed p t table None ≡ passed p t table (living_heir u table.heir)
goes_heirless u p t table has = sym (ap (λ h. passed p t table (living_heir u h)) has)

-- ---- several tables

-- the values of items that a loop has reached, and one more
pub map_more : {A B C : Type 0} (f : B → C) (g : A → B) (xs : List A) (x : A) → map f (map g (xs ++ x ∷ [])) ≡ map f (map g xs) ++ f (g x) ∷ []
map_more f g xs x = ap (map f) (map-append g xs (x ∷ [])) ∙ map-append f (map g xs) (g x ∷ [])

-- one table more
tables_more : (u : Contents) (p : Pid) (ts : List Ref) (t : Ref) → tables_pass u p (ts ++ t ∷ []) ≡ tables_pass u p ts ++ table_passes u p t (u (cells.Table t))
tables_more u p [] t = append-nil (table_passes u p t (u (cells.Table t)))
tables_more u p (s ∷ ts) t =
    let one = table_passes u p s (u (cells.Table s)) in
    ap (λ ks. one ++ ks) (tables_more u p ts t) ∙ sym (append_assoc one (tables_pass u p ts) (table_passes u p t (u (cells.Table t))))

pub step_left : (v w : Contents) (p : Pid) (ts us : List Ref) (t : Ref) (new : Tables) → us ≡ ts ++ t ∷ [] → Hold new (after (table_passes v p t (v (cells.Table t))) (after (tables_pass v p ts) w)) → Hold new (after (tables_pass v p us) w)
step_left v w p ts us t new more hold =
    subst (λ x. Hold new x) (sym (ap (λ xs. after (tables_pass v p xs) w) more ∙ ap (λ ks. after ks w) (tables_more v p ts t) ∙ after_append (tables_pass v p ts) (table_passes v p t (v (cells.Table t))) w)) hold

pub step_told : (v : Contents) (p : Pid) (ts us : List Ref) (t : Ref) (told new : List Transfer) → us ≡ ts ++ t ∷ []
    → transfers_in (tables_pass v p ts) ≡ map transfer_of told → transfers_in (table_passes v p t (v (cells.Table t))) ≡ map transfer_of new
    → transfers_in (tables_pass v p us) ≡ map transfer_of (told ++ new)
step_told v p ts us t told new more so_far next =
    ap (λ xs. transfers_in (tables_pass v p xs)) more ∙ ap transfers_in (tables_more v p ts t) ∙ transfers_both (tables_pass v p ts) (table_passes v p t (v (cells.Table t)))
    ∙ ap (λ xs. xs ++ transfers_in (table_passes v p t (v (cells.Table t)))) so_far ∙ ap (λ xs. map transfer_of told ++ xs) next ∙ sym (map-append transfer_of told new)

-- ---- a table that is made where one was

over : {A : Type 0} (b : Bool) (x y z : A) → (if b then x else (if b then y else z)) ≡ (if b then x else z)
over true x y z = refl
over false x y z = refl

none_of : {A : Type 0} (b : Bool) (x y : A) → (b ≡ true → y ≡ x) → (if b then x else y) ≡ y
none_of true x y same = sym (same refl)
none_of false x y same = refl

-- it is gone
pub is_gone : (v : Contents) (t : Ref) → after (TableRemoved t ∷ RowsCleared t ∷ []) v (cells.Table t) ≡ None
is_gone v t = ap (λ b. if b then None else v (cells.Table t)) (ref_itself t)

no_row : (old : Tables) (v : Contents) (t : Ref) (key : Key) → Hold old v → v (cells.Rows t) ≡ empty → v (cells.Row t key) ≡ []
no_row old v t key hold none = sym (hold.are.each_row t key) ∙ ap (λ rows. under rows key) (hold.are.rows t ∙ none) ∙ ap listed (get-empty order_of_terms key)

-- and what is made then is what is made where none was
same_made : (old : Tables) (v : Contents) (t : Ref) (table : tables.Table) → Hold old v → v (cells.Rows t) ≡ empty → (c : Cell)
    → changed (TableSet t table) (after (TableRemoved t ∷ RowsCleared t ∷ []) v) c ≡ changed (TableSet t table) v c
same_made old v t table hold none (cells.Table u) = over (same_ref t u) (Some table) None (v (cells.Table u))
same_made old v t table hold none (cells.Rows u) = none_of (same_ref t u) empty (v (cells.Rows u)) (λ e. ap (λ r. v (cells.Rows r)) (sym (refs_same t u e)) ∙ none)
same_made old v t table hold none (cells.Row u key) = none_of (same_ref t u) [] (v (cells.Row u key)) (λ e. ap (λ r. v (cells.Row r key)) (sym (refs_same t u e)) ∙ no_row old v t key hold none)
same_made old v t table hold none c = refl

pub made_anew : (old new : Tables) (v : Contents) (p : Pid) (t : Ref) (name : Name) (os : List TableOption) → Hold old v → v (cells.Rows t) ≡ empty
    → Hold new (after (made p t name os) (after (TableRemoved t ∷ RowsCleared t ∷ []) v)) → Hold new (after (made p t name os) v)
made_anew old new v p t name os hold none made_hold =
    let same : changed (TableSet t (table_of p name os)) (after (TableRemoved t ∷ RowsCleared t ∷ []) v) ≡ changed (TableSet t (table_of p name os)) v = λ i c. same_made old v t (table_of p name os) hold none c i in
    subst (λ w. Hold new (after (OwnedAdded p t ∷ means_if (is_named os) name t) w)) same made_hold
