-- What the end of a process reads and changes.
use Rattle.std.proofs.Common.{◌≡◌, ◌∙◌, Bool, List, [], ◌∷◌, ◌++◌, Option, Some, None, map, refl, sym, ap, append_assoc}
use Rattle.ets_rules.specs.Plans.{SaysOfHeir, SaysOfHeirOf}
use Rattle.term_core.specs.Meaning.{Meaning}
use Rattle.world_model.specs.Cells as cells
use Rattle.world_model.specs.Cells.{Cell, Contents}
use Rattle.world_model.specs.Ends.{alive_if, heir_pid, heir_read, reads_of_tables, table_passes, tables_pass}
use Rattle.world_model.specs.Names.{Pid, Ref}
use Rattle.world_model.specs.Tables as tables
use Rattle.world_model.specs.Tables.{Heir}
use Rattle.world_planned.specs.inside.Seen.{heir_of_table, lives_if}
use Rattle.world_planned.proofs.Adding.{end_nil, map_both}

-- the values of items that a loop has reached, and one more
pub map_more : {A B C : Type 0} (f : B → C) (g : A → B) (xs : List A) (x : A) → map f (map g (xs ++ x ∷ [])) ≡ map f (map g xs) ++ f (g x) ∷ []
map_more f g xs x = ap (map f) (map_both g xs (x ∷ [])) ∙ map_both f (map g xs) (g x ∷ [])

-- ---- tables

-- one table more
pub tables_more : (u : Contents) (p : Pid) (ts : List Ref) (t : Ref) → tables_pass u p (ts ++ t ∷ []) ≡ tables_pass u p ts ++ table_passes u p t (u (cells.Table t))
tables_more u p [] t = end_nil (table_passes u p t (u (cells.Table t)))
tables_more u p (s ∷ ts) t =
    let one = table_passes u p s (u (cells.Table s)) in
    ap (λ ks. one ++ ks) (tables_more u p ts t) ∙ sym (append_assoc one (tables_pass u p ts) (table_passes u p t (u (cells.Table t))))

pub reads_more : (w : Contents) (ts : List Ref) (t : Ref) → reads_of_tables w (ts ++ t ∷ []) ≡ reads_of_tables w ts ++ (cells.Table t ∷ heir_read (w (cells.Table t)))
reads_more w [] t = ap (λ cs. cells.Table t ∷ cs) (end_nil (heir_read (w (cells.Table t))))
reads_more w (s ∷ ts) t =
    ap (λ cs. cells.Table s ∷ (heir_read (w (cells.Table s)) ++ cs)) (reads_more w ts t)
    ∙ ap (λ cs. cells.Table s ∷ cs) (sym (append_assoc (heir_read (w (cells.Table s))) (reads_of_tables w ts) (cells.Table t ∷ heir_read (w (cells.Table t)))))

-- the heir that is looked at
pub heir_is_read : (table : Option tables.Table) → alive_if (heir_of_table table) ≡ heir_read table
heir_is_read None = refl
heir_is_read (Some table) = refl

pub says_of_heir : (lives : Bool) (u : Contents) (table : Option tables.Table) → lives ≡ lives_if u (heir_of_table table) → SaysOfHeirOf lives u table
says_of_heir lives u None is = record {}
says_of_heir lives u (Some table) is = says_of_one table.heir is
  where
    says_of_one : (heir : Heir) → lives ≡ lives_if u (heir_pid heir) → SaysOfHeir lives u heir
    says_of_one None asked = record {}
    says_of_one (Some heir) asked = asked
