-- How what is planned grows.
use Rattle.std.proofs.Common.{◌≡◌, ◌∙◌, List, [], ◌∷◌, ◌++◌, map, refl, sym, ap, append_assoc}
use Rattle.ets_rules.specs.Changes.{all_changes_of_tables, changes_of_tables}
use Rattle.ets_rules.specs.declared.change.TableChange.{TableChange}
use Rattle.world_model.specs.Cells.{Cell}
use Rattle.world_model.specs.Changes.{Change}
use Rattle.world_records.specs.Cells.{cell_in, cells_in}
use Rattle.world_records.specs.Changes.{all_changes_in, changes_in}
use Rattle.world_records.specs.declared.cell.Cell as stored
use Rattle.world_records.specs.declared.change.Change as kept
use Rattle.world_planned.specs.inside.Planned.{Adds}
use Rattle.world_planned.specs.declared.planned.Planned.{Planned}

pub end_nil : {A : Type 0} (xs : List A) → xs ++ [] ≡ xs
end_nil [] = refl
end_nil (x ∷ xs) = ap (λ ys. x ∷ ys) (end_nil xs)

pub map_both : {A B : Type 0} (f : A → B) (xs ys : List A) → map f (xs ++ ys) ≡ map f xs ++ map f ys
map_both f [] ys = refl
map_both f (x ∷ xs) ys = ap (λ zs. f x ∷ zs) (map_both f xs ys)

-- the changes of two lists
pub all_both : (xs ys : List kept.Change) → all_changes_in (xs ++ ys) ≡ all_changes_in xs ++ all_changes_in ys
all_both [] ys = refl
all_both (x ∷ xs) ys = ap (λ zs. changes_in x ++ zs) (all_both xs ys) ∙ sym (append_assoc (changes_in x) (all_changes_in xs) (all_changes_in ys))

-- one cell, one change
pub one_cell : (xs : List stored.Cell) (c : stored.Cell) → cells_in (xs ++ c ∷ []) ≡ cells_in xs ++ cell_in c ∷ []
one_cell xs c = map_both cell_in xs (c ∷ [])

pub one_change : (xs : List kept.Change) (c : kept.Change) → all_changes_in (xs ++ c ∷ []) ≡ all_changes_in xs ++ changes_in c
one_change xs c = all_both xs (c ∷ []) ∙ ap (λ ks. all_changes_in xs ++ ks) (end_nil (changes_in c))

-- nothing is added
pub adds_none : (f : Planned) → Adds [] [] f f
adds_none f = record { more_reads = sym (end_nil (cells_in f.reads.items)); more_changes = sym (end_nil (all_changes_in f.changes.items)) }

-- first some, then others
pub adds_then : (rs ss : List Cell) (ks ls : List Change) (f g h : Planned) → Adds rs ks f g → Adds ss ls g h → Adds (rs ++ ss) (ks ++ ls) f h
adds_then rs ss ks ls f g h first then_ = record {
  more_reads = then_.more_reads ∙ ap (λ zs. zs ++ ss) first.more_reads ∙ append_assoc (cells_in f.reads.items) rs ss;
  more_changes = then_.more_changes ∙ ap (λ zs. zs ++ ls) first.more_changes ∙ append_assoc (all_changes_in f.changes.items) ks ls;
}

-- ---- changes of tables that are added one by one

-- those that are left come next
pub record IsAdding (all left : List TableChange) (old new : Planned) : Type 0 where
  pub same_reads : cells_in new.reads.items ≡ cells_in old.reads.items
  pub with_rest : all_changes_in new.changes.items ++ all_changes_of_tables left ≡ all_changes_in old.changes.items ++ all_changes_of_tables all

pub adding_on : (all : List TableChange) (c : TableChange) (left : List TableChange) (f g h : Planned) → IsAdding all (c ∷ left) f g → Adds [] (changes_of_tables c) g h → IsAdding all left f h
adding_on all c left f g h before adds = record {
  same_reads = adds.more_reads ∙ end_nil (cells_in g.reads.items) ∙ before.same_reads;
  with_rest = ap (λ ks. ks ++ all_changes_of_tables left) adds.more_changes ∙ append_assoc (all_changes_in g.changes.items) (changes_of_tables c) (all_changes_of_tables left) ∙ before.with_rest;
}

pub adding_ends : (all left : List TableChange) (f g : Planned) → left ≡ [] → IsAdding all left f g → Adds [] (all_changes_of_tables all) f g
adding_ends all left f g none adding = record {
  more_reads = adding.same_reads ∙ sym (end_nil (cells_in f.reads.items));
  more_changes = sym (end_nil (all_changes_in g.changes.items)) ∙ ap (λ cs. all_changes_in g.changes.items ++ all_changes_of_tables cs) (sym none) ∙ adding.with_rest;
}

-- ---- the same

-- the same under another name
pub adds_as : (rs ss : List Cell) (ks ls : List Change) (f g : Planned) → rs ≡ ss → ks ≡ ls → Adds rs ks f g → Adds ss ls f g
adds_as rs ss ks ls f g same alike adds = record {
  more_reads = adds.more_reads ∙ ap (λ zs. cells_in f.reads.items ++ zs) same;
  more_changes = adds.more_changes ∙ ap (λ zs. all_changes_in f.changes.items ++ zs) alike;
}

-- the same of an equal value
pub adds_at : {A : Type 0} (rs : A → List Cell) (ks : A → List Change) (x y : A) (f g : Planned) → x ≡ y → Adds (rs x) (ks x) f g → Adds (rs y) (ks y) f g
adds_at rs ks x y f g e adds = adds_as (rs x) (rs y) (ks x) (ks y) f g (ap rs e) (ap ks e) adds
