use Rattle.std.proofs.Common.{◌∙◌, ap, map, sym}
use Rattle.world_model.specs.Names.{ref_of}
use Rattle.proc_groups.specs.Groups.{members_in}
use Rattle.ets_tables.specs.Shelves.{named_in}
use Rattle.ets_tables.proofs.Alike.{tables_told}
use Rattle.ets_tables.proofs.shelves.Shelves.is_same.Goals as goal

pub returns : goal.returns
returns c = λ e. record {
  tables = λ t. (tables_told (t.pid, t.number) c.args.self.now.tables.entries c.args.other.now.tables.entries (c.same_tables.ensures e)).0;
  rows = λ t. (tables_told (t.pid, t.number) c.args.self.now.tables.entries c.args.other.now.tables.entries (c.same_tables.ensures e)).1;
  names = λ name.
      ap (λ names. named_in names name) (sym c.deref-2.ensures) ∙ c.is_same.ensures c.if-not-is_same.false name ∙ ap (λ names. named_in names name) c.deref.ensures;
  owned = λ p. ap (map ref_of)
      (ap (λ sets. members_in sets p) (sym c.deref-4.ensures) ∙ c.is_same-2.ensures c.if-not-is_same-2.false p ∙ ap (λ sets. members_in sets p) c.deref-3.ensures);
}
