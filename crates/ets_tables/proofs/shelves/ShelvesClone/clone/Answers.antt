use Rattle.std.proofs.Common.{◌≡◌, ap, map}
use Rattle.std.specs.BTreeMap.{is_at}
use Rattle.std.specs.Prelude.{option_map}
use Rattle.term_core.specs.StepOrder.{order_of_reference_ids}
use Rattle.ets_store.specs.Tables.{settings_in}
use Rattle.proc_groups.specs.Groups.{members_in}
use Rattle.world_model.specs.Names.{ref_of}
use Rattle.ets_tables.specs.Shelves.{named_in, rows_of}
use Rattle.ets_tables.proofs.Shelving.{clones_show}
use Rattle.ets_tables.proofs.shelves.ShelvesClone.clone.Goals as goal

pub returns : goal.returns
returns c =
    let held = clones_show (λ e. e.value) (λ a b. b.value ≡ a.value) (λ _ _ same. same) c.args.self.now.tables.entries c.in_ok-clone.field-0.entries c.in_ok-clone.ensures.cases in
    record {
      cases = record {
        tables = λ u. ap (option_map settings_in) (held (is_at (order_of_reference_ids (u.pid, u.number))));
        rows = λ u. ap rows_of (held (is_at (order_of_reference_ids (u.pid, u.number))));
        names = λ name. ap (λ m. named_in m name) c.in_ok-try_clone.ensures;
        owned = λ p. ap (λ g. map ref_of (members_in g p)) c.in_ok-try_clone-2.ensures;
      };
    }
