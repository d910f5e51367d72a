use Rattle.std.proofs.Common.{◌∙◌, sym}
use Rattle.ets_tables.proofs.Alike.{names_told}
use Rattle.ets_tables.proofs.name_map.NameMap.is_same.Goals as goal

pub returns : goal.returns
returns c = λ e name. names_told c.args.self.now.references c.args.other.now.references (sym c.eq.ensures ∙ e) name
