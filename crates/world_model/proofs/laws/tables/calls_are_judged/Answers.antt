use Rattle.world_model.proofs.Judged.{served_where_none, refused_by_rule, served_only_where_none}
use Rattle.world_model.proofs.laws.tables.calls_are_judged.Goals as goal

pub returns-clause-served : goal.returns-clause-served
returns-clause-served c = served_where_none

pub returns-clause-refused : goal.returns-clause-refused
returns-clause-refused c = refused_by_rule

pub returns-clause-exactly : goal.returns-clause-exactly
returns-clause-exactly c = served_only_where_none
