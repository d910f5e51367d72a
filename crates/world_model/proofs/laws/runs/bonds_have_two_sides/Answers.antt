use Rattle.world_model.proofs.Borne.{holders_have_names}
use Rattle.world_model.proofs.DownLaws.{targets_have_watches}
use Rattle.world_model.proofs.Having.{owners_have_tables}
use Rattle.world_model.proofs.Mutual.{links_mutual}
use Rattle.world_model.proofs.laws.runs.bonds_have_two_sides.Goals as goal

pub returns-clause-names : goal.returns-clause-names
returns-clause-names c = holders_have_names

pub returns-clause-tables : goal.returns-clause-tables
returns-clause-tables c = owners_have_tables

pub returns-clause-watches : goal.returns-clause-watches
returns-clause-watches c = targets_have_watches

pub returns-clause-links : goal.returns-clause-links
returns-clause-links c = links_mutual
