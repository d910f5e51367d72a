use Rattle.std.proofs.Common.{None, rules}
use Rattle.proc_links.specs.Names.{IsNamed}
use Rattle.proc_links.specs.declared.names.Names.{Names}
use Rattle.proc_links.proofs.Listing.{names_listed}
use Rattle.proc_links.proofs.names.Names.take.Goals as goal

pub returns-clause-listed : goal.returns-clause-listed
returns-clause-listed c =
    let name = c.args.name.now in
    let p = c.args.pid.now in
    let new : Names = record { bearers = c.make_mut.follows.lender c.bare.new.self } in
    let named : IsNamed name p None None c.args.self.now new = search rules in
    λ v told. names_listed c.args.self.now new name None v named.holders told
