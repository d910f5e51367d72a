-- The links of processes.
use Rattle.std.specs.Prelude.{◌≡◌, Bool, List, map}
use Rattle.term_core.specs.Meaning.{Meaning}
use Rattle.world_model.specs.Cells as cells
use Rattle.world_model.specs.Cells.{AreAlive, Contents}
use Rattle.world_model.specs.Changes.{SignalPut}
use Rattle.world_model.specs.Ends.{partners_told}
use Rattle.world_model.specs.Events.{LinkExit}
use Rattle.world_model.specs.Names.{Pid}
use Rattle.world_model.specs.ProcessLines as lines
use Rattle.world_model.specs.ProcessLines.{LinkWay}
use Rattle.proc_groups.specs.Groups.{members_in}
use Rattle.proc_links.specs.declared.links.Linking.{Linking}
use Rattle.proc_links.specs.declared.links.Linking.TheVariants.{Stands, Pairs, PairsGone, Fails}
use Rattle.proc_links.specs.declared.links.Links.{Links}

-- the processes that a process is linked to, in the order of pids
abbrev pub partners_in : Links → Pid → List Pid
partners_in links p = members_in links.partners.value p

-- the links are what the contents say
abbrev pub AreLinks : Links → Contents → Type 0
AreLinks links v = (p : Pid) → partners_in links p ≡ v (cells.Links p)

-- these get the exit signals of links where a process ends, whatever contents say the links and who lives
abbrev pub ArePartnersTold : Links → (Pid → Bool) → Pid → List Pid → Type 0
ArePartnersTold links lives p told = (v : Contents) (reason : Meaning) → AreLinks links v → AreAlive lives v → partners_told v p reason (v (cells.Links p)) ≡ map (λ q. SignalPut p q (LinkExit reason)) told

-- what `link/1` resulted in
abbrev pub way_of : Linking → LinkWay
way_of Stands = lines.Stands
way_of Pairs = lines.Pairs
way_of PairsGone = lines.PairsGone
way_of Fails = lines.Fails
