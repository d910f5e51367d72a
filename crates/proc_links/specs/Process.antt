-- What a call or a signal has to know of a process.
use Rattle.std.specs.Prelude.{Bool, true, false}
use Rattle.proc_links.specs.declared.process.Life.{Life}
use Rattle.proc_links.specs.declared.process.Life.TheVariants.{Lives, Gone}
use Rattle.proc_links.specs.declared.process.Exits.{Exits}
use Rattle.proc_links.specs.declared.process.Exits.TheVariants.{Trapped, Untrapped}

-- whether it lives
abbrev pub is_alive : Life → Bool
is_alive Lives = true
is_alive Gone = false

-- whether it traps exits
abbrev pub are_trapped : Exits → Bool
are_trapped Trapped = true
are_trapped Untrapped = false
