-- What it means that two steps commute after a history.
use Rattle.std.specs.Prelude.{◌∷◌, ◌≡◌, Some}
use Rattle.term_core.specs.declared.step.Step.{Step}
use Rattle.world_model.specs.Calls.{TableArgument, TableCall, Call}
use Rattle.world_model.specs.Cells.{Cell}
use Rattle.world_model.specs.Events.{History, Event}
use Rattle.world_model.specs.Independence.{IsIndependent}
use Rattle.world_model.specs.Names.{Pid, Ref, Name}
use Rattle.world_model.specs.Requests.{Program}
use Rattle.world_model.specs.Rows.{Key}
use Rattle.world_model.specs.Run.{next_event}
use Rattle.world_model.specs.World.{table, alive, turns, answers, traps, waiting, mailbox, linked, watched, guarded, holder, holders, found, owner, settings, heir, rows, all_rows, rule_of, refusal_of, answer_of, contents}

-- two histories say the same of each process, each channel, each name and each table
pub record TellTheSame (h g : History) : Type 0 where
  pub alive : (p : Pid) → alive h p ≡ alive g p
  pub turns : (p : Pid) → turns h p ≡ turns g p
  pub answers : (p : Pid) → answers h p ≡ answers g p
  pub traps : (p : Pid) → traps h p ≡ traps g p
  pub waiting : (s r : Pid) → waiting h s r ≡ waiting g s r
  pub mailbox : (p : Pid) → mailbox h p ≡ mailbox g p
  pub linked : (p : Pid) → linked h p ≡ linked g p
  pub watched : (ref : Ref) → watched h ref ≡ watched g ref
  pub guarded : (ref : Ref) → guarded h ref ≡ guarded g ref
  pub holder : (name : Name) → holder h name ≡ holder g name
  pub holders : holders h ≡ holders g
  pub found : (argument : TableArgument) → found h argument ≡ found g argument
  pub table : (t : Ref) → table h t ≡ table g t
  pub owner : (t : Ref) → owner h t ≡ owner g t
  pub settings : (t : Ref) → settings h t ≡ settings g t
  pub heir : (t : Ref) → heir h t ≡ heir g t
  pub rows : (t : Ref) (key : Key) → rows h t key ≡ rows g t key
  pub all_rows : (t : Ref) → all_rows h t ≡ all_rows g t
  pub rule_of : (p : Pid) (argument : TableArgument) (call : TableCall) → rule_of h p argument call ≡ rule_of g p argument call
  pub refusal_of : (p : Pid) (call : Call) → refusal_of h p call ≡ refusal_of g p call
  pub answer_of : (p : Pid) (call : Call) → answer_of h p call ≡ answer_of g p call

-- two histories leave the same in each cell
abbrev pub LeaveTheSame : History → History → Type 0
LeaveTheSame h g = (c : Cell) → contents h c ≡ contents g c

-- each is enabled after the other, with the same event, and both orders leave the same
pub record Commutes (a : Program) (h : History) (e f : Event) : Type 0 where
  pub second_after_first : next_event a (e ∷ h) f.step ≡ Some f
  pub first_after_second : next_event a (f ∷ h) e.step ≡ Some e
  pub same : TellTheSame (f ∷ e ∷ h) (e ∷ f ∷ h)
  pub contents : (c : Cell) → contents (f ∷ e ∷ h) c ≡ contents (e ∷ f ∷ h) c

-- steps that are independent after a history: both are enabled there, and their events commute
abbrev pub IndependentCommute : Type 0
IndependentCommute = (a : Program) (h : History) (s t : Step) → IsIndependent a h s t → (e : Event) × (f : Event) × (next_event a h s ≡ Some e) × (next_event a h t ≡ Some f) × Commutes a h e f
