-- What a flush at the end makes of a replay.
use Rattle.std.proofs.Common.{◌≡◌, ℕ, ◌+◌, Bool, true, List, [], take, drop, length, Option, sym, append-nil}
use Rattle.std.specs.Prelude.{Result, Ok, Err}
use Rattle.std.specs.Io.KnownBytes.{Keeps}
use Rattle.std.proofs.KnownBytes.{Appends-kept}
use Rattle.world_model.specs.Requests.{Program}
use Rattle.term_core.specs.Stream.{AppendsBeginning, WritesAll}
use Rattle.term_core.specs.declared.step.Step.{Step}
use Rattle.world_replay.specs.Replay.{Replays, reached_on, transcript}
use Rattle.world_replay.proofs.Lines.{lines_on}
use Rattle.world_replay.proofs.WholeLines.{transcript_parts}
use Rattle.world_replay.specs.declared.replay_fault.ReplayFault.{ReplayFault}
use Rattle.world_replay.specs.declared.replay_fault.ReplayFault.TheVariants as replay

beginning_kept : (old mid new : Option (List ℕ)) (text : List ℕ) → AppendsBeginning old mid text → Keeps mid new → AppendsBeginning old new text
beginning_kept old mid new text b k = record { written = b.written; unwritten = b.unwritten; parts = b.parts; appends = Appends-kept old mid new b.written b.appends k }

all_kept : (old mid new : Option (List ℕ)) (failed : Bool) (text : List ℕ) → WritesAll old mid failed text → Keeps mid new → WritesAll old new failed text
all_kept old mid new failed text w k = record { appends = Appends-kept old mid new text w.appends k; sound = w.sound }

all_begun : (old new : Option (List ℕ)) (failed : Bool) (text : List ℕ) → WritesAll old new failed text → AppendsBeginning old new text
all_begun old new failed text w = record { written = text; unwritten = []; parts = sym (append-nil text); appends = w.appends }

-- what was written before a flush is there after it
pub flushed : (a : Program) (steps : List Step) (old mid new : Option (List ℕ)) (failed : Bool) (r : Result (Unit {0}) ReplayFault)
    → Replays a steps old mid failed r → Keeps mid new → Replays a steps old new failed r
flushed a steps old mid new failed (Ok done) h k = (h.0, all_kept old mid new failed (transcript a steps) h.1 k)
flushed a steps old mid new failed (Err (replay.NotEnabled place)) h k = (h.0, all_kept old mid new failed (transcript a steps) h.1 k)
flushed a steps old mid new failed (Err replay.Memory) h k = (h.0, h.1, all_kept old mid new failed (transcript a (take h.0 steps)) h.2 k)
flushed a steps old mid new failed (Err replay.Write) h k = record { beginning = beginning_kept old mid new (transcript a steps) h.beginning k; fault = h.fault }

-- all that a replay wrote is a beginning of its lines
begun : (a : Program) (steps : List Step) (old mid : Option (List ℕ)) (failed : Bool) (r : Result (Unit {0}) ReplayFault)
    → Replays a steps old mid failed r → AppendsBeginning old mid (transcript a steps)
begun a steps old mid failed (Ok done) h = all_begun old mid failed (transcript a steps) h.1
begun a steps old mid failed (Err (replay.NotEnabled place)) h = all_begun old mid failed (transcript a steps) h.1
begun a steps old mid failed (Err replay.Memory) h = record { written = transcript a (take h.0 steps); unwritten = lines_on a (reached_on a [] (take h.0 steps)) (length (reached_on a [] (take h.0 steps)) + 1) (drop h.0 steps); parts = transcript_parts a steps h.0 h.1; appends = h.2.appends }
begun a steps old mid failed (Err replay.Write) h = h.beginning

-- a replay whose flush failed has output that failed
pub not_flushed : (a : Program) (steps : List Step) (old mid new : Option (List ℕ)) (failed failed' : Bool) (r : Result (Unit {0}) ReplayFault)
    → Replays a steps old mid failed r → Keeps mid new → failed' ≡ true → Replays a steps old new failed' (Err replay.Write)
not_flushed a steps old mid new failed failed' r h k fault =
    record { beginning = beginning_kept old mid new (transcript a steps) (begun a steps old mid failed r h) k; fault = fault }
