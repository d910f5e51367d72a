use Rattle.std.proofs.Common.{◌≡◌, ◌≤◌, false, length, vec_len}
use Rattle.std.specs.Io.KnownBytes.{Consumes}
use Rattle.program_runs.proofs.input.read_to_end.Given as goal

-- the source is sound, and the bytes so far came from it, at least one in each turn
abbrev pub invariant-loop-turn : goal.invariant-loop-turn
invariant-loop-turn g l = record {
  sound : g.R.Source.has_failed l.source ≡ false;
  bytes : Consumes (g.R.Source.remaining l.fn.source) (g.R.Source.remaining l.source) l.bytes.items;
  counted : l._turn ≤ vec_len l.bytes;
  room : length l.buffer ≡ 65536;
}
