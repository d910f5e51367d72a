-- Calls without arguments, and with more than four.
use Rattle.std.proofs.Common.{◌≡◌, ◌<◌, List, [], ◌∷◌, length, false, refl, arith}
use Rattle.core_calls.specs.declared.call.CallKind.{CallKind}
use Rattle.core_calls.specs.declared.call.CallKind.TheVariants as kinds
use Rattle.term_core.specs.Meaning.{Meaning}
use Rattle.world_model.specs.Calls.{call_of, call_of_none, is_of_tables}

-- no call without arguments is of tables
none_of_tables : (kind : CallKind) → is_of_tables (call_of_none kind) ≡ false
none_of_tables kinds.Spawn = refl
none_of_tables kinds.SpawnLink = refl
none_of_tables kinds.SpawnMonitor = refl
none_of_tables kinds.Bang = refl
none_of_tables kinds.Send = refl
none_of_tables kinds.Exit = refl
none_of_tables kinds.Link = refl
none_of_tables kinds.Unlink = refl
none_of_tables kinds.Monitor = refl
none_of_tables kinds.Demonitor = refl
none_of_tables kinds.DemonitorWith = refl
none_of_tables kinds.ProcessFlag = refl
none_of_tables kinds.Register = refl
none_of_tables kinds.Unregister = refl
none_of_tables kinds.Whereis = refl
none_of_tables kinds.IsProcessAlive = refl
none_of_tables kinds.MakeRef = refl
none_of_tables kinds.MonitorWith = refl
none_of_tables kinds.Alias = refl
none_of_tables kinds.AliasWith = refl
none_of_tables kinds.Unalias = refl
none_of_tables kinds.StartTimer = refl
none_of_tables kinds.SendAfter = refl
none_of_tables kinds.CancelTimer = refl
none_of_tables kinds.ReadTimer = refl
none_of_tables kinds.Registered = refl
none_of_tables kinds.ProcessInfo = refl
none_of_tables kinds.New = refl
none_of_tables kinds.Lookup = refl
none_of_tables kinds.Member = refl
none_of_tables kinds.LookupElement = refl
none_of_tables kinds.First = refl
none_of_tables kinds.Last = refl
none_of_tables kinds.Next = refl
none_of_tables kinds.Prev = refl
none_of_tables kinds.TableToList = refl
none_of_tables kinds.Insert = refl
none_of_tables kinds.InsertNew = refl
none_of_tables kinds.DeleteTable = refl
none_of_tables kinds.DeleteKey = refl
none_of_tables kinds.DeleteObject = refl
none_of_tables kinds.DeleteAllObjects = refl
none_of_tables kinds.Take = refl
none_of_tables kinds.UpdateCounter = refl
none_of_tables kinds.UpdateCounterWith = refl
none_of_tables kinds.UpdateElement = refl
none_of_tables kinds.GiveAway = refl
none_of_tables kinds.SetOptions = refl
none_of_tables kinds.Info = refl
none_of_tables kinds.InfoAll = refl

pub too_few : (kind : CallKind) (ms : List Meaning) → length ms < 1 → is_of_tables (call_of kind ms) ≡ false
too_few kind [] few = none_of_tables kind
too_few kind (a ∷ ms) few = absurd (omega arith)

-- nor is one with more than four
pub too_many : (kind : CallKind) (ms : List Meaning) → 4 < length ms → is_of_tables (call_of kind ms) ≡ false
too_many kind [] more = absurd (omega arith)
too_many kind (a ∷ []) more = absurd (omega arith)
too_many kind (a ∷ b ∷ []) more = absurd (omega arith)
too_many kind (a ∷ b ∷ c ∷ []) more = absurd (omega arith)
too_many kind (a ∷ b ∷ c ∷ d ∷ []) more = absurd (omega arith)
too_many kind (a ∷ b ∷ c ∷ d ∷ e ∷ ms) more = refl
