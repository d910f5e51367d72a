-- Calls of tables as they are held, in the words of the explored world.
use Rattle.std.specs.Prelude.{option_map, map}
use Rattle.term_core.specs.Term.{meaning_of}
use Rattle.ets_store.specs.Tables.{heir_in}
use Rattle.world_model.specs.Calls as calls
use Rattle.ets_calls.specs.Arguments.{increment_in, changes_in}
use Rattle.ets_calls.specs.declared.call.TableCall.{TableCall}
use Rattle.ets_calls.specs.declared.call.TableCall.TheVariants.{Lookup, Member, LookupElement, First, Last, Next, Prev, ToList, Insert, InsertNew, DeleteTable, DeleteKey, DeleteObject, DeleteAll, Take, UpdateCounter, UpdateElement, GiveAway, SetOptions, Info, InfoAll}

abbrev pub call_in : TableCall → calls.TableCall
call_in (Lookup key) = calls.Lookup (meaning_of key)
call_in (Member key) = calls.Member (meaning_of key)
call_in (LookupElement key position) = calls.LookupElement (meaning_of key) position
call_in First = calls.First
call_in Last = calls.Last
call_in (Next key) = calls.Next (meaning_of key)
call_in (Prev key) = calls.Prev (meaning_of key)
call_in ToList = calls.ToList
call_in (Insert objects) = calls.Insert (option_map (λ os. os.items) objects)
call_in (InsertNew objects) = calls.InsertNew (option_map (λ os. os.items) objects)
call_in DeleteTable = calls.DeleteTable
call_in (DeleteKey key) = calls.DeleteKey (meaning_of key)
call_in (DeleteObject object) = calls.DeleteObject object
call_in DeleteAll = calls.DeleteAll
call_in (Take key) = calls.Take (meaning_of key)
call_in (UpdateCounter key increment default) = calls.UpdateCounter (meaning_of key) (increment_in increment) default
call_in (UpdateElement key changes) = calls.UpdateElement (meaning_of key) (changes_in changes)
call_in (GiveAway to gift) = calls.GiveAway to (meaning_of gift)
call_in (SetOptions heirs) = calls.SetOptions (option_map (λ hs. map heir_in hs.items) heirs)
call_in (Info item) = calls.Info item
call_in InfoAll = calls.InfoAll
