-- Options of new tables as they are held, in the words of the explored world.
use Rattle.ets_store.specs.Tables.{heir_in}
use Rattle.world_model.specs.Tables as tables
use Rattle.ets_calls.specs.declared.options.TableOption.{TableOption}
use Rattle.ets_calls.specs.declared.options.TableOption.TheVariants.{OfKind, Protects, Named, AtPosition, WithHeir, Tunes}

-- one option of a new table
abbrev pub option_in : TableOption → tables.TableOption
option_in (OfKind kind) = tables.OfKind kind
option_in (Protects protection) = tables.Protects protection
option_in Named = tables.Named
option_in (AtPosition position) = tables.AtPosition position
option_in (WithHeir heir) = tables.WithHeir (heir_in heir)
option_in Tunes = tables.Tunes
