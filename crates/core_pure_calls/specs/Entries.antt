-- The entries of the code's dictionaries, as contracts see them.
use Rattle.std.specs.Prelude.{List, [], Option, Some, None, Vec}
use Rattle.std.specs.declared.alloc.Global.{Global}
use Rattle.std.specs.declared.sync.Arc.{Arc}
use Rattle.std.specs.Coded.{Coded, coded×, coded_list}
use Rattle.term_core.specs.Meaning.{Meaning}
use Rattle.term_core.specs.Term.{meaning_of}
use Rattle.term_core.specs.inside.MeaningCodes.{coded_meaning}
use Rattle.core_pure_calls.specs.Dictionary.{Dictionary}
use Rattle.core_pure_calls.specs.declared.dictionary.Entry.{Entry}

-- a key and its value
abbrev pub entry_of : Entry → Meaning × Meaning
entry_of e = (meaning_of e.key, meaning_of e.value)

abbrev pub coded_dictionary : Coded Dictionary
coded_dictionary = coded_list (coded× coded_meaning coded_meaning)

-- the entries, if there are any
abbrev pub items_of : Option (Arc (Vec Entry Global) Global) → List Entry
items_of None = []
items_of (Some shared) = shared.value.items
