use Rattle.search_numbers.proofs.known.Known.records_of.Goals as goal

pub records_of-requires : goal.records_of-requires
records_of-requires c = c.requires.whole
