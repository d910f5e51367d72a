use Rattle.ets_rules.proofs.tables.Tables.is_same.Goals as goal

pub returns : goal.returns
returns c = record {
  same = c.is_same.ensures.same;
  agrees = λ e v hold. record { are = c.is_same.ensures.agrees e v hold.are; by_key = hold.by_key };
}
