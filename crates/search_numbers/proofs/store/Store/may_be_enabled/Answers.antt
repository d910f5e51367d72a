use Rattle.std.proofs.Common.{◌≡◌, ◌∙◌, arith, sym}
use Rattle.std.proofs.lemmas.Grind.{common_steps}
use Rattle.search_numbers.specs.Rows.{numbers_in}
use Rattle.search_numbers.proofs.Asking.{is_idle}
use Rattle.search_numbers.proofs.store.Store.may_be_enabled.Goals as goal

pub returns-else-not-is_channel : goal.returns-else-not-is_channel
returns-else-not-is_channel c off s begins =
    let number : c.number_in.result ≡ 0 = grind (arith, common_steps) in
    is_idle c.args.self.now.places.items (numbers_in c.args.row.now) c.args.column s c.requires begins (sym (c.is_channel.ensures s begins) ∙ c.if-not-is_channel.false) (sym c.number_in.ensures ∙ number)
