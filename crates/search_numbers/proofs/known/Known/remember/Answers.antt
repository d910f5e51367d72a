use Rattle.std.proofs.Common.{◌∙◌, ◌++◌, ◌∷◌, [], append-nil, sym}
use Rattle.search_numbers.proofs.Listed.{knows_itself, knows_one_more, knows_same}
use Rattle.search_numbers.proofs.known.Known.remember.Goals as goal

pub returns-in_err-touched-clause-knows : goal.returns-in_err-touched-clause-knows
returns-in_err-touched-clause-knows c = knows_itself c.args.self.now

pub returns-in_err-columns-clause-knows : goal.returns-in_err-columns-clause-knows
returns-in_err-columns-clause-knows c = knows_itself c.args.self.now

pub returns-in_err-shape-clause-knows : goal.returns-in_err-shape-clause-knows
returns-in_err-shape-clause-knows c = knows_same c.args.self.now c.keep_shape.new.self c.in_err-shape.ensures.store c.in_err-shape.ensures.remembered

pub returns-in_err-put-clause-knows : goal.returns-in_err-put-clause-knows
returns-in_err-put-clause-knows c = knows_same c.args.self.now _ c.in_ok-shape.ensures.store c.in_ok-shape.ensures.remembered

pub returns-in_err-push-clause-knows : goal.returns-in_err-push-clause-knows
returns-in_err-push-clause-knows c = knows_one_more c.args.self.now _ [] c.in_ok-shape.ensures.store (c.in_err-push.ensures.items ∙ (λ i. (c.in_ok-shape.ensures.remembered i).items) ∙ sym (append-nil c.args.self.now.remembered.items)) tt

pub returns-clause-knows : goal.returns-clause-knows
returns-clause-knows c = knows_one_more c.args.self.now _ (c.args.learned ∷ []) c.in_ok-shape.ensures.store (c.in_ok-push.ensures.items ∙ (λ i. (c.in_ok-shape.ensures.remembered i).items ++ c.args.learned ∷ [])) (c.requires, tt)
