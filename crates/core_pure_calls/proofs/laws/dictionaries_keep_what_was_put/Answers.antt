use Rattle.core_pure_calls.proofs.DictionaryLaws.{erase_leaves_others, erased_is_gone, put_is_got, put_leaves_others}
use Rattle.core_pure_calls.proofs.laws.dictionaries_keep_what_was_put.Goals as goal

pub returns-clause-got : goal.returns-clause-got
returns-clause-got c = λ key value d. put_is_got key value d

pub returns-clause-others : goal.returns-clause-others
returns-clause-others c = λ key value other d apart. put_leaves_others key value other d apart

pub returns-clause-gone : goal.returns-clause-gone
returns-clause-gone c = λ key d. erased_is_gone key d

pub returns-clause-left : goal.returns-clause-left
returns-clause-left c = λ key other d apart. erase_leaves_others key other d apart
