use Rattle.std.proofs.Common.{rules, ◌≡◌, true, false, sym, ◌∙◌}
use Rattle.tree_covers.proofs.JudgeLaws.{judged_strange, judged_missing, judged_good}
use Rattle.tree_covers.proofs.judging.judge_steps.Goals as goal

pub returns-then-not-are_enabled_once : goal.returns-then-not-are_enabled_once
returns-then-not-are_enabled_once c = λ a h listed.
    let once : c.are_enabled_once.result ≡ false = search rules in
    judged_strange a c.args.left h c.args.enabled.now c.args.slept.now c.args.line.now c.if-left-eq0.false listed (sym c.are_enabled_once.ensures ∙ once)

pub returns-then-not-are_all_there : goal.returns-then-not-are_all_there
returns-then-not-are_all_there c = λ a h listed.
    let once : c.are_enabled_once.result ≡ true = search rules in
    let all : c.are_all_there.result ≡ false = search rules in
    judged_missing a c.args.left h c.args.enabled.now c.args.slept.now c.args.line.now c.if-left-eq0.false listed (sym c.are_enabled_once.ensures ∙ once) (sym c.are_all_there.ensures ∙ all)

pub returns : goal.returns
returns c = λ a h listed.
    let once : c.are_enabled_once.result ≡ true = search rules in
    let all : c.are_all_there.result ≡ true = search rules in
    judged_good a c.args.left h c.args.enabled.now c.args.slept.now c.args.line.now c.if-left-eq0.false listed (sym c.are_enabled_once.ensures ∙ once) (sym c.are_all_there.ensures ∙ all)
