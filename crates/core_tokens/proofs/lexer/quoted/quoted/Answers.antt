use Rattle.std.proofs.Common.{sym}
use Rattle.core_tokens.proofs.QuotedLoop.{goes_on, closes_here, fails_here, is_out}
use Rattle.core_tokens.proofs.lexer.quoted.quoted.Goals as goal

pub returns-in-Some : goal.returns-in-Some
returns-in-Some c =
    closes_here c.loop.characters.items c.args.text.now c.loop.rest.now c.in-Some.after.now c.args.quote c.loop.counter _ c.loop-test.true (sym c.in-Some.ensures) c.loop.invariant

pub returns-in_default-unit : goal.returns-in_default-unit
returns-in_default-unit c =
    fails_here c.loop.characters.items c.args.text.now c.loop.rest.now c.args.quote c.loop.counter _ c.loop-test.true (sym c.in_default.ensures) (sym c.in_default-unit.ensures) c.loop.invariant

pub loop-preserved : goal.loop-preserved
loop-preserved c =
    rw c.in_ok-push.ensures.items (goes_on c.loop.characters.items c.args.text.now c.loop.rest.now c.in-Some-unit.after.now c.args.quote c.loop.counter c.in-Some-unit.character _ c.loop-test.true (sym c.in_default.ensures) (sym c.in-Some-unit.ensures) c.loop.invariant)

pub returns : goal.returns
returns c = is_out c.loop.characters.items c.args.text.now c.loop.rest.now c.args.quote c.loop.counter _ c.loop-test.false c.loop.invariant
