use Rattle.std.proofs.Common.{◌<◌, length, refl, sym, ap, arith}
use Rattle.std.proofs.lemmas.Bool.{eqb-true, eqb-false}
use Rattle.core_tokens.specs.Piece.{shape_of}
use Rattle.core_tokens.specs.Tokens.{IsTokenFault}
use Rattle.core_tokens.proofs.Shorter.{token_takes}
use Rattle.core_tokens.proofs.SoFar.{reads_one, ends_here, trouble_is, found_is, fails_here, only_tokens, nothing_refused}
use Rattle.core_tokens.proofs.lexer.tokens.Goals as goal

-- what the fault says
told : (c : goal.After-drop-tokens) → IsTokenFault c.args.text.now c.at.result
told c =
    let some = eqb-false (length c.loop-rest.rest.now) 0 (sym c.loop-rest-test.ensures) in
    rw c.at.ensures (fails_here c.args.text.now c.loop-rest.tokens.items c.loop-rest.behind_slash c.loop-rest.rest.now c.in-Err.trouble c.loop-rest.invariant some (trouble_is c.loop-rest.behind_slash c.loop-rest.rest.now c.in-Err.trouble c.in-Err.ensures))

pub returns-in-Err-clause-fault : goal.returns-in-Err-clause-fault
returns-in-Err-clause-fault c = told c

pub returns-in-Err-clause-complete : goal.returns-in-Err-clause-complete
returns-in-Err-clause-complete c = λ ps p. nothing_refused c.args.text.now c.at.result ps (told c) p

pub loop-rest-smaller : goal.loop-rest-smaller
loop-rest-smaller c =
    let found = found_is c.loop-rest.behind_slash c.loop-rest.rest.now c.in-Ok.found.1.now (shape_of c.in-Ok.found.0) c.in-Ok.ensures in
    let v = token_takes c.loop-rest.rest.now c.in-Ok.found.1.now (shape_of c.in-Ok.found.0) found.0 in
    let smaller : length c.behind_blanks-rest-in-loop-rest.result.now < length c.loop-rest.rest.now = omega (arith, c.behind_blanks-rest-in-loop-rest.ensures.within, v.shorter, ap length v.whole) in
    smaller

pub loop-rest-preserved : goal.loop-rest-preserved
loop-rest-preserved c =
    let found = found_is c.loop-rest.behind_slash c.loop-rest.rest.now c.in-Ok.found.1.now (shape_of c.in-Ok.found.0) c.in-Ok.ensures in
    let next = c.behind_blanks-rest-in-loop-rest.ensures in
    rw (c.in_ok-push.ensures.items, c.is_slash-behind_slash.ensures)
    (reads_one c.args.text.now c.loop-rest.tokens.items c.loop-rest.behind_slash c.loop-rest.rest.now c.in-Ok.found.1.now c.behind_blanks-rest-in-loop-rest.result.now c.in-Ok.found.0 _ c.loop-rest.invariant found.0 found.1 refl next.skipped next.all next.within)

pub returns-clause-sound : goal.returns-clause-sound
returns-clause-sound c = ends_here c.args.text.now c.loop-rest.tokens.items c.loop-rest.behind_slash c.loop-rest.rest.now c.loop-rest.invariant (eqb-true (length c.loop-rest.rest.now) 0 (sym c.loop-rest-test.ensures))

pub returns-clause-complete : goal.returns-clause-complete
returns-clause-complete c = λ ps p.
    only_tokens c.args.text.now _ ps (ends_here c.args.text.now c.loop-rest.tokens.items c.loop-rest.behind_slash c.loop-rest.rest.now c.loop-rest.invariant (eqb-true (length c.loop-rest.rest.now) 0 (sym c.loop-rest-test.ensures))) p
