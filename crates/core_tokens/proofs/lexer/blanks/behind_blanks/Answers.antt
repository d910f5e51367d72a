use Rattle.std.proofs.Common.{sym, arith}
use Rattle.core_tokens.proofs.Blanks.{blank_sound, blank_none}
use Rattle.core_tokens.proofs.lexer.blanks.behind_blanks.Goals as goal

pub loop-after-smaller : goal.loop-after-smaller
loop-after-smaller c = (blank_sound c.loop-after.rest.now c.in-Some.after.now (sym c.in-Some.ensures)).shorter

pub loop-after-preserved : goal.loop-after-preserved
loop-after-preserved c =
    let p = blank_sound c.loop-after.rest.now c.in-Some.after.now (sym c.in-Some.ensures) in
    let shorter = p.shorter in
    (λ stop behind last ps end s. c.loop-after.invariant.0 stop behind last ps end (p.skips stop behind last ps end s), omega arith)

pub returns-clause-all : goal.returns-clause-all
returns-clause-all c = blank_none c.loop-after.rest.now (sym c.in_default.ensures)
