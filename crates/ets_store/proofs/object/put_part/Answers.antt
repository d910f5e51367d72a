use Rattle.std.proofs.Common.{map, arith}
use Rattle.term_core.specs.Term.{meaning_of}
use Rattle.ets_store.proofs.Parts.{put_none, put_past, put_there}
use Rattle.ets_store.proofs.object.put_part.Goals as goal

pub returns-then-position-eq0 : goal.returns-then-position-eq0
returns-then-position-eq0 c = put_none (map meaning_of c.args.parts.now.items) c.args.position (meaning_of c.args.value) (omega arith)

pub returns-then-len-position : goal.returns-then-len-position
returns-then-len-position c = put_past c.args.parts.now.items c.args.position (meaning_of c.args.value) (omega arith)

pub returns : goal.returns
returns c = put_there c.args.parts.now.items c.args.position c.args.value (omega arith) (omega arith)
