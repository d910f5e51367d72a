use Rattle.std.proofs.Common.{◌≡◌, ◌∙◌, [], List, map, sym, ap, subst, arith}
use Rattle.std.specs.Prelude.{Err}
use Rattle.std.proofs.lemmas.List.{take_all}
use Rattle.std.proofs.lemmas.Result.{err_from_is_err_and}
use Rattle.term_core.specs.Meaning.{Meaning}
use Rattle.term_core.specs.Term.{meaning_of}
use Rattle.term_core.specs.declared.term.Term.{Term}
use Rattle.clap.specs.Values.{kind_of}
use Rattle.clap.specs.declared.error.Error.{Error}
use Rattle.clap.specs.declared.error.kind.ErrorKind.TheVariants.{OutOfMemory}
use Rattle.program_words.specs.Words.{AreSmall}
use Rattle.program_words.specs.inside.Found.{AreTextsOf}
use Rattle.program_words.proofs.Texts.{bors_length, few_texts, if_err, none_yet, refused_at, term_more, texts_behind}
use Rattle.program_words.proofs.excused.read_terms.Goals as goal

pub returns-then-texts-gt-MOST_NORMAL-clause-refused : goal.returns-then-texts-gt-MOST_NORMAL-clause-refused
returns-then-texts-gt-MOST_NORMAL-clause-refused c terms is small =
    absurd (omega (arith, c.if-texts-gt-MOST_NORMAL.true, few_texts terms _ is, bors_length c.args.texts.now))

pub loop-text-init : goal.loop-text-init
loop-text-init c = subst (λ (xs : List Term). AreTextsOf (map meaning_of xs) []) (sym c.new-terms.ensures.items) (none_yet [])

pub loop-text-preserved : goal.loop-text-preserved
loop-text-preserved c =
    term_more c.loop-text.terms.items c.push.new.self.items c.in_ok-read_text.field-0 c.args.texts.now c.loop-text.text-index _ c.in_ok-push.ensures.items c.loop-text-test.true
    c.if-texts-gt-MOST_NORMAL.false c.loop-text.invariant c.in_ok-read_text.ensures.ok.1 c.in_ok-read_text.ensures.ok.0

pub returns-in_err-read_text-clause-refused : goal.returns-in_err-read_text-clause-refused
returns-in_err-read_text-clause-refused c =
    let p = err_from_is_err_and c.from_residual-in_err-read_text.result c.from_residual-in_err-read_text.ensures.1 in
    if_err (λ (e : Error). (terms : List Meaning) → AreTextsOf terms (texts_behind c.args.texts.now) → AreSmall terms → kind_of e ≡ OutOfMemory) _ c.in_err-read_text.field-0.0 (p.1 ∙ ap Err p.2)
    (refused_at (kind_of c.in_err-read_text.field-0.0 ≡ OutOfMemory) c.args.texts.now c.loop-text.text-index _ c.loop-text-test.true c.in_err-read_text.ensures.refused)

pub returns-clause-ok : goal.returns-clause-ok
returns-clause-ok c =
    subst (AreTextsOf (map meaning_of c.loop-text.terms.items))
    (take_all c.loop-text.text-index (texts_behind c.args.texts.now) (omega (arith, c.loop-text-test.false, bors_length c.args.texts.now))) c.loop-text.invariant
