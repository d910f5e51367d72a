use Rattle.std.proofs.Common.{◌≡◌, [], List, Vec, Global, map, sym, subst, IfOk, IfErr}
use Rattle.clap.specs.Values.{kind_of}
use Rattle.clap.specs.Words.{found_of}
use Rattle.clap.specs.declared.error.Error.{Error}
use Rattle.clap.specs.declared.error.kind.ErrorKind.TheVariants.{OutOfMemory}
use Rattle.term_core.specs.Meaning.{Meaning}
use Rattle.term_core.specs.Term.{meaning_of}
use Rattle.term_core.specs.declared.term.Term.{Term}
use Rattle.program_words.specs.Words.{AreSmall}
use Rattle.program_words.specs.inside.Found.{AreTextsOf}
use Rattle.program_words.proofs.Texts.{no_texts_found, none_yet, texts_found}
use Rattle.program_words.proofs.excused.read_normal.Goals as goal

pub returns-in-Some-clause-ok : goal.returns-in-Some-clause-ok
returns-in-Some-clause-ok c =
    let texts = texts_found (found_of c.args.given.now) c.get_strs.result c.get_strs.ensures c.in-Some.texts c.in-Some.is in
    subst (λ ts. IfOk c.read_terms.result (λ (terms : Vec Term Global). AreTextsOf (map meaning_of terms.items) ts)) (sym texts) c.read_terms.ensures.ok

pub returns-in-Some-clause-refused : goal.returns-in-Some-clause-refused
returns-in-Some-clause-refused c =
    let texts = texts_found (found_of c.args.given.now) c.get_strs.result c.get_strs.ensures c.in-Some.texts c.in-Some.is in
    subst (λ ts. IfErr c.read_terms.result (λ (e : Error). (terms : List Meaning) → AreTextsOf terms ts → AreSmall terms → kind_of e ≡ OutOfMemory)) (sym texts) c.read_terms.ensures.refused

pub returns-in-None-clause-ok : goal.returns-in-None-clause-ok
returns-in-None-clause-ok c =
    let texts = no_texts_found (found_of c.args.given.now) c.get_strs.result c.get_strs.ensures c.in-None.is in
    subst (AreTextsOf (map meaning_of c.new.result.items)) (sym texts) (subst (λ (xs : List Term). AreTextsOf (map meaning_of xs) []) (sym c.new.ensures.items) (none_yet []))
