use Rattle.std.proofs.Common.{◌∷◌, [], ◌∙◌, ap, arith, map, refl}
use Rattle.std.proofs.lemmas.List.{map-append}
use Rattle.term_core.specs.Term.{meaning_of, list_onto}
use Rattle.term_reader.specs.inside.Marks.{InList}
use Rattle.term_reader.proofs.Marks.{bad_continues, by_mark, steps, marked, wanted, found, comma_in_list, list_ends, no_mark_in_list}
use Rattle.term_reader.proofs.brackets.go_on_in_list.Goals as goal

pub returns-then-mark-eq44 : goal.returns-then-mark-eq44
returns-then-mark-eq44 c =
    let heads = ap (λ ts. InList (map meaning_of ts)) c.in_ok-push.ensures.items ∙ ap InList (map-append meaning_of c.args.heads.items (c.args.head ∷ [])) in
    steps _ _ _ (c.args.mark ∷ []) refl (omega arith)
    (λ left. marked _ _ _ 44 _ _ c.if-mark-eq44.true (wanted _ (InList _) c.args.outer.items c.push-then-mark-eq44.new.self.items _ _ c.in_ok-push-2.ensures.items heads (comma_in_list _ _ _ _)))

pub returns-then-mark-ne93 : goal.returns-then-mark-ne93
returns-then-mark-ne93 c = bad_continues _ _ _ _ _ (omega arith) (by_mark _ _ _ _ (λ left m k. no_mark_in_list _ _ _ _ left c.if-mark-eq44.false c.if-mark-ne93.true c.if-mark-eq124.false m k))

pub returns : goal.returns
returns c =
    let made = c.in_ok-list_onto.ensures ∙ ap (list_onto _) c.in_ok-end.ensures in
    steps _ _ _ (c.args.mark ∷ []) refl (omega arith) (λ left. marked _ _ _ 93 _ _ c.if-mark-ne93.false (found _ _ _ _ _ made (list_ends _ _ _ _)))
