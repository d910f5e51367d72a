-- What calls of tables read and change, of the values that they read.
use Rattle.std.proofs.Common.{◌≡◌, ◌∙◌, ◌<◌, ◌+◌, ℕ, true, List, [], ◌∷◌, ◌++◌, Option, Some, None, option_map, map, refl, sym, ap, subst, true≢false, get_or, take, length}
use Rattle.std.proofs.lemmas.List.{take_more}
use Rattle.std.specs.Prelude.{IsSome}
use Rattle.term_core.specs.Term.{meaning_of}
use Rattle.term_core.specs.declared.term.Term.{Term}
use Rattle.world_model.specs.Calls.{Call, New}
use Rattle.world_model.specs.Cells as cells
use Rattle.world_model.specs.Cells.{Cell, Contents}
use Rattle.world_model.specs.Changes.{Change}
use Rattle.world_model.specs.Events.{Refusal}
use Rattle.world_model.specs.TableAccess.{Found, as_found, meant, table_if}
use Rattle.world_model.specs.Lines.{line}
use Rattle.world_model.specs.Names.{Name, Pid, Ref}
use Rattle.world_model.specs.NewTables.{by_rule, new_reads}
use Rattle.world_model.specs.Steps.{ends_itself, reads_if_ended, reads_of_call}
use Rattle.world_model.specs.Tables as tables
use Rattle.world_model.specs.Tables.{TableOption}
use Rattle.world_model.specs.declared.rule.Rule.{Rule}
use Rattle.world_planned.specs.inside.Planned.{Adds}
use Rattle.world_planned.specs.Replies.{NamesMeanTables}
use Rattle.world_planned.specs.inside.PlannedCalls.{IsPlanned, IsReply, changes_of_reply}
use Rattle.world_planned.specs.declared.planned.Planned.{Planned}
use Rattle.world_planned.specs.declared.reply.Reply.{Reply}
use Rattle.world_planned.proofs.Adding.{adds_as, adds_then, end_nil, map_both}

-- ---- loops

-- one item more of a list that is gone through
pub adds_item : {X : Type 0} (rs : List X → List Cell) (ks : List X → List Change) (more_rs : X → List Cell) (more_ks : X → List Change)
    → ((xs : List X) (x : X) → rs (xs ++ x ∷ []) ≡ rs xs ++ more_rs x) → ((xs : List X) (x : X) → ks (xs ++ x ∷ []) ≡ ks xs ++ more_ks x)
    → (xs : List X) (i : ℕ) (x : X) (f g h : Planned) → i < length xs → x ≡ get_or xs i x
    → Adds (rs (take i xs)) (ks (take i xs)) f g → Adds (more_rs x) (more_ks x) g h → Adds (rs (take (i + 1) xs)) (ks (take (i + 1) xs)) f h
adds_item {X = X} rs ks more_rs more_ks grows alters_ xs i x f g h lt is before now_ =
    let one : take (i + 1) xs ≡ take i xs ++ x ∷ [] = take_more xs i x lt ∙ ap (λ (y : X). take i xs ++ y ∷ []) (sym is) in
    adds_as (rs (take i xs) ++ more_rs x) (rs (take (i + 1) xs)) (ks (take i xs) ++ more_ks x) (ks (take (i + 1) xs)) f h
    (sym (ap rs one ∙ grows (take i xs) x)) (sym (ap ks one ∙ alters_ (take i xs) x)) (adds_then (rs (take i xs)) (more_rs x) (ks (take i xs)) (more_ks x) f g h before now_)

-- ---- rows

-- one key more
pub keys_more : (t : Ref) (ks : List Term) (k : Term) → map (cells.Row t) (map meaning_of (ks ++ k ∷ [])) ≡ map (cells.Row t) (map meaning_of ks) ++ cells.Row t (meaning_of k) ∷ []
keys_more t ks k = ap (map (cells.Row t)) (map_both meaning_of ks (k ∷ [])) ∙ map_both (cells.Row t) (map meaning_of ks) (meaning_of k ∷ [])

-- ---- finding

no_found : (t : Ref) (x : Option tables.Table) → IsSome x → None ≡ as_found t x → ⊥
no_found t None some none = absurd (true≢false (sym some))
no_found t (Some table) some none = absurd cc

pub meant_none : (v : Contents) → NamesMeanTables v → (name : Name) (o : Option Ref) → v (cells.TableName name) ≡ o → None ≡ meant v o → [] ≡ table_if o
meant_none v means name None is none = refl
meant_none v means name (Some t) is none = absurd (no_found t (v (cells.Table t)) (means name t is) none)

found_ref : (f : Found) (t : Ref) (x : Option tables.Table) → Some f ≡ as_found t x → f.ref ≡ t
found_ref f t None is = absurd cc
found_ref f t (Some table) is = ap (λ (o : Option Found). ref_in t o) is
  where
    ref_in : Ref → Option Found → Ref
    ref_in u None = u
    ref_in u (Some g) = g.ref

pub meant_some : (v : Contents) (f : Found) (o : Option Ref) → Some f ≡ meant v o → cells.Table f.ref ∷ [] ≡ table_if o
meant_some v f None is = absurd cc
meant_some v f (Some t) is = ap (λ u. cells.Table u ∷ []) (found_ref f t (v (cells.Table t)) is)

-- ---- what a call reads

-- a call that does not end its caller reads what its line says
pub reads_by_line : (v : Contents) (p : Pid) (call : Call) → ends_itself v p call ≡ None → (line v p call).reads ≡ reads_of_call v p call
reads_by_line v p call on = sym (end_nil (line v p call).reads) ∙ ap (λ e. (line v p call).reads ++ reads_if_ended v p e) (sym on)

-- a new table reads its name, if it is to be found by it
pub new_line_reads : (v : Contents) (p : Pid) (name : Name) (options : Option (List TableOption)) → new_reads name options ≡ (line v p (New (Some name) options)).reads
new_line_reads v p name None = refl
new_line_reads v p name (Some os) = refl

pub new_none : (o : Option Refusal) (r : Option Rule) → option_map (by_rule None) r ≡ o → r ≡ None → o ≡ None
new_none o r e none = sym e ∙ ap (option_map (by_rule None)) none

-- what `new/2` of a table with this name results in
pub new_plans : (v : Contents) (p : Pid) (n : Option Name) (options : Option (List TableOption)) (name : Name) (reply : Reply) (f g : Planned) → n ≡ Some name
    → IsReply v p (New (Some name) options) reply → Adds (new_reads name options) (changes_of_reply v p (New (Some name) options) reply) f g → IsPlanned v p (New n options) reply f g
new_plans v p n options name reply f g is replies adds =
    let ks = changes_of_reply v p (New (Some name) options) reply in
    subst (λ o. IsPlanned v p (New o options) reply f g) (sym is) (record {
      reply_is = replies;
      adds = adds_as (new_reads name options) (reads_of_call v p (New (Some name) options)) ks ks f g (new_line_reads v p name options ∙ reads_by_line v p (New (Some name) options) refl) refl adds;
    })
