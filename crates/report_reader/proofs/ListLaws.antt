-- Lists of findings: what comes last, what is in the middle, and what a filter keeps.
use Rattle.std.proofs.Common.{◌≡◌, ◌↔◌, ◌⊎◌, inl, inr, ⊎_elim, ◌&&◌, ℕ, suc, ◌+◌, ◌-◌, ◌<◌, Bool, true, false, cond, not, List, [], ◌∷◌, ◌++◌, length, map, get_or, filter, ap, subst, sym, refl, ◌∙◌, arith, append_assoc}
use Rattle.std.specs.List.{AllByRecursion}
use Rattle.std.specs.Ordering.{is_gt, is_lt}
use Rattle.std.specs.declared.cmp.Ordering.{Ordering}
use Rattle.std.specs.declared.cmp.Ordering.TheVariants.{Less, Equal, Greater}
use Rattle.term_core.proofs.Pieces.{all-append}
use Rattle.term_core.specs.Schedule.{AreLawful}
use Rattle.term_core.specs.StepOrder.{order_of_schedules}
use Rattle.term_core.specs.declared.step.Step.{Step}
use Rattle.world_model.specs.Names.{IsAmong}
use Rattle.world_model.specs.Shown.{Identity}
use Rattle.world_identities.specs.inside.OrderLaws.{identities_total, same_identity}
use Rattle.tree_coverage.specs.Findings.{Finding, LeadsAll, AreSorted, lesser, put_before, with_finding}
use Rattle.world_identities.specs.Order.{order_of_identities}
use Rattle.tree_findings.proofs.Putting.{merged_after, merged_comm, put_greater, put_less, turned}
use Rattle.tree_findings.proofs.Sorting.{sorted_with}
use Rattle.tree_findings.specs.Merging.{merged}
use Rattle.report_text.specs.ReportText.{findings_from, text_of_finding}
use Rattle.report_reader.specs.Lawful.{AreLawfulFindings, IsLawfulFinding}
use Rattle.report_reader.specs.inside.Reading.{AllComeBefore}

-- ---- what comes last

pub all_next : (P : Finding → Type 0) (fs : List Finding) (h : Finding) (hs : List Finding) → AllByRecursion P (fs ++ h ∷ hs) → P h
all_next P [] h hs all = all.0
all_next P (f ∷ fs) h hs all = all_next P fs h hs all.1

-- where all others come before it, a finding is put at the end
pub with_last : (f : Finding) (fs : List Finding) → AllComeBefore fs f.identity → with_finding f fs ≡ fs ++ f ∷ []
with_last f [] before = refl
with_last f (g ∷ gs) before = put_greater f g gs (turned g.identity f.identity Less before.0) ∙ ap (λ (hs : List Finding). g ∷ hs) (with_last f gs before.1)

leads_last : (f g : Finding) (fs : List Finding) → LeadsAll f fs → order_of_identities f.identity g.identity ≡ Less → LeadsAll f (fs ++ g ∷ [])
leads_last f g [] leads less = (less, tt)
leads_last f g (h ∷ hs) leads less = (leads.0, leads_last f g hs leads.1 less)

pub sorted_last : (fs : List Finding) (g : Finding) → AreSorted fs → AllComeBefore fs g.identity → AreSorted (fs ++ g ∷ [])
sorted_last [] g sorted before = (tt, tt)
sorted_last (f ∷ fs) g sorted before = (leads_last f g fs sorted.0 before.0, sorted_last fs g sorted.1 before.1)

pub lawful_last : (test : Identity → Bool) (fs : List Finding) (f : Finding) → AreLawfulFindings test fs → AllComeBefore fs f.identity → IsLawfulFinding f → test f.identity ≡ true → AreLawfulFindings test (fs ++ f ∷ [])
lawful_last test fs f all before lawful passes = record {
  sorted = sorted_last fs f all.sorted before;
  lawful = all-append IsLawfulFinding fs (f ∷ []) all.lawful (lawful, tt);
  pass = all-append (λ (g : Finding). test g.identity ≡ true) fs (f ∷ []) all.pass (passes, tt);
}

-- the last of findings in order decides
pub all_before : (fs : List Finding) (f : Finding) (i : Identity) → AreSorted (fs ++ f ∷ []) → order_of_identities f.identity i ≡ Less → AllComeBefore (fs ++ f ∷ []) i
all_before [] f i sorted less = (less, tt)
all_before (g ∷ fs) f i sorted less = (identities_total.trans g.identity f.identity i (leads_middle g f fs [] sorted.0) less, all_before fs f i sorted.1 less)
  where
    leads_middle : (g f : Finding) (fs hs : List Finding) → LeadsAll g (fs ++ f ∷ hs) → order_of_identities g.identity f.identity ≡ Less
    leads_middle g f [] hs leads = leads.0
    leads_middle g f (h ∷ fs) hs leads = leads_middle g f fs hs leads.1

-- the last of stored findings
pub last_of : {X : Type 0} (v : X → Finding) (xs : List X) (x : X) → 0 < length xs → x ≡ get_or xs (length xs - 1) x → (front : List Finding) × (map v xs ≡ front ++ v x ∷ [])
last_of v [] x some e = absurd (omega arith)
last_of {X} v (y ∷ []) x some e = ([], ap (λ (z : X). v z ∷ []) (sym e))
last_of {X} v (y ∷ z ∷ zs) x some e =
    let place : length (y ∷ z ∷ zs) - 1 ≡ suc (length (z ∷ zs) - 1) = omega arith in
    let more = last_of v (z ∷ zs) x (omega arith) (e ∙ ap (λ k. get_or (y ∷ z ∷ zs) k x) place) in
    (v y ∷ more.0, ap (λ (fs : List Finding). v y ∷ fs) more.1)

pub is_less : (o : Ordering) → is_lt o ≡ true → o ≡ Less
is_less Less e = refl
is_less Equal e = absurd cc
is_less Greater e = absurd cc

-- it decides
pub last_decides : {X : Type 0} (v : X → Finding) (xs : List X) (x : X) (fs : List Finding) (i : Identity) (o : Ordering) (b : Bool) → map v xs ≡ fs → AreSorted fs → 0 < length xs → x ≡ get_or xs (length xs - 1) x
    → o ≡ order_of_identities (v x).identity i → b ≡ is_lt o → (b ≡ true) ↔ AllComeBefore fs i
last_decides v xs x fs i o b are sorted some e is tells =
    let last = last_of v xs x some e in
    let parts : fs ≡ last.0 ++ v x ∷ [] = sym are ∙ last.1 in (
      λ h. subst (λ (gs : List Finding). AllComeBefore gs i) (sym parts)
          (all_before last.0 (v x) i (subst AreSorted parts sorted) (sym is ∙ is_less o (sym tells ∙ h))),
      λ all. tells ∙ ap is_lt (is ∙ all_next (λ (g : Finding). order_of_identities g.identity i ≡ Less) last.0 (v x) [] (subst (λ (gs : List Finding). AllComeBefore gs i) parts all)),
    )

-- ---- what is in the middle

leads_next : (f h : Finding) (gs hs : List Finding) → LeadsAll f (gs ++ h ∷ hs) → order_of_identities f.identity h.identity ≡ Less
leads_next f h [] hs leads = leads.0
leads_next f h (g ∷ gs) hs leads = leads_next f h gs hs leads.1

pub before_next : (fs : List Finding) (h : Finding) (hs : List Finding) → AreSorted (fs ++ h ∷ hs) → AllComeBefore fs h.identity
before_next [] h hs sorted = tt
before_next (f ∷ fs) h hs sorted = (leads_next f h fs hs sorted.0, before_next fs h hs sorted.1)

pub among_middle : (fs : List Finding) (h : Finding) (hs : List Finding) → IsAmong h (fs ++ h ∷ hs)
among_middle [] h hs = inl refl
among_middle (f ∷ fs) h hs = inr (among_middle fs h hs)

-- what is kept was there
pub among_kept : (test : Finding → Bool) (f : Finding) (fs : List Finding) → IsAmong f (filter test fs) → IsAmong f fs
among_kept test f [] is = is
among_kept test f (g ∷ gs) is = go (test g) (among_kept test f gs) is
  where
    go : (b : Bool) → (IsAmong f (filter test gs) → IsAmong f gs) → IsAmong f (cond b (g ∷ filter test gs) (filter test gs)) → (g ≡ f) ⊎ IsAmong f gs
    go true more is = ⊎_elim (λ e. inl e) (λ later. inr (more later)) is
    go false more is = inr (more is)

-- ---- their texts

pub findings_from-append : (word : List ℕ) (n m : ℕ) (fs hs : List Finding) → m ≡ length fs + n → findings_from word n (fs ++ hs) ≡ findings_from word n fs ++ findings_from word m hs
findings_from-append word n m [] hs e = ap (λ k. findings_from word k hs) (omega (arith, e))
findings_from-append word n m (f ∷ fs) hs e =
    ap (λ w. text_of_finding word n f ++ w) (findings_from-append word (n + 1) m fs hs (omega (arith, e)))
    ∙ sym (append_assoc (text_of_finding word n f) (findings_from word (n + 1) fs) (findings_from word m hs))

-- ---- filters

pub and_first : (a b : Bool) → (a && b) ≡ true → a ≡ true
and_first true b e = refl
and_first false b e = absurd cc

pub and_second : (a b : Bool) → (a && b) ≡ true → b ≡ true
and_second true b e = e
and_second false b e = absurd cc

pub and_both : (a b : Bool) → a ≡ true → b ≡ true → (a && b) ≡ true
and_both a b e f = ap (λ (c : Bool). c && b) e ∙ f

pub all_by : (P Q : Finding → Type 0) → ((f : Finding) → P f → Q f) → (fs : List Finding) → AllByRecursion P fs → AllByRecursion Q fs
all_by P Q to [] all = tt
all_by P Q to (f ∷ fs) all = (to f all.0, all_by P Q to fs all.1)

pub all_kept : (P : Finding → Type 0) (test : Finding → Bool) (fs : List Finding) → AllByRecursion P fs → AllByRecursion P (filter test fs)
all_kept P test [] all = tt
all_kept P test (f ∷ fs) all = go (test f) (all_kept P test fs all.1)
  where
    go : (b : Bool) → AllByRecursion P (filter test fs) → AllByRecursion P (cond b (f ∷ filter test fs) (filter test fs))
    go true more = (all.0, more)
    go false more = more

pub all_pass : (test : Finding → Bool) (fs : List Finding) → AllByRecursion (λ f. test f ≡ true) (filter test fs)
all_pass test [] = tt
all_pass test (f ∷ fs) = go (test f) refl (all_pass test fs)
  where
    go : (b : Bool) → test f ≡ b → AllByRecursion (λ f. test f ≡ true) (filter test fs) → AllByRecursion (λ f. test f ≡ true) (cond b (f ∷ filter test fs) (filter test fs))
    go true is more = (is, more)
    go false is more = more

pub leads_kept : (test : Finding → Bool) (f : Finding) (fs : List Finding) → LeadsAll f fs → LeadsAll f (filter test fs)
leads_kept test f [] leads = tt
leads_kept test f (g ∷ gs) leads = go (test g) (leads_kept test f gs leads.1)
  where
    go : (b : Bool) → LeadsAll f (filter test gs) → LeadsAll f (cond b (g ∷ filter test gs) (filter test gs))
    go true more = (leads.0, more)
    go false more = more

pub sorted_kept : (test : Finding → Bool) (fs : List Finding) → AreSorted fs → AreSorted (filter test fs)
sorted_kept test [] sorted = tt
sorted_kept test (f ∷ fs) sorted = go (test f) (sorted_kept test fs sorted.1)
  where
    go : (b : Bool) → AreSorted (filter test fs) → AreSorted (cond b (f ∷ filter test fs) (filter test fs))
    go true more = (leads_kept test f fs sorted.0, more)
    go false more = more

-- those of lawful findings that pass a second test
pub lawful_kept : (one two : Identity → Bool) (fs : List Finding) → AreLawfulFindings one fs → AreLawfulFindings (λ i. one i && two i) (filter (λ f. two f.identity) fs)
lawful_kept one two fs all = record {
  sorted = sorted_kept (λ f. two f.identity) fs all.sorted;
  lawful = all_kept IsLawfulFinding (λ f. two f.identity) fs all.lawful;
  pass = all_both (filter (λ f. two f.identity) fs) (all_kept (λ f. one f.identity ≡ true) (λ f. two f.identity) fs all.pass) (all_pass (λ f. two f.identity) fs);
}
  where
    all_both : (gs : List Finding) → AllByRecursion (λ f. one f.identity ≡ true) gs → AllByRecursion (λ f. two f.identity ≡ true) gs → AllByRecursion (λ f. (one f.identity && two f.identity) ≡ true) gs
    all_both [] p q = tt
    all_both (g ∷ gs) p q = (and_both (one g.identity) (two g.identity) p.0 q.0, all_both gs p.1 q.1)

-- ---- merges

pub leads_first : (f : Finding) (fs : List Finding) → LeadsAll f fs → with_finding f fs ≡ f ∷ fs
leads_first f [] leads = refl
leads_first f (g ∷ gs) leads = put_less f g gs leads.0

-- what holds of findings, and of one that has the identity of the second and the lesser schedule, holds where they are put together
abbrev IsShared : (Finding → Type 0) → Type 0
IsShared P = (g m : Finding) → P g → P m → P (record { identity = m.identity; schedule = lesser g.schedule m.schedule })

all_with : (P : Finding → Type 0) → IsShared P → (g : Finding) (ms : List Finding) → P g → AllByRecursion P ms → AllByRecursion P (with_finding g ms)
all_with P shared g [] p all = (p, tt)
all_with P shared g (m ∷ ms) p all = go (order_of_identities g.identity m.identity) (all_with P shared g ms p all.1)
  where
    go : (o : Ordering) → AllByRecursion P (with_finding g ms) → AllByRecursion P (put_before o g m ms (with_finding g ms))
    go Less more = (p, all)
    go Equal more = (shared g m p all.0, all.1)
    go Greater more = (all.0, more)

all_merged : (P : Finding → Type 0) → IsShared P → (fs gs : List Finding) → AllByRecursion P fs → AllByRecursion P gs → AllByRecursion P (merged fs gs)
all_merged P shared fs [] p q = p
all_merged P shared fs (g ∷ gs) p q = all_with P shared g (merged fs gs) q.0 (all_merged P shared fs gs p q.1)

sorted_merged : (fs gs : List Finding) → AreSorted fs → AreSorted (merged fs gs)
sorted_merged fs [] sorted = sorted
sorted_merged fs (g ∷ gs) sorted = sorted_with g (merged fs gs) (sorted_merged fs gs sorted)

lesser_lawful : (s t : List Step) → AreLawful s → AreLawful t → AreLawful (lesser s t)
lesser_lawful s t h k = go (is_gt (order_of_schedules s t))
  where
    go : (b : Bool) → AreLawful (cond b t s)
    go true = k
    go false = h

pub merged_lawful : (test : Identity → Bool) (fs gs : List Finding) → AreLawfulFindings test fs → AreLawfulFindings test gs → AreLawfulFindings test (merged fs gs)
merged_lawful test fs gs h k = record {
  sorted = sorted_merged fs gs h.sorted;
  lawful = all_merged IsLawfulFinding (λ g m p q. record { identity = q.identity; schedule = lesser_lawful g.schedule m.schedule p.schedule q.schedule }) fs gs h.lawful k.lawful;
  pass = all_merged (λ f. test f.identity ≡ true) (λ g m p q. q) fs gs h.pass k.pass;
}

-- the two parts of findings in order result in them again
pub merged_parts : (test : Identity → Bool) (fs : List Finding) → AreSorted fs → merged (filter (λ f. not (test f.identity)) fs) (filter (λ f. test f.identity) fs) ≡ fs
merged_parts test [] sorted = refl
merged_parts test (f ∷ fs) sorted = go (test f.identity) (ap (with_finding f) (merged_parts test fs sorted.1) ∙ leads_first f fs sorted.0)
  where
    others : List Finding
    others = filter (λ g. not (test g.identity)) fs

    those : List Finding
    those = filter (λ g. test g.identity) fs

    go : (b : Bool) → with_finding f (merged others those) ≡ f ∷ fs → merged (cond (not b) (f ∷ others) others) (cond b (f ∷ those) those) ≡ f ∷ fs
    go true put = put
    go false put = ap (λ (gs : List Finding). merged gs those) (sym (leads_first f others (leads_kept (λ g. not (test g.identity)) f fs sorted.0))) ∙ merged_after f others those ∙ put

-- a filter does not see what does not pass it
filter_out : (test : Identity → Bool) (g : Finding) (ms : List Finding) → test g.identity ≡ false → filter (λ f. test f.identity) (with_finding g ms) ≡ filter (λ f. test f.identity) ms
filter_out test g [] out = ap (λ (b : Bool). cond b (g ∷ []) []) out
filter_out test g (m ∷ ms) out = go (order_of_identities g.identity m.identity) refl (filter_out test g ms out)
  where
    left : List Finding
    left = filter (λ f. test f.identity) ms

    go : (o : Ordering) → order_of_identities g.identity m.identity ≡ o → filter (λ f. test f.identity) (with_finding g ms) ≡ left
        → filter (λ f. test f.identity) (put_before o g m ms (with_finding g ms)) ≡ cond (test m.identity) (m ∷ left) left
    go Less is more = ap (λ (b : Bool). cond b (g ∷ cond (test m.identity) (m ∷ left) left) (cond (test m.identity) (m ∷ left) left)) out
    go Equal is more =
        let too : test m.identity ≡ false = ap test (sym (same_identity g.identity m.identity is)) ∙ out in
        ap (λ (b : Bool). cond b (record { identity = m.identity; schedule = lesser g.schedule m.schedule } ∷ left) left) too ∙ sym (ap (λ (b : Bool). cond b (m ∷ left) left) too)
    go Greater is more = ap (λ (gs : List Finding). cond (test m.identity) (m ∷ gs) gs) more

filter_merged : (test : Identity → Bool) (fs gs : List Finding) → AllByRecursion (λ g. test g.identity ≡ false) gs → filter (λ f. test f.identity) (merged fs gs) ≡ filter (λ f. test f.identity) fs
filter_merged test fs [] none = refl
filter_merged test fs (g ∷ gs) none = filter_out test g (merged fs gs) none.0 ∙ filter_merged test fs gs none.1

filter_all : (test : Identity → Bool) (fs : List Finding) → AllByRecursion (λ f. test f.identity ≡ true) fs → filter (λ f. test f.identity) fs ≡ fs
filter_all test [] all = refl
filter_all test (f ∷ fs) all =
    ap (λ (b : Bool). cond b (f ∷ filter (λ g. test g.identity) fs) (filter (λ g. test g.identity) fs)) all.0 ∙ ap (λ (gs : List Finding). f ∷ gs) (filter_all test fs all.1)

-- what does not pass a test, and what does, put together: each is a part of that
pub first_part : (test : Identity → Bool) (fs gs : List Finding) → AllByRecursion (λ f. test f.identity ≡ false) fs → AllByRecursion (λ g. test g.identity ≡ true) gs → filter (λ f. not (test f.identity)) (merged fs gs) ≡ fs
first_part test fs gs none all =
    filter_merged (λ i. not (test i)) fs gs (all_by (λ g. test g.identity ≡ true) (λ g. not (test g.identity) ≡ false) (λ g e. ap not e) gs all)
    ∙ filter_all (λ i. not (test i)) fs (all_by (λ f. test f.identity ≡ false) (λ f. not (test f.identity) ≡ true) (λ f e. ap not e) fs none)

pub second_part : (test : Identity → Bool) (fs gs : List Finding) → AreSorted fs → AreSorted gs → AllByRecursion (λ f. test f.identity ≡ false) fs → AllByRecursion (λ g. test g.identity ≡ true) gs → filter (λ f. test f.identity) (merged fs gs) ≡ gs
second_part test fs gs h k none all =
    ap (filter (λ f. test f.identity)) (merged_comm fs gs h k) ∙ filter_merged test gs fs none ∙ filter_all test gs all
