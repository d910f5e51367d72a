-- Findings may be put in in any order.
use Rattle.std.proofs.Common.{◌≡◌, Bool, true, false, if◌then◌else◌, List, [], ◌∷◌, ◌++◌, filter, refl, sym, ap, ◌∙◌}
use Rattle.std.specs.Ordering.{ordering_reverse}
use Rattle.std.specs.declared.cmp.Ordering.{Ordering}
use Rattle.std.specs.declared.cmp.Ordering.TheVariants.{Less, Equal, Greater}
use Rattle.term_core.specs.declared.step.Step.{Step}
use Rattle.world_identities.specs.inside.OrderLaws.{identities_total, same_identity}
use Rattle.world_identities.specs.Order.{order_of_identities}
use Rattle.world_model.specs.Shown.{Flags, is_error, is_refusal, Identity}
use Rattle.tree_coverage.specs.Findings.{Finding, Findings, lesser, put_before, with_finding, with_all, LeadsAll, AreSorted}
use Rattle.tree_findings.specs.Merging.{merged, with_shown}
use Rattle.tree_findings.proofs.Least.{lesser_comm, lesser_assoc}

abbrev pub finding : Identity → List Step → Finding
finding i s = record { identity = i; schedule = s }

pub turned : (i j : Identity) (o : Ordering) → order_of_identities i j ≡ o → order_of_identities j i ≡ ordering_reverse o
turned i j o e = identities_total.antisymm j i ∙ ap ordering_reverse e

-- ---- one finding, by its place relative to the first

pub put_less : (f h : Finding) (hs : List Finding) → order_of_identities f.identity h.identity ≡ Less → with_finding f (h ∷ hs) ≡ f ∷ h ∷ hs
put_less f h hs e = ap (λ (o : Ordering). put_before o f h hs (with_finding f hs)) e

pub put_equal : (f h : Finding) (hs : List Finding) → order_of_identities f.identity h.identity ≡ Equal → with_finding f (h ∷ hs) ≡ finding h.identity (lesser f.schedule h.schedule) ∷ hs
put_equal f h hs e = ap (λ (o : Ordering). put_before o f h hs (with_finding f hs)) e

pub put_greater : (f h : Finding) (hs : List Finding) → order_of_identities f.identity h.identity ≡ Greater → with_finding f (h ∷ hs) ≡ h ∷ with_finding f hs
put_greater f h hs e = ap (λ (o : Ordering). put_before o f h hs (with_finding f hs)) e

-- ---- two findings, in either order

swap_less : (f g : Finding) (hs : List Finding) → order_of_identities f.identity g.identity ≡ Less → with_finding f (with_finding g hs) ≡ with_finding g (with_finding f hs)
swap_less f g [] e = put_less f g [] e ∙ sym (put_greater g f [] (turned f.identity g.identity Less e))
swap_less f g (h ∷ hs) e =
    go (order_of_identities f.identity h.identity) (order_of_identities g.identity h.identity) refl refl (swap_less f g hs e)
  where
    later : order_of_identities g.identity f.identity ≡ Greater
    later = turned f.identity g.identity Less e

    -- the first comes before all others
    before : order_of_identities f.identity h.identity ≡ Less → with_finding g (with_finding f (h ∷ hs)) ≡ f ∷ with_finding g (h ∷ hs)
    before p = ap (with_finding g) (put_less f h hs p) ∙ put_greater g f (h ∷ hs) later

    past_same : order_of_identities f.identity h.identity ≡ Equal → order_of_identities g.identity h.identity ≡ Greater
    past_same p = ap (order_of_identities g.identity) (sym (same_identity f.identity h.identity p)) ∙ later

    past : order_of_identities f.identity h.identity ≡ Greater → order_of_identities g.identity h.identity ≡ Greater
    past p =
        turned h.identity g.identity Less (identities_total.trans h.identity f.identity g.identity (turned f.identity h.identity Greater p) e)

    go : (o q : Ordering) → order_of_identities f.identity h.identity ≡ o → order_of_identities g.identity h.identity ≡ q → with_finding f (with_finding g hs) ≡ with_finding g (with_finding f hs) → with_finding f (with_finding g (h ∷ hs)) ≡ with_finding g (with_finding f (h ∷ hs))
    go Less Less p q more = ap (with_finding f) (put_less g h hs q) ∙ put_less f g (h ∷ hs) e ∙ sym (before p ∙ ap (◌∷◌ f) (put_less g h hs q))
    go Less Equal p q more = ap (with_finding f) (put_equal g h hs q) ∙ put_less f (finding h.identity (lesser g.schedule h.schedule)) hs p ∙ sym (before p ∙ ap (◌∷◌ f) (put_equal g h hs q))
    go Less Greater p q more = ap (with_finding f) (put_greater g h hs q) ∙ put_less f h (with_finding g hs) p ∙ sym (before p ∙ ap (◌∷◌ f) (put_greater g h hs q))
    go Equal q p r more =
        ap (with_finding f) (put_greater g h hs (past_same p)) ∙ put_equal f h (with_finding g hs) p ∙ sym (ap (with_finding g) (put_equal f h hs p) ∙ put_greater g (finding h.identity (lesser f.schedule h.schedule)) hs (past_same p))
    go Greater q p r more =
        ap (with_finding f) (put_greater g h hs (past p)) ∙ put_greater f h (with_finding g hs) p ∙ ap (◌∷◌ h) more ∙ sym (ap (with_finding g) (put_greater f h hs p) ∙ put_greater g h (with_finding f hs) (past p))

-- two findings of one identity are one, with the lesser schedule
pub put_twice : (f g : Finding) (hs : List Finding) → order_of_identities f.identity g.identity ≡ Equal → with_finding f (with_finding g hs) ≡ with_finding (finding g.identity (lesser f.schedule g.schedule)) hs
put_twice f g [] e = put_equal f g [] e
put_twice f g (h ∷ hs) e = go (order_of_identities g.identity h.identity) refl (put_twice f g hs e)
  where
    both : Finding
    both = finding g.identity (lesser f.schedule g.schedule)

    as_second : order_of_identities f.identity h.identity ≡ order_of_identities g.identity h.identity
    as_second = ap (λ (i : Identity). order_of_identities i h.identity) (same_identity f.identity g.identity e)

    go : (o : Ordering) → order_of_identities g.identity h.identity ≡ o → with_finding f (with_finding g hs) ≡ with_finding both hs → with_finding f (with_finding g (h ∷ hs)) ≡ with_finding both (h ∷ hs)
    go Less p more = ap (with_finding f) (put_less g h hs p) ∙ put_equal f g (h ∷ hs) e ∙ sym (put_less both h hs p)
    go Equal p more =
        ap (with_finding f) (put_equal g h hs p) ∙ put_equal f (finding h.identity (lesser g.schedule h.schedule)) hs (as_second ∙ p) ∙ ap (λ (s : List Step). finding h.identity s ∷ hs) (sym (lesser_assoc f.schedule g.schedule h.schedule)) ∙ sym (put_equal both h hs p)
    go Greater p more =
        ap (with_finding f) (put_greater g h hs p) ∙ put_greater f h (with_finding g hs) (as_second ∙ p) ∙ ap (◌∷◌ h) more ∙ sym (put_greater both h hs p)

-- ---- any two change places
pub put_swap : (f g : Finding) (hs : List Finding) → with_finding f (with_finding g hs) ≡ with_finding g (with_finding f hs)
put_swap f g hs = go (order_of_identities f.identity g.identity) refl
  where
    one : f.identity ≡ g.identity → finding g.identity (lesser f.schedule g.schedule) ≡ finding f.identity (lesser g.schedule f.schedule)
    one e = λ i. record { identity = sym e i; schedule = lesser_comm f.schedule g.schedule i }

    go : (o : Ordering) → order_of_identities f.identity g.identity ≡ o → with_finding f (with_finding g hs) ≡ with_finding g (with_finding f hs)
    go Less e = swap_less f g hs e
    go Equal e =
        put_twice f g hs e ∙ ap (λ (k : Finding). with_finding k hs) (one (same_identity f.identity g.identity e)) ∙ sym (put_twice g f hs (turned f.identity g.identity Equal e))
    go Greater e = sym (swap_less g f hs (turned f.identity g.identity Greater e))

-- ---- all that one schedule shows

pub all_after : (s : List Step) (is : List Identity) (f : Finding) (fs : List Finding) → with_all s is (with_finding f fs) ≡ with_finding f (with_all s is fs)
all_after s [] f fs = refl
all_after s (i ∷ is) f fs = ap (with_finding (finding i s)) (all_after s is f fs) ∙ put_swap (finding i s) f (with_all s is fs)

pub all_swap : (s : List Step) (is : List Identity) (t : List Step) (js : List Identity) (fs : List Finding) → with_all s is (with_all t js fs) ≡ with_all t js (with_all s is fs)
all_swap s [] t js fs = refl
all_swap s (i ∷ is) t js fs = ap (with_finding (finding i s)) (all_swap s is t js fs) ∙ sym (all_after t js (finding i s) (with_all s is fs))

-- ---- merges

pub merged_after : (f : Finding) (fs gs : List Finding) → merged (with_finding f fs) gs ≡ with_finding f (merged fs gs)
merged_after f fs [] = refl
merged_after f fs (g ∷ gs) = ap (with_finding g) (merged_after f fs gs) ∙ put_swap g f (merged fs gs)

pub merged_all : (s : List Step) (is : List Identity) (fs gs : List Finding) → merged (with_all s is fs) gs ≡ with_all s is (merged fs gs)
merged_all s [] fs gs = refl
merged_all s (i ∷ is) fs gs = merged_after (finding i s) (with_all s is fs) gs ∙ ap (with_finding (finding i s)) (merged_all s is fs gs)

-- the last of the others may come first
pub merged_last : (fs gs : List Finding) (g : Finding) → merged fs (gs ++ g ∷ []) ≡ merged (with_finding g fs) gs
merged_last fs [] g = refl
merged_last fs (h ∷ gs) g = ap (with_finding h) (merged_last fs gs g)

pub merged_with : (fs : List Finding) (g : Finding) (gs : List Finding) → merged fs (with_finding g gs) ≡ with_finding g (merged fs gs)
merged_with fs g [] = refl
merged_with fs g (h ∷ gs) = go (order_of_identities g.identity h.identity) refl (merged_with fs g gs)
  where
    go : (o : Ordering) → order_of_identities g.identity h.identity ≡ o → merged fs (with_finding g gs) ≡ with_finding g (merged fs gs) → merged fs (with_finding g (h ∷ gs)) ≡ with_finding g (merged fs (h ∷ gs))
    go Less e more = ap (merged fs) (put_less g h gs e)
    go Equal e more = ap (merged fs) (put_equal g h gs e) ∙ ap (λ (i : Identity). with_finding (finding h.identity (lesser g.schedule h.schedule)) (merged fs gs)) (same_identity g.identity h.identity e) ∙ sym (put_twice g h (merged fs gs) e)
    go Greater e more = ap (merged fs) (put_greater g h gs e) ∙ ap (with_finding h) more ∙ put_swap h g (merged fs gs)

-- a finding that the first list has, both have
pub merged_stays : (f : Finding) (fs gs : List Finding) → with_finding f fs ≡ fs → merged fs gs ≡ with_finding f (merged fs gs)
merged_stays f fs gs same = ap (λ (hs : List Finding). merged hs gs) (sym same) ∙ merged_after f fs gs

pub merged_assoc : (es fs gs : List Finding) → merged (merged es fs) gs ≡ merged es (merged fs gs)
merged_assoc es fs [] = refl
merged_assoc es fs (g ∷ gs) = ap (with_finding g) (merged_assoc es fs gs) ∙ sym (merged_with es g (merged fs gs))

leads_first : (f : Finding) (fs : List Finding) → LeadsAll f fs → with_finding f fs ≡ f ∷ fs
leads_first f [] leads = refl
leads_first f (g ∷ gs) leads = put_less f g gs leads.0

pub merged_none : (gs : List Finding) → AreSorted gs → merged [] gs ≡ gs
merged_none [] sorted = refl
merged_none (g ∷ gs) sorted = ap (with_finding g) (merged_none gs sorted.1) ∙ leads_first g gs sorted.0

pub merged_comm : (fs gs : List Finding) → AreSorted fs → AreSorted gs → merged fs gs ≡ merged gs fs
merged_comm [] gs p q = merged_none gs q
merged_comm (f ∷ fs) gs p q =
    ap (λ (hs : List Finding). merged hs gs) (sym (leads_first f fs p.0)) ∙ merged_after f fs gs ∙ ap (with_finding f) (merged_comm fs gs p.1 q)

-- ---- of errors and refusals

filter_all : (test : Identity → Bool) (s : List Step) (i : Identity) (is : List Identity) (fs : List Finding) → with_all s (filter test is) (with_all s (filter test (i ∷ [])) fs) ≡ with_all s (filter test (i ∷ is)) fs
filter_all test s i is fs = go (test i)
  where
    go : (b : Bool) → with_all s (filter test is) (with_all s (if b then i ∷ [] else []) fs) ≡ with_all s (if b then i ∷ filter test is else filter test is) fs
    go true = all_after s (filter test is) (finding i s) fs
    go false = refl

pub shown_more : (flags : Flags) (s : List Step) (i : Identity) (is : List Identity) (f : Findings) → with_shown flags s is (with_shown flags s (i ∷ []) f) ≡ with_shown flags s (i ∷ is) f
shown_more flags s i is f = λ k. record {
  errors = filter_all (is_error flags) s i is f.errors k;
  refusals = filter_all is_refusal s i is f.refusals k;
}
