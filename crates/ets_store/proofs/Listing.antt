-- All objects of a map, and the keys of objects that are put in.
use Rattle.std.proofs.Common.{◌≡◌, ℕ, ◌+◌, ◌-◌, ◌^◌, ◌≤◌, min, length, length-append, arith, Bool, true, false, ◌||◌, List, [], ◌∷◌, ◌++◌, map, Option, Some, None, refl, sym, ap, ◌∙◌, append_assoc}
use Rattle.std.proofs.lemmas.List.{map-append}
use Rattle.std.specs.List.{list_any, cons_option}
use Rattle.term_core.specs.Meaning.{Meaning}
use Rattle.term_core.specs.declared.term.Term.{Term}
use Rattle.world_model.specs.Calls.{has_items}
use Rattle.world_model.specs.Rows.{Rows, Key, Object, joined, all_objects, part_at, parts_at, under}
use Rattle.world_model.specs.Terms.{tuple}
use Rattle.ets_store.specs.inside.Shown.{shown, rows_of, AreRising}
use Rattle.ets_store.specs.TableRows.{one_has_key}
use Rattle.ets_store.proofs.Maps.{entries_shown}

-- ---- all objects

abbrev pub objects_in : List (Term × List Object) → List Object
objects_in [] = []
objects_in (e ∷ es) = e.1 ++ objects_in es

joined_shown : (es : List (Term × List Object)) → joined (map (λ (e : Key × List Object). e.1) (shown es)) ≡ objects_in es
joined_shown [] = refl
joined_shown (e ∷ es) = ap (λ os. e.1 ++ os) (joined_shown es)

pub all_shown : (es fs : List (Term × List Object)) (rows : Rows) → AreRising es → rows_of es ≡ rows → fs ≡ es → objects_in fs ≡ all_objects rows
all_shown es fs rows h is e = ap objects_in e ∙ sym (ap (λ gs. joined (map (λ (g : Key × List Object). g.1) gs)) (entries_shown es h) ∙ joined_shown es) ∙ ap all_objects is

pub listed_on : (old new : List Meaning) (whole : List Meaning) (es fs : List (Term × List Object)) (k : Term) (os : List Object) → es ≡ (k, os) ∷ fs → new ≡ old ++ map tuple os → old ++ map tuple (objects_in es) ≡ whole → new ++ map tuple (objects_in fs) ≡ whole
listed_on old new whole es fs k os e step is =
    ap (λ cs. cs ++ map tuple (objects_in fs)) step
    ∙ append_assoc old (map tuple os) (map tuple (objects_in fs))
    ∙ ap (λ cs. old ++ cs) (sym (map-append tuple os (objects_in fs)))
    ∙ ap (λ gs. old ++ map tuple (objects_in gs)) (sym e)
    ∙ is

-- ---- the keys of objects

or_false : (b : Bool) → b || false ≡ b
or_false true = refl
or_false false = refl

pub one_key : (p : ℕ) (o : Object) (rows : Rows) (m : Meaning) (b : Bool) → b ≡ has_items (under rows m) → Some m ≡ part_at p o → b ≡ one_has_key p (o ∷ []) rows
one_key p o rows m b e is = e ∙ sym (or_false (has_items (under rows m))) ∙ ap (λ k. list_any (λ key. has_items (under rows key)) (cons_option k [])) is

pub no_key : (p : ℕ) (o : Object) (rows : Rows) → None ≡ part_at p o → false ≡ one_has_key p (o ∷ []) rows
no_key p o rows is = ap (λ k. list_any (λ key. has_items (under rows key)) (cons_option k [])) is

either : (f : Key → Bool) (k : Option Key) (ks : List Key) → list_any f (cons_option k ks) ≡ list_any f (cons_option k []) || list_any f ks
either f None ks = refl
either f (Some k) ks = ap (λ b. b || list_any f ks) (sym (or_false (f k)))

pub one_more_key : (p : ℕ) (o : Object) (os : List Object) (rows : Rows) → one_has_key p (o ∷ os) rows ≡ one_has_key p (o ∷ []) rows || one_has_key p os rows
one_more_key p o os rows = either (λ key. has_items (under rows key)) (part_at p o) (parts_at p os)

-- ---- how many objects

pub counted_on : (old new whole : ℕ) (es fs : List (Term × List Object)) (k : Term) (os : List Object) → es ≡ (k, os) ∷ fs → new ≡ min (old + length os) (2 ^ 64 - 1) → min (old + length (objects_in es)) (2 ^ 64 - 1) ≡ whole → min (new + length (objects_in fs)) (2 ^ 64 - 1) ≡ whole
counted_on old new whole es fs k os e step is =
    let more : length (objects_in es) ≡ length os + length (objects_in fs) = ap (λ gs. length (objects_in gs)) e ∙ length-append os (objects_in fs) in
    let same : min (new + length (objects_in fs)) (2 ^ 64 - 1) ≡ min (old + length (objects_in es)) (2 ^ 64 - 1) = omega arith in
    same ∙ is

pub counted_first : (es : List (Term × List Object)) (os : List Object) → objects_in es ≡ os → min (0 + length (objects_in es)) (2 ^ 64 - 1) ≡ min (length os) (2 ^ 64 - 1)
counted_first es os e =
    let same : 0 + length (objects_in es) ≡ length os = omega (arith, ap length e) in
    ap (λ n. min n (2 ^ 64 - 1)) same

pub counted_last : (count whole : ℕ) (es : List (Term × List Object)) → es ≡ [] → count ≤ 2 ^ 64 - 1 → min (count + length (objects_in es)) (2 ^ 64 - 1) ≡ min whole (2 ^ 64 - 1) → count ≡ min whole (2 ^ 64 - 1)
counted_last count whole es e fits is =
    let none_left : length (objects_in es) ≡ 0 = ap (λ gs. length (objects_in gs)) e in
    let same : count ≡ min (count + length (objects_in es)) (2 ^ 64 - 1) = omega arith in
    same ∙ is
