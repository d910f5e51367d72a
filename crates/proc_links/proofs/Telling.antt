-- The processes that an end informs.
use Rattle.std.proofs.Common.{◌≡◌, ◌++◌, ℕ, Bool, true, false, cond, List, [], ◌∷◌, map, if◌then◌else◌, refl, sym, ap, ◌∙◌}
use Rattle.std.specs.List.{filter}
use Rattle.term_core.specs.Meaning.{Meaning}
use Rattle.world_model.specs.Cells.{AreAlive, Contents}
use Rattle.world_model.specs.Changes.{Change, SignalPut}
use Rattle.world_model.specs.Ends.{partners_told, watchers_told}
use Rattle.world_model.specs.Events.{Signal, LinkExit, Down}
use Rattle.world_model.specs.Names.{Pid, Ref, ref_of}
use Rattle.world_model.specs.Signals.{put_if}
use Rattle.proc_links.specs.Put.{puts_by}

put_or : {A : Type 0} (f : A → Change) (b : Bool) (x : A) (xs : List A) → (if b then f x ∷ [] else []) ++ map f xs ≡ map f (cond b (x ∷ xs) xs)
put_or f true x xs = refl
put_or f false x xs = refl

partners_told-is : (v : Contents) (p : Pid) (reason : Meaning) (lives : Pid → Bool) → AreAlive lives v → (qs : List Pid) → partners_told v p reason qs ≡ map (λ q. SignalPut p q (LinkExit reason)) (filter lives qs)
partners_told-is v p reason lives alive [] = refl
partners_told-is v p reason lives alive (q ∷ qs) =
    ap (λ b. put_if b p q (LinkExit reason) ++ partners_told v p reason qs) (sym (alive q)) ∙ ap (λ ks. put_if (lives q) p q (LinkExit reason) ++ ks) (partners_told-is v p reason lives alive qs)
    ∙ put_or (λ r. SignalPut p r (LinkExit reason)) (lives q) q (filter lives qs)

pub partners_are_told : (v : Contents) (p : Pid) (reason : Meaning) (lives : Pid → Bool) (partners there told : List Pid) → partners ≡ there → AreAlive lives v → told ≡ filter lives partners → partners_told v p reason there ≡ map (λ q. SignalPut p q (LinkExit reason)) told
partners_are_told v p reason lives partners there told agrees alive is =
    ap (partners_told v p reason) (sym agrees) ∙ partners_told-is v p reason lives alive partners ∙ ap (map (λ q. SignalPut p q (LinkExit reason))) (sym is)

watchers_told-is : (v : Contents) (p : Pid) (reason : Meaning) (lives : Pid → Bool) → AreAlive lives v → (refs : List Ref) → watchers_told v p reason refs ≡ map (λ ref. SignalPut p ref.pid (Down ref reason)) (filter (λ ref. lives ref.pid) refs)
watchers_told-is v p reason lives alive [] = refl
watchers_told-is v p reason lives alive (ref ∷ refs) =
    ap (λ b. put_if b p ref.pid (Down ref reason) ++ watchers_told v p reason refs) (sym (alive ref.pid)) ∙ ap (λ ks. put_if (lives ref.pid) p ref.pid (Down ref reason) ++ ks) (watchers_told-is v p reason lives alive refs)
    ∙ put_or (λ r. SignalPut p r.pid (Down r reason)) (lives ref.pid) ref (filter (λ r. lives r.pid) refs)

pub watchers_are_told : (v : Contents) (p : Pid) (reason : Meaning) (lives : Pid → Bool) (watchers there told : List Ref) → watchers ≡ there → AreAlive lives v → told ≡ filter (λ ref. lives ref.pid) watchers → watchers_told v p reason there ≡ map (λ ref. SignalPut p ref.pid (Down ref reason)) told
watchers_are_told v p reason lives watchers there told agrees alive is =
    ap (watchers_told v p reason) (sym agrees) ∙ watchers_told-is v p reason lives alive watchers ∙ ap (map (λ ref. SignalPut p ref.pid (Down ref reason))) (sym is)

-- references are kept by their makers
kept : (b : Bool) (x : List ℕ × ℕ) (xs : List (List ℕ × ℕ)) (ys : List Ref) → map ref_of xs ≡ ys → map ref_of (cond b (x ∷ xs) xs) ≡ cond b (ref_of x ∷ ys) ys
kept true x xs ys is = ap (λ zs. ref_of x ∷ zs) is
kept false x xs ys is = is

pub refs_filtered : (lives : Pid → Bool) (xs : List (List ℕ × ℕ)) → map ref_of (filter (λ id. lives id.0) xs) ≡ filter (λ ref. lives ref.pid) (map ref_of xs)
refs_filtered lives [] = refl
refs_filtered lives (x ∷ xs) = kept (lives x.0) x (filter (λ id. lives id.0) xs) _ (refs_filtered lives xs)

-- what is put for partners, and then for watchers, as one list
puts_for : (p : Pid) (reason : Meaning) (refs : List Ref) → puts_by p (map (λ ref. (ref.pid, Down ref reason)) refs) ≡ map (λ ref. SignalPut p ref.pid (Down ref reason)) refs
puts_for p reason [] = refl
puts_for p reason (ref ∷ refs) = ap (λ ks. SignalPut p ref.pid (Down ref reason) ∷ ks) (puts_for p reason refs)

puts_after : (p : Pid) (reason : Meaning) (partners : List Pid) (later : List (Pid × Signal)) → map (λ q. SignalPut p q (LinkExit reason)) partners ++ puts_by p later ≡ puts_by p (map (λ q. (q, LinkExit reason)) partners ++ later)
puts_after p reason [] later = refl
puts_after p reason (q ∷ qs) later = ap (λ ks. SignalPut p q (LinkExit reason) ∷ ks) (puts_after p reason qs later)

pub puts_joined : (p : Pid) (reason : Meaning) (partners : List Pid) (refs : List Ref) (told : List (Pid × Signal)) (ks ls : List Change)
    → told ≡ map (λ q. (q, LinkExit reason)) partners ++ map (λ ref. (ref.pid, Down ref reason)) refs
    → ks ≡ map (λ q. SignalPut p q (LinkExit reason)) partners → ls ≡ map (λ ref. SignalPut p ref.pid (Down ref reason)) refs
    → ks ++ ls ≡ puts_by p told
puts_joined p reason partners refs told ks ls is first later =
    ap (λ xs. xs ++ ls) first ∙ ap (λ xs. map (λ q. SignalPut p q (LinkExit reason)) partners ++ xs) (later ∙ sym (puts_for p reason refs))
    ∙ puts_after p reason partners _ ∙ ap (puts_by p) (sym is)
