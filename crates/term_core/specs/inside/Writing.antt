-- A text that is written in pieces: what of it is still to be written, and what each piece does to that.
use Rattle.std.proofs.Common.{◌≡◌, ℕ, List, [], ◌++◌, Bool, false, Option, None, Some, refl, ap, sym, ◌∙◌, append_assoc, append-nil, subst, take, drop, length, ◌||◌, ◌&&◌, not, ◌+◌, ◌<◌, ◌≤◌, get_or, arith}
use Rattle.std.specs.Bool.{◌==◌}
use Rattle.std.specs.Prelude.{Result, Ok, Err}
use Rattle.std.proofs.lemmas.List.{take-append-drop, at_drop_more, at_drop_all}
use Rattle.std.specs.List.{flat_map}
use Rattle.std.proofs.lemmas.Bool.Decides.{nat_tests}
use Rattle.std.specs.Io.KnownBytes.{Appends}
use Rattle.term_core.specs.Stream.{AppendsBeginning, WritesAll, BreaksOff, Writes}

pub appends_none : (s : Option (List ℕ)) → Appends s s []
appends_none None = tt
appends_none (Some xs) = sym (append-nil xs)

pub appends_then : (s t u : Option (List ℕ)) (a b : List ℕ) → Appends s t a → Appends t u b → Appends s u (a ++ b)
appends_then None t u a b h k = tt
appends_then (Some xs) None u a b h k = absurd h
appends_then (Some xs) (Some ys) None a b h k = absurd k
appends_then (Some xs) (Some ys) (Some zs) a b h k = k ∙ ap (λ w. w ++ b) h ∙ append_assoc xs a b

pub begins_then : (s t u : Option (List ℕ)) (a b : List ℕ) → Appends s t a → AppendsBeginning t u b → AppendsBeginning s u (a ++ b)
begins_then s t u a b h k = record {
  written = a ++ k.written;
  unwritten = k.unwritten;
  parts = ap (λ w. a ++ w) k.parts ∙ sym (append_assoc a k.written k.unwritten);
  appends = appends_then s t u a k.written h k.appends;
}

pub begins_first : (s t : Option (List ℕ)) (a b : List ℕ) → AppendsBeginning s t a → AppendsBeginning s t (a ++ b)
begins_first s t a b k = record {
  written = k.written;
  unwritten = k.unwritten ++ b;
  parts = ap (λ w. w ++ b) k.parts ∙ append_assoc k.written k.unwritten b;
  appends = k.appends;
}

-- from `start` to `now` the text `whole` is written except for `rest`
pub record Owes (start now : Option (List ℕ)) (rest whole : List ℕ) : Type 0 where
  pub finishes : (new : Option (List ℕ)) → Appends now new rest → Appends start new whole
  pub breaks : (new : Option (List ℕ)) → AppendsBeginning now new rest → AppendsBeginning start new whole

pub owes_all : (start : Option (List ℕ)) (whole : List ℕ) → Owes start start whole whole
owes_all start whole = record { finishes = λ new h. h; breaks = λ new h. h }

-- a piece was written
pub owes_less : (start now next : Option (List ℕ)) (piece rest whole : List ℕ) → Owes start now (piece ++ rest) whole → Appends now next piece → Owes start next rest whole
owes_less start now next piece rest whole o h = record {
  finishes = λ new k. o.finishes new (appends_then now next new piece rest h k);
  breaks = λ new k. o.breaks new (begins_then now next new piece rest h k);
}

-- all was written
pub owes_nothing : (start now : Option (List ℕ)) (failed : Bool) (whole : List ℕ) → Owes start now [] whole → failed ≡ false → WritesAll start now failed whole
owes_nothing start now failed whole o e = record { appends = o.finishes now (appends_none now); sound = e }

-- the last piece was written
pub owes_last : (start now new : Option (List ℕ)) (failed : Bool) (rest whole : List ℕ) → Owes start now rest whole → WritesAll now new failed rest → WritesAll start new failed whole
owes_last start now new failed rest whole o w = record { appends = o.finishes new w.appends; sound = w.sound }

-- writing broke off within the last piece
pub owes_break : (start now new : Option (List ℕ)) (failed : Bool) (rest whole : List ℕ) → Owes start now rest whole → BreaksOff now new failed rest → BreaksOff start new failed whole
owes_break start now new failed rest whole o w = record { beginning = o.breaks new w.beginning; fault = w.fault }

-- writing broke off within a piece
pub owes_break_in : (start now new : Option (List ℕ)) (failed : Bool) (piece rest whole : List ℕ) → Owes start now (piece ++ rest) whole → BreaksOff now new failed piece → BreaksOff start new failed whole
owes_break_in start now new failed piece rest whole o w = record { beginning = o.breaks new (begins_first now new piece rest w.beginning); fault = w.fault }

-- a write took n bytes of the rest
pub owes_after : (start now next : Option (List ℕ)) (n : ℕ) (rest after whole : List ℕ) → Owes start now rest whole → Appends now next (take n rest) → after ≡ drop n rest → Owes start next after whole
owes_after start now next n rest after whole o h e =
    let joined : Owes start now (take n rest ++ drop n rest) whole = subst (λ (w : List ℕ). Owes start now w whole) (sym (take-append-drop n rest)) o in
    subst (λ (w : List ℕ). Owes start next w whole) (sym e) (owes_less start now next (take n rest) (drop n rest) whole joined h)

-- a write that took some bytes leaves a sound sink sound
pub stays_sound : (old new : Bool) (n : ℕ) (rest : List ℕ) → new ≡ (old || ((n == 0) && not (length rest == 0))) → old ≡ false → (n ≡ 0 → ⊥) → new ≡ false
stays_sound old new n rest e f ne =
    let z : (n == 0) ≡ false = grind (arith, nat_tests) in
    e ∙ ap (λ b. b || ((n == 0) && not (length rest == 0))) f ∙ ap (λ b. false || (b && not (length rest == 0))) z

-- at the exit of a `?`, what a broken-off write leaves
pub breaks_at : {T E : Type 0} (old new : Option (List ℕ)) (failed : Bool) (r : Result T E) (text : List ℕ) (fault : E) → r ≡ Err fault → BreaksOff old new failed text → Writes old new failed r text
breaks_at {T} {E} old new failed r text fault e b = subst (λ (w : Result T E). Writes old new failed w text) (sym e) b

-- what a last call wrote, returned as it is
pub writes_last : {T E : Type 0} (start now new : Option (List ℕ)) (failed : Bool) (r : Result T E) (rest whole : List ℕ) → Owes start now rest whole → Writes now new failed r rest → Writes start new failed r whole
writes_last start now new failed (Ok x) rest whole o w = owes_last start now new failed rest whole o w
writes_last start now new failed (Err e) rest whole o w = owes_break start now new failed rest whole o w

-- the same text, said in another way
pub owes_same : (start now : Option (List ℕ)) (rest other whole : List ℕ) → rest ≡ other → Owes start now rest whole → Owes start now other whole
owes_same start now rest other whole e o = subst (λ (w : List ℕ). Owes start now w whole) e o

-- the text of one item, and then of those after it
pub owes_item : {X : Type 0} (f : X → List ℕ) (xs : List X) (i : ℕ) (d x : X) (start now : Option (List ℕ)) (tail whole : List ℕ) → i < length xs → x ≡ get_or xs i d → Owes start now (flat_map f (drop i xs) ++ tail) whole → Owes start now (f x ++ (flat_map f (drop (i + 1) xs) ++ tail)) whole
owes_item f xs i d x start now tail whole h e o =
    owes_same start now _ _ whole (ap (λ w. w ++ tail) (at_drop_more (flat_map f) xs i d h ∙ ap (λ y. f y ++ flat_map f (drop (i + 1) xs)) (sym e)) ∙ append_assoc (f x) (flat_map f (drop (i + 1) xs)) tail) o

-- no item is left
pub owes_items_end : {X : Type 0} (f : X → List ℕ) (xs : List X) (i : ℕ) (start now : Option (List ℕ)) (tail whole : List ℕ) → length xs ≤ i → Owes start now (flat_map f (drop i xs) ++ tail) whole → Owes start now tail whole
owes_items_end f xs i start now tail whole h o = owes_same start now _ _ whole (ap (λ w. w ++ tail) (at_drop_all (flat_map f) xs i h)) o
