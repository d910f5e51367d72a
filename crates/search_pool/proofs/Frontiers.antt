-- What holds of a pool's fields goes on.
use Rattle.std.proofs.Common.{◌≡◌, ℕ, ◌+◌, ◌^◌, ◌<◌, ◌≤◌, suc, Bool, true, false, List, [], ◌∷◌, ◌++◌, Option, Some, None, if◌then◌else◌, length, length-append, take, drop, reverse, refl, subst, sym, ◌∙◌, ap, arith, nat_lt, get_or, is_err, OnOk, Result, Ok, Err}
use mathlib.Core.List.{reverse-cons}
use Rattle.std.proofs.Math.Seq.{take-length, drop-length}
use Rattle.std.proofs.lemmas.List.{map-append, take-append-le, drop-append-le, append-nil, get_or_push}
use Rattle.std.specs.List.{AllByRecursion, remove}
use Rattle.tree_coverage.specs.Findings.{Findings}
use Rattle.tree_coverage.specs.Jobs.{Job}
use Rattle.tree_findings.specs.Merging.{merged_findings, nothing}
use Rattle.tree_findings.specs.declared.extent.Extent.{Extent}
use Rattle.tree_findings.specs.declared.outcome.Cause.{Cause}
use Rattle.tree_findings.specs.declared.outcome.Cause.TheVariants.{NodeLimit, Memory}
use Rattle.search_jobs.specs.Explorations.{ExplorationSeen, JobSeen, TicketSeen, names_of}
use Rattle.search_jobs.specs.Pieces.{IsPiece, PieceSeen}
use Rattle.search_jobs.proofs.Lists.{all_append, all_back, all_front}
use Rattle.search_pool.specs.Calls.{Accepts, HandsOut, stop_after}
use Rattle.search_pool.specs.Explorations.{AreJobsOf, AreOne, IsOf}
use Rattle.search_pool.specs.Machine.{Standing, Entry, Enters, Stops, Takes, cause_after, after_give, Gives, IsLegal, opening, sum_of}
use Rattle.search_pool.specs.Seen.{cause_of, entries, listed, listed_by, seen_of, standing_of}
use Rattle.search_pool.specs.declared.entry.PoolEvent.{PoolEvent}
use Rattle.search_pool.specs.declared.entry.PoolEvent.TheVariants.{Took, Gave}
use Rattle.search_pool.specs.declared.entry.Stop.{Stop}
use Rattle.search_pool.specs.inside.Frontiers.{AreAtMost, AreRising, IsFrontier, IsPlaced}
use Rattle.search_pool.proofs.Jobs.{jobs_of, makes_up, one_itself}
use Rattle.search_pool.proofs.Legal.{leads_more}
use Rattle.search_pool.proofs.Tickets.{given_push, given_remove, out_at, rising_push, rising_remove}

-- what holds of an answer that is no fault
pub on_ok : {T E : Type 0} (r : Result T E) (P : Type 0) → is_err r ≡ false → OnOk r P → P
on_ok (Ok x) P fine h = h
on_ok (Err e) P fine h = absurd (cc)

-- ---- names

names-append : (xs ys : List JobSeen) → names_of (xs ++ ys) ≡ names_of xs ++ names_of ys
names-append xs ys = map-append (λ (job : JobSeen). job.name) xs ys

names-reverse : (xs : List JobSeen) → names_of (reverse xs) ≡ reverse (names_of xs)
names-reverse [] = refl
names-reverse (x ∷ xs) =
    ap names_of (reverse-cons x xs) ∙ names-append (reverse xs) (x ∷ []) ∙ ap (λ l. l ++ x.name ∷ []) (names-reverse xs) ∙ sym (reverse-cons x.name (names_of xs))

all_reverse : (P : JobSeen → Type 0) (xs : List JobSeen) → AllByRecursion P xs → AllByRecursion P (reverse xs)
all_reverse P [] p = tt
all_reverse P (x ∷ xs) p = subst (AllByRecursion P) (sym (reverse-cons x xs)) (all_append P (reverse xs) (x ∷ []) (all_reverse P xs p.1) (p.0, tt))

-- ---- lists of entries

entries-append : (xs ys : List PoolEvent) → entries (xs ++ ys) ≡ entries xs ++ entries ys
entries-append xs ys = map-append (λ (event : PoolEvent). Enters event) xs ys

append_assoc' : (xs : List Entry) (x : Entry) (ys zs : List Entry) → xs ++ x ∷ (ys ++ zs) ≡ (xs ++ x ∷ ys) ++ zs
append_assoc' [] x ys zs = refl
append_assoc' (w ∷ ws) x ys zs = ap (λ (t : List Entry). w ∷ t) (append_assoc' ws x ys zs)

listed_by_more : (xs : List PoolEvent) (x : PoolEvent) (c : Cause) (place : ℕ) → place ≤ length xs → listed_by (xs ++ x ∷ []) c place ≡ listed_by xs c place ++ Enters x ∷ []
listed_by_more xs x NodeLimit place h = entries-append xs (x ∷ [])
listed_by_more xs x Memory place h =
    ap (λ (l : List PoolEvent). entries l ++ Stops ∷ entries (drop place (xs ++ x ∷ []))) (take-append-le place xs (x ∷ []) h)
    ∙ (ap (λ (l : List PoolEvent). entries (take place xs) ++ Stops ∷ entries l) (drop-append-le place xs (x ∷ []) h)
    ∙ (ap (λ (l : List Entry). entries (take place xs) ++ Stops ∷ l) (entries-append (drop place xs) (x ∷ []))
    ∙ append_assoc' (entries (take place xs)) Stops (entries (drop place xs)) (Enters x ∷ [])))

listed_more : (xs : List PoolEvent) (x : PoolEvent) (s : Option Stop) → IsPlaced xs s → listed (xs ++ x ∷ []) s ≡ listed xs s ++ Enters x ∷ []
listed_more xs x None h = entries-append xs (x ∷ [])
listed_more xs x (Some s) h = listed_by_more xs x s.cause s.place h

placed_more : (xs : List PoolEvent) (x : PoolEvent) (s : Option Stop) → IsPlaced xs s → IsPlaced (xs ++ x ∷ []) s
placed_more xs x None h = tt
placed_more xs x (Some s) h = omega (arith, length-append xs (x ∷ []))

-- a stop at the limit of nodes is no entry
listed_after : (xs : List PoolEvent) (limit nodes place : ℕ) (s : Option Stop) (b : Bool) → nat_lt limit nodes ≡ b → listed xs (stop_after limit nodes place s) ≡ listed xs s
listed_after xs limit nodes place None true h = ap (λ (z : Bool). listed xs (if z then Some (record { cause = NodeLimit; place = place }) else None)) h
listed_after xs limit nodes place None false h = ap (λ (z : Bool). listed xs (if z then Some (record { cause = NodeLimit; place = place }) else None)) h
listed_after xs limit nodes place (Some s) b h = refl

placed_after : (xs : List PoolEvent) (limit nodes place : ℕ) (s : Option Stop) (b : Bool) → nat_lt limit nodes ≡ b → place ≤ length xs → IsPlaced xs s → IsPlaced xs (stop_after limit nodes place s)
placed_after xs limit nodes place None true h le p = subst (λ (z : Bool). IsPlaced xs (if z then Some (record { cause = NodeLimit; place = place }) else None)) (sym h) le
placed_after xs limit nodes place None false h le p = subst (λ (z : Bool). IsPlaced xs (if z then Some (record { cause = NodeLimit; place = place }) else None)) (sym h) tt
placed_after xs limit nodes place (Some s) b h le p = p

cause_of_after : (limit nodes place : ℕ) (s : Option Stop) (b : Bool) → nat_lt limit nodes ≡ b → cause_of (stop_after limit nodes place s) ≡ cause_after limit nodes (cause_of s)
cause_of_after limit nodes place None true h = ap (λ (z : Bool). cause_of (if z then Some (record { cause = NodeLimit; place = place }) else None)) h ∙ sym (ap (λ (z : Bool). (if z then Some NodeLimit else None)) h)
cause_of_after limit nodes place None false h = ap (λ (z : Bool). cause_of (if z then Some (record { cause = NodeLimit; place = place }) else None)) h ∙ sym (ap (λ (z : Bool). (if z then Some NodeLimit else None)) h)
cause_of_after limit nodes place (Some s) b h = refl

-- ---- at the beginning

-- no node was visited
abbrev pub none_yet : Extent
none_yet = record { nodes = 0; cut = 0 }

-- one job is open, and nothing was done
pub opens_standing : (start : Job) (todo : List JobSeen) (job : JobSeen) (out : List TicketSeen) (f : Findings) → todo ≡ job ∷ [] → job.name ≡ start → out ≡ [] → f ≡ nothing → standing_of todo out f none_yet 0 None ≡ opening start
opens_standing start todo job out f is_todo is_name is_out is_f = λ i. record {
  todo = (ap names_of is_todo ∙ ap (λ (n : Job). n ∷ []) is_name) i;
  out = is_out i;
  findings = is_f i;
  extent = none_yet;
  taken = 0;
  cause = None;
}

pub opens_with : (e : ExplorationSeen) (todo : List JobSeen) (job : JobSeen) → todo ≡ job ∷ [] → job.exploration ≡ e → AreJobsOf e todo
opens_with e todo job is own = subst (AreJobsOf e) (sym is) (subst (λ (x : ExplorationSeen). AreOne x e) (sym own) (one_itself e), tt)

pub frontier_opens : (e : ExplorationSeen) (start : Job) (limit : ℕ) (todo : List JobSeen) (out : List TicketSeen) (f : Findings) (events : List PoolEvent) → standing_of todo out f none_yet 0 None ≡ opening start → events ≡ [] → out ≡ [] → AreJobsOf e todo → IsFrontier e start limit todo out f none_yet 0 events None
frontier_opens e start limit todo out f events is none none_out all = record {
  legal = subst (λ (l : List PoolEvent). IsLegal e start limit (entries l) (standing_of todo out f none_yet 0 None)) (sym none) is;
  placed = tt;
  carried = all;
  rising = subst AreRising (sym none_out) (λ i j d lt within. absurd (omega arith));
  given = subst (AreAtMost 0) (sym none_out) (λ i d within. absurd (omega arith));
  bounded = omega arith;
  numbered = omega arith;
}

-- ---- a job is handed out

abbrev pub ticket_for : ℕ → JobSeen → TicketSeen
ticket_for taken job = record { number = taken + 1; name = job.name }

takes_last : (todo : List JobSeen) (job : JobSeen) (out : List TicketSeen) (f : Findings) (x : Extent) (taken : ℕ) → Takes (standing_of (todo ++ job ∷ []) out f x taken None) (ticket_for taken job) (standing_of todo (out ++ ticket_for taken job ∷ []) f x (taken + 1) None)
takes_last todo job out f x taken = record {
  front = names_of todo;
  back = [];
  goes_on = refl;
  is_open = names-append todo (job ∷ []);
  is_next = refl;
  leaves = ap (λ (l : List Job). record { todo = l; out = out ++ ticket_for taken job ∷ []; findings = f; extent = x; taken = taken + 1; cause = None }) (sym (append-nil (names_of todo)));
}

frontier_takes : (e : ExplorationSeen) (start : Job) (limit : ℕ) (todo : List JobSeen) (job : JobSeen) (out : List TicketSeen) (f : Findings) (x : Extent) (taken : ℕ) (events : List PoolEvent)
    → IsFrontier e start limit (todo ++ job ∷ []) out f x taken events None
    → IsFrontier e start limit todo (out ++ ticket_for taken job ∷ []) f x (taken + 1) (events ++ Took (taken + 1) ∷ []) None
frontier_takes e start limit todo job out f x taken events p =
    let t = ticket_for taken job in
    let event = Took (taken + 1) in
    let to = standing_of todo (out ++ t ∷ []) f x (taken + 1) None in
    record {
      legal = subst (λ (l : List Entry). IsLegal e start limit l to) (sym (entries-append events (event ∷ []))) (leads_more e limit (opening start) (entries events) (standing_of (todo ++ job ∷ []) out f x taken None) (Enters event) to p.legal (t, refl, takes_last todo job out f x taken));
      placed = tt;
      carried = all_front (IsOf e) todo (job ∷ []) p.carried;
      rising = rising_push out t taken p.rising p.given (omega arith);
      given = given_push out t taken p.given refl;
      bounded = let b = p.bounded in omega (arith, length-append events (event ∷ []));
      numbered = let b = p.numbered in omega (arith, length-append events (event ∷ []));
    }

-- the last job
pub last_is : (xs ys : List JobSeen) (job last : JobSeen) (at : ℕ) → xs ≡ ys ++ job ∷ [] → length ys ≡ at → last ≡ get_or xs at last → last ≡ job
last_is xs ys job last at is there read = read ∙ ap (λ (l : List JobSeen). get_or l at last) is ∙ get_or_push ys job last at there

-- by the fields before and after
pub take_kept : (e : ExplorationSeen) (start : Job) (limit : ℕ) (todo todo' : List JobSeen) (job : JobSeen) (out out' : List TicketSeen) (f : Findings) (x : Extent) (taken : ℕ) (events events' : List PoolEvent) (s : Option Stop)
    → todo ≡ todo' ++ job ∷ [] → out' ≡ out ++ ticket_for taken job ∷ [] → events' ≡ events ++ Took (taken + 1) ∷ [] → s ≡ None
    → IsFrontier e start limit todo out f x taken events s → IsFrontier e start limit todo' out' f x (taken + 1) events' s
take_kept e start limit todo todo' job out out' f x taken events events' s is_todo is_out is_events is_s p =
    rw (is_out, is_events, is_s) (frontier_takes e start limit todo' job out f x taken events (rw (is_todo, is_s) at p))

pub take_done : (e : ExplorationSeen) (start : Job) (limit : ℕ) (todo todo' : List JobSeen) (job : JobSeen) (out out' : List TicketSeen) (f : Findings) (x : Extent) (taken : ℕ) (events events' : List PoolEvent) (s : Option Stop)
    → todo ≡ todo' ++ job ∷ [] → out' ≡ out ++ ticket_for taken job ∷ [] → events' ≡ events ++ Took (taken + 1) ∷ [] → s ≡ None
    → AreJobsOf e todo
    → HandsOut (seen_of e start limit todo out f x taken events s) (ticket_for taken job) (record { exploration = job.exploration; name = job.name; number = taken + 1 }) (seen_of e start limit todo' out' f x (taken + 1) events' s)
take_done e start limit todo todo' job out out' f x taken events events' s is_todo is_out is_events is_s carried =
    let t = ticket_for taken job in
    let to = standing_of todo' out' f x (taken + 1) s in
    record {
      takes = subst (λ (l : List JobSeen). Takes (standing_of l out f x taken s) t to) (sym is_todo)
          (subst (λ (l : List TicketSeen). Takes (standing_of (todo' ++ job ∷ []) out f x taken s) t (standing_of todo' l f x (taken + 1) s)) (sym is_out)
          (subst (λ (z : Option Stop). Takes (standing_of (todo' ++ job ∷ []) out f x taken z) t (standing_of todo' (out ++ t ∷ []) f x (taken + 1) z)) (sym is_s) (takes_last todo' job out f x taken)));
      is_job = record {
        is_of = (all_back (IsOf e) todo' (job ∷ []) (subst (AreJobsOf e) is_todo carried)).0;
        name = refl;
        number = refl;
      };
      leaves = ap (λ (l : List PoolEvent). record { exploration = e; start = start; limit = limit; standing = to; events = l; stop = s }) is_events;
    }

-- ---- a stop where nothing stopped the pool before

frontier_stops : (e : ExplorationSeen) (start : Job) (limit : ℕ) (todo : List JobSeen) (out : List TicketSeen) (f : Findings) (x : Extent) (taken : ℕ) (events : List PoolEvent)
    → IsFrontier e start limit todo out f x taken events None
    → IsFrontier e start limit todo out f x taken events (Some (record { cause = Memory; place = length events }))
frontier_stops e start limit todo out f x taken events p =
    let s : Stop = record { cause = Memory; place = length events } in
    let to = standing_of todo out f x taken (Some s) in
    let list : listed events (Some s) ≡ entries events ++ Stops ∷ [] =
    ap (λ (l : List PoolEvent). entries l ++ Stops ∷ entries (drop (length events) events)) (take-length events)
    ∙ ap (λ (l : List PoolEvent). entries events ++ Stops ∷ entries l) (drop-length events) in
    record {
      legal = subst (λ (l : List Entry). IsLegal e start limit l to) (sym list) (leads_more e limit (opening start) (entries events) (standing_of todo out f x taken None) Stops to p.legal (refl, refl));
      placed = omega arith;
      carried = p.carried;
      rising = p.rising;
      given = p.given;
      bounded = p.bounded;
      numbered = p.numbered;
    }

pub stop_kept : (e : ExplorationSeen) (start : Job) (limit : ℕ) (todo : List JobSeen) (out : List TicketSeen) (f : Findings) (x : Extent) (taken : ℕ) (events : List PoolEvent) (s : Option Stop) (place : ℕ)
    → s ≡ None → place ≡ length events → IsFrontier e start limit todo out f x taken events s → IsFrontier e start limit todo out f x taken events (Some (record { cause = Memory; place = place }))
stop_kept e start limit todo out f x taken events s place is_s is_place p = rw is_place (frontier_stops e start limit todo out f x taken events (rw is_s at p))

-- ---- a piece comes back

-- what its counts result in, by their values
pub counts_given : (x y : Extent) (nodes cut : ℕ) → nodes ≡ y.nodes → cut ≡ y.cut → sum_of x (record { nodes = nodes; cut = cut }) ≡ sum_of x y
counts_given x y nodes cut is_nodes is_cut = λ i. sum_of x (record { nodes = is_nodes i; cut = is_cut i })

-- the state after it, by its fields
standing_given : (todo rest : List JobSeen) (out : List TicketSeen) (f f' : Findings) (x y : Extent) (taken limit place : ℕ) (out' : List TicketSeen) (s : Option Stop)
    → standing_of (todo ++ reverse rest) out' (merged_findings f f') (sum_of x y) taken (stop_after limit (x.nodes + y.nodes) place s) ≡ after_give limit (standing_of todo out f x taken s) out' f' y (names_of rest)
standing_given todo rest out f f' x y taken limit place out' s =
    ap (λ (l : List Job). record { todo = l; out = out'; findings = merged_findings f f'; extent = sum_of x y; taken = taken; cause = cause_of (stop_after limit (x.nodes + y.nodes) place s) }) (names-append todo (reverse rest) ∙ ap (λ (l : List Job). names_of todo ++ l) (names-reverse rest))
    ∙ ap (λ (c : Option Cause). record { todo = names_of todo ++ reverse (names_of rest); out = out'; findings = merged_findings f f'; extent = sum_of x y; taken = taken; cause = c }) (cause_of_after limit (x.nodes + y.nodes) place s (nat_lt limit (x.nodes + y.nodes)) refl)

frontier_gives : (e : ExplorationSeen) (start : Job) (limit : ℕ) (todo : List JobSeen) (out : List TicketSeen) (f : Findings) (x : Extent) (taken : ℕ) (events : List PoolEvent) (s : Option Stop)
    (at : ℕ) (ticket : TicketSeen) (e' : ExplorationSeen) (f' : Findings) (y : Extent) (rest : List JobSeen)
    → IsFrontier e start limit todo out f x taken events s → at < length out → out ≡ take at out ++ ticket ∷ drop (suc at) out → AreOne e' e → IsPiece e' ticket.name f' y rest → y.nodes ≤ 2 ^ 64
    → IsFrontier e start limit (todo ++ reverse rest) (remove out at) (merged_findings f f') (sum_of x y) taken (events ++ Gave ticket.number ∷ []) (stop_after limit (x.nodes + y.nodes) (length events + 1) s)
frontier_gives e start limit todo out f x taken events s at ticket e' f' y rest p lt is one piece small =
    let event = Gave ticket.number in
    let from = standing_of todo out f x taken s in
    let place = length events + 1 in
    let nodes = x.nodes + y.nodes in
    let to = standing_of (todo ++ reverse rest) (remove out at) (merged_findings f f') (sum_of x y) taken (stop_after limit nodes place s) in
    let gives : Gives e limit from ticket to = record {
      front = take at out;
      back = drop (suc at) out;
      findings = f';
      extent = y;
      rest = names_of rest;
      is_out = is;
      made_up = makes_up e' e ticket.name f' y rest one piece;
      leaves = standing_given todo rest out f f' x y taken limit place (remove out at) s;
    } in
    let list : listed (events ++ event ∷ []) (stop_after limit nodes place s) ≡ listed events s ++ Enters event ∷ [] = listed_after (events ++ event ∷ []) limit nodes place s (nat_lt limit nodes) refl ∙ listed_more events event s p.placed in
    record {
      legal = subst (λ (l : List Entry). IsLegal e start limit l to) (sym list) (leads_more e limit (opening start) (listed events s) from (Enters event) to p.legal (ticket, refl, gives));
      placed = placed_after (events ++ event ∷ []) limit nodes place s (nat_lt limit nodes) refl (omega (arith, length-append events (event ∷ []))) (placed_more events event s p.placed);
      carried = all_append (IsOf e) todo (reverse rest) p.carried (all_reverse (IsOf e) rest (jobs_of e' e rest one piece.are_of));
      rising = rising_remove out at lt p.rising;
      given = given_remove out at taken lt p.given;
      bounded = let b = p.bounded in omega (arith, length-append events (event ∷ []));
      numbered = let b = p.numbered in omega (arith, length-append events (event ∷ []));
    }

-- by the fields before and after
pub give_kept : (e : ExplorationSeen) (start : Job) (limit : ℕ) (todo todo' : List JobSeen) (out out' : List TicketSeen) (f f'' : Findings) (x x' : Extent) (taken : ℕ) (events events' : List PoolEvent) (s s' : Option Stop)
    (at : ℕ) (ticket : TicketSeen) (piece : PieceSeen) (place : ℕ)
    → at < length out → get_or out at ticket ≡ ticket → piece.ticket ≡ ticket → AreOne piece.exploration e
    → todo' ≡ todo ++ reverse piece.rest → out' ≡ remove out at → f'' ≡ merged_findings f piece.findings → x' ≡ sum_of x piece.extent → events' ≡ events ++ Gave ticket.number ∷ [] → place ≡ length events + 1 → s' ≡ stop_after limit x'.nodes place s
    → IsPiece piece.exploration piece.ticket.name piece.findings piece.extent piece.rest → piece.extent.nodes ≤ 2 ^ 64
    → IsFrontier e start limit todo out f x taken events s → IsFrontier e start limit todo' out' f'' x' taken events' s'
give_kept e start limit todo todo' out out' f f'' x x' taken events events' s s' at ticket piece place lt is is_ticket one is_todo is_out is_f is_x is_events is_place is_s made small p =
    let own : IsPiece piece.exploration ticket.name piece.findings piece.extent piece.rest = subst (λ (t : TicketSeen). IsPiece piece.exploration t.name piece.findings piece.extent piece.rest) is_ticket made in
    rw (is_s, is_todo, is_out, is_f, is_x, is_events, is_place)
    (frontier_gives e start limit todo out f x taken events s at ticket piece.exploration piece.findings piece.extent piece.rest p lt (out_at out ticket at lt is) one own small)

pub give_done : (e : ExplorationSeen) (start : Job) (limit : ℕ) (todo todo' : List JobSeen) (out out' : List TicketSeen) (f f'' : Findings) (x x' : Extent) (taken : ℕ) (events events' : List PoolEvent) (s s' : Option Stop)
    (at : ℕ) (ticket : TicketSeen) (piece : PieceSeen) (place : ℕ)
    → at < length out → get_or out at ticket ≡ ticket → piece.ticket ≡ ticket → AreOne piece.exploration e
    → todo' ≡ todo ++ reverse piece.rest → out' ≡ remove out at → f'' ≡ merged_findings f piece.findings → x' ≡ sum_of x piece.extent → events' ≡ events ++ Gave ticket.number ∷ [] → place ≡ length events + 1 → s' ≡ stop_after limit x'.nodes place s
    → Accepts (seen_of e start limit todo out f x taken events s) ticket piece (seen_of e start limit todo' out' f'' x' taken events' s')
give_done e start limit todo todo' out out' f f'' x x' taken events events' s s' at ticket piece place lt is is_ticket one is_todo is_out is_f is_x is_events is_place is_s =
    let from = seen_of e start limit todo out f x taken events s in
    let stop = stop_after limit (x.nodes + piece.extent.nodes) (length events + 1) s in
    let to = seen_of e start limit (todo ++ reverse piece.rest) (remove out at) (merged_findings f piece.findings) (sum_of x piece.extent) taken (events ++ Gave ticket.number ∷ []) stop in
    let accepts : Accepts from ticket piece to = record {
      front = take at out;
      back = drop (suc at) out;
      is_out = out_at out ticket at lt is;
      is_for = (is_ticket, one);
      leaves = ap (λ (x : Standing). record { exploration = e; start = start; limit = limit; standing = x; events = events ++ Gave ticket.number ∷ []; stop = stop })
          (standing_given todo piece.rest out f piece.findings x piece.extent taken limit (length events + 1) (remove out at) s);
    } in
    rw (is_s, is_todo, is_out, is_f, is_x, is_events, is_place) accepts
