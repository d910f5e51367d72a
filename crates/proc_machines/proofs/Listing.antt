-- Lists of courses: the place of a process, and what is found after a write.
use Rattle.std.proofs.Common.{◌≡◌, ◌<◌, ◌≤◌, ◌+◌, ◌∷◌, [], ℕ, Bool, true, false, not, List, Option, Some, None, IsSome, cond, if◌then◌else◌, refl, sym, ap, subst, ◌∙◌, arith, length, get_or, insert, map, position, option_map}
use Prim.Native.Nat.{suc}
use Rattle.std.proofs.Math.ListN.{set}
use Rattle.std.proofs.lemmas.Cmp.{nat_list_eq_equiv}
use Rattle.std.proofs.lemmas.Grind.{common_steps}
use Rattle.std.proofs.lemmas.List.Sums.{position_or_len_is}
use Rattle.std.proofs.lemmas.Map.{NonePasses, none_passes_from_lookup, lookup-insert, lookup-remove_entry, lookup-set_value}
use Rattle.std.proofs.lemmas.Map.Made.{lookup-map_values}
use Rattle.std.proofs.lemmas.Slice.Eq.{bytes_eq-Decides}
use Rattle.std.specs.List.{IsDistinct, position_or_len, remove}
use Rattle.std.specs.Map.{keys_of, lookup, remove_entry, set_value}
use Rattle.world_model.specs.Names.{Pid, same_pid}

-- ---- the first place that passes a test

pub first_place : {X : Type 0} (test : X → Bool) (xs : List X) (n : ℕ) (any : X) → n < length xs → ((k : ℕ) → k < n → test (get_or xs k any) ≡ false) → test (get_or xs n any) ≡ true → Some n ≡ position test xs
first_place test xs n any inside before here =
    let at : position_or_len test xs ≡ n = position_or_len_is test xs n any (omega arith) before (λ _. here) in
    grind (arith, common_steps)

pub no_place : {X : Type 0} (test : X → Bool) (xs : List X) (n : ℕ) → length xs ≤ n → ((any : X) (k : ℕ) → k < n → test (get_or xs k any) ≡ false) → None ≡ position test xs
no_place test [] n all none = refl
no_place test (x ∷ xs) n all none =
    let at : position_or_len test (x ∷ xs) ≡ length (x ∷ xs) = position_or_len_is test (x ∷ xs) (length (x ∷ xs)) x (omega arith) (λ k within. none x k (omega arith)) (λ within. absurd (omega arith)) in
    grind (arith, common_steps)

placed : {X : Type 0} (test : X → Bool) (xs : List X) (n : ℕ) → position test xs ≡ Some n → (position_or_len test xs ≡ n) × (n < length xs)
placed test xs n is = let at : position_or_len test xs ≡ n = grind (arith, common_steps) in (at, grind (arith, common_steps))

unplaced : {X : Type 0} (test : X → Bool) (xs : List X) → position test xs ≡ None → length xs ≤ position_or_len test xs
unplaced test xs is = grind (arith, common_steps)

-- ---- what is found there

one_more : (n : ℕ) → suc n ≡ 1 + n
one_more n = omega arith

there_if : {K X : Type 0} (b : Bool) (e : K × X) (es : List (K × X)) (n : ℕ) (any : K × X) (o : Option X) → cond (not b) (1 + n) 0 < length (e ∷ es) → (n < length es → o ≡ Some (get_or es n any).1)
    → cond b (Some e.1) o ≡ Some (get_or (e ∷ es) (cond (not b) (1 + n) 0) any).1
there_if true e es n any o inside behind = refl
there_if false e es n any o inside behind = behind (omega arith) ∙ ap (λ k. Some (get_or (e ∷ es) k any).1) (one_more n)

there : {K X : Type 0} (test : K → Bool) (es : List (K × X)) (any : K × X) → position_or_len (λ e. test e.0) es < length es → lookup test es ≡ Some (get_or es (position_or_len (λ e. test e.0) es) any).1
there test [] any inside = absurd (omega arith)
there test (e ∷ es) any inside = there_if (test e.0) e es (position_or_len (λ e. test e.0) es) any (lookup test es) inside (there test es any)

absent_if : {K X : Type 0} (b : Bool) (e : K × X) (es : List (K × X)) (n : ℕ) (o : Option X) → length (e ∷ es) ≤ cond (not b) (1 + n) 0 → (length es ≤ n → o ≡ None) → cond b (Some e.1) o ≡ None
absent_if true e es n o outside behind = absurd (omega arith)
absent_if false e es n o outside behind = behind (omega arith)

absent : {K X : Type 0} (test : K → Bool) (es : List (K × X)) → length es ≤ position_or_len (λ e. test e.0) es → lookup test es ≡ None
absent test [] outside = refl
absent test (e ∷ es) outside = absent_if (test e.0) e es (position_or_len (λ e. test e.0) es) (lookup test es) outside (absent test es)

-- ---- what is found after a write there

written_if : {K X : Type 0} (b : Bool) (e : K × X) (es fs : List (K × X)) (n : ℕ) (any : K × X) (w : X) → set es n ((get_or es n any).0, w) ≡ fs
    → set (e ∷ es) (cond (not b) (1 + n) 0) ((get_or (e ∷ es) (cond (not b) (1 + n) 0) any).0, w) ≡ cond b ((e.0, w) ∷ es) (e ∷ fs)
written_if true e es fs n any w behind = refl
written_if false e es fs n any w behind = ap (λ k. set (e ∷ es) k ((get_or (e ∷ es) k any).0, w)) (sym (one_more n)) ∙ ap (λ xs. e ∷ xs) behind

written : {K X : Type 0} (test : K → Bool) (es : List (K × X)) (any : K × X) (w : X)
    → set es (position_or_len (λ e. test e.0) es) ((get_or es (position_or_len (λ e. test e.0) es) any).0, w) ≡ set_value test es w
written test [] any w = refl
written test (e ∷ es) any w = written_if (test e.0) e es (set_value test es w) (position_or_len (λ e. test e.0) es) any w (written test es any w)

is_some_from : {X : Type 0} (o : Option X) (x : X) → o ≡ Some x → IsSome o
is_some_from o x is = subst IsSome (sym is) refl

same_test : (p x y : Pid) → same_pid p x ≡ true → same_pid p y ≡ same_pid x y
same_test p x y same = ap (λ r. same_pid r y) ((bytes_eq-Decides p x).0 same)

over_if : {X Y : Type 0} (f : X → Y) (b : Bool) (x : X) (o : Option X) → option_map f (cond b (Some x) o) ≡ (if b then Some (f x) else option_map f o)
over_if f true x o = refl
over_if f false x o = refl

-- what is shown of a list: each process, with what is shown of its course
abbrev pub shown : {X Y : Type 0} → (X → Y) → List (Pid × X) → List (Pid × Y)
shown show es = map (λ e. (e.0, show e.1)) es

pub put_there : {X Y : Type 0} (show : X → Y) (p : Pid) (es fs : List (Pid × X)) (n : ℕ) (any : Pid × X) (w : X) → Some n ≡ position (λ e. same_pid p e.0) es → fs ≡ set es n ((get_or es n any).0, w)
    → (q : Pid) → lookup (same_pid q) (shown show fs) ≡ (if same_pid p q then Some (show w) else lookup (same_pid q) (shown show es))
put_there show p es fs n any w place is q =
    let at = placed (λ e. same_pid p e.0) es n (sym place) in
    let inside : position_or_len (λ e. same_pid p e.0) es < length es = omega arith in
    let now : fs ≡ set_value (same_pid p) es w = is ∙ ap (λ k. set es k ((get_or es k any).0, w)) (sym at.0) ∙ written (same_pid p) es any w in
    lookup-map_values show (same_pid q) fs ∙ ap (λ xs. option_map show (lookup (same_pid q) xs)) now
    ∙ ap (option_map show) (lookup-set_value nat_list_eq_equiv (same_pid p) (same_test p) q w es (is_some_from (lookup (same_pid p) es) _ (there (same_pid p) es any inside)))
    ∙ over_if show (same_pid p q) w (lookup (same_pid q) es)
    ∙ ap (λ o. if same_pid p q then Some (show w) else o) (sym (lookup-map_values show (same_pid q) es))

-- ---- what is found after one is put in

pub none_passes : {X : Type 0} (p : Pid) (es : List (Pid × X)) → None ≡ position (λ e. same_pid p e.0) es → NonePasses (same_pid p) es
none_passes p es place = none_passes_from_lookup (same_pid p) es (absent (same_pid p) es (unplaced (λ e. same_pid p e.0) es (sym place)))

pub put_in : {X Y : Type 0} (show : X → Y) (p : Pid) (es fs : List (Pid × X)) (n : ℕ) (w : X) → None ≡ position (λ e. same_pid p e.0) es → fs ≡ insert es n (p, w)
    → (q : Pid) → lookup (same_pid q) (shown show fs) ≡ (if same_pid p q then Some (show w) else lookup (same_pid q) (shown show es))
put_in show p es fs n w place is q =
    lookup-map_values show (same_pid q) fs ∙ ap (λ xs. option_map show (lookup (same_pid q) xs)) is
    ∙ ap (option_map show) (lookup-insert nat_list_eq_equiv p w q es n (none_passes p es place))
    ∙ over_if show (same_pid p q) w (lookup (same_pid q) es)
    ∙ ap (λ o. if same_pid p q then Some (show w) else o) (sym (lookup-map_values show (same_pid q) es))

-- ---- what is found at a place

pub found_there : {X Y : Type 0} (show : X → Y) (p : Pid) (es : List (Pid × X)) (n : ℕ) (any : Pid × X) → Some n ≡ position (λ e. same_pid p e.0) es → Some (show (get_or es n any).1) ≡ lookup (same_pid p) (shown show es)
found_there show p es n any place =
    let at = placed (λ e. same_pid p e.0) es n (sym place) in
    let inside : position_or_len (λ e. same_pid p e.0) es < length es = omega arith in
    sym (lookup-map_values show (same_pid p) es ∙ ap (option_map show) (there (same_pid p) es any inside) ∙ ap (λ k. Some (show (get_or es k any).1)) at.0)

pub found_nowhere : {X Y : Type 0} (show : X → Y) (p : Pid) (es : List (Pid × X)) → None ≡ position (λ e. same_pid p e.0) es → None ≡ lookup (same_pid p) (shown show es)
found_nowhere show p es place = sym (lookup-map_values show (same_pid p) es ∙ ap (option_map show) (absent (same_pid p) es (unplaced (λ e. same_pid p e.0) es (sym place))))

-- ---- what is found after one is left out

removed_if : {K X : Type 0} (b : Bool) (e : K × X) (es fs : List (K × X)) (n : ℕ) → remove es n ≡ fs → remove (e ∷ es) (cond (not b) (1 + n) 0) ≡ cond b es (e ∷ fs)
removed_if true e es fs n later = refl
removed_if false e es fs n later = ap (remove (e ∷ es)) (sym (one_more n)) ∙ ap (λ xs. e ∷ xs) later

removed : {K X : Type 0} (test : K → Bool) (es : List (K × X)) → remove es (position_or_len (λ e. test e.0) es) ≡ remove_entry test es
removed test [] = refl
removed test (e ∷ es) = removed_if (test e.0) e es (remove_entry test es) (position_or_len (λ e. test e.0) es) (removed test es)

none_over_if : {X Y : Type 0} (f : X → Y) (b : Bool) (o : Option X) → option_map f (cond b None o) ≡ (if b then None else option_map f o)
none_over_if f true o = refl
none_over_if f false o = refl

pub left_out : {X Y : Type 0} (show : X → Y) (p : Pid) (es fs : List (Pid × X)) (n : ℕ) → IsDistinct same_pid (keys_of es) → Some n ≡ position (λ e. same_pid p e.0) es → fs ≡ remove es n
    → (q : Pid) → lookup (same_pid q) (shown show fs) ≡ (if same_pid p q then None else lookup (same_pid q) (shown show es))
left_out show p es fs n distinct place is q =
    let at = placed (λ e. same_pid p e.0) es n (sym place) in
    let now : fs ≡ remove_entry (same_pid p) es = is ∙ ap (remove es) (sym at.0) ∙ removed (same_pid p) es in
    lookup-map_values show (same_pid q) fs ∙ ap (λ xs. option_map show (lookup (same_pid q) xs)) now
    ∙ ap (option_map show) (lookup-remove_entry nat_list_eq_equiv (same_pid p) (same_test p) q es distinct)
    ∙ none_over_if show (same_pid p q) (lookup (same_pid q) es)
    ∙ ap (λ o. if same_pid p q then None else o) (sym (lookup-map_values show (same_pid q) es))

none_if : {Y : Type 0} (b : Bool) (o : Option Y) → (b ≡ true → o ≡ None) → o ≡ (if b then None else o)
none_if true o none = none refl
none_if false o none = refl

-- a process that was not there is left out already
pub never_there : {X Y : Type 0} (show : X → Y) (p : Pid) (es : List (Pid × X)) → None ≡ position (λ e. same_pid p e.0) es
    → (q : Pid) → lookup (same_pid q) (shown show es) ≡ (if same_pid p q then None else lookup (same_pid q) (shown show es))
never_there show p es place q =
    none_if (same_pid p q) (lookup (same_pid q) (shown show es)) (λ e. ap (λ r. lookup (same_pid r) (shown show es)) (sym ((bytes_eq-Decides p q).0 e)) ∙ sym (found_nowhere show p es place))

-- ---- what one process has is what it has in another list

here_if : {Y : Type 0} (b : Bool) (x y z : Y) → (b ≡ true → x ≡ y) → (if b then x else z) ≡ (if b then y else z)
here_if true x y z same = same refl
here_if false x y z same = refl

pub at_its_pid : {Y : Type 0} (p : Pid) (o : Option Y) (other old new : Pid → Option Y) → o ≡ other p → ((q : Pid) → new q ≡ (if same_pid p q then o else old q)) → (q : Pid) → new q ≡ (if same_pid p q then other q else old q)
at_its_pid p o other old new here is q = is q ∙ here_if (same_pid p q) o (other q) (old q) (λ e. here ∙ ap other ((bytes_eq-Decides p q).0 e))
