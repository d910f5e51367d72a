-- The arguments of a call are told, where its terms are.
use Rattle.std.proofs.Common.{ℕ, ℤ, Bool, true, false, List, [], ◌∷◌, Option, Some, None, option_map}
use Rattle.std.specs.List.{AllByRecursion, list_any}
use Rattle.std.specs.Prelude.{codes}
use Rattle.core_calls.specs.declared.call.CallKind.{CallKind}
use Rattle.core_calls.specs.declared.call.CallKind.TheVariants as kinds
use Rattle.term_core.specs.Meaning.{Meaning, Tuple, Nil, Cons, parts_of}
use Rattle.term_core.specs.Meaning as terms
use Rattle.world_model.specs.Calls.{Call, Spawn, Send, SendExit, Link, Monitor, Register, StartTimer, New, OnTable, TableCall, Insert, InsertNew, DeleteKey, DeleteObject, Take, UpdateCounter, UpdateElement, GiveAway, SetOptions, origin_of, objects_by, objects_of, change_of_parts, change_of, changes_of, call_of, call_of_one, call_of_two, call_of_three, call_of_four, call_of_none, alias_of, monitor_by, watched_name_of}
use Rattle.world_model.specs.Names.{Pid, Name}
use Rattle.world_model.specs.Rows.{Object}
use Rattle.world_model.specs.Tables.{Heir, TableOption, AtPosition, WithHeir, Tunes, found_beside, tuning_words, heir_if, heir_of_parts, heir_option, pair_option, other_option, heir_or, option_of, heirs_or, plain_options}
use Rattle.world_model.specs.Terms.{atom_in, process_in, integer_in, parts_in, is_atom, before, each_in, items_in, position_of, positive_in}
use Rattle.world_model.specs.declared.alias.AliasEnd.{AliasEnd}
use Rattle.world_pids.specs.Numbers.{IsNumbered}
use Rattle.world_pids.proofs.Kept.{OriginTold, HeirTold}
use Rattle.world_pids.proofs.Rows.{ObjectsTold, PartTold}
use Rattle.world_pids.proofs.Told.{IfThere, chosen, IsTold, EachTold, parts_told}

module _ (n : ℕ) where
  abbrev pub OptionTold : TableOption → Type 0
  OptionTold (WithHeir heir) = HeirTold n heir
  OptionTold o = Unit {0}

  abbrev pub TableCallTold : TableCall → Type 0
  TableCallTold (Insert objects) = IfThere (ObjectsTold n) objects
  TableCallTold (InsertNew objects) = IfThere (ObjectsTold n) objects
  TableCallTold (DeleteKey key) = IsTold n key
  TableCallTold (DeleteObject object) = IfThere (EachTold n) object
  TableCallTold (Take key) = IsTold n key
  TableCallTold (UpdateCounter key increment default) = IsTold n key × IfThere (IfThere (EachTold n)) default
  TableCallTold (UpdateElement key changes) = IsTold n key × IfThere (λ (xs : List (ℕ × Meaning)). AllByRecursion (PartTold n) xs) changes
  TableCallTold (GiveAway to gift_) = IfThere (IsNumbered n) to × IsTold n gift_
  TableCallTold (SetOptions heirs) = IfThere (λ (hs : List Heir). AllByRecursion (HeirTold n) hs) heirs
  TableCallTold call = Unit {0}

  abbrev pub CallTold : Call → Type 0
  CallTold (Spawn way origin) = IfThere (OriginTold n) origin
  CallTold (Send to message) = IsTold n message
  CallTold (SendExit to reason) = IsTold n reason
  CallTold (Link to) = IfThere (IsNumbered n) to
  CallTold (Monitor is_process whom alias) = IfThere (IsNumbered n) whom
  CallTold (Register name whom) = IfThere (IsNumbered n) whom
  CallTold (StartTimer is_named time to message) = IsTold n message
  CallTold (New name options) = IfThere (λ (os : List TableOption). AllByRecursion OptionTold os) options
  CallTold (OnTable argument call) = TableCallTold call
  CallTold call = Unit {0}

  -- ---- parts of terms

  process_told : (m : Meaning) → IsTold n m → IfThere (IsNumbered n) (process_in m)
  process_told (terms.Pid p) h = h
  process_told m h = tt

  object_told : (m : Meaning) → IsTold n m → IfThere (EachTold n) (parts_in m)
  object_told (Tuple parts) h = parts_told n parts h
  object_told m h = tt

  before_told : {A : Type 0} (P : A → Type 0) (o : Option A) (others : Option (List A)) → IfThere P o → IfThere (λ (xs : List A). AllByRecursion P xs) others → IfThere (λ (xs : List A). AllByRecursion P xs) (before o others)
  before_told P None others h k = tt
  before_told P (Some x) None h k = tt
  before_told P (Some x) (Some xs) h k = (h, k)

  items_told : {A : Type 0} (P : A → Type 0) (read : Meaning → Option A) → ((m : Meaning) → IsTold n m → IfThere P (read m)) → (m : Meaning) → IsTold n m → IfThere (λ (xs : List A). AllByRecursion P xs) (each_in read m)
  items_told P read each Nil h = tt
  items_told P read each (Cons head tail) h = before_told P (read head) (each_in read tail) (each head h.0) (items_told P read each tail h.1)
  items_told P read each m h = tt

  origin_told : (m f : Option Name) (arguments : Option (List Meaning)) → IfThere (EachTold n) arguments → IfThere (OriginTold n) (origin_of m f arguments)
  origin_told (Some m) (Some f) (Some arguments) h = h
  origin_told (Some m) (Some f) None h = tt
  origin_told (Some m) None arguments h = tt
  origin_told None f arguments h = tt

  spawn_told : (m f arguments : Meaning) → IsTold n arguments → IfThere (OriginTold n) (origin_of (atom_in m) (atom_in f) (items_in arguments))
  spawn_told m f arguments h = origin_told (atom_in m) (atom_in f) (items_in arguments) (items_told (IsTold n) (λ item. Some item) (λ item t. t) arguments h)

  -- ---- objects and changes

  one_or_more : (m : Meaning) (o : Option Object) → IsTold n m → IfThere (EachTold n) o → IfThere (ObjectsTold n) (objects_by m o)
  one_or_more m (Some object) h k = (k, tt)
  one_or_more m None h k = items_told (EachTold n) parts_in object_told m h

  given_told : (m : Meaning) → IsTold n m → IfThere (ObjectsTold n) (objects_of m)
  given_told m h = one_or_more m (parts_in m) h (object_told m h)

  put_there : (o : Option ℤ) (value : Meaning) → IsTold n value → IfThere (λ (x : ℕ × Meaning). IsTold n x.1) (option_map (λ z. (position_of z, value)) o)
  put_there None value h = tt
  put_there (Some z) value h = h

  change_in : (parts : List Meaning) → EachTold n parts → IfThere (λ (x : ℕ × Meaning). IsTold n x.1) (change_of_parts parts)
  change_in [] h = tt
  change_in (a ∷ []) h = tt
  change_in (a ∷ value ∷ []) h = put_there (integer_in a) value h.1.0
  change_in (a ∷ b ∷ c ∷ parts) h = tt

  change_told : (m : Meaning) → IsTold n m → IfThere (λ (x : ℕ × Meaning). IsTold n x.1) (change_of m)
  change_told (Tuple parts) h = change_in (parts_of parts) (parts_told n parts h)
  change_told m h = tt

  one_changed : (o : Option (ℕ × Meaning)) → IfThere (PartTold n) o → IfThere (λ (xs : List (ℕ × Meaning)). AllByRecursion (PartTold n) xs) (option_map (λ change. change ∷ []) o)
  one_changed None h = tt
  one_changed (Some x) h = (h, tt)

  changes_told : (m : Meaning) → IsTold n m → IfThere (λ (xs : List (ℕ × Meaning)). AllByRecursion (PartTold n) xs) (changes_of m)
  changes_told (Tuple parts) h = one_changed (change_of_parts (parts_of parts)) (change_in (parts_of parts) (parts_told n parts h))
  changes_told m h = items_told (PartTold n) change_of change_told m h

  -- ---- options

  abbrev HeirGiven : Option Heir → Type 0
  HeirGiven o = IfThere (HeirTold n) o

  named_heir : (o : Option Pid) (gift_ : Meaning) → IfThere (IsNumbered n) o → IsTold n gift_ → HeirGiven (option_map (λ p. Some (p, gift_)) o)
  named_heir None gift_ h k = tt
  named_heir (Some p) gift_ h k = (h, k)

  no_heir : (b : Bool) → HeirGiven (heir_if b None)
  no_heir true = tt
  no_heir false = tt

  heir_in_parts : (parts : List Meaning) → EachTold n parts → HeirGiven (heir_of_parts parts)
  heir_in_parts [] h = tt
  heir_in_parts (word ∷ []) h = tt
  heir_in_parts (word ∷ none ∷ []) h = chosen HeirGiven (is_atom (codes "heir") word) (heir_if (is_atom (codes "none") none) None) None (no_heir (is_atom (codes "none") none)) tt
  heir_in_parts (word ∷ to ∷ gift_ ∷ []) h = chosen HeirGiven (is_atom (codes "heir") word) (option_map (λ p. Some (p, gift_)) (process_in to)) None (named_heir (process_in to) gift_ (process_told to h.1.0) h.1.1.0) tt
  heir_in_parts (a ∷ b ∷ c ∷ d ∷ parts) h = tt

  heir_option_told : (m : Meaning) → IsTold n m → HeirGiven (heir_option m)
  heir_option_told (Tuple parts) h = heir_in_parts (parts_of parts) (parts_told n parts h)
  heir_option_told m h = tt

  abbrev OptionGiven : Option TableOption → Type 0
  OptionGiven o = IfThere OptionTold o

  place_given : (o : Option ℕ) → OptionGiven (option_map AtPosition o)
  place_given None = tt
  place_given (Some position) = tt

  pair_told : (word value : Meaning) → OptionGiven (pair_option word value)
  pair_told word value =
      chosen OptionGiven (is_atom (codes "keypos") word) (option_map AtPosition (positive_in value)) _ (place_given (positive_in value))
      (chosen OptionGiven (list_any (λ text. is_atom text word) tuning_words) (Some Tunes) None tt tt)

  other_told : (parts : List Meaning) → OptionGiven (other_option parts)
  other_told [] = tt
  other_told (a ∷ []) = tt
  other_told (word ∷ value ∷ []) = pair_told word value
  other_told (a ∷ b ∷ c ∷ parts) = tt

  heir_or_told : (parts : List Meaning) (o : Option Heir) → HeirGiven o → OptionGiven (heir_or parts o)
  heir_or_told parts (Some heir) h = h
  heir_or_told parts None h = other_told parts

  plain_told : (text : Name) (options : List (Name × TableOption)) → AllByRecursion (λ (x : Name × TableOption). OptionTold x.1) options → OptionGiven (found_beside text options)
  plain_told text [] h = tt
  plain_told text (x ∷ xs) h = chosen OptionGiven _ (Some x.1) (found_beside text xs) h.0 (plain_told text xs h.1)

  option_told : (m : Meaning) → IsTold n m → OptionGiven (option_of m)
  option_told (terms.Atom text) h = plain_told text plain_options (tt, (tt, (tt, (tt, (tt, (tt, (tt, (tt, (tt, tt)))))))))
  option_told (Tuple parts) h = heir_or_told (parts_of parts) (heir_of_parts (parts_of parts)) (heir_in_parts (parts_of parts) (parts_told n parts h))
  option_told m h = tt

  heirs_told : (m : Meaning) (o : Option Heir) → IsTold n m → HeirGiven o → IfThere (λ (hs : List Heir). AllByRecursion (HeirTold n) hs) (heirs_or m o)
  heirs_told m (Some heir) h k = (k, tt)
  heirs_told m None h k = items_told (HeirTold n) heir_option heir_option_told m h

  -- ---- calls

  monitor_told : (b : Bool) (o : Option Pid) (name : Option Name) (alias : Option (Option AliasEnd)) → IfThere (IsNumbered n) o → CallTold (monitor_by b o name alias)
  monitor_told b o None alias h = h
  monitor_told b o (Some name) alias h = tt

  one_told : (kind : CallKind) (a : Meaning) → IsTold n a → CallTold (call_of_one kind a)
  one_told kinds.Link a h = process_told a h
  one_told kind a h = tt

  two_told : (kind : CallKind) (a b : Meaning) → IsTold n a → IsTold n b → CallTold (call_of_two kind a b)
  two_told kinds.Bang a b h k = k
  two_told kinds.Send a b h k = k
  two_told kinds.Exit a b h k = k
  two_told kinds.Monitor a b h k = monitor_told (is_atom (codes "process") a) (process_in b) (watched_name_of b) (Some None) (process_told b k)
  two_told kinds.Register a b h k = process_told b k
  two_told kinds.New a b h k = items_told OptionTold option_of option_told b k
  two_told kinds.Insert a b h k = given_told b k
  two_told kinds.InsertNew a b h k = given_told b k
  two_told kinds.DeleteKey a b h k = k
  two_told kinds.DeleteObject a b h k = object_told b k
  two_told kinds.Take a b h k = k
  two_told kinds.SetOptions a b h k = heirs_told b (heir_option b) k (heir_option_told b k)
  two_told kind a b h k = tt

  three_told : (kind : CallKind) (a b c : Meaning) → IsTold n b → IsTold n c → CallTold (call_of_three kind a b c)
  three_told kinds.Spawn a b c h k = spawn_told a b c k
  three_told kinds.SpawnLink a b c h k = spawn_told a b c k
  three_told kinds.SpawnMonitor a b c h k = spawn_told a b c k
  three_told kinds.MonitorWith a b c h k = monitor_told (is_atom (codes "process") a) (process_in b) (watched_name_of b) (alias_of c) (process_told b h)
  three_told kinds.StartTimer a b c h k = k
  three_told kinds.SendAfter a b c h k = k
  three_told kinds.UpdateCounter a b c h k = (h, tt)
  three_told kinds.UpdateElement a b c h k = (h, changes_told c k)
  three_told kinds.GiveAway a b c h k = (process_told b h, k)
  three_told kind a b c h k = tt

  four_told : (kind : CallKind) (a b c d : Meaning) → IsTold n b → IsTold n d → CallTold (call_of_four kind a b c d)
  four_told kinds.UpdateCounterWith a b c d h k = (h, object_told d k)
  four_told kind a b c d h k = tt

  none_told : (kind : CallKind) → CallTold (call_of_none kind)
  none_told kinds.MakeRef = tt
  none_told kind = tt

  pub call_told : (kind : CallKind) (arguments : List Meaning) → EachTold n arguments → CallTold (call_of kind arguments)
  call_told kind [] h = none_told kind
  call_told kind (a ∷ []) h = one_told kind a h.0
  call_told kind (a ∷ b ∷ []) h = two_told kind a b h.0 h.1.0
  call_told kind (a ∷ b ∷ c ∷ []) h = three_told kind a b c h.1.0 h.1.1.0
  call_told kind (a ∷ b ∷ c ∷ d ∷ []) h = four_told kind a b c d h.1.0 h.1.1.1.0
  call_told kind (a ∷ b ∷ c ∷ d ∷ e ∷ more) h = tt
