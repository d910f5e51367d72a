-- Tables: their settings and options (ets manual, `new/2`).
use Rattle.std.specs.List.{list_any}
use Rattle.std.specs.Prelude.{ℕ, Bool, true, false, List, [], ◌∷◌, Option, Some, None, option_map, unwrap_or, if◌then◌else◌, codes}
use Rattle.term_core.specs.Meaning.{Meaning}
use Rattle.world_model.specs.Names.{Name, Pid, Ref, same_name}
use Rattle.world_model.specs.Terms.{atom, reference, atom_in, process_in, parts_in, is_atom, positive_in, each_in}
use Rattle.world_model.specs.declared.table.Kind.{Kind}
use Rattle.world_model.specs.declared.table.Kind.TheVariants.{Set, OrderedSet, Bag, DuplicateBag}
use Rattle.world_model.specs.declared.table.Protection.{Protection}
use Rattle.world_model.specs.declared.table.Protection.TheVariants.{Public, Protected, Private}

-- who inherits a table, if anyone, and the data that it is given
abbrev pub Heir : Type 0
Heir = Option (Pid × Meaning)

-- a table: the name that it was made with, whether it is found by that, its owner, its heir, and its settings
pub record Table : Type 0 where
  pub name : Name
  pub is_named : Bool
  pub owner : Pid
  pub heir : Heir
  pub kind : Kind
  pub protection : Protection
  pub position : ℕ

-- what finds a table: its name, or else the reference of its creation
abbrev pub handle_of : Ref → Table → Meaning
handle_of t table = if table.is_named then atom table.name else reference t

abbrev pub is_bag : Kind → Bool
is_bag Set = false
is_bag OrderedSet = false
is_bag Bag = true
is_bag DuplicateBag = true

abbrev pub is_ordered : Kind → Bool
is_ordered Set = false
is_ordered OrderedSet = true
is_ordered Bag = false
is_ordered DuplicateBag = false

-- ---- options

-- one option of a new table; those that only tune are read and ignored
pub data TableOption : Type 0 where
  OfKind : (kind : Kind) → TableOption
  Protects : (protection : Protection) → TableOption
  Named : TableOption
  AtPosition : (position : ℕ) → TableOption
  WithHeir : (heir : Heir) → TableOption
  Tunes : TableOption

-- the options that are atoms
abbrev pub plain_options : List (Name × TableOption)
plain_options =
    (codes "set", OfKind Set) ∷ (codes "ordered_set", OfKind OrderedSet) ∷ (codes "bag", OfKind Bag) ∷ (codes "duplicate_bag", OfKind DuplicateBag)
    ∷ (codes "public", Protects Public) ∷ (codes "protected", Protects Protected) ∷ (codes "private", Protects Private)
    ∷ (codes "named_table", Named) ∷ (codes "compressed", Tunes) ∷ []

-- what is listed with a text
abbrev pub found_beside : {A : Type 0} → Name → List (Name × A) → Option A
found_beside text [] = None
found_beside text (x ∷ xs) = if same_name x.0 text then Some x.1 else found_beside text xs

-- the words that begin a pair which only tunes
abbrev pub tuning_words : List Name
tuning_words = codes "read_concurrency" ∷ codes "write_concurrency" ∷ codes "decentralized_counters" ∷ []

-- `{'heir','none'}`, and `{'heir',Pid,Data}`
abbrev pub heir_if : Bool → Heir → Option Heir
heir_if true heir = Some heir
heir_if false heir = None

abbrev pub heir_of_parts : List Meaning → Option Heir
heir_of_parts (word ∷ none ∷ []) = if is_atom (codes "heir") word then heir_if (is_atom (codes "none") none) None else None
heir_of_parts (word ∷ to ∷ gift ∷ []) = if is_atom (codes "heir") word then option_map (λ p. Some (p, gift)) (process_in to) else None
heir_of_parts parts = None

-- the heir option that a term is
abbrev pub heir_option : Meaning → Option Heir
heir_option m = unwrap_or (option_map heir_of_parts (parts_in m)) None

-- `{'keypos',N}`, N from 1 on, and pairs that only tune
abbrev pub pair_option : Meaning → Meaning → Option TableOption
pair_option word value =
    if is_atom (codes "keypos") word then option_map AtPosition (positive_in value) else
    (if list_any (λ text. is_atom text word) tuning_words then Some Tunes else None)

abbrev pub other_option : List Meaning → Option TableOption
other_option (word ∷ value ∷ []) = pair_option word value
other_option parts = None

-- the option that a tuple is: an heir, or another
abbrev pub heir_or : List Meaning → Option Heir → Option TableOption
heir_or parts (Some heir) = Some (WithHeir heir)
heir_or parts None = other_option parts

abbrev pub tuple_option : List Meaning → Option TableOption
tuple_option parts = heir_or parts (heir_of_parts parts)

-- the option that an atom or a tuple is
abbrev pub option_by : Option Name → Option (List Meaning) → Option TableOption
option_by (Some text) parts = found_beside text plain_options
option_by None (Some parts) = tuple_option parts
option_by None None = None

abbrev pub option_of : Meaning → Option TableOption
option_of m = option_by (atom_in m) (parts_in m)

-- the options of a proper list, if each item is one
abbrev pub options_of : Meaning → Option (List TableOption)
options_of m = each_in option_of m

-- the heirs that `setopts/2` is given: one heir option, or a proper list of them
abbrev pub heirs_or : Meaning → Option Heir → Option (List Heir)
heirs_or m (Some heir) = Some (heir ∷ [])
heirs_or m None = each_in heir_option m

abbrev pub heirs_of : Meaning → Option (List Heir)
heirs_of m = heirs_or m (heir_option m)

-- ---- settings: of several options of one kind the last counts

abbrev pub last_asked : {A : Type 0} → (TableOption → Option A) → A → List TableOption → A
last_asked asked otherwise [] = otherwise
last_asked asked otherwise (o ∷ os) = last_asked asked (unwrap_or (asked o) otherwise) os

abbrev pub kind_in : TableOption → Option Kind
kind_in (OfKind kind) = Some kind
kind_in o = None

abbrev pub protection_in : TableOption → Option Protection
protection_in (Protects protection) = Some protection
protection_in o = None

abbrev pub position_in : TableOption → Option ℕ
position_in (AtPosition position) = Some position
position_in o = None

abbrev pub heir_in : TableOption → Option Heir
heir_in (WithHeir heir) = Some heir
heir_in o = None

abbrev pub names_it : TableOption → Bool
names_it Named = true
names_it o = false

abbrev pub is_named : List TableOption → Bool
is_named os = list_any names_it os

-- the table that a process makes with this name and these options
abbrev pub table_of : Pid → Name → List TableOption → Table
table_of p name os = record {
  name = name;
  is_named = is_named os;
  owner = p;
  heir = last_asked heir_in None os;
  kind = last_asked kind_in Set os;
  protection = last_asked protection_in Protected os;
  position = last_asked position_in 1 os;
}

-- ---- what may change later

abbrev pub owned_by : Pid → Table → Table
owned_by p t = record t { owner = p }

abbrev pub with_heir : Heir → Table → Table
with_heir heir t = record t { heir = heir }
