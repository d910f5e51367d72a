-- Lists read item by item.
use Rattle.std.proofs.Common.{Bool, ◌||◌, List, ◌++◌, Option, option_map}
use Rattle.world_model.specs.Calls.{has_items, last_or}

-- items that are read, before what the others are
abbrev pub onto : {A : Type 0} → List A → Option (List A) → Option (List A)
onto xs others = option_map (λ ys. xs ++ ys) others

-- whether there are items, or were some before
abbrev pub or_more : Bool → Option (List Unit) → Option Bool
or_more some others = option_map (λ xs. some || has_items xs) others

-- the last of the others, or this one
abbrev pub last_of : {A : Type 0} → A → Option (List A) → Option A
last_of x others = option_map (last_or x) others
