-- Calls with more than four arguments, and pairs.
use Rattle.std.proofs.Common.{◌≡◌, ◌<◌, ◌≤◌, List, [], ◌∷◌, length, map, refl, arith, Some, None, if◌then◌else◌, slice_index_or}
use Rattle.std.specs.Prelude.{codes}
use Rattle.core_calls.specs.declared.call.CallKind.{CallKind}
use Rattle.term_core.specs.Meaning.{Meaning}
use Rattle.term_core.specs.Term.{meaning_of}
use Rattle.term_core.specs.declared.term.Term.{Term}
use Rattle.world_model.specs.Calls as calls
use Rattle.world_model.specs.Calls.{call_of, call_of_four, destination_at, destination_of_parts, end_beside, end_watched, name_here}
use Rattle.world_model.specs.Names.{own_node}
use Rattle.world_model.specs.Terms.{atom_in, is_atom}
use Rattle.proc_calls.specs.Requests.{IsReadAs}
use Rattle.proc_calls.specs.declared.request.ProcessRequest.{ProcessRequest}

-- no call has more than four
pub too_many : (kind : CallKind) (ms : List Meaning) → 4 < length ms → call_of kind ms ≡ calls.Misfit
too_many kind [] more = absurd (omega arith)
too_many kind (a ∷ []) more = absurd (omega arith)
too_many kind (a ∷ b ∷ []) more = absurd (omega arith)
too_many kind (a ∷ b ∷ c ∷ []) more = absurd (omega arith)
too_many kind (a ∷ b ∷ c ∷ d ∷ []) more = absurd (omega arith)
too_many kind (a ∷ b ∷ c ∷ d ∷ e ∷ ms) more = refl

-- what is said of each four arguments
pub of_four_arguments : (kind : CallKind) (ms : List Meaning) (r : ProcessRequest) → 4 ≤ length ms → length ms < 5 → ((a b c d : Meaning) → IsReadAs (call_of_four kind a b c d) r) → IsReadAs (call_of kind ms) r
of_four_arguments kind [] r least most says = absurd (omega arith)
of_four_arguments kind (a ∷ []) r least most says = absurd (omega arith)
of_four_arguments kind (a ∷ b ∷ []) r least most says = absurd (omega arith)
of_four_arguments kind (a ∷ b ∷ c ∷ []) r least most says = absurd (omega arith)
of_four_arguments kind (a ∷ b ∷ c ∷ d ∷ []) r least most says = says a b c d
of_four_arguments kind (a ∷ b ∷ c ∷ d ∷ e ∷ ms) r least most says = absurd (omega arith)

-- of two parts the first says whether the second counts
pub of_two : (xs : List Term) (d : Term) → length xs ≡ 2 → end_beside (Some (map meaning_of xs)) ≡ (if is_atom (codes "alias") (meaning_of (slice_index_or xs 0 d)) then end_watched (meaning_of (slice_index_or xs 1 d)) else None)
of_two [] d is = absurd (omega arith)
of_two (a ∷ []) d is = absurd (omega arith)
of_two (a ∷ b ∷ []) d is = refl
of_two (a ∷ b ∷ c ∷ xs) d is = absurd (omega arith)

pub not_two : (xs : List Term) → (length xs ≡ 2 → ⊥) → end_beside (Some (map meaning_of xs)) ≡ None
not_two [] not = refl
not_two (a ∷ []) not = refl
not_two (a ∷ b ∷ []) not = absurd (not refl)
not_two (a ∷ b ∷ c ∷ xs) not = refl

-- a message to two parts is for a name at a node
pub sent_to_two : (xs : List Term) (d : Term) → length xs ≡ 2 → destination_of_parts (Some (map meaning_of xs)) ≡ destination_at (atom_in (meaning_of (slice_index_or xs 0 d))) (atom_in (meaning_of (slice_index_or xs 1 d)))
sent_to_two [] d is = absurd (omega arith)
sent_to_two (a ∷ []) d is = absurd (omega arith)
sent_to_two (a ∷ b ∷ []) d is = refl
sent_to_two (a ∷ b ∷ c ∷ xs) d is = absurd (omega arith)

pub sent_to_others : (xs : List Term) → (length xs ≡ 2 → ⊥) → destination_of_parts (Some (map meaning_of xs)) ≡ calls.ToNobody
sent_to_others [] not = refl
sent_to_others (a ∷ []) not = refl
sent_to_others (a ∷ b ∷ []) not = absurd (not refl)
sent_to_others (a ∷ b ∷ c ∷ xs) not = refl

-- and so is what is to be watched
pub named_by_two : (xs : List Term) (d : Term) → length xs ≡ 2 → name_here (Some (map meaning_of xs)) ≡ (if is_atom own_node (meaning_of (slice_index_or xs 1 d)) then atom_in (meaning_of (slice_index_or xs 0 d)) else None)
named_by_two [] d is = absurd (omega arith)
named_by_two (a ∷ []) d is = absurd (omega arith)
named_by_two (a ∷ b ∷ []) d is = refl
named_by_two (a ∷ b ∷ c ∷ xs) d is = absurd (omega arith)

pub named_by_others : (xs : List Term) → (length xs ≡ 2 → ⊥) → name_here (Some (map meaning_of xs)) ≡ None
named_by_others [] not = refl
named_by_others (a ∷ []) not = refl
named_by_others (a ∷ b ∷ []) not = absurd (not refl)
named_by_others (a ∷ b ∷ c ∷ xs) not = refl
