-- The codes of stacks, by which proofs distinguish values.
use Rattle.std.specs.Prelude.{◌≡◌, ◌⊎◌, List, refl}
use Rattle.std.specs.Coded.{Coded, code_by, coded×, coded⊎, coded_list, coded_ℕ}
use Rattle.std.proofs.Common.{inl, inr}
use base.Stored.{coded_unit}
use Rattle.core_tree.specs.Syntax.{Mention, Callee, Tree, ClauseTree}
use Rattle.core_tree.specs.inside.SyntaxCodes.{coded_mention, coded_callee, coded_tree, coded_clause}
use Rattle.term_core.specs.Meaning.{Meaning}
use Rattle.term_core.specs.inside.MeaningCodes.{coded_meaning}
use Rattle.core_stack.specs.Matching.{Environment}
use Rattle.core_stack.specs.Holes.{Purpose, Hole}
use Rattle.core_stack.specs.Purposes as purposes
use Rattle.core_stack.specs.Holes as holes

abbrev PurposeShape : Type 0
PurposeShape = (Unit {0} ⊎ Unit {0}) ⊎ (Tree ⊎ (Callee ⊎ Unit {0}))

abbrev purpose_shape : Purpose → PurposeShape
purpose_shape purposes.Tuple = inl (inl tt)
purpose_shape purposes.List = inl (inr tt)
purpose_shape (purposes.Onto t) = inr (inl t)
purpose_shape (purposes.Call callee) = inr (inr (inl callee))
purpose_shape purposes.Values = inr (inr (inr tt))

abbrev purpose_in : PurposeShape → Purpose
purpose_in (inl (inl u)) = purposes.Tuple
purpose_in (inl (inr u)) = purposes.List
purpose_in (inr (inl t)) = purposes.Onto t
purpose_in (inr (inr (inl callee))) = purposes.Call callee
purpose_in (inr (inr (inr u))) = purposes.Values

pub purpose_in-purpose_shape : (p : Purpose) → purpose_in (purpose_shape p) ≡ p
purpose_in-purpose_shape purposes.Tuple = refl
purpose_in-purpose_shape purposes.List = refl
purpose_in-purpose_shape (purposes.Onto t) = refl
purpose_in-purpose_shape (purposes.Call callee) = refl
purpose_in-purpose_shape purposes.Values = refl

abbrev pub coded_purpose : Coded Purpose
coded_purpose = code_by PurposeShape (coded⊎ (coded⊎ coded_unit coded_unit) (coded⊎ coded_tree (coded⊎ coded_callee coded_unit))) purpose_shape purpose_in purpose_in-purpose_shape

abbrev pub coded_environment : Coded Environment
coded_environment = coded_list (coded× (coded_list coded_ℕ) coded_meaning)

-- the holes that wait for one of several parts, for values, and for what may raise
abbrev PartShape : Type 0
PartShape = (Purpose × (List Meaning × List Tree)) ⊎ (List Meaning ⊎ (Tree ⊎ (List ClauseTree × Tree)))

abbrev ValuesShape : Type 0
ValuesShape = (List Mention × Tree) ⊎ (List ClauseTree ⊎ (Environment ⊎ Environment))

abbrev ProtectedShape : Type 0
ProtectedShape = (Environment × (Tree × (List ClauseTree × List Meaning))) ⊎ ((List Mention × (Tree × (List Mention × Tree))) ⊎ Unit {0})

abbrev HoleShape : Type 0
HoleShape = PartShape ⊎ (ValuesShape ⊎ ProtectedShape)

abbrev hole_shape : Hole → HoleShape
hole_shape (holes.Parts purpose done later) = inl (inl (purpose, (done, later)))
hole_shape (holes.Tail items) = inl (inr (inl items))
hole_shape (holes.Second second) = inl (inr (inr (inl second)))
hole_shape (holes.Receive clauses action) = inl (inr (inr (inr (clauses, action))))
hole_shape (holes.Body variables body) = inr (inl (inl (variables, body)))
hole_shape (holes.Clauses clauses) = inr (inl (inr (inl clauses)))
hole_shape (holes.Kept bindings) = inr (inl (inr (inr (inl bindings))))
hole_shape (holes.Applied bindings) = inr (inl (inr (inr (inr bindings))))
hole_shape (holes.Guard bindings body others values) = inr (inr (inl (bindings, (body, (others, values)))))
hole_shape (holes.Try variables body caught handler) = inr (inr (inr (inl (variables, (body, (caught, handler))))))
hole_shape holes.Catch = inr (inr (inr (inr tt)))

abbrev hole_in : HoleShape → Hole
hole_in (inl (inl g)) = holes.Parts g.0 g.1.0 g.1.1
hole_in (inl (inr (inl items))) = holes.Tail items
hole_in (inl (inr (inr (inl second)))) = holes.Second second
hole_in (inl (inr (inr (inr r)))) = holes.Receive r.0 r.1
hole_in (inr (inl (inl b))) = holes.Body b.0 b.1
hole_in (inr (inl (inr (inl clauses)))) = holes.Clauses clauses
hole_in (inr (inl (inr (inr (inl bindings))))) = holes.Kept bindings
hole_in (inr (inl (inr (inr (inr bindings))))) = holes.Applied bindings
hole_in (inr (inr (inl g))) = holes.Guard g.0 g.1.0 g.1.1.0 g.1.1.1
hole_in (inr (inr (inr (inl t)))) = holes.Try t.0 t.1.0 t.1.1.0 t.1.1.1
hole_in (inr (inr (inr (inr u)))) = holes.Catch

pub hole_in-hole_shape : (h : Hole) → hole_in (hole_shape h) ≡ h
hole_in-hole_shape (holes.Parts purpose done later) = refl
hole_in-hole_shape (holes.Tail items) = refl
hole_in-hole_shape (holes.Body variables body) = refl
hole_in-hole_shape (holes.Second second) = refl
hole_in-hole_shape (holes.Clauses clauses) = refl
hole_in-hole_shape (holes.Receive clauses action) = refl
hole_in-hole_shape (holes.Guard bindings body others values) = refl
hole_in-hole_shape (holes.Try variables body caught handler) = refl
hole_in-hole_shape holes.Catch = refl
hole_in-hole_shape (holes.Kept bindings) = refl
hole_in-hole_shape (holes.Applied bindings) = refl

abbrev coded_part : Coded PartShape
coded_part = coded⊎ (coded× coded_purpose (coded× (coded_list coded_meaning) (coded_list coded_tree))) (coded⊎ (coded_list coded_meaning) (coded⊎ coded_tree (coded× (coded_list coded_clause) coded_tree)))

abbrev coded_values : Coded ValuesShape
coded_values = coded⊎ (coded× (coded_list coded_mention) coded_tree) (coded⊎ (coded_list coded_clause) (coded⊎ coded_environment coded_environment))

abbrev coded_protected : Coded ProtectedShape
coded_protected =
    coded⊎ (coded× coded_environment (coded× coded_tree (coded× (coded_list coded_clause) (coded_list coded_meaning))))
    (coded⊎ (coded× (coded_list coded_mention) (coded× coded_tree (coded× (coded_list coded_mention) coded_tree))) coded_unit)

abbrev pub coded_hole : Coded Hole
coded_hole = code_by HoleShape (coded⊎ coded_part (coded⊎ coded_values coded_protected)) hole_shape hole_in hole_in-hole_shape
