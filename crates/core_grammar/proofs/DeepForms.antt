-- Where reading stops at a construct past the last level: expressions, except for their clauses.
use Rattle.std.proofs.Common.{◌≡◌, ℕ, Bool, true, false, cond, List, [], ◌∷◌, Option, Some, None, Result, Ok, refl, subst}
use Rattle.std.specs.Prelude.{◌||◌}
use Rattle.core_tokens.specs.declared.fault.ReadFault.{ReadFault}
use Rattle.core_tokens.specs.declared.fault.ReadFault.TheVariants.{Expected, HigherOrder, UnsupportedCall, TooDeep, UnsupportedForm}
use Rattle.core_tokens.specs.declared.token.Mark.TheVariants as m
use Rattle.core_tokens.specs.declared.token.Keyword.TheVariants as k
use Rattle.core_tokens.specs.Piece.{Piece, Shape}
use Rattle.core_tokens.specs.Piece as lexemes
use Rattle.core_tree.specs.Syntax.{Callee, Pattern, Tree, trees_of}
use Rattle.core_tree.specs.Expression as trees
use Rattle.core_grammar.specs.Grammar.{atom, BareName, FunctionName, BareAtom, is_the_atom, AtomIn, Variables, CaughtVariables, IsNoSlash}
use Rattle.core_grammar.specs.Beginnings.{Beginning, OfAtom, OfOtherForm, beginning}
use Rattle.core_grammar.specs.Depth.{BeginsExpressionBy, BeginsExpression, Front, Nowhere, PartOf, PastMark, PastWord, Part, Past, InItems, InCommas, InList, DeepName, DeepAtom, DeepVariables, DeepCaught}
use Rattle.core_grammar.specs.declared.unserved.Unserved.{Unserved}
use Rattle.core_scopes.specs.Outcomes.{◌>>=◌}
use Rattle.core_grammar.specs.inside.Decoder.{State, Read, with_pieces, is_mark, after_mark, is_foreign, refusal, mark_at, atom_in, named_by, atom_at, closed_at, brackets_at, exactly_at, variables_at, caught_at}
use Rattle.core_grammar.specs.inside.DecoderForms.{is_function_by, is_function, begins_expression_by, begins_expression, deep_expression_of, expression_fault_of, deep_expression, expression_fault, callee_fault_of, callee_fault, bare_callee_at, callee_at, applied_fault_of, applied_fault, applied_atom_at, behind_applied_by, bare_applied_at, applied_at, refuse, judged, name_by, tuple_at, list_at, values_at, let_at, do_at, apply_at, call_at, primop_at, try_at, catch_at, behind_patterns_at}
use Rattle.core_grammar.proofs.Steps.{atom_steps, Sound}
use Rattle.core_grammar.proofs.SoundNames.{at_front, variables_sound, caught_sound}
use Rattle.core_grammar.proofs.SoundForms.{bare_callee_sound, callee_sound, bare_applied_sound, applied_sound}
use Rattle.core_grammar.proofs.DeepLists.{failed, IsOther, cond_other, refusal_other, refusal_deep, Never, Fallen, Fall, Falls, never_other, ok_never, never_bind, mark_never, taken_never, atom_never, behind_atom_never, first_falls, part_falls, part_of_falls, mark_falls, word_falls, closed_falls, brackets_falls, exactly_falls}
use Rattle.core_grammar.proofs.DeepNames.{front_is, pattern_begins, noted_falls, variables_falls, caught_falls}

-- ---- faults

foreign_other : (p : Piece) → IsOther (cond (is_foreign p.shape) (UnsupportedForm p.at) (Expected p.at))
foreign_other p = cond_other (is_foreign p.shape) (UnsupportedForm p.at) (Expected p.at) tt tt

callee_fault_of_other : (bt stop : ℕ) (ps : List Piece) → IsOther (callee_fault_of bt stop ps)
callee_fault_of_other bt stop [] = tt
callee_fault_of_other bt stop (p ∷ ps) = cond_other (is_function p.shape [] || begins_expression p.shape) (UnsupportedCall bt) (cond (is_foreign p.shape) (UnsupportedForm p.at) (Expected p.at)) tt (foreign_other p)

callee_fault_other : (bt : ℕ) (s : State) → IsOther (callee_fault bt s)
unfolding callee_fault
callee_fault_other bt s = refusal_other s.refused (callee_fault_of bt s.stop s.pieces) (callee_fault_of_other bt s.stop s.pieces)

applied_fault_of_other : (stop : ℕ) (ps : List Piece) → IsOther (applied_fault_of stop ps)
applied_fault_of_other stop [] = tt
applied_fault_of_other stop (p ∷ ps) = cond_other (is_function p.shape [] || begins_expression p.shape) (HigherOrder p.at) (cond (is_foreign p.shape) (UnsupportedForm p.at) (Expected p.at)) tt (foreign_other p)

applied_fault_other : (s : State) → IsOther (applied_fault s)
unfolding applied_fault
applied_fault_other s = refusal_other s.refused (applied_fault_of s.stop s.pieces) (applied_fault_of_other s.stop s.pieces)

expression_fault_of_other : (stop : ℕ) (ps : List Piece) → IsOther (expression_fault_of stop ps)
expression_fault_of_other stop [] = tt
expression_fault_of_other stop (p ∷ ps) =
    let other : ReadFault = cond (is_foreign p.shape) (UnsupportedForm p.at) (Expected p.at) in
    cond_other (is_function p.shape ps) (HigherOrder p.at) other tt (foreign_other p)

expression_fault_other : (s : State) → IsOther (expression_fault s)
unfolding expression_fault
expression_fault_other s = refusal_other s.refused (expression_fault_of s.stop s.pieces) (expression_fault_of_other s.stop s.pieces)

no_slash_of : (shape : Shape) → is_mark m.Slash shape ≡ false → IsNoSlash shape
no_slash_of (lexemes.Mark m.Slash) e = absurd cc
no_slash_of shape e = tt

expression_begins : (b : Beginning) (ps : List Piece) → is_function_by b ps ≡ false → begins_expression_by b ≡ true → BeginsExpressionBy b ps
expression_begins OfAtom [] f e = tt
expression_begins OfAtom (p ∷ ps) f e = no_slash_of p.shape f
expression_begins OfOtherForm ps f e = tt
expression_begins b ps f e = pattern_begins b e

no_function : (at bt : ℕ) (b : Bool) (other : ReadFault) → cond b (HigherOrder bt) other ≡ TooDeep at → (b ≡ false) × (other ≡ TooDeep at)
no_function at bt true other e = absurd (subst IsOther e tt)
no_function at bt false other e = (refl, e)

expression_front : (at stop : ℕ) (ps : List Piece) → deep_expression_of stop ps ≡ TooDeep at → Front BeginsExpression at ps
expression_front at stop [] e = absurd (subst IsOther e tt)
expression_front at stop (p ∷ ps) e =
    let other : ReadFault = cond (is_foreign p.shape) (UnsupportedForm p.at) (Expected p.at) in
    let f = no_function at p.at (is_function p.shape ps) (cond (begins_expression p.shape) (TooDeep p.at) other) e in
    let d = front_is at p.at (begins_expression p.shape) other (foreign_other p) f.1 in
    (d.1, expression_begins (beginning p.shape) ps f.0 d.0)

pub atom_sound : Sound None atom_at BareAtom
atom_sound s a t e done = let h = atom_steps s a t e in (h.back done, at_front BareAtom s.pieces (atom h.at a ∷ t.pieces) a t.pieces h.pieces is_the_atom)

module _ (at : ℕ) where
  pub deep_expression_falls : (s : State) → deep_expression s ≡ TooDeep at → Fallen at s (Front BeginsExpression at)
  unfolding deep_expression
  deep_expression_falls s e = let d = refusal_deep at s.refused (deep_expression_of s.stop s.pieces) e in (d.0, expression_front at s.stop s.pieces d.1)

  pub fault_never : {A : Type 0} (s : State) → Never at (failed {A = A} (expression_fault s))
  fault_never s = never_other at (expression_fault s) (expression_fault_other s)

  -- ---- names of calls

  bare_callee_never : (bt : ℕ) (s : State) → Never at (bare_callee_at bt s)
  unfolding bare_callee_at
  bare_callee_never bt s = taken_never at (λ p. atom_in p.shape) s.pieces s (callee_fault bt s) (callee_fault_other bt s)

  callee_falls : (bt n : ℕ) → Falls at (callee_at bt n) (DeepAtom at n)
  unfolding callee_at
  callee_falls bt n s e = noted_falls at (λ _. bare_callee_at bt) (λ _. BareAtom) (λ _. Nowhere) (λ _. bare_callee_sound bt) (λ l t h. absurd (bare_callee_never bt t h)) n s e

  applied_atom_never : (s : State) → Never at (applied_atom_at s)
  unfolding applied_atom_at
  applied_atom_never s = taken_never at (λ p. named_by p.at p.shape) s.pieces s (applied_fault s) (applied_fault_other s)

  behind_applied_never : (bt : ℕ) (t : List ℕ) (o : Option (List Piece)) (s : State) → Never at (behind_applied_by bt t o s)
  behind_applied_never bt t (Some ps) s = never_other at (refusal s.refused (HigherOrder bt)) (refusal_other s.refused (HigherOrder bt) tt)
  behind_applied_never bt t None s = behind_atom_never at bt t s

  bare_applied_never : (s : State) → Never at (bare_applied_at s)
  unfolding bare_applied_at
  bare_applied_never s = never_bind at (applied_atom_at s) _ (applied_atom_never s) (λ a. behind_applied_never a.0.0 a.0.1 (after_mark m.LeftParenthesis a.1.pieces) a.1)

  applied_falls : (n : ℕ) → Falls at (applied_at n) (DeepName at n)
  unfolding applied_at
  applied_falls n s e = noted_falls at (λ _. bare_applied_at) (λ _. BareName) (λ _. Nowhere) (λ _. bare_applied_sound) (λ l t h. absurd (bare_applied_never t h)) n s e

  -- ---- expressions

  judged_never : (bt : ℕ) (u : Unserved) (o : Option Callee) (ts : List Tree) (s : State) → Never at (judged bt u o ts s)
  judged_never bt u (Some callee) ts s = ok_never at (trees.Call bt callee (trees_of ts), s)
  judged_never bt u None ts s = ok_never at (trees.List trees.NoMore, refuse u s)

  pub name_never : (o : Option (List Piece)) (t : List ℕ) (ps : List Piece) (s : State) → Never at (name_by o t ps s)
  name_never (Some qs) t ps s = fault_never s
  name_never None t ps s = ok_never at (trees.Atom t, with_pieces s ps)

  module _ (own : List ℕ) (n : ℕ) (inner : State → Read Tree) (Inner : List Piece → Tree → List Piece → Type 0) (Deep : List Piece → Type 0) (each : Sound None inner Inner) (falls : Falls at inner Deep) where
    -- the last part of a form
    pub last_falls : {A : Type 0} (s : State) (g : Tree × State → A) → Fall at (inner s >>= λ x. Ok (g x)) s Deep
    last_falls s g = first_falls at (inner s) _ s Deep (falls s) (λ x. ok_never at (g x))

    pub tuple_falls : Falls at (tuple_at own n inner) (InCommas Inner Deep)
    unfolding tuple_at
    tuple_falls s = first_falls at (closed_at inner m.RightBrace s) _ s (InCommas Inner Deep) (closed_falls at inner Inner Deep each falls m.RightBrace s) (λ ts. ok_never at _)

    pub list_falls : Falls at (list_at own n inner) (InList Inner Deep)
    unfolding list_at
    list_falls s = first_falls at (brackets_at inner s) _ s (InList Inner Deep) (brackets_falls at inner Inner Deep each falls s) (λ b. ok_never at _)

    pub values_falls : Falls at (values_at own n inner) (InCommas Inner Deep)
    unfolding values_at
    values_falls s = first_falls at (closed_at inner m.Greater s) _ s (InCommas Inner Deep) (closed_falls at inner Inner Deep each falls m.Greater s) (λ ts. ok_never at _)

    pub let_falls : Falls at (let_at own n inner) (Part (Variables n) (DeepVariables at n) (PastMark m.Equals (Part Inner Deep (PastWord k.In Deep))))
    unfolding let_at
    let_falls s =
        part_falls at (variables_at n) (Variables n) (DeepVariables at n) (PastMark m.Equals (Part Inner Deep (PastWord k.In Deep))) (variables_sound n) (variables_falls at n) s _ (λ vs s1.
        mark_falls at m.Equals (Part Inner Deep (PastWord k.In Deep)) s1 _ (λ s2.
        part_falls at inner Inner Deep (PastWord k.In Deep) each falls s2 _ (λ t s3.
        word_falls at k.In Deep s3 _ (λ s4. last_falls s4 _))))

    pub do_falls : Falls at (do_at own n inner) (Part Inner Deep Deep)
    unfolding do_at
    do_falls s = part_falls at inner Inner Deep Deep each falls s _ (λ t s1. last_falls s1 _)

    pub apply_falls : (bt : ℕ) → Falls at (apply_at own n inner bt) (PartOf (FunctionName n) (DeepName at n) (λ named. PastMark m.LeftParenthesis (InItems Inner Deep named.function.arity)))
    unfolding apply_at
    apply_falls bt s =
        part_of_falls at (applied_at n) (FunctionName n) (DeepName at n) (λ named. PastMark m.LeftParenthesis (InItems Inner Deep named.function.arity)) (applied_sound n) (applied_falls n) s _ (λ named s1.
        mark_falls at m.LeftParenthesis (InItems Inner Deep named.function.arity) s1 _ (λ s2.
        first_falls at (exactly_at inner true named.function.arity s2) _ s2 (InItems Inner Deep named.function.arity) (exactly_falls at inner Inner Deep each falls named.function.arity s2) (λ ts.
        never_bind at (mark_at m.RightParenthesis ts.1) _ (mark_never at m.RightParenthesis ts.1) (λ s3. ok_never at _))))

    -- the arguments of a call
    arguments_falls : {A : Type 0} (s : State) (g : List Tree × State → Result A ReadFault) → ((ts : List Tree × State) → Never at (g ts)) → Fall at (mark_at m.LeftParenthesis s >>= λ s1. closed_at inner m.RightParenthesis s1 >>= g) s (PastMark m.LeftParenthesis (InCommas Inner Deep))
    arguments_falls s g h = mark_falls at m.LeftParenthesis (InCommas Inner Deep) s _ (λ s1. first_falls at (closed_at inner m.RightParenthesis s1) g s1 (InCommas Inner Deep) (closed_falls at inner Inner Deep each falls m.RightParenthesis s1) h)

    pub call_falls : (bt : ℕ) → Falls at (call_at own n inner bt) (Part (AtomIn n) (DeepAtom at n) (PastMark m.Colon (Part (AtomIn n) (DeepAtom at n) (PastMark m.LeftParenthesis (InCommas Inner Deep)))))
    unfolding call_at
    call_falls bt s =
        part_falls at (callee_at bt n) (AtomIn n) (DeepAtom at n) (PastMark m.Colon (Part (AtomIn n) (DeepAtom at n) (PastMark m.LeftParenthesis (InCommas Inner Deep)))) (callee_sound bt n) (callee_falls bt n) s _ (λ a s1.
        mark_falls at m.Colon (Part (AtomIn n) (DeepAtom at n) (PastMark m.LeftParenthesis (InCommas Inner Deep))) s1 _ (λ s2.
        part_falls at (callee_at bt n) (AtomIn n) (DeepAtom at n) (PastMark m.LeftParenthesis (InCommas Inner Deep)) (callee_sound bt n) (callee_falls bt n) s2 _ (λ f s3.
        arguments_falls s3 _ (λ ts. judged_never bt _ _ ts.0 ts.1))))

    pub primop_falls : (bt : ℕ) → Falls at (primop_at own n inner bt) (Past BareAtom (PastMark m.LeftParenthesis (InCommas Inner Deep)))
    unfolding primop_at
    primop_falls bt s =
        part_falls at atom_at BareAtom Nowhere (PastMark m.LeftParenthesis (InCommas Inner Deep)) atom_sound (λ t h. absurd (atom_never at t h)) s _ (λ a s1.
        arguments_falls s1 _ (λ ts. judged_never bt _ _ ts.0 ts.1))

    abbrev BehindBody : List Piece → Type 0
    BehindBody ps = PastWord k.Catch (Part (CaughtVariables n) (DeepCaught at n) (PastMark m.Arrow Deep)) ps

    pub try_falls : (bt : ℕ) → Falls at (try_at own n inner bt) (Part Inner Deep (PastWord k.Of (Part (Variables n) (DeepVariables at n) (PastMark m.Arrow (Part Inner Deep BehindBody)))))
    unfolding try_at
    try_falls bt s =
        part_falls at inner Inner Deep (PastWord k.Of (Part (Variables n) (DeepVariables at n) (PastMark m.Arrow (Part Inner Deep BehindBody)))) each falls s _ (λ t s1.
        word_falls at k.Of (Part (Variables n) (DeepVariables at n) (PastMark m.Arrow (Part Inner Deep BehindBody))) s1 _ (λ s2.
        part_falls at (variables_at n) (Variables n) (DeepVariables at n) (PastMark m.Arrow (Part Inner Deep BehindBody)) (variables_sound n) (variables_falls at n) s2 _ (λ vs s3.
        mark_falls at m.Arrow (Part Inner Deep BehindBody) s3 _ (λ s4.
        part_falls at inner Inner Deep BehindBody each falls s4 _ (λ u s5.
        word_falls at k.Catch (Part (CaughtVariables n) (DeepCaught at n) (PastMark m.Arrow Deep)) s5 _ (λ s6.
        part_falls at (caught_at n) (CaughtVariables n) (DeepCaught at n) (PastMark m.Arrow Deep) (caught_sound n) (caught_falls at n) s6 _ (λ ws s7.
        mark_falls at m.Arrow Deep s7 _ (λ s8. last_falls s8 _))))))))

    pub catch_falls : (bt : ℕ) → Falls at (catch_at own n inner bt) Deep
    unfolding catch_at
    catch_falls bt s = last_falls s _

    -- ---- clauses

    abbrev BehindPatterns : List Piece → Type 0
    BehindPatterns ps = PastWord k.When (Part Inner Deep (PastMark m.Arrow Deep)) ps

    pub behind_patterns_falls : (qs : List Pattern) → Falls at (behind_patterns_at own n inner qs) BehindPatterns
    unfolding behind_patterns_at
    behind_patterns_falls qs s =
        word_falls at k.When (Part Inner Deep (PastMark m.Arrow Deep)) s _ (λ s1.
        part_falls at inner Inner Deep (PastMark m.Arrow Deep) each falls s1 _ (λ g s2.
        mark_falls at m.Arrow Deep s2 _ (λ s3. last_falls s3 _)))
