-- How the grammar leads from some tokens to a place where a construct past the last level begins: by levels, beside the grammar's own relations.
-- Deep.. n ps says: one of at most n levels is to begin at the tokens ps; what comes before the place is spelt, and what is to begin there has no level left.
use Rattle.std.specs.Prelude.{◌≡◌, ◌⊎◌, ℕ, zero, suc, List, [], ◌∷◌, length}
use Rattle.core_tokens.specs.declared.token.Keyword.{Keyword}
use Rattle.core_tokens.specs.declared.token.Keyword.TheVariants as k
use Rattle.core_tokens.specs.declared.token.Mark.{Mark}
use Rattle.core_tokens.specs.declared.token.Mark.TheVariants as m
use Rattle.core_grammar.specs.declared.subject.Subject.{Subject}
use Rattle.core_grammar.specs.declared.subject.Subject.TheVariants as subjects
use Rattle.core_tokens.specs.Piece.{Piece, Shape}
use Rattle.core_tokens.specs.Piece as lexemes
use Rattle.core_tree.specs.Syntax.{Mention, Pattern, Constant, Tree, ClauseTree}
use Rattle.core_tree.specs.Pattern as patterns
use Rattle.core_grammar.specs.Beginnings.{Beginning, OfValue, OfAtom, OfAnnotation, OfVariable, OfOtherForm, beginning}
use Rattle.core_grammar.specs.Grammar.{word, mark, level_limit, Commas, Enclosed, Row, ConstantIn, Noted, BareName, FunctionName, BareAtom, AtomIn, BareVariable, Variable, BareVariables, Variables, BareCaught, CaughtVariables, PatternForm, PatternIn, BareAngles, PatternsIn, HasNoSlash, Expression, Clause, Attribute, BareFun, BareDefinition, Definition, BareModule}

-- ---- tokens that take a level

-- a token that begins a constant
abbrev pub BeginsConstantBy : Beginning → Type 0
BeginsConstantBy OfValue = Unit {0}
BeginsConstantBy OfAtom = Unit {0}
BeginsConstantBy OfAnnotation = Unit {0}
BeginsConstantBy b = ⊥

abbrev pub BeginsConstant : Shape → List Piece → Type 0
BeginsConstant shape ps = BeginsConstantBy (beginning shape)

abbrev pub BeginsPatternBy : Beginning → Type 0
BeginsPatternBy OfVariable = Unit {0}
BeginsPatternBy b = BeginsConstantBy b

abbrev pub BeginsPattern : Shape → List Piece → Type 0
BeginsPattern shape ps = BeginsPatternBy (beginning shape)

-- an atom with `/` after it begins a function's name, and no expression
abbrev pub BeginsExpressionBy : Beginning → List Piece → Type 0
BeginsExpressionBy OfAtom ps = HasNoSlash ps
BeginsExpressionBy OfOtherForm ps = Unit {0}
BeginsExpressionBy b ps = BeginsPatternBy b

abbrev pub BeginsExpression : Shape → List Piece → Type 0
BeginsExpression shape ps = BeginsExpressionBy (beginning shape) ps

abbrev pub BeginsAnnotation : Shape → List Piece → Type 0
BeginsAnnotation (lexemes.Mark m.LeftParenthesis) ps = Unit {0}
BeginsAnnotation shape ps = ⊥

-- the front token is at the place, and begins what is meant
abbrev pub Front : (Shape → List Piece → Type 0) → ℕ → List Piece → Type 0
Front Begins at [] = ⊥
Front Begins at (p ∷ ps) = (p.at ≡ at) × Begins p.shape ps

-- ---- ways to the place

abbrev pub Nowhere : List Piece → Type 0
Nowhere ps = ⊥

-- inside an item, or after the item that is spelt
pub data PartOf {X : Type 0} (Item : List Piece → X → List Piece → Type 0) (Deep : List Piece → Type 0) (Rest : X → List Piece → Type 0) : List Piece → Type 0 where
  goes_inside : {ps : List Piece} → Deep ps → PartOf Item Deep Rest ps
  goes_behind : {ps more : List Piece} {x : X} → Item ps x more → Rest x more → PartOf Item Deep Rest ps

-- after a mark
pub data PastMark (x : Mark) (Rest : List Piece → Type 0) : List Piece → Type 0 where
  passes_mark : {ps : List Piece} {at : ℕ} → Rest ps → PastMark x Rest (mark at x ∷ ps)

-- after a keyword
pub data PastWord (x : Keyword) (Rest : List Piece → Type 0) : List Piece → Type 0 where
  passes_word : {ps : List Piece} {at : ℕ} → Rest ps → PastWord x Rest (word at x ∷ ps)

module _ {X : Type 0} (Item : List Piece → X → List Piece → Type 0) (Deep : List Piece → Type 0) where
  -- inside an item, or after it in what follows each alike
  abbrev pub Part : (List Piece → Type 0) → List Piece → Type 0
  Part Rest ps = PartOf Item Deep (λ x. Rest) ps

  -- inside one of at most so many items with commas between them
  abbrev pub InItems : ℕ → List Piece → Type 0
  InItems zero ps = ⊥
  InItems (suc n) ps = Part (PastMark m.Comma (InItems n)) ps

  -- inside one of some items with commas between them
  abbrev pub InCommas : List Piece → Type 0
  InCommas ps = (n : ℕ) × InItems n ps

  -- inside one of the items of a list, or inside what follows its bar
  abbrev pub InList : List Piece → Type 0
  InList ps = PartOf (Commas Item) InCommas (λ xs. PastMark m.Bar Deep) ps

  -- inside one of some items that follow each other directly
  pub data InRow : List Piece → Type 0 where
    goes_in_row : {ps more : List Piece} {xs : List X} → Row Item ps xs more → Deep more → InRow ps

-- after an item
abbrev pub Past : {X : Type 0} → (List Piece → X → List Piece → Type 0) → (List Piece → Type 0) → List Piece → Type 0
Past Item Rest ps = Part Item Nowhere Rest ps

-- in parentheses: inside what is annotated, or inside the constants after it
abbrev pub InAnnotation : {X : Type 0} → (List Piece → X → List Piece → Type 0) → (List Piece → Type 0) → (List Piece → Constant → List Piece → Type 0) → (List Piece → Type 0) → List Piece → Type 0
InAnnotation Inner Deep Item DeepItem ps = PastMark m.LeftParenthesis (Part Inner Deep (PastMark m.Note (PastMark m.LeftBracket (InCommas Item DeepItem)))) ps

-- inside a tuple, a list or an annotation: constants, patterns and expressions have these alike
pub data InGroup {X : Type 0} (Inner : List Piece → X → List Piece → Type 0) (Deep : List Piece → Type 0) (Item : List Piece → Constant → List Piece → Type 0) (DeepItem : List Piece → Type 0) : List Piece → Type 0 where
  in_tuple : {ps : List Piece} → PastMark m.LeftBrace (InCommas Inner Deep) ps → InGroup Inner Deep Item DeepItem ps
  in_list : {ps : List Piece} → PastMark m.LeftBracket (InList Inner Deep) ps → InGroup Inner Deep Item DeepItem ps
  in_annotation : {ps : List Piece} → InAnnotation Inner Deep Item DeepItem ps → InGroup Inner Deep Item DeepItem ps

-- after a pattern that is a variable
abbrev pub BehindVariable : (List Piece → Type 0) → Pattern → List Piece → Type 0
BehindVariable Rest (patterns.Variable v) ps = Rest ps
BehindVariable Rest q ps = ⊥

-- so many items with commas between them, and the closing mark
abbrev pub Exactly : {X : Type 0} → (List Piece → X → List Piece → Type 0) → Mark → ℕ → List Piece → List X → List Piece → Type 0
Exactly Item close n ps xs rest = Enclosed Item close ps xs rest × (length xs ≡ n)

-- a `fun` with so many variables
abbrev pub FunOf : List ℕ → ℕ → ℕ → List Piece → List Mention × Tree → List Piece → Type 0
FunOf own arity n ps f rest = BareFun (Variable n) (Expression own n) ps f rest × (length f.0 ≡ arity)

-- ---- by levels, to the place `at`

module _ (at : ℕ) where
  abbrev pub DeepConstant : ℕ → List Piece → Type 0
  DeepConstant zero ps = Front BeginsConstant at ps
  DeepConstant (suc n) ps = InGroup (ConstantIn n) (DeepConstant n) (ConstantIn n) (DeepConstant n) ps

  module _ {X : Type 0} (Bare : ℕ → List Piece → X → List Piece → Type 0) (DeepBare : ℕ → List Piece → Type 0) where
    abbrev pub DeepAnnotated : ℕ → List Piece → Type 0
    DeepAnnotated zero ps = Front BeginsAnnotation at ps
    DeepAnnotated (suc n) ps = InAnnotation (Noted Bare n) (λ qs. DeepBare n qs ⊎ DeepAnnotated n qs) (ConstantIn n) (DeepConstant n) ps

    abbrev pub DeepNoted : ℕ → List Piece → Type 0
    DeepNoted n ps = DeepBare n ps ⊎ DeepAnnotated n ps

  abbrev pub DeepName : ℕ → List Piece → Type 0
  DeepName n ps = DeepNoted (λ l. BareName) (λ l. Nowhere) n ps

  abbrev pub DeepAtom : ℕ → List Piece → Type 0
  DeepAtom n ps = DeepNoted (λ l. BareAtom) (λ l. Nowhere) n ps

  abbrev pub DeepVariable : ℕ → List Piece → Type 0
  DeepVariable n ps = DeepNoted (λ l. BareVariable) (λ l. Nowhere) n ps

  abbrev pub DeepVariables : ℕ → List Piece → Type 0
  DeepVariables n ps = DeepNoted (λ l. BareVariables (Variable l)) (λ l. PastMark m.Less (InCommas (Variable l) (DeepVariable l))) n ps

  abbrev pub DeepCaught : ℕ → List Piece → Type 0
  DeepCaught n ps = DeepNoted (λ l. BareCaught (Variable l)) (λ l. PastMark m.Less (InItems (Variable l) (DeepVariable l) 3)) n ps

  abbrev pub DeepPattern : ℕ → List Piece → Type 0
  DeepPattern zero ps = Front BeginsPattern at ps
  DeepPattern (suc n) ps = PartOf (PatternForm (PatternIn n) (ConstantIn n)) (InGroup (PatternIn n) (DeepPattern n) (ConstantIn n) (DeepConstant n)) (BehindVariable (PastMark m.Equals (DeepPattern n))) ps

  -- inside one of the patterns in angles, which in a `receive` is the first
  abbrev pub InAngles : ℕ → Subject → List Piece → Type 0
  InAngles n subjects.Values ps = InCommas (PatternIn n) (DeepPattern n) ps
  InAngles n subjects.Message ps = InItems (PatternIn n) (DeepPattern n) 1 ps

  abbrev pub DeepAngles : ℕ → Subject → List Piece → Type 0
  DeepAngles n subject ps = DeepNoted (λ l. BareAngles subject (PatternIn l)) (λ l. PastMark m.Less (InAngles l subject)) n ps

  abbrev pub DeepPatterns : ℕ → Subject → List Piece → Type 0
  DeepPatterns n subject ps = DeepPattern n ps ⊎ DeepAngles n subject ps

  -- inside an expression whose parts have at most n levels
  pub data InForm (n : ℕ) (Inner : List Piece → Tree → List Piece → Type 0) (Deep : List Piece → Type 0) (Clauses : Subject → List Piece → ClauseTree → List Piece → Type 0) (DeepClauses : Subject → List Piece → Type 0) : List Piece → Type 0 where
    in_group : {ps : List Piece} → InGroup Inner Deep (ConstantIn n) (DeepConstant n) ps → InForm n Inner Deep Clauses DeepClauses ps
    in_values : {ps : List Piece} → PastMark m.Less (InCommas Inner Deep) ps → InForm n Inner Deep Clauses DeepClauses ps
    in_let : {ps : List Piece} → PastWord k.Let (Part (Variables n) (DeepVariables n) (PastMark m.Equals (Part Inner Deep (PastWord k.In Deep)))) ps → InForm n Inner Deep Clauses DeepClauses ps
    in_case : {ps : List Piece} → PastWord k.Case (Part Inner Deep (PastWord k.Of (InRow (Clauses subjects.Values) (DeepClauses subjects.Values)))) ps → InForm n Inner Deep Clauses DeepClauses ps
    in_do : {ps : List Piece} → PastWord k.Do (Part Inner Deep Deep) ps → InForm n Inner Deep Clauses DeepClauses ps
    in_apply : {ps : List Piece} → PastWord k.Apply (PartOf (FunctionName n) (DeepName n) (λ named. PastMark m.LeftParenthesis (InItems Inner Deep named.function.arity))) ps → InForm n Inner Deep Clauses DeepClauses ps
    in_call : {ps : List Piece} → PastWord k.Call (Part (AtomIn n) (DeepAtom n) (PastMark m.Colon (Part (AtomIn n) (DeepAtom n) (PastMark m.LeftParenthesis (InCommas Inner Deep))))) ps → InForm n Inner Deep Clauses DeepClauses ps
    in_primop : {ps : List Piece} → PastWord k.Primop (Past BareAtom (PastMark m.LeftParenthesis (InCommas Inner Deep))) ps → InForm n Inner Deep Clauses DeepClauses ps
    in_try : {ps : List Piece} → PastWord k.Try (Part Inner Deep (PastWord k.Of (Part (Variables n) (DeepVariables n) (PastMark m.Arrow (Part Inner Deep (PastWord k.Catch (Part (CaughtVariables n) (DeepCaught n) (PastMark m.Arrow Deep)))))))) ps
        → InForm n Inner Deep Clauses DeepClauses ps
    in_catch : {ps : List Piece} → PastWord k.Catch Deep ps → InForm n Inner Deep Clauses DeepClauses ps
    in_receive : {ps : List Piece} → PastWord k.Receive (Part (Row (Clauses subjects.Message)) (InRow (Clauses subjects.Message) (DeepClauses subjects.Message)) (PastWord k.After (Part Inner Deep (PastMark m.Arrow Deep)))) ps
        → InForm n Inner Deep Clauses DeepClauses ps

  -- inside a clause that is not annotated
  abbrev pub InClause : ℕ → Subject → (List Piece → Tree → List Piece → Type 0) → (List Piece → Type 0) → List Piece → Type 0
  InClause n subject Inner Deep ps = Part (PatternsIn n subject) (DeepPatterns n subject) (PastWord k.When (Part Inner Deep (PastMark m.Arrow Deep))) ps

  -- in the module `own`
  module _ (own : List ℕ) where
    abbrev mutual
      pub DeepExpression : ℕ → List Piece → Type 0
      DeepExpression zero ps = Front BeginsExpression at ps
      DeepExpression (suc n) ps = InForm n (Expression own n) (DeepExpression n) (Clause own n) (λ subject qs. InClause n subject (Expression own n) (DeepExpression n) qs ⊎ DeepAnnotatedClause n subject qs) ps

      pub DeepAnnotatedClause : ℕ → Subject → List Piece → Type 0
      DeepAnnotatedClause zero subject ps = Front BeginsAnnotation at ps
      DeepAnnotatedClause (suc n) subject ps = InAnnotation (Clause own n subject) (λ qs. InClause n subject (Expression own n) (DeepExpression n) qs ⊎ DeepAnnotatedClause n subject qs) (ConstantIn n) (DeepConstant n) ps

    abbrev pub DeepBareFun : ℕ → ℕ → List Piece → Type 0
    DeepBareFun arity n ps = PastWord k.Fun (PastMark m.LeftParenthesis (Part (Exactly (Variable n) m.RightParenthesis arity) (InItems (Variable n) (DeepVariable n) arity) (PastMark m.Arrow (DeepExpression n)))) ps

    abbrev pub DeepFun : ℕ → ℕ → List Piece → Type 0
    DeepFun arity n ps = DeepNoted (FunOf own arity) (DeepBareFun arity) n ps

    abbrev pub DeepBareDefinition : ℕ → List Piece → Type 0
    DeepBareDefinition n ps = PartOf (FunctionName n) (DeepName n) (λ named. PastMark m.Equals (DeepFun named.function.arity n)) ps

    abbrev pub DeepDefinition : ℕ → List Piece → Type 0
    DeepDefinition n ps = DeepNoted (BareDefinition own) DeepBareDefinition n ps

  abbrev pub DeepAttribute : ℕ → List Piece → Type 0
  DeepAttribute n ps = Past BareAtom (PastMark m.Equals (DeepConstant n)) ps

  -- after the exports of the module `own`: inside the attributes or the definitions
  abbrev pub BehindExports : ℕ → List ℕ → List Piece → Type 0
  BehindExports n own ps = PastWord k.Attributes (PastMark m.LeftBracket (Part (Enclosed (Attribute (ConstantIn n)) m.RightBracket) (InCommas (Attribute (ConstantIn n)) (DeepAttribute n)) (InRow (Definition own n) (DeepDefinition own n)))) ps

  abbrev pub DeepBareModule : ℕ → List Piece → Type 0
  DeepBareModule n ps = PastWord k.Module (PartOf BareAtom Nowhere (λ own. PastMark m.LeftBracket (Part (Enclosed (FunctionName n) m.RightBracket) (InCommas (FunctionName n) (DeepName n)) (BehindExports n own)))) ps

-- read by the grammar, the tokens lead to a construct past the last level, which begins at this place
abbrev pub OpensPastLast : List Piece → ℕ → Type 0
OpensPastLast ps at = DeepNoted at BareModule (DeepBareModule at) level_limit ps
