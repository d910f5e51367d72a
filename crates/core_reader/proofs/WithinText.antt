-- What the passes say together of a text, and the places of their faults within it.
use Rattle.std.proofs.Common.{◌≡◌, ℕ, ◌<◌, ◌≤◌, Bool, List, [], ◌∷◌, ◌++◌, length, refl, sym, subst, inl, inr, arith}
use Rattle.std.specs.Prelude.{Result, Ok, Err, IfOk, IfErr}
use Rattle.std.specs.Str.{IsUtf8}
use Rattle.core_tokens.specs.declared.fault.ReadFault.{ReadFault}
use Rattle.core_tokens.specs.declared.fault.ReadFault.TheVariants as fault
use Rattle.core_tokens.specs.Piece.{Piece, Shape}
use Rattle.core_tokens.specs.Piece as lexemes
use Rattle.core_tree.specs.Syntax.{ModuleTree}
use Rattle.core_scopes.specs.Scopes.{IsLawful}
use Rattle.core_grammar.specs.Whole.{IsReadAs}
use Rattle.core_tokens.specs.Tokens.{Spelt, none, blank, comment, token, AreTokens, IsTokenFault}
use Rattle.core_tokens.specs.declared.token.Keyword.TheVariants as k
use Rattle.core_tokens.specs.declared.token.Mark.TheVariants as m
use Rattle.core_grammar.specs.Grammar.{word, Spells}
use Rattle.core_grammar.specs.Depth.{Front, passes_word}
use Rattle.core_grammar.specs.UnservedCalls.{within_by, within}
use Rattle.core_grammar.specs.Unread.{SomeAre, BeginsFunction, BeginsApplied, AppliesValue, BeginsUnread}
use Rattle.core_grammar.specs.Places.{IsOne, IsAt, IsPlace, IsLastEnd, IsFaultOf}
use Rattle.core_tokens.specs.Within.{IsPlacedWithin, StandWithin}
use Rattle.core_tokens.specs.Text.{text_limit}
use Rattle.core_reader.specs.ModuleText.{SpellsModule}

-- the tokens of a text are in it
pub tokens_within : {stop : ℕ} {behind last : Bool} {bytes rest : List ℕ} {ps : List Piece} → Spelt stop behind bytes ps last rest → StandWithin stop ps
tokens_within none = tt
tokens_within (blank e s) = tokens_within s
tokens_within (comment r s) = tokens_within s
tokens_within (token t e s) = (omega arith, tokens_within s)

-- what the tokens spell, the text says
pub says : (text : List ℕ) (ps : List Piece) (r : Result ModuleTree ReadFault) → length text ≤ text_limit → IsUtf8 text → AreTokens text ps → IfOk r (λ m. Spells ps m) → IfOk r (λ m. IsLawful m) → IfOk r (λ m. SpellsModule text m)
says text ps (Ok m) fits utf8 tokens spelt lawful = record { fits = fits; utf8 = utf8; pieces = ps; tokens = tokens; spelt = spelt; lawful = lawful }
says text ps (Err e) fits utf8 tokens spelt lawful = tt

-- what the text says, its tokens spell
pub said : (text : List ℕ) (ps : List Piece) (r : Result ModuleTree ReadFault) → ((qs : List Piece) → AreTokens text qs → ps ≡ qs) → ((m : ModuleTree) → Spells ps m → IsLawful m → IsReadAs m r) → (m : ModuleTree) → SpellsModule text m → IsReadAs m r
said text ps r same read m s = read m (subst (λ (qs : List Piece). Spells qs m) (sym (same s.pieces s.tokens)) s.spelt) s.lawful

-- a fault of the tokens is in the text
pub token_fault_within : (text : List ℕ) (e : ReadFault) → IsTokenFault text e → IsPlacedWithin (length text) e
token_fault_within text (fault.BadToken place) f = let small : place < length text = f.5 in omega arith
token_fault_within text (fault.BadInteger place) f = let small : place < length text = f.5 in omega arith
token_fault_within text fault.Memory f = tt
token_fault_within text (fault.Expected place) f = absurd f
token_fault_within text (fault.Unbound place) f = absurd f
token_fault_within text (fault.DuplicateVariable place) f = absurd f
token_fault_within text (fault.DuplicateFunction place) f = absurd f
token_fault_within text (fault.NoFunction place) f = absurd f
token_fault_within text (fault.HigherOrder place) f = absurd f
token_fault_within text (fault.UnsupportedCall place) f = absurd f
token_fault_within text (fault.EffectInGuard place) f = absurd f
token_fault_within text (fault.TooDeep place) f = absurd f
token_fault_within text (fault.NotUtf8 place) f = absurd f
token_fault_within text (fault.NoMain place) f = absurd f
token_fault_within text (fault.UnsupportedForm place) f = absurd f
token_fault_within text (fault.TooLong place) f = absurd f

-- where a token begins, it begins in the text
token_at_within : (stop : ℕ) (ps : List Piece) (at : ℕ) → StandWithin stop ps → IsAt ps at → at ≤ stop
token_at_within stop [] at w h = absurd h
token_at_within stop (p ∷ ps) at w (inl e) = let small : p.at ≤ stop = w.0 in omega arith
token_at_within stop (p ∷ ps) at w (inr h) = token_at_within stop ps at w.1 h

place_within : (stop : ℕ) (ps : List Piece) (at : ℕ) → StandWithin stop ps → IsPlace ps stop at → at ≤ stop
place_within stop ps at w (inl h) = token_at_within stop ps at w h
place_within stop ps at w (inr e) = omega arith

-- each of the tokens is in the text
one_within : (stop : ℕ) (ps : List Piece) (p : Piece) → StandWithin stop ps → IsOne ps p → p.at ≤ stop
one_within stop [] p w h = absurd h
one_within stop (q ∷ qs) p w (inl e) = subst (λ (x : Piece). x.at ≤ stop) e w.0
one_within stop (q ∷ qs) p w (inr h) = one_within stop qs p w.1 h

behind_stands : (before behind : List Piece) (p : Piece) → IsOne (before ++ p ∷ behind) p
behind_stands [] behind p = inl refl
behind_stands (q ∷ qs) behind p = inr (behind_stands qs behind p)

-- a last `end` is one of the tokens
last_end_stands : (ps : List Piece) (at : ℕ) → IsLastEnd ps at → IsOne ps (word at k.End)
last_end_stands ps at h = subst (λ (qs : List Piece). IsOne qs (word at k.End)) (sym h.stands) (behind_stands h.before h.behind (word at k.End))

-- the last tokens are in the text
last_within : (stop : ℕ) (before here : List Piece) → StandWithin stop (before ++ here) → StandWithin stop here
last_within stop [] here w = w
last_within stop (p ∷ ps) here w = last_within stop ps here w.1

some_within : (stop at : ℕ) (Said : List Piece → Type 0) (ps : List Piece) → ((qs : List Piece) → StandWithin stop qs → Said qs → at ≤ stop) → StandWithin stop ps → SomeAre Said ps → at ≤ stop
some_within stop at Said ps each w h = each h.here (last_within stop h.before h.here (subst (λ (qs : List Piece). StandWithin stop qs) h.stands w)) h.said

front_within : (stop at : ℕ) (Begins : Shape → List Piece → Type 0) (qs : List Piece) → StandWithin stop qs → Front Begins at qs → at ≤ stop
front_within stop at Begins [] w h = absurd h
front_within stop at Begins (p ∷ ps) w h = subst (λ (n : ℕ). n ≤ stop) h.0 w.0

bare_within : (stop : ℕ) (shape : Shape) (here behind : List Piece) → StandWithin stop here → StandWithin stop behind → StandWithin stop (within_by shape here behind)
bare_within stop (lexemes.Mark m.LeftParenthesis) here behind h g = g
bare_within stop shape here behind h g = h

parentheses_within : (stop : ℕ) (qs : List Piece) → StandWithin stop qs → StandWithin stop (within qs)
parentheses_within stop [] w = w
parentheses_within stop (p ∷ ps) w = bare_within stop p.shape (p ∷ ps) (within ps) w (parentheses_within stop ps w.1)

value_within : (stop at : ℕ) (qs : List Piece) → StandWithin stop qs → AppliesValue at qs → at ≤ stop
value_within stop at qs w (passes_word {ps = ps} h) = front_within stop at BeginsApplied (within ps) (parentheses_within stop ps w.1) h

-- a fault of the grammar or of the scopes is in the text
pub fault_within : (stop : ℕ) (ps : List Piece) (e : ReadFault) → StandWithin stop ps → IsFaultOf ps stop e → IsPlacedWithin stop e
fault_within stop ps (fault.Expected at) w f = place_within stop ps at w f
fault_within stop ps (fault.Unbound at) w f = place_within stop ps at w f.0
fault_within stop ps (fault.DuplicateVariable at) w f = place_within stop ps at w f.0
fault_within stop ps (fault.DuplicateFunction at) w f = place_within stop ps at w f.0
fault_within stop ps (fault.NoFunction at) w f = place_within stop ps at w f.0
fault_within stop ps (fault.EffectInGuard at) w f = place_within stop ps at w f.0
fault_within stop ps (fault.HigherOrder at) w (inl f) = some_within stop at (Front BeginsFunction at) ps (front_within stop at BeginsFunction) w f
fault_within stop ps (fault.HigherOrder at) w (inr f) = some_within stop at (AppliesValue at) ps (value_within stop at) w f
fault_within stop ps (fault.UnsupportedForm at) w f = some_within stop at (Front BeginsUnread at) ps (front_within stop at BeginsUnread) w f
fault_within stop ps (fault.UnsupportedCall at) w f = one_within stop ps (word at k.Call) w f.0
fault_within stop ps (fault.NoMain at) w f = one_within stop ps (word at k.End) w (last_end_stands ps at f.0)
fault_within stop ps (fault.TooDeep at) w f = subst (λ (x : ℕ). x ≤ stop) f.0.2 (one_within stop ps f.0.0 w f.0.1)
fault_within stop ps fault.Memory w f = tt
fault_within stop ps (fault.BadToken at) w f = absurd f
fault_within stop ps (fault.BadInteger at) w f = absurd f
fault_within stop ps (fault.NotUtf8 at) w f = absurd f
fault_within stop ps (fault.TooLong at) w f = absurd f

pub faults_within : (stop : ℕ) (ps : List Piece) (r : Result ModuleTree ReadFault) → StandWithin stop ps → IfErr r (λ e. IsFaultOf ps stop e) → IfErr r (IsPlacedWithin stop)
faults_within stop ps (Ok m) w f = tt
faults_within stop ps (Err e) w f = fault_within stop ps e w f
