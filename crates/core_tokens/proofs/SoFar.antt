-- The tokens that a loop has read so far.
use Rattle.std.proofs.Common.{◌≡◌, ◌≢◌, ℕ, ◌-◌, ◌≤◌, Bool, true, false, inl, inr, List, [], ◌∷◌, ◌++◌, length, Result, Ok, Err, refl, sym, ap, subst, ◌∙◌, append_assoc, arith}
use Rattle.std.proofs.lemmas.List.{append-nil, map_push}
use Rattle.core_tokens.specs.declared.fault.ReadFault.{ReadFault}
use Rattle.core_tokens.specs.declared.fault.ReadFault.TheVariants as fault
use Rattle.core_tokens.specs.declared.lexer.trouble.TokenError.{TokenError}
use Rattle.core_tokens.specs.declared.lexer.trouble.TokenError.TheVariants as errors
use Rattle.core_tokens.specs.declared.token.Token.{Token}
use Rattle.core_tokens.specs.declared.token.Lexeme.{Lexeme}
use Rattle.core_tokens.specs.Piece.{Shape, Piece, piece, pieces, shape_of}
use Rattle.core_tokens.specs.Piece as lexemes
use Rattle.core_tokens.specs.TokenText.{is_blank, TokenAt}
use Rattle.core_tokens.specs.Tokens.{is_slash, in_range, Spelt, none, token, AreTokens, BeginsNoToken, BeginsBadInteger, TokensUpTo, IsTokenFault}
use Rattle.core_tokens.specs.inside.Lexing.{Fails, ranged_token_at, fault_at, Skips, BeginsNoBlank}
use Rattle.core_tokens.proofs.TokenLaws.{IsRanged, ranged_sound, bad_is_no_token}
use Rattle.core_tokens.proofs.Shorter.{token_takes}
use Rattle.core_tokens.proofs.Streams.{Stuck, stuck_not_empty, one_reading}

pub record SoFar (text : List ℕ) (tokens : List Token) (behind_slash : Bool) (rest : List ℕ) : Type 0 where
  pub extends : (ps : List Piece) (last : Bool) (end : List ℕ) → Spelt (length text) behind_slash rest ps last end → Spelt (length text) false text (pieces tokens ++ ps) last end
  pub no_blank : BeginsNoBlank rest
  pub within : length rest ≤ length text

pub starts : (text rest : List ℕ) → Skips text rest → BeginsNoBlank rest → length rest ≤ length text → SoFar text [] false rest
starts text rest skips no_blank within = record { extends = λ ps last end s. skips (length text) false last ps end s; no_blank = no_blank; within = within }

pub reads_one : (text : List ℕ) (tokens : List Token) (behind_slash : Bool) (rest after next : List ℕ) (lexeme : Lexeme) (at : ℕ) → SoFar text tokens behind_slash rest → TokenAt rest (shape_of lexeme) after → in_range behind_slash (shape_of lexeme) ≡ true
    → at ≡ length text - length rest → Skips after next → BeginsNoBlank next → length next ≤ length after → SoFar text (tokens ++ record { at = at; lexeme = lexeme } ∷ []) (is_slash (shape_of lexeme)) next
reads_one text tokens behind_slash rest after next lexeme at so_far t in_range_ place skips no_blank within =
    let v = token_takes rest after (shape_of lexeme) t in
    let here : Token = record { at = at; lexeme = lexeme } in
    let one : pieces (tokens ++ here ∷ []) ≡ pieces tokens ++ piece here ∷ [] = map_push piece tokens here in
    record {
      extends = λ ps last end s.
          let added : Spelt (length text) behind_slash rest (record { at = length text - length rest; shape = shape_of lexeme } ∷ ps) last end = token t in_range_ (skips (length text) (is_slash (shape_of lexeme)) last ps end s) in
          let moved : Spelt (length text) behind_slash rest (piece here ∷ ps) last end = subst (λ (n : ℕ). Spelt (length text) behind_slash rest (record { at = n; shape = shape_of lexeme } ∷ ps) last end) (sym place) added in
          let joined : pieces tokens ++ (piece here ∷ ps) ≡ pieces (tokens ++ here ∷ []) ++ ps = sym (append_assoc (pieces tokens) (piece here ∷ []) ps) ∙ ap (λ (qs : List Piece). qs ++ ps) (sym one) in
          subst (λ (qs : List Piece). Spelt (length text) false text qs last end) joined (so_far.extends (piece here ∷ ps) last end moved);
      no_blank = no_blank;
      within = omega (arith, so_far.within, ap length v.whole, v.shorter);
    }

-- what was read, up to here
pub up_to : (text : List ℕ) (tokens : List Token) (behind_slash : Bool) (rest : List ℕ) → SoFar text tokens behind_slash rest → Spelt (length text) false text (pieces tokens) behind_slash rest
up_to text tokens behind_slash rest so_far = subst (λ (qs : List Piece). Spelt (length text) false text qs behind_slash rest) (append-nil (pieces tokens)) (so_far.extends [] behind_slash rest none)

pub ends_here : (text : List ℕ) (tokens : List Token) (behind_slash : Bool) (rest : List ℕ) → SoFar text tokens behind_slash rest → length rest ≡ 0 → AreTokens text (pieces tokens)
ends_here text tokens behind_slash [] so_far empty = (behind_slash, up_to text tokens behind_slash [] so_far)
ends_here text tokens behind_slash (c ∷ rest) so_far empty = absurd (omega arith)

-- what a failed reading says
pub trouble_is : (behind_slash : Bool) (rest : List ℕ) (e : TokenError) → Fails e (ranged_token_at behind_slash rest) → IsRanged behind_slash rest (Err e)
trouble_is behind_slash rest errors.Memory h = tt
trouble_is behind_slash rest errors.NoToken h = subst (λ (r : Result (Shape × List ℕ) TokenError). IsRanged behind_slash rest r) h (ranged_sound behind_slash rest)
trouble_is behind_slash rest errors.OutOfRange h = subst (λ (r : Result (Shape × List ℕ) TokenError). IsRanged behind_slash rest r) h (ranged_sound behind_slash rest)

pub found_is : (behind_slash : Bool) (rest after : List ℕ) (s : Shape) → ranged_token_at behind_slash rest ≡ Ok (s, after) → TokenAt rest s after × (in_range behind_slash s ≡ true)
found_is behind_slash rest after s h = subst (λ (r : Result (Shape × List ℕ) TokenError). IsRanged behind_slash rest r) h (ranged_sound behind_slash rest)

no_token_here : (rest : List ℕ) → BeginsNoBlank rest → (length rest ≡ 0 → ⊥) → ((s : Shape) (r : List ℕ) → TokenAt rest s r → ⊥) → BeginsNoToken rest
no_token_here [] h some nothing = absurd (some refl)
no_token_here (c ∷ rest) h some nothing = (h.0, h.1, nothing)

pub fails_here : (text : List ℕ) (tokens : List Token) (behind_slash : Bool) (rest : List ℕ) (e : TokenError) → SoFar text tokens behind_slash rest → (length rest ≡ 0 → ⊥) → IsRanged behind_slash rest (Err e) → IsTokenFault text (fault_at e (length text - length rest))
fails_here text tokens behind_slash rest errors.Memory so_far some h = tt
fails_here text tokens behind_slash rest errors.NoToken so_far some h =
    (pieces tokens, behind_slash, rest, up_to text tokens behind_slash rest so_far, refl, omega (arith, so_far.within), no_token_here rest so_far.no_blank some h)
fails_here text tokens behind_slash rest errors.OutOfRange so_far some h =
    (pieces tokens, behind_slash, rest, up_to text tokens behind_slash rest so_far, refl, omega (arith, so_far.within), h)

-- ---- nothing that is spelt is refused

pub only_tokens : (text : List ℕ) (ps qs : List Piece) → AreTokens text ps → AreTokens text qs → ps ≡ qs
only_tokens text ps qs p q = (one_reading (length text) false p.0 q.0 text [] [] ps qs p.1 (inl refl) q.1 refl).0

stuck_no_token : (b : Bool) (rest : List ℕ) → BeginsNoToken rest → Stuck b rest
stuck_no_token b [] h = h
stuck_no_token b (c ∷ rest) h = (h.0, h.1, λ s r t g. h.2 s r t)

stuck_at : (b : Bool) (bytes : List ℕ) (c : ℕ) (others : List ℕ) → bytes ≡ c ∷ others → is_blank c ≡ false → c ≢ 37 → ((s : Shape) (rest : List ℕ) → TokenAt bytes s rest → in_range b s ≡ true → ⊥) → Stuck b bytes
stuck_at b [] c others e no_blank no_comment nothing = absurd cc
stuck_at b (d ∷ bytes) c others e no_blank no_comment nothing =
    let same : d ≡ c = cc in
    (ap is_blank same ∙ no_blank, λ f. no_comment (sym same ∙ f), nothing)

stuck_bad_integer : (b : Bool) (bytes : List ℕ) → BeginsBadInteger b bytes → Stuck b bytes
stuck_bad_integer b bytes h =
    let v = token_takes bytes h.1 (lexemes.Integer h.0) h.2 in
    stuck_at b bytes v.first v.others v.whole v.no_blank v.no_comment (λ s rest t g. bad_is_no_token b bytes rest s h t g)

not_stuck : (text : List ℕ) (place : ℕ) (Fact : Bool → List ℕ → Type 0) → ((b : Bool) (bytes : List ℕ) → Fact b bytes → Stuck b bytes) → TokensUpTo text place Fact → (qs : List Piece) → AreTokens text qs → ⊥
not_stuck text place Fact stuck h qs q =
    let stands = stuck h.1 h.2 h.6 in
    let one = one_reading (length text) false h.1 q.0 text h.2 [] h.0 qs h.3 (inr stands) q.1 refl in
    stuck_not_empty h.1 h.2 stands one.1

pub nothing_refused : (text : List ℕ) (f : ReadFault) (ps : List Piece) → IsTokenFault text f → AreTokens text ps → f ≡ fault.Memory
nothing_refused text fault.Memory ps h p = refl
nothing_refused text (fault.BadToken place) ps h p = absurd (not_stuck text place (λ _ rest. BeginsNoToken rest) stuck_no_token h ps p)
nothing_refused text (fault.BadInteger place) ps h p = absurd (not_stuck text place BeginsBadInteger stuck_bad_integer h ps p)
nothing_refused text _ ps h p = absurd h
