-- A text is read as the tokens that it is.
use Rattle.std.proofs.Common.{◌≡◌, ◌≢◌, ℕ, ◌-◌, Bool, true, false, ◌⊎◌, inl, inr, List, [], ◌∷◌, length, refl, sym, ap, subst, ◌∙◌}
use Rattle.core_tokens.specs.Piece.{Shape, Piece}
use Rattle.core_tokens.specs.TokenText.{is_blank, is_in_line, Run, TokenAt}
use Rattle.core_tokens.specs.Tokens.{is_slash, in_range, Spelt, none, blank, comment, token}
use Rattle.core_tokens.specs.inside.Lexing.{behind_run}
use Rattle.core_tokens.proofs.Runs.{run_complete}
use Rattle.core_tokens.proofs.TokenLaws.{token_unique}
use Rattle.core_tokens.proofs.Shorter.{token_takes}

-- ---- one reading

-- what follows a blank, a comment and a token
past_blank : (stop : ℕ) (b l : Bool) (bytes rest : List ℕ) (qs : List Piece) → Spelt stop b bytes qs l rest → rest ≡ [] → (c : ℕ) (more : List ℕ) → bytes ≡ c ∷ more → is_blank c ≡ true → Spelt stop b more qs l rest
past_blank stop b l bytes rest qs (none {bytes = same}) nil c more e h = absurd cc
past_blank stop b l bytes rest qs (blank {bytes = after} {c = d} g s) nil c more e h = let same : after ≡ more = cc in subst (λ (x : List ℕ). Spelt stop b x qs l rest) same s
past_blank stop b l bytes rest qs (comment {bytes = after} r s) nil c more e h = let same : 37 ≡ c = cc in absurd (let bad : is_blank 37 ≡ true = ap is_blank same ∙ h in cc)
past_blank stop b l bytes rest qs (token {bytes = same} {more = after} {s = shape} t g s) nil c more e h =
    let v = token_takes same after shape t in
    let one : v.first ≡ c = (let f = v.whole in cc) in
    absurd (let bad : is_blank c ≡ false = ap is_blank (sym one) ∙ v.no_blank in cc)

past_comment : (stop : ℕ) (b l : Bool) (bytes rest : List ℕ) (qs : List Piece) → Spelt stop b bytes qs l rest → rest ≡ [] → (more line after : List ℕ) → bytes ≡ 37 ∷ more → Run is_in_line more line after → Spelt stop b after qs l rest
past_comment stop b l bytes rest qs (none {bytes = same}) nil more line after e r = absurd cc
past_comment stop b l bytes rest qs (blank {bytes = behind} {c = d} g s) nil more line after e r = let same : d ≡ 37 = cc in absurd (let bad : is_blank 37 ≡ true = ap is_blank (sym same) ∙ g in cc)
past_comment stop b l bytes rest qs (comment {bytes = behind} {line = front} {more = ends} p s) nil more line after e r =
    let same : behind ≡ more = cc in
    let one = run_complete is_in_line behind front ends p in
    let two = run_complete is_in_line more line after r in
    let ends_same : ends ≡ after = sym one.rest_is ∙ ap (behind_run is_in_line) same ∙ two.rest_is in
    subst (λ (x : List ℕ). Spelt stop b x qs l rest) ends_same s
past_comment stop b l bytes rest qs (token {bytes = same} {more = behind} {s = shape} t g s) nil more line after e r =
    let v = token_takes same behind shape t in
    let one : v.first ≡ 37 = (let f = v.whole in cc) in
    absurd (v.no_comment one)

-- the token at the front of a reading
pub record FrontToken (stop : ℕ) (b l : Bool) (bytes more rest : List ℕ) (s : Shape) (qs : List Piece) : Type 0 where
  pub others : List Piece
  pub whole : qs ≡ record { at = stop - length bytes; shape = s } ∷ others
  pub tail : Spelt stop (is_slash s) more others l rest

front_token : (stop : ℕ) (b l : Bool) (bytes behind more rest : List ℕ) (found shape : Shape) (others : List Piece) → found ≡ shape → behind ≡ more → Spelt stop (is_slash found) behind others l rest → FrontToken stop b l bytes more rest shape (record { at = stop - length bytes; shape = found } ∷ others)
front_token stop b l bytes behind more rest found shape others e f s =
    record {
      others = others;
      whole = ap (λ (x : Shape). record { at = stop - length bytes; shape = x } ∷ others) e;
      tail = subst (λ (x : Shape). Spelt stop (is_slash x) more others l rest) e (subst (λ (x : List ℕ). Spelt stop (is_slash found) x others l rest) f s);
    }

past_token : (stop : ℕ) (b l : Bool) (bytes more rest : List ℕ) (shape : Shape) (qs : List Piece) → Spelt stop b bytes qs l rest → rest ≡ [] → TokenAt bytes shape more → in_range b shape ≡ true → FrontToken stop b l bytes more rest shape qs
past_token stop b l bytes more rest shape qs (none {bytes = same}) nil t g =
    let v = token_takes same more shape t in
    absurd (let f = v.whole in cc)
past_token stop b l bytes more rest shape qs (blank {bytes = behind} {c = d} h s) nil t g =
    let v = token_takes (d ∷ behind) more shape t in
    let one : v.first ≡ d = (let f = v.whole in cc) in
    absurd (let bad : is_blank d ≡ false = ap is_blank (sym one) ∙ v.no_blank in cc)
past_token stop b l bytes more rest shape qs (comment {bytes = behind} {line = front} {more = ends} p s) nil t g =
    let v = token_takes (37 ∷ behind) more shape t in
    let one : v.first ≡ 37 = (let f = v.whole in cc) in
    absurd (v.no_comment one)
past_token stop b l bytes more rest shape qs (token {bytes = same} {more = behind} {s = found} {ps = others} u h s) nil t g =
    let one = token_unique b same behind more found shape u t h g in
    front_token stop b l same behind more rest found shape others one.0 one.1 s

-- ---- where a reading ends

-- nothing that can be read is here
abbrev pub Stuck : Bool → List ℕ → Type 0
Stuck b [] = ⊥
Stuck b (c ∷ bytes) = (is_blank c ≡ false) × (c ≢ 37) × ((s : Shape) (rest : List ℕ) → TokenAt (c ∷ bytes) s rest → in_range b s ≡ true → ⊥)

abbrev pub Ends : Bool → List ℕ → Type 0
Ends b rest = (rest ≡ []) ⊎ Stuck b rest

pub stuck_not_empty : (b : Bool) (bytes : List ℕ) → Stuck b bytes → bytes ≡ [] → ⊥
stuck_not_empty b [] h e = h
stuck_not_empty b (c ∷ bytes) h e = absurd cc

stuck_token : (b : Bool) (bytes more : List ℕ) (s : Shape) (c : ℕ) (others : List ℕ) → bytes ≡ c ∷ others → TokenAt bytes s more → in_range b s ≡ true → Stuck b bytes → ⊥
stuck_token b [] more s c others e t g h = h
stuck_token b (d ∷ bytes) more s c others e t g h = h.2 s more t g

-- a reading that goes to the end does not meet a place where nothing can be read
stuck_unread : (stop : ℕ) (b l : Bool) (bytes rest : List ℕ) (qs : List Piece) → Spelt stop b bytes qs l rest → rest ≡ [] → Stuck b bytes → ⊥
stuck_unread stop b l bytes rest qs (none {bytes = same}) nil h = stuck_not_empty b same h nil
stuck_unread stop b l bytes rest qs (blank {bytes = behind} {c = d} g s) nil h = let no = h.0 in cc
stuck_unread stop b l bytes rest qs (comment {bytes = behind} {line = front} {more = ends} p s) nil h = h.1 refl
stuck_unread stop b l bytes rest qs (token {bytes = same} {more = behind} {s = found} {ps = others} u g s) nil h =
    let v = token_takes same behind found u in
    stuck_token b same behind found v.first v.others v.whole u g h

-- no token is in nothing
nothing_read : (stop : ℕ) (b l : Bool) (bytes rest : List ℕ) (qs : List Piece) → Spelt stop b bytes qs l rest → bytes ≡ [] → qs ≡ []
nothing_read stop b l bytes rest qs (none {bytes = same}) e = refl
nothing_read stop b l bytes rest qs (blank {bytes = behind} {c = d} g s) e = absurd cc
nothing_read stop b l bytes rest qs (comment {bytes = behind} r s) e = absurd cc
nothing_read stop b l bytes rest qs (token {bytes = same} {more} {s = shape} t g s) e =
    let v = token_takes same more shape t in
    absurd (let f = v.whole in cc)

-- two readings of one text, one of which goes to its end, are one
pub one_reading : (stop : ℕ) (b l l' : Bool) (bytes rest rest' : List ℕ) (ps qs : List Piece) → Spelt stop b bytes ps l rest → Ends l rest → Spelt stop b bytes qs l' rest' → rest' ≡ [] → (ps ≡ qs) × (rest ≡ [])
one_reading stop b l l' bytes rest rest' ps qs (none {bytes = same}) (inl empty) d nil = (sym (nothing_read stop b l' same rest' qs d empty), empty)
one_reading stop b l l' bytes rest rest' ps qs (none {bytes = same}) (inr stuck) d nil = absurd (stuck_unread stop b l' same rest' qs d nil stuck)
one_reading stop b l l' bytes rest rest' ps qs (blank {bytes = behind} {c} g s) ends d nil =
    one_reading stop b l l' behind rest rest' ps qs s ends (past_blank stop b l' (c ∷ behind) rest' qs d nil c behind refl g) nil
one_reading stop b l l' bytes rest rest' ps qs (comment {bytes = behind} {line} {more} r s) ends d nil =
    one_reading stop b l l' more rest rest' ps qs s ends (past_comment stop b l' (37 ∷ behind) rest' qs d nil behind line more refl r) nil
one_reading stop b l l' bytes rest rest' ps qs (token {bytes = same} {more} {s = shape} {ps = others} t g s) ends d nil =
    let f = past_token stop b l' same more rest' shape qs d nil t g in
    let r = one_reading stop (is_slash shape) l l' more rest rest' others f.others s ends f.tail nil in
    (ap (λ (xs : List Piece). record { at = stop - length same; shape = shape } ∷ xs) r.0 ∙ sym f.whole, r.1)
