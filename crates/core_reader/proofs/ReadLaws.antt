-- What is read of the tokens, from what they spell and from what the scopes say of that.
use Rattle.std.proofs.Common.{◌≡◌, ◌≢◌, ℕ, List, Result, Ok, Err, refl, sym, ap, subst, ◌∙◌}
use Rattle.std.specs.Prelude.{IfOk, IfErr}
use Rattle.core_tokens.specs.declared.fault.ReadFault.{ReadFault}
use Rattle.core_tokens.specs.declared.fault.ReadFault.TheVariants.{Memory}
use Rattle.core_tokens.specs.Piece.{Piece}
use Rattle.core_tree.specs.Syntax.{ModuleTree}
use Rattle.core_scopes.specs.Scopes.{IsLawful}
use Rattle.core_scopes.specs.ScopeFaults.{IsFaultOfModule}
use Rattle.core_grammar.specs.Grammar.{Spells}
use Rattle.core_grammar.specs.Places.{IsFaultOf}
use Rattle.core_grammar.specs.inside.DecoderModules.{module_at}
use Rattle.core_grammar.specs.Whole.{start, IsReadAs}

abbrev read_as : ModuleTree × ℕ → Result (ModuleTree × ℕ) ReadFault
read_as x = Ok x

abbrev fails_with : ReadFault → Result (ModuleTree × ℕ) ReadFault
fails_with e = Err e

-- what is handed out is this, and it is lawful
abbrev IsThis : ModuleTree → Result ModuleTree ReadFault → Type 0
IsThis m r = IfOk r (λ x. IsLawful x × (x ≡ m))

-- what is spelt is decoded
abbrev IsComplete : Type 0
IsComplete = (stop : ℕ) (ps : List Piece) (m : ModuleTree) → Spells ps m → (at : ℕ) × (module_at (start stop ps) ≡ Ok (m, at))

pub is_spelt : (ps : List Piece) (m : ModuleTree) (r : Result ModuleTree ReadFault) → Spells ps m → IsThis m r → IfOk r (λ x. Spells ps x)
is_spelt ps m (Ok x) s h = subst (λ (t : ModuleTree). Spells ps t) (sym h.1) s
is_spelt ps m (Err e) s h = tt

pub is_lawful : (m : ModuleTree) (r : Result ModuleTree ReadFault) → IsThis m r → IfOk r (λ x. IsLawful x)
is_lawful m (Ok x) h = h.0
is_lawful m (Err e) h = tt

-- ---- what is spelt is read

same_module : (x y : ModuleTree × ℕ) → read_as x ≡ read_as y → x ≡ y
same_module x y e = cc

pub is_only : (stop : ℕ) (ps : List Piece) (d : ModuleTree × ℕ) (r : Result ModuleTree ReadFault) → IsComplete → module_at (start stop ps) ≡ Ok d → IsThis d.0 r → (IsLawful d.0 → IfErr r (λ f. f ≡ Memory))
    → (m : ModuleTree) → Spells ps m → IsLawful m → IsReadAs m r
is_only stop ps d r complete read this only m h lawful =
    let a = complete stop ps m h in
    let same = same_module d (m, a.0) (sym read ∙ a.1) in
    by r this only (ap (λ (x : ModuleTree × ℕ). x.0) same)
  where
    by : (r : Result ModuleTree ReadFault) → IsThis d.0 r → (IsLawful d.0 → IfErr r (λ f. f ≡ Memory)) → d.0 ≡ m → IsReadAs m r
    by (Ok x) this only e = this.1 ∙ e
    by (Err f) this only e = only (subst (λ (t : ModuleTree). IsLawful t) (sym e) lawful)

-- where decoding fails except for lack of memory, nothing is spelt
only_memory : (e : ReadFault) (x : ModuleTree × ℕ) → (e ≢ Memory → read_as x ≡ fails_with e) → e ≡ Memory
only_memory Memory x h = refl
only_memory e x h = absurd (apart x e (h (λ same. absurd cc)))
  where
    apart : (y : ModuleTree × ℕ) (f : ReadFault) → read_as y ≡ fails_with f → ⊥
    apart y f same = absurd cc

pub fails_only : (stop : ℕ) (ps : List Piece) (e : ReadFault) → IsComplete → (e ≢ Memory → module_at (start stop ps) ≡ Err e) → (m : ModuleTree) → Spells ps m → e ≡ Memory
fails_only stop ps e complete failed m h =
    let a = complete stop ps m h in
    only_memory e (m, a.0) (λ real. sym a.1 ∙ failed real)

-- ---- faults

pub decoding_stands : (stop : ℕ) (ps : List Piece) (e : ReadFault) → ((n : ℕ) (qs : List Piece) (f : ReadFault) → module_at (start n qs) ≡ Err f → IsFaultOf qs n f)
    → (e ≢ Memory → module_at (start stop ps) ≡ Err e) → IsFaultOf ps stop e
decoding_stands stop ps Memory law failed = tt
decoding_stands stop ps e law failed = law stop ps e (failed (λ same. absurd cc))

pub scopes_stand : (stop : ℕ) (ps : List Piece) (d : ModuleTree × ℕ) (r : Result ModuleTree ReadFault)
    → ((n : ℕ) (qs : List Piece) (x : ModuleTree × ℕ) (f : ReadFault) → module_at (start n qs) ≡ Ok x → IsFaultOfModule x.0 x.1 f → IsFaultOf qs n f)
    → module_at (start stop ps) ≡ Ok d → IfErr r (λ f. f ≢ Memory → IsFaultOfModule d.0 d.1 f) → IfErr r (λ f. IsFaultOf ps stop f)
scopes_stand stop ps d (Ok m) law read h = tt
scopes_stand stop ps d (Err Memory) law read h = tt
scopes_stand stop ps d (Err e) law read h = law stop ps d e read (h (λ same. absurd cc))
