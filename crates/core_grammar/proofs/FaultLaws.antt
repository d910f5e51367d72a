-- Each fault says what is true of the tokens.
use Rattle.std.proofs.Common.{◌≡◌, ℕ, List, [], Result, Ok, Err, refl, subst, inl, inr}
use Rattle.core_tokens.specs.declared.fault.ReadFault.{ReadFault}
use Rattle.core_tokens.specs.declared.fault.ReadFault.TheVariants as fault
use Rattle.core_tokens.specs.Piece.{Piece}
use Rattle.core_tree.specs.Syntax.{ModuleTree}
use Rattle.core_scopes.specs.ScopeFaults.{IsFaultOfModule}
use Rattle.core_grammar.specs.inside.DecoderModules.{module_at}
use Rattle.core_grammar.specs.Grammar.{Spells}
use Rattle.core_grammar.specs.Whole.{start}
use Rattle.core_grammar.specs.Places.{IsFaultOf}
use Rattle.core_grammar.proofs.SoundModules.{module_sound}
use Rattle.core_grammar.proofs.FaultSteps.{IsGrammarFault, Good, Fine}
use Rattle.core_grammar.proofs.FaultModules.{ModulePlaced, module_fine}
use Rattle.core_grammar.proofs.LastEnd.{module_ends}
use Rattle.core_grammar.proofs.DeepModules.{module_falls}
use Rattle.core_grammar.proofs.ScopePlaces.{Says, module_says}

abbrev no_module : ReadFault → Result (ModuleTree × ℕ) ReadFault
no_module f = Err f

-- a fault of the grammar
of_grammar : (end : ℕ) (ps : List Piece) (f : ReadFault) → module_at (start end ps) ≡ no_module f → IsGrammarFault ps end f → IsFaultOf ps end f
of_grammar end ps (fault.Expected at) is h = h
of_grammar end ps (fault.HigherOrder at) is h = h
of_grammar end ps (fault.UnsupportedForm at) is h = h
of_grammar end ps (fault.UnsupportedCall at) is h = (h.0, inl h.1)
of_grammar end ps (fault.TooDeep at) is h = (h, (module_falls at (start end ps) is).1)
of_grammar end ps f is h = absurd h

-- a fault of the scopes of a module that the tokens spell
of_scopes : (end : ℕ) (ps : List Piece) (m : ModuleTree) (f : ReadFault) → Spells ps m → Says ps end m f → IsFaultOf ps end f
of_scopes end ps m (fault.Unbound at) s h = (h.1, (m, s, h.0))
of_scopes end ps m (fault.DuplicateVariable at) s h = (h.1, (m, s, h.0))
of_scopes end ps m (fault.DuplicateFunction at) s h = (h.1, (m, s, h.0))
of_scopes end ps m (fault.NoFunction at) s h = (h.1, (m, s, h.0))
of_scopes end ps m (fault.EffectInGuard at) s h = (h.1, (m, s, h.0))
of_scopes end ps m (fault.UnsupportedCall at) s h = (h.1, inr (m, s, h.0))
of_scopes end ps m (fault.NoMain at) s h = (h.0, (m, s, h.1))
of_scopes end ps m f s h = absurd h.1

-- ---- what is read of all of the tokens

begun : (end : ℕ) (ps : List Piece) → Fine ps end (module_at (start end ps)) (ModulePlaced ps end)
begun end ps =
    let good : Good ps end (start end ps) = record { stop = refl; inside = ([], refl); refused = tt } in
    module_fine ps end (start end ps) good refl

abbrev a_module : ModuleTree × ℕ → Result (ModuleTree × ℕ) ReadFault
a_module x = Ok x

pub decoding_stands : (end : ℕ) (ps : List Piece) (f : ReadFault) → module_at (start end ps) ≡ Err f → IsFaultOf ps end f
decoding_stands end ps f is =
    let fails : module_at (start end ps) ≡ no_module f = is in
    of_grammar end ps f fails (subst (λ (r : Result (ModuleTree × ℕ) ReadFault). Fine ps end r (ModulePlaced ps end)) fails (begun end ps))

pub scopes_stand : (end : ℕ) (ps : List Piece) (x : ModuleTree × ℕ) (f : ReadFault) → module_at (start end ps) ≡ Ok x → IsFaultOfModule x.0 x.1 f → IsFaultOf ps end f
scopes_stand end ps x f is breaks =
    let reads : module_at (start end ps) ≡ a_module x = is in
    let placed = subst (λ (r : Result (ModuleTree × ℕ) ReadFault). Fine ps end r (ModulePlaced ps end)) reads (begun end ps) in
    of_scopes end ps x.0 f (module_sound (start end ps) x is) (module_says ps end x.0 x.1 f placed (module_ends (start end ps) x is) breaks)
