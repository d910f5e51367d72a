-- Places within a text.
use Rattle.std.specs.Prelude.{ℕ, ◌≤◌, List, [], ◌∷◌}
use Rattle.core_tokens.specs.declared.fault.ReadFault.{ReadFault}
use Rattle.core_tokens.specs.declared.fault.ReadFault.TheVariants as fault
use Rattle.core_tokens.specs.Piece.{Piece}

-- the place that a fault names, if it names one, is at most this
abbrev pub IsPlacedWithin : ℕ → ReadFault → Type 0
IsPlacedWithin limit (fault.BadToken place) = place ≤ limit
IsPlacedWithin limit (fault.Expected place) = place ≤ limit
IsPlacedWithin limit (fault.Unbound place) = place ≤ limit
IsPlacedWithin limit (fault.DuplicateVariable place) = place ≤ limit
IsPlacedWithin limit (fault.DuplicateFunction place) = place ≤ limit
IsPlacedWithin limit (fault.NoFunction place) = place ≤ limit
IsPlacedWithin limit (fault.HigherOrder place) = place ≤ limit
IsPlacedWithin limit (fault.UnsupportedCall place) = place ≤ limit
IsPlacedWithin limit (fault.EffectInGuard place) = place ≤ limit
IsPlacedWithin limit (fault.TooDeep place) = place ≤ limit
IsPlacedWithin limit (fault.BadInteger place) = place ≤ limit
IsPlacedWithin limit (fault.NotUtf8 place) = place ≤ limit
IsPlacedWithin limit (fault.NoMain place) = place ≤ limit
IsPlacedWithin limit (fault.UnsupportedForm place) = place ≤ limit
IsPlacedWithin limit fault.Memory = Unit {0}
IsPlacedWithin limit (fault.TooLong place) = place ≤ limit

-- each token is at most there
abbrev pub StandWithin : ℕ → List Piece → Type 0
StandWithin limit [] = Unit {0}
StandWithin limit (p ∷ ps) = (p.at ≤ limit) × StandWithin limit ps
