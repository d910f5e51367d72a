-- What is found of the errors that count, and of those that are taken as normal.
use Rattle.std.proofs.Common.{◌≡◌, ◌↔◌, ◌⊎◌, inl, inr, Bool, true, false, ◌&&◌, not, List, [], ◌∷◌, filter, cond, refl, sym, ap, ◌∙◌}
use Rattle.world_model.specs.Names.{IsAmong}
use Rattle.world_model.specs.Shown.{Identity, End, Deadlock, Runaway, RefusedCall, Unread, Flags, is_error}
use Rattle.tree_coverage.specs.Findings.{Finding, IsFound}
use Rattle.tree_coverage.proofs.Lists.{both_first, both_second, both_true, kept_passes, passes_kept}
use Rattle.tree_schedules.specs.Schedules.{IsEverShownBy, IsShownBy}
use Rattle.tree_excuses.specs.Excuses.{Excuses, no_excuses, is_excused, counted, taken}
use Rattle.tree_excuses.specs.Laws.{AreErrorsThat, AreJudged, JudgedAreExact, JudgedAreWhole, NoExcusesChangeNothing, NothingIsLost}

-- ---- findings that pass a test of their identities

keeps : (more : Identity → Bool) (fs : List Finding) (i : Identity) → IsFound i (filter (λ f. more f.identity) fs) → IsFound i fs × (more i ≡ true)
keeps more fs i there =
    let k : (more there.0.identity ≡ true) × IsAmong there.0 fs = kept_passes (λ (f : Finding). more f.identity) fs there.0 there.1 in
    ((there.0, k.1, there.2), sym (ap more there.2) ∙ k.0)

kept : (more : Identity → Bool) (fs : List Finding) (i : Identity) → IsFound i fs → more i ≡ true → IsFound i (filter (λ f. more f.identity) fs)
kept more fs i there e = (there.0, passes_kept (λ (f : Finding). more f.identity) fs there.0 (ap more there.2 ∙ e) there.1, there.2)

listed : (flags : Flags) (more : Identity → Bool) (Holds : Identity → Type 0) (fs : List Finding) → AreErrorsThat flags Holds fs → (i : Identity) → IsFound i (filter (λ f. more f.identity) fs) ↔ (((is_error flags i && more i) ≡ true) × Holds i)
listed flags more Holds fs are i = (
  λ there.
      let k : IsFound i fs × (more i ≡ true) = keeps more fs i there in
      let e : (is_error flags i ≡ true) × Holds i = (are i).0 k.0 in
      (both_true (is_error flags i) (more i) e.0 k.1, e.1),
  λ h. kept more fs i ((are i).1 (both_first (is_error flags i) (more i) h.0, h.1)) (both_second (is_error flags i) (more i) h.0),
)

judged : (flags : Flags) (x : Excuses) (Holds : Identity → Type 0) (fs : List Finding) → AreErrorsThat flags Holds fs → AreJudged flags x Holds fs
judged flags x Holds fs are = record { errors = listed flags (λ i. not (is_excused x i)) Holds fs are; normal = listed flags (is_excused x) Holds fs are }

pub judged_to : JudgedAreExact
judged_to flags x d a n fs are = judged flags x (IsShownBy d a n) fs are

pub judged_all : JudgedAreWhole
judged_all flags x d a fs are = judged flags x (IsEverShownBy d a) fs are

-- ---- each counts, or is taken as normal

either : (x : Excuses) (f : Finding) (fs : List Finding) (b : Bool) → is_excused x f.identity ≡ b → IsAmong f fs → IsAmong f (counted x fs) ⊎ IsAmong f (taken x fs)
either x f fs true e there = inr (passes_kept (λ (g : Finding). is_excused x g.identity) fs f e there)
either x f fs false e there = inl (passes_kept (λ (g : Finding). not (is_excused x g.identity)) fs f (ap not e) there)

back : (x : Excuses) (f : Finding) (fs : List Finding) → IsAmong f (counted x fs) ⊎ IsAmong f (taken x fs) → IsAmong f fs
back x f fs (inl h) = (kept_passes (λ (g : Finding). not (is_excused x g.identity)) fs f h).1
back x f fs (inr h) = (kept_passes (λ (g : Finding). is_excused x g.identity) fs f h).1

pub nothing_lost : NothingIsLost
nothing_lost x f fs = (either x f fs (is_excused x f.identity) refl, back x f fs)

-- ---- without excuses

never : (i : Identity) → is_excused no_excuses i ≡ false
never (End p reason) = refl
never (Deadlock ps) = refl
never (Runaway p) = refl
never (RefusedCall p request kind arguments rule told) = refl
never (Unread ps) = refl

first_counts : (b : Bool) → b ≡ false → (f : Finding) (fs rest : List Finding) → rest ≡ fs → cond (not b) (f ∷ rest) rest ≡ f ∷ fs
first_counts false e f fs rest is = ap (λ r. f ∷ r) is
first_counts true e f fs rest is = absurd cc

all_count : (fs : List Finding) → counted no_excuses fs ≡ fs
all_count [] = refl
all_count (f ∷ fs) = first_counts (is_excused no_excuses f.identity) (never f.identity) f fs (counted no_excuses fs) (all_count fs)

first_not : (b : Bool) → b ≡ false → (f : Finding) (rest : List Finding) → rest ≡ [] → cond b (f ∷ rest) rest ≡ []
first_not false e f rest is = is
first_not true e f rest is = absurd cc

none_taken : (fs : List Finding) → taken no_excuses fs ≡ []
none_taken [] = refl
none_taken (f ∷ fs) = first_not (is_excused no_excuses f.identity) (never f.identity) f (taken no_excuses fs) (none_taken fs)

pub nothing_changes : NoExcusesChangeNothing
nothing_changes fs = (all_count fs, none_taken fs)
