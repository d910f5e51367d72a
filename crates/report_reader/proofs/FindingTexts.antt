-- What is read of the two lines of a finding.
use Rattle.std.proofs.Common.{◌≡◌, ℕ, ◌+◌, ◌<◌, ◌^◌, true, List, [], ◌∷◌, ◌++◌, length, codes, ap, sym, refl, ◌∙◌, subst, append_assoc}
use Rattle.std.specs.Fmt.{decimal}
use Rattle.term_core.specs.Schedule.{AreLawful}
use Rattle.term_core.specs.Text.{text_of_schedule}
use Rattle.term_core.specs.declared.step.Step.{Step}
use Rattle.world_model.specs.Shown.{Identity, Flags}
use Rattle.tree_coverage.specs.Findings.{Finding}
use Rattle.tree_excuses.specs.Excuses.{Excuses}
use Rattle.report_identities.specs.Lawful.{IsLawfulIdentity, MayRefuse, height_in}
use Rattle.report_identities.specs.declared.fault.IdentityFault.{IdentityFault}
use Rattle.report_identities.specs.declared.fault.IdentityFault.TheVariants as faults
use Rattle.report_text.specs.IdentityText.{text_of_identity}
use Rattle.report_reader.specs.declared.fault.Stop.{Stop}
use Rattle.report_reader.specs.declared.fault.Stop.TheVariants.{Bad, Deep, Memory}
use Rattle.report_reader.specs.declared.kinds.Kind.{Kind}
use Rattle.report_reader.specs.inside.Reading.{AllComeBefore, HasNoFront, HasNoMark, IsCut, IsHigh, IsInLine, IsNever, IsRead, LacksMark, Refuses, SaysIdentity, SaysSchedule, SaysShown, StopsInLine, is_of, stop_of}
use Rattle.report_reader.proofs.Cuts.{same_behind, same_cut}
use Rattle.report_reader.proofs.LineTexts.{computed, no_end-append, no_end-decimal, no_end-identity, no_end-schedule}

-- ---- places

-- the place of the first byte
pub at_once : (text : List ℕ) (left : ℕ) → left ≡ length text → IsInLine text left
at_once text left e = record { line = []; rest = text; parts = refl; place = e; inside = tt }

-- a place after a front without an end
pub further : (front inside text : List ℕ) (stop : Stop) → LacksMark 10 front → text ≡ front ++ inside → StopsInLine inside stop → StopsInLine text stop
further front inside text (Bad left) lacks is at = record {
  line = front ++ at.line;
  rest = at.rest;
  parts = is ∙ ap (λ w. front ++ w) at.parts ∙ sym (append_assoc front at.line at.rest);
  place = at.place;
  inside = no_end-append front at.line lacks at.inside;
}
further front inside text (Deep left) lacks is at = tt
further front inside text Memory lacks is at = tt

pub identity_stops : (text : List ℕ) (fault : IdentityFault) (left : ℕ) → left ≡ length text → StopsInLine text (stop_of fault left)
identity_stops text faults.BadIdentity left e = at_once text left e
identity_stops text faults.TooDeep left e = tt
identity_stops text faults.Memory left e = tt

-- ---- the line of an identity

pub identity_unended : (text : List ℕ) (n : ℕ) → HasNoMark 10 text → Refuses IsHigh (SaysIdentity text) (Bad n)
identity_unended text n none = λ i rest s. none (text_of_identity i) rest (no_end-identity i s.0) s.1

pub identity_read : (text line rest : List ℕ) (i : Identity) → IsCut 10 text line rest → IsLawfulIdentity i → line ≡ text_of_identity i
    → ((j : Identity) → IsLawfulIdentity j → line ≡ text_of_identity j → i ≡ j) → IsRead (SaysIdentity text) i rest
identity_read text line rest i cut lawful is one = record {
  says = (lawful, cut.1 ∙ ap (λ w. w ++ 10 ∷ rest) is);
  only = λ j more s. let same = same_cut 10 text line rest (text_of_identity j) more cut (no_end-identity j s.0) s.1 in (one j s.0 same.0, same.1);
}

pub identity_refused : (text line rest : List ℕ) (fault : IdentityFault) (n : ℕ) → IsCut 10 text line rest
    → ((j : Identity) → IsLawfulIdentity j → line ≡ text_of_identity j → MayRefuse (height_in j) fault) → Refuses IsHigh (SaysIdentity text) (stop_of fault n)
identity_refused text line rest faults.BadIdentity n cut may = λ j more s. may j s.0 (same_cut 10 text line rest (text_of_identity j) more cut (no_end-identity j s.0) s.1).0
identity_refused text line rest faults.TooDeep n cut may = λ j more s. may j s.0 (same_cut 10 text line rest (text_of_identity j) more cut (no_end-identity j s.0) s.1).0
identity_refused text line rest faults.Memory n cut may = λ j more s. tt

-- ---- the line of a schedule

pub schedule_unblanked : (text : List ℕ) (n : ℕ) → HasNoFront (codes "  ") text → Refuses IsNever (SaysSchedule text) (Bad n)
schedule_unblanked text n none = λ s rest h. none (text_of_schedule s ++ 10 ∷ rest) h.1

pub schedule_unended : (text inside : List ℕ) (n : ℕ) → text ≡ codes "  " ++ inside → HasNoMark 10 inside → Refuses IsNever (SaysSchedule text) (Bad n)
schedule_unended text inside n front none = λ s rest h.
    none (text_of_schedule s) rest (no_end-schedule s h.0) (same_behind (codes "  ") inside (text_of_schedule s ++ 10 ∷ rest) text front h.1)

-- the line of the schedule that the text says
same_line : (text inside line rest more : List ℕ) (s : List Step) → text ≡ codes "  " ++ inside → IsCut 10 inside line rest → SaysSchedule text s more → (line ≡ text_of_schedule s) × (rest ≡ more)
same_line text inside line rest more s front cut h =
    same_cut 10 inside line rest (text_of_schedule s) more cut (no_end-schedule s h.0) (same_behind (codes "  ") inside (text_of_schedule s ++ 10 ∷ more) text front h.1)

pub schedule_bad : (text inside line rest : List ℕ) (n : ℕ) → text ≡ codes "  " ++ inside → IsCut 10 inside line rest
    → ((s : List Step) → AreLawful s → line ≡ text_of_schedule s → ⊥) → Refuses IsNever (SaysSchedule text) (Bad n)
schedule_bad text inside line rest n front cut none = λ s more h. none s h.0 (same_line text inside line rest more s front cut h).0

pub schedule_read : (text inside line rest : List ℕ) (s : List Step) → text ≡ codes "  " ++ inside → IsCut 10 inside line rest → AreLawful s → line ≡ text_of_schedule s
    → ((t : List Step) → AreLawful t → line ≡ text_of_schedule t → s ≡ t) → IsRead (SaysSchedule text) s rest
schedule_read text inside line rest s front cut lawful is one = record {
  says = (lawful, front ∙ ap (λ w. codes "  " ++ w) (cut.1 ∙ ap (λ w. w ++ 10 ∷ rest) is));
  only = λ t more h. let same = same_line text inside line rest more t front cut h in (one t h.0 same.0, same.1);
}

-- ---- what is shown, after the number of a finding

abbrev pub number_of : ℕ → List ℕ
number_of n = decimal n ++ codes ": "

pub no_end-number : (n : ℕ) → n < 2 ^ 64 → LacksMark 10 (number_of n)
no_end-number n h = no_end-append (decimal n) (codes ": ") (no_end-decimal n h) (computed (codes ": ") refl)

-- what follows the number of a finding
abbrev pub lines_of : Finding → List ℕ → List ℕ
lines_of f rest = text_of_identity f.identity ++ 10 ∷ (codes "  " ++ (text_of_schedule f.schedule ++ 10 ∷ rest))

module _ (kind : Kind) (flags : Flags) (x : Excuses) (fs : List Finding) (text : List ℕ) where
  pub shown_unnumbered : (left : ℕ) → HasNoFront (number_of (length fs + 1)) text → Refuses IsHigh (SaysShown kind flags x fs text) (Bad left)
  shown_unnumbered left none = λ i rest s. none (text_of_identity i ++ 10 ∷ rest) s.parts

  -- the identity that the text says
  behind_number : (shown : List ℕ) → text ≡ number_of (length fs + 1) ++ shown → (i : Identity) (rest : List ℕ) → SaysShown kind flags x fs text i rest → SaysIdentity shown i rest
  behind_number shown front i rest s = (s.lawful, same_behind (number_of (length fs + 1)) shown (text_of_identity i ++ 10 ∷ rest) text front s.parts)

  pub shown_unread : (shown : List ℕ) (stop : Stop) → text ≡ number_of (length fs + 1) ++ shown → Refuses IsHigh (SaysIdentity shown) stop → Refuses IsHigh (SaysShown kind flags x fs text) stop
  shown_unread shown stop front none = λ i rest s. none i rest (behind_number shown front i rest s)

  pub shown_other : (shown next : List ℕ) (i : Identity) (n : ℕ) → text ≡ number_of (length fs + 1) ++ shown → IsRead (SaysIdentity shown) i next
      → (is_of kind flags x i ≡ true → ⊥) → Refuses IsHigh (SaysShown kind flags x fs text) (Bad n)
  shown_other shown next i n front read other = λ j rest s. other (ap (is_of kind flags x) (read.only j rest (behind_number shown front j rest s)).0 ∙ s.is_one)

  pub shown_early : (shown next : List ℕ) (i : Identity) (n : ℕ) → text ≡ number_of (length fs + 1) ++ shown → IsRead (SaysIdentity shown) i next
      → (AllComeBefore fs i → ⊥) → Refuses IsHigh (SaysShown kind flags x fs text) (Bad n)
  shown_early shown next i n front read early = λ j rest s. early (subst (AllComeBefore fs) (sym (read.only j rest (behind_number shown front j rest s)).0) s.in_order)

  pub shown_read : (shown next : List ℕ) (i : Identity) → text ≡ number_of (length fs + 1) ++ shown → IsRead (SaysIdentity shown) i next
      → is_of kind flags x i ≡ true → AllComeBefore fs i → IsRead (SaysShown kind flags x fs text) i next
  shown_read shown next i front read one before = record {
    says = record { lawful = read.says.0; parts = front ∙ ap (λ w. number_of (length fs + 1) ++ w) read.says.1; is_one = one; in_order = before };
    only = λ j rest s. read.only j rest (behind_number shown front j rest s);
  }
