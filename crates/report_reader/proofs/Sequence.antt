-- What is read in two parts, one after the other.
use Rattle.std.proofs.Common.{◌≡◌, ℕ, List, ◌++◌, ap, sym, refl, ◌∙◌, subst, append_assoc}
use Rattle.report_reader.specs.declared.fault.Stop.{Stop}
use Rattle.report_reader.specs.declared.fault.Stop.TheVariants.{Bad, Deep, Memory}
use Rattle.report_reader.specs.inside.Reading.{IsReadOn, RefusesOn, SameLine}
use Rattle.report_reader.proofs.Lines.{same_after, whole-append}

-- where less may follow
pub read_before : {A : Type 0} (Fits Fewer : List ℕ → Type 0) (Says : List ℕ → A → List ℕ → Type 0) → ((rest : List ℕ) → Fewer rest → Fits rest) → (text : List ℕ) (a : A) (rest : List ℕ)
    → IsReadOn Fits Says text a rest → IsReadOn Fewer Says text a rest
read_before Fits Fewer Says fit text a rest r = record {
  piece = r.piece;
  parts = r.parts;
  whole = r.whole;
  says = λ other fewer. r.says other (fit other fewer);
  only = r.only;
}

pub refused_before : {A : Type 0} (High : A → Type 0) (Fits Fewer : List ℕ → Type 0) (Says : List ℕ → A → List ℕ → Type 0) → ((rest : List ℕ) → Fewer rest → Fits rest) → (text : List ℕ) (stop : Stop)
    → RefusesOn High Fits Says text stop → RefusesOn High Fewer Says text stop
refused_before High Fits Fewer Says fit text (Bad left) bad = record {
  front = bad.front;
  behind = bad.behind;
  parts = bad.parts;
  whole = bad.whole;
  place = bad.place;
  none = bad.none;
  instead = bad.instead;
  tail = bad.tail;
  can = λ after fewer. bad.can after (fit after fewer);
}
refused_before High Fits Fewer Says fit text (Deep left) none = none
refused_before High Fits Fewer Says fit text Memory none = tt

module _ {A B C : Type 0} (Fits1 Fits : List ℕ → Type 0) (High1 : A → Type 0) (High2 : B → Type 0) (High : C → Type 0)
    (Says1 : List ℕ → A → List ℕ → Type 0) (Says2 : A → List ℕ → B → List ℕ → Type 0) (Says : List ℕ → C → List ℕ → Type 0) (make : A → B → C) where
  -- the parts of what is said
  pub record IsSplit (text : List ℕ) (c : C) (rest : List ℕ) : Type 0 where
    pub one : A
    pub mid : List ℕ
    pub two : B
    pub first : Says1 text one mid
    pub second : Says2 one mid two rest
    pub is : c ≡ make one two

  -- both parts are what is said; and a first part can be completed
  pub record IsSequence : Type 0 where
    pub join : (text : List ℕ) (a : A) (mid : List ℕ) (b : B) (rest : List ℕ) → Says1 text a mid → Says2 a mid b rest → Says text (make a b) rest
    pub split : (text : List ℕ) (c : C) (rest : List ℕ) → Says text c rest → IsSplit text c rest
    pub fit : (a : A) (text : List ℕ) (b : B) (rest : List ℕ) → Fits rest → Says2 a text b rest → Fits1 text
    pub first_high : (text : List ℕ) (c : C) (rest : List ℕ) (s : Says text c rest) → High1 (split text c rest s).one → High c
    pub second_high : (text : List ℕ) (c : C) (rest : List ℕ) (s : Says text c rest) → High2 (split text c rest s).two → High c
    pub last : A → B
    pub end : A → List ℕ
    pub completes : (a : A) (after : List ℕ) → Fits after → Says2 a (end a ++ after) (last a) after

  module _ (sequence : IsSequence) where
    -- the second part of what is said, where the first was read
    second_said : (text : List ℕ) (a : A) (mid other : List ℕ) → (r : IsReadOn Fits1 Says1 text a mid) → SameLine mid other → (c : C) (more : List ℕ) → (s : Says (r.piece ++ other) c more)
        → (a ≡ (sequence.split (r.piece ++ other) c more s).one) × Says2 a other (sequence.split (r.piece ++ other) c more s).two more
    second_said text a mid other r same c more s =
        let p = sequence.split (r.piece ++ other) c more s in
        let one = r.only other same p.one p.mid p.first in
        (one.0, subst (λ (z : A). Says2 z other p.two more) (sym one.0) (subst (λ (u : List ℕ). Says2 p.one u p.two more) (sym one.1) p.second))

    pub both_read : (text : List ℕ) (a : A) (mid : List ℕ) (b : B) (rest : List ℕ) → IsReadOn Fits1 Says1 text a mid → IsReadOn Fits (Says2 a) mid b rest → IsReadOn Fits Says text (make a b) rest
    both_read text a mid b rest r q = record {
      piece = r.piece ++ q.piece;
      parts = r.parts ∙ ap (λ u. r.piece ++ u) q.parts ∙ sym (append_assoc r.piece q.piece rest);
      whole = whole-append r.piece q.piece r.whole q.whole;
      says = λ other fits.
          let second = q.says other fits in
          let first = r.says (q.piece ++ other) (sequence.fit a (q.piece ++ other) b other fits second) in
          subst (λ u. Says u (make a b) other) (sym (append_assoc r.piece q.piece other)) (sequence.join (r.piece ++ (q.piece ++ other)) a (q.piece ++ other) b other first second);
      only = λ other same c more s.
          let t : Says (r.piece ++ (q.piece ++ other)) c more = subst (λ u. Says u c more) (append_assoc r.piece q.piece other) s in
          let after : SameLine mid (q.piece ++ other) = subst (λ u. SameLine u (q.piece ++ other)) (sym q.parts) (same_after q.piece rest other q.whole same) in
          let p = sequence.split (r.piece ++ (q.piece ++ other)) c more t in
          let said = second_said text a mid (q.piece ++ other) r after c more t in
          let two = q.only other same p.two more said.1 in
          (ap (λ (z : A). make z b) said.0 ∙ ap (make p.one) two.0 ∙ sym p.is, two.1);
    }

    pub first_refused : (text : List ℕ) (stop : Stop) → RefusesOn High1 Fits1 Says1 text stop → RefusesOn High Fits Says text stop
    first_refused text (Bad left) bad = record {
      front = bad.front;
      behind = bad.behind;
      parts = bad.parts;
      whole = bad.whole;
      place = bad.place;
      none = λ other same c more s. let p = sequence.split (bad.front ++ other) c more s in bad.none other same p.one p.mid p.first;
      instead = make bad.instead (sequence.last bad.instead);
      tail = bad.tail ++ sequence.end bad.instead;
      can = λ after fits.
          let a = bad.instead in
          let mid = sequence.end a ++ after in
          let second = sequence.completes a after fits in
          let first = bad.can mid (sequence.fit a mid (sequence.last a) after fits second) in
          subst (λ u. Says (bad.front ++ u) (make a (sequence.last a)) after) (sym (append_assoc bad.tail (sequence.end a) after)) (sequence.join (bad.front ++ (bad.tail ++ mid)) a mid (sequence.last a) after first second);
    }
    first_refused text (Deep left) none = λ c rest s. let p = sequence.split text c rest s in sequence.first_high text c rest s (none p.one p.mid p.first)
    first_refused text Memory none = tt

    pub second_refused : (text : List ℕ) (a : A) (mid : List ℕ) (stop : Stop) → IsReadOn Fits1 Says1 text a mid → RefusesOn High2 Fits (Says2 a) mid stop → RefusesOn High Fits Says text stop
    second_refused text a mid (Bad left) r bad = record {
      front = r.piece ++ bad.front;
      behind = bad.behind;
      parts = r.parts ∙ ap (λ u. r.piece ++ u) bad.parts ∙ sym (append_assoc r.piece bad.front bad.behind);
      whole = whole-append r.piece bad.front r.whole bad.whole;
      place = bad.place;
      none = λ other same c more s.
          let t : Says (r.piece ++ (bad.front ++ other)) c more = subst (λ u. Says u c more) (append_assoc r.piece bad.front other) s in
          let after : SameLine mid (bad.front ++ other) = subst (λ u. SameLine u (bad.front ++ other)) (sym bad.parts) (same_after bad.front bad.behind other bad.whole same) in
          let said = second_said text a mid (bad.front ++ other) r after c more t in
          bad.none other same (sequence.split (r.piece ++ (bad.front ++ other)) c more t).two more said.1;
      instead = make a bad.instead;
      tail = bad.tail;
      can = λ after fits.
          let mid = bad.front ++ (bad.tail ++ after) in
          let second = bad.can after fits in
          let first = r.says mid (sequence.fit a mid bad.instead after fits second) in
          subst (λ u. Says u (make a bad.instead) after) (sym (append_assoc r.piece bad.front (bad.tail ++ after))) (sequence.join (r.piece ++ mid) a mid bad.instead after first second);
    }
    second_refused text a mid (Deep left) r none = λ c rest s. go text r.parts c rest s
      where
        go : (t : List ℕ) → t ≡ r.piece ++ mid → (c : C) (rest : List ℕ) → Says t c rest → High c
        go t is c rest s =
            let moved : Says (r.piece ++ mid) c rest = subst (λ u. Says u c rest) is s in
            let said = second_said text a mid mid r refl c rest moved in
            sequence.second_high (r.piece ++ mid) c rest moved (none (sequence.split (r.piece ++ mid) c rest moved).two rest said.1)
    second_refused text a mid Memory r none = tt
