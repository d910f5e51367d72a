-- What is read of the first line of a report.
use Rattle.std.proofs.Common.{◌≡◌, ℕ, zero, suc, ◌<◌, ◌^◌, List, [], ◌∷◌, ◌++◌, length, Option, Some, None, MatchOption, codes, ap, sym, refl, ◌∙◌, arith, append_assoc}
use Rattle.std.proofs.lemmas.Fmt.{decimal_injective}
use Rattle.std.proofs.lemmas.List.{append_cancel_left, append_cancel_right}
use Rattle.std.specs.Fmt.{decimal}
use Rattle.tree_findings.specs.declared.outcome.Cause.TheVariants as causes
use Rattle.report_text.specs.ReportText.{text_of_nodes}
use Rattle.report_reader.specs.declared.fault.Stop.TheVariants.{Bad}
use Rattle.report_reader.specs.declared.first_line.Reach.{Reach}
use Rattle.report_reader.specs.declared.first_line.Reach.TheVariants.{Whole, Stopped}
use Rattle.report_reader.specs.inside.Reading.{Anything, HasNoBack, HasNoFront, HasNoMark, IsCut, IsLawfulReach, IsNever, IsRead, IsReadOn, RefusesOn, SaysReach, text_of_depth, text_of_reach}
use Rattle.report_reader.proofs.Cuts.{same_behind, same_cut}
use Rattle.report_reader.proofs.FindingTexts.{at_once}
use Rattle.report_reader.proofs.Lines.{same_ended, whole-line, whole-nil}
use Rattle.report_reader.proofs.LineTexts.{HasNoEnd, computed, no_end-append, no_end-decimal}

-- ---- the number of nodes

pub no_nodes : (text : List ℕ) → HasNoFront (codes "nodes ") text → (n : ℕ) → n < 2 ^ 64 → text ≡ text_of_nodes n → ⊥
no_nodes text none n h e = none (decimal n ++ codes ", complete") e

pub no_complete : (text number : List ℕ) → text ≡ codes "nodes " ++ number → HasNoBack (codes ", complete") number → (n : ℕ) → n < 2 ^ 64 → text ≡ text_of_nodes n → ⊥
no_complete text number front none n h e = none (decimal n) (same_behind (codes "nodes ") number (decimal n ++ codes ", complete") text front e)

pub nodes_found : (text number digits : List ℕ) (found : Option ℕ) → text ≡ codes "nodes " ++ number → number ≡ digits ++ codes ", complete"
    → MatchOption found ((n : ℕ) → n < 2 ^ 64 → digits ≡ decimal n → ⊥) (λ n. (n < 2 ^ 64) × (digits ≡ decimal n))
    → MatchOption found ((n : ℕ) → n < 2 ^ 64 → text ≡ text_of_nodes n → ⊥) (λ n. (n < 2 ^ 64) × (text ≡ text_of_nodes n))
nodes_found text number digits None front back none = λ n h e.
    none n h (append_cancel_right digits (decimal n) (codes ", complete") (sym back ∙ same_behind (codes "nodes ") number (decimal n ++ codes ", complete") text front e))
nodes_found text number digits (Some n) front back is = (is.0, front ∙ ap (λ w. codes "nodes " ++ w) (back ∙ ap (λ w. w ++ codes ", complete") is.1))

-- ---- how far it came

pub no_reach_text : (text : List ℕ) → (text ≡ codes "incomplete: node limit" → ⊥) → (text ≡ codes "incomplete: memory" → ⊥) → ((n : ℕ) → n < 2 ^ 64 → text ≡ text_of_nodes n → ⊥)
    → (reach : Reach) → IsLawfulReach reach → text ≡ text_of_reach reach → ⊥
no_reach_text text limit memory none (Whole n) h e = none n h e
no_reach_text text limit memory none (Stopped causes.NodeLimit) h e = limit e
no_reach_text text limit memory none (Stopped causes.Memory) h e = memory e

-- the byte at a place
abbrev byte_at : ℕ → List ℕ → ℕ
byte_at n [] = 0
byte_at zero (b ∷ bs) = b
byte_at (suc n) (b ∷ bs) = byte_at n bs

reach_injective : (a b : Reach) → IsLawfulReach a → IsLawfulReach b → text_of_reach a ≡ text_of_reach b → a ≡ b
reach_injective (Whole n) (Whole m) h k e =
    ap Whole (decimal_injective n m h k (append_cancel_right (decimal n) (decimal m) (codes ", complete") (append_cancel_left (codes "nodes ") (decimal n ++ codes ", complete") (decimal m ++ codes ", complete") e)))
reach_injective (Whole n) (Stopped causes.NodeLimit) h k e = absurd (omega (arith, ap (byte_at 0) e))
reach_injective (Whole n) (Stopped causes.Memory) h k e = absurd (omega (arith, ap (byte_at 0) e))
reach_injective (Stopped causes.NodeLimit) (Whole m) h k e = absurd (omega (arith, ap (byte_at 0) e))
reach_injective (Stopped causes.Memory) (Whole m) h k e = absurd (omega (arith, ap (byte_at 0) e))
reach_injective (Stopped causes.NodeLimit) (Stopped causes.NodeLimit) h k e = refl
reach_injective (Stopped causes.NodeLimit) (Stopped causes.Memory) h k e = absurd (omega (arith, ap (byte_at 12) e))
reach_injective (Stopped causes.Memory) (Stopped causes.NodeLimit) h k e = absurd (omega (arith, ap (byte_at 12) e))
reach_injective (Stopped causes.Memory) (Stopped causes.Memory) h k e = refl

-- ---- the line

no_end-reach : (reach : Reach) → IsLawfulReach reach → HasNoEnd (text_of_reach reach)
no_end-reach (Whole n) h = no_end-append (codes "nodes ") (decimal n ++ codes ", complete") (computed (codes "nodes ") refl) (no_end-append (decimal n) (codes ", complete") (no_end-decimal n h) (computed (codes ", complete") refl))
no_end-reach (Stopped causes.NodeLimit) h = computed (codes "incomplete: node limit") refl
no_end-reach (Stopped causes.Memory) h = computed (codes "incomplete: memory") refl

no_end-line : (depth : ℕ) (reach : Reach) → depth < 2 ^ 64 → IsLawfulReach reach → HasNoEnd (text_of_depth depth ++ text_of_reach reach)
no_end-line depth reach low h =
    no_end-append (text_of_depth depth) (text_of_reach reach)
    (no_end-append (codes "depth ") (decimal depth ++ codes ", ") (computed (codes "depth ") refl) (no_end-append (decimal depth) (codes ", ") (no_end-decimal depth low) (computed (codes ", ") refl)))
    (no_end-reach reach h)

module _ (depth : ℕ) (low : depth < 2 ^ 64) (text : List ℕ) where
  pub no_line : HasNoMark 10 text → (reach : Reach) (rest : List ℕ) → SaysReach depth text reach rest → ⊥
  no_line none reach rest s = none (text_of_depth depth ++ text_of_reach reach) rest (no_end-line depth reach low s.0) s.1

  -- the line that the text says
  said_line : (line next : List ℕ) → IsCut 10 text line next → (reach : Reach) (rest : List ℕ) → SaysReach depth text reach rest → (line ≡ text_of_depth depth ++ text_of_reach reach) × (next ≡ rest)
  said_line line next cut reach rest s = same_cut 10 text line next (text_of_depth depth ++ text_of_reach reach) rest cut (no_end-line depth reach low s.0) s.1

  pub no_depth : (line next : List ℕ) → IsCut 10 text line next → HasNoFront (text_of_depth depth) line → (reach : Reach) (rest : List ℕ) → SaysReach depth text reach rest → ⊥
  no_depth line next cut none reach rest s = none (text_of_reach reach) (said_line line next cut reach rest s).0

  pub no_reach : (line next inside : List ℕ) → IsCut 10 text line next → line ≡ text_of_depth depth ++ inside → ((reach : Reach) → IsLawfulReach reach → inside ≡ text_of_reach reach → ⊥)
      → (reach : Reach) (rest : List ℕ) → SaysReach depth text reach rest → ⊥
  no_reach line next inside cut front none reach rest s = none reach s.0 (same_behind (text_of_depth depth) inside (text_of_reach reach) line front (said_line line next cut reach rest s).0)

  pub reach_read : (line next inside : List ℕ) (reach : Reach) → IsCut 10 text line next → line ≡ text_of_depth depth ++ inside → IsLawfulReach reach → inside ≡ text_of_reach reach → IsRead (SaysReach depth text) reach next
  reach_read line next inside reach cut front lawful is = record {
    says = (lawful, cut.1 ∙ ap (λ w. w ++ 10 ∷ next) (front ∙ ap (λ w. text_of_depth depth ++ w) is));
    only = λ other rest s.
        let same = said_line line next cut other rest s in
        (reach_injective reach other lawful s.0 (sym is ∙ same_behind (text_of_depth depth) inside (text_of_reach other) line front same.0), same.1);
  }

  -- whatever follows the line
  pub reach_on : (reach : Reach) (next : List ℕ) → IsRead (SaysReach depth text) reach next → IsReadOn Anything (SaysReach depth) text reach next
  reach_on reach next read =
      let w = text_of_depth depth ++ text_of_reach reach in
      let lacks = no_end-line depth reach low read.says.0 in
      record {
        piece = w ++ 10 ∷ [];
        parts = read.says.1 ∙ sym (append_assoc w (10 ∷ []) next);
        whole = whole-line w lacks;
        says = λ other fits. (read.says.0, append_assoc w (10 ∷ []) other);
        only = λ other same b more s.
            let v = text_of_depth depth ++ text_of_reach b in
            let cut = same_cut 10 (w ++ 10 ∷ other) w other v more (lacks, refl) (no_end-line depth b low s.0) (sym (append_assoc w (10 ∷ []) other) ∙ s.1) in
            (reach_injective reach b read.says.0 s.0 (append_cancel_left (text_of_depth depth) (text_of_reach reach) (text_of_reach b) cut.0), cut.1);
      }

  -- the line is bad
  pub reach_bad : (left : ℕ) → left ≡ length text → ((reach : Reach) (rest : List ℕ) → SaysReach depth text reach rest → ⊥) → RefusesOn IsNever Anything (SaysReach depth) text (Bad left)
  reach_bad left place none =
      let w = text_of_depth depth ++ text_of_reach (Stopped causes.Memory) in
      record {
        front = [];
        behind = text;
        parts = refl;
        whole = whole-nil;
        place = at_once text left place;
        none = λ other same b more s.
            let here = same_ended (text_of_depth depth ++ text_of_reach b) text other more (no_end-line depth b low s.0) same s.1 in
            none b here.0 (s.0, here.1);
        instead = Stopped causes.Memory;
        tail = w ++ 10 ∷ [];
        can = λ after fits. (tt, append_assoc w (10 ∷ []) after);
      }
