-- What is read of the findings of one kind.
use Rattle.std.proofs.Common.{◌≡◌, ℕ, ◌+◌, ◌<◌, ◌^◌, List, [], ◌∷◌, ◌++◌, length, codes, ap, sym, refl, ◌∙◌, subst, arith, append_assoc, append-nil, length-append, true}
use Rattle.std.proofs.lemmas.List.{append_cancel_left}
use Rattle.std.specs.Fmt.{decimal}
use Rattle.term_core.specs.Text.{text_of_schedule}
use Rattle.term_core.specs.declared.step.Step.{Step}
use Rattle.world_model.specs.Names.{IsAmong}
use Rattle.world_model.specs.Shown.{Identity, Flags}
use Rattle.tree_coverage.specs.Findings.{Finding, with_finding}
use Rattle.tree_excuses.specs.Excuses.{Excuses}
use Rattle.report_text.specs.IdentityText.{text_of_identity}
use Rattle.report_text.specs.ReportText.{findings_from, text_of_finding}
use Rattle.report_reader.specs.Lawful.{AreLawfulFindings, HasHigh, IsLawfulFinding}
use Rattle.report_reader.specs.declared.fault.Stop.{Stop}
use Rattle.report_reader.specs.declared.fault.Stop.TheVariants.{Bad, Deep, Memory}
use Rattle.report_reader.specs.declared.kinds.Kind.{Kind}
use Rattle.report_reader.specs.declared.kinds.Kind.TheVariants.{Error, Refusal, Normal}
use Rattle.report_reader.specs.inside.Reading.{AllComeBefore, AreWhole, EndsFindings, IsHigh, IsNever, IsRead, IsReadOn, LacksMark, Refuses, RefusesOn, SameLine, SaysFindings, SaysSchedule, SaysShown, StopsInLine, is_of, label_of, word_of}
use Rattle.report_reader.proofs.Cuts.{same_cut}
use Rattle.report_reader.proofs.FindingTexts.{further, lines_of, no_end-number, number_of}
use Rattle.report_reader.proofs.LineTexts.{computed, no_end-append, no_end-identity, no_end-schedule}
use Rattle.report_reader.proofs.Lines.{one_line, same_ended, same_front, whole-append, whole-line, whole-nil}
use Rattle.report_reader.proofs.ListLaws.{all_next, among_middle, before_next, findings_from-append, lawful_last, with_last}

-- ---- the text of one finding, and of those after it

one_text : (word : List ℕ) (n : ℕ) (f : Finding) (rest : List ℕ) → text_of_finding word n f ++ rest ≡ (word ++ codes " ") ++ (number_of n ++ lines_of f rest)
one_text word n f rest =
    append_assoc word _ rest
    ∙ ap (λ w. word ++ (codes " " ++ w)) (
    append_assoc (decimal n) _ rest
    ∙ ap (λ w. decimal n ++ (codes ": " ++ w)) (
    append_assoc (text_of_identity f.identity) _ rest
    ∙ ap (λ w. text_of_identity f.identity ++ (codes "\n  " ++ w)) (append_assoc (text_of_schedule f.schedule) (codes "\n") rest))
    ∙ sym (append_assoc (decimal n) (codes ": ") (lines_of f rest)))
    ∙ sym (append_assoc word (codes " ") (number_of n ++ lines_of f rest))

first_text : (word : List ℕ) (n : ℕ) (f : Finding) (fs : List Finding) (more : List ℕ) → findings_from word n (f ∷ fs) ++ more ≡ (word ++ codes " ") ++ (number_of n ++ lines_of f (findings_from word (n + 1) fs ++ more))
first_text word n f fs more =
    append_assoc (text_of_finding word n f) (findings_from word (n + 1) fs) more ∙ one_text word n f (findings_from word (n + 1) fs ++ more)

no_end-label : (kind : Kind) → LacksMark 10 (label_of kind)
no_end-label Error = computed (label_of Error) refl
no_end-label Refusal = computed (label_of Refusal) refl
no_end-label Normal = computed (label_of Normal) refl

-- the first line of a finding without its end
abbrev line_of : Kind → ℕ → Identity → List ℕ
line_of kind n i = (label_of kind ++ number_of n) ++ text_of_identity i

-- the line, and what follows it
line_text : (kind : Kind) (n : ℕ) (i : Identity) (rest : List ℕ) → label_of kind ++ (number_of n ++ (text_of_identity i ++ 10 ∷ rest)) ≡ line_of kind n i ++ 10 ∷ rest
line_text kind n i rest = sym (append_assoc (label_of kind) (number_of n) (text_of_identity i ++ 10 ∷ rest)) ∙ sym (append_assoc (label_of kind ++ number_of n) (text_of_identity i) (10 ∷ rest))

-- ---- so far

-- these were read, this is left, and whatever is said of a text that goes on with the same line begins with them
pub record IsReadSoFar (kind : Kind) (flags : Flags) (x : Excuses) (text : List ℕ) (fs : List Finding) (rest : List ℕ) : Type 0 where
  pub lawful : AreLawfulFindings (is_of kind flags x) fs
  pub parts : text ≡ findings_from (word_of kind) 1 fs ++ rest
  pub whole : AreWhole (findings_from (word_of kind) 1 fs)
  pub only : (other : List ℕ) → SameLine rest other → (gs : List Finding) (more : List ℕ) → SaysFindings kind flags x (findings_from (word_of kind) 1 fs ++ other) gs more
      → (hs : List Finding) × (gs ≡ fs ++ hs) × (other ≡ findings_from (word_of kind) (length fs + 1) hs ++ more)

module _ (kind : Kind) (flags : Flags) (x : Excuses) (text : List ℕ) where
  abbrev Says : List ℕ → List Finding → List ℕ → Type 0
  Says = SaysFindings kind flags x

  pub nothing_read : IsReadSoFar kind flags x text [] text
  nothing_read = record {
    lawful = record { sorted = tt; lawful = tt; pass = tt };
    parts = refl;
    whole = whole-nil;
    only = λ other same gs more s. (gs, refl, s.parts);
  }

  -- no more of the kind
  pub all_read : (fs : List Finding) (rest : List ℕ) → IsReadSoFar kind flags x text fs rest → EndsFindings kind rest → IsReadOn (EndsFindings kind) (SaysFindings kind flags x) text fs rest
  all_read fs rest so ends = record {
    piece = findings_from (word_of kind) 1 fs;
    parts = so.parts;
    whole = so.whole;
    says = λ other fits. record { lawful = so.lawful; ends = fits; parts = refl };
    only = λ other same gs more s. let left = so.only other same gs more s in go other same gs more left.0 left.1 left.2;
  }
    where
      go : (other : List ℕ) → SameLine rest other → (gs : List Finding) (more : List ℕ) (hs : List Finding) → gs ≡ fs ++ hs → other ≡ findings_from (word_of kind) (length fs + 1) hs ++ more → (fs ≡ gs) × (other ≡ more)
      go other same gs more [] e t = (sym (e ∙ append-nil fs), t)
      go other same gs more (h ∷ hs) e t =
          let there = same_front (label_of kind) rest other _ (no_end-label kind) same (t ∙ first_text (word_of kind) (length fs + 1) h hs more) in
          absurd (ends there.0 there.1)

  module _ (fs : List Finding) (rest next : List ℕ) (so : IsReadSoFar kind flags x text fs rest) (front : rest ≡ label_of kind ++ next) (room : length fs + 1 < 2 ^ 64) where
    abbrev number : List ℕ
    number = number_of (length fs + 1)

    abbrev so_far : List ℕ
    so_far = findings_from (word_of kind) 1 fs

    no_end-line : (i : Identity) → LacksMark 10 (text_of_identity i) → LacksMark 10 (line_of kind (length fs + 1) i)
    no_end-line i lacks = no_end-append (label_of kind ++ number) (text_of_identity i) (no_end-append (label_of kind) number (no_end-label kind) (no_end-number (length fs + 1) room)) lacks

    -- the next finding that is said of a text that goes on with the same line, from where it begins
    record IsNext (other : List ℕ) (gs : List Finding) (more : List ℕ) : Type 0 where
      next_one : Finding
      others : List Finding
      are : gs ≡ fs ++ next_one ∷ others
      follow : other ≡ label_of kind ++ (number ++ lines_of next_one (findings_from (word_of kind) (length fs + 1 + 1) others ++ more))
      lawful : IsLawfulFinding next_one
      is_one : is_of kind flags x next_one.identity ≡ true
      in_order : AllComeBefore fs next_one.identity

    next_said : (other : List ℕ) → SameLine rest other → (gs : List Finding) (more : List ℕ) → Says (so_far ++ other) gs more → IsNext other gs more
    next_said other same gs more s = let left = so.only other same gs more s in go left.0 left.1 left.2
      where
        go : (hs : List Finding) → gs ≡ fs ++ hs → other ≡ findings_from (word_of kind) (length fs + 1) hs ++ more → IsNext other gs more
        go [] e t =
            let there = same_front (label_of kind) other rest next (no_end-label kind) (sym same) front in
            absurd (s.ends there.0 (sym t ∙ there.1))
        go (h ∷ hs) e t =
            let all = subst (AreLawfulFindings (is_of kind flags x)) e s.lawful in
            record {
              next_one = h;
              others = hs;
              are = e;
              follow = t ∙ first_text (word_of kind) (length fs + 1) h hs more;
              lawful = all_next IsLawfulFinding fs h hs all.lawful;
              is_one = all_next (λ (f : Finding). is_of kind flags x f.identity ≡ true) fs h hs all.pass;
              in_order = before_next fs h hs all.sorted;
            }

    -- what it shows is said after the label of this text, too
    said_here : (other : List ℕ) → SameLine rest other → (gs : List Finding) (more : List ℕ) (n : IsNext other gs more) → (after : List ℕ) × SaysShown kind flags x fs next n.next_one.identity after
    said_here other same gs more n =
        let i = n.next_one.identity in
        let lacks = no_end-identity i n.lawful.identity in
        let here = same_ended (line_of kind (length fs + 1) i) rest other _ (no_end-line i lacks) same (n.follow ∙ line_text kind (length fs + 1) i _) in
        let line : label_of kind ++ next ≡ label_of kind ++ (number ++ (text_of_identity i ++ 10 ∷ here.0)) = sym front ∙ here.1 ∙ sym (line_text kind (length fs + 1) i here.0) in
        (here.0, record { lawful = n.lawful.identity; parts = append_cancel_left (label_of kind) next (number ++ (text_of_identity i ++ 10 ∷ here.0)) line; is_one = n.is_one; in_order = n.in_order })

    -- what is said of this very text
    at_rest : (gs : List Finding) (more : List ℕ) → Says text gs more → Says (so_far ++ rest) gs more
    at_rest gs more s = subst (λ u. Says u gs more) so.parts s

    -- one that is high is one of all
    high_one : (gs : List Finding) (more : List ℕ) (n : IsNext rest gs more) → IsHigh n.next_one.identity → HasHigh gs
    high_one gs more n high = record { finding = n.next_one; among = subst (λ (all : List Finding). IsAmong n.next_one all) (sym n.are) (among_middle fs n.next_one n.others); high = high }

    -- reading stops in the first line of the next finding
    pub stopped_shown : (stop : Stop) → Refuses IsHigh (SaysShown kind flags x fs next) stop → StopsInLine next stop → RefusesOn HasHigh (EndsFindings kind) (SaysFindings kind flags x) text stop
    stopped_shown (Bad left) none at = record {
      front = so_far;
      behind = rest;
      parts = so.parts;
      whole = so.whole;
      place = further (label_of kind) next rest (Bad left) (no_end-label kind) front at;
      none = λ other same gs more s.
          let n = next_said other same gs more s in
          let here = said_here other same gs more n in
          none n.next_one.identity here.0 here.1;
      instead = fs;
      tail = [];
      can = λ after fits. record { lawful = so.lawful; ends = fits; parts = refl };
    }
    stopped_shown (Deep left) none at = λ gs more s.
        let n = next_said rest refl gs more (at_rest gs more s) in
        let here = said_here rest refl gs more n in
        high_one gs more n (none n.next_one.identity here.0 here.1)
    stopped_shown Memory none at = tt

    module _ (i : Identity) (below : List ℕ) (shown : IsRead (SaysShown kind flags x fs next) i below) where
      abbrev line : List ℕ
      line = line_of kind (length fs + 1) i

      lacks_end : LacksMark 10 line
      lacks_end = no_end-line i (no_end-identity i shown.says.lawful)

      rest_is : rest ≡ line ++ 10 ∷ below
      rest_is = front ∙ ap (λ w. label_of kind ++ w) shown.says.parts ∙ line_text kind (length fs + 1) i below

      -- a text that goes on after this line
      after_line : (other : List ℕ) → SameLine rest (line ++ 10 ∷ other)
      after_line other = subst (λ u. SameLine u (line ++ 10 ∷ other)) (sym rest_is) (one_line line below other lacks_end)

      -- the line of the next finding that is said there is this one, and its schedule follows
      schedule_there : (other : List ℕ) (gs : List Finding) (more : List ℕ) (n : IsNext (line ++ 10 ∷ other) gs more)
          → (line ≡ line_of kind (length fs + 1) n.next_one.identity) × (other ≡ codes "  " ++ (text_of_schedule n.next_one.schedule ++ 10 ∷ (findings_from (word_of kind) (length fs + 1 + 1) n.others ++ more)))
      schedule_there other gs more n =
          let j = n.next_one.identity in
          same_cut 10 (line ++ 10 ∷ other) line other (line_of kind (length fs + 1) j) _ (lacks_end, refl) (no_end-line j (no_end-identity j n.lawful.identity)) (n.follow ∙ line_text kind (length fs + 1) j _)

      -- with the schedule of no steps it is a finding
      abbrev finding : Finding
      finding = record { identity = i; schedule = [] }

      abbrev behind_line : List ℕ
      behind_line = so_far ++ (line ++ 10 ∷ [])

      to_line : (other : List ℕ) → behind_line ++ other ≡ so_far ++ (line ++ 10 ∷ other)
      to_line other = append_assoc so_far (line ++ 10 ∷ []) other ∙ ap (λ w. so_far ++ w) (append_assoc line (10 ∷ []) other)

      -- the schedule of what is said of a text that goes on after the line is said below, too
      said_below : (other : List ℕ) → SameLine below other → (gs : List Finding) (more : List ℕ) → Says (behind_line ++ other) gs more → (t : List Step) × (after : List ℕ) × SaysSchedule below t after
      said_below other same gs more s =
          let n = next_said (line ++ 10 ∷ other) (after_line other) gs more (subst (λ u. Says u gs more) (to_line other) s) in
          let t = n.next_one.schedule in
          let there = (schedule_there other gs more n).1 in
          let lacks : LacksMark 10 (codes "  " ++ text_of_schedule t) = no_end-append (codes "  ") (text_of_schedule t) (computed (codes "  ") refl) (no_end-schedule t n.lawful.schedule) in
          let here = same_ended (codes "  " ++ text_of_schedule t) below other _ lacks same (there ∙ sym (append_assoc (codes "  ") (text_of_schedule t) _)) in
          (t, here.0, (n.lawful.schedule, here.1 ∙ append_assoc (codes "  ") (text_of_schedule t) (10 ∷ here.0)))

      -- reading stops in its second line
      pub stopped_scheduled : (stop : Stop) → Refuses IsNever (SaysSchedule below) stop → StopsInLine below stop → RefusesOn HasHigh (EndsFindings kind) (SaysFindings kind flags x) text stop
      stopped_scheduled (Bad left) none at = record {
        front = behind_line;
        behind = below;
        parts = so.parts ∙ ap (λ w. so_far ++ w) rest_is ∙ sym (to_line below);
        whole = whole-append so_far (line ++ 10 ∷ []) so.whole (whole-line line lacks_end);
        place = at;
        none = λ other same gs more s. let there = said_below other same gs more s in none there.0 there.1 there.2;
        instead = fs ++ finding ∷ [];
        tail = codes "  \n";
        can = λ after fits. record {
          lawful = lawful_last (is_of kind flags x) fs finding so.lawful shown.says.in_order (record { identity = shown.says.lawful; schedule = tt }) shown.says.is_one;
          ends = fits;
          parts = to_line (codes "  \n" ++ after)
              ∙ ap (λ w. so_far ++ w) (sym (line_text kind (length fs + 1) i (codes "  \n" ++ after)) ∙ sym (first_text (word_of kind) (length fs + 1) finding [] after))
              ∙ sym (append_assoc so_far (findings_from (word_of kind) (length fs + 1) (finding ∷ [])) after)
              ∙ ap (λ w. w ++ after) (sym (findings_from-append (word_of kind) 1 (length fs + 1) fs (finding ∷ []) refl));
        };
      }
      stopped_scheduled (Deep left) none at = λ gs more s.
          let moved : Says (behind_line ++ below) gs more = subst (λ u. Says u gs more) (so.parts ∙ ap (λ w. so_far ++ w) rest_is ∙ sym (to_line below)) s in
          let there = said_below below refl gs more moved in
          absurd (none there.0 there.1 there.2)
      stopped_scheduled Memory none at = tt

      module _ (t : List Step) (behind : List ℕ) (read : IsRead (SaysSchedule below) t behind) where
        abbrev found : Finding
        found = record { identity = i; schedule = t }

        abbrev second : List ℕ
        second = codes "  " ++ text_of_schedule t

        second_lacks : LacksMark 10 second
        second_lacks = no_end-append (codes "  ") (text_of_schedule t) (computed (codes "  ") refl) (no_end-schedule t read.says.0)

        -- both lines, and what follows them
        both_lines : (other : List ℕ) → findings_from (word_of kind) 1 (fs ++ found ∷ []) ++ other ≡ so_far ++ (line ++ 10 ∷ (codes "  " ++ (text_of_schedule t ++ 10 ∷ other)))
        both_lines other =
            ap (λ w. w ++ other) (findings_from-append (word_of kind) 1 (length fs + 1) fs (found ∷ []) refl)
            ∙ append_assoc so_far (findings_from (word_of kind) (length fs + 1) (found ∷ [])) other
            ∙ ap (λ w. so_far ++ w) (first_text (word_of kind) (length fs + 1) found [] other ∙ line_text kind (length fs + 1) i (codes "  " ++ (text_of_schedule t ++ 10 ∷ other)))

        both_whole : AreWhole (findings_from (word_of kind) 1 (fs ++ found ∷ []))
        both_whole =
            subst AreWhole
            (append_assoc so_far (line ++ 10 ∷ []) (second ++ 10 ∷ [])
            ∙ ap (λ w. so_far ++ w) (append_assoc line (10 ∷ []) (second ++ 10 ∷ []) ∙ ap (λ w. line ++ 10 ∷ w) (append_assoc (codes "  ") (text_of_schedule t) (10 ∷ [])))
            ∙ sym (both_lines [])
            ∙ append-nil (findings_from (word_of kind) 1 (fs ++ found ∷ [])))
            (whole-append behind_line (second ++ 10 ∷ []) (whole-append so_far (line ++ 10 ∷ []) so.whole (whole-line line lacks_end)) (whole-line second second_lacks))

        -- what is said of a text that goes on after both lines begins with this finding
        goes_on_with : (other : List ℕ) (gs : List Finding) (more : List ℕ) → Says (findings_from (word_of kind) 1 (fs ++ found ∷ []) ++ other) gs more
            → (hs : List Finding) × (gs ≡ (fs ++ found ∷ []) ++ hs) × (other ≡ findings_from (word_of kind) (length (fs ++ found ∷ []) + 1) hs ++ more)
        goes_on_with other gs more s =
            let lines = codes "  " ++ (text_of_schedule t ++ 10 ∷ other) in
            let n = next_said (line ++ 10 ∷ lines) (after_line lines) gs more (subst (λ u. Says u gs more) (both_lines other) s) in
            let h = n.next_one in
            let there = schedule_there lines gs more n in
            let texts : text_of_identity i ≡ text_of_identity h.identity = append_cancel_left (label_of kind ++ number) (text_of_identity i) (text_of_identity h.identity) there.0 in
            let ends = same_cut 10 (text_of_schedule t ++ 10 ∷ other) (text_of_schedule t) other (text_of_schedule h.schedule) _ (no_end-schedule t read.says.0, refl) (no_end-schedule h.schedule n.lawful.schedule)
            (append_cancel_left (codes "  ") (text_of_schedule t ++ 10 ∷ other) _ there.1) in
            let identity = shown.only h.identity below (record { lawful = n.lawful.identity; parts = shown.says.parts ∙ ap (λ w. number ++ (w ++ 10 ∷ below)) texts; is_one = n.is_one; in_order = n.in_order }) in
            let schedule = read.only h.schedule behind (n.lawful.schedule, read.says.1 ∙ ap (λ w. codes "  " ++ (w ++ 10 ∷ behind)) ends.0) in
            let same : found ≡ h = λ k. record { identity = identity.0 k; schedule = schedule.0 k } in (
              n.others,
              n.are ∙ ap (λ (g : Finding). fs ++ g ∷ n.others) (sym same) ∙ sym (append_assoc fs (found ∷ []) n.others),
              ends.1 ∙ ap (λ k. findings_from (word_of kind) k n.others ++ more) (omega (arith, length-append fs (found ∷ []))),
            )

        -- one more was read
        pub goes_on : IsReadSoFar kind flags x text (with_finding found fs) behind
        goes_on =
            let more : IsReadSoFar kind flags x text (fs ++ found ∷ []) behind = record {
              lawful = lawful_last (is_of kind flags x) fs found so.lawful shown.says.in_order (record { identity = shown.says.lawful; schedule = read.says.0 }) shown.says.is_one;
              parts = so.parts ∙ ap (λ w. so_far ++ w) (rest_is ∙ ap (λ w. line ++ 10 ∷ w) read.says.1) ∙ sym (both_lines behind);
              whole = both_whole;
              only = λ other same gs rest s. goes_on_with other gs rest s;
            } in
            subst (λ (gs : List Finding). IsReadSoFar kind flags x text gs behind) (sym (with_last found fs shown.says.in_order)) more
