-- How the text of a report ends: with `result: clean, all schedules` only where it is clean of all schedules, and with `result: clean, all prompt schedules` only where it is clean of all prompt ones, whether or not a cover follows. One of terms ends with neither.
use Rattle.std.proofs.Common.{arith, ◌≡◌, ◌≤◌, ◌<◌, ◌==◌, ◌/◌, ◌%◌, ◌+◌, ℕ, zero, suc, Bool, true, false, true≢false, nat_lt, if◌then◌else◌, List, [], ◌∷◌, ◌++◌, Option, Some, None, reverse, codes, refl, sym, ap, subst, ◌∙◌, append_assoc, append-nil, eqb-true, eq-eqb, ne_eqb}
use Rattle.std.proofs.lemmas.List.{append_cancel_right, reverse-append}
use Rattle.std.specs.Fmt.{decimal, digits, digit_glyph, digits_onto}
use Rattle.std.specs.List.{AllByRecursion, flat_map}
use Rattle.term_core.proofs.Pieces.{Lacks, all-append, all_weaker}
use Rattle.term_core.specs.Text.{dotted, text_of_pid, text_of_schedule, text_of_step}
use Rattle.term_core.specs.declared.step.Step.{Step}
use Rattle.term_core.specs.declared.step.Step.TheVariants.{Turn, Deliver}
use Rattle.world_model.specs.Requests.{Program}
use Rattle.tree_coverage.specs.Covers.{Lines, cover_of, lines_of}
use Rattle.tree_coverage.specs.Findings.{Finding, Findings}
use Rattle.tree_coverage.specs.Jobs.{root}
use Rattle.tree_covers.specs.CoverText.{text_of_cover, text_of_lines}
use Rattle.tree_excuses.specs.Excuses.{Excuses, counted}
use Rattle.tree_findings.specs.declared.extent.Extent.{Extent}
use Rattle.tree_findings.specs.declared.outcome.Outcome.{Outcome}
use Rattle.tree_findings.specs.declared.outcome.Outcome.TheVariants.{Complete}
use Rattle.report_text.specs.Clean.{IsCleanOfAll, all_clean_line}
use Rattle.report_text.specs.ReportText.{complete_result, delivery_in, explained_first_line_by, explained_last_line, first_line_by, last_line, text_of_all, text_of_counts, text_of_report_by, schedules_by}
use Rattle.report_text.specs.declared.visited.Visited.{Visited}
use Rattle.tree_schedules.specs.declared.delivery.Delivery.{Delivery}
use Rattle.tree_schedules.specs.declared.delivery.Delivery.TheVariants.{AnyTime, AtOnce}
use Rattle.report_explained.specs.Explained.{explained_findings, text_of_explained_report_by}
use Rattle.report_terms.specs.TermsReport.{counts_line, explored_line, lines_of_findings, reach_as_term, result_line, text_of_terms_report}
use Rattle.program_words.specs.declared.words.Printed.{Printed}
use Rattle.program_runs.specs.Explored.{cover_if, report_as_text, text_of_form}
use Rattle.program_runs.specs.Theorem.{text_after}

-- the line, with its end
abbrev pub said : Delivery → List ℕ
said d = all_clean_line d

-- ---- bytes counted from the end

-- the byte at a place
abbrev byte_at : ℕ → List ℕ → ℕ
byte_at n [] = 0
byte_at zero (x ∷ xs) = x
byte_at (suc n) (x ∷ xs) = byte_at n xs

-- a text that is put together in two ways, read from its end
mirrored : (front line other end : List ℕ) → front ++ line ≡ other ++ end → reverse line ++ reverse front ≡ reverse end ++ reverse other
mirrored front line other end e = sym (reverse-append front line) ∙ ap reverse e ∙ reverse-append other end

-- ---- the bytes of numbers

-- a digit is no `%` and no small letter
abbrev IsGlyph : ℕ → Type 0
IsGlyph byte = (48 ≤ byte) × (byte ≤ 96)

glyph : (n : ℕ) → IsGlyph (digit_glyph false (n % 10))
glyph n = go (nat_lt (n % 10) 10)
  where
    go : (t : Bool) → IsGlyph (if t then 48 + n % 10 else 87 + n % 10)
    go true = (omega arith, omega arith)
    go false = (omega arith, omega arith)

all_glyphs : (k n : ℕ) (rest : List ℕ) → AllByRecursion IsGlyph rest → AllByRecursion IsGlyph (digits_onto k 10 false n rest)
all_glyphs zero n rest h = h
all_glyphs (suc k) n rest h = go (n / 10 == 0) (all_glyphs k (n / 10) (digit_glyph false (n % 10) ∷ rest) (glyph n, h))
  where
    more : List ℕ
    more = digits_onto k 10 false (n / 10) (digit_glyph false (n % 10) ∷ rest)

    go : (t : Bool) → AllByRecursion IsGlyph more → AllByRecursion IsGlyph (if t then digit_glyph false (n % 10) ∷ rest else more)
    go true all = (glyph n, h)
    go false all = all

digits_are_glyphs : (n : ℕ) → AllByRecursion IsGlyph (decimal n)
unfolding digits
digits_are_glyphs n = all_glyphs 64 n [] tt

-- digits are put before what follows
put_before : (k n : ℕ) (rest : List ℕ) → (front : List ℕ) × (digits_onto k 10 false n rest ≡ front ++ rest)
put_before zero n rest = ([], refl)
put_before (suc k) n rest = go (n / 10 == 0) (put_before k (n / 10) (digit_glyph false (n % 10) ∷ rest))
  where
    digit : ℕ
    digit = digit_glyph false (n % 10)

    text : List ℕ
    text = digits_onto k 10 false (n / 10) (digit ∷ rest)

    go : (t : Bool) → (front : List ℕ) × (text ≡ front ++ digit ∷ rest) → (front : List ℕ) × ((if t then digit ∷ rest else text) ≡ front ++ rest)
    go true more = (digit ∷ [], refl)
    go false more = (more.0 ++ digit ∷ [], more.1 ∙ sym (append_assoc more.0 (digit ∷ []) rest))

-- the text of a number ends with a digit
record EndsWithDigit (text : List ℕ) : Type 0 where
  front : List ℕ
  digit : ℕ
  parts : text ≡ front ++ digit ∷ []
  is_glyph : IsGlyph digit

last_digit : (k n : ℕ) → EndsWithDigit (digits_onto (suc k) 10 false n [])
last_digit k n = go (n / 10 == 0)
  where
    digit : ℕ
    digit = digit_glyph false (n % 10)

    go : (t : Bool) → EndsWithDigit (if t then digit ∷ [] else digits_onto k 10 false (n / 10) (digit ∷ []))
    go true = record { front = []; digit = digit; parts = refl; is_glyph = glyph n }
    go false = let more = put_before k (n / 10) (digit ∷ []) in record { front = more.0; digit = digit; parts = more.1; is_glyph = glyph n }

number_ends : (n : ℕ) → EndsWithDigit (decimal n)
unfolding digits
number_ends n = last_digit 63 n

-- ---- a text that ends with the line

-- it ends with the letter `s`
ends_in_s : (w : Delivery) (rest : List ℕ) → byte_at 1 (reverse (said w) ++ rest) ≡ 115
ends_in_s AnyTime rest = refl
ends_in_s AtOnce rest = refl

-- ends with no number
no_number : (w : Delivery) (front : List ℕ) (n : ℕ) (other : List ℕ) → front ++ (decimal n ++ codes "\n") ≡ other ++ said w → ⊥
no_number w front n other e = omega (arith, d.is_glyph.1, ap (byte_at 1) (mirrored (front ++ d.front) (d.digit ∷ codes "\n") other (said w) (joined ∙ e)) ∙ ends_in_s w (reverse other))
  where
    d : EndsWithDigit (decimal n)
    d = number_ends n

    joined : (front ++ d.front) ++ (d.digit ∷ codes "\n") ≡ front ++ (decimal n ++ codes "\n")
    joined = append_assoc front d.front (d.digit ∷ codes "\n") ∙ ap (λ (t : List ℕ). front ++ t) (sym (append_assoc d.front (d.digit ∷ []) (codes "\n")) ∙ ap (λ (t : List ℕ). t ++ codes "\n") (sym d.parts))

-- nor as a report does that is not explained
not_plain : (w : Delivery) (front : List ℕ) (errors : List Finding) (other : List ℕ) → front ++ (codes "result: " ++ (complete_result errors ++ codes "\n")) ≡ other ++ said w → ⊥
not_plain AnyTime front [] other e = omega (arith, ap (byte_at 1) (mirrored front (codes "result: clean\n") other (said AnyTime) e))
not_plain AnyTime front (f ∷ fs) other e = omega (arith, ap (byte_at 2) (mirrored front (codes "result: errors\n") other (said AnyTime) e))
not_plain AtOnce front [] other e = omega (arith, ap (byte_at 1) (mirrored front (codes "result: clean\n") other (said AtOnce) e))
not_plain AtOnce front (f ∷ fs) other e = omega (arith, ap (byte_at 2) (mirrored front (codes "result: errors\n") other (said AtOnce) e))

-- and as an explained one does only where no error counts, the tree is not cut, and it is about such schedules
abbrev line_of : Delivery → ℕ → List Finding → Bool → List ℕ
line_of v depth errors whole =
    codes "result: " ++ ((complete_result errors ++ (if whole then (codes ", all " ++ schedules_by v) else (codes " to depth " ++ decimal depth))) ++ codes "\n")

-- of all schedules of one kind
all_told : (v w : Delivery) (front : List ℕ) (depth : ℕ) (errors : List Finding) (other : List ℕ) → front ++ line_of v depth errors true ≡ other ++ said w → (v ≡ w) × (errors ≡ [])
all_told AnyTime AnyTime front depth [] other e = (refl, refl)
all_told AtOnce AtOnce front depth [] other e = (refl, refl)
all_told AnyTime AnyTime front depth (f ∷ fs) other e = absurd (omega (arith, ap (byte_at 16) (mirrored front (codes "result: errors, all schedules\n") other (said AnyTime) e)))
all_told AtOnce AtOnce front depth (f ∷ fs) other e = absurd (omega (arith, ap (byte_at 23) (mirrored front (codes "result: errors, all prompt schedules\n") other (said AtOnce) e)))
all_told AnyTime AtOnce front depth [] other e = absurd (omega (arith, ap (byte_at 11) (mirrored front (codes "result: clean, all schedules\n") other (said AtOnce) e)))
all_told AnyTime AtOnce front depth (f ∷ fs) other e = absurd (omega (arith, ap (byte_at 11) (mirrored front (codes "result: errors, all schedules\n") other (said AtOnce) e)))
all_told AtOnce AnyTime front depth [] other e = absurd (omega (arith, ap (byte_at 11) (mirrored front (codes "result: clean, all prompt schedules\n") other (said AnyTime) e)))
all_told AtOnce AnyTime front depth (f ∷ fs) other e = absurd (omega (arith, ap (byte_at 11) (mirrored front (codes "result: errors, all prompt schedules\n") other (said AnyTime) e)))

of_all : (v w : Delivery) (front : List ℕ) (depth : ℕ) (errors : List Finding) (cut : ℕ) (whole : Bool) (other : List ℕ) → (cut == 0) ≡ whole → front ++ line_of v depth errors whole ≡ other ++ said w → (v ≡ w) × ((errors ≡ []) × (cut ≡ 0))
of_all v w front depth errors cut true other is e = let told = all_told v w front depth errors other e in (told.0, (told.1, eqb-true cut 0 is))
of_all v w front depth [] cut false other is e =
    absurd (no_number w (front ++ codes "result: clean to depth ") depth other (append_assoc front (codes "result: clean to depth ") (decimal depth ++ codes "\n") ∙ e))
of_all v w front depth (f ∷ fs) cut false other is e =
    absurd (no_number w (front ++ codes "result: errors to depth ") depth other (append_assoc front (codes "result: errors to depth ") (decimal depth ++ codes "\n") ∙ e))

-- four parts, of which the first three are taken together
three_first : (a b c d : List ℕ) → ((a ++ b) ++ c) ++ d ≡ a ++ (b ++ (c ++ d))
three_first a b c d = append_assoc (a ++ b) c d ∙ append_assoc a b (c ++ d)

-- ---- a report as terms

-- it ends with a brace, a full stop and the end of its line
record EndsWithBrace (text : List ℕ) : Type 0 where
  front : List ℕ
  parts : text ≡ front ++ codes "}.\n"

-- as a line of several parts does
brace_last : (a b c d : List ℕ) → EndsWithBrace (a ++ (b ++ (c ++ (d ++ codes "}.\n"))))
brace_last a b c d = record {
  front = ((a ++ b) ++ c) ++ d;
  parts = sym (append_assoc ((a ++ b) ++ c) d (codes "}.\n") ∙ three_first a b c (d ++ codes "}.\n"));
}

-- whatever comes before it
brace_after : (before text : List ℕ) → EndsWithBrace text → EndsWithBrace (before ++ text)
brace_after before text e = record {
  front = before ++ e.front;
  parts = ap (λ (t : List ℕ). before ++ t) e.parts ∙ sym (append_assoc before e.front (codes "}.\n"));
}

-- so it ends where all nodes or states were visited
terms_end : (v : Visited) (a : Program) (n : ℕ) (x : Excuses) (findings : Findings) (extent : Extent) → EndsWithBrace (text_of_terms_report v a n x (Complete findings extent))
terms_end v a n x findings extent =
    subst EndsWithBrace (three_first (explored_line v n outcome) (lines_of_findings a x findings) (counts_line x findings) (result_line n x outcome))
    (brace_after ((explored_line v n outcome ++ lines_of_findings a x findings) ++ counts_line x findings) (result_line n x outcome)
    (brace_last (codes "{result,") (complete_result (counted x findings.errors)) (codes ",") (reach_as_term n extent)))
  where
    outcome : Outcome
    outcome = Complete findings extent

-- and not with the line
not_terms : (w : Delivery) (text other : List ℕ) → EndsWithBrace text → text ≡ other ++ said w → ⊥
not_terms w text other t e = omega (arith, ap (byte_at 1) (mirrored t.front (codes "}.\n") other (said w) (sym t.parts ∙ e)) ∙ ends_in_s w (reverse other))

-- so a report of all nodes or states that ends with the line is clean of all such schedules
pub clean_of_all : (what : Printed) (v : Visited) (w : Delivery) (a : Program) (n : ℕ) (x : Excuses) (findings : Findings) (extent : Extent) (other : List ℕ) → text_of_form what v a n x (Complete findings extent) ≡ other ++ said w
    → (delivery_in v ≡ w) × IsCleanOfAll x (Complete findings extent)
clean_of_all what v w a n x findings extent other e = by what.terms e
  where
    outcome : Outcome
    outcome = Complete findings extent

    go : (b : Bool) → (if b then text_of_explained_report_by v a n x outcome else text_of_report_by v n x outcome) ≡ other ++ said w → (delivery_in v ≡ w) × IsCleanOfAll x outcome
    go true same =
        of_all (delivery_in v) w ((explained_first_line_by v n outcome ++ explained_findings a x findings) ++ text_of_counts x findings) n (counted x findings.errors) extent.cut (extent.cut == 0) other refl
        (three_first (explained_first_line_by v n outcome) (explained_findings a x findings) (text_of_counts x findings) (explained_last_line v n x outcome) ∙ same)
    go false same =
        absurd (not_plain w ((first_line_by v n outcome ++ text_of_all x findings) ++ text_of_counts x findings) (counted x findings.errors) other
        (three_first (first_line_by v n outcome) (text_of_all x findings) (text_of_counts x findings) (last_line x outcome) ∙ same))

    by : (b : Bool) → (if b then text_of_terms_report v a n x outcome else report_as_text what v a n x outcome) ≡ other ++ said w → (delivery_in v ≡ w) × IsCleanOfAll x outcome
    by true same = absurd (not_terms w (text_of_terms_report v a n x outcome) other (terms_end v a n x findings extent) same)
    by false same = go what.explained same

-- ---- the bytes of covers

-- a byte that no line of a cover has, and none but the first two of its mark
record IsStrange (byte : ℕ) : Type 0 where
  process : (80 == byte) ≡ false
  dot : (46 == byte) ≡ false
  to : (62 == byte) ≡ false
  blank : (32 == byte) ≡ false
  line : (10 == byte) ≡ false
  digit : (g : ℕ) → IsGlyph g → (g == byte) ≡ false
  mark : Lacks byte (codes "cover\n")

percent : IsStrange 37
percent = record { process = refl; dot = refl; to = refl; blank = refl; line = refl; digit = λ g is. ne_eqb g 37 (λ e. absurd (omega (arith, is.0, e))); mark = (refl, (refl, (refl, (refl, (refl, (refl, tt)))))) }

-- the letters `h`, `n` and `s`
letter_h : IsStrange 104
letter_h = record { process = refl; dot = refl; to = refl; blank = refl; line = refl; digit = λ g is. ne_eqb g 104 (λ e. absurd (omega (arith, is.1, e))); mark = (refl, (refl, (refl, (refl, (refl, (refl, tt)))))) }

letter_n : IsStrange 110
letter_n = record { process = refl; dot = refl; to = refl; blank = refl; line = refl; digit = λ g is. ne_eqb g 110 (λ e. absurd (omega (arith, is.1, e))); mark = (refl, (refl, (refl, (refl, (refl, (refl, tt)))))) }

letter_s : IsStrange 115
letter_s = record { process = refl; dot = refl; to = refl; blank = refl; line = refl; digit = λ g is. ne_eqb g 115 (λ e. absurd (omega (arith, is.1, e))); mark = (refl, (refl, (refl, (refl, (refl, (refl, tt)))))) }

lacks-number : (byte : ℕ) → IsStrange byte → (n : ℕ) → Lacks byte (decimal n)
lacks-number byte is n = all_weaker IsGlyph (λ b. (b == byte) ≡ false) is.digit (decimal n) (digits_are_glyphs n)

lacks-numbers : (byte : ℕ) → IsStrange byte → (ns : List ℕ) → Lacks byte (flat_map dotted ns)
lacks-numbers byte is [] = tt
lacks-numbers byte is (n ∷ ns) = (is.dot, all-append _ (decimal n) (flat_map dotted ns) (lacks-number byte is n) (lacks-numbers byte is ns))

lacks-step : (byte : ℕ) → IsStrange byte → (s : Step) → Lacks byte (text_of_step s)
lacks-step byte is (Turn p) = (is.process, lacks-numbers byte is p)
lacks-step byte is (Deliver from to) = all-append _ (text_of_pid from) (62 ∷ text_of_pid to) (is.process, lacks-numbers byte is from) (is.to, (is.process, lacks-numbers byte is to))

lacks-schedule : (byte : ℕ) → IsStrange byte → (steps : List Step) → Lacks byte (text_of_schedule steps)
lacks-schedule byte is [] = tt
lacks-schedule byte is (s ∷ []) = lacks-step byte is s
lacks-schedule byte is (s ∷ t ∷ steps) = all-append _ (text_of_step s) (32 ∷ text_of_schedule (t ∷ steps)) (lacks-step byte is s) (is.blank, lacks-schedule byte is (t ∷ steps))

lacks-lines : (byte : ℕ) → IsStrange byte → (lines : Lines) → Lacks byte (text_of_lines lines)
lacks-lines byte is [] = tt
lacks-lines byte is (line ∷ lines) =
    all-append _ (text_of_schedule line ++ 10 ∷ []) (text_of_lines lines) (all-append _ (text_of_schedule line) (10 ∷ []) (lacks-schedule byte is line) (is.line, tt)) (lacks-lines byte is lines)

-- what comes after the first two bytes of the mark
abbrev rest_of : Lines → List ℕ
rest_of lines = codes "cover\n" ++ text_of_lines lines

lacks-rest : (byte : ℕ) → IsStrange byte → (lines : Lines) → Lacks byte (rest_of lines)
lacks-rest byte is lines = all-append _ (codes "cover\n") (text_of_lines lines) is.mark (lacks-lines byte is lines)

-- ---- the last byte of a kind

not_there : (byte : ℕ) (c d : List ℕ) → Lacks byte (c ++ byte ∷ d) → ⊥
not_there byte [] d l = true≢false (sym (eq-eqb byte byte refl) ∙ l.0)
not_there byte (x ∷ c) d l = not_there byte c d l.1

-- is at one place
one_place : (byte : ℕ) (a c b d : List ℕ) → Lacks byte b → Lacks byte d → a ++ byte ∷ b ≡ c ++ byte ∷ d → a ≡ c
one_place byte [] [] b d l m e = refl
one_place byte [] (y ∷ c) b d l m e =
    let same : b ≡ c ++ byte ∷ d = cc in
    absurd (not_there byte c d (subst (Lacks byte) same l))
one_place byte (x ∷ a) [] b d l m e =
    let same : d ≡ a ++ byte ∷ b = cc in
    absurd (not_there byte a b (subst (Lacks byte) same m))
one_place byte (x ∷ a) (y ∷ c) b d l m e =
    let first : x ≡ y = cc in
    let same : a ++ byte ∷ b ≡ c ++ byte ∷ d = cc in
    let more : a ≡ c = one_place byte a c b d l m same in
    λ i. first i ∷ more i

-- and of two kinds one comes after the other
not_both : (byte other : ℕ) (a c b d : List ℕ) → (byte ≡ other → ⊥) → Lacks other b → Lacks byte d → a ++ byte ∷ b ≡ c ++ other ∷ d → ⊥
not_both byte other [] [] b d differ l m e = differ cc
not_both byte other [] (y ∷ c) b d differ l m e =
    let same : b ≡ c ++ other ∷ d = cc in
    not_there other c d (subst (Lacks other) same l)
not_both byte other (x ∷ a) [] b d differ l m e =
    let same : d ≡ a ++ byte ∷ b = cc in
    not_there byte a b (subst (Lacks byte) same m)
not_both byte other (x ∷ a) (y ∷ c) b d differ l m e =
    let same : a ++ byte ∷ b ≡ c ++ other ∷ d = cc in
    not_both byte other a c b d differ l m same

-- ---- a text that ends as no cover does: with a strange letter, after which no mark comes

pub record EndsStrangely (text : List ℕ) : Type 0 where
  front : List ℕ
  letter : ℕ
  end : List ℕ
  parts : text ≡ front ++ letter ∷ end
  is_strange : IsStrange letter
  is_letter : 96 < letter
  no_mark : Lacks 37 end

-- whatever comes before it
after : (front text : List ℕ) → EndsStrangely text → EndsStrangely (front ++ text)
after front text e = record {
  front = front ++ e.front;
  letter = e.letter;
  end = e.end;
  parts = ap (λ (t : List ℕ). front ++ t) e.parts ∙ sym (append_assoc front e.front (e.letter ∷ e.end));
  is_strange = e.is_strange;
  is_letter = e.is_letter;
  no_mark = e.no_mark;
}

no_cover : (text other : List ℕ) (lines : Lines) → EndsStrangely text → text ≡ other ++ text_of_cover lines → ⊥
no_cover text other lines s e =
    not_both 37 s.letter other s.front (37 ∷ rest_of lines) s.end (λ same. omega (arith, s.is_letter, same)) (ne_eqb 37 s.letter (λ same. absurd (omega (arith, s.is_letter, same))), lacks-rest s.letter s.is_strange lines) s.no_mark (sym e ∙ s.parts)

line_end : Lacks 37 (codes "\n")
line_end = (refl, tt)

-- a closing brace
brace : IsStrange 125
brace = record { process = refl; dot = refl; to = refl; blank = refl; line = refl; digit = λ g is. ne_eqb g 125 (λ e. absurd (omega (arith, is.1, e))); mark = (refl, (refl, (refl, (refl, (refl, (refl, tt)))))) }

brace_ends : (text : List ℕ) → EndsWithBrace text → EndsStrangely text
brace_ends text e = record { front = e.front; letter = 125; end = codes ".\n"; parts = e.parts; is_strange = brace; is_letter = omega arith; no_mark = (refl, line_end) }

said_ends : (w : Delivery) → EndsStrangely (said w)
said_ends AnyTime = record { front = codes "result: clean, all schedule"; letter = 115; end = codes "\n"; parts = refl; is_strange = letter_s; is_letter = omega arith; no_mark = line_end }
said_ends AtOnce = record { front = codes "result: clean, all prompt schedule"; letter = 115; end = codes "\n"; parts = refl; is_strange = letter_s; is_letter = omega arith; no_mark = line_end }

plain_ends : (errors : List Finding) → EndsStrangely (codes "result: " ++ (complete_result errors ++ codes "\n"))
plain_ends [] = record { front = codes "result: clea"; letter = 110; end = codes "\n"; parts = refl; is_strange = letter_n; is_letter = omega arith; no_mark = line_end }
plain_ends (f ∷ fs) = record { front = codes "result: error"; letter = 115; end = codes "\n"; parts = refl; is_strange = letter_s; is_letter = omega arith; no_mark = line_end }

explained_ends : (v : Delivery) (depth : ℕ) (errors : List Finding) (whole : Bool) → EndsStrangely (line_of v depth errors whole)
explained_ends AnyTime depth [] true = said_ends AnyTime
explained_ends AtOnce depth [] true = said_ends AtOnce
explained_ends v depth [] false = record {
  front = codes "result: clean to dept";
  letter = 104;
  end = 32 ∷ (decimal depth ++ codes "\n");
  parts = refl;
  is_strange = letter_h;
  is_letter = omega arith;
  no_mark = (refl, all-append _ (decimal depth) (codes "\n") (lacks-number 37 percent depth) line_end);
}
explained_ends AtOnce depth (f ∷ fs) true = record { front = codes "result: errors, all prompt schedule"; letter = 115; end = codes "\n"; parts = refl; is_strange = letter_s; is_letter = omega arith; no_mark = line_end }
explained_ends AnyTime depth (f ∷ fs) true = record { front = codes "result: errors, all schedule"; letter = 115; end = codes "\n"; parts = refl; is_strange = letter_s; is_letter = omega arith; no_mark = line_end }
explained_ends v depth (f ∷ fs) false = record {
  front = codes "result: errors to dept";
  letter = 104;
  end = 32 ∷ (decimal depth ++ codes "\n");
  parts = refl;
  is_strange = letter_h;
  is_letter = omega arith;
  no_mark = (refl, all-append _ (decimal depth) (codes "\n") (lacks-number 37 percent depth) line_end);
}

-- so ends a report of all nodes
pub report_ends : (what : Printed) (v : Visited) (a : Program) (n : ℕ) (x : Excuses) (findings : Findings) (extent : Extent) → EndsStrangely (text_of_form what v a n x (Complete findings extent))
report_ends what v a n x findings extent = by what.terms
  where
    outcome : Outcome
    outcome = Complete findings extent

    go : (b : Bool) → EndsStrangely (if b then text_of_explained_report_by v a n x outcome else text_of_report_by v n x outcome)
    go true =
        subst EndsStrangely (three_first (explained_first_line_by v n outcome) (explained_findings a x findings) (text_of_counts x findings) (explained_last_line v n x outcome))
        (after ((explained_first_line_by v n outcome ++ explained_findings a x findings) ++ text_of_counts x findings) (explained_last_line v n x outcome) (explained_ends (delivery_in v) n (counted x findings.errors) (extent.cut == 0)))
    go false =
        subst EndsStrangely (three_first (first_line_by v n outcome) (text_of_all x findings) (text_of_counts x findings) (last_line x outcome))
        (after ((first_line_by v n outcome ++ text_of_all x findings) ++ text_of_counts x findings) (last_line x outcome) (plain_ends (counted x findings.errors)))

    by : (b : Bool) → EndsStrangely (if b then text_of_terms_report v a n x outcome else report_as_text what v a n x outcome)
    by true = brace_ends (text_of_terms_report v a n x outcome) (terms_end v a n x findings extent)
    by false = go what.explained

-- ---- what comes before a cover

one_cover : (front other : List ℕ) (lines others : Lines) → front ++ text_of_cover lines ≡ other ++ text_of_cover others → front ≡ other
one_cover front other lines others e =
    append_cancel_right front other (37 ∷ [])
    (one_place 37 (front ++ 37 ∷ []) (other ++ 37 ∷ []) (rest_of lines) (rest_of others) (lacks-rest 37 percent lines) (lacks-rest 37 percent others)
    (append_assoc front (37 ∷ []) (37 ∷ rest_of lines) ∙ e ∙ sym (append_assoc other (37 ∷ []) (37 ∷ rest_of others))))

-- a report, whether or not a cover follows, is what ends with the line, whether or not a cover follows
pub before_cover : (w : Delivery) (c : Bool) (a : Program) (n : ℕ) (report other : List ℕ) (cover : Option Lines) → EndsStrangely report → report ++ cover_if c a n ≡ other ++ (said w ++ text_after cover) → report ≡ other ++ said w
before_cover w false a n report other None ends e = sym (append-nil report) ∙ e ∙ ap (λ (l : List ℕ). other ++ l) (append-nil (said w))
before_cover w false a n report other (Some lines) ends e = absurd (no_cover report (other ++ said w) lines ends (sym (append-nil report) ∙ e ∙ sym (append_assoc other (said w) (text_of_cover lines))))
before_cover w true a n report other None ends e =
    absurd (no_cover (other ++ said w) report (lines_of (cover_of a n root)) (after other (said w) (said_ends w)) (sym (e ∙ ap (λ (l : List ℕ). other ++ l) (append-nil (said w)))))
before_cover w true a n report other (Some lines) ends e = one_cover report (other ++ said w) (lines_of (cover_of a n root)) lines (e ∙ sym (append_assoc other (said w) (text_of_cover lines)))
