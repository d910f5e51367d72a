-- The texts of processes, and the processes that are read of one.
use Rattle.std.proofs.Common.{◌≡◌, ◌==◌, ℕ, ◌≤◌, ◌<◌, false, List, [], ◌∷◌, ◌++◌, length, ap, ap₂, sym, refl, ◌∙◌, arith, ne_eqb, append_assoc, append-nil}
use Rattle.std.specs.List.{AllByRecursion}
use Rattle.term_core.proofs.NumberTexts.{IsDigit, all_digits-decimal}
use Rattle.term_core.proofs.Pieces.{Begins, front-append, front-append-behind, behind-append, one_cut, all-append, all_weaker}
use Rattle.std.specs.Fmt.{decimal}
use Rattle.term_core.specs.Text.{text_of_pid}
use Rattle.term_reader.proofs.DottedTexts.{numbers_injective}
use Rattle.term_reader.specs.Lawful.{AreNumbers}
use Rattle.term_reader.specs.inside.Leaves.{text_of_numbers}
use Rattle.world_model.specs.Names.{Pid}
use Rattle.report_identities.specs.inside.Cuts.{Lacks, behind, front}
use Rattle.report_identities.specs.inside.Reading.{text_of_processes}

-- ---- one process

-- bytes after the `P` are dots and digits
abbrev IsPidByte : ℕ → Type 0
IsPidByte b = (46 ≤ b) × (b ≤ 57)

pid_bytes : (ns : List ℕ) → AreNumbers ns → AllByRecursion IsPidByte (text_of_numbers ns)
pid_bytes [] h = tt
pid_bytes (n ∷ ns) h =
    let digits = all_weaker IsDigit IsPidByte (λ b d. (omega arith, omega arith)) (decimal n) (all_digits-decimal n h.0) in
    ((omega arith, omega arith), all-append IsPidByte (decimal n) (text_of_numbers ns) digits (pid_bytes ns h.1))

-- so the text of a process has no byte that is less than the dot
pub lacks-pid : (mark : ℕ) → mark < 46 → (p : Pid) → AreNumbers p → Lacks mark (text_of_pid p)
lacks-pid mark low p h = (
  ne_eqb 80 mark (λ e. absurd (omega arith)),
  all_weaker IsPidByte (λ b. (b == mark) ≡ false) (λ b d. ne_eqb b mark (λ e. absurd (omega arith))) (text_of_numbers p) (pid_bytes p h),
)

-- two processes with one text are one
pub pid_injective : (p q : Pid) → AreNumbers p → AreNumbers q → text_of_pid p ≡ text_of_pid q → p ≡ q
pid_injective p q h k e = numbers_injective p q h k (cc)

-- ---- processes after blanks

pub processes_begin : (ps : List Pid) → Begins 32 (text_of_processes ps)
processes_begin [] = tt
processes_begin (p ∷ ps) = refl

-- The processes that were read of a text are lawful, the rest follows them, and where the text is that
-- of such processes, the rest is the text of some of them.
pub record ReadsProcesses (text : List ℕ) (processes : List Pid) (rest : List ℕ) : Type 0 where
  pub lawful : AllByRecursion AreNumbers processes
  pub parts : text ≡ text_of_processes processes ++ rest
  pub left : (ps : List Pid) → AllByRecursion AreNumbers ps → text ≡ text_of_processes ps → (qs : List Pid) × AllByRecursion AreNumbers qs × (rest ≡ text_of_processes qs)

pub reads_none : (text : List ℕ) → ReadsProcesses text [] text
reads_none text = record { lawful = tt; parts = refl; left = λ ps h e. (ps, h, e) }

-- the first of the processes that this text writes after its blank, and the rest of them
record Next (tail : List ℕ) : Type 0 where
  process : Pid
  others : List Pid
  lawful : AreNumbers process
  all : AllByRecursion AreNumbers others
  word : front 32 tail ≡ text_of_pid process
  rest : behind 32 tail ≡ text_of_processes others

next_of : (b : ℕ) (tail : List ℕ) (ps : List Pid) → AllByRecursion AreNumbers ps → b ∷ tail ≡ text_of_processes ps → (b ≡ 32) × Next tail
next_of b tail [] h e = cc
next_of b tail (p ∷ ps) h e =
    let whole : b ∷ tail ≡ 32 ∷ (text_of_pid p ++ text_of_processes ps) = e in
    let same : tail ≡ text_of_pid p ++ text_of_processes ps = cc in
    let lacks = lacks-pid 32 (omega arith) p h.0 in (
      cc,
      record {
        process = p;
        others = ps;
        lawful = h.0;
        all = h.1;
        word = ap (front 32) same ∙ front-append 32 (text_of_pid p) (text_of_processes ps) lacks (processes_begin ps);
        rest = ap (behind 32) same ∙ behind-append 32 (text_of_pid p) (text_of_processes ps) lacks (processes_begin ps);
      },
    )

next_in : (text : List ℕ) (processes : List Pid) (tail : List ℕ) (b : ℕ) → ReadsProcesses text processes (b ∷ tail) → (ps : List Pid) → AllByRecursion AreNumbers ps → text ≡ text_of_processes ps → (b ≡ 32) × Next tail
next_in text processes tail b r ps h e = let l = r.left ps h e in next_of b tail l.0 l.1 l.2

processes-push : (ps : List Pid) (p : Pid) (rest : List ℕ) → text_of_processes (ps ++ p ∷ []) ++ rest ≡ text_of_processes ps ++ 32 ∷ (text_of_pid p ++ rest)
processes-push [] p rest = ap (λ w. 32 ∷ (w ++ rest)) (append-nil (text_of_pid p))
processes-push (q ∷ ps) p rest =
    append_assoc (32 ∷ text_of_pid q) (text_of_processes (ps ++ p ∷ [])) rest
    ∙ ap (λ t. (32 ∷ text_of_pid q) ++ t) (processes-push ps p rest)
    ∙ sym (append_assoc (32 ∷ text_of_pid q) (text_of_processes ps) (32 ∷ (text_of_pid p ++ rest)))

-- one more process
pub reads_more : (text : List ℕ) (processes : List Pid) (tail : List ℕ) (p : Pid) → ReadsProcesses text processes (32 ∷ tail) → AreNumbers p → front 32 tail ≡ text_of_pid p → ReadsProcesses text (processes ++ p ∷ []) (behind 32 tail)
reads_more text processes tail p r h e =
    let cut : tail ≡ text_of_pid p ++ behind 32 tail = sym (front-append-behind 32 tail) ∙ ap (λ w. w ++ behind 32 tail) e in
    record {
      lawful = all-append AreNumbers processes (p ∷ []) r.lawful (h, tt);
      parts = r.parts ∙ ap (λ t. text_of_processes processes ++ 32 ∷ t) cut ∙ sym (processes-push processes p (behind 32 tail));
      left = λ ps l f. let next = (next_in text processes tail 32 r ps l f).1 in (next.others, next.all, next.rest);
    }

-- no processes where no blank follows
pub no_blank : (text : List ℕ) (processes : List Pid) (tail : List ℕ) (b : ℕ) → ReadsProcesses text processes (b ∷ tail) → (b ≡ 32 → ⊥) → (ps : List Pid) → AllByRecursion AreNumbers ps → text ≡ text_of_processes ps → ⊥
no_blank text processes tail b r other ps h e = other (next_in text processes tail b r ps h e).0

-- and what holds of the process with the text that follows the blank
pub next_word : (text : List ℕ) (processes : List Pid) (tail : List ℕ) (X : Type 0) → ReadsProcesses text processes (32 ∷ tail) → ((p : Pid) → AreNumbers p → front 32 tail ≡ text_of_pid p → X) → (ps : List Pid) → AllByRecursion AreNumbers ps → text ≡ text_of_processes ps → X
next_word text processes tail X r only ps h e = let next = (next_in text processes tail 32 r ps h e).1 in only next.process next.lawful next.word

-- lists of processes with one text are the same
pub processes_injective : (ps qs : List Pid) → AllByRecursion AreNumbers ps → AllByRecursion AreNumbers qs → text_of_processes ps ≡ text_of_processes qs → ps ≡ qs
processes_injective [] [] h k e = refl
processes_injective [] (q ∷ qs) h k e = let none : [] ≡ 32 ∷ (text_of_pid q ++ text_of_processes qs) = e in cc
processes_injective (p ∷ ps) [] h k e = let none : 32 ∷ (text_of_pid p ++ text_of_processes ps) ≡ [] = e in cc
processes_injective (p ∷ ps) (q ∷ qs) h k e =
    let whole : 32 ∷ (text_of_pid p ++ text_of_processes ps) ≡ 32 ∷ (text_of_pid q ++ text_of_processes qs) = e in
    let lacks = lacks-pid 32 (omega arith) in
    let same = one_cut 32 (text_of_pid p) (text_of_processes ps) (text_of_pid q) (text_of_processes qs) (lacks p h.0) (processes_begin ps) (lacks q k.0) (processes_begin qs) (cc) in
    ap₂ ◌∷◌ (pid_injective p q h.0 k.0 same.0) (processes_injective ps qs h.1 k.1 same.1)

-- at least one process has a text
pub some_text : (ps : List Pid) → 0 < length ps → [] ≡ text_of_processes ps → ⊥
some_text [] some e = omega arith
some_text (p ∷ ps) some e = let none : [] ≡ 32 ∷ (text_of_pid p ++ text_of_processes ps) = e in cc
