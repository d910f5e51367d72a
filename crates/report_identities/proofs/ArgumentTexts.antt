-- The texts of arguments: they are what is between the braces of a tuple.
use Rattle.std.proofs.Common.{Global, ◌≡◌, inl, inr, ℕ, ◌<◌, List, [], ◌∷◌, ◌++◌, ap, sym, refl, ◌∙◌, arith, append_assoc}
use Rattle.std.proofs.lemmas.Bool.{cases_lt}
use Rattle.std.proofs.lemmas.List.{append_cancel_right}
use Rattle.std.specs.List.{AllByRecursion}
use Rattle.std.specs.declared.sync.Arc.{Arc}
use Rattle.term_core.specs.Meaning.{Meaning, Meanings, Pid, Tuple, meanings_of, node_count, parts_of, parts_of-meanings_of}
use Rattle.term_core.specs.Term.{meaning_of}
use Rattle.term_core.specs.declared.term.Term.{Term}
use Rattle.term_core.specs.declared.term.Term.TheVariants as declared
use Rattle.term_core.specs.declared.term.Terms.{Terms}
use Rattle.term_core.specs.TermText.{text_of_others, text_of_term}
use Rattle.term_reader.proofs.Heights.{height_below_nodes}
use Rattle.term_reader.proofs.OneTerm.{term_injective}
use Rattle.term_reader.specs.Height.{height, height_over}
use Rattle.term_reader.specs.Lawful.{AreLawful, IsLawful}
use Rattle.world_model.specs.Names.{IsAmong}
use Rattle.world_event_text.specs.CallText.{text_of_arguments}
use Rattle.report_identities.specs.Lawful.{MayRefuse}
use Rattle.report_identities.specs.declared.fault.IdentityFault.{IdentityFault}
use Rattle.report_identities.specs.declared.fault.IdentityFault.TheVariants.{BadIdentity, TooDeep, Memory}

tuple_text : (arguments : List Meaning) → text_of_term (Tuple (meanings_of arguments)) ≡ 123 ∷ (text_of_arguments arguments ++ 125 ∷ [])
tuple_text [] = refl
tuple_text (a ∷ []) = refl
tuple_text (a ∷ b ∷ arguments) =
    let rest : 123 ∷ (text_of_term b ++ text_of_others (meanings_of arguments)) ≡ 123 ∷ (text_of_arguments (b ∷ arguments) ++ 125 ∷ []) = tuple_text (b ∷ arguments) in
    let same : text_of_term b ++ text_of_others (meanings_of arguments) ≡ text_of_arguments (b ∷ arguments) ++ 125 ∷ [] = cc in
    ap (λ w. 123 ∷ (text_of_term a ++ 44 ∷ w)) same ∙ ap (λ w. 123 ∷ w) (sym (append_assoc (text_of_term a) (44 ∷ text_of_arguments (b ∷ arguments)) (125 ∷ [])))

-- the text between braces is that of a tuple, where it is that of arguments
pub tuple_is : (text bytes : List ℕ) (arguments : List Meaning) → bytes ≡ 123 ∷ (text ++ 125 ∷ []) → text ≡ text_of_arguments arguments → bytes ≡ text_of_term (Tuple (meanings_of arguments))
tuple_is text bytes arguments e f = e ∙ ap (λ w. 123 ∷ (w ++ 125 ∷ [])) f ∙ sym (tuple_text arguments)

-- and the other way round
pub arguments_are : (text bytes : List ℕ) (arguments : List Meaning) → bytes ≡ 123 ∷ (text ++ 125 ∷ []) → bytes ≡ text_of_term (Tuple (meanings_of arguments)) → text ≡ text_of_arguments arguments
arguments_are text bytes arguments e f =
    let whole : 123 ∷ (text ++ 125 ∷ []) ≡ 123 ∷ (text_of_arguments arguments ++ 125 ∷ []) = sym e ∙ f ∙ tuple_text arguments in
    append_cancel_right text (text_of_arguments arguments) (125 ∷ []) cc

pub are_lawful : (arguments : List Meaning) → AllByRecursion IsLawful arguments → AreLawful (meanings_of arguments)
are_lawful [] h = tt
are_lawful (a ∷ arguments) h = (h.0, are_lawful arguments h.1)

pub all_lawful : (arguments : List Meaning) → AreLawful (meanings_of arguments) → AllByRecursion IsLawful arguments
all_lawful [] h = tt
all_lawful (a ∷ arguments) h = (h.0, all_lawful arguments h.1)

-- arguments with one text are the same
pub one_list : (xs ys : List Meaning) → AllByRecursion IsLawful xs → AllByRecursion IsLawful ys → text_of_arguments xs ≡ text_of_arguments ys → xs ≡ ys
one_list xs ys h k e =
    let texts = tuple_text xs ∙ ap (λ w. 123 ∷ (w ++ 125 ∷ [])) e ∙ sym (tuple_text ys) in
    let tuples = term_injective (Tuple (meanings_of xs)) (Tuple (meanings_of ys)) (are_lawful xs h) (are_lawful ys k) texts in
    let parts : meanings_of xs ≡ meanings_of ys = cc in
    sym (parts_of-meanings_of xs) ∙ ap parts_of parts ∙ parts_of-meanings_of ys

-- a term with this text is the only one
pub same_term : (text : List ℕ) (m n : Meaning) → IsLawful m → IsLawful n → text ≡ text_of_term m → text ≡ text_of_term n → m ≡ n
same_term text m n h k e f = term_injective m n h k (sym e ∙ f)

-- what is no process in code means none
pub no_pid : (term : Term) (p : List ℕ) → ((x : List ℕ) → term ≡ declared.Pid x → ⊥) → meaning_of term ≡ Pid p → ⊥
no_pid (declared.Int n) p none e = cc
no_pid (declared.Atom a) p none e = cc
no_pid (declared.Ref r) p none e = cc
no_pid (declared.Pid x) p none e = none x refl
no_pid (declared.Tuple parts) p none e = cc
no_pid declared.Nil p none e = cc
no_pid (declared.Cons pair) p none e = cc

-- nor is what is no tuple
pub no_tuple : (term : Term) (parts : Meanings) → ((x : Arc Terms Global) → term ≡ declared.Tuple x → ⊥) → meaning_of term ≡ Tuple parts → ⊥
no_tuple (declared.Int n) parts none e = cc
no_tuple (declared.Atom a) parts none e = cc
no_tuple (declared.Ref r) parts none e = cc
no_tuple (declared.Pid x) parts none e = cc
no_tuple (declared.Tuple x) parts none e = none x refl
no_tuple declared.Nil parts none e = cc
no_tuple (declared.Cons pair) parts none e = cc

-- a process is refused for lack of memory alone
pub only_memory : (fault : IdentityFault) → MayRefuse 0 fault → fault ≡ Memory
only_memory BadIdentity h = absurd h
only_memory TooDeep h = absurd (omega (arith, h))
only_memory Memory h = refl

-- one of several terms that are higher than 10,000 together has more than 10,000 nodes
pub record HasLarge (arguments : List Meaning) : Type 0 where
  pub term : Meaning
  pub among : IsAmong term arguments
  pub large : 10000 < node_count term

pub large_argument : (arguments : List Meaning) → 10000 < height_over (meanings_of arguments) → HasLarge arguments
large_argument [] h = absurd (omega (arith, h))
large_argument (a ∷ arguments) h = elim (cases_lt 9999 (height a)) [
  | inl high ↦ record { term = a; among = inl refl; large = omega (arith, high, height_below_nodes a) }
  | inr low ↦ let rest = large_argument arguments (omega (arith, h, low)) in record { term = rest.term; among = inr rest.among; large = rest.large }
]
