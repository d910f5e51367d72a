-- What a part of the records says of the cells is a matter of its own sorts of cells.
use Rattle.std.proofs.Common.{◌≡◌, ◌∙◌, ◌||◌, Bool, true, false, ℕ, List, [], ◌∷◌, ◌++◌, refl, sym, ap, subst, drop, true≢false}
use Rattle.std.proofs.lemmas.Bool.{eqb-true}
use Rattle.std.specs.List.{list_any}
use Rattle.std.specs.Prelude.{◌==◌, ◌≤◌, ◌&&◌, not, length}
use Rattle.std.specs.FinMap.{get}
use Rattle.core_tree.specs.Syntax.{ModuleTree}
use Rattle.world_model.specs.Cells as cells
use Rattle.world_model.specs.Cells.{Cell, Contents}
use Rattle.world_model.specs.Changes.{Change, after}
use Rattle.world_model.specs.Mailboxes.{left_of}
use Rattle.world_model.specs.Rows.{some_if}
use Rattle.world_model.proofs.Commuting.{stays}
use Rattle.world_model.proofs.SortLaws.{AllAmong, untouched_by}
use Rattle.world_model.proofs.Sorts.{is_among, sort_of}
use Rattle.proc_links.specs.Guards.{AreGuards}
use Rattle.proc_links.specs.Links.{AreLinks}
use Rattle.proc_links.specs.Names.{AreHolders, AreListed, AreBorne}
use Rattle.proc_links.specs.Watchers.{AreWatchers, AreWatches}
use Rattle.proc_links.specs.declared.guards.Guards.{Guards}
use Rattle.proc_links.specs.declared.links.Links.{Links}
use Rattle.proc_links.specs.declared.names.Names.{Names}
use Rattle.proc_links.specs.declared.watchers.Watchers.{Watchers}
use Rattle.proc_machines.specs.Courses.{StandsAs}
use Rattle.proc_machines.specs.Processes as processes
use Rattle.proc_machines.specs.Processes.{standing_in}
use Rattle.proc_machines.specs.declared.processes.Processes.{Processes}
use Rattle.proc_mailboxes.specs.Mailboxes.{AreMailboxes, Mailboxes}
use Rattle.proc_signals.specs.Channels.{AreChannels, Senders}
use Rattle.ets_rules.specs.Tables.{Hold}
use Rattle.ets_rules.specs.declared.tables.Tables.{Tables}

-- ---- sorts

abbrev pub of_processes : List ℕ
of_processes = 0 ∷ 1 ∷ 2 ∷ []

abbrev pub of_mailboxes : List ℕ
of_mailboxes = 3 ∷ 15 ∷ []

abbrev pub of_channels : List ℕ
of_channels = 4 ∷ 5 ∷ []

abbrev pub of_links : List ℕ
of_links = 6 ∷ []

abbrev pub of_watches : List ℕ
of_watches = 7 ∷ 8 ∷ []

abbrev pub of_guards : List ℕ
of_guards = 16 ∷ []

abbrev pub of_names : List ℕ
of_names = 9 ∷ 10 ∷ []

abbrev pub of_tables : List ℕ
of_tables = 11 ∷ 12 ∷ 13 ∷ 14 ∷ []

-- two contents are the same in the cells of these sorts
abbrev pub Same : List ℕ → Contents → Contents → Type 0
Same sorts v w = (c : Cell) → is_among sorts c ≡ true → w c ≡ v c

abbrev pub are_apart : List ℕ → List ℕ → Bool
are_apart [] others = true
are_apart (n ∷ ns) others = not (list_any (λ k. k == n) others) && are_apart ns others

first_apart : (a b : Bool) → not a && b ≡ true → a ≡ false
first_apart false b e = refl
first_apart true b e = absurd (true≢false (sym e))

rest_apart : (a b : Bool) → not a && b ≡ true → b ≡ true
rest_apart false b e = e
rest_apart true b e = absurd (true≢false (sym e))

by_head : (n : ℕ) (ns others : List ℕ) (c : Cell) (b : Bool) → (n == sort_of c) ≡ b → are_apart (n ∷ ns) others ≡ true → (is_among ns c ≡ true → is_among others c ≡ false) → (b || is_among ns c) ≡ true → is_among others c ≡ false
by_head n ns others c true is apart rest e = subst (λ x. list_any (λ k. k == x) others ≡ false) (eqb-true n (sort_of c) is) (first_apart (list_any (λ k. k == n) others) (are_apart ns others) apart)
by_head n ns others c false is apart rest e = rest e

among_apart : (mine others : List ℕ) (c : Cell) → are_apart mine others ≡ true → is_among mine c ≡ true → is_among others c ≡ false
among_apart [] others c apart here = absurd (true≢false (sym here))
among_apart (n ∷ ns) others c apart here = by_head n ns others c (n == sort_of c) refl apart (among_apart ns others c (rest_apart (list_any (λ k. k == n) others) (are_apart ns others) apart)) here

-- changes of other sorts leave the cells of these as they are
pub same_after : (mine others : List ℕ) (ks : List Change) (v : Contents) → AllAmong others ks → are_apart mine others ≡ true → Same mine v (after ks v)
same_after mine others ks v all apart c here = stays ks v c (untouched_by others ks c all (among_apart mine others c apart here))

-- ---- the parts

pub processes_same : (m : ModuleTree) (ps : Processes) (v w : Contents) → Same of_processes v w → processes.Agrees m ps v → processes.Agrees m ps w
processes_same m ps v w same told = record {
  program = told.program;
  alive = λ p. told.alive p ∙ sym (same (cells.Alive p) refl);
  trap = λ p. told.trap p ∙ sym (same (cells.Trap p) refl);
  turns = λ p. told.turns p ∙ sym (ap (λ c. c.turns) (same (cells.Machine p) refl));
  stands = λ p lives. subst (λ c. StandsAs m p c (standing_in ps p)) (sym (same (cells.Machine p) refl)) (told.stands p lives);
  gone = told.gone;
}

pub mailboxes_same : (boxes : Mailboxes) (v w : Contents) → Same of_mailboxes v w → AreMailboxes boxes v → AreMailboxes boxes w
mailboxes_same boxes v w same told p = record {
  left = (told p).left ∙ (λ i. left_of (taken i) (mailed i));
  behind = λ more. sym (λ i. left_of (taken i) (mailed i ++ more)) ∙ (told p).behind more;
} where
  taken : v (cells.Taken p) ≡ w (cells.Taken p)
  taken = sym (same (cells.Taken p) refl)

  mailed : v (cells.Mailed p) ≡ w (cells.Mailed p)
  mailed = sym (same (cells.Mailed p) refl)

pub channels_same : (channels : Senders) (v w : Contents) → Same of_channels v w → AreChannels channels v → AreChannels channels w
channels_same channels v w same told s r = record {
  waiting = (told s r).waiting ∙ (λ i. drop (front i) (tail i));
  counted = subst (λ n. n ≤ length (w (cells.Tail s r))) front (subst (λ xs. v (cells.Front s r) ≤ length xs) tail (told s r).counted);
} where
  front : v (cells.Front s r) ≡ w (cells.Front s r)
  front = sym (same (cells.Front s r) refl)

  tail : v (cells.Tail s r) ≡ w (cells.Tail s r)
  tail = sym (same (cells.Tail s r) refl)

pub links_same : (links : Links) (v w : Contents) → Same of_links v w → AreLinks links v → AreLinks links w
links_same links v w same told p = told p ∙ sym (same (cells.Links p) refl)

pub watchers_same : (watchers : Watchers) (v w : Contents) → Same of_watches v w → AreWatchers watchers v → AreWatchers watchers w
watchers_same watchers v w same told p = told p ∙ sym (same (cells.Watchers p) refl)

pub watches_same : (watchers : Watchers) (v w : Contents) → Same of_watches v w → AreWatches watchers v → AreWatches watchers w
watches_same watchers v w same told ref = told ref ∙ sym (same (cells.Watch ref) refl)

pub guards_same : (guards : Guards) (v w : Contents) → Same of_guards v w → AreGuards guards v → AreGuards guards w
guards_same guards v w same told ref = told ref ∙ sym (same (cells.Guard ref) refl)

pub holders_same : (names : Names) (v w : Contents) → Same of_names v w → AreHolders names v → AreHolders names w
holders_same names v w same told name = told name ∙ sym (same (cells.Holder name) refl)

pub listed_same : (names : Names) (v w : Contents) → Same of_names v w → AreListed names v → AreListed names w
listed_same names v w same told name = told name ∙ ap (λ holders. get holders name) (sym (same cells.Holders refl))

pub borne_same : (names : Names) (v w : Contents) → Same of_names v w → AreBorne names v → AreBorne names w
borne_same names v w same told p = told p ∙ sym (same (cells.NameOf p) refl)

pub tables_same : (tables : Tables) (v w : Contents) → Same of_tables v w → Hold tables v → Hold tables w
tables_same tables v w same told = record {
  are = record {
    tables = λ t. told.are.tables t ∙ sym (same (cells.Table t) refl);
    rows = λ t. told.are.rows t ∙ sym (same (cells.Rows t) refl);
    each_row = λ t key. told.are.each_row t key ∙ sym (same (cells.Row t key) refl);
    names = λ name. told.are.names name ∙ sym (same (cells.TableName name) refl);
    owned = λ p. told.are.owned p ∙ sym (same (cells.Owned p) refl);
  };
  by_key = λ t key. ap (λ rows. get rows key) (same (cells.Rows t) refl) ∙ told.by_key t key ∙ ap some_if (sym (same (cells.Row t key) refl));
}
