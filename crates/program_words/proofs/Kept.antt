-- What holds of the rows of a walk over words, where each use of an argument that is not at fault keeps it.
use Rattle.std.proofs.Common.{◌≡◌, ◌&&◌, ℕ, Bool, true, false, not, zero, suc, List, [], ◌∷◌, length, drop, Option, Some, None, cond, refl}
use Rattle.std.specs.List.{find, fold}
use Rattle.std.specs.Option.{is_some, option_map_or}
use Rattle.std.specs.Prelude.{encode_utf8, slice_get}
use Rattle.std.specs.Str.{bytes_eq, chars}
use Rattle.clap.specs.Faults.{bundle_fault, bundle_step_fault, flag_word_fault, flags_fault, long_fault, option_fault, other_fault, positional_fault, react_fault, settle_fault, short_fault, step_fault, stray_fault, turn_fault, use_fault, walk_fault, word_fault}
use Rattle.clap.specs.Kinds.{Kinds, or_else}
use Rattle.clap.specs.Lexer.{long_of, short_of}
use Rattle.clap.specs.Simple.{Shape}
use Rattle.clap.specs.Walk.{Held, Names, Outcome, Row, Rule, Step, Text, Waiting, Walk, after_flag, after_step, arg_by_id, arg_by_index, arg_by_long, arg_by_short, attached_value, bundle, bundle_met, bundle_step, done, flag_met, has_long, has_short, idle, is_pending, long_met, long_or_other, next, option, option_met, option_word, plain, plain_word, positional, reacted, refused, settled, settled_rows, short_met, short_or_plain, subcommand, subcommand_met, subcommand_or_other, takes_several, takes_values, to_positional, trailing, used, used_by_id, value, waits, walk, walk_from, walked, walked_from, word_met}
use Rattle.clap.specs.declared.error.kind.ErrorKind.TheVariants.{TooManyValues}

-- of two steps neither is at fault
pub both_pass : (a b : Kinds) → or_else a b ≡ [] → (a ≡ []) × (b ≡ [])
both_pass [] b none = (refl, none)
both_pass (k ∷ ks) b none = cc

module _ (s : Shape) (Q : List Row → Type 0)
    (keeps : (p : Rule → Bool) (a : Rule) (values : List Text) (rows : List Row) → find p s.rules ≡ Some a → use_fault s.args_override_self a values rows ≡ [] → Q rows → Q (used a values rows)) where
  settled_by : (pending : Option (Text × List Text)) (rows : List Row)
      → option_map_or (λ p. option_map_or (λ a. use_fault s.args_override_self a p.1 rows) (arg_by_id s.rules p.0) []) pending [] ≡ [] → Q rows → Q (settled_rows s.rules pending rows)
  settled_by None rows none holds = holds
  settled_by (Some p) rows none holds = by (arg_by_id s.rules p.0) refl none
    where
      by : (o : Option Rule) → arg_by_id s.rules p.0 ≡ o → option_map_or (λ a. use_fault s.args_override_self a p.1 rows) o [] ≡ [] → Q (used_by_id o p.1 rows)
      by None is none = holds
      by (Some a) is none = keeps (λ b. bytes_eq b.id p.0) a p.1 rows is none holds

  settled_keeps : (h : Held) → settle_fault s.rules s.args_override_self h ≡ [] → Q h.rows → Q (settled s.rules h).rows
  settled_keeps h none holds = settled_by h.pending h.rows none holds

  reacted_keeps : (p : Rule → Bool) (a : Rule) (values : List Text) (h : Held) → find p s.rules ≡ Some a → react_fault s.rules s.args_override_self a values h ≡ [] → Q h.rows
      → Q (reacted s.rules a values h).rows
  reacted_keeps p a values h is none holds =
      let parts = both_pass (settle_fault s.rules s.args_override_self h) (use_fault s.args_override_self a values (settled s.rules h).rows) none in
      keeps p a values (settled s.rules h).rows is parts.1 (settled_keeps h parts.0 holds)

  option_keeps : (p : Rule → Bool) (a : Rule) (v : Option Text) (h : Held) → find p s.rules ≡ Some a → option_fault s.rules s.args_override_self a v h ≡ [] → Q h.rows
      → Q (option_met s.rules a v h).0.rows
  option_keeps p a (Some v) h is none holds = reacted_keeps p a (v ∷ []) h is none holds
  option_keeps p a None h is none holds = settled_keeps h none holds

  flag_keeps : (p : Rule → Bool) (a : Rule) (v : Option Text) (h : Held) → find p s.rules ≡ Some a
      → cond (is_some v) (TooManyValues ∷ []) (react_fault s.rules s.args_override_self a [] h) ≡ [] → Q h.rows → Q (flag_met s.rules a v h).0.rows
  flag_keeps p a (Some v) h is none holds = holds
  flag_keeps p a None h is none holds = reacted_keeps p a [] h is none holds

  long_keeps : (p : Rule → Bool) (o : Option Rule) (v : Option Text) (h : Held) → find p s.rules ≡ o → long_fault s.rules s.args_override_self o v h ≡ [] → Q h.rows
      → Q (long_met s.rules o v h).0.rows
  long_keeps p None v h is none holds = holds
  long_keeps p (Some a) v h is none holds = by (takes_values a) none
    where
      by : (b : Bool) → cond b (option_fault s.rules s.args_override_self a v h) (cond (is_some v) (TooManyValues ∷ []) (react_fault s.rules s.args_override_self a [] h)) ≡ []
          → Q (cond b (option_met s.rules a v h) (flag_met s.rules a v h)).0.rows
      by true none = option_keeps p a v h is none holds
      by false none = flag_keeps p a v h is none holds

  short_keeps : (x : ℕ) (o : Option Rule) (rest : Text) (h : Held) (fault : Held → Kinds) (then : Held → Held × Outcome)
      → ((h : Held) → fault h ≡ [] → Q h.rows → Q (then h).0.rows) → arg_by_short s.rules x ≡ o
      → short_fault s.rules s.args_override_self o rest h fault ≡ [] → Q h.rows → Q (short_met s.rules o rest h then).0.rows
  short_keeps x None rest h fault then later is none holds = holds
  short_keeps x (Some a) rest h fault then later is none holds = by (takes_values a) none
    where
      by : (b : Bool) → cond b (option_fault s.rules s.args_override_self a (attached_value rest) h) (or_else (react_fault s.rules s.args_override_self a [] h) (fault (reacted s.rules a [] h))) ≡ []
          → Q (cond b (option_met s.rules a (attached_value rest) h) (then (reacted s.rules a [] h))).0.rows
      by true none = option_keeps (λ b. not (is_some b.index) && has_short b x) a (attached_value rest) h is none holds
      by false none =
          let parts = both_pass (react_fault s.rules s.args_override_self a [] h) (fault (reacted s.rules a [] h)) none in
          later (reacted s.rules a [] h) parts.1 (reacted_keeps (λ b. not (is_some b.index) && has_short b x) a [] h is parts.0 holds)

  bundle_step_keeps : (o : Option ℕ) (flags : Text) (skip : ℕ) (so_far : Outcome) (h : Held) (fault : Text → ℕ → Held → Kinds) (then : Text → ℕ → Outcome → Held → Held × Outcome)
      → ((flags : Text) (skip : ℕ) (so_far : Outcome) (h : Held) → fault flags skip h ≡ [] → Q h.rows → Q (then flags skip so_far h).0.rows)
      → bundle_step_fault s.rules s.args_override_self o flags skip h fault ≡ [] → Q h.rows → Q (bundle_step s.rules o flags skip so_far h then).0.rows
  bundle_step_keeps None flags skip so_far h fault then later none holds = holds
  bundle_step_keeps (Some x) flags zero so_far h fault then later none holds =
      let rest = drop (length (encode_utf8 x)) flags in
      short_keeps x (arg_by_short s.rules x) rest h (fault rest 0) (then rest 0 done) (later rest 0 done) refl none holds
  bundle_step_keeps (Some x) flags (suc skip) so_far h fault then later none holds = later (drop (length (encode_utf8 x)) flags) skip so_far h none holds

  bundle_keeps : (k : ℕ) (flags : Text) (skip : ℕ) (so_far : Outcome) (h : Held) → flags_fault s.rules s.args_override_self k flags skip h ≡ [] → Q h.rows
      → Q (bundle_met s.rules k flags skip so_far h).0.rows
  unfolding bundle_met flags_fault
  bundle_keeps zero flags skip so_far h none holds = holds
  bundle_keeps (suc k) flags skip so_far h none holds =
      bundle_step_keeps (slice_get (chars flags) 0) flags skip so_far h (flags_fault s.rules s.args_override_self k) (bundle_met s.rules k) (bundle_keeps k) none holds

  plain_keeps : (waiting : Waiting) (word : Text) (h : Held) → Q h.rows → Q (plain_word s.rules waiting word h).0.rows
  plain_keeps idle word h holds = holds
  plain_keeps positional word h holds = holds
  plain_keeps (option id) word h holds = by (arg_by_id s.rules id)
    where
      by : (o : Option Rule) → Q (option_word o id word h).0.rows
      by None = holds
      by (Some a) = holds

  after_keeps : (waiting : Waiting) (word : Text) (h : Held) (o : Outcome) → Q h.rows → Q (after_flag s.rules waiting word h o).0.rows
  after_keeps waiting word h done holds = holds
  after_keeps waiting word h (waits id) holds = holds
  after_keeps waiting word h plain holds = plain_keeps waiting word h holds
  after_keeps waiting word h refused holds = plain_keeps waiting word h holds

  short_or_plain_keeps : (waiting : Waiting) (word : Text) (h : Held) (o : Option Text) → option_map_or (λ flags. bundle_fault s.rules s.args_override_self flags h) o [] ≡ [] → Q h.rows
      → Q (short_or_plain s.rules waiting word o h).0.rows
  short_or_plain_keeps waiting word h None none holds = plain_keeps waiting word h holds
  short_or_plain_keeps waiting word h (Some flags) none holds =
      after_keeps waiting word (bundle s.rules flags h).0 (bundle s.rules flags h).1 (bundle_keeps (length flags) flags h.skip plain (record h { skip = 0 }) none holds)

  flag_word_keeps : (waiting : Waiting) (word : Text) (h : Held) (o : Option (Text × Option Text)) → flag_word_fault s.rules s.args_override_self o word h ≡ [] → Q h.rows
      → Q (long_or_other s.rules waiting word o h).0.rows
  flag_word_keeps waiting word h None none holds = short_or_plain_keeps waiting word h (short_of word) none holds
  flag_word_keeps waiting word h (Some p) none holds =
      let met = long_met s.rules (arg_by_long s.rules p.0) p.1 h in
      after_keeps waiting word met.0 met.1 (long_keeps (λ a. not (is_some a.index) && has_long a p.0) (arg_by_long s.rules p.0) p.1 h refl none holds)

  other_keeps : (o : Option Text) (waiting : Waiting) (position : ℕ) (word : Text) (h : Held) → other_fault s o word h ≡ [] → Q h.rows
      → Q (subcommand_or_other s.rules o waiting position word h).0.rows
  other_keeps (Some name) waiting position word h none holds = holds
  other_keeps None waiting position word h none holds = by (bytes_eq word (45 ∷ 45 ∷ [])) none
    where
      by : (b : Bool) → cond b [] (flag_word_fault s.rules s.args_override_self (long_of word) word h) ≡ []
          → Q (cond b (h, trailing position) (long_or_other s.rules waiting word (long_of word) h)).0.rows
      by true none = holds
      by false none = flag_word_keeps waiting word h (long_of word) none holds

  met_keeps : (names : Names) (is_trailing : Bool) (waiting : Waiting) (position : ℕ) (word : Text) (h : Held) → word_fault s names is_trailing waiting word h ≡ [] → Q h.rows
      → Q (word_met s.rules names is_trailing waiting position word h).0.rows
  met_keeps names true waiting position word h none holds = holds
  met_keeps names false waiting position word h none holds = other_keeps (subcommand_met names waiting word) waiting position word h none holds

  positional_keeps : (o : Option Rule) (word : Text) (w : Walk) (h : Held) → option_map_or (λ a. positional_fault s.rules s.args_override_self a h) o (stray_fault s) ≡ [] → Q h.rows
      → Q (to_positional s.rules o word w h).held.rows
  positional_keeps None word w h none holds = holds
  positional_keeps (Some a) word w h none holds = by (is_pending a h.pending && takes_several a) none
    where
      by : (b : Bool) → cond b [] (settle_fault s.rules s.args_override_self h) ≡ [] → Q (cond b h (settled s.rules h)).rows
      by true none = holds
      by false none = settled_keeps h none holds

  step_keeps : (word : Text) (w : Walk) (h : Held) (step : Step) → step_fault s w.position h step ≡ [] → Q h.rows → Q (after_step s.rules word w h step).held.rows
  step_keeps word w h (next waiting) none holds = holds
  step_keeps word w h (trailing position) none holds = holds
  step_keeps word w h (subcommand name) none holds = holds
  step_keeps word w h value none holds = positional_keeps (arg_by_index s.rules w.position) word w h none holds

  turn_keeps : (names : Names) (w : Walk) (word : Text) → turn_fault s names w word ≡ [] → Q w.held.rows → Q (walked_from s.rules names w.stopped w word).held.rows
  turn_keeps names w word none holds = by w.stopped none
    where
      by : (o : Option (Text × List Text))
          → cond (is_some o) [] (or_else (word_fault s names w.is_trailing w.waiting word w.held)
          (step_fault s w.position (word_met s.rules names w.is_trailing w.waiting w.position word w.held).0 (word_met s.rules names w.is_trailing w.waiting w.position word w.held).1)) ≡ []
          → Q (walked_from s.rules names o w word).held.rows
      by (Some p) none = holds
      by None none =
          let met = word_met s.rules names w.is_trailing w.waiting w.position word w.held in
          let parts = both_pass (word_fault s names w.is_trailing w.waiting word w.held) (step_fault s w.position met.0 met.1) none in
          step_keeps word w met.0 met.1 parts.1 (met_keeps names w.is_trailing w.waiting w.position word w.held parts.0 holds)

  walk_keeps : (names : Names) (words : List Text) (w : Walk) → walk_fault s names w words ≡ [] → Q w.held.rows → Q (fold (walked s.rules names) w words).held.rows
  unfolding walk_fault walked
  walk_keeps names [] w none holds = holds
  walk_keeps names (word ∷ rest) w none holds =
      let parts = both_pass (turn_fault s names w word) (walk_fault s names (walked s.rules names w word) rest) none in
      walk_keeps names rest (walked s.rules names w word) parts.1 (turn_keeps names w word parts.0 holds)

  -- it holds of the rows at the end of the walk
  pub walk_leaves : (names : Names) (words : List Text) (h : Held) → walk_fault s names (walk_from h) words ≡ [] → settle_fault s.rules s.args_override_self (walk s.rules names h words).held ≡ [] → Q h.rows
      → Q (settled s.rules (walk s.rules names h words).held).rows
  walk_leaves names words h none end holds = settled_keeps (walk s.rules names h words).held end (walk_keeps names words (walk_from h) none holds)
