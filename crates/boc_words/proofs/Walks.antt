-- What each use of an argument keeps, a walk with no fault keeps too.
use Rattle.std.proofs.Common.{zero, suc, ◌≡◌, ◌&&◌, ℕ, Bool, true, false, List, [], ◌∷◌, Option, Some, None, refl, sym, subst}
use Rattle.std.specs.Prelude.{IfSome, find, fold, drop, length, encode_utf8, slice_get, is_some, if◌then◌else◌}
use Rattle.std.specs.Option.{option_map_or}
use Rattle.std.specs.Str.{bytes_eq, chars}
use Rattle.clap.specs.Kinds.{Kinds, or_else}
use Rattle.clap.specs.Lexer.{long_of, short_of}
use Rattle.clap.specs.Simple.{Shape}
use Rattle.clap.specs.declared.error.kind.ErrorKind.TheVariants as kind
use Rattle.clap.specs.Walk.{Held, Names, Outcome, Row, Rule, Step, Text, Waiting, Walk, after_flag, after_step, arg_by_id, arg_by_index, arg_by_long}
use Rattle.clap.specs.Walk.{arg_by_short, attached_value, bundle, bundle_met, bundle_step, done, flag_met, idle, is_pending, long_met, long_or_other}
use Rattle.clap.specs.Walk.{long_word, nothing_held, option, option_met, option_word, plain, plain_word, positional, positional_held, reacted, refused}
use Rattle.clap.specs.Walk.{settled, settled_rows, short_met, short_or_plain, subcommand, subcommand_met, subcommand_or_other, default_rows, has_row}
use Rattle.clap.specs.Walk.{reading_by, rows_after, trailing, with_default, next, takes_several, takes_values, to_positional, used, used_by_id, value, waits}
use Rattle.clap.specs.Walk.{walk, walk_from, walked, walked_from, word_met}
use Rattle.clap.specs.Faults.{bundle_fault, bundle_step_fault, flag_word_fault, flags_fault, long_fault, option_fault, other_fault, positional_fault}
use Rattle.clap.specs.Faults.{react_fault, settle_fault, short_fault, step_fault, stray_fault, turn_fault, use_fault, walk_fault, word_fault, level_fault}

-- no kind comes of either
pub neither : (a b : Kinds) → or_else a b ≡ [] → (a ≡ []) × (b ≡ [])
neither [] b none = (refl, none)
neither (k ∷ ks) b none = cc

-- a use of the argument with no fault keeps what holds of the rows
abbrev pub Fine : (List Row → Type 0) → Bool → Rule → Type 0
Fine Good again a = (values : List Text) (rows : List Row) → use_fault again a values rows ≡ [] → Good rows → Good (used a values rows)

abbrev pub AllFine : (List Row → Type 0) → Bool → List Rule → Type 0
AllFine Good again [] = Unit {0}
AllFine Good again (a ∷ rules) = Fine Good again a × AllFine Good again rules

-- what an argument that was not used has for a default keeps what holds of the rows
abbrev pub KeepsDefault : (List Row → Type 0) → Rule → Type 0
KeepsDefault Good a = (rows : List Row) → Good rows → Good (with_default rows a)

abbrev pub AllKeep : (List Row → Type 0) → List Rule → Type 0
AllKeep Good [] = Unit {0}
AllKeep Good (a ∷ rules) = KeepsDefault Good a × AllKeep Good rules

-- and so does a use of an argument that is found
fine_found : (Good : List Row → Type 0) (again : Bool) (p : Rule → Bool) (rules : List Rule) → AllFine Good again rules
    → IfSome (find p rules) (Fine Good again)
fine_found Good again p [] fine = tt
fine_found Good again p (a ∷ rules) fine = go (p a) (fine_found Good again p rules fine.1)
  where
    go : (b : Bool) → IfSome (find p rules) (Fine Good again) → IfSome (if b then Some a else find p rules) (Fine Good again)
    go true rest = fine.0
    go false rest = rest

module _ (Good : List Row → Type 0) (again : Bool) (c : List Rule) (fine : AllFine Good again c) where
  settled_good : (h : Held) → settle_fault c again h ≡ [] → Good h.rows → Good (settled c h).rows
  settled_good h none good = go h.pending none
    where
      by_id : (o : Option Rule) (values : List Text) → IfSome o (Fine Good again) → option_map_or (λ a. use_fault again a values h.rows) o [] ≡ []
          → Good (used_by_id o values h.rows)
      by_id None values f clear = good
      by_id (Some a) values f clear = f values h.rows clear good

      go : (p : Option (Text × List Text)) → option_map_or (λ q. option_map_or (λ a. use_fault again a q.1 h.rows) (arg_by_id c q.0) []) p [] ≡ []
          → Good (settled_rows c p h.rows)
      go None clear = good
      go (Some p) clear = by_id (arg_by_id c p.0) p.1 (fine_found Good again (λ a. bytes_eq a.id p.0) c fine) clear

  reacted_good : (a : Rule) → Fine Good again a → (values : List Text) (h : Held) → react_fault c again a values h ≡ [] → Good h.rows
      → Good (reacted c a values h).rows
  reacted_good a f values h none good =
      let both = neither (settle_fault c again h) (use_fault again a values (settled c h).rows) none in
      f values (settled c h).rows both.1 (settled_good h both.0 good)

  option_good : (a : Rule) → Fine Good again a → (v : Option Text) (h : Held) → option_fault c again a v h ≡ [] → Good h.rows
      → Good (option_met c a v h).0.rows
  option_good a f (Some v) h none good = reacted_good a f (v ∷ []) h none good
  option_good a f None h none good = settled_good h none good

  flag_good : (a : Rule) → Fine Good again a → (v : Option Text) (h : Held)
      → (if is_some v then kind.TooManyValues ∷ [] else react_fault c again a [] h) ≡ [] → Good h.rows → Good (flag_met c a v h).0.rows
  flag_good a f (Some v) h none good = good
  flag_good a f None h none good = reacted_good a f [] h none good

  long_good : (o : Option Rule) → IfSome o (Fine Good again) → (v : Option Text) (h : Held) → long_fault c again o v h ≡ [] → Good h.rows
      → Good (long_met c o v h).0.rows
  long_good None f v h none good = good
  long_good (Some a) f v h none good = go (takes_values a) none
    where
      go : (b : Bool) → (if b then option_fault c again a v h else (if is_some v then kind.TooManyValues ∷ [] else react_fault c again a [] h)) ≡ []
          → Good (if b then option_met c a v h else flag_met c a v h).0.rows
      go true clear = option_good a f v h clear good
      go false clear = flag_good a f v h clear good

  short_good : (o : Option Rule) → IfSome o (Fine Good again) → (rest : Text) (h : Held) (onward : Held → Held × Outcome) (next_fault : Held → Kinds)
      → ((later : Held) → next_fault later ≡ [] → Good later.rows → Good (onward later).0.rows)
      → short_fault c again o rest h next_fault ≡ [] → Good h.rows → Good (short_met c o rest h onward).0.rows
  short_good None f rest h onward next_fault keeps none good = good
  short_good (Some a) f rest h onward next_fault keeps none good = go (takes_values a) none
    where
      go : (b : Bool)
          → (if b then option_fault c again a (attached_value rest) h
          else or_else (react_fault c again a [] h) (next_fault (reacted c a [] h))) ≡ []
          → Good (if b then option_met c a (attached_value rest) h else onward (reacted c a [] h)).0.rows
      go true clear = option_good a f (attached_value rest) h clear good
      go false clear =
          let both = neither (react_fault c again a [] h) (next_fault (reacted c a [] h)) clear in
          keeps (reacted c a [] h) both.1 (reacted_good a f [] h both.0 good)

  bundle_step_good : (o : Option ℕ) (flags : Text) (skip : ℕ) (so_far : Outcome) (h : Held) (onward : Text → ℕ → Outcome → Held → Held × Outcome)
      (next_fault : Text → ℕ → Held → Kinds)
      → ((rest : Text) (k : ℕ) (out : Outcome) (later : Held) → next_fault rest k later ≡ [] → Good later.rows → Good (onward rest k out later).0.rows)
      → bundle_step_fault c again o flags skip h next_fault ≡ [] → Good h.rows → Good (bundle_step c o flags skip so_far h onward).0.rows
  bundle_step_good None flags skip so_far h onward next_fault keeps none good = good
  bundle_step_good (Some x) flags zero so_far h onward next_fault keeps none good =
      let rest : Text = drop (length (encode_utf8 x)) flags in
      short_good (arg_by_short c x) (fine_found Good again _ c fine) rest h (onward rest 0 done) (next_fault rest 0) (keeps rest 0 done) none good
  bundle_step_good (Some x) flags (suc skip) so_far h onward next_fault keeps none good =
      keeps (drop (length (encode_utf8 x)) flags) skip so_far h none good

  bundle_good : (k : ℕ) (flags : Text) (skip : ℕ) (so_far : Outcome) (h : Held) → flags_fault c again k flags skip h ≡ [] → Good h.rows
      → Good (bundle_met c k flags skip so_far h).0.rows
  unfolding flags_fault bundle_met
  bundle_good zero flags skip so_far h none good = good
  bundle_good (suc k) flags skip so_far h none good =
      bundle_step_good (slice_get (chars flags) 0) flags skip so_far h (bundle_met c k) (flags_fault c again k) (bundle_good k) none good

  plain_good : (waiting : Waiting) (word : Text) (h : Held) → Good h.rows → Good (plain_word c waiting word h).0.rows
  plain_good idle word h good = good
  plain_good (option id) word h good = go (arg_by_id c id)
    where
      go : (o : Option Rule) → Good (option_word o id word h).0.rows
      go None = good
      go (Some a) = good
  plain_good positional word h good = good

  after_good : (waiting : Waiting) (word : Text) (h : Held) (outcome : Outcome) → Good h.rows → Good (after_flag c waiting word h outcome).0.rows
  after_good waiting word h done good = good
  after_good waiting word h (waits id) good = good
  after_good waiting word h plain good = plain_good waiting word h good
  after_good waiting word h refused good = plain_good waiting word h good

  long_word_good : (waiting : Waiting) (word name : Text) (v : Option Text) (h : Held) → long_fault c again (arg_by_long c name) v h ≡ [] → Good h.rows
      → Good (long_word c waiting word name v h).0.rows
  long_word_good waiting word name v h none good =
      let met = long_met c (arg_by_long c name) v h in
      after_good waiting word met.0 met.1 (long_good (arg_by_long c name) (fine_found Good again _ c fine) v h none good)

  short_or_plain_good : (waiting : Waiting) (word : Text) (o : Option Text) (h : Held) → option_map_or (λ flags. bundle_fault c again flags h) o [] ≡ []
      → Good h.rows → Good (short_or_plain c waiting word o h).0.rows
  short_or_plain_good waiting word (Some flags) h none good =
      let met = bundle c flags h in
      after_good waiting word met.0 met.1 (bundle_good (length flags) flags h.skip plain (record h { skip = 0 }) none good)
  short_or_plain_good waiting word None h none good = plain_good waiting word h good

  flag_word_good : (waiting : Waiting) (word : Text) (o : Option (Text × Option Text)) (h : Held) → flag_word_fault c again o word h ≡ [] → Good h.rows
      → Good (long_or_other c waiting word o h).0.rows
  flag_word_good waiting word (Some p) h none good = long_word_good waiting word p.0 p.1 h none good
  flag_word_good waiting word None h none good = short_or_plain_good waiting word (short_of word) h none good

  positional_good : (a : Rule) (word : Text) (h : Held) → positional_fault c again a h ≡ [] → Good h.rows → Good (positional_held c a word h).rows
  positional_good a word h none good = go (is_pending a h.pending && takes_several a) none
    where
      go : (b : Bool) → (if b then [] else settle_fault c again h) ≡ [] → Good (if b then h else settled c h).rows
      go true clear = good
      go false clear = settled_good h clear good

  to_positional_good : (o : Option Rule) (word : Text) (w : Walk) (h : Held) (stray : Kinds)
      → option_map_or (λ a. positional_fault c again a h) o stray ≡ [] → Good h.rows → Good (to_positional c o word w h).held.rows
  to_positional_good None word w h stray none good = good
  to_positional_good (Some a) word w h stray none good = positional_good a word h none good

module _ (Good : List Row → Type 0) (s : Shape) (fine : AllFine Good s.args_override_self s.rules) where
  other_good : (o : Option Text) (waiting : Waiting) (position : ℕ) (word : Text) (h : Held) → other_fault s o word h ≡ [] → Good h.rows
      → Good (subcommand_or_other s.rules o waiting position word h).0.rows
  other_good (Some name) waiting position word h none good = good
  other_good None waiting position word h none good = go (bytes_eq word (45 ∷ 45 ∷ [])) none
    where
      go : (b : Bool) → (if b then [] else flag_word_fault s.rules s.args_override_self (long_of word) word h) ≡ []
          → Good (if b then (h, trailing position) else long_or_other s.rules waiting word (long_of word) h).0.rows
      go true clear = good
      go false clear = flag_word_good Good s.args_override_self s.rules fine waiting word (long_of word) h clear good

  word_good : (names : Names) (is_trailing : Bool) (waiting : Waiting) (position : ℕ) (word : Text) (h : Held)
      → word_fault s names is_trailing waiting word h ≡ [] → Good h.rows → Good (word_met s.rules names is_trailing waiting position word h).0.rows
  word_good names true waiting position word h none good = good
  word_good names false waiting position word h none good = other_good (subcommand_met names waiting word) waiting position word h none good

  step_good : (step : Step) (w : Walk) (word : Text) (h : Held) → step_fault s w.position h step ≡ [] → Good h.rows
      → Good (after_step s.rules word w h step).held.rows
  step_good (next waiting) w word h none good = good
  step_good (trailing position) w word h none good = good
  step_good (subcommand name) w word h none good = good
  step_good value w word h none good =
      to_positional_good Good s.args_override_self s.rules fine (arg_by_index s.rules w.position) word w h (stray_fault s) none good

  turn_good : (names : Names) (w : Walk) (word : Text) → turn_fault s names w word ≡ [] → Good w.held.rows → Good (walked s.rules names w word).held.rows
  unfolding walked
  turn_good names w word none good = go w.stopped none
    where
      go : (o : Option (Text × List Text))
          → (if is_some o then [] else or_else (word_fault s names w.is_trailing w.waiting word w.held)
          (step_fault s w.position (word_met s.rules names w.is_trailing w.waiting w.position word w.held).0
          (word_met s.rules names w.is_trailing w.waiting w.position word w.held).1)) ≡ []
          → Good (walked_from s.rules names o w word).held.rows
      go (Some p) clear = good
      go None clear =
          let met = word_met s.rules names w.is_trailing w.waiting w.position word w.held in
          let both = neither (word_fault s names w.is_trailing w.waiting word w.held) (step_fault s w.position met.0 met.1) clear in
          step_good met.1 w word met.0 both.1 (word_good names w.is_trailing w.waiting w.position word w.held both.0 good)

  walk_good : (names : Names) (words : List Text) (w : Walk) → walk_fault s names w words ≡ [] → Good w.held.rows
      → Good (fold (walked s.rules names) w words).held.rows
  unfolding walk_fault
  walk_good names [] w none good = good
  walk_good names (word ∷ words) w none good =
      let both = neither (turn_fault s names w word) (walk_fault s names (walked s.rules names w word) words) none in
      walk_good names words (walked s.rules names w word) both.1 (turn_good names w word both.0 good)

  defaults_good : (rules : List Rule) (rows : List Row) → AllKeep Good rules → Good rows → Good (fold with_default rows rules)
  defaults_good [] rows keep good = good
  defaults_good (a ∷ rules) rows keep good = defaults_good rules (with_default rows a) keep.1 (keep.0 rows good)

  -- what holds of no rows holds of those of words with no fault
  pub level_good : (words : List Text) (kinds : Kinds) → AllKeep Good s.rules → level_fault s [] nothing_held words false kinds ≡ []
      → Good [] → Good (rows_after s.rules [] words)
  level_good words kinds keep none good =
      let end = (walk s.rules [] nothing_held words).held in
      let walks = neither (walk_fault s [] (walk_from nothing_held) words) _ none in
      let below = neither kinds _ walks.1 in
      let settles = neither (settle_fault s.rules s.args_override_self end) _ below.1 in
      defaults_good s.rules (settled s.rules end).rows keep
      (settled_good Good s.args_override_self s.rules fine end settles.0 (walk_good [] words (walk_from nothing_held) walks.0 good))

-- an argument with no default
pub bare : (Good : List Row → Type 0) (a : Rule) → a.defaults ≡ [] → (rows : List Row) → Good rows → Good (with_default rows a)
bare Good a none rows good = subst Good (sym (go (has_row a.id rows) a.defaults none)) good
  where
    go : (b : Bool) (defaults : List Text) → defaults ≡ [] → (if b then rows else default_rows a.id (reading_by a) defaults rows) ≡ rows
    go true defaults clear = refl
    go false [] clear = refl
    go false (v ∷ vs) clear = cc
