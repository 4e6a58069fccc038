-- A walk with no fault stops at no call for help.
use Rattle.std.proofs.Common.{◌≡◌, ◌&&◌, ℕ, Bool, true, false, not, List, [], ◌∷◌, Option, Some, None, refl, codes}
use Rattle.std.specs.Prelude.{fold, is_some, if◌then◌else◌}
use Rattle.std.specs.Str.{bytes_eq}
use Rattle.clap.specs.Kinds.{or_else}
use Rattle.clap.specs.Lexer.{long_of, short_of}
use Rattle.clap.specs.Simple.{Shape}
use Rattle.clap.specs.declared.error.kind.ErrorKind.TheVariants as kind
use Rattle.clap.specs.Walk.{Held, Names, Outcome, Rule, Step, Text, Waiting, Walk, after_flag, after_step, arg_by_index, arg_by_long, bundle, done, idle}
use Rattle.clap.specs.Walk.{long_met, long_or_other, next, option, plain, plain_word, positional, refused, short_or_plain, subcommand, subcommand_met}
use Rattle.clap.specs.Walk.{subcommand_or_other, to_positional, trailing, value, waits, walked, walked_from, word_met}
use Rattle.clap.specs.Faults.{other_fault, step_fault, turn_fault, walk_fault, word_fault}
use Rattle.boc_words.proofs.Walks.{neither}

-- what the walk stopped at is no call for help
abbrev pub IsOther : Option (Text × List Text) → Type 0
IsOther None = Unit {0}
IsOther (Some stop) = bytes_eq stop.0 (codes "help") ≡ false

abbrev StepIsOther : Step → Type 0
StepIsOther (subcommand name) = bytes_eq name (codes "help") ≡ false
StepIsOther (next waiting) = Unit {0}
StepIsOther (trailing position) = Unit {0}
StepIsOther value = Unit {0}

plain_other : (c : List Rule) (waiting : Waiting) (word : Text) (h : Held) → StepIsOther (plain_word c waiting word h).1
plain_other c idle word h = tt
plain_other c (option id) word h = tt
plain_other c positional word h = tt

after_other : (c : List Rule) (waiting : Waiting) (word : Text) (h : Held) (outcome : Outcome) → StepIsOther (after_flag c waiting word h outcome).1
after_other c waiting word h done = tt
after_other c waiting word h (waits id) = tt
after_other c waiting word h plain = plain_other c waiting word h
after_other c waiting word h refused = plain_other c waiting word h

short_other : (c : List Rule) (waiting : Waiting) (word : Text) (o : Option Text) (h : Held) → StepIsOther (short_or_plain c waiting word o h).1
short_other c waiting word (Some flags) h = after_other c waiting word (bundle c flags h).0 (bundle c flags h).1
short_other c waiting word None h = plain_other c waiting word h

long_other : (c : List Rule) (waiting : Waiting) (word : Text) (o : Option (Text × Option Text)) (h : Held) → StepIsOther (long_or_other c waiting word o h).1
long_other c waiting word (Some p) h =
    after_other c waiting word (long_met c (arg_by_long c p.0) p.1 h).0 (long_met c (arg_by_long c p.0) p.1 h).1
long_other c waiting word None h = short_other c waiting word (short_of word) h

module _ (s : Shape) (helps : s.disable_help_subcommand ≡ false) where
  met_other : (o : Option Text) (waiting : Waiting) (position : ℕ) (word : Text) (h : Held) → other_fault s o word h ≡ []
      → StepIsOther (subcommand_or_other s.rules o waiting position word h).1
  met_other (Some name) waiting position word h none = go (bytes_eq name (codes "help")) s.disable_help_subcommand helps none
    where
      go : (b off : Bool) → off ≡ false → (if b && not off then kind.DisplayHelp ∷ kind.InvalidSubcommand ∷ [] else []) ≡ [] → b ≡ false
      go true true is clear = cc
      go true false is clear = cc
      go false off is clear = refl
  met_other None waiting position word h none = go (bytes_eq word (45 ∷ 45 ∷ []))
    where
      go : (b : Bool) → StepIsOther (if b then (h, trailing position) else long_or_other s.rules waiting word (long_of word) h).1
      go true = tt
      go false = long_other s.rules waiting word (long_of word) h

  word_other : (names : Names) (is_trailing : Bool) (waiting : Waiting) (position : ℕ) (word : Text) (h : Held)
      → word_fault s names is_trailing waiting word h ≡ [] → StepIsOther (word_met s.rules names is_trailing waiting position word h).1
  word_other names true waiting position word h none = tt
  word_other names false waiting position word h none = met_other (subcommand_met names waiting word) waiting position word h none

  place_other : (o : Option Rule) (word : Text) (w : Walk) (h : Held) → IsOther w.stopped → IsOther (to_positional s.rules o word w h).stopped
  place_other None word w h other = other
  place_other (Some a) word w h other = tt

  step_other : (step : Step) (w : Walk) (word : Text) (h : Held) → StepIsOther step → IsOther w.stopped → IsOther (after_step s.rules word w h step).stopped
  step_other (next waiting) w word h is other = other
  step_other (trailing position) w word h is other = other
  step_other (subcommand name) w word h is other = is
  step_other value w word h is other = place_other (arg_by_index s.rules w.position) word w h other

  turn_other : (names : Names) (w : Walk) (word : Text) → turn_fault s names w word ≡ [] → IsOther w.stopped → IsOther (walked s.rules names w word).stopped
  unfolding walked
  turn_other names w word none other = go w.stopped other none
    where
      go : (o : Option (Text × List Text)) → IsOther o
          → (if is_some o then [] else or_else (word_fault s names w.is_trailing w.waiting word w.held)
          (step_fault s w.position (word_met s.rules names w.is_trailing w.waiting w.position word w.held).0
          (word_met s.rules names w.is_trailing w.waiting w.position word w.held).1)) ≡ []
          → IsOther (walked_from s.rules names o w word).stopped
      go (Some stop) is clear = is
      go None is clear =
          let met = word_met s.rules names w.is_trailing w.waiting w.position word w.held in
          let both = neither (word_fault s names w.is_trailing w.waiting word w.held) (step_fault s w.position met.0 met.1) clear in
          step_other met.1 w word met.0 (word_other names w.is_trailing w.waiting w.position word w.held both.0) other

  pub walk_other : (names : Names) (words : List Text) (w : Walk) → walk_fault s names w words ≡ [] → IsOther w.stopped
      → IsOther (fold (walked s.rules names) w words).stopped
  unfolding walk_fault
  walk_other names [] w none other = other
  walk_other names (word ∷ words) w none other =
      let both = neither (turn_fault s names w word) (walk_fault s names (walked s.rules names w word) words) none in
      walk_other names words (walked s.rules names w word) both.1 (turn_other names w word both.0 other)
