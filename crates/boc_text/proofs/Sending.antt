-- A text that goes out while it is formed.
use Rattle.std.proofs.Common.{zero, suc, ℕ, ◌+◌, ◌-◌, ◌<◌, ◌≤◌, List, ◌++◌, Option, take, drop, length, length-append, length-drop, append_assoc, sym, ◌∙◌}
use Rattle.std.proofs.Common.{subst, arith}
use Rattle.std.specs.Prelude.{◌≡◌, Result, Ok, Err, MatchResult}
use Rattle.std.specs.Result.{IsErrAnd}
use Rattle.std.specs.Io.KnownBytes.{Appends}
use Rattle.std.proofs.lemmas.List.{take-append-le, take_all}
use Rattle.boc_text.specs.declared.outgoing.Outgoing.{Outgoing}
use Rattle.boc_text.specs.declared.whole.Stopped.{Stopped}
use Rattle.boc_text.specs.Streams.{StopsAt}
use Rattle.boc_text.specs.Outgoing.{IsOut, Puts}

-- a text that stopped has stopped as well where more was to come
pub stops_before : (gone : ℕ) (text more : List ℕ) (old new : Option (List ℕ)) → StopsAt gone text old new → StopsAt gone (text ++ more) old new
stops_before gone text more old new s = record {
  short = omega (arith, s.short, length-append text more);
  out = subst (Appends old new) (sym (take-append-le gone text more (omega (arith, s.short)))) s.out;
}

-- where a call has stopped, what holds of how it stopped holds of its answer
pub stopped_so : {A : Type 0} (Is : A → Type 0) (IsWrong : Stopped → Type 0) (result : Result A Stopped) (stopped : Stopped)
    → IsErrAnd result (λ s. s ≡ stopped) → IsWrong stopped → MatchResult result Is IsWrong
stopped_so Is IsWrong (Ok done) stopped h wrong = absurd h
stopped_so Is IsWrong (Err s) stopped h wrong = subst IsWrong (sym h) wrong

-- bytes came behind the text
abbrev pub HasPut : List ℕ → Outgoing → Outgoing → Option (List ℕ) → Option (List ℕ) → Type 0
HasPut bytes old new from to = (before : Option (List ℕ)) (text : List ℕ) → IsOut before from text old → IsOut before to (text ++ bytes) new

-- the sink failed before all of the bytes was out
abbrev pub StopsIn : List ℕ → ℕ → Outgoing → Option (List ℕ) → Option (List ℕ) → Type 0
StopsIn bytes gone old from to = (before : Option (List ℕ)) (text : List ℕ) → IsOut before from text old → StopsAt gone (text ++ bytes) before to

-- the sink failed before all of the text was out, behind which the bytes were to come
pub stops_put : (bytes : List ℕ) (gone : ℕ) (old : Outgoing) (from to : Option (List ℕ)) → ((before : Option (List ℕ)) (text : List ℕ)
    → IsOut before from text old → StopsAt gone text before to)
    → StopsIn bytes gone old from to
stops_put bytes gone old from to stops = λ before text out. stops_before gone text bytes before to (stops before text out)

-- so a call that puts bytes behind a text has put them there, or the sink failed before all was out
pub put_puts : {A : Type 0} (bytes : List ℕ) (result : Result A Stopped) (old new : Outgoing) (from to : Option (List ℕ))
    → ((before : Option (List ℕ)) (text : List ℕ) → IsOut before from text old
    → MatchResult result (λ _. IsOut before to (text ++ bytes) new) (λ s. StopsAt s.gone text before to))
    → Puts bytes result old new from to
put_puts bytes (Ok done) old new from to puts = puts
put_puts bytes (Err s) old new from to stops = stops_put bytes s.gone old from to stops

-- bytes came, and more behind them
pub puts_more : (first more : List ℕ) (old middle new : Outgoing) (from between to : Option (List ℕ)) → HasPut first old middle from between
    → HasPut more middle new between to
    → HasPut (first ++ more) old new from to
puts_more first more old middle new from between to came comes = λ before text out.
    subst (λ (t : List ℕ). IsOut before to t new) (append_assoc text first more) (comes before (text ++ first) (came before text out))

-- bytes came, and the sink failed at those behind them
pub stops_after : (first more : List ℕ) (gone : ℕ) (old middle : Outgoing) (from between to : Option (List ℕ))
    → HasPut first old middle from between → StopsIn more gone middle between to
    → StopsIn (first ++ more) gone old from to
stops_after first more gone old middle from between to came stops = λ before text out.
    subst (λ (t : List ℕ). StopsAt gone t before to) (append_assoc text first more) (stops before (text ++ first) (came before text out))

-- the sink failed, and more was to come
pub stops_early : (first more : List ℕ) (gone : ℕ) (old : Outgoing) (from to : Option (List ℕ)) → StopsIn first gone old from to
    → StopsIn (first ++ more) gone old from to
stops_early first more gone old from to stops = λ before text out.
    subst (λ (t : List ℕ). StopsAt gone t before to) (append_assoc text first more) (stops_before gone (text ++ first) more before to
    (stops before text out))

-- so an answer that the sink failed is right
pub puts_stopped : {A : Type 0} (bytes : List ℕ) (result : Result A Stopped) (stopped : Stopped) (old new : Outgoing) (from to : Option (List ℕ))
    → IsErrAnd result (λ s. s ≡ stopped)
    → StopsIn bytes stopped.gone old from to → Puts bytes result old new from to
puts_stopped bytes (Ok done) stopped old new from to h stops = absurd h
puts_stopped bytes (Err s) stopped old new from to h stops = subst (λ (x : Stopped). StopsIn bytes x.gone old from to) (sym h) stops

-- a text that grows by n lines, one after the other
abbrev pub GrowsBy : (ℕ → List ℕ) → (ℕ → List ℕ) → ℕ → Type 0
GrowsBy text line n = (i : ℕ) → i < n → text (i + 1) ≡ text i ++ line i

-- what came up to a line, and the line
pub line_more : (text line : ℕ → List ℕ) (n i : ℕ) (old middle new : Outgoing) (from between to : Option (List ℕ)) → GrowsBy text line n → i < n
    → HasPut (text i) old middle from between
    → HasPut (line i) middle new between to → HasPut (text (i + 1)) old new from to
line_more text line n i old middle new from between to grows small came comes =
    subst (λ (bytes : List ℕ). HasPut bytes old new from to) (sym (grows i small)) (puts_more (text i)
    (line i) old middle new from between to came comes)

-- where the sink failed before k more lines, it failed before all of the text was out
stops_short : (text line : ℕ → List ℕ) (n i k gone : ℕ) (old : Outgoing) (from to : Option (List ℕ)) → GrowsBy text line n → i + k ≡ n
    → StopsIn (text i) gone old from to
    → StopsIn (text n) gone old from to
stops_short text line n i zero gone old from to grows same stops = subst (λ (j : ℕ). StopsIn (text j) gone old from to) (omega (arith, same)) stops
stops_short text line n i (suc k) gone old from to grows same stops =
    stops_short text line n (i + 1) k gone old from to grows (omega (arith, same))
    (subst (λ (bytes : List ℕ). StopsIn bytes gone old from to) (sym (grows i (omega (arith, same)))) (stops_early (text i)
    (line i) gone old from to stops))

-- what came up to a line at which the sink failed
pub line_stops : (text line : ℕ → List ℕ) (n i gone : ℕ) (old middle : Outgoing) (from between to : Option (List ℕ)) → GrowsBy text line n → i < n
    → HasPut (text i) old middle from between
    → StopsIn (line i) gone middle between to → StopsIn (text n) gone old from to
line_stops text line n i gone old middle from between to grows small came stops =
    stops_short text line n (i + 1) (n - (i + 1)) gone old from to grows (omega (arith, small))
    (subst (λ (bytes : List ℕ). StopsIn bytes gone old from to) (sym (grows i small)) (stops_after (text i)
    (line i) gone old middle from between to came stops))

-- bytes came, and then more behind them, or the sink failed at those
pub puts_then : {A : Type 0} (first more : List ℕ) (result : Result A Stopped) (old middle new : Outgoing) (from between to : Option (List ℕ))
    → HasPut first old middle from between
    → Puts more result middle new between to → Puts (first ++ more) result old new from to
puts_then first more (Ok done) old middle new from between to came comes = puts_more first more old middle new from between to came comes
puts_then first more (Err s) old middle new from between to came stops = stops_after first more s.gone old middle from between to came stops

-- the end of a room is what stands there
pub room_end : (room line : List ℕ) (long begin : ℕ) → length room ≤ long → drop begin room ≡ line → take (long - begin) (drop begin room) ≡ line
room_end room line long begin all is = take_all (long - begin) (drop begin room) (omega (arith, all, length-drop begin room)) ∙ is
