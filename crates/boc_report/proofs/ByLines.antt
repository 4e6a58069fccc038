-- A text of lines that is put line by line, each formed at the end of a room.
use Rattle.std.proofs.Common.{◌≡◌, ℕ, zero, suc, ◌+◌, ◌-◌, ◌<◌, ◌≤◌, List, [], ◌++◌, append_assoc, length, drop, take, sym, ap, subst, ◌∙◌, refl, arith}
use Rattle.std.specs.Prelude.{Option, Result}
use Rattle.std.specs.Result.{IsErrAnd}
use Rattle.boc_text.specs.declared.whole.Stopped.{Stopped}
use Rattle.boc_text.specs.declared.outgoing.Outgoing.{Outgoing}
use Rattle.boc_text.specs.Outgoing.{IsOut, Puts}
use Rattle.boc_text.specs.Streams.{StopsAt}
use Rattle.boc_text.proofs.Sending.{GrowsBy, HasPut, StopsIn, line_more, line_stops, puts_more, puts_stopped, room_end, stops_after, stops_put}
use Rattle.boc_report.specs.ByLine.{lines_from}

-- the first i lines make `text i`, each line is `line i`, and n lines make the whole
pub record IsOfLines (whole : List ℕ) (text line : ℕ → List ℕ) (n : ℕ) : Type 0 where
  pub grows : GrowsBy text line n
  pub all : (i : ℕ) → n ≤ i → text i ≡ whole

-- what stood at the end of a room was put
pub room_put : (room line : List ℕ) (long begin : ℕ) (old new : Outgoing) (from to : Option (List ℕ)) → length room ≤ long → drop begin room ≡ line
    → HasPut (take (long - begin) (drop begin room)) old new from to → HasPut line old new from to
room_put room line long begin old new from to all is put = subst (λ (bytes : List ℕ). HasPut bytes old new from to) (room_end room line long begin all is) put

-- the sink failed at the first part of a text
pub put_stopped : {A : Type 0} (whole : List ℕ) (result : Result A Stopped) (stopped : Stopped) (old new : Outgoing) (from to : Option (List ℕ))
    → ((before : Option (List ℕ)) (sent : List ℕ) → IsOut before from sent old → StopsAt stopped.gone sent before to) → IsErrAnd result (λ s. s ≡ stopped)
    → Puts whole result old new from to
put_stopped whole result stopped old new from to stops is =
    puts_stopped whole result stopped old new from to is (stops_put whole stopped.gone old from to stops)

-- one line more was put
pub line_put : {whole : List ℕ} {text line : ℕ → List ℕ} {n : ℕ} (l : IsOfLines whole text line n) (i : ℕ) (room : List ℕ) (long begin : ℕ)
    (old middle new : Outgoing)
    (from between to : Option (List ℕ)) → i < n → HasPut (text i) old middle from between → length room ≤ long → drop begin room ≡ line i
    → HasPut (take (long - begin) (drop begin room)) middle new between to → HasPut (text (i + 1)) old new from to
line_put {text = text} {line = line} {n = n} l i room long begin old middle new from between to small came all is put =
    line_more text line n i old middle new from between to l.grows small came (room_put room (line i) long begin middle new between to all is put)

-- the sink failed at a line
pub lines_stopped : {whole : List ℕ} {text line : ℕ → List ℕ} {n : ℕ} {A : Type 0} (l : IsOfLines whole text line n) (i : ℕ) (result : Result A Stopped)
    (stopped : Stopped)
    (old middle new : Outgoing) (from between to : Option (List ℕ)) → i < n → HasPut (text i) old middle from between
    → ((before : Option (List ℕ)) (sent : List ℕ) → IsOut before between sent middle → StopsAt stopped.gone sent before to) → IsErrAnd result (λ s. s ≡ stopped)
    → Puts whole result old new from to
lines_stopped {whole = whole} {text = text} {line = line} {n = n} l i result stopped old middle new from between to small came stops is =
    puts_stopped whole result stopped old new from to is
    (subst (λ (bytes : List ℕ). StopsIn bytes stopped.gone old from to) (l.all n (omega arith))
    (line_stops text line n i stopped.gone old middle from between to l.grows small came (stops_put (line i) stopped.gone middle between to stops)))

-- all lines were put
pub lines_put : {whole : List ℕ} {text line : ℕ → List ℕ} {n : ℕ} (l : IsOfLines whole text line n) (i : ℕ) (old new : Outgoing) (from to : Option (List ℕ))
    → n ≤ i → HasPut (text i) old new from to → HasPut whole old new from to
lines_put l i old new from to end came = subst (λ (bytes : List ℕ). HasPut bytes old new from to) (l.all i end) came

-- ---- lines that are put together

lines_append : (line : ℕ → List ℕ) (k i n : ℕ) → lines_from line k (i + n) ≡ lines_from line k i ++ lines_from line (k + i) n
lines_append line k zero n =
    let e : 0 + n ≡ n = omega arith in
    let f : k ≡ k + 0 = omega arith in
    ap (lines_from line k) e ∙ ap (λ (m : ℕ). lines_from line m n) f
lines_append line k (suc i) n =
    let e : suc i + n ≡ suc (i + n) = omega arith in
    let f : suc k + i ≡ k + suc i = omega arith in
    ap (lines_from line k) e
    ∙ ap (λ xs. line k ++ xs) (lines_append line (suc k) i n ∙ ap (λ (m : ℕ). lines_from line (suc k) i ++ lines_from line m n) f)
    ∙ sym (append_assoc (line k) (lines_from line (suc k) i) (lines_from line (k + suc i) n))

-- the lines before line i, and those from there up to line j
lines_join : (line : ℕ → List ℕ) (i j : ℕ) → i ≤ j → lines_from line 0 j ≡ lines_from line 0 i ++ lines_from line i (j - i)
lines_join line i j near =
    let e : j ≡ i + (j - i) = omega (arith, near) in
    let f : 0 + i ≡ i = omega arith in
    ap (lines_from line 0) e ∙ lines_append line 0 i (j - i) ∙ ap (λ (m : ℕ). lines_from line 0 i ++ lines_from line m (j - i)) f

-- lines more were put together
pub block_put : (line : ℕ → List ℕ) (i j : ℕ) (room : List ℕ) (long begin : ℕ) (old middle new : Outgoing) (from between to : Option (List ℕ)) → i ≤ j
    → HasPut (lines_from line 0 i) old middle from between → length room ≤ long → drop begin room ≡ lines_from line i (j - i)
    → HasPut (take (long - begin) (drop begin room)) middle new between to → HasPut (lines_from line 0 j) old new from to
block_put line i j room long begin old middle new from between to near came all is put =
    subst (λ (bytes : List ℕ). HasPut bytes old new from to) (sym (lines_join line i j near))
    (puts_more (lines_from line 0 i) (lines_from line i (j - i)) old middle new from between to came
    (room_put room (lines_from line i (j - i)) long begin middle new between to all is put))

-- the sink failed at lines that were put together
pub blocks_stopped : {A : Type 0} (line : ℕ → List ℕ) (n i : ℕ) (result : Result A Stopped) (stopped : Stopped) (old middle new : Outgoing)
    (from between to : Option (List ℕ)) → i ≤ n → HasPut (lines_from line 0 i) old middle from between
    → ((before : Option (List ℕ)) (sent : List ℕ) → IsOut before between sent middle → StopsAt stopped.gone sent before to) → IsErrAnd result (λ s. s ≡ stopped)
    → Puts (lines_from line 0 n) result old new from to
blocks_stopped line n i result stopped old middle new from between to near came stops is =
    puts_stopped _ result stopped old new from to is
    (subst (λ (bytes : List ℕ). StopsIn bytes stopped.gone old from to) (sym (lines_join line i n near))
    (stops_after (lines_from line 0 i) (lines_from line i (n - i)) stopped.gone old middle from between to came
    (stops_put (lines_from line i (n - i)) stopped.gone middle between to stops)))

-- all lines were put
pub blocks_put : (line : ℕ → List ℕ) (n i : ℕ) (old new : Outgoing) (from to : Option (List ℕ)) → n ≤ i → i ≤ n
    → HasPut (lines_from line 0 i) old new from to → HasPut (lines_from line 0 n) old new from to
blocks_put line n i old new from to end near came =
    let e : i ≡ n = omega (arith, end, near) in
    subst (λ (k : ℕ). HasPut (lines_from line 0 k) old new from to) e came

-- no line is left
pub lines_none : (line : ℕ → List ℕ) (i n : ℕ) → n ≡ 0 → [] ≡ lines_from line i n
lines_none line i n none = ap (lines_from line i) (sym none)

-- a line before those after it
pub line_before_more : (line : ℕ → List ℕ) (place next after : ℕ) → next ≡ place + 1 → next ≤ after
    → line place ++ lines_from line next (after - next) ≡ lines_from line place (after - place)
line_before_more line place next after one near =
    let e : next ≡ suc place = omega (arith, one) in
    let f : suc (after - next) ≡ after - place = omega (arith, one, near) in
    ap (λ (m : ℕ). line place ++ lines_from line m (after - next)) e ∙ ap (lines_from line place) f

-- lines from one index on, with their indices counted from 0
pub lines_shift : (line : ℕ → List ℕ) (i n : ℕ) → lines_from line (suc i) n ≡ lines_from (λ k. line (suc k)) i n
lines_shift line i zero = refl
lines_shift line i (suc n) = ap (λ xs. line (suc i) ++ xs) (lines_shift line (suc i) n)
