-- What many runs say is a function of the program and of what is asked.
use Rattle.std.proofs.Common.{◌≡◌, ◌∙◌, ℕ, List, [], map, arith, ap, sym, subst, Some, Option, ℤ, pos, ◌-ℤ◌}
use Rattle.std.specs.Prelude.{slice_get, slice_index_or}
use Rattle.std.specs.Ordering.{int_cmp, nat_cmp}
use Rattle.std.specs.FinMap.{int_cmp-IsAntisymmetric, nat_cmp-IsAntisymmetric}
use Rattle.std.proofs.lemmas.Cmp.{int_cmp_total, nat_cmp_total}
use Rattle.std.proofs.lemmas.List.{length-map}
use Rattle.std.proofs.lemmas.Option.{slice_get_within}
use Rattle.boc_program.proofs.ChangedItems.{item_at}
use Rattle.boc_program.specs.declared.program.Program.{Program}
use Rattle.boc_runs.specs.declared.event.Event.{Event}
use Rattle.boc_runs.specs.declared.rows.Row.{Row}
use Rattle.boc_runs.specs.Legal.{entries}
use Rattle.boc_runs.specs.Rows.{IsRows}
use Rattle.boc_runs.specs.Run.{Member, config_of}
use Rattle.boc_runs.specs.machine.Turns.{Driven}
use Rattle.boc_plans.specs.declared.sharing.Sharing.{Sharing}
use Rattle.boc_plans.specs.Greedy.{IsSpan}
use Rattle.boc_plans.specs.Plans.{IsEnd}
use Rattle.boc_plans.specs.Seen.{seen}
use Rattle.boc_plans.proofs.Seeing.{rows_seen}
use Rattle.boc_order.proofs.Alone.{one_end, one_span}
use Rattle.boc_rules.specs.Logged.{row_of}
use Rattle.boc_rules.proofs.KeptRows.{rows_of_run}
use Rattle.boc_draws.specs.declared.drawing.Drawn.{Drawn}
use Rattle.boc_draws.specs.declared.way.Way.{Way}
use Rattle.boc_draws.specs.Draws.{IsDrawn}
use Rattle.boc_draws.proofs.OneDraw.{one_drawn}
use Rattle.boc_eager.proofs.EagerPlans.{one_plan}
use Rattle.boc_remedies.specs.declared.ends.Ends.{Ends}
use Rattle.boc_remedies.specs.declared.remedy.Remedy.{Remedy}
use Rattle.boc_remedies.specs.Ends.{judged}
use Rattle.boc_remedies.specs.Questions.{Asked as Question}
use Rattle.boc_remedies.specs.Tried.{tried}
use Rattle.boc_remedies.proofs.OneChains.{one_chains}
use Rattle.boc_remedies.proofs.OneEnds.{one_ends, one_ends_after}
use Rattle.boc_outcomes.specs.declared.asked.Asked.{Asked}
use Rattle.boc_outcomes.specs.Samples.{seed_of}
use Rattle.boc_many_runs.specs.declared.lines.Line.{Line}
use Rattle.boc_many_runs.specs.declared.many.ManyRuns.{ManyRuns}
use Rattle.boc_many_runs.specs.declared.many_numbers.Spreads.{Spreads}
use Rattle.boc_many_runs.specs.declared.seen.Numbers.{Numbers}
use Rattle.boc_many_runs.specs.declared.spread.Spread.{Spread}
use Rattle.boc_many_runs.specs.Bins.{bins_of}
use Rattle.boc_many_runs.specs.Lines.{AreLines, IsLineOf, ranked_line, told_places}
use Rattle.boc_many_runs.specs.Many.{AreNumbersTold, IsManyRuns, IsToldOf, SayTheSame}
use Rattle.boc_many_runs.specs.Runs.{AreColumns, AreFound, AreNumbersIn, AreNumbersOf, AreNumbersOfRuns, AreTriedIn, Brings, BringsIn, Found, IsFoundIn, IsRunOf, IsSingle, Manner}
use Rattle.boc_many_runs.specs.Runs.{Rowed, question_of}
use Rattle.boc_many_runs.specs.Spreads.{IsSpread}
use Rattle.boc_many_runs.specs.Union.{union_of}
use Rattle.boc_many_runs.proofs.Rounds.{got_map}
use Rattle.boc_many_runs.proofs.OneOrder.{one_spread, same_lists}
use Rattle.std.specs.List.{fold}

-- what is read once is one
one_read : {A : Type 0} (read : Option A) (x y : A) → read ≡ Some x → read ≡ Some y → x ≡ y
one_read read x y e f = let g : Some x ≡ Some y = sym e ∙ f in cc

-- ---- runs

same_events : (p : Program) (workers : ℕ) (way : Way) (seed : ℕ) (a b : Drawn) → IsDrawn p workers way seed a → IsDrawn p workers way seed b
    → a.record.events ≡ b.record.events
same_events p workers way seed a b x y = x.events ∙ ap (λ (d : Driven). d.state.log) (one_drawn p workers way seed a b x y) ∙ sym y.events

same_rows : (p : Program) (workers : ℕ) (way : Way) (seed : ℕ) (a b : Drawn) → IsDrawn p workers way seed a → IsDrawn p workers way seed b
    → a.record.rows ≡ b.record.rows
same_rows p workers way seed a b x y =
    sym (rows_of_run (entries a.record.events) a.record.rows x.whole.rows_are)
    ∙ ap (λ (es : List Event). map row_of (entries es)) (same_events p workers way seed a b x y)
    ∙ rows_of_run (entries b.record.events) b.record.rows y.whole.rows_are

abbrev rowed_so : List Row → List ℕ → Rowed
rowed_so rows defs = record { rows = rows; defs = defs }

module _ (p : Program) (asked : Asked) where
  one_run : (number : ℕ) (r s : Rowed) → IsRunOf p asked number r → IsRunOf p asked number s → r ≡ s
  one_run number r s a b =
      let seed : ℕ = seed_of asked.seed number in
      let rows : r.rows ≡ s.rows =
      a.is_rowed.rows_are ∙ same_rows p asked.workers asked.way seed a.drawn b.drawn a.is_draw b.is_draw ∙ sym b.is_rowed.rows_are in
      let defs : r.defs ≡ s.defs = a.is_rowed.defs_are
      ∙ ap (λ (es : List Event). map (λ (m : Member). m.behaviour.kind) (config_of p es).members)
      (same_events p asked.workers asked.way seed a.drawn b.drawn a.is_draw b.is_draw)
      ∙ sym b.is_rowed.defs_are in
      λ i. rowed_so (rows i) (defs i)

-- ---- what is found in a run

abbrev numbers_so : ℕ → ℕ → ℕ → ℕ → ℕ → Numbers
numbers_so rows work span end order = record { rows = rows; work = work; span = span; end = end; order = order }

one_numbers : (q : Question) → IsRows q.rows → (a b : Numbers) → AreNumbersOf q a → AreNumbersOf q b → a ≡ b
one_numbers q shape a b x y =
    let rows : List Row = seen q.sharing q.rows in
    let hr : IsRows rows = rows_seen q.sharing q.rows shape in
    let ends : x.ends ≡ y.ends = one_ends rows hr q.workers x.ends y.ends x.ends_are y.ends_are in
    let plan = one_plan rows hr x.eager.starts.items y.eager.starts.items x.is_eager.eager y.is_eager.eager in
    let order : x.eager.end ≡ y.eager.end = one_end rows y.eager.starts.items x.eager.end y.eager.end
    (subst (λ (starts : List ℕ). IsEnd rows starts x.eager.end) plan x.is_eager.ends) y.is_eager.ends in
    let e1 : a.rows ≡ b.rows = x.rows ∙ sym y.rows in
    let e2 : a.work ≡ b.work = x.work ∙ sym y.work in
    let e3 : a.span ≡ b.span = x.span ∙ ap (λ (e : Ends). e.span) ends ∙ sym y.span in
    let e4 : a.end ≡ b.end = x.end ∙ ap judged ends ∙ sym y.end in
    let e5 : a.order ≡ b.order = x.order ∙ order ∙ sym y.order in
    λ i. numbers_so (e1 i) (e2 i) (e3 i) (e4 i) (e5 i)

one_tried : (q : Question) → IsRows q.rows → (a b : List Remedy) → AreTriedIn q a → AreTriedIn q b → a ≡ b
one_tried q shape a b x y =
    x.are ∙ ap (tried q.families) (one_chains q x.why y.why x.greedy y.greedy x.chains y.chains shape x.is_why y.is_why x.is_greedy y.is_greedy
    x.chains_are y.chains_are) ∙ sym y.are

abbrev found_so : Numbers → List Remedy → Found
found_so numbers tried = record { numbers = numbers; tried = tried }

module _ (p : Program) (asked : Asked) (m : Manner) where
  one_found : (number : ℕ) (a b : Found) → IsFoundIn p asked m number a → IsFoundIn p asked m number b → a ≡ b
  one_found number a b x y =
      let run : x.run ≡ y.run = one_run p asked number x.run y.run x.is_run y.is_run in
      let shape : IsRows y.run.rows = y.is_run.is_rowed.shape in
      let other = subst (λ (r : Rowed). AreNumbersOf (question_of m r) a.numbers) run x.is_found.numbers in
      let more = subst (λ (r : Rowed). AreTriedIn (question_of m r) a.tried) run x.is_found.tried in
      let numbers : a.numbers ≡ b.numbers = one_numbers (question_of m y.run) shape a.numbers b.numbers other y.is_found.numbers in
      let own : a.tried ≡ b.tried = one_tried (question_of m y.run) shape a.tried b.tried more y.is_found.tried in
      λ i. found_so (numbers i) (own i)

  one_list : (count : ℕ) (a b : List Found) → AreFound p asked m count a → AreFound p asked m count b → a ≡ b
  one_list count a b x y =
      same_lists a b (x.long ∙ sym y.long) (λ number f g is at. one_found number f g (x.at number f is) (y.at number g at))

  -- ---- what remedies bring

  one_brought : (number : ℕ) (remedy : Remedy) (less other : ℤ) → BringsIn p asked m number remedy less → BringsIn p asked m number remedy other
      → less ≡ other
  one_brought number remedy less other x y =
      let run : x.run ≡ y.run = one_run p asked number x.run y.run x.is_run y.is_run in
      let q : Question = question_of m y.run in
      let own : Brings q remedy less = subst (λ (r : Rowed). Brings (question_of m r) remedy less) run x.brings in
      let now : own.now ≡ y.brings.now = one_ends (seen q.sharing q.rows) (rows_seen q.sharing q.rows y.is_run.is_rowed.shape) q.workers own.now
      y.brings.now own.now_are y.brings.now_are in
      let left : own.left ≡ y.brings.left = one_ends_after q remedy own.left y.brings.left own.left_are y.brings.left_are in
      own.is ∙ ap (λ (e : Ends). pos (judged e) -ℤ pos (judged own.left)) now ∙ ap (λ (e : Ends). pos (judged y.brings.now) -ℤ pos (judged e)) left
      ∙ sym y.brings.is

  one_columns : (remedies : List Remedy) (count : ℕ) (a b : List (List ℤ)) → AreColumns p asked m remedies count a → AreColumns p asked m remedies count b
      → a ≡ b
  one_columns remedies count a b x y =
      same_lists a b (x.long ∙ sym y.long) (λ place column other ic io.
      same_lists column other (x.each_long place column ic ∙ sym (y.each_long place other io)) (λ number less more il im.
      let r = item_at remedies place (omega (arith, slice_get_within a place column ic, x.long)) in
      one_brought number r.0 less more (x.at place number r.0 column less r.1 ic il) (y.at place number r.0 other more r.1 io im)))

-- ---- numbers and lines

abbrev spread_so : ℕ → ℕ → ℕ → Spread
spread_so least median most = record { least = least; median = median; most = most }

same_spread : (xs : List ℕ) (a b : Spread) → IsSpread xs a → IsSpread xs b → a ≡ b
same_spread xs a b x y =
    let one = one_spread nat_cmp nat_cmp_total nat_cmp-IsAntisymmetric xs a.least a.median a.most b.least b.median b.most x y in
    λ i. spread_so (one.0 i) (one.1 i) (one.2 i)

abbrev spreads_so : Spread → Spread → Spread → Spread → Spread → Spreads
spreads_so rows work span end order = record { rows = rows; work = work; span = span; end = end; order = order }

same_spreads : (numbers : List Numbers) (a b : Spreads) → AreNumbersTold numbers a → AreNumbersTold numbers b → a ≡ b
same_spreads numbers a b x y =
    let e1 = same_spread (map (λ (n : Numbers). n.rows) numbers) a.rows b.rows x.rows y.rows in
    let e2 = same_spread (map (λ (n : Numbers). n.work) numbers) a.work b.work x.work y.work in
    let e3 = same_spread (map (λ (n : Numbers). n.span) numbers) a.span b.span x.span y.span in
    let e4 = same_spread (map (λ (n : Numbers). n.end) numbers) a.end b.end x.end y.end in
    let e5 = same_spread (map (λ (n : Numbers). n.order) numbers) a.order b.order x.order y.order in
    λ i. spreads_so (e1 i) (e2 i) (e3 i) (e4 i) (e5 i)

abbrev line_so : Remedy → ℤ → ℤ → ℤ → ℕ → Line
line_so remedy least median most best_in = record { remedy = remedy; least = least; median = median; most = most; best_in = best_in }

module _ (remedies : List Remedy) (columns : List (List ℤ)) (runs : ℕ) where
  same_line : (place : ℕ) (a b : Line) → IsLineOf remedies columns runs place a → IsLineOf remedies columns runs place b → a ≡ b
  same_line place a b x y =
      let remedy : a.remedy ≡ b.remedy = one_read (slice_get remedies place) a.remedy b.remedy x.remedy y.remedy in
      let one = one_spread int_cmp int_cmp_total int_cmp-IsAntisymmetric (slice_index_or columns place []) a.least a.median a.most b.least b.median b.most x.spread y.spread in
      let best : a.best_in ≡ b.best_in = x.best_in ∙ sym y.best_in in
      λ i. line_so (remedy i) (one.0 i) (one.1 i) (one.2 i) (best i)

  same_lines : (a b : List Line) → AreLines remedies columns runs a → AreLines remedies columns runs b → a ≡ b
  same_lines a b x y =
      let places : List ℕ = told_places remedies columns runs in
      let all : x.all ≡ y.all = same_lists x.all y.all (x.all_are.long ∙ sym y.all_are.long) (λ k l n il im.
      let place = item_at places k (omega (arith, slice_get_within x.all k l il, x.all_are.long)) in
      same_line place.0 l n (x.all_are.at k place.0 l place.1 il) (y.all_are.at k place.0 n place.1 im)) in
      x.are ∙ ap (fold ranked_line []) all ∙ sym y.are

-- ---- all of it

same_single : (p : Program) (sharing : Sharing) (a b : ℕ) → IsSingle p sharing a → IsSingle p sharing b → a ≡ b
same_single p sharing a b x y =
    let rows : x.drawn.record.rows ≡ y.drawn.record.rows = same_rows p 1 _ 0 x.drawn y.drawn x.is_draw y.is_draw in
    one_span (seen sharing y.drawn.record.rows) a b (subst (λ (rs : List Row). IsSpan (seen sharing rs) a) rows x.is_span) y.is_span

module _ (p : Program) (asked : Asked) (m : Manner) where
  same_numbers : (number : ℕ) (a b : Numbers) → AreNumbersIn p asked m number a → AreNumbersIn p asked m number b → a ≡ b
  same_numbers number a b x y =
      let run : x.run ≡ y.run = one_run p asked number x.run y.run x.is_run y.is_run in
      let own : AreNumbersOf (question_of m y.run) a = subst (λ (r : Rowed). AreNumbersOf (question_of m r) a) run x.are in
      one_numbers (question_of m y.run) y.is_run.is_rowed.shape a b own y.are

  pub one_numbers_list : (count : ℕ) (xs ys : List Numbers) → AreNumbersOfRuns p asked m count xs → AreNumbersOfRuns p asked m count ys → xs ≡ ys
  one_numbers_list count xs ys x y =
      same_lists xs ys (x.long ∙ sym y.long) (λ number a b is at. same_numbers number a b (x.at number a is) (y.at number b at))

  -- what is found in runs has their numbers
  numbers_found : (count : ℕ) (all : List Found) → AreFound p asked m count all → AreNumbersOfRuns p asked m count (map (λ f. f.numbers) all)
  numbers_found count all are = record {
    long = length-map all (λ (f : Found). f.numbers) ∙ are.long;
    at = λ number n is.
        let f = got_map (λ (f : Found). f.numbers) all number n is in
        let found = are.at number f.0 f.1 in
        subst (AreNumbersIn p asked m number) f.2 record { run = found.run; is_run = found.is_run; are = found.is_found.numbers };
  }

  pub numbers_told : (many : ManyRuns) (xs : List Numbers) → IsManyRuns p asked m many → AreNumbersOfRuns p asked m asked.runs xs
      → AreNumbersTold xs many.spreads
  numbers_told many xs is x =
      let same : map (λ (f : Found). f.numbers) is.all ≡ xs = one_numbers_list asked.runs _ xs (numbers_found asked.runs is.all is.all_are) x in
      subst (λ (ns : List Numbers). AreNumbersTold ns many.spreads) same is.told.spreads

pub one_answer : (p : Program) (asked : Asked) (m : Manner) (a b : ManyRuns) → IsManyRuns p asked m a → IsManyRuns p asked m b → SayTheSame a b
one_answer p asked m a b x y =
    let all : x.all ≡ y.all = one_list p asked m asked.runs x.all y.all x.all_are y.all_are in
    let mine : AreColumns p asked m (union_of y.all) asked.runs x.columns =
    subst (λ (fs : List Found). AreColumns p asked m (union_of fs) asked.runs x.columns) all x.columns_are in
    let columns : x.columns ≡ y.columns = one_columns p asked m (union_of y.all) asked.runs x.columns y.columns mine y.columns_are in
    let numbers : List Numbers = map (λ (f : Found). f.numbers) y.all in
    let told : IsToldOf asked.runs numbers (union_of y.all) y.columns a =
    subst (λ (cs : List (List ℤ)). IsToldOf asked.runs numbers (union_of y.all) cs a) columns
    (subst (λ (fs : List Found). IsToldOf asked.runs (map (λ (f : Found). f.numbers) fs) (union_of fs) x.columns a) all x.told) in
    let spreads : a.spreads ≡ b.spreads = same_spreads numbers a.spreads b.spreads told.spreads y.told.spreads in
    record {
      runs = told.runs_are ∙ sym y.told.runs_are;
      spreads = spreads;
      single = same_single p m.sharing a.single b.single x.single y.single;
      bins = told.bins ∙ ap (λ (s : Spreads). bins_of (map (λ (n : Numbers). n.end) numbers) s.end.least s.end.most) spreads ∙ sym y.told.bins;
      lines = same_lines (union_of y.all) y.columns asked.runs a.lines.items b.lines.items told.lines y.told.lines;
    }
