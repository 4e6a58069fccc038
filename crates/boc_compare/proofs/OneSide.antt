-- Of a run one thing is known.
use Rattle.std.proofs.Common.{◌≡◌, ◌∙◌, ℕ, List, [], ◌∷◌, length, map, drop, get_or, eqb, Option, ap, refl, subst, sym, arith}
use Rattle.std.specs.Prelude.{sum, count_by}
use Rattle.std.specs.List.{AllByRecursion}
use Rattle.std.proofs.lemmas.List.Elements.{recursion_from_All}
use Rattle.boc_runs.specs.declared.rows.Row.{Row}
use Rattle.boc_runs.specs.Rows.{IsRows}
use Rattle.boc_plans.specs.declared.chain.ChainStep.{ChainStep}
use Rattle.boc_plans.specs.declared.sharing.Sharing.{Sharing}
use Rattle.boc_plans.specs.Plans.{IsEnd}
use Rattle.boc_plans.specs.Seen.{seen}
use Rattle.boc_plans.proofs.Seeing.{rows_seen}
use Rattle.boc_order.specs.Least.{tick_of}
use Rattle.boc_order.proofs.Alone.{one_end}
use Rattle.boc_eager.proofs.EagerPlans.{one_plan}
use Rattle.boc_cowns.specs.declared.hot.HotCown.{HotCown}
use Rattle.boc_cowns.proofs.One.{cowns_same}
use Rattle.boc_remedies.specs.declared.ends.Ends.{Ends}
use Rattle.boc_remedies.specs.Questions.{Asked}
use Rattle.boc_remedies.proofs.OneEnds.{one_ends}
use Rattle.boc_typical.specs.Medians.{IsTypicalOf, ticks_in}
use Rattle.boc_typical.proofs.Middle.{one_median}
use Rattle.boc_typical.proofs.OneTypical.{one_typical}
use Rattle.boc_typical.proofs.TypicalRows.{typical_rows_are}
use Rattle.boc_why.specs.declared.links.Link.{Link}
use Rattle.boc_why.specs.declared.shares.Share.{Share}
use Rattle.boc_why.specs.declared.why.Why.{Why}
use Rattle.boc_why.specs.Shares.{weights_of}
use Rattle.boc_why.specs.Why.{SayTheSame as SayTheSameWhy}
use Rattle.boc_why.proofs.OneWhy.{one_why}
use Rattle.boc_compare.specs.declared.side.Side.{Side}
use Rattle.boc_compare.specs.declared.side.Times.{Times}
use Rattle.boc_compare.specs.declared.totals.Totals.{Totals}
use Rattle.boc_compare.specs.Laws.{SayTheSame}
use Rattle.boc_compare.specs.Sides.{AreTimes, AreTypicalTimes, HasFamilies, IsOrderEnd, IsSide}
use Rattle.boc_compare.specs.Totalled.{AreOfDefs, AreOfFamilies, IsOfDef, IsOfFamily, handed_by, most_held, share_of, waited_by}

-- ---- times

one_times : (rows : List Row) → IsRows rows → (sharing : Sharing) (workers : Option ℕ) (times other : Times) → AreTimes rows sharing workers times
    → AreTimes rows sharing workers other → times ≡ other
one_times rows hr sharing workers times other a b =
    let p : times.work ≡ other.work = a.work ∙ sym b.work in
    let ends : ◌≡◌ {A = Ends} (record { span = times.span; greedy = times.end }) (record { span = other.span; greedy = other.end }) =
    one_ends (seen sharing rows) (rows_seen sharing rows hr) workers (record { span = times.span; greedy = times.end })
    (record { span = other.span; greedy = other.end }) (record { span = a.span; greedy = a.end }) (record { span = b.span; greedy = b.end }) in
    let q : times.span ≡ other.span = ap (λ (e : Ends). e.span) ends in
    let r : times.end ≡ other.end = ap (λ (e : Ends). e.greedy) ends in
    λ i. record { work = p i; span = q i; end = r i }

one_typical_times : (question : Asked) → IsRows question.rows → length question.defs ≡ length question.rows → (times other : Times)
    → AreTypicalTimes question times → AreTypicalTimes question other → times ≡ other
one_typical_times question hr whole times other a b =
    let same : a.after ≡ b.after = one_typical question.rows hr question.defs whole a.after b.after a.typical b.typical in
    one_times b.after (typical_rows_are question.rows hr question.defs whole b.after b.typical) question.sharing question.workers times other
    (subst (λ (rows : List Row). AreTimes rows question.sharing question.workers times) same a.are) b.are

one_order_end : (rows : List Row) → IsRows rows → (end other : ℕ) → IsOrderEnd rows end → IsOrderEnd rows other → end ≡ other
one_order_end rows hr end other a b =
    let same : a.plan.starts.items ≡ b.plan.starts.items =
    one_plan rows hr a.plan.starts.items b.plan.starts.items a.is_plan.eager b.is_plan.eager in
    a.is ∙ one_end rows b.plan.starts.items a.plan.end b.plan.end (subst (λ (plan : List ℕ). IsEnd rows plan a.plan.end) same a.is_plan.ends) b.is_plan.ends
    ∙ sym b.is

-- ---- totals

module _ (Told : Totals → Type 0) (one : (own other : Totals) → Told own → Told other → own.key ≡ other.key → own ≡ other) where
  same_told : (list others : List Totals) → map (λ (own : Totals). own.key) list ≡ map (λ (own : Totals). own.key) others → AllByRecursion Told list
      → AllByRecursion Told others → list ≡ others
  same_told [] [] keys a b = refl
  same_told [] (y ∷ others) keys a b = absurd (omega (arith, ap (length {A = ℕ}) keys))
  same_told (x ∷ list) [] keys a b = absurd (omega (arith, ap (length {A = ℕ}) keys))
  same_told (x ∷ list) (y ∷ others) keys a b =
      ap (λ (own : Totals). own ∷ list) (one x y a.0 b.0 (ap (λ (l : List ℕ). get_or l 0 0) keys))
      ∙ ap (λ (l : List Totals). y ∷ l) (same_told list others (ap (drop 1) keys) a.1 b.1)

same_parts : (own other : Totals) → own.key ≡ other.key → own.count ≡ other.count → own.ticks ≡ other.ticks → own.more ≡ other.more
    → own.chain ≡ other.chain → own ≡ other
same_parts own other key count ticks more chain = λ i. record { key = key i; count = count i; ticks = ticks i; more = more i; chain = chain i }

one_of_def : (rows : List Row) (defs : List ℕ) (by_def : List Share) (own other : Totals) → IsOfDef rows defs by_def own → IsOfDef rows defs by_def other
    → own.key ≡ other.key → own ≡ other
one_of_def rows defs by_def own other a b key = same_parts own other key
    (a.count ∙ ap (λ (k : ℕ). length (ticks_in rows defs k)) key ∙ sym b.count)
    (a.ticks ∙ ap (λ (k : ℕ). sum (ticks_in rows defs k)) key ∙ sym b.ticks)
    (one_median (ticks_in rows defs other.key) own.more other.more (subst (λ (k : ℕ). IsTypicalOf rows defs k own.more) key a.typical) b.typical)
    (a.chain ∙ ap (λ (k : ℕ). share_of k by_def) key ∙ sym b.chain)

one_list_of_defs : (rows : List Row) (defs : List ℕ) (by_def : List Share) (list others : List Totals) → AreOfDefs rows defs by_def list
    → AreOfDefs rows defs by_def others → list ≡ others
one_list_of_defs rows defs by_def list others a b = same_told (IsOfDef rows defs by_def) (one_of_def rows defs by_def) list others (a.keys ∙ sym b.keys)
    (recursion_from_All (IsOfDef rows defs by_def) list a.each) (recursion_from_All (IsOfDef rows defs by_def) others b.each)

one_of_family : (families : List ℕ) (cowns : List HotCown) (links : List Link) (weights : List ℕ) (own other : Totals)
    → IsOfFamily families cowns links weights own → IsOfFamily families cowns links weights other → own.key ≡ other.key → own ≡ other
one_of_family families cowns links weights own other a b key = same_parts own other key
    (a.count ∙ ap (λ (k : ℕ). count_by (λ f. eqb f k) families) key ∙ sym b.count)
    (a.held ∙ ap (λ (k : ℕ). most_held families k cowns) key ∙ sym b.held)
    (a.waited ∙ ap (λ (k : ℕ). waited_by families k cowns) key ∙ sym b.waited)
    (a.chain ∙ ap (λ (k : ℕ). handed_by families k links weights) key ∙ sym b.chain)

one_list_of_families : (families : List ℕ) (cowns : List HotCown) (links : List Link) (weights : List ℕ) (list others : List Totals)
    → AreOfFamilies families cowns links weights list → AreOfFamilies families cowns links weights others → list ≡ others
one_list_of_families families cowns links weights list others a b =
    same_told (IsOfFamily families cowns links weights) (one_of_family families cowns links weights) list others (a.keys ∙ sym b.keys)
    (recursion_from_All (IsOfFamily families cowns links weights) list a.each) (recursion_from_All (IsOfFamily families cowns links weights) others b.each)

one_families : (question : Asked) → IsRows question.rows → (why other : Why) (list others : List Totals) → SayTheSameWhy why other
    → HasFamilies question why list → HasFamilies question other others → list ≡ others
one_families question hr why other list others same a b =
    let cowns : a.hot.cowns.items ≡ b.hot.cowns.items =
    cowns_same question.rows hr question.sharing (length question.families) a.hot b.hot a.hot_is b.hot_is in
    one_list_of_families question.families b.hot.cowns.items other.links.items (weights_of other.profile.chain.steps.items) list others
    (subst (λ (steps : List ChainStep). AreOfFamilies question.families b.hot.cowns.items other.links.items (weights_of steps) list) same.steps
    (subst (λ (links : List Link). AreOfFamilies question.families b.hot.cowns.items links (weights_of why.profile.chain.steps.items) list) same.links
    (subst (λ (l : List HotCown). AreOfFamilies question.families l why.links.items (weights_of why.profile.chain.steps.items) list) cowns a.are)))
    b.are

-- ---- all of it

pub one_side : (question : Asked) (side other : Side) → IsRows question.rows → length question.defs ≡ length question.rows → IsSide question side
    → IsSide question other → SayTheSame side other
one_side question side other hr whole a b =
    let same = one_why question.rows question.sharing question.defs (length question.families) a.why b.why a.why_is b.why_is in
    record {
      rows = a.rows ∙ sym b.rows;
      times = one_times question.rows hr question.sharing question.workers side.times other.times a.times b.times;
      typical = one_typical_times question hr whole side.typical other.typical a.typical b.typical;
      order_end = one_order_end (seen question.sharing question.rows) (rows_seen question.sharing question.rows hr) side.order_end other.order_end
          a.order b.order;
      bound = a.bound ∙ ap tick_of same.least ∙ sym b.bound;
      by_def = a.by_def ∙ same.by_def ∙ sym b.by_def;
      defs = one_list_of_defs question.rows question.defs b.why.by_def.items side.defs.items other.defs.items
          (subst (λ (shares : List Share). AreOfDefs question.rows question.defs shares side.defs.items) same.by_def a.defs) b.defs;
      families = one_families question hr a.why b.why side.families.items other.families.items same a.families b.families;
    }
