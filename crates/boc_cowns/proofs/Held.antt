-- For how long cowns are held by one row alone, and until when they are busy: no longer than the span, and no later than the end of any order.
use Rattle.std.proofs.Common.{inl, inr, ℕ, ◌<◌, ◌≤◌, List, get_or, ⊎_elim, arith}
use Rattle.std.specs.Prelude.{All}
use Rattle.std.specs.List.{Contains}
use Rattle.std.proofs.lemmas.Bool.{cases_lt}
use Rattle.std.proofs.lemmas.Option.{slice_get-get_or}
use Rattle.boc_runs.specs.declared.rows.Row.{Row}
use Rattle.boc_runs.specs.Rows.{IsRows, written_of}
use Rattle.boc_plans.specs.Plans.{ConflictOn, IsEnd, Keeps}
use Rattle.boc_plans.specs.Seen.{seen}
use Rattle.boc_plans.specs.declared.sharing.Sharing.{Sharing}
use Rattle.boc_plans.proofs.Seeing.{rows_seen}
use Rattle.boc_order.specs.Least.{KeepsApart, KeepsSpawns}
use Rattle.boc_order.proofs.LeastBusy.{busy_from}
use Rattle.boc_order.proofs.LeastLoads.{load_ends}
use Rattle.boc_cowns.specs.declared.hot.HotCown.{HotCown}
use Rattle.boc_cowns.specs.declared.hot.HotCowns.{HotCowns}
use Rattle.boc_cowns.specs.Hot.{IsHotCowns, busy_until}

-- ---- no longer than the span

conflict_back : (rows : List Row) (c a b : ℕ) → ConflictOn rows c a b → ConflictOn rows c b a
conflict_back rows c a b h = record {
  first = h.second;
  second = h.first;
  wrote = ⊎_elim (λ (w : Contains (written_of rows a) c). inr w) (λ (w : Contains (written_of rows b) c). inl w) h.wrote;
}

-- a plan that keeps the order of the rows keeps them apart
apart : (rows : List Row) (plan : List ℕ) → Keeps rows plan → KeepsApart rows plan
apart rows plan keeps a b c other ha hb h = ⊎_elim
    (λ (less : a < b). inl (keeps.in_order a b hb (record { before = less; shared = (c, h) })))
    (λ (more : b ≤ a). inr (keeps.in_order b a ha (record { before = omega (arith, more, other); shared = (c, conflict_back rows c a b h) })))
    (cases_lt a b)

-- no cown that is told of is held for longer
pub held_within : (list : List Row) (sharing : Sharing) (count : ℕ) (hot : HotCowns) → IsRows list → IsHotCowns list sharing count hot
    → All (λ own. own.held ≤ hot.span) hot.cowns.items
held_within list sharing count hot shape is k d h =
    let rows = seen sharing list in
    let own : HotCown = get_or hot.cowns.items k d in
    omega (
      arith,
      (is.each k own (slice_get-get_or hot.cowns.items k d h)).held,
      load_ends rows (rows_seen sharing list shape) is.plan hot.span own.cown (apart rows is.plan is.earliest.keeps) is.ends,
    )

-- ---- busy in every order

-- a cown that is told of is busy until no later tick than the end of any order
pub busy_within : (list : List Row) (sharing : Sharing) (count : ℕ) (hot : HotCowns) (plan : List ℕ) (last : ℕ) → IsRows list
    → IsHotCowns list sharing count hot → KeepsSpawns (seen sharing list) plan → KeepsApart (seen sharing list) plan
    → IsEnd (seen sharing list) plan last → All (λ own. busy_until own ≤ last) hot.cowns.items
busy_within list sharing count hot plan last shape is keeps kept end k d h =
    let rows = seen sharing list in
    let own : HotCown = get_or hot.cowns.items k d in
    let one = is.each k own (slice_get-get_or hot.cowns.items k d h) in
    omega (
      arith,
      one.held,
      busy_from rows (rows_seen sharing list shape) is.least.spawned plan last hot.least.spawns is.least.by_spawns keeps kept end own.cown own.from one.from,
    )
