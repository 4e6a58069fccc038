use Rattle.std.proofs.Common.{◌≡◌, ◌↔◌, ◌∙◌, ℕ, ◌+◌, IsTrue, Bool, List, length, arith, sym, subst}
use Rattle.std.specs.List.{All}
use Rattle.boc_program.specs.declared.body.Body.{Body}
use Rattle.boc_footprints.specs.declared.spreading.Spawn.{Spawn}
use Rattle.boc_footprints.specs.Spreading.{is_marked, IsBelow, Leads, spawned_by}
use Rattle.boc_footprints.specs.Tables.{naming}
use Rattle.boc_footprints.proofs.Spawning.{spawns_below}
use Rattle.boc_footprints.proofs.Tabled.{IsTable, no_table, table_more, table_exact, table_is_footprint, whole_table}
use Rattle.boc_footprints.proofs.table.footprints_of.Goals as goal

pub reaching-requires : goal.reaching-requires
reaching-requires c =
    let bodies : List Body = c.as_slice-bodies.result.now in
    let same : c.deref.result.now ≡ spawned_by (length bodies) 0 bodies = c.deref.ensures.value ∙ c.in_ok-spawns.ensures in
    subst (λ (all : List Spawn). All (IsBelow (length bodies)) all) (sym same) (spawns_below bodies)

pub loop-cown-init : goal.loop-cown-init
loop-cown-init c =
    subst (λ (table : List (List Bool)). IsTable c.in_ok-spawns.spawns.items c.as_slice-bodies.result.now 0 table) (sym c.new-cowns.ensures.items)
    (no_table c.in_ok-spawns.spawns.items c.as_slice-bodies.result.now)

pub loop-cown-preserved : goal.loop-cown-preserved
loop-cown-preserved c =
    let all : List Spawn = c.in_ok-spawns.spawns.items in
    let bodies : List Body = c.as_slice-bodies.result.now in
    let n : ℕ = c.loop-cown.cown in
    let marks : List Bool = c.in_ok-reaching.field-0 in
    let leads : (kind : ℕ) → (IsTrue (is_marked marks kind) ↔ Leads all (naming n bodies) kind) =
    subst (λ (ss : List Spawn). (kind : ℕ) → (IsTrue (is_marked marks kind) ↔ Leads ss (naming n bodies) kind)) c.deref.ensures.value c.in_ok-reaching.ensures in
    subst (λ (table : List (List Bool)). IsTable all bodies (n + 1) table) (sym {A = List (List Bool)} c.in_ok-push.ensures.items)
    (table_more all bodies n c.loop-cown.cowns.items marks c.loop-cown.invariant leads)

pub returns-clause-exact : goal.returns-clause-exact
returns-clause-exact c =
    table_exact c.args.program.now c.loop-cown.cowns.items
    (whole_table c.args.program.now c.in_ok-spawns.spawns.items c.as_slice-bodies.result.now c.loop-cown.cown c.loop-cown.cowns.items
    c.as_slice-bodies.ensures c.in_ok-spawns.ensures (omega (arith, c.loop-cown-test.false, c.loop-cown.auto.cown-end)) c.loop-cown.invariant)

pub returns-clause-footprint : goal.returns-clause-footprint
returns-clause-footprint c =
    table_is_footprint c.args.program.now c.loop-cown.cowns.items
    (whole_table c.args.program.now c.in_ok-spawns.spawns.items c.as_slice-bodies.result.now c.loop-cown.cown c.loop-cown.cowns.items
    c.as_slice-bodies.ensures c.in_ok-spawns.ensures (omega (arith, c.loop-cown-test.false, c.loop-cown.auto.cown-end)) c.loop-cown.invariant)
