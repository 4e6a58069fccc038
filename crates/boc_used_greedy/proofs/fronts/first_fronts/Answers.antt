use Rattle.std.proofs.Common.{◌≡◌, ◌∙◌, ℕ, ◌<◌, refl, subst, sym, arith}
use Rattle.std.specs.Prelude.{slice_index}
use Rattle.std.proofs.lemmas.List.{get_or_default, length_push}
use Rattle.boc_program.specs.declared.limits.TheConstants.{MOST_COWNS}
use Rattle.boc_used_greedy.specs.Users.{IsNextUser}
use Rattle.boc_used_greedy.proofs.FirstFronts.{first_come, fronts_more}
use Rattle.boc_used_greedy.proofs.fronts.first_fronts.Goals as goal

pub go_on-requires-clause-come : goal.go_on-requires-clause-come
go_on-requires-clause-come c =
    let rows = c.args.rows.now in
    let first = c.args.users.now.first.items in
    let cown : ℕ = c.loop-cown.cown in
    let at : ℕ = c.index.result.now in
    let u = c.requires.users.cowns in
    let low : cown < MOST_COWNS = omega (arith, c.loop-cown-test.true) in
    let read : at ≡ slice_index first cown = c.index.ensures ∙ sym (get_or_default first cown 0 at (omega (arith, low, u.first_whole))) in
    let user : IsNextUser rows cown 1 at = subst (IsNextUser rows cown 1) (sym read) (u.first_is cown low) in
    first_come rows c.args.holds.now.all.items c.args.starts.now c.requires.shape cown (record { at = at; told = 0; held = 0; wrote = 0 }) user refl refl

pub loop-cown-preserved : goal.loop-cown-preserved
loop-cown-preserved c =
    let i = c.loop-cown.invariant in
    let cown : ℕ = c.loop-cown.cown in
    let fronts = c.loop-cown.fronts.items in
    let front = c.in_ok-go_on.field-0 in
    record {
      whole = rw c.push_reserved.ensures.items (omega (arith, length_push fronts front, i.whole));
      room = omega (arith, c.push_reserved.ensures.capacity, i.room);
      are = rw c.push_reserved.ensures.items (fronts_more c.args.rows.now c.args.holds.now.all.items c.args.starts.now cown fronts front i.whole i.are
          c.in_ok-go_on.ensures.front);
      rows = c.in_ok-go_on.ensures.rows;
    }
