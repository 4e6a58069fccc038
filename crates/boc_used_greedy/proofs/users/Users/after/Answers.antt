use Rattle.std.proofs.Common.{◌≡◌, inl, inr, ◌∙◌, ℕ, ◌+◌, ◌<◌, List, [], length, sym, subst, ap, arith}
use Rattle.std.specs.Prelude.{slice_index}
use Rattle.std.specs.List.{Contains}
use Rattle.std.proofs.lemmas.Bool.{cases_lt}
use Rattle.std.proofs.lemmas.List.{get_or_default, length-drop}
use Rattle.std.proofs.lemmas.Option.{slice_get_within}
use Rattle.boc_runs.specs.Rows.{cowns_of}
use Rattle.boc_turns.specs.Turns.{cowns_before}
use Rattle.boc_turns.proofs.Counting.{own_enough}
use Rattle.boc_used_greedy.specs.Users.{IsNextUser}
use Rattle.boc_used_greedy.proofs.users.Users.after.Goals as goal

pub index-requires : goal.index-requires
index-requires c =
    let rows = c.args.rows.now in
    let all = c.args.holds.now.all.items in
    let are = c.requires.holds.are_uses in
    let p = c.place.ensures in
    omega (
      arith,
      p.is,
      slice_get_within (cowns_of rows c.args.row) p.own c.args.own p.there,
      own_enough rows all are c.args.row c.requires.there,
      length-drop (cowns_before rows c.args.row) all,
      are.whole,
      c.requires.users.cowns.next_whole,
      c.args.self.now.next.ok.0,
    )

pub returns : goal.returns
returns c =
    let rows = c.args.rows.now in
    let row : ℕ = c.args.row in
    let all = c.args.holds.now.all.items in
    let next = c.args.self.now.next.items in
    let are = c.requires.holds.are_uses in
    let users = c.requires.users.cowns in
    let p = c.place.ensures in
    let low = slice_get_within (cowns_of rows row) p.own c.args.own p.there in
    let enough = own_enough rows all are row c.requires.there in
    let there : c.place.result < length next =
    omega (arith, p.is, low, enough, length-drop (cowns_before rows row) all, are.whole, users.next_whole) in
    let is : c.index.result.now ≡ slice_index next (cowns_before rows row + p.own) =
    c.index.ensures ∙ (sym (get_or_default next c.place.result 0 c.index.result.now there) ∙ ap (slice_index next) p.is) in
    let above : 0 < row = elim (cases_lt 0 row) [
      | inl lt ↦ lt
      | inr ge ↦ absurd (
          let main : row ≡ 0 = omega (arith, ge) in
          let none : cowns_of rows row ≡ [] = ap (cowns_of rows) main ∙ c.requires.shape.main_cowns in
          let has : Contains [] c.args.own = subst (λ (l : List ℕ). Contains l c.args.own) none c.requires.own in
          omega (arith, has.1))
    ] in
    subst (IsNextUser rows c.args.own (row + 1)) (sym is)
    (users.next_is row p.own c.args.own (omega (arith, above)) c.requires.there p.there)
