use Rattle.std.proofs.Common.{◌≡◌, sym, ◌∙◌, ap}
use Rattle.std.specs.Prelude.{Some}
use Rattle.boc_runs.specs.machine.Stages.{row_at}
use Rattle.boc_runs.specs.Run.{Member}
use Rattle.boc_dispatch.specs.declared.live.Live.{Live}
use Rattle.boc_dispatch.specs.Inside.{parts_of, IsOfRow}
use Rattle.boc_dispatch.proofs.Homes.{none_open, childless, row_at_slot}
use Rattle.boc_dispatch.proofs.Tables.{live_same}
use Rattle.boc_dispatch.proofs.roster.Roster.has_spawned.Goals as goal

pub returns : goal.returns
returns g c =
    let d = parts_of g.C.Chains.lists g.C.Chains.place c.args.self.now in
    let k = c.requires.sound.kept in
    let runs = c.requires.runs in
    let same = live_same d.live c.args.slot c.index.result.now runs.0 c.index.ensures runs.1.is in
    let x : IsOfRow d c.args.slot c.args.row = record { this = runs.0; is = runs.1.is; row_is = ap row_at runs.1.stage_is } in
    let r = row_at_slot d k c.args.slot c.args.row runs.0 runs.1.is x.row_is in (
      λ yes_is.
          let h = c.has_spawned.ensures.0 yes_is in
          record {
            none_open = none_open d k c.args.slot c.args.row x (ap (λ (l : Live). l.child) same ∙ h.0);
            member = r.member;
            is = r.is;
            all = h.1 ∙ sym (r.spawned_is ∙ ap (λ (l : Live). l.spawned) same);
          },
      λ q.
          let one : q.member ≡ r.member = (let e : Some q.member ≡ Some r.member = sym q.is ∙ r.is in cc) in
          c.has_spawned.ensures.1 (
            sym (ap (λ (l : Live). l.child) same) ∙ childless d k c.args.slot c.args.row x q.none_open,
            q.all ∙ ap (λ (m : Member). m.spawned) one ∙ r.spawned_is ∙ ap (λ (l : Live). l.spawned) same,
          ),
    )
