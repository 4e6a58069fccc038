use Rattle.std.proofs.Common.{◌≡◌, ◌+◌, ◌∙◌, ℕ, List, eqb, length, set, sym, ap, subst, arith}
use Rattle.std.specs.Prelude.{Option, Some, None}
use Rattle.std.proofs.lemmas.Bool.Decides.{Decides-eqb}
use Rattle.boc_machine_laws.proofs.Lists.{not_eq}
use Rattle.boc_dispatch.specs.declared.live.Live.{Live}
use Rattle.boc_dispatch.specs.Inside.{Parts, live_at, parts_of}
use Rattle.boc_dispatch.specs.Moves.{Records}
use Rattle.boc_dispatch.specs.Places.{with_child}
use Rattle.boc_dispatch.proofs.Seated.{set_back}
use Rattle.boc_dispatch.proofs.Tables.{live_other, live_changed, live_same}
use Rattle.boc_dispatch.proofs.roster.Roster.put_child.Goals as goal

-- with this table, except for what is at a parent's slot
abbrev with_both : Parts → ℕ → List (Option Live) → Option Live → Parts
with_both d parent table place = record d { live = set table parent place; opened = d.opened + 1; steps = d.steps + 1 }

pub returns-clause-puts : goal.returns-clause-puts
returns-clause-puts g c child this at is =
    let d = parts_of g.C.Chains.lists g.C.Chains.place c.args.self.now in
    let e = parts_of g.C.Chains.lists g.C.Chains.place c.step_asking.new.self in
    let slot = c.args.slot in
    let parent = c.args.parent in
    let table = c.args.self.now.live.slots in
    let is_set : table ≡ set (set table slot None) slot (Some child) = sym (set_back table slot child at) in
    let same : c.index-child.result.now ≡ child = live_same table slot child c.index-child.result.now at c.index-child.ensures in
    let new_is = live_changed (with_child (Some slot)) table parent this c.index_mut.result.now c.begin_child.new.self is c.index_mut.ensures.value
    c.begin_child.ensures in
    let held = Some (with_child (Some slot) this) in
    let settled : c.is_empty-is_settled.result ≡ eqb (length child.cowns.items) 0 =
    c.is_empty-is_settled.ensures ∙ ap (λ cs. eqb (length cs) 0) (c.as_slice.ensures.value ∙ ap (λ (x : Live). x.cowns.items) same) in
    record {
      asks = λ some. subst (λ (t : List (Option Live)). e ≡ with_both d parent t held) is_set
          (subst (λ (o : Option Live). e ≡ with_both d parent table o) (sym new_is)
          (c.step_asking.ensures.asks (settled ∙ not_eq (length child.cowns.items) 0 (λ f. absurd (omega arith)))));
      records = λ none. subst (λ (t : List (Option Live)). Records (with_both d parent t held) parent slot e) is_set
          (subst (λ (o : Option Live). Records (with_both d parent table o) parent slot e) (sym new_is)
          (c.step_asking.ensures.records (settled ∙ (Decides-eqb (length child.cowns.items) 0).1 none)));
    }

pub step_asking-requires-clause-may : goal.step_asking-requires-clause-may
step_asking-requires-clause-may g c = λ yes.
    let slot = c.args.slot in
    let parent = c.args.parent in
    let table = c.args.self.now.live.slots in
    let child = c.requires.0 in
    let may = c.requires.2 in
    let same : c.index-child.result.now ≡ child = live_same table slot child c.index-child.result.now c.requires.1 c.index-child.ensures in
    let settled : c.is_empty-is_settled.result ≡ eqb (length child.cowns.items) 0 =
    c.is_empty-is_settled.ensures ∙ ap (λ cs. eqb (length cs) 0) (c.as_slice.ensures.value ∙ ap (λ (x : Live). x.cowns.items) same) in
    let none : length child.cowns.items ≡ 0 = (Decides-eqb (length child.cowns.items) 0).0 (sym settled ∙ yes) in
    let is : live_at table parent ≡ Some may.this = sym (live_other table slot None parent may.apart) ∙ may.is in
    let new_is = live_changed (with_child (Some slot)) table parent may.this c.index_mut.result.now c.begin_child.new.self is c.index_mut.ensures.value
    c.begin_child.ensures in
    let held = Some (with_child (Some slot) may.this) in
    let table_is : set (set (set table slot None) slot (Some child)) parent held ≡ set table parent (Some c.begin_child.new.self) =
    ap (λ t. set t parent held) (set_back table slot child c.requires.1) ∙ ap (set table parent) new_is in
    let m = may.may none in
    record {
      recorder = m.recorder;
      this = m.this;
      recorder_is = subst (λ (t : List (Option Live)). live_at t parent ≡ Some m.recorder) table_is m.recorder_is;
      this_is = subst (λ (t : List (Option Live)). live_at t slot ≡ Some m.this) table_is m.this_is;
      apart = m.apart;
      few = m.few;
      row_fits = m.row_fits;
      allowed = m.allowed;
      room = m.room;
      home = m.home;
    }
