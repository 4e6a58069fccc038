-- The rows of a legal log stay well, event by event.
use Rattle.std.proofs.Common.{◌≡◌, ℕ, ◌<◌, ◌≤◌, ◌⊎◌, List, [], ◌∷◌, ◌++◌, length, refl, sym, ◌∙◌, ap, subst, inl, inr, arith}
use Rattle.std.proofs.Math.ListN.{length-set}
use Rattle.std.specs.Prelude.{slice_get, slice_set, Option, Some, None}
use Rattle.std.specs.Option.{option_map, option_map_or}
use Rattle.std.specs.List.{Contains}
use Rattle.std.proofs.lemmas.Option.{slice_get_within}
use Rattle.boc_program.specs.declared.body.EndStatus.{EndStatus}
use Rattle.boc_runs.specs.declared.event.Event.{Event}
use Rattle.boc_runs.specs.declared.event.Event.TheVariants.{Spawn, Start, End}
use Rattle.boc_runs.specs.declared.event.BrokenRule.TheVariants as rules
use Rattle.boc_program.specs.declared.limits.TheConstants.{MOST_ROWS}
use Rattle.boc_program.specs.Cowns.{AreCowns, AreAmong}
use Rattle.boc_program.specs.Changed.{changed}
use Rattle.boc_runs.specs.Lives.{Life, Pending, Running, Ended, MayStart, Overlap}
use Rattle.boc_runs.specs.Legal.{Entry, pending, after, after_all, life_of, entry_cowns, last_of, MayEnd, MayNeed, IsParent, IsOffset, IsAllowed, IsLegalFrom}
use Rattle.boc_runs.specs.Legal.{IsLegal, entries}
use Rattle.boc_rules.proofs.Lists.{set_same, one_got, got_at}
use Rattle.boc_rules.proofs.Well.{IsWell, IsNext, IsSpawnable, came_from, well_set, well_push}

pub not_pending_running : Pending ≡ Running → ⊥
not_pending_running e = cc

pub not_pending_ended : Pending ≡ Ended → ⊥
not_pending_ended e = cc

pub not_running_ended : Running ≡ Ended → ⊥
not_running_ended e = cc

-- a row whose life is known is there
living_at : (o : Option Entry) (l : Life) → option_map (λ (e : Entry). e.life) o ≡ Some l → (e : Entry) × (o ≡ Some e) × (e.life ≡ l)
living_at None l h = absurd (let f : None ≡ Some l = h in cc)
living_at (Some e) l h = (e, refl, (let f : Some e.life ≡ Some l = h in cc))

pub living : (rows : List Entry) (r : ℕ) (l : Life) → life_of rows r ≡ Some l → (e : Entry) × (slice_get rows r ≡ Some e) × (e.life ≡ l)
living rows r l h = living_at (slice_get rows r) l h

pub life_at : (rows : List Entry) (r : ℕ) (e : Entry) → slice_get rows r ≡ Some e → life_of rows r ≡ Some e.life
life_at rows r e h = ap (option_map (λ (x : Entry). x.life)) h

pub cowns_at : (rows : List Entry) (r : ℕ) (e : Entry) → slice_get rows r ≡ Some e → entry_cowns rows r ≡ e.cowns
cowns_at rows r e h = ap (λ (o : Option Entry). option_map_or (λ (x : Entry). x.cowns) o []) h

pub last_at : (rows : List Entry) (r : ℕ) (e : Entry) → slice_get rows r ≡ Some e → last_of rows r ≡ e.last
last_at rows r e h = ap (λ (o : Option Entry). option_map_or (λ (x : Entry). x.last) o 0) h

pub life_cases : (l : Life) → (l ≡ Pending) ⊎ ((l ≡ Running) ⊎ (l ≡ Ended))
life_cases Pending = inl refl
life_cases Running = inr (inl refl)
life_cases Ended = inr (inr refl)

-- entries that share a cown overlap
pub overlap : (rows : List Entry) (a b c : ℕ) (d e : Entry) → slice_get rows a ≡ Some d → slice_get rows b ≡ Some e → Contains d.cowns c → Contains e.cowns c
    → Overlap (entry_cowns rows) a b
overlap rows a b c d e g h hd he =
    (c, subst (λ (cs : List ℕ). Contains cs c) (sym (cowns_at rows a d g)) hd, subst (λ (cs : List ℕ). Contains cs c) (sym (cowns_at rows b e h)) he)

pub start_next : (count : ℕ) (rows : List Entry) (r : ℕ) (e : Entry) → IsWell count rows → MayStart (life_of rows) (entry_cowns rows) r
    → slice_get rows r ≡ Some e → e.life ≡ Pending → IsNext rows r e (record e { life = Running })
start_next count rows r e w may is waits = record {
  is = is;
  like = record { parent = refl; offset = refl; cowns = refl; last = omega arith };
  ticks = λ f. absurd (not_running_ended f);
  after_others = λ a d c less g hd he np. elim (life_cases d.life) [
    | inl p ↦ absurd (may.none_earlier a less (life_at rows a d g ∙ ap (λ (l : Life). Some l) p) (overlap rows r a c e d is g he hd))
    | inr p ↦ elim p [
      | inl q ↦ absurd (may.none_running a (life_at rows a d g ∙ ap (λ (l : Life). Some l) q) (overlap rows r a c e d is g he hd))
      | inr q ↦ q
    ]
  ];
  before_others = λ b d c less g he hd np. absurd (not_pending_ended (sym waits ∙ w.in_turn r b e d c less is g he hd np));
}

pub end_next : (count : ℕ) (rows : List Entry) (r ticks : ℕ) (status : EndStatus) (written : List ℕ) (e : Entry) → IsWell count rows
    → MayEnd rows r ticks written → slice_get rows r ≡ Some e → e.life ≡ Running
    → IsNext rows r e (record e { life = Ended; ticks = ticks; status = status; written = written })
end_next count rows r ticks status written e w may is runs = record {
  is = is;
  like = record { parent = refl; offset = refl; cowns = refl; last = omega arith };
  ticks = λ f. record {
    low = may.low;
    high = may.high;
    cover = subst (λ (l : ℕ). l ≤ ticks) (last_at rows r e is) may.covers;
    own = subst (λ (cs : List ℕ). AreAmong cs written) (cowns_at rows r e is) may.own;
  };
  after_others = λ a d c less g hd he np. w.in_turn a r d e c less g is hd he (λ l. not_pending_running (sym l ∙ runs));
  before_others = λ b d c less g he hd np. refl;
}

pub spawn_next : (count : ℕ) (rows : List Entry) (r offset : ℕ) (e : Entry) → IsWell count rows → slice_get rows r ≡ Some e → e.life ≡ Running → e.last < offset
    → IsNext rows r e (record e { last = offset })
spawn_next count rows r offset e w is runs more = record {
  is = is;
  like = record { parent = refl; offset = refl; cowns = refl; last = omega arith };
  ticks = λ f. absurd (not_running_ended (sym runs ∙ f));
  after_others = λ a d c less g hd he np. w.in_turn a r d e c less g is hd he np;
  before_others = λ b d c less g he hd np. w.in_turn r b e d c less is g he hd np;
}

spawnable : (count : ℕ) (rows : List Entry) (r offset : ℕ) (cowns : List ℕ) (e : Entry) → IsWell count rows → slice_get rows r ≡ Some e → e.life ≡ Running
    → e.last < offset
    → length rows < MOST_ROWS → AreCowns count cowns → IsSpawnable count (slice_set rows r (record e { last = offset })) r offset cowns
spawnable count rows r offset cowns e w is runs more few cowned =
    let v : Entry = record e { last = offset } in
    let n = spawn_next count rows r offset e w is runs more in
    let long = length-set rows r v in
    let inside = slice_get_within rows r e is in record {
      few = omega (arith, long, few);
      cowned = cowned;
      main = λ none. absurd (omega (arith, long, inside, none));
      child = λ some. record {
        before = omega (arith, long, inside);
        above = omega (arith, more);
        spawner = v;
        is = set_same rows r v e is;
        reached = omega arith;
      };
      siblings = λ a d main g same.
          let y = came_from rows r e v a d n.is n.like g in
          let h = w.child a y.0 main y.1 in
          let one : h.spawner ≡ e = one_got rows r h.spawner e (got_at rows r y.0.parent h.spawner (sym same ∙ y.2.parent) h.is) is in
          omega (arith, y.2.offset, h.reached, ap (λ (z : Entry). z.last) one, more);
    }

spawn_changed : (rows : List Entry) (r offset : ℕ) (v e : Entry) → slice_get rows r ≡ Some e
    → changed rows r (λ x. record x { last = offset }) (slice_get rows r) ++ (v ∷ []) ≡ slice_set rows r (record e { last = offset }) ++ (v ∷ [])
spawn_changed rows r offset v e is = ap (λ (o : Option Entry). changed rows r (λ x. record x { last = offset }) o ++ (v ∷ [])) is

well_spawn : (count : ℕ) (rows : List Entry) (row parent offset : ℕ) (cowns : List ℕ) → IsWell count rows → row ≡ length rows → row < MOST_ROWS
    → IsParent rows parent → IsOffset rows parent offset → MayNeed count rows cowns
    → IsWell count (changed rows parent (λ x. record x { last = offset }) (slice_get rows parent) ++ (pending parent offset cowns ∷ []))
well_spawn count [] row parent offset cowns w next few p o m =
    well_push count [] parent offset cowns w (record {
      few = omega (arith, few, next);
      cowned = subst (λ (cs : List ℕ). AreCowns count cs) (sym m) (record { rise = λ k h. absurd (omega arith); below = λ k d h. absurd (omega arith) });
      main = λ none. (p, o, m);
      child = λ some. absurd (omega arith);
      siblings = λ a d main g same. absurd (let f : None ≡ Some d = g in cc);
    })
well_spawn count (main ∷ others) row parent offset cowns w next few p o m =
    let rows = main ∷ others in
    let e = living rows parent Running p in
    let more : e.0.last < offset = subst (λ (l : ℕ). l < offset) (last_at rows parent e.0 e.1) o.0 in
    let n = spawn_next count rows parent offset e.0 w e.1 e.2 more in
    subst (IsWell count) (sym (spawn_changed rows parent offset (pending parent offset cowns) e.0 e.1))
    (well_push count (slice_set rows parent (record e.0 { last = offset })) parent offset cowns
    (well_set count rows parent e.0 (record e.0 { last = offset }) w n)
    (spawnable count rows parent offset cowns e.0 w e.1 e.2 more (subst (λ (k : ℕ). k < MOST_ROWS) next few) m))

pub well_after : (count : ℕ) (rows : List Entry) (event : Event) → IsWell count rows → IsAllowed count rows event → IsWell count (after rows event)
well_after count rows (Spawn row parent offset cowns) w a =
    well_spawn count rows row parent offset cowns.items w (a.keeps rules.NumberNotNext) (a.keeps rules.TooMany) (a.keeps rules.ParentNotRunning)
    (a.keeps rules.Offset) (a.keeps rules.Cowns)
well_after count rows (Start row) w a =
    let may : MayStart (life_of rows) (entry_cowns rows) row = a.keeps rules.StartNotAllowed in
    let e = living rows row Pending may.waits in
    let v : Entry = record e.0 { life = Running } in
    subst (IsWell count) (sym (ap (changed rows row (λ x. record x { life = Running })) e.1))
    (well_set count rows row e.0 v w (start_next count rows row e.0 w may e.1 e.2))
well_after count rows (End row ticks status written) w a =
    let may : MayEnd rows row ticks written.items = a.keeps rules.EndNotAllowed in
    let e = living rows row Running may.runs in
    let v : Entry = record e.0 { life = Ended; ticks = ticks; status = status; written = written.items } in
    subst (IsWell count) (sym (ap (changed rows row (λ x. record x { life = Ended; ticks = ticks; status = status; written = written.items })) e.1))
    (well_set count rows row e.0 v w (end_next count rows row ticks status written.items e.0 w may e.1 e.2))

well_none : (count : ℕ) → IsWell count []
well_none count = record {
  few = omega arith;
  main = λ e g. absurd (let f : None ≡ Some e = g in cc);
  cowned = λ r e g. absurd (let f : None ≡ Some e = g in cc);
  child = λ r e more g. absurd (let f : None ≡ Some e = g in cc);
  siblings = λ a b d e main less g h same. absurd (let f : None ≡ Some d = g in cc);
  ended = λ r e g over. absurd (let f : None ≡ Some e = g in cc);
  in_turn = λ a b d e c less g h hd he np. absurd (let f : None ≡ Some d = g in cc);
}

well_all : (count : ℕ) (rows : List Entry) (log : List Event) → IsWell count rows → IsLegalFrom count rows log → IsWell count (after_all rows log)
well_all count rows [] w l = w
well_all count rows (event ∷ log) w l = well_all count (after rows event) log (well_after count rows event w l.0) l.1

-- the rows of a legal log are well
pub well_log : (count : ℕ) (log : List Event) → IsLegal count log → IsWell count (entries log)
well_log count log l = well_all count [] log (well_none count) l

-- one event more
pub after_more : (rows : List Entry) (log : List Event) (event : Event) → after_all rows (log ++ (event ∷ [])) ≡ after (after_all rows log) event
after_more rows [] event = refl
after_more rows (first ∷ log) event = after_more (after rows first) log event

pub legal_more : (count : ℕ) (rows : List Entry) (log : List Event) (event : Event) → IsLegalFrom count rows log → IsAllowed count (after_all rows log) event
    → IsLegalFrom count rows (log ++ (event ∷ []))
legal_more count rows [] event l a = (a, tt)
legal_more count rows (first ∷ log) event l a = (l.0, legal_more count (after rows first) log event l.1 a)
