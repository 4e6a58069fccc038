-- What holds of the rows of a legal log besides: one that hasn't ended has no ticks, and no offset of a child is above the most ticks.
use Rattle.std.proofs.Common.{◌≡◌, ℕ, ◌≤◌, List, [], ◌∷◌, ◌++◌, refl, sym, ◌∙◌, ap, subst, inl, inr, arith}
use Rattle.std.specs.Prelude.{slice_get, slice_set, Option, Some, None}
use Rattle.boc_program.specs.Changed.{changed}
use Rattle.boc_program.specs.declared.limits.TheConstants.{MOST_TICKS}
use Rattle.boc_runs.specs.declared.event.Event.{Event}
use Rattle.boc_runs.specs.declared.event.Event.TheVariants.{Spawn, Start, End}
use Rattle.boc_runs.specs.declared.event.BrokenRule.TheVariants as rules
use Rattle.boc_runs.specs.Lives.{Pending, Running, Ended}
use Rattle.boc_runs.specs.Legal.{Entry, pending, after, after_all, life_of, IsOffset, IsAllowed, IsLegalFrom}
use Rattle.boc_rules.specs.Course.{AreLegal}
use Rattle.boc_rules.proofs.Lists.{got_set, got_push}
use Rattle.boc_rules.proofs.Next.{life_at, not_pending_ended}

pub record IsSound (e : Entry) : Type 0 where
  pub unended : (e.life ≡ Ended → ⊥) → e.ticks ≡ 0
  pub short : e.last ≤ MOST_TICKS

pub record AreSound (rows : List Entry) : Type 0 where
  pub each : (r : ℕ) (e : Entry) → slice_get rows r ≡ Some e → IsSound e

sound_set : (rows : List Entry) (r : ℕ) (v : Entry) → AreSound rows → IsSound v → AreSound (slice_set rows r v)
sound_set rows r v s is = record {
  each = λ k x g. elim (got_set rows r k v x g) [ inl p ↦ subst IsSound p.1 is | inr p ↦ s.each k x p.1 ];
}

sound_push : (rows : List Entry) (v : Entry) → AreSound rows → IsSound v → AreSound (rows ++ v ∷ [])
sound_push rows v s is = record {
  each = λ k x g. elim (got_push rows k v x g) [ inl p ↦ s.each k x p | inr p ↦ subst IsSound p.1 is ];
}

sound_changed : (rows : List Entry) (r : ℕ) (f : Entry → Entry) (o : Option Entry) → AreSound rows → ((e : Entry) → o ≡ Some e → IsSound (f e))
    → AreSound (changed rows r f o)
sound_changed rows r f None s is = s
sound_changed rows r f (Some e) s is = sound_set rows r (f e) s (is e refl)

short_offset : (rows : List Entry) (parent offset : ℕ) → IsOffset rows parent offset → offset ≤ MOST_TICKS
short_offset [] parent offset h = omega (arith, h)
short_offset (main ∷ others) parent offset h = h.1

not_ended : (rows : List Entry) (r : ℕ) (e : Entry) → life_of rows r ≡ Some Pending → slice_get rows r ≡ Some e → e.life ≡ Ended → ⊥
not_ended rows r e waits g over =
    let f : Some Pending ≡ Some Ended = sym waits ∙ life_at rows r e g ∙ ap Some over in
    not_pending_ended cc

sound_after : (count : ℕ) (rows : List Entry) (event : Event) → IsAllowed count rows event → AreSound rows → AreSound (after rows event)
sound_after count rows (Spawn row parent offset cowns) a s =
    sound_push (changed rows parent (λ (e : Entry). record e { last = offset }) (slice_get rows parent)) (pending parent offset cowns.items)
    (sound_changed rows parent (λ (e : Entry). record e { last = offset }) (slice_get rows parent) s
    (λ e g. record { unended = (s.each parent e g).unended; short = short_offset rows parent offset (a.keeps rules.Offset) }))
    (record { unended = λ _. refl; short = omega arith })
sound_after count rows (Start row) a s =
    sound_changed rows row (λ (e : Entry). record e { life = Running }) (slice_get rows row) s
    (λ e g. record {
      unended = λ _. (s.each row e g).unended (not_ended rows row e (a.keeps rules.StartNotAllowed).waits g);
      short = (s.each row e g).short;
    })
sound_after count rows (End row ticks status written) a s =
    sound_changed rows row (λ (e : Entry). record e { life = Ended; ticks = ticks; status = status; written = written.items }) (slice_get rows row) s
    (λ e g. record { unended = λ n. absurd (n refl); short = (s.each row e g).short })

sound_all : (count : ℕ) (rows : List Entry) (events : List Event) → IsLegalFrom count rows events → AreSound rows → AreSound (after_all rows events)
sound_all count rows [] l s = s
sound_all count rows (event ∷ events) l s = sound_all count (after rows event) events l.1 (sound_after count rows event l.0 s)

none_sound : AreSound []
none_sound = record { each = λ r e g. absurd (let f : None ≡ Some e = g in cc) }

-- the rows of a legal log are sound
pub sound_rows : (cowns : ℕ) (rows : List Entry) → AreLegal cowns rows → AreSound rows
sound_rows cowns rows l = subst AreSound (sym l.rows_are) (sound_all cowns [] l.log l.legal none_sound)
