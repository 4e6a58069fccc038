-- Fronts are spread one by one.
use Rattle.std.proofs.Common.{◌≡◌, ◌≢◌, ◌⊎◌, ℕ, zero, suc, ◌+◌, ◌<◌, ◌≤◌, inl, inr, List, [], ◌∷◌, ◌++◌, length, refl, sym, ◌∙◌, ap, subst, arith}
use Rattle.std.specs.List.{Contains}
use Rattle.boc_program.specs.declared.program.Program.{Program}
use Rattle.boc_program.proofs.RisingNumbers.{none_in_none}
use Rattle.boc_fronts.specs.Fronts as fronts
use Rattle.boc_fronts.proofs.Arranging.{steps_lead}
use Rattle.boc_closed_sets.specs.Covers.{Covers}
use Rattle.boc_closed_sets.specs.Enough.{IsEnough}
use Rattle.boc_closed_sets.proofs.Covering.{next_covers}
use Rattle.boc_front_rows.specs.declared.row.Front.{Front}
use Rattle.boc_front_rows.specs.Seen.{front_of}
use Rattle.boc_front_rows.proofs.Mapped.{has_mapped, mapped_has}
use Rattle.boc_front_rows.proofs.Places.{has_old, has_last, old_or_last}
use Rattle.boc_all_ends.specs.Stepping.{Grows, IsKept, Steps}
use Rattle.boc_all_ends.specs.Spreading.{seen, AreKept, HasSteps, IsPut, IsSpread, IsSpreadAt, AreSpread}
use Rattle.boc_all_ends.specs.Searching.{StandsAt}
use Rattle.boc_all_ends.proofs.Seeing.{Lists, same_front}

-- a step leads from front to front
pub leads : (p : Program) (a b : Lists) (f g : Front) (i : ℕ) → Steps p a f i b g → fronts.Leads p (front_of a f) i (front_of b g)
leads p a b f g i s = steps_lead p (front_of a f) s.stepped (front_of b g) i s.order s.step s.arranged

-- where a step leads is seen alike while lists are added
leads_on : (p : Program) (a b : Lists) (x : fronts.Front) (i most : ℕ) (fs : List Front) (g : Front) → Grows a b → AreKept a most fs → Contains fs g
    → fronts.Leads p x i (front_of a g) → fronts.Leads p x i (front_of b g)
leads_on p a b x i most fs g grows kept among h =
    subst (λ (z : fronts.Front). fronts.Leads p x i z) (sym (same_front a b g grows (kept g among).there)) h

pub spread_none : (p : Program) (x : fronts.Front) (lists : Lists) (old : List Front) → IsSpreadAt p x [] lists old old
spread_none p x lists old = record {
  stays = λ g h. h;
  only = λ g h. inl h;
  all = λ i at. absurd (none_in_none i at);
}

-- the step at one place more
pub spread_put : (p : Program) (x : fronts.Front) (ns : List ℕ) (n most : ℕ) (a b : Lists) (old mid new : List Front) (g : Front)
    → IsSpreadAt p x ns a old mid → Grows a b → AreKept a most mid → fronts.Leads p x n (front_of b g) → IsPut g mid new
    → IsSpreadAt p x (ns ++ (n ∷ [])) b old new
spread_put p x ns n most a b old mid new g s grows kept leads put = record {
  stays = λ h among. put.stays h (s.stays h among);
  only = λ h among.
      elim (put.only h among) [
        | inr e ↦ inr (n, has_last ns n, subst (λ z. fronts.Leads p x n (front_of b z)) e leads)
        | inl before ↦ elim (s.only h before) [
          | inl was ↦ inl was
          | inr stepped ↦
              inr (stepped.0, has_old ns n stepped.0 stepped.1, leads_on p a b x stepped.0 most mid h grows kept before stepped.2)
        ]
      ];
  all = λ i at.
      elim (old_or_last ns n i at) [
        | inl old ↦
            let h = s.all i old in
            (h.0, put.stays h.0 h.1, leads_on p a b x i most mid h.0 grows kept h.1 h.2)
        | inr e ↦ (
          put.same,
          put.there,
          subst (λ k. fronts.Leads p x k (front_of b put.same)) e
              (subst (λ (z : fronts.Front). fronts.Leads p x n z) (sym (put.alike b)) leads),
        )
      ];
}

-- the front that was put is kept, and so are the others
pub put_kept : (lists : Lists) (most : ℕ) (g : Front) (mid new : List Front) → IsKept lists most g → AreKept lists most mid → IsPut g mid new
    → AreKept lists most new
put_kept lists most g mid new kept all put f among =
    elim (put.only f among) [
      | inl before ↦ all f before
      | inr e ↦ subst (IsKept lists most) e kept
    ]

-- ---- several fronts

pub none_spread : (p : Program) (lists : Lists) → AreSpread p [] lists []
none_spread p lists = record {
  only = λ g h. absurd (none_in_none g h);
  all = λ f h live. absurd (none_in_none f h);
}

pub one_spread : (p : Program) (fs : List fronts.Front) (x : fronts.Front) (most : ℕ) (a b : Lists) (mid new : List Front) → AreSpread p fs a mid
    → IsSpread p x b mid new → Grows a b → AreKept a most mid → AreSpread p (fs ++ (x ∷ [])) b new
one_spread p fs x most a b mid new all s grows kept = record {
  only = λ g among.
      elim (s.at.only g among) [
        | inl before ↦
            let h = all.only g before in
            (h.0, h.1, has_old fs x h.0 h.2, h.3, leads_on p a b h.0 h.1 most mid g grows kept before h.4)
        | inr h ↦ (x, h.0, has_last fs x, s.to_try.free h.0 h.1, h.2)
      ];
  all = λ f among live.
      elim (old_or_last fs x f among) [
        | inl old ↦
            let h = all.all f old live in (
              h.0,
              h.1,
              λ i at.
                  let g = h.2 i at in
                  (g.0, s.at.stays g.0 g.1, leads_on p a b f i most mid g.0 grows kept g.1 g.2),
            )
        | inr e ↦
            let enough = s.to_try.enough (subst (λ (z : fronts.Front). z.live ≢ []) (sym e) live) in
            subst (λ (z : fronts.Front). (places : List ℕ) × IsEnough p z places × HasSteps p z places b new) e (s.places, enough, s.at.all)
      ];
}

-- the fronts to which all fronts lead at places that are enough stand for enough orders
pub next_stands : (p : Program) (lists : Lists) (rows : ℕ) (fs : List fronts.Front) (new : List Front) → 0 < rows → Covers p rows fs
    → AreSpread p fs lists new → AreKept lists (rows + 1) new → StandsAt p lists (rows + 1) new
next_stands p lists rows fs new some covers s kept = record {
  covers = next_covers p rows fs (seen lists new) some covers (record {
    each = λ g among.
        let x = mapped_has (front_of lists) new g among in
        let h = s.only x.0 x.1 in
        (h.0, h.1, h.2, h.3, subst (λ (z : fronts.Front). fronts.Leads p h.0 h.1 z) x.2 h.4);
    all = λ f among live.
        let h = s.all f among live in (
          h.0,
          h.1,
          λ i at.
              let g = h.2 i at in
              (front_of lists g.0, has_mapped (front_of lists) new g.0 g.1, g.2),
        );
  });
  kept = kept;
}
