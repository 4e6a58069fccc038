-- The search, front by front and layer by layer.
use Rattle.std.proofs.Common.{◌≡◌, ◌≢◌, ◌↔◌, ◌⊎◌, ℕ, zero, suc, ◌+◌, ◌<◌, ◌≤◌, Bool, true, false, inl, inr, List, [], ◌∷◌, ◌++◌, length, map, refl, sym, ◌∙◌, ap, subst, arith, ℤ}
use Rattle.std.specs.Prelude.{slice_get, Option, Some, None, MatchBool}
use Rattle.std.specs.List.{Contains}
use Rattle.boc_program.specs.declared.limits.TheConstants.{MOST_ROWS}
use Rattle.boc_program.specs.declared.program.Program.{Program}
use Rattle.boc_program.proofs.RisingNumbers.{has_first, first_or_later, none_in_none}
use Rattle.boc_eval.specs.Queue.{QueueFits}
use Rattle.boc_fronts.specs.Fronts as fronts
use Rattle.boc_closed_sets.specs.Covers.{Covers}
use Rattle.boc_closed_sets.proofs.Covering.{layers_cover}
use Rattle.boc_front_rows.specs.declared.row.Front.{Front}
use Rattle.boc_front_rows.specs.Lists.{list_at}
use Rattle.boc_front_rows.specs.Rows.{Plain, plains}
use Rattle.boc_front_rows.specs.Seen.{shown, front_of}
use Rattle.boc_front_rows.proofs.Places.{old_or_last}
use Rattle.boc_all_ends.specs.declared.ends.Ends.{Ends}
use Rattle.boc_all_ends.specs.declared.ends.Extent.{Extent}
use Rattle.boc_all_ends.specs.declared.found.End.{End}
use Rattle.boc_all_ends.specs.declared.found.Found.{Found}
use Rattle.boc_all_ends.specs.declared.search.Reach.{Reach}
use Rattle.boc_all_ends.specs.Ends.{AreEndsBelow, IsFound}
use Rattle.boc_all_ends.specs.Gathered.{IsOrderEnd, HasLive, HoldsEnds, noted, AreNoted}
use Rattle.boc_all_ends.specs.Searching.{StandsAt, HasReached}
use Rattle.boc_all_ends.specs.Spreading.{seen, AreKept, AreToTry, IsReady, IsPut, IsSpread, IsSpreadAt, AreSpread}
use Rattle.boc_all_ends.specs.Stepping.{Grows, IsKept, ListsFit, Steps}
use Rattle.boc_all_ends.proofs.EndsOfLayers.{ends_below, endless_if, no_more, not_endless}
use Rattle.boc_all_ends.proofs.Layering.{leads, spread_none, spread_put, put_kept, one_spread}
use Rattle.boc_all_ends.proofs.Seeing.{Lists, grows_not, grows_on, same_front, kept_on, all_kept_on}

pub when_true : (b : Bool) (P Q : Type 0) → MatchBool b P Q → b ≡ true → P
when_true true P Q h e = h
when_true false P Q h e = absurd (let f : false ≡ true = e in cc)

-- ---- the steps of one front

-- the steps at these places were put among others
pub record SpreadSoFar (p : Program) (a : Lists) (f : Front) (rows : ℕ) (ns : List ℕ) (b : Lists) (old mid : List Front) : Type 0 where
  pub spread : IsSpreadAt p (front_of a f) ns b old mid
  pub kept : AreKept b (rows + 1) mid
  pub grows : Grows a b
  pub fits : ListsFit p b

pub so_far_none : (p : Program) (a : Lists) (f : Front) (rows : ℕ) (old : List Front) → AreKept a (rows + 1) old → ListsFit p a
    → SpreadSoFar p a f rows [] a old old
so_far_none p a f rows old kept fits = record {
  spread = spread_none p (front_of a f) a old;
  kept = kept;
  grows = grows_not a;
  fits = fits;
}

pub so_far_put : (p : Program) (a : Lists) (f : Front) (rows : ℕ) (ns : List ℕ) (n : ℕ) (b c : Lists) (old mid new : List Front) (g : Front)
    → SpreadSoFar p a f rows ns b old mid → IsReady p a rows f → Steps p b f n c g → IsKept c (length f.live.items + 1) g → Grows b c → ListsFit p c
    → IsPut g mid new → SpreadSoFar p a f rows (ns ++ (n ∷ [])) c old new
so_far_put p a f rows ns n b c old mid new g s ready steps kept grows fits put =
    let same = same_front a b f s.grows ready.kept.there in
    let led = subst (λ (z : fronts.Front). fronts.Leads p z n (front_of c g)) same (leads p b c f g n steps) in
    let few : IsKept c (rows + 1) g = record { there = kept.there; few = omega (arith, kept.few, ready.kept.few) } in
    record {
      spread = spread_put p (front_of a f) ns n (rows + 1) b c old mid new g s.spread grows s.kept led put;
      kept = put_kept c (rows + 1) g mid new few (all_kept_on b c (rows + 1) mid grows s.kept) put;
      grows = grows_on a b c s.grows grows;
      fits = fits;
    }

-- once they are all that are to be tried
pub spread_whole : (p : Program) (a : Lists) (f : Front) (rows : ℕ) (ns : List ℕ) (b : Lists) (old mid : List Front) → AreToTry p (front_of a f) ns
    → SpreadSoFar p a f rows ns b old mid → IsSpread p (front_of a f) b old mid
spread_whole p a f rows ns b old mid to_try s = record { places = ns; to_try = to_try; at = s.spread }

-- what was put is kept, whether or not it may be looked at
pub still_kept : (p : Program) (a : Lists) (f : Front) (rows : ℕ) (ns : List ℕ) (b c : Lists) (old mid new : List Front) (g : Front)
    → SpreadSoFar p a f rows ns b old mid → IsReady p a rows f → IsKept c (length f.live.items + 1) g → Grows b c → IsPut g mid new
    → AreKept c (rows + 1) new
still_kept p a f rows ns b c old mid new g s ready kept grows put =
    let few : IsKept c (rows + 1) g = record { there = kept.there; few = omega (arith, kept.few, ready.kept.few) } in
    put_kept c (rows + 1) g mid new few (all_kept_on b c (rows + 1) mid grows s.kept) put

-- ---- the fronts of a layer

-- the fronts of a layer up to a place were spread
pub record LayerSoFar (p : Program) (a : Lists) (rows : ℕ) (done : List Front) (b : Lists) (new : List Front) : Type 0 where
  pub spread : AreSpread p (seen a done) b new
  pub kept : AreKept b (rows + 1) new
  pub grows : Grows a b
  pub fits : ListsFit p b

seen_more : (a : Lists) (done : List Front) (f : Front) → seen a (done ++ (f ∷ [])) ≡ seen a done ++ (front_of a f ∷ [])
seen_more a [] f = refl
seen_more a (x ∷ done) f = ap (λ zs. front_of a x ∷ zs) (seen_more a done f)

pub layer_more : (p : Program) (a : Lists) (rows : ℕ) (done : List Front) (f : Front) (b c : Lists) (mid new : List Front)
    → LayerSoFar p a rows done b mid → IsReady p a rows f → IsSpread p (front_of b f) c mid new → AreKept c (rows + 1) new
    → Grows b c → ListsFit p c → LayerSoFar p a rows (done ++ (f ∷ [])) c new
layer_more p a rows done f b c mid new s ready spread kept grows fits =
    let same = same_front a b f s.grows ready.kept.there in
    let one = subst (λ (z : fronts.Front). IsSpread p z c mid new) same spread in
    record {
      spread = subst (λ xs. AreSpread p xs c new) (sym (seen_more a done f))
          (one_spread p (seen a done) (front_of a f) (rows + 1) b c mid new s.spread one grows s.kept);
      kept = kept;
      grows = grows_on a b c s.grows grows;
      fits = fits;
    }

-- ---- the first layer

pub none_wished : (n : ℕ) → list_at ([] ∷ []) n ≡ []
none_wished zero = refl
none_wished (suc n) = past n
  where
    past : (k : ℕ) → list_at [] k ≡ []
    past k = refl

pub first_fits : (p : Program) → ListsFit p ([] ∷ [])
first_fits p n = subst (QueueFits p) (sym (none_wished n)) tt

pub first_stands : (p : Program) (lists : Lists) (f : Front) → fronts.IsLayer p 1 (front_of lists f ∷ []) → IsKept lists 1 f
    → StandsAt p lists 1 (f ∷ [])
first_stands p lists f layer kept = record {
  covers = layers_cover p 1 (front_of lists f ∷ []) layer;
  kept = λ g among.
      elim (first_or_later f g [] among) [
        | inl e ↦ subst (IsKept lists 1) e kept
        | inr later ↦ absurd (none_in_none g later)
      ];
}

pub none_noted : (p : Program) (ends : Ends) → ((values : List ℤ) → noted ends values ≡ None) → AreNoted p 1 ends
none_noted p ends none = record {
  least = λ values x is. absurd (let f : None ≡ Some x = sym (none values) ∙ is in cc);
  most = λ values x is. absurd (let f : None ≡ Some x = sym (none values) ∙ is in cc);
  low = λ values x is. absurd (let f : None ≡ Some x = sym (none values) ∙ is in cc);
  all = λ k values low e. absurd (omega (arith, low, e.many, e.whole.some));
}

-- ---- how far a search has come

-- it has gone through all fronts, since there is none of so many rows
pub reached_none : (p : Program) (lists : Lists) (rows many most : ℕ) (ends : Ends) (fs : List Front) (reach : Reach) → 0 < rows → rows ≤ MOST_ROWS
    → StandsAt p lists rows fs → fs ≡ [] → AreNoted p (rows + 1) ends
    → reach ≡ record { below = MOST_ROWS + 1; whole = true; endless = false } → HasReached p many most ends reach
reached_none p lists rows many most ends fs reach some few s e n is =
    let none : Covers p rows [] = subst (λ (gs : List Front). Covers p rows (seen lists gs)) e s.covers in
    subst (HasReached p many most ends) (sym is) (record {
      noted = no_more p rows (rows + 1) (MOST_ROWS + 1) ends none (omega arith) (omega (arith, few)) n;
      whole = λ q. refl;
      stopped = λ q. absurd (let f : true ≡ false = q in cc);
      endless = λ q. (λ f. absurd (let g : false ≡ true = f in cc), λ x. absurd (not_endless p rows few none x));
    })

-- it has looked at as many fronts as it may
pub reached_full : (p : Program) (rows many most : ℕ) (ends : Ends) (reach : Reach) → AreNoted p (rows + 1) ends → many ≡ most
    → reach ≡ record { below = rows + 1; whole = false; endless = false } → HasReached p many most ends reach
reached_full p rows many most ends reach n full is =
    subst (HasReached p many most ends) (sym is) (record {
      noted = n;
      whole = λ q. absurd (let f : false ≡ true = q in cc);
      stopped = λ q. full;
      endless = λ q. absurd (let f : false ≡ true = q in cc);
    })

-- it has gone through all fronts of as many rows as there may be
pub reached_last : (p : Program) (lists : Lists) (many most : ℕ) (ends : Ends) (fs : List Front) (b : Bool) (reach : Reach)
    → StandsAt p lists MOST_ROWS fs → AreNoted p (MOST_ROWS + 1) ends → (b ≡ true ↔ HasLive fs)
    → reach ≡ record { below = MOST_ROWS + 1; whole = true; endless = b } → HasReached p many most ends reach
reached_last p lists many most ends fs b reach s n live is =
    let x = endless_if p lists fs s.covers in
    subst (HasReached p many most ends) (sym is) (record {
      noted = n;
      whole = λ q. refl;
      stopped = λ q. absurd (let f : true ≡ false = q in cc);
      endless = λ q. (λ f. x.0 (live.0 f), λ e. live.1 (x.1 e));
    })

-- ---- whether there is a live row

pub one_more_dead : (fs : List Front) (f : Front) → f.live.items ≡ [] → (HasLive fs → ⊥) → HasLive (fs ++ (f ∷ [])) → ⊥
one_more_dead fs f dead none h =
    elim (old_or_last fs f h.0 h.1) [
      | inl old ↦ none (h.0, old, h.2)
      | inr e ↦ h.2 (sym (ap (λ (z : Front). z.live.items) e) ∙ dead)
    ]

-- ---- what is found

pub is_found : (p : Program) (most fronts : ℕ) (ends : Ends) (reach : Reach) (found : Found) → HasReached p fronts most ends reach
    → HoldsEnds ends found.all.items → found.below ≡ reach.below → found.whole ≡ reach.whole → found.endless ≡ reach.endless → found.fronts ≡ fronts
    → IsFound p most found
is_found p most fronts ends reach found r holds below whole endless many = record {
  ends = subst (λ n. AreNoted p n ends → AreEndsBelow p n found.all.items) (sym below)
      (λ n. ends_below p reach.below ends found.all.items n holds) (subst (λ n. AreNoted p n ends) (sym below) r.noted);
  whole = λ e. below ∙ r.whole (sym whole ∙ e);
  stopped = λ e. many ∙ r.stopped (sym whole ∙ e);
  endless = λ e.
      let h = r.endless (sym whole ∙ e) in
      (λ is. h.0 (sym endless ∙ is), λ is. endless ∙ h.1 is);
}
