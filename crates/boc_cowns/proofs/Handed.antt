-- The cowns that a row hands on.
use Rattle.std.proofs.Common.{◌≡◌, ℕ, ◌⊎◌, inl, inr, Bool, true, false, true≢false, ◌&&◌, ◌||◌, List, ⊎_elim, refl, sym, ◌∙◌}
use Rattle.std.specs.Prelude.{◌↔◌, nat_eq}
use Rattle.std.specs.List.{Contains, list_any}
use Rattle.boc_runs.specs.declared.rows.Row.{Row}
use Rattle.boc_runs.specs.Rows.{cowns_of, written_of}
use Rattle.boc_plans.specs.Plans.{ConflictOn}
use Rattle.boc_order.specs.Least.{wrote_cown}
use Rattle.boc_order.specs.Handed.{AreHanded}
use Rattle.boc_order.proofs.Found.{among_tells, found, finds}
use Rattle.boc_cowns.specs.Hot.{hands_cown, has_cown}

both : (x y : Bool) → (x && y) ≡ true → (x ≡ true) × (y ≡ true)
both true y e = (refl, e)
both false y e = absurd (true≢false (sym e))

both_from : (x y : Bool) → x ≡ true → y ≡ true → (x && y) ≡ true
both_from true y a b = b
both_from false y a b = a

either : (x y : Bool) → (x || y) ≡ true → (x ≡ true) ⊎ (y ≡ true)
either true y e = inl refl
either false y e = inr e

either_from : (x y : Bool) → (x ≡ true) ⊎ (y ≡ true) → (x || y) ≡ true
either_from true y e = refl
either_from false y (inl e) = absurd (true≢false (sym e))
either_from false y (inr e) = e

module _ (rows : List Row) (c a b : ℕ) where
  conflict_from : hands_cown rows c a b ≡ true → ConflictOn rows c a b
  conflict_from e =
      let p = both (has_cown rows c a) (has_cown rows c b && (wrote_cown rows c a || wrote_cown rows c b)) e in
      let q = both (has_cown rows c b) (wrote_cown rows c a || wrote_cown rows c b) p.1 in
      record {
        first = found c (cowns_of rows a) p.0;
        second = found c (cowns_of rows b) q.0;
        wrote = ⊎_elim (λ (w : wrote_cown rows c a ≡ true). inl (found c (written_of rows a) w))
            (λ (w : wrote_cown rows c b ≡ true). inr (found c (written_of rows b) w))
            (either (wrote_cown rows c a) (wrote_cown rows c b) q.1);
      }

  conflict_to : ConflictOn rows c a b → hands_cown rows c a b ≡ true
  conflict_to h =
      both_from (has_cown rows c a) (has_cown rows c b && (wrote_cown rows c a || wrote_cown rows c b)) (finds c (cowns_of rows a) h.first)
      (both_from (has_cown rows c b) (wrote_cown rows c a || wrote_cown rows c b) (finds c (cowns_of rows b) h.second)
      (either_from (wrote_cown rows c a) (wrote_cown rows c b)
      (⊎_elim (λ (w : Contains (written_of rows a) c). inl (finds c (written_of rows a) w))
      (λ (w : Contains (written_of rows b) c). inr (finds c (written_of rows b) w)) h.wrote)))

  -- a row hands a cown to another exactly where the two conflict on it
  pub hands_conflict : (hands_cown rows c a b ≡ true) ↔ ConflictOn rows c a b
  hands_conflict = (conflict_from, conflict_to)

  isnt_handed : (x : Bool) → hands_cown rows c a b ≡ x → (ConflictOn rows c a b → ⊥) → hands_cown rows c a b ≡ false
  isnt_handed true e none = absurd (none (conflict_from e))
  isnt_handed false e none = e

  -- the test finds it among the cowns that are handed
  pub among_handed : (cowns : List ℕ) → AreHanded rows a b cowns → list_any (nat_eq c) cowns ≡ hands_cown rows c a b
  among_handed cowns are = ⊎_elim
      (λ (y : (list_any (nat_eq c) cowns ≡ true) × Contains cowns c). y.0 ∙ sym (conflict_to ((are.each c).0 y.1)))
      (λ (n : (list_any (nat_eq c) cowns ≡ false) × (Contains cowns c → ⊥)).
      n.0 ∙ sym (isnt_handed (hands_cown rows c a b) refl (λ h. n.1 ((are.each c).1 h))))
      (among_tells c cowns)
