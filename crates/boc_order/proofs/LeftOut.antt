-- Which rows are near where a cown is left out, and the rows that wait for each row then.
use Rattle.std.proofs.Common.{◌≡◌, ◌≢◌, ℕ, zero, suc, ◌+◌, ◌<◌, ◌≤◌, Bool, true, false, true≢false, cond, not, List, [], ◌∷◌, ◌++◌, length, get_or}
use Rattle.std.proofs.Common.{inl, inr, sym, ap, subst, ◌∙◌, arith}
use Rattle.std.specs.Prelude.{◌==◌}
use Rattle.std.specs.List.{Contains}
use Rattle.std.proofs.lemmas.Bool.{cases_eq}
use Rattle.std.proofs.lemmas.Bool.Decides.{nat_tests}
use Rattle.std.proofs.lemmas.List.{get_or_push, get_or_append_left, length_push}
use Rattle.std.proofs.lemmas.List.Elements.{Contains-get_or, All-filter, filter_passes}
use Rattle.boc_program.specs.Cowns.{others}
use Rattle.boc_runs.specs.declared.rows.Row.{Row}
use Rattle.boc_runs.specs.Rows.{cowns_of, written_of}
use Rattle.boc_runs.specs.Changes.{without}
use Rattle.boc_runs.proofs.Freeing.{length-without, cowns_of-without, written_of-without}
use Rattle.boc_plans.specs.Plans.{ConflictOn}
use Rattle.boc_order.specs.declared.cown_links.CownLink.{CownLink}
use Rattle.boc_order.specs.Waits.{IsNearOn, IsNear, HaveFollowers, links_of, lists_between, AreBounds}
use Rattle.boc_order.specs.CownLinks.{AreCownLinks, AddsOthers, link_to}
use Rattle.boc_order.proofs.Listing.{between_more, bounds_more}

pub passes : (x cown : ℕ) → x ≢ cown → not (x == cown) ≡ true
passes x cown ne = grind (arith, nat_tests)

other_one : (x cown : ℕ) → not (x == cown) ≡ true → x ≢ cown
other_one x cown t = λ e. (let s : not (x == cown) ≡ false = grind (arith, nat_tests) in true≢false (sym t ∙ s))

after_one : (b : Bool) (y : ℕ) (l : List ℕ) (x : ℕ) → Contains l x → Contains (cond b (y ∷ l) l) x
after_one true y l x m = (suc m.0, omega (arith, m.1), m.2)
after_one false y l x m = m

-- another cown stays where one is taken out
kept_at : (cown : ℕ) (xs : List ℕ) (x k : ℕ) → x ≢ cown → k < length xs → get_or xs k x ≡ x → Contains (others cown xs) x
kept_at cown [] x k ne lt e = absurd (omega (arith, lt))
kept_at cown (y ∷ ys) x zero ne lt e =
    let pass : not (y == cown) ≡ true = rw e (passes x cown ne) in
    rw pass (0, omega arith, e)
kept_at cown (y ∷ ys) x (suc k) ne lt e =
    after_one (not (y == cown)) y (others cown ys) x (kept_at cown ys x k ne (omega (arith, lt)) e)

pub kept : (cown : ℕ) (xs : List ℕ) (x : ℕ) → x ≢ cown → Contains xs x → Contains (others cown xs) x
kept cown xs x ne (k, lt, e) = kept_at cown xs x k ne lt e

-- and what stays is another one
pub was : (cown : ℕ) (xs : List ℕ) (x : ℕ) → Contains (others cown xs) x → (x ≢ cown) × Contains xs x
was cown xs x (k, lt, e) =
    let test : ℕ → Bool = λ (c : ℕ). not (c == cown) in
    let pass : test (get_or (others cown xs) k x) ≡ true = filter_passes test xs k x lt in
    let own : Contains xs (get_or (others cown xs) k x) = All-filter test (λ (c : ℕ). Contains xs c) xs (λ j d h. Contains-get_or xs j d h) k x lt in
    (other_one x cown (subst (λ (c : ℕ). test c ≡ true) e pass), subst (Contains xs) e own)

-- rows conflict on another cown as they did, and on none but others
module _ (cown : ℕ) (rows : List Row) where
  pub still_conflict : (c a b : ℕ) → c ≢ cown → ConflictOn rows c a b → ConflictOn (without cown rows) c a b
  still_conflict c a b ne on = record {
    first = rw (cowns_of-without cown rows a) (kept cown (cowns_of rows a) c ne on.first);
    second = rw (cowns_of-without cown rows b) (kept cown (cowns_of rows b) c ne on.second);
    wrote = elim on.wrote [
      | inl w ↦ inl (rw (written_of-without cown rows a) (kept cown (written_of rows a) c ne w))
      | inr w ↦ inr (rw (written_of-without cown rows b) (kept cown (written_of rows b) c ne w))
    ];
  }

  pub was_conflict : (c a b : ℕ) → ConflictOn (without cown rows) c a b → (c ≢ cown) × ConflictOn rows c a b
  was_conflict c a b on =
      let first = was cown (cowns_of rows a) c (rw (cowns_of-without cown rows a) at on.first) in
      let second = was cown (cowns_of rows b) c (rw (cowns_of-without cown rows b) at on.second) in (
        first.0,
        record {
          first = first.1;
          second = second.1;
          wrote = elim on.wrote [
            | inl w ↦ inl (was cown (written_of rows a) c (rw (written_of-without cown rows a) at w)).1
            | inr w ↦ inr (was cown (written_of rows b) c (rw (written_of-without cown rows b) at w)).1
          ];
        },
      )

  pub still_near : (c a b : ℕ) → c ≢ cown → IsNearOn rows c a b → IsNearOn (without cown rows) c a b
  still_near c a b ne near = record {
    before = near.before;
    conflict = still_conflict c a b ne near.conflict;
    none_between = λ k low high p q. near.none_between k low high (was_conflict c a k p).1 (was_conflict c k b q).1;
  }

  pub was_near : (c a b : ℕ) → IsNearOn (without cown rows) c a b → (c ≢ cown) × IsNearOn rows c a b
  was_near c a b near =
      let on = was_conflict c a b near.conflict in (
        on.0,
        record {
          before = near.before;
          conflict = on.1;
          none_between = λ k low high p q. near.none_between k low high (still_conflict c a k on.0 p) (still_conflict c k b on.0 q);
        },
      )

  -- exactly those that wait for a row
  pub record HasFollowers (a : ℕ) (followers : List ℕ) : Type 0 where
    pub sound : (b : ℕ) → Contains followers b → IsNear (without cown rows) a b
    pub complete : (b : ℕ) → IsNear (without cown rows) a b → Contains followers b

  pub others_follow : (links : List CownLink) → AreCownLinks rows links → (a : ℕ) (old new : List ℕ) (adds : AddsOthers links a cown old new)
      → HasFollowers a adds.added
  others_follow links are a old new adds = record {
    sound = λ b h. (let s = adds.sound b h in
        let l = are.linked.sound (link_to b s.0 a) s.2 in
        record { there = omega (arith, l.0, length-without cown rows); cown = s.0; near = still_near s.0 a b s.1 l.1 });
    complete = λ b near. (let w = was_near near.cown a b near.near in
        adds.complete b near.cown w.0 (are.linked.complete near.cown a b (omega (arith, near.there, length-without cown rows)) w.1));
  }

  -- the rows that wait for each of the first rows
  pub record AreFirstFollowers (n : ℕ) (first list : List ℕ) : Type 0 where
    pub bounds : AreBounds first (length list)
    pub whole : length (lists_between first list) ≡ n
    pub at : (a : ℕ) → a < n → HasFollowers a (links_of (lists_between first list) a)

  pub first_more : (n : ℕ) (first old new : List ℕ) (added : List ℕ) → new ≡ old ++ added → HasFollowers n added → AreFirstFollowers n first old
      → length old ≤ length new → AreFirstFollowers (n + 1) (first ++ length new ∷ []) new
  first_more n first old new added is follow p long = record {
    bounds = bounds_more first (length old) (length new) p.bounds long;
    whole = ap length lists ∙ length_push (lists_between first old) added ∙ omega (arith, p.whole);
    at = λ a h. elim (cases_eq a n) [
      | inl e ↦ subst (λ (x : ℕ). HasFollowers x (links_of (lists_between (first ++ length new ∷ []) new) x)) (sym e)
          (subst (HasFollowers n) (sym (ap (λ (ls : List (List ℕ)). links_of ls n) lists ∙ get_or_push (lists_between first old) added [] n p.whole)) follow)
      | inr ne ↦ subst (HasFollowers a)
          (sym (ap (λ (ls : List (List ℕ)). links_of ls a) lists
          ∙ get_or_append_left (lists_between first old) (added ∷ []) [] a (omega (arith, h, ne, p.whole))))
          (p.at a (omega (arith, h, ne)))
    ];
  }
    where
      lists : lists_between (first ++ length new ∷ []) new ≡ lists_between first old ++ added ∷ []
      lists = ap (λ (xs : List ℕ). lists_between (first ++ length xs ∷ []) xs) is ∙ between_more first old added p.bounds

  pub all_followers : (n : ℕ) (first list : List ℕ) → n ≡ length rows → AreFirstFollowers n first list
      → HaveFollowers (without cown rows) (lists_between first list)
  all_followers n first list all p = record {
    whole = omega (arith, p.whole, all, length-without cown rows);
    sound = λ a b h. (let there : a < n = omega (arith, link_there (lists_between first list) a b h, p.whole) in (p.at a there).sound b h);
    complete = λ a b near. (p.at a (omega (arith, near.near.before, near.there, length-without cown rows, all))).complete b near;
  }
    where
      link_there : (links : List (List ℕ)) (x y : ℕ) → Contains (links_of links x) y → x < length links
      link_there [] x y h = absurd (omega (arith, h.1))
      link_there (l ∷ links) zero y h = omega arith
      link_there (l ∷ links) (suc x) y h = omega (arith, link_there links x y h)
