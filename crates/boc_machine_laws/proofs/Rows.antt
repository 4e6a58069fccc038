-- Rows of a run: one changed, one more; and runs with one event more.
use Rattle.std.proofs.Common.{◌≡◌, ◌≢◌, ℕ, zero, suc, ◌+◌, ◌<◌, ◌≤◌, ◌⊎◌, inl, inr, List, [], ◌∷◌, ◌++◌, length, refl, ◌∙◌, ap, arith}
use Rattle.std.specs.Prelude.{slice_get, Option, Some, None, option_map}
use Rattle.boc_program.specs.declared.program.Program.{Program}
use Rattle.boc_runs.specs.declared.event.Event.{Event}
use Rattle.boc_program.specs.Meaning.{Wish}
use Rattle.boc_runs.specs.Serial.{behaviour_of}
use Rattle.boc_program.specs.Changed.{changed}
use Rattle.boc_runs.specs.Lives.{Life}
use Rattle.boc_runs.specs.Run.{Member, Config, waiting, next_wish, spawned_by, members_after_spawn, config_after, config_after_all, state_of, MaySpawn}
use Rattle.boc_runs.specs.Run.{SpawnsWish, MayHappen, IsRunFrom}
use Rattle.boc_program.proofs.ChangedItems.{set_other}

-- ---- one item changed

pub changed_later : {A : Type 0} (x : A) (xs : List A) (i : ℕ) (f : A → A) (o : Option A)
    → changed (x ∷ xs) (suc i) f o ≡ x ∷ changed xs i f o
changed_later x xs i f None = refl
changed_later x xs i f (Some y) = refl

pub changed_same : {A : Type 0} (xs : List A) (i : ℕ) (f : A → A)
    → slice_get (changed xs i f (slice_get xs i)) i ≡ option_map f (slice_get xs i)
changed_same [] i f = refl
changed_same (x ∷ xs) zero f = refl
changed_same (x ∷ xs) (suc i) f = ap (λ ys. slice_get ys (suc i)) (changed_later x xs i f (slice_get xs i))
    ∙ changed_same xs i f

pub changed_other : {A : Type 0} (xs : List A) (i j : ℕ) (f : A → A) (o : Option A) → j ≢ i
    → slice_get (changed xs i f o) j ≡ slice_get xs j
changed_other xs i j f None n = refl
changed_other xs i j f (Some y) n = set_other xs i j (f y) n

-- an item is there, or the place is past the end
pub some_or_none : {A : Type 0} (xs : List A) (i : ℕ) → (length xs ≤ i) ⊎ ((x : A) × (slice_get xs i ≡ Some x))
some_or_none [] i = inl (omega arith)
some_or_none (x ∷ xs) zero = inr (x, refl)
some_or_none (x ∷ xs) (suc i) =
    elim (some_or_none xs i) [
      | inl h ↦ inl (omega arith)
      | inr p ↦ inr p
    ]

-- ---- the life of a row

-- a row of which something has become is there
pub with_life : (rows : List Member) (r : ℕ) (l : Life) → state_of rows r ≡ Some l → (m : Member)
    × (slice_get rows r ≡ Some m) × (m.life ≡ l)
with_life [] r l e = absurd (let f : None ≡ Some l = e in cc)
with_life (m ∷ rows) zero l e = (m, refl, let f : Some m.life ≡ Some l = e in cc)
with_life (m ∷ rows) (suc r) l e = with_life rows r l e

pub life_there : (rows : List Member) (r : ℕ) (m : Member) → slice_get rows r ≡ Some m → state_of rows r ≡ Some m.life
life_there rows r m e = ap (option_map (λ (x : Member). x.life)) e

-- ---- one row more

-- what a spawn does to the parent
abbrev pub with_one_more : Member → Member
with_one_more m = record m { spawned = m.spawned + 1 }

pub after_spawn : (p : Program) (rows : List Member) (parent : ℕ) (w : Wish) → 0 < length rows
    → next_wish p (slice_get rows parent) ≡ Some w
    → members_after_spawn p rows parent ≡ changed rows parent with_one_more (slice_get rows parent) ++ waiting
    (behaviour_of w) ∷ []
after_spawn p [] parent w h e = absurd (omega arith)
after_spawn p (main ∷ others) parent w h e = ap (λ o. spawned_by (main ∷ others) parent o) e

pub may_spawn : (p : Program) (rows : List Member) (parent offset : ℕ) (cowns : List ℕ) → 0 < length rows
    → SpawnsWish p rows parent offset cowns → MaySpawn p rows parent offset cowns
may_spawn p [] parent offset cowns h s = absurd (omega arith)
may_spawn p (main ∷ others) parent offset cowns h s = s

-- ---- one event more

pub config_more : (p : Program) (c : Config) (log : List Event) (e : Event)
    → config_after_all p c (log ++ (e ∷ [])) ≡ config_after p (config_after_all p c log) e
config_more p c [] e = refl
config_more p c (d ∷ log) e = config_more p (config_after p c d) log e

pub run_more : (p : Program) (c : Config) (log : List Event) (e : Event) → IsRunFrom p c log
    → MayHappen p (config_after_all p c log) e → IsRunFrom p c (log ++ (e ∷ []))
run_more p c [] e r a = (a, tt)
run_more p c (d ∷ log) e r a = (r.0, run_more p (config_after p c d) log e r.1 a)
