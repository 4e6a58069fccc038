-- The course in which no row is placed.
use Rattle.std.proofs.Common.{◌≡◌, ℕ, ◌<◌, ◌≤◌, Bool, List, [], length, Option, None, Some, arith}
use Rattle.std.specs.Prelude.{replicate, slice_index, slice_get, vec_capacity}
use Rattle.std.specs.List.{Contains}
use Rattle.std.proofs.lemmas.List.{get_or-replicate, length-replicate}
use Rattle.boc_program.specs.declared.limits.TheConstants.{MOST_COWNS}
use Rattle.boc_runs.specs.declared.rows.Row.{Row}
use Rattle.boc_runs.specs.Rows.{written_of}
use Rattle.boc_uses.specs.declared.uses.Use.{Use}
use Rattle.boc_turns.specs.declared.pace.Pace.{Pace}
use Rattle.boc_turns.specs.declared.course.Course.{Course}
use Rattle.boc_turns.specs.Turns.{Times}
use Rattle.boc_turns.specs.Course.{HasCourse, IsLatest}

-- nothing has happened yet
abbrev nothing : Times
nothing = record { made = λ r k. 0; begun = λ r c. 0 }

module _ (rows : List Row) (uses : List (Option Use)) (relaxed : ℕ → Bool) where
  latest_none : (Passes : ℕ → Type 0) (c : ℕ) (ticks : List ℕ) → ticks ≡ replicate MOST_COWNS 0 → c < MOST_COWNS
      → IsLatest rows uses relaxed nothing Passes 0 c (slice_index ticks c)
  latest_none Passes c ticks is low = record {
    above = λ a h. absurd (omega (arith, h));
    least = λ tick all. rw is (omega (arith, get_or-replicate {A = ℕ} MOST_COWNS c 0 0 low));
  }

  paces_none : (paces : List Pace) → paces ≡ [] → length paces ≡ 0
  paces_none paces e = rw e

  no_pace : (paces : List Pace) (r : ℕ) (pace : Pace) → paces ≡ [] → slice_get paces r ≡ Some pace → ⊥
  no_pace paces r pace e at = (let none : None ≡ Some pace = rw e at at in cc)

  pub course_none : (course : Course) → course.paces.items ≡ [] → length rows ≤ vec_capacity course.paces → course.held.items ≡ replicate MOST_COWNS 0
      → course.wrote.items ≡ replicate MOST_COWNS 0 → course.passed ≡ 0 → course.last ≡ 0 → HasCourse rows uses relaxed 0 course
  course_none course none room held wrote passed last = record {
    times = nothing;
    have_passed = record {
      keeps = λ b h. absurd (omega (arith, h));
      least = λ others keeps b h. absurd (omega (arith, h));
      low = λ b h. absurd (omega (arith, h));
      held_is = λ c low. latest_none (λ a. Unit {0}) c course.held.items held low;
      wrote_is = λ c low. latest_none (λ a. Contains (written_of rows a) c) c course.wrote.items wrote low;
    };
    is_last = record { above = λ r h. absurd (omega (arith, h)); least = λ tick all. omega (arith, last) };
    have_paces = record { whole = paces_none course.paces.items none; each = λ r pace at. absurd (no_pace course.paces.items r pace none at) };
    enough = room;
    held_whole = rw held (length-replicate {A = ℕ} MOST_COWNS 0);
    wrote_whole = rw wrote (length-replicate {A = ℕ} MOST_COWNS 0);
    passed_is = passed;
  }
