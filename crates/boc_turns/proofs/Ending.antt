-- What the course in which all rows are placed tells.
use Rattle.std.proofs.Common.{◌≡◌, inl, inr, ℕ, ◌<◌, ◌≤◌, Bool, false, List, length, Option, sym, ◌∙◌, subst, arith}
use Rattle.std.specs.Prelude.{All}
use Rattle.std.proofs.lemmas.Bool.{cases_lt}
use Rattle.std.proofs.lemmas.List.{get_or_past}
use Rattle.boc_program.specs.declared.limits.TheConstants.{MOST_COWNS}
use Rattle.boc_runs.specs.declared.rows.Row.{Row}
use Rattle.boc_order.proofs.Found.{among_tells}
use Rattle.boc_uses.specs.declared.uses.Use.{Use}
use Rattle.boc_turns.specs.declared.course.Course.{Course}
use Rattle.boc_turns.specs.Turns.{IsUsedEnd, among}
use Rattle.boc_turns.specs.Course.{HasCourse, marked}

course_end : (rows : List Row) (uses : List (Option Use)) (relaxed : ℕ → Bool) (course : Course) → HasCourse rows uses relaxed (length rows) course
    → IsUsedEnd rows uses relaxed course.last
course_end rows uses relaxed course has = record {
  times = has.times;
  earliest = record { keeps = has.have_passed.keeps; least = has.have_passed.least };
  all_over = has.is_last.above;
  none_sooner = has.is_last.least;
}

-- the marks tell which cowns are among these
module _ (marks : List Bool) (cowns : List ℕ) (whole : length marks ≡ MOST_COWNS) (each : (c : ℕ) → c < MOST_COWNS → marked marks c ≡ among cowns c)
    (small : All (λ c. c < MOST_COWNS) cowns) where
  none_past : (c : ℕ) → MOST_COWNS ≤ c → among cowns c ≡ false
  none_past c h = elim (among_tells c cowns) [
    | inl (e, (k, low, is)) ↦ absurd (let s : c < MOST_COWNS = omega (arith, small k c low, is) in omega (arith, s, h))
    | inr (e, none) ↦ e
  ]

  same_mark : (c : ℕ) → marked marks c ≡ among cowns c
  same_mark c = elim (cases_lt c MOST_COWNS) [
    | inl low ↦ each c low
    | inr high ↦ get_or_past marks c false (omega (arith, whole, high)) ∙ sym (none_past c high)
  ]

  pub same_marks : marked marks ≡ among cowns
  same_marks = λ i c. same_mark c i

  pub end_is : (rows : List Row) (uses : List (Option Use)) (course : Course) (n : ℕ) → n ≡ length rows → HasCourse rows uses (marked marks) n course
      → IsUsedEnd rows uses (among cowns) course.last
  end_is rows uses course n all has = subst (λ (test : ℕ → Bool). IsUsedEnd rows uses test course.last) same_marks
      (course_end rows uses (marked marks) course (subst (λ (k : ℕ). HasCourse rows uses (marked marks) k course) all has))
