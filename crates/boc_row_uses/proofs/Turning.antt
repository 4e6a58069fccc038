-- Behaviours that run one after another, up to one of them.
use Rattle.std.proofs.Common.{◌≡◌, ◌∙◌, ℕ, ◌+◌, ◌<◌, ◌≤◌, List, ◌∷◌, ◌++◌, drop, get_or, length, map, Option, sym, ap, subst, append_assoc, append-nil, ℤ}
use Rattle.std.proofs.lemmas.List.{drop_all, drop_more}
use Rattle.boc_program.specs.declared.program.Program.{Program}
use Rattle.boc_program.specs.Programs.{cown_count}
use Rattle.boc_runs.specs.Serial.{Behaviour, inputs_of}
use Rattle.boc_eval.specs.declared.instance.Instance.{Instance}
use Rattle.boc_eval.specs.Instances.{behaviour_in}
use Rattle.boc_eval.specs.Queue.{BehaviourFits, QueueFits}
use Rattle.boc_uses.specs.declared.uses.Use.{Use}
use Rattle.boc_row_uses.specs.RowUses.{behaviour_uses}
use Rattle.boc_row_uses.specs.InTurn.{uses_in_turn, values_after}

-- The first n have run, from these values to those now, and their uses stand after those before: what the others add is what is left of all.
pub record Stands (p : Program) (rows : List Instance) (n : ℕ) (values now : List ℤ) (before uses : List (Option Use)) : Type 0 where
  pub many : length now ≡ cown_count p.cowns
  pub fit : QueueFits p (map behaviour_in (drop n rows))
  pub turn : before ++ uses_in_turn p values (map behaviour_in rows) ≡ uses ++ uses_in_turn p now (map behaviour_in (drop n rows))

-- those after the first n begin with the next
next_first : (rows : List Instance) (n : ℕ) (x : Instance) → n < length rows → x ≡ get_or rows n x
    → map behaviour_in (drop n rows) ≡ behaviour_in x ∷ map behaviour_in (drop (n + 1) rows)
next_first rows n x there is =
    ap (map behaviour_in) (drop_more rows n x there)
    ∙ ap (λ (y : Instance). behaviour_in y ∷ map behaviour_in (drop (n + 1) rows)) (sym is)

module _ (p : Program) (rows : List Instance) (n : ℕ) (values now : List ℤ) (before uses : List (Option Use)) (s : Stands p rows n values now before uses) where
  module _ (x : Instance) (there : n < length rows) (is : x ≡ get_or rows n x) where
    fits_both : QueueFits p (behaviour_in x ∷ map behaviour_in (drop (n + 1) rows))
    fits_both = subst (QueueFits p) (next_first rows n x there is) s.fit

    pub next_fits : BehaviourFits p (behaviour_in x)
    next_fits = fits_both.0

    pub next_stands : (after : List ℤ) (more : List (Option Use)) → length after ≡ length now → after ≡ values_after p (behaviour_in x) now
        → more ≡ uses ++ behaviour_uses p (behaviour_in x) (inputs_of x.cowns.items now) → Stands p rows (n + 1) values after before more
    next_stands after more long after_is more_is =
        let b : Behaviour = behaviour_in x in
        let rest : List Behaviour = map behaviour_in (drop (n + 1) rows) in
        let own : List (Option Use) = behaviour_uses p b (inputs_of b.cowns now) in
        record {
          many = long ∙ s.many;
          fit = fits_both.1;
          turn = s.turn
              ∙ ap (λ (bs : List Behaviour). uses ++ uses_in_turn p now bs) (next_first rows n x there is)
              ∙ sym (append_assoc uses own (uses_in_turn p (values_after p b now) rest))
              ∙ ap (λ (us : List (Option Use)). us ++ uses_in_turn p (values_after p b now) rest) (sym more_is)
              ∙ ap (λ (vs : List ℤ). more ++ uses_in_turn p vs rest) (sym after_is);
        }

  pub all_stand : length rows ≤ n → uses ≡ before ++ uses_in_turn p values (map behaviour_in rows)
  all_stand le =
      sym (append-nil uses)
      ∙ ap (λ (xs : List Instance). uses ++ uses_in_turn p now (map behaviour_in xs)) (sym (drop_all n rows le))
      ∙ sym s.turn
