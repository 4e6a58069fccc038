-- The behaviours of a serial run, as its rows tell them.
use Rattle.std.specs.Prelude.{ℕ, ◌*◌, ◌≤◌, List, [], ◌∷◌, map, length, ℤ, slice_range, slice_index_or}
use Rattle.boc_program.specs.declared.limits.TheConstants.{MOST_ARGUMENTS, MOST_HELD, MOST_ROWS}
use Rattle.boc_runs.specs.Serial.{Behaviour, main_behaviour}
use Rattle.boc_eval.specs.declared.rows.Extent.{Extent}
use Rattle.boc_eval.specs.declared.rows.Row.{Row}
use Rattle.boc_eval.specs.declared.rows.Rows.{Rows}

-- the behaviour of a row, whose arguments and cowns stand among these
abbrev pub behaviour_in : List ℤ → List ℕ → Row → Behaviour
behaviour_in args cowns r = record {
  kind = r.kind;
  args = slice_range args r.args.from r.args.to;
  cowns = slice_range cowns r.cowns.from r.cowns.to;
}

-- the behaviours of all rows
abbrev pub behaviours_of : Rows → List Behaviour
behaviours_of rows = map (behaviour_in rows.args.items rows.cowns.items) rows.rows.items

-- the behaviour of the row with this number
abbrev pub behaviour_at : Rows → ℕ → Behaviour
behaviour_at rows n = slice_index_or (behaviours_of rows) n main_behaviour

-- the part is there, among so many
abbrev pub IsWithin : Extent → ℕ → Type 0
IsWithin s n = (s.from ≤ s.to) × (s.to ≤ n)

-- the arguments and cowns of each row are there, among so many
abbrev pub RowsFit : ℕ → ℕ → List Row → Type 0
RowsFit args cowns [] = Unit {0}
RowsFit args cowns (r ∷ rs) = (IsWithin r.args args × IsWithin r.cowns cowns) × RowsFit args cowns rs

-- there are no more rows than a run may have, and what each row names is there
pub record IsConsistent (rows : Rows) : Type 0 where
  pub parts : RowsFit (length rows.args.items) (length rows.cowns.items) rows.rows.items
  pub few_args : length rows.args.items ≤ MOST_ARGUMENTS * length rows.rows.items
  pub few_cowns : length rows.cowns.items ≤ MOST_HELD * length rows.rows.items
  pub few_rows : length rows.rows.items ≤ MOST_ROWS
