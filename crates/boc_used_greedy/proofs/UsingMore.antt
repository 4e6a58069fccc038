-- Lists of users, as code reads and writes them.
use Rattle.std.proofs.Common.{◌≡◌, ◌∙◌, ℕ, ◌<◌, List, ◌++◌, length, take, drop, get_or, sym, ap, arith}
use Rattle.std.proofs.lemmas.List.{get_or_default}
use Rattle.std.proofs.Math.Seq.{take-append_seam}
use Rattle.boc_runs.specs.declared.rows.Row.{Row}
use Rattle.boc_turns.specs.Turns.{cowns_before}
use Rattle.boc_used_greedy.specs.declared.holds.Holds.{Holds}
use Rattle.boc_used_greedy.specs.Holds.{HasHolds}

-- where the cowns of a row begin
pub begin_read : (rows : List Row) (h : Holds) → HasHolds rows h → (row x : ℕ) → row < length rows → x ≡ get_or h.begins.items row x
    → x ≡ cowns_before rows row
begin_read rows h has row x there read =
    read ∙ (sym (get_or_default h.begins.items row 0 x (omega (arith, has.whole, there))) ∙ has.begins row there)

-- all numbers of a list are written
pub all_written : (old new : List ℕ) (n : ℕ) → n ≡ length new → take n (new ++ drop (length new) old) ≡ new
all_written old new n e = ap (λ (k : ℕ). take k (new ++ drop (length new) old)) e ∙ take-append_seam new (drop (length new) old)
