-- Lines of a stream that were read, and the rows that they spawned.
use Rattle.std.proofs.Common.{◌≡◌, ℕ, Bool, true, false, List, [], ◌∷◌, ◌++◌, append_assoc, ap, sym, subst, inl, inr, refl}
use Rattle.std.proofs.lemmas.Bool.{false≢true}
use Rattle.std.proofs.KnownBytes.{Consumes-nil, Consumes-trans, Consumes-kept}
use Rattle.std.specs.Bool.{OnTrue, OnFalse}
use Rattle.std.specs.Io.KnownBytes.{Keeps, IsAtEnd, prepend_known}
use Rattle.std.specs.Prelude.{codes, Option, Some, None, Result, Ok, Err, OnOk}
use Rattle.boc_record.specs.RecordTexts.{line}
use Rattle.boc_stream.specs.LongLines.{GivesLine, LinesState, to_come}
use Rattle.boc_stream.specs.StreamTexts.{Says}
use Rattle.boc_stream.specs.declared.told.Told.{Told}
use Rattle.boc_stream.specs.declared.told.Told.TheVariants as tolds
use Rattle.boc_record.specs.RecordTexts.{Version}
use Rattle.boc_cut.specs.declared.table.CownUse.{CownUse}
use Rattle.boc_cut.specs.declared.table.Row.{Row}
use Rattle.boc_cut.specs.Reading.{FindsLine, HasRead, GoesOn, SpawnsTold, TakesTold}
use Rattle.boc_cut.specs.Spawned.{KeepsSpawned, SpawnsMore, LineSpawns}
use Rattle.boc_cut.specs.Windows.{EndsLine}
use Rattle.boc_cut.proofs.Spawning.{longer_text}

-- what holds where a test fails, if what holds where it succeeds cannot be
pub on_false : {A B : Type 0} → (b : Bool) → OnTrue b B → (B → ⊥) → OnFalse b A → A
on_false true t never given = absurd (never t)
on_false false t never given = given

-- a text with one line more ends with a line
pub ends_more : (text l : List ℕ) → EndsLine (text ++ line l)
ends_more text l = inr (text ++ l, sym (append_assoc text l (codes "\n")))

-- nothing was taken in before the first line
pub from_start : (buffered : List ℕ) (known : Option (List ℕ)) → buffered ≡ [] → prepend_known buffered known ≡ known
from_start buffered None e = refl
from_start buffered (Some xs) e = λ i. Some ((e i) ++ xs)

pub has_read_none : (start : Option (List ℕ)) → HasRead start start [] []
has_read_none start = record { text = []; ends = inl refl; taken = Consumes-nil start; spawned = λ place row got. absurd cc }

-- nothing more was read
pub stays : (before after : Option (List ℕ)) (rows others : List Row) (uses more : List CownUse) → Keeps before after → KeepsSpawned rows uses others more
    → GoesOn before after rows uses others more
stays before after rows others uses more kept spawned start h = record {
  text = h.text;
  ends = h.ends;
  taken = Consumes-kept start before after h.text h.taken kept;
  spawned = spawned h.text h.spawned;
}

-- a line was read, and taken
pub line_read : (l : List ℕ) (before after : Option (List ℕ)) (rows others : List Row) (uses more : List CownUse) → GivesLine l before after
    → LineSpawns l rows uses others more → GoesOn before after rows uses others more
line_read l before after rows others uses more given spawned start h = record {
  text = h.text ++ line l;
  ends = ends_more h.text l;
  taken = Consumes-trans start before after h.text (line l) h.taken given.taken;
  spawned = spawned h.text h.ends h.spawned;
}

-- a line that spawns no row
pub line_kept : (l : List ℕ) (rows others : List Row) (uses more : List CownUse) → KeepsSpawned rows uses others more → LineSpawns l rows uses others more
line_kept l rows others uses more kept text ends s = longer_text text (line l) others more (kept text s)

-- a text ends with the line that tells a spawn
told_here : (v : Version) (text l : List ℕ) (told : Told) (cowns : List ℕ) → EndsLine text → Says v l told cowns → SpawnsTold (text ++ line l) told cowns
told_here v text l (tolds.Spawn row parent offset) cowns ends says = record {
  parent = parent;
  offset = offset;
  before = text;
  after = [];
  begins = ends;
  is = subst (λ (m : List ℕ). text ++ line l ≡ text ++ line m ++ []) says.is (sym (nothing_behind (text ++ line l)));
} where
  nothing_behind : (xs : List ℕ) → xs ++ [] ≡ xs
  nothing_behind [] = refl
  nothing_behind (x ∷ xs) = λ i. x ∷ nothing_behind xs i
told_here v text l (tolds.Start row) cowns ends says = tt
told_here v text l (tolds.End row ticks status) cowns ends says = tt
told_here v text l tolds.Last cowns ends says = tt

-- a line tells what was taken
pub line_told : (v : Version) (l : List ℕ) (told : Told) (cowns : List ℕ) (rows others : List Row) (uses more : List CownUse) → Says v l told cowns
    → TakesTold told cowns rows uses others more → LineSpawns l rows uses others more
line_told v l told cowns rows others uses more says takes text ends s =
    takes (text ++ line l) (told_here v text l told cowns ends says) (longer_text text (line l) rows uses s)

-- a part that follows another
pub on_both : {A E P Q : Type 0} → (r : Result A E) → (P → Q) → OnOk r P → OnOk r Q
on_both (Ok x) f p = f p
on_both (Err e) f p = tt

pub goes_through : (before mid after : Option (List ℕ)) (rows others last : List Row) (uses more end : List CownUse) → GoesOn before mid rows uses others more
    → GoesOn mid after others more last end → GoesOn before after rows uses last end
goes_through before mid after rows others last uses more end first second start h = second start (first start h)

-- ---- a line was found, or the end

pub found_line : (is_over b : Bool) (l : List ℕ) (before after : Option (List ℕ)) → b ≡ true → FindsLine is_over (Ok b) l before after
    → GivesLine l before after
found_line is_over true l before after e found = found
found_line is_over false l before after e found = absurd (false≢true e)

pub found_end : (is_over b : Bool) (l : List ℕ) (before after : Option (List ℕ)) → is_over ≡ false → b ≡ false → FindsLine is_over (Ok b) l before after
    → IsAtEnd before × Keeps before after
found_end is_over true l before after unended e found = absurd (false≢true (sym e))
found_end true false l before after unended e found = absurd (false≢true (sym unended))
found_end false false l before after unended e found = found

-- where no line was found nothing was taken
pub found_none : (is_over b : Bool) (l : List ℕ) (before after : Option (List ℕ)) → b ≡ false → FindsLine is_over (Ok b) l before after → Keeps before after
found_none is_over true l before after e found = absurd (false≢true (sym e))
found_none is_over false l before after e found = found.1

-- ---- the same lines

keeps_same : (before after : Option (List ℕ)) → before ≡ after → Keeps before after
keeps_same None after e = tt
keeps_same (Some xs) None e = absurd (let f : Some xs ≡ None = e in cc)
keeps_same (Some xs) (Some ys) e = let f : Some xs ≡ Some ys = e in cc

-- the end was found, or nothing was read since the lines are over
pub end_found : (over : Bool) (before after : Option (List ℕ)) → OnTrue over (before ≡ after) → OnFalse over (IsAtEnd before × Keeps before after)
    → OnFalse over (IsAtEnd before) × Keeps before after
end_found true before after same found = (tt, keeps_same before after same)
end_found false before after same found = found

pub given_same : (l : List ℕ) (before rest : Option (List ℕ)) (new old : LinesState) → new ≡ old → GivesLine l before (to_come old rest)
    → GivesLine l before (to_come new rest)
given_same l before rest new old e g = subst (λ (s : LinesState). GivesLine l before (to_come s rest)) (sym e) g

pub goes_same : (before rest : Option (List ℕ)) (new old : LinesState) (rows others : List Row) (uses more : List CownUse) → new ≡ old
    → GoesOn before (to_come old rest) rows uses others more → GoesOn before (to_come new rest) rows uses others more
goes_same before rest new old rows others uses more e goes = subst (λ (s : LinesState). GoesOn before (to_come s rest) rows uses others more) (sym e) goes

pub keeps_from : (rest after : Option (List ℕ)) (new old : LinesState) → new ≡ old → Keeps (to_come new rest) after → Keeps (to_come old rest) after
keeps_from rest after new old e kept = subst (λ (s : LinesState). Keeps (to_come s rest) after) e kept

pub keeps_same_lines : (rest : Option (List ℕ)) (new old : LinesState) → new ≡ old → Keeps (to_come old rest) (to_come new rest)
keeps_same_lines rest new old e = keeps_same (to_come old rest) (to_come new rest) (ap (λ (s : LinesState). to_come s rest) (sym e))

-- after a line, to the end
pub goes_to_end : (before mid after : Option (List ℕ)) (rows others : List Row) (uses more : List CownUse) → GoesOn before mid rows uses others more
    → Keeps mid after → GoesOn before after rows uses others more
goes_to_end before mid after rows others uses more goes kept =
    goes_through before mid after rows others others uses more more goes (stays mid after others others more more kept (λ text s. s))

-- ---- what was taken

pub told_spawn : (told : Told) (row parent offset : ℕ) (cowns : List ℕ) (rows others : List Row) (uses more : List CownUse)
    → told ≡ tolds.Spawn row parent offset
    → SpawnsMore row cowns rows uses others more → TakesTold told cowns rows uses others more
told_spawn told row parent offset cowns rows others uses more is spawns text spawned s =
    spawns text (subst (λ (t : Told). SpawnsTold text t cowns) is spawned) s

pub told_other : (told : Told) (cowns : List ℕ) (rows others : List Row) (uses more : List CownUse) → KeepsSpawned rows uses others more
    → TakesTold told cowns rows uses others more
told_other told cowns rows others uses more keeps text spawned s = keeps text s
