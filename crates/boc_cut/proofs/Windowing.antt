-- From what was read to the window.
use Rattle.std.proofs.Common.{◌≡◌, ℕ, ◌≤◌, List, [], ◌++◌, ◌∙◌, length, append_assoc, subst, sym, inl, inr}
use Rattle.std.specs.Io.KnownBytes.{Consumes, prepend_known}
use Rattle.std.specs.Prelude.{◌⊎◌, codes, Option, Some, None, IfSome, Ok}
use Rattle.boc_record.specs.RecordTexts.{begun, IsTextOf}
use Rattle.boc_record.proofs.OneFault.{one_record}
use Rattle.boc_runs.specs.Records.{Recorded}
use Rattle.boc_stream.specs.declared.fault.StreamFaultKind.{StreamFaultKind}
use Rattle.boc_stream.specs.declared.fault.StreamFaultKind.TheVariants as kinds
use Rattle.boc_stream.specs.declared.lines.TheConstants.{CAPACITY}
use Rattle.boc_cut.specs.declared.table.CownUse.{CownUse}
use Rattle.boc_cut.specs.declared.table.Row.{Row}
use Rattle.boc_cut.specs.Cuts.{CutsAs, IsWindowOf}
use Rattle.boc_cut.specs.declared.window.Window.{Window}
use Rattle.boc_cut.specs.Reading.{HasRead, GoesOn}
use Rattle.boc_cut.specs.Whole.{AreWholeOrigins, FollowsAs, IsNoRecord, RefusesAs, TakesRecord}
use Rattle.boc_cut.specs.declared.whole.Tried.{Tried}
use Rattle.boc_cut.specs.declared.whole.Tried.TheVariants as tries
use Rattle.boc_cut.specs.Windows.{EndsLine, AreOrigins}
use Rattle.boc_cut.proofs.Ordering.{order_kept}
use Rattle.boc_cut.proofs.Reaching.{from_start, has_read_none}
use Rattle.boc_cut.proofs.RecordOrder.{whole_order}

-- what is no record's text may be refused in any way
pub refuses_none : (kind : StreamFaultKind) (before : Option (List ℕ)) → IsNoRecord before → RefusesAs kind before
refuses_none kinds.Memory before none = tt
refuses_none kinds.Device before none = tt
refuses_none _ before none = none

-- what is taken in ahead was given too
with_ahead : (whole rest : Option (List ℕ)) (done held : List ℕ) → Consumes whole (prepend_known held rest) done → Consumes whole rest (done ++ held)
with_ahead None rest done held c = tt
with_ahead (Some text) None done held c = absurd c
with_ahead (Some text) (Some left) done held c = c ∙ sym (append_assoc done held left)

-- a table of which nothing was read yet
pub read_from_start : (buffered : List ℕ) (start now : Option (List ℕ)) (rows others : List Row) (uses more : List CownUse) → buffered ≡ []
    → rows ≡ [] → uses ≡ [] → GoesOn (prepend_known buffered start) now rows uses others more → HasRead start now others more
read_from_start buffered start now rows others uses more empty no_rows nothing goes =
    goes start (subst (λ (b : Option (List ℕ)). HasRead start b rows uses) (sym (from_start buffered start empty))
    (subst (λ (rs : List Row). HasRead start start rs uses) (sym no_rows) (subst (λ (us : List CownUse). HasRead start start [] us) (sym nothing)
    (has_read_none start))))

no_whole : (before : Option (List ℕ)) (made r : Recorded) → IfSome before (λ text. IsTextOf text r → ⊥) → IfSome before (λ bytes. IsTextOf bytes r → made ≡ r)
no_whole None made r none = tt
no_whole (Some bytes) made r none = λ t. absurd (none t)

-- what is no record's text before anything is taken in
pub no_record_from_start : (buffered : List ℕ) (start : Option (List ℕ)) → buffered ≡ [] → IsNoRecord (prepend_known buffered start) → IsNoRecord start
no_record_from_start buffered start empty none = subst IsNoRecord (from_start buffered start empty) none

pub refuses_from_start : (kind : StreamFaultKind) (buffered : List ℕ) (start : Option (List ℕ)) → buffered ≡ [] → RefusesAs kind (prepend_known buffered start)
    → RefusesAs kind start
refuses_from_start kind buffered start empty refuses = subst (λ (b : Option (List ℕ)). RefusesAs kind b) (from_start buffered start empty) refuses

pub record_from_start : (made : Recorded) (buffered : List ℕ) (start after : Option (List ℕ)) → buffered ≡ []
    → TakesRecord made (prepend_known buffered start) after
    → TakesRecord made start after
record_from_start made buffered start after empty taken = subst (λ (b : Option (List ℕ)). TakesRecord made b after) (from_start buffered start empty) taken

-- a stream of which no part was asked for is no record
pub none_known : (t : Tried) (before after : Option (List ℕ)) (rows others : List Row) (uses more : List CownUse) → (t ≡ tries.More) ⊎ (t ≡ tries.Over)
    → FollowsAs (Ok t) before after rows uses others more → IsNoRecord before × GoesOn before after rows uses others more
none_known (tries.Record r) before after rows others uses more (inl e) f = absurd (let p : tries.Record r ≡ tries.More = e in cc)
none_known (tries.Record r) before after rows others uses more (inr e) f = absurd (let p : tries.Record r ≡ tries.Over = e in cc)
none_known tries.More before after rows others uses more e f = f
none_known tries.Over before after rows others uses more e f = f

-- a record was taken
pub record_known : (t : Tried) (r made : Recorded) (before after : Option (List ℕ)) (rows others : List Row) (uses more : List CownUse) → t ≡ tries.Record r
    → made ≡ r → FollowsAs (Ok t) before after rows uses others more → TakesRecord made before after
record_known (tries.Record s) r made before after rows others uses more e is f =
    let same : s ≡ r = (let p : tries.Record s ≡ tries.Record r = e in cc) in
    subst (λ (x : Recorded). TakesRecord x before after) (same ∙ sym is) f
record_known tries.More r made before after rows others uses more e is f = absurd (let p : tries.More ≡ tries.Record r = e in cc)
record_known tries.Over r made before after rows others uses more e is f = absurd (let p : tries.Over ≡ tries.Record r = e in cc)

-- what was followed
pub cuts_some : (from : ℕ) (asked : Option ℕ) (o : Option Window) (window : Window) (before after : Option (List ℕ)) (rows others : List Row)
    (uses more : List CownUse) → o ≡ Some window → CutsAs from asked (Ok o) before after rows uses others more
    → TakesRecord window.record before after × AreWholeOrigins window.record.rows window.origins.items
cuts_some from asked None window before after rows others uses more e cuts = absurd (let f : None ≡ Some window = e in cc)
cuts_some from asked (Some other) window before after rows others uses more e cuts =
    let same : other ≡ window = (let f : Some other ≡ Some window = e in cc) in
    subst (λ (x : Window). TakesRecord x.record before after × AreWholeOrigins x.record.rows x.origins.items) same cuts

pub cuts_none : (from : ℕ) (asked : Option ℕ) (o : Option Window) (before after : Option (List ℕ)) (rows others : List Row) (uses more : List CownUse)
    → o ≡ None → CutsAs from asked (Ok o) before after rows uses others more
    → GoesOn before after rows uses others more × (from ≡ 0 → asked ≡ None → IsNoRecord before)
cuts_none from asked None before after rows others uses more e cuts = cuts
cuts_none from asked (Some window) before after rows others uses more e cuts = absurd (let f : Some window ≡ None = e in cc)

-- the window of a table
pub of_table : (from : ℕ) (asked : Option ℕ) (before rest : Option (List ℕ)) (ahead : List ℕ) (made : Recorded) (origins : List (Option ℕ))
    (rows : List Row) (uses : List CownUse)
    (kept : List ℕ) → HasRead before (prepend_known ahead rest) rows uses → length ahead ≤ CAPACITY → AreOrigins rows uses kept made.rows origins
    → (from ≡ 0 → asked ≡ None → IsNoRecord before) → IsWindowOf from asked before rest made origins
of_table from asked before rest ahead made origins rows uses kept read few given none = record {
  text = read.text;
  ends = read.ends;
  ahead = ahead;
  few = few;
  taken = with_ahead before rest read.text ahead read.taken;
  order = order_kept read.text rows uses kept made.rows origins read.spawned given;
  whole = λ f a r. no_whole before made r (none f a r);
}

one_whole : (before : Option (List ℕ)) (text : List ℕ) (made r : Recorded) → IsTextOf text made → IfSome before (λ bytes. bytes ≡ text)
    → IfSome before (λ bytes. IsTextOf bytes r → made ≡ r)
one_whole None text made r t e = tt
one_whole (Some bytes) text made r t e = λ u. one_record bytes made r (subst (λ (x : List ℕ). IsTextOf x made) (sym e) t) u

record_ends : (text : List ℕ) (r : Recorded) → IsTextOf text r → EndsLine text
record_ends text r t =
    inr (begun t.version r.cowns r.events ++ codes ".", t.is ∙ sym (append_assoc (begun t.version r.cowns r.events) (codes ".") (codes "\n")))

-- the window that is a whole record
pub of_record : (from : ℕ) (asked : Option ℕ) (before rest : Option (List ℕ)) (ahead : List ℕ) (made : Recorded) (origins : List (Option ℕ))
    → TakesRecord made before (prepend_known ahead rest) → length ahead ≤ CAPACITY → AreWholeOrigins made.rows origins
    → IsWindowOf from asked before rest made origins
of_record from asked before rest ahead made origins taken few all = record {
  text = taken.text;
  ends = record_ends taken.text made taken.text_of;
  ahead = ahead;
  few = few;
  taken = with_ahead before rest taken.text ahead taken.taken;
  order = whole_order taken.text made origins taken.text_of all;
  whole = λ f a r. one_whole before taken.text made r taken.text_of taken.whole;
}
