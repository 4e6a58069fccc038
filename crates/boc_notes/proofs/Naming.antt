-- What rows are called of which it is told what they are.
use Rattle.std.proofs.Common.{◌≡◌, ◌∙◌, ℕ, ◌-◌, ◌≤◌, Bool, true, false, cond, List, [], ◌∷◌, ◌++◌, length, map, take, drop, Option, Some, None, append_assoc}
use Rattle.std.proofs.Common.{refl, sym, ap, arith}
use Rattle.std.proofs.lemmas.Bool.Decides.{Decides-eqb}
use Rattle.std.proofs.lemmas.List.{map-append, take_all}
use Rattle.std.proofs.lemmas.Option.{slice_get-map}
use Rattle.std.specs.Option.{option_map}
use Rattle.std.specs.Prelude.{◌==◌, slice_get, slice_index_or, unwrap_or}
use Rattle.boc_runs.specs.Serial.{Behaviour}
use Rattle.boc_runs.specs.declared.rows.Row.{Row}
use Rattle.boc_runs.specs.Run.{Member}
use Rattle.boc_eval.specs.declared.instance.Instance.{Instance}
use Rattle.boc_eval.specs.declared.instance.ToldRow.{ToldRow}
use Rattle.boc_eval.specs.Instances.{AreTrueOf, IsTrueOf}
use Rattle.boc_names.specs.Names.{NamedCowns, Text, behaviour_text, instance_text, member_text, text_at}
use Rattle.boc_notes.specs.declared.note.Note.{Note}
use Rattle.boc_notes.specs.Notes.{Noted, instance_told, note_of_named, note_of_row, noted}

-- a row that is reported is called by what it is
called_one : (defs : List Text) (cowns : NamedCowns) (run : List Member) (t : ToldRow) → IsTrueOf run t
    → text_at (map (member_text defs cowns) run) t.row ≡ instance_text defs cowns t.instance
called_one defs cowns run t told =
    let there = slice_get-map (member_text defs cowns) run t.row in
    ap (λ (o : Option Text). unwrap_or o []) (there ∙ ap (option_map (member_text defs cowns)) told.is)
    ∙ ap (λ (b : Behaviour). behaviour_text defs cowns b.kind b.args b.cowns) told.behaviour_is

-- what a row is called by what is reported of it, or by what is reported later
called_by : (defs : List Text) (cowns : NamedCowns) (run : List Member) (t : ToldRow) (r : ℕ) (i : Instance) (later : Option Instance) (same : Bool)
    → (t.row == r) ≡ same → IsTrueOf run t
    → (later ≡ Some i → text_at (map (member_text defs cowns) run) r ≡ instance_text defs cowns i) → cond same (Some t.instance) later ≡ Some i
    → text_at (map (member_text defs cowns) run) r ≡ instance_text defs cowns i
called_by defs cowns run t r i later true same told others is =
    let number : t.row ≡ r = (Decides-eqb t.row r).0 same in
    let one : t.instance ≡ i = (let e : Some t.instance ≡ Some i = is in cc) in
    ap (text_at (map (member_text defs cowns) run)) (sym number) ∙ called_one defs cowns run t told ∙ ap (instance_text defs cowns) one
called_by defs cowns run t r i later false same told others is = others is

-- a row of which it is told what it is is called so
called_so : (defs : List Text) (cowns : NamedCowns) (run : List Member) (told : List ToldRow) (r : ℕ) (i : Instance) → AreTrueOf run told
    → instance_told told r ≡ Some i → text_at (map (member_text defs cowns) run) r ≡ instance_text defs cowns i
called_so defs cowns run [] r i are is = absurd (let e : None ≡ Some i = is in cc)
called_so defs cowns run (t ∷ told) r i are is =
    called_by defs cowns run t r i (instance_told told r) (t.row == r) refl are.0 (called_so defs cowns run told r i are.1) is

-- the note on a row that is reported, and those on others
pub noted_first : (defs : List Text) (cowns : NamedCowns) (run : List Member) (rows : List Row) (told : List ToldRow) (faulted : List ℕ)
    (before put after : List Note) (note : Note) (i : Instance) → 1 ≤ length faulted
    → noted note ≡ note_of_named rows (instance_text defs cowns i) (slice_index_or faulted 0 0) → put ≡ before ++ note ∷ []
    → instance_told told (slice_index_or faulted 0 0) ≡ Some i → AreTrueOf run told
    → map noted after ≡ map noted put ++ map (note_of_row (map (member_text defs cowns) run) rows) (take (length faulted - 1) (drop 1 faulted))
    → map noted after ≡ map noted before ++ map (note_of_row (map (member_text defs cowns) run) rows) faulted
noted_first defs cowns run rows told [] before put after note i some is_noted is_put is_told are is = absurd (omega (arith, some))
noted_first defs cowns run rows told (r ∷ faulted) before put after note i some is_noted is_put is_told are is =
    let f : ℕ → Noted = note_of_row (map (member_text defs cowns) run) rows in
    let own : noted note ≡ f r =
    is_noted ∙ ap (λ (text : Text). note_of_named rows text r) (sym (called_so defs cowns run told r i are is_told)) in
    is ∙ ap (λ (rest : List ℕ). map noted put ++ map f rest) (take_all (length (r ∷ faulted) - 1) faulted (omega arith))
    ∙ ap (λ (notes : List Note). map noted notes ++ map f faulted) is_put
    ∙ ap (λ (notes : List Noted). notes ++ map f faulted) (map-append noted before (note ∷ []))
    ∙ append_assoc (map noted before) (noted note ∷ []) (map f faulted)
    ∙ ap (λ (n : Noted). map noted before ++ n ∷ map f faulted) own
