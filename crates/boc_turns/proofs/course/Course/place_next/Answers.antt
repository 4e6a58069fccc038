use Rattle.std.proofs.Common.{[], ◌≡◌, ◌∙◌, ℕ, List, length, ap, refl, arith}
use Rattle.std.specs.List.{fold}
use Rattle.std.proofs.lemmas.List.{with_items_is}
use Rattle.boc_runs.specs.Rows.{ticks_of}
use Rattle.boc_turns.specs.declared.coming.Coming.{Coming}
use Rattle.boc_turns.specs.declared.pace.Wait.{Wait}
use Rattle.boc_turns.specs.Pace.{made_by, started, left_of, left_written, latest, noted, waited}
use Rattle.boc_turns.proofs.Arriving.{all_long}
use Rattle.boc_turns.proofs.Counting.{own_enough, part_is}
use Rattle.boc_turns.proofs.Advancing.{course_next, low_coming, low_waits, slice_is}
use Rattle.boc_turns.proofs.course.Course.place_next.Goals as goal

pub note_coming-requires-clause-uses : goal.note_coming-requires-clause-uses
note_coming-requires-clause-uses c =
    let course = c.args.self.now in
    rw (part_is c.args.rows.now c.args.uses.now c.requires.uses c.args.row c.requires.there course.passed c.requires.placed.passed_is)
    (own_enough c.args.rows.now c.args.uses.now c.requires.uses c.args.row c.requires.there)

pub push_waits-requires : goal.push_waits-requires
push_waits-requires c =
    let rows = c.args.rows.now in
    let hr = c.requires.shape in
    let uses = c.args.uses.now in
    let are = c.requires.uses in
    let marks = c.args.relaxed.now in
    let n : ℕ = c.args.row in
    let there = c.requires.there in
    let course = c.args.self.now in
    let has = c.requires.placed in
    let coming : List Coming = c.note_coming.new.coming.items in
    let come = rw (part_is rows uses are n there course.passed has.passed_is, c.deref.ensures.value, c.deref-2.ensures.value) at c.in_ok-note_coming.ensures in
    let spawned : ℕ = c.spawned_at-spawned.result in
    let start : ℕ = c.start_of-start.result in
    let start_is = c.start_of-start.ensures ∙ ap (fold started spawned) c.deref-3.ensures.value in
    rw c.deref-4.ensures.value (low_coming rows hr uses are marks n there course has coming come spawned start c.spawned_at-spawned.ensures.main
    c.spawned_at-spawned.ensures.child start_is)

pub made-end-requires : goal.made-end-requires
made-end-requires c =
    let rows = c.args.rows.now in
    let hr = c.requires.shape in
    let uses = c.args.uses.now in
    let are = c.requires.uses in
    let marks = c.args.relaxed.now in
    let n : ℕ = c.args.row in
    let there = c.requires.there in
    let course = c.args.self.now in
    let has = c.requires.placed in
    let coming : List Coming = c.note_coming.new.coming.items in
    let come = rw (part_is rows uses are n there course.passed has.passed_is, c.deref.ensures.value, c.deref-2.ensures.value) at c.in_ok-note_coming.ensures in
    let spawned : ℕ = c.spawned_at-spawned.result in
    let start : ℕ = c.start_of-start.result in
    let start_is = c.start_of-start.ensures ∙ ap (fold started spawned) c.deref-3.ensures.value in
    let waits_are = c.in_ok-push_waits.ensures.waits ∙ ap (fold waited course.waits.items) c.deref-4.ensures.value in
    let added : List Wait = fold waited [] coming in
    let first_is : c.len-first.result ≡ length course.waits.items = omega (arith, c.len-first.ensures, course.waits.ok.0) in
    let slice = slice_is rows hr uses are marks n there course has coming come spawned start c.spawned_at-spawned.ensures.main
    c.spawned_at-spawned.ensures.child start_is c.deref-5.result.now c.len-first.result (c.deref-5.ensures.value ∙ waits_are) first_is in
    let low = low_waits rows hr uses are marks n there course has coming come spawned start c.spawned_at-spawned.ensures.main
    c.spawned_at-spawned.ensures.child start_is in
    rw slice (omega (arith, low c.ticks.result, c.ticks.ensures, hr.ticks_high n there))

pub leave-last-requires-clause-low : goal.leave-last-requires-clause-low
leave-last-requires-clause-low c = λ k.
    let rows = c.args.rows.now in
    let hr = c.requires.shape in
    let uses = c.args.uses.now in
    let are = c.requires.uses in
    let marks = c.args.relaxed.now in
    let n : ℕ = c.args.row in
    let there = c.requires.there in
    let course = c.args.self.now in
    let has = c.requires.placed in
    let coming : List Coming = c.note_coming.new.coming.items in
    let come = rw (part_is rows uses are n there course.passed has.passed_is, c.deref.ensures.value, c.deref-2.ensures.value) at c.in_ok-note_coming.ensures in
    let spawned : ℕ = c.spawned_at-spawned.result in
    let start : ℕ = c.start_of-start.result in
    let start_is = c.start_of-start.ensures ∙ ap (fold started spawned) c.deref-3.ensures.value in
    let waits_are = c.in_ok-push_waits.ensures.waits ∙ ap (fold waited course.waits.items) c.deref-4.ensures.value in
    let added : List Wait = fold waited [] coming in
    let first_is : c.len-first.result ≡ length course.waits.items = omega (arith, c.len-first.ensures, course.waits.ok.0) in
    let slice = slice_is rows hr uses are marks n there course has coming come spawned start c.spawned_at-spawned.ensures.main
    c.spawned_at-spawned.ensures.child start_is c.deref-5.result.now c.len-first.result (c.deref-5.ensures.value ∙ waits_are) first_is in
    let low = low_waits rows hr uses are marks n there course has coming come spawned start c.spawned_at-spawned.ensures.main
    c.spawned_at-spawned.ensures.child start_is in
    rw slice (low k)

pub leave-last-requires-clause-coming : goal.leave-last-requires-clause-coming
leave-last-requires-clause-coming c =
    let rows = c.args.rows.now in
    let hr = c.requires.shape in
    let uses = c.args.uses.now in
    let are = c.requires.uses in
    let marks = c.args.relaxed.now in
    let n : ℕ = c.args.row in
    let there = c.requires.there in
    let course = c.args.self.now in
    let has = c.requires.placed in
    let coming : List Coming = c.note_coming.new.coming.items in
    let come = rw (part_is rows uses are n there course.passed has.passed_is, c.deref.ensures.value, c.deref-2.ensures.value) at c.in_ok-note_coming.ensures in
    let spawned : ℕ = c.spawned_at-spawned.result in
    let start : ℕ = c.start_of-start.result in
    let start_is = c.start_of-start.ensures ∙ ap (fold started spawned) c.deref-3.ensures.value in
    rw c.deref-6.ensures.value (low_coming rows hr uses are marks n there course has coming come spawned start c.spawned_at-spawned.ensures.main
    c.spawned_at-spawned.ensures.child start_is)

pub returns : goal.returns
returns c =
    let rows = c.args.rows.now in
    let hr = c.requires.shape in
    let uses = c.args.uses.now in
    let are = c.requires.uses in
    let marks = c.args.relaxed.now in
    let n : ℕ = c.args.row in
    let there = c.requires.there in
    let course = c.args.self.now in
    let has = c.requires.placed in
    let coming : List Coming = c.note_coming.new.coming.items in
    let come = rw (part_is rows uses are n there course.passed has.passed_is, c.deref.ensures.value, c.deref-2.ensures.value) at c.in_ok-note_coming.ensures in
    let spawned : ℕ = c.spawned_at-spawned.result in
    let start : ℕ = c.start_of-start.result in
    let start_is = c.start_of-start.ensures ∙ ap (fold started spawned) c.deref-3.ensures.value in
    let waits_are = c.in_ok-push_waits.ensures.waits ∙ ap (fold waited course.waits.items) c.deref-4.ensures.value in
    let added : List Wait = fold waited [] coming in
    let first_is : c.len-first.result ≡ length course.waits.items = omega (arith, c.len-first.ensures, course.waits.ok.0) in
    let slice = slice_is rows hr uses are marks n there course has coming come spawned start c.spawned_at-spawned.ensures.main
    c.spawned_at-spawned.ensures.child start_is c.deref-5.result.now c.len-first.result (c.deref-5.ensures.value ∙ waits_are) first_is in
    let end : ℕ = c.made-end.result in
    let end_is : end ≡ made_by start added (ticks_of rows n) = c.made-end.ensures ∙ λ i. made_by start (slice i) (c.ticks.ensures i) in
    let held : List ℕ = c.leave-last.new.held in
    let wrote : List ℕ = c.leave-last.new.wrote in
    let held_is : held ≡ fold (λ ticks x. noted x.cown (left_of start added end x) ticks) course.held.items coming =
    c.leave-last.ensures.held
    ∙ λ i. fold (λ ticks x. noted x.cown (left_of start (slice i) end x) ticks) (c.deref_mut.ensures.value i) (c.deref-6.ensures.value i) in
    let wrote_is : wrote ≡ fold (λ ticks x. noted x.cown (left_written start added end x) ticks) course.wrote.items coming =
    c.leave-last.ensures.wrote
    ∙ λ i. fold (λ ticks x. noted x.cown (left_written start (slice i) end x) ticks) (c.deref_mut-2.ensures.value i) (c.deref-6.ensures.value i) in
    let left_is = c.leave-last.ensures.last
    ∙ λ i. fold (λ (last : ℕ) (x : Coming). latest (left_of start (slice i) end x) last) end (c.deref-6.ensures.value i) in
    let held_long : length held ≡ length course.held.items =
    ap (length {A = ℕ}) held_is ∙ all_long (λ x. left_of start added end x) course.held.items coming in
    let wrote_long : length wrote ≡ length course.wrote.items =
    ap (length {A = ℕ}) wrote_is ∙ all_long (λ x. left_written start added end x) course.wrote.items coming in
    course_next rows hr uses are marks n there course has coming come spawned start c.spawned_at-spawned.ensures.main c.spawned_at-spawned.ensures.child
    start_is end c.leave-last.result end_is (record { start = start; first = c.len-first.result; end = c.len.result }) _
    (with_items_is course.held held (omega (arith, held_long, course.held.ok.0)) ∙ held_is)
    (with_items_is course.wrote wrote (omega (arith, wrote_long, course.wrote.ok.0)) ∙ wrote_is) left_is c.max-self.ensures c.push_reserved.ensures.items
    refl first_is (omega (arith, c.len.ensures, c.push_waits.new.waits.ok.0)) waits_are (omega (arith, c.push_reserved.ensures.capacity, has.enough))
    (omega (arith, c.len-2.ensures, c.note_coming.new.coming.ok.0))
