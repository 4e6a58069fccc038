use Rattle.std.proofs.Common.{refl, arith}
use Rattle.boc_turns.proofs.Beginning.{course_none}
use Rattle.boc_turns.proofs.course.Course.with_room.Goals as goal

pub returns : goal.returns
returns c = λ uses relaxed. course_none c.args.rows.now uses relaxed _ c.in_ok-with_capacity.ensures.items
    (omega (arith, c.in_ok-with_capacity.ensures.capacity, c.len.ensures.count)) (c.in_ok-vec.ensures.items_if_clones_equal (λ y e. e))
    (c.in_ok-vec-2.ensures.items_if_clones_equal (λ y e. e)) refl refl
