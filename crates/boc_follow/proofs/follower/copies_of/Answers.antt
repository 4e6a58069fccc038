use Rattle.std.proofs.Common.{◌≡◌, ◌∙◌, ◌+◌, ◌++◌, ◌∷◌, [], suc, List, length, map, take, refl, sym, ap, arith}
use Rattle.std.proofs.lemmas.List.{map-append}
use Rattle.std.proofs.lemmas.Option.{slice_get_read}
use Rattle.boc_eval.specs.declared.instance.Instance.{Instance}
use Rattle.boc_eval.proofs.Taking.{take_next}
use Rattle.boc_follow.specs.declared.row.FollowedRow.{FollowedRow}
use Rattle.boc_follow.proofs.follower.copies_of.Goals as goal

pub loop-row-preserved : goal.loop-row-preserved
loop-row-preserved c =
    let rows = c.args.rows.now in
    let row = c.loop-row.row in
    let r = c.index-rows-row.result in
    let f : FollowedRow → Instance = λ x. x.instance in
    let read = slice_get_read rows (length rows) row r refl c.loop-row-test.true c.index-rows-row.is in
    let next : suc row ≡ row + 1 = omega arith in
    c.in_ok-push.ensures.items ∙ ap (λ (is : List Instance). is ++ c.duplicate.result ∷ []) c.loop-row.invariant
    ∙ ap (λ (i : Instance). map f (take row rows) ++ i ∷ []) (c.duplicate.ensures ∙ ap f (sym c.index-rows-row.is)) ∙ sym (map-append f (take row rows) (r ∷ []))
    ∙ ap (map f) (sym (take_next rows row r read)) ∙ ap (λ n. map f (take n rows)) next
