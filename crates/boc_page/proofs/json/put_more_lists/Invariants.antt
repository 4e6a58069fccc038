use Rattle.std.proofs.Common.{◌≡◌, ◌++◌, take}
use Rattle.boc_page.specs.Json.{lists_of, more_lists}
use Rattle.boc_page.proofs.json.put_more_lists.Given as goal

-- what is there so far
abbrev pub invariant-loop-list : goal.invariant-loop-list
invariant-loop-list l = l.text.items ≡ l.fn.text.items ++ more_lists (lists_of (take l.list-index l.lists))
