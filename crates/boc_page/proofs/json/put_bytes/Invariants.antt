use Rattle.std.proofs.Common.{◌≡◌, ◌++◌, take}
use Rattle.boc_page.specs.Json.{escaped_text}
use Rattle.boc_page.proofs.json.put_bytes.Given as goal

-- what is there so far
abbrev pub invariant-loop-byte : goal.invariant-loop-byte
invariant-loop-byte l = l.text.items ≡ l.fn.text.items ++ escaped_text (take l.byte-index l.bytes)
