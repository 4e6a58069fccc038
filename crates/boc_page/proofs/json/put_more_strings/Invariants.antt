use Rattle.std.proofs.Common.{◌≡◌, ◌++◌, take}
use Rattle.boc_page.specs.Json.{more_strings}
use Rattle.boc_names.specs.Names.{texts_of}
use Rattle.boc_page.proofs.json.put_more_strings.Given as goal

-- what is there so far
abbrev pub invariant-loop-string : goal.invariant-loop-string
invariant-loop-string l = l.text.items ≡ l.fn.text.items ++ more_strings (texts_of (take l.string-index l.strings))
