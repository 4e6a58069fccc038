-- Tables that are put behind a text.
use Rattle.std.proofs.Common.{◌≡◌, ◌++◌, List}
use Rattle.boc_names.specs.Names.{Text}
use Rattle.boc_table.specs.declared.side.Side.{Side}
use Rattle.boc_table.specs.Tables.{table_text}

-- a table with these sides and lines was put behind a text
pub put_as : (text start head : Text) (sides columns : List Side) (lines told : List (List Text)) → start ≡ head → sides ≡ columns → lines ≡ told
    → text ≡ start ++ table_text sides lines → text ≡ head ++ table_text columns told
put_as text start head sides columns lines told a b d put = rw (← a, ← b, ← d) put
