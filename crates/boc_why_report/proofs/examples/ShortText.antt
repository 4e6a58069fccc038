-- The definitions of what is told in short, tried on a few numbers.
use Rattle.std.proofs.Common.{◌≡◌, ◌++◌, List, [], ◌∷◌, Some, None, codes, refl}
use Rattle.std.specs.Fmt.{digits}
use Rattle.boc_names.specs.declared.names.Names.{Names}
use Rattle.boc_names.specs.Names.{texts_of}
use Rattle.boc_table.specs.Tables.{table_text}
use Rattle.boc_why.specs.declared.shares.Share.{Share}
use Rattle.boc_why_report.specs.ShortTexts.{chain_line, change_text, end_texts, greedy_texts, short_head, short_sides, work_texts}

-- the work, a span that falls, and a greedy plan's end that rises
pub text_of_numbers : table_text short_sides
    (short_head ∷ work_texts 609 495 ∷ end_texts (codes "span") 279 200 ∷ greedy_texts (Some 299) (Some 304))
    ≡ codes "         was   now\nwork     609   495\n" ++ codes "span     279   200   -79\nend      299   304    +5\n"
unfolding digits
text_of_numbers = refl

-- what stays has no change, and without a greedy plan there is no line of its end
pub no_change : change_text 279 279 ≡ []
no_change = refl

pub no_end : greedy_texts None None ≡ []
no_end = refl

abbrev shares : List Share
shares = record { key = 1; ticks = 228; steps = 6 } ∷ record { key = 0; ticks = 5; steps = 1 } ∷ []

-- three defs stand in the line, and two dots for the others
pub text_of_chain : (names : Names) → texts_of names.def_names.items ≡ codes "main" ∷ codes "price" ∷ []
    → chain_line names shares (shares ++ shares) ≡ codes "chain    price 228, main 5   ->   price 228, main 5, price 228, ..\n"
unfolding digits
text_of_chain names called = rw called
