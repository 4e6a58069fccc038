-- Which texts begin as a program does.
use Rattle.std.proofs.Common.{◌≡◌, true, false, [], codes, refl}
use Rattle.boc_input.specs.FirstTokens.{begins_program}

pub cown_begins : begins_program (codes "cown x = 0;") ≡ true
cown_begins = refl

pub comment_then_main : begins_program (codes "# x\n \t\r\nmain{}") ≡ true
comment_then_main = refl

pub def_ends : begins_program (codes "def") ≡ true
def_ends = refl

pub comment_is_no_word : begins_program (codes "# main\n") ≡ false
comment_is_no_word = refl

pub nothing_begins : begins_program [] ≡ false
nothing_begins = refl

pub longer_word : begins_program (codes "definitely x") ≡ false
longer_word = refl

pub longer_name : begins_program (codes "main_ {}") ≡ false
longer_name = refl

pub shorter_word : begins_program (codes "cow n") ≡ false
shorter_word = refl

pub record_begins : begins_program (codes "boc 2 1\n") ≡ false
record_begins = refl

pub word_is_first : begins_program (codes "x main {}") ≡ false
word_is_first = refl

pub sign_is_first : begins_program (codes "; main {}") ≡ false
sign_is_first = refl

pub other_keyword : begins_program (codes "when w();") ≡ false
other_keyword = refl
