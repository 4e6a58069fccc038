use Rattle.std.proofs.Common.{◌≡◌, List, ℕ, map}
use Rattle.std.specs.Prelude.{string_bytes}
use Rattle.std.proofs.lemmas.Result.{IfOk-weaker}
use Rattle.clap.specs.Words.{app_of}
use Rattle.boc_words.specs.Words.{command_line}
use Rattle.boc_words.proofs.Parsed.{named, refused, taken}
use Rattle.boc_words.proofs.words.found.Goals as goal

pub returns : goal.returns
returns c =
    let words : List (List ℕ) = map string_bytes c.args.words.now in
    let is : app_of c.in_ok-parser.parser ≡ command_line = c.in_ok-parser.ensures in
    let parse = c.try_get_matches_from_mut in
    record {
      taken = taken (app_of c.in_ok-parser.parser) words parse.result is parse.ensures.kinds;
      named = IfOk-weaker parse.result _ _ (λ m has. named (app_of c.in_ok-parser.parser) words m is has.2) parse.ensures.ok;
      refused = refused (app_of c.in_ok-parser.parser) words parse.result is parse.ensures.kinds;
    }
