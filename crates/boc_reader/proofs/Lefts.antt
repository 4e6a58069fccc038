-- How many tokens are left at the names of defs.
use Rattle.std.proofs.Common.{◌≡◌, ◌+◌, List, [], ◌∷◌, ◌++◌, length, map, sym, ap, ◌∙◌}
use Rattle.std.proofs.lemmas.List.{map_push}
use Rattle.boc_reader.specs.Tokens.{Token}
use Rattle.boc_reader.specs.Shape.{def_tokens, each_tokens}
use Rattle.boc_reader.specs.Listing.{AreLeft}
use Rattle.boc_reader.specs.Views.{def_of}
use Rattle.boc_reader.specs.declared.shape.DefShape.{DefShape}
use Rattle.boc_reader.proofs.Each.{each_tokens-append}

-- a def more
pub left_more : (ds : List DefShape) (d : DefShape) (rest after : List Token) → AreLeft ds rest → rest ≡ def_tokens (def_of d) after → length rest ≡ d.left + 1
    → AreLeft (ds ++ d ∷ []) after
left_more [] d rest after left is one = (ap length (sym is) ∙ one, tt)
left_more (e ∷ es) d rest after left is one = (
  ap (λ defs. length (def_tokens (def_of e) (each_tokens def_tokens defs after))) (map_push def_of es d)
      ∙ ap (λ ts. length (def_tokens (def_of e) ts)) (each_tokens-append def_tokens (map def_of es) (def_of d) after
      ∙ ap (each_tokens def_tokens (map def_of es)) (sym is))
      ∙ left.0,
  left_more es d rest after left.1 is one,
)
