-- A text spells one program at most, and none where a fault is reported.
use Rattle.std.proofs.Common.{◌≡◌, ◌≢◌, ℕ, List, Some, map, refl, sym, ap, ◌∙◌, subst, arith}
use Rattle.boc_program.specs.declared.program.Program.{Program}
use Rattle.boc_reader.specs.Tokens.{Token, tokens_of_text}
use Rattle.boc_reader.specs.Shape.{Tree, HasShape}
use Rattle.boc_reader.specs.Names.{tree_names}
use Rattle.boc_reader.specs.Listing.{signature_of}
use Rattle.boc_reader.specs.Listed.{ListsDefs, listed}
use Rattle.boc_reader.specs.declared.listing.DefListing.{DefListing}
use Rattle.boc_reader.specs.Spells.{Spells, plain_program}
use Rattle.boc_reader.specs.FaultMeanings.{HasNoTokens, HasNoShape, HasNoNames, SaysOf}
use Rattle.boc_reader.specs.declared.fault.ReadFaultKind.{ReadFaultKind}
use Rattle.boc_reader.specs.declared.fault.ReadFaultKind.TheVariants as kinds
use Rattle.boc_reader.proofs.Declarations.{one_tree}

same_tokens : (text : List ℕ) (ws vs : List Token) → tokens_of_text text ≡ Some ws → tokens_of_text text ≡ Some vs → ws ≡ vs
same_tokens text ws vs e f = cc

pub same_tree : (text : List ℕ) (ws vs : List Token) (t u : Tree) → tokens_of_text text ≡ Some ws → tokens_of_text text ≡ Some vs → HasShape ws t
    → HasShape vs u → t ≡ u
same_tree text ws vs t u e f h k = one_tree t u (sym h.tokens_are ∙ same_tokens text ws vs e f ∙ k.tokens_are)

no_tokens : (text : List ℕ) (p : Program) → HasNoTokens text → Spells text p → ⊥
no_tokens text p h s = let e = h.none in let f = s.has_tokens in cc

no_shape : (text : List ℕ) (p : Program) → HasNoShape text → Spells text p → ⊥
no_shape text p h s =
    h.none s.tree (subst (λ ws. HasShape ws s.tree) (same_tokens text s.tokens h.tokens s.has_tokens h.has_tokens) s.has_shape)

no_names : (text : List ℕ) (p : Program) → HasNoNames text → Spells text p → ⊥
no_names text p h s =
    let same = same_tree text h.tokens s.tokens h.tree s.tree h.has_tokens s.has_tokens h.has_shape s.has_shape in
    let e = h.none in
    let f = s.has_names in
    cc

pub none_spelled : (kind : ReadFaultKind) (text : List ℕ) (p : Program) → kind ≢ kinds.Memory → SaysOf kind text → Spells text p → ⊥
none_spelled kinds.NotAscii text p n h s = no_tokens text p h s
none_spelled kinds.BadToken text p n h s = no_tokens text p h s
none_spelled kinds.NumberTooLarge text p n h s = no_tokens text p h s
none_spelled kinds.Unexpected text p n h s = no_shape text p h s
none_spelled kinds.TooMany text p n h s = no_shape text p h s
none_spelled kinds.UnknownName text p n h s = no_names text p h s
none_spelled kinds.NameTaken text p n h s = no_names text p h s
none_spelled kinds.WrongCount text p n h s = no_names text p h s
none_spelled kinds.TooLong text p n h s = let k = s.short in omega arith
none_spelled kinds.Memory text p n h s = n refl

pub one_program : (text : List ℕ) (p q : Program) → Spells text p → Spells text q → plain_program p ≡ plain_program q
one_program text p q s t =
    let same = same_tree text s.tokens t.tokens s.tree t.tree s.has_tokens t.has_tokens s.has_shape t.has_shape in
    let e = s.has_names in
    let f = t.has_names in
    let found : Some (plain_program p) ≡ Some (plain_program q) = sym e ∙ ap tree_names same ∙ f in
    cc found

pub one_list : (text : List ℕ) (defs others : List DefListing) → ListsDefs text defs → ListsDefs text others → map listed defs ≡ map listed others
one_list text defs others l k =
    let t = l.has_tree in
    let u = k.has_tree in
    l.are_listed.all
    ∙ ap (λ tree. map signature_of tree.defs) (same_tree text t.tokens u.tokens l.tree k.tree t.has_tokens u.has_tokens t.has_shape u.has_shape)
    ∙ sym k.are_listed.all
