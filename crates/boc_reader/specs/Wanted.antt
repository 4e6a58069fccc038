-- How a text is read without its tree: what is wanted next of it, token by token.
use Rattle.std.specs.Prelude.{ℕ, zero, suc, Bool, true, false, if◌then◌else◌, List, [], ◌∷◌, ◌++◌, Option, Some, None}
use Rattle.boc_reader.specs.Tokens.{Token, name, number, keyword, sign}
use Rattle.boc_reader.specs.declared.terminal.Keyword.{Keyword}
use Rattle.boc_reader.specs.declared.terminal.Keyword.TheVariants as keywords
use Rattle.boc_reader.specs.declared.terminal.Sign.{Sign}
use Rattle.boc_reader.specs.declared.terminal.Sign.TheVariants as signs
use Rattle.boc_reader.specs.declared.wanted.Wanted.{Wanted}
use Rattle.boc_reader.specs.declared.wanted.Wanted.TheVariants.{Cowns, Defs, Name, Number, Assign, Semicolon, Open, Close, OpenBlock, CloseIndex, Size, Members}
use Rattle.boc_reader.specs.declared.wanted.Wanted.TheVariants.{Initial, Params, MoreParams, Held, MoreHeld, Stmts, Else, Args, MoreArgs, Refs, MoreRefs, Index}
use Rattle.boc_reader.specs.declared.wanted.Wanted.TheVariants.{Expr, InExpr, Sum, InSum, CownName, NextName, NextArg, NextRef}

-- what is wanted after a name, instead of what was wanted where it stands
abbrev pub behind_name : Wanted → Option (List Wanted)
behind_name Name = Some []
behind_name Params = Some (MoreParams ∷ [])
behind_name Held = Some (MoreHeld ∷ [])
behind_name Stmts = Some (Assign ∷ Expr ∷ Semicolon ∷ Stmts ∷ [])
behind_name Args = Some (InExpr ∷ MoreArgs ∷ [])
behind_name Refs = Some (Index ∷ MoreRefs ∷ [])
behind_name Expr = Some (InExpr ∷ [])
behind_name Sum = Some (InSum ∷ [])
behind_name CownName = Some (Size ∷ [])
behind_name NextName = Some []
behind_name NextArg = Some (InExpr ∷ [])
behind_name NextRef = Some (Index ∷ [])
behind_name w = None

-- an array has members
abbrev pub behind_size : ℕ → Option (List Wanted)
behind_size zero = None
behind_size (suc n) = Some []

-- what is wanted after a number
abbrev pub behind_number : ℕ → Wanted → Option (List Wanted)
behind_number n Number = Some []
behind_number n Members = behind_size n
behind_number n Initial = Some []
behind_number n Args = Some (InExpr ∷ MoreArgs ∷ [])
behind_number n Expr = Some (InExpr ∷ [])
behind_number n Sum = Some (InSum ∷ [])
behind_number n NextArg = Some (InExpr ∷ [])
behind_number n w = None

-- what is wanted after a keyword that begins a statement
abbrev pub in_statement : Keyword → Option (List Wanted)
in_statement keywords.Let = Some (Name ∷ Assign ∷ Expr ∷ Semicolon ∷ Stmts ∷ [])
in_statement keywords.Work = Some (Expr ∷ Semicolon ∷ Stmts ∷ [])
in_statement keywords.If = Some (Expr ∷ OpenBlock ∷ Stmts ∷ Else ∷ Stmts ∷ [])
in_statement keywords.Repeat = Some (Expr ∷ OpenBlock ∷ Stmts ∷ Stmts ∷ [])
in_statement keywords.When = Some (Name ∷ Open ∷ Args ∷ Refs ∷ Semicolon ∷ Stmts ∷ [])
in_statement k = None

-- what is wanted after a keyword that begins a def or main
abbrev pub in_def : Keyword → Option (List Wanted)
in_def keywords.Def = Some (Name ∷ Open ∷ Params ∷ Held ∷ OpenBlock ∷ Stmts ∷ Defs ∷ [])
in_def keywords.Main = Some (OpenBlock ∷ Stmts ∷ [])
in_def k = None

-- what is wanted after a keyword that begins a declaration of cowns, a def or main
abbrev pub in_declaration : Keyword → Option (List Wanted)
in_declaration keywords.Cown = Some (CownName ∷ Assign ∷ Initial ∷ Semicolon ∷ Cowns ∷ [])
in_declaration k = in_def k

-- what is wanted behind `else`
abbrev pub in_else : Keyword → Option (List Wanted)
in_else keywords.Else = Some (OpenBlock ∷ Stmts ∷ [])
in_else k = None

-- what is wanted after a keyword
abbrev pub behind_keyword : Keyword → Wanted → Option (List Wanted)
behind_keyword k Cowns = in_declaration k
behind_keyword k Defs = in_def k
behind_keyword k Stmts = in_statement k
behind_keyword k Else = in_else k
behind_keyword k w = None

-- what is wanted after an operator that binds more tightly than a comparison
abbrev pub behind_operator : Wanted → Option (List Wanted)
behind_operator InExpr = Some (Expr ∷ [])
behind_operator InSum = Some (Sum ∷ [])
behind_operator w = None

-- what is wanted after a comparison, of which an expression has one at most
abbrev pub behind_comparison : Wanted → Option (List Wanted)
behind_comparison InExpr = Some (Sum ∷ [])
behind_comparison w = None

-- what is wanted after a minus: it is an operator, or comes before a number or a factor
abbrev pub behind_minus : Wanted → Option (List Wanted)
behind_minus Initial = Some (Number ∷ [])
behind_minus Args = Some (Expr ∷ MoreArgs ∷ [])
behind_minus Expr = Some (Expr ∷ [])
behind_minus Sum = Some (Sum ∷ [])
behind_minus NextArg = Some (Expr ∷ [])
behind_minus w = behind_operator w

-- what is wanted behind a `(`: what it holds, and its `)`, where one may stand
abbrev pub behind_open : Wanted → Option (List Wanted)
behind_open Open = Some []
behind_open Args = Some (Expr ∷ Close ∷ InExpr ∷ MoreArgs ∷ [])
behind_open Expr = Some (Expr ∷ Close ∷ InExpr ∷ [])
behind_open Sum = Some (Expr ∷ Close ∷ InSum ∷ [])
behind_open NextArg = Some (Expr ∷ Close ∷ InExpr ∷ [])
behind_open w = None

-- behind a `)`: it ends a list, or is what was wanted
abbrev pub behind_close : Wanted → Option (List Wanted)
behind_close Close = Some []
behind_close Held = Some []
behind_close MoreHeld = Some []
behind_close Refs = Some []
behind_close MoreRefs = Some []
behind_close w = None

-- behind a `;`
abbrev pub behind_semicolon : Wanted → Option (List Wanted)
behind_semicolon Semicolon = Some []
behind_semicolon Params = Some []
behind_semicolon MoreParams = Some []
behind_semicolon Args = Some []
behind_semicolon MoreArgs = Some []
behind_semicolon w = None

-- behind a `,`: the list's next
abbrev pub behind_comma : Wanted → Option (List Wanted)
behind_comma MoreParams = Some (NextName ∷ MoreParams ∷ [])
behind_comma MoreHeld = Some (NextName ∷ MoreHeld ∷ [])
behind_comma MoreArgs = Some (NextArg ∷ MoreArgs ∷ [])
behind_comma MoreRefs = Some (NextRef ∷ MoreRefs ∷ [])
behind_comma w = None

-- behind a `[`: a size, or an index, and its `]`
abbrev pub behind_open_index : Wanted → Option (List Wanted)
behind_open_index Size = Some (Members ∷ CloseIndex ∷ [])
behind_open_index Index = Some (Expr ∷ CloseIndex ∷ [])
behind_open_index w = None

-- behind a `]`
abbrev pub behind_close_index : Wanted → Option (List Wanted)
behind_close_index CloseIndex = Some []
behind_close_index w = None

-- behind a `{`
abbrev pub behind_open_block : Wanted → Option (List Wanted)
behind_open_block OpenBlock = Some []
behind_open_block w = None

-- behind a `}`: it ends the statements of a block
abbrev pub behind_close_block : Wanted → Option (List Wanted)
behind_close_block Stmts = Some []
behind_close_block w = None

-- behind a `=`
abbrev pub behind_assign : Wanted → Option (List Wanted)
behind_assign Assign = Some []
behind_assign w = None

-- what is wanted after a sign
abbrev pub behind_sign : Sign → Wanted → Option (List Wanted)
behind_sign signs.Plus w = behind_operator w
behind_sign signs.Star w = behind_operator w
behind_sign signs.Slash w = behind_operator w
behind_sign signs.Percent w = behind_operator w
behind_sign signs.Minus w = behind_minus w
behind_sign signs.Open w = behind_open w
behind_sign signs.Close w = behind_close w
behind_sign signs.OpenBlock w = behind_open_block w
behind_sign signs.CloseBlock w = behind_close_block w
behind_sign signs.OpenIndex w = behind_open_index w
behind_sign signs.CloseIndex w = behind_close_index w
behind_sign signs.Semicolon w = behind_semicolon w
behind_sign signs.Comma w = behind_comma w
behind_sign signs.Assign w = behind_assign w
behind_sign comparison w = behind_comparison w

-- What is wanted after a token, instead of what was wanted where it stands; nothing where it isn't what was wanted.
abbrev pub behind : Token → Wanted → Option (List Wanted)
behind (name x) w = behind_name w
behind (number n) w = behind_number n w
behind (keyword k) w = behind_keyword k w
behind (sign s) w = behind_sign s w

-- what may be left out
abbrev pub may_be_left_out : Wanted → Bool
may_be_left_out Size = true
may_be_left_out Else = true
may_be_left_out Index = true
may_be_left_out InExpr = true
may_be_left_out InSum = true
may_be_left_out w = false

-- What is wanted of the rest of a text after a token, where all this was wanted before it, one after the other. It is none where the token
-- can't be there.
abbrev pub wanted_behind : Token → List Wanted → Option (List Wanted)
wanted_behind t [] = None
wanted_behind t (w ∷ ws) = elim (behind t w) [ Some all ↦ Some (all ++ ws) | None ↦ if may_be_left_out w then wanted_behind t ws else None ]

-- what is wanted after several tokens
abbrev pub wanted_after : List Token → List Wanted → Option (List Wanted)
wanted_after [] ws = Some ws
wanted_after (t ∷ ts) ws = elim (wanted_behind t ws) [ Some vs ↦ wanted_after ts vs | None ↦ None ]
