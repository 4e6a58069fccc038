-- How much more may be in a text, token by token, until a limit is passed.
use Rattle.std.specs.Prelude.{ℕ, zero, suc, ◌-◌, nat_le, if◌then◌else◌, List, [], ◌∷◌, ◌++◌, length, ◌==◌, Bool, is_some, Option, Some, None}
use Rattle.boc_program.specs.declared.limits.TheConstants.{MOST_COWNS, MOST_DEFS, MOST_NODES}
use Rattle.boc_reader.specs.declared.parse.TheConstants.{MOST_LISTED}
use Rattle.boc_reader.specs.declared.terminal.Keyword.TheVariants as keywords
use Rattle.boc_reader.specs.declared.terminal.Sign.TheVariants as signs
use Rattle.boc_reader.specs.declared.room.Room.{Room}
use Rattle.boc_reader.specs.declared.wanted.Wanted.{Wanted}
use Rattle.boc_reader.specs.declared.wanted.Wanted.TheVariants.{Cowns, Defs, Members, Params, MoreParams, Held}
use Rattle.boc_reader.specs.declared.wanted.Wanted.TheVariants.{MoreHeld, Stmts, Args, MoreArgs, Refs, MoreRefs}
use Rattle.boc_reader.specs.declared.wanted.Wanted.TheVariants.{Expr, InExpr, Sum, InSum, CownName, NextName, NextArg, NextRef}
use Rattle.boc_reader.specs.Tokens.{Token, name, number, keyword, sign}
use Rattle.boc_reader.specs.Wanted.{behind, may_be_left_out}

-- the room of a whole text
abbrev pub room_of_text : Room
room_of_text = record { cowns = MOST_COWNS; defs = MOST_DEFS; nodes = 0; listed = 0 }

-- a body begins
abbrev pub with_body : Room → Room
with_body r = record r { nodes = MOST_NODES }

-- a list begins
abbrev pub with_list : Room → Room
with_list r = record r { listed = MOST_LISTED }

-- a list ends
abbrev pub without_list : Room → Room
without_list r = record r { listed = 0 }

-- so many cowns more
abbrev pub take_cowns : ℕ → Room → Option Room
take_cowns n r = if nat_le n r.cowns then Some (record r { cowns = r.cowns - n }) else None

-- a def more
abbrev pub take_def : Room → Option Room
take_def r = elim r.defs [ suc n ↦ Some (record r { defs = n }) | zero ↦ None ]

-- a node more
abbrev pub take_node : Room → Option Room
take_node r = elim r.nodes [ suc n ↦ Some (record r { nodes = n }) | zero ↦ None ]

-- one more of a list
abbrev pub take_listed : Room → Option Room
take_listed r = elim r.listed [ suc n ↦ Some (record r { listed = n }) | zero ↦ None ]

-- one more of a list, which is a node
abbrev pub take_node_listed : Room → Option Room
take_node_listed r = elim (take_listed r) [ Some q ↦ take_node q | None ↦ None ]

-- what is left after a token where a def or main may begin
abbrev pub left_in_defs : Token → Room → Option Room
left_in_defs (keyword keywords.Def) r = take_def (with_body r)
left_in_defs t r = Some (with_body r)

-- where a declaration of cowns may begin too
abbrev pub left_in_cowns : Token → Room → Option Room
left_in_cowns (keyword keywords.Cown) r = Some r
left_in_cowns t r = left_in_defs t r

-- After the name of a cown, before these tokens: it is a cown more, but that of an array, whose size says how many there are.
abbrev pub left_in_cown : List Token → Room → Option Room
left_in_cown (sign signs.OpenIndex ∷ ts) r = Some r
left_in_cown ts r = take_cowns 1 r

-- after the size of an array: so many cowns more
abbrev pub left_in_size : Token → Room → Option Room
left_in_size (number n) r = take_cowns n r
left_in_size t r = Some r

-- where a statement or the brace after it may be
abbrev pub left_in_stmts : Token → Room → Option Room
left_in_stmts (sign s) r = Some r
left_in_stmts t r = take_node r

-- where the first of a list of names may be, or the sign after it
abbrev pub left_in_names : Token → Room → Option Room
left_in_names (name x) r = take_listed (with_list r)
left_in_names t r = Some r

-- where the first of a list of references may be, or the sign after it
abbrev pub left_in_refs : Token → Room → Option Room
left_in_refs (name x) r = take_node_listed (with_list r)
left_in_refs t r = Some r

-- where the first of a list of expressions may be, or the sign after it
abbrev pub left_in_args : Token → Room → Option Room
left_in_args (sign signs.Semicolon) r = Some r
left_in_args t r = take_node_listed (with_list r)

-- after one of a list, where a comma or the sign after it may be: what follows a comma counts where it begins
abbrev pub left_in_list : Token → Room → Option Room
left_in_list (sign signs.Comma) r = Some r
left_in_list t r = Some (without_list r)

-- The room that is left after a token which is what was wanted, before these tokens, or none where it passes a limit.
abbrev pub left_behind : Token → List Token → Wanted → Room → Option Room
left_behind t after Cowns r = left_in_cowns t r
left_behind t after Defs r = left_in_defs t r
left_behind t after Members r = left_in_size t r
left_behind t after Stmts r = left_in_stmts t r
left_behind t after Params r = left_in_names t r
left_behind t after Held r = left_in_names t r
left_behind t after Args r = left_in_args t r
left_behind t after Refs r = left_in_refs t r
left_behind t after MoreParams r = left_in_list t r
left_behind t after MoreHeld r = left_in_list t r
left_behind t after MoreArgs r = left_in_list t r
left_behind t after MoreRefs r = left_in_list t r
left_behind t after CownName r = left_in_cown after r
left_behind t after NextName r = take_listed r
left_behind t after NextArg r = take_node_listed r
left_behind t after NextRef r = take_node_listed r
left_behind t after Expr r = take_node r
left_behind t after InExpr r = take_node r
left_behind t after Sum r = take_node r
left_behind t after InSum r = take_node r
left_behind t after w r = Some r

-- what is wanted of the rest of a text, and the room there
pub record Within : Type 0 where
  pub wanted : List Wanted
  pub room : Room

-- what is wanted after a token, and the room there
abbrev pub with_room : List Wanted → Option Room → Option Within
with_room ws found = elim found [ Some q ↦ Some (record { wanted = ws; room = q }) | None ↦ None ]

-- What is wanted of the rest of a text after a token, before these tokens, and the room there. It is none where the token can't be there, or
-- passes a limit.
abbrev pub within_behind : Token → List Token → List Wanted → Room → Option Within
within_behind t after [] r = None
within_behind t after (w ∷ ws) r =
    elim (behind t w) [ Some all ↦ with_room (all ++ ws) (left_behind t after w r) | None ↦ if may_be_left_out w then within_behind t after ws r else None ]

-- the same after several tokens, before these
abbrev pub within_after : List Token → List Token → List Wanted → Room → Option Within
within_after [] after ws r = Some (record { wanted = ws; room = r })
within_after (t ∷ ts) after ws r = elim (within_behind t (ts ++ after) ws r) [ Some s ↦ within_after ts after s.wanted s.room | None ↦ None ]

-- of these tokens the first may be where this is wanted, or there is none, and the text may end there
abbrev pub goes_on : List Token → Within → Bool
goes_on [] s = length s.wanted == 0
goes_on (t ∷ ts) s = is_some (within_behind t [] s.wanted s.room)
