-- The lines of a file, one after another.
use Rattle.std.proofs.Common.{◌≡◌, ◌∙◌, ℕ, suc, zero, ◌+◌, ◌<◌, ◌≤◌, ◌^◌, List, [], ◌∷◌, ◌++◌, length, append_assoc, refl}
use Rattle.std.proofs.Common.{sym, ap, subst, arith, inl, Option, Some, None}
use Rattle.std.proofs.Common.{true, false, zero-add}
use Rattle.std.specs.Prelude.{Bool, map, slice_get, slice_set, IsSome, Vec}
use Rattle.std.specs.Global.{Global}
use Rattle.std.specs.Option.{unwrap_or, option_map}
use Rattle.std.specs.List.{AllByRecursion}
use Rattle.std.proofs.lemmas.List.{append-nil, length_push}
use Rattle.std.proofs.lemmas.Option.{none-some, same_Some, slice_get_within}
use Rattle.std.proofs.lemmas.Grind.{flat_map-append}
use Rattle.boc_names.specs.declared.fault.NamesFault.{NamesFault}
use Rattle.boc_names.specs.declared.fault.NamesFaultKind.{NamesFaultKind}
use Rattle.boc_names.specs.declared.fault.NamesFaultKind.TheVariants as kinds
use Rattle.boc_names.specs.declared.file.TheConstants.{MOST_NAMES}
use Rattle.boc_names.specs.declared.file.Things.{Things}
use Rattle.boc_names.specs.declared.names.Names.{Names}
use Rattle.boc_names.specs.declared.overlay.Thing.{Thing}
use Rattle.boc_names.specs.Names.{Text, texts_of}
use Rattle.boc_names.specs.NamesFile.{Line, Free, NamesRow, NamesCown, Call, IsLine, AreWhole, IsNamedBy, IsAgain, IsNoRow, IsNoCown, IsFaultOf}
use Rattle.boc_names.specs.NamesFile.{call_at, laid, row_calls, cown_calls, row_text, family_text, lines_text, fed, spelling}
use Rattle.boc_names.specs.Grouping.{IsGrouping}
use Rattle.boc_names.specs.Laying.{texts_in, groups_in, named_in, NoneIsNamed, CallsIn, IsLaid, AreLaid, AreNamesIn, AreOf, AreRead, AreUnnamed}
use Rattle.boc_names.specs.Laying.{StandsUnnamed, LaysLine}
use Rattle.boc_names.specs.Laying.{IsMissingRow, IsMissingCown, IsNamed, IsUntaken, IsUnread, TakesLine}
use Rattle.boc_names.proofs.Overlays.{apart_push, there_push, laid_at, laid_length, laid_none, laid_set, flag_none, flag_some}
use Rattle.boc_names.proofs.Groups.{few_numbers, numbers_whole, texts_length}

-- ---- calls of lines

row_calls-append : (xs ys : List Line) → row_calls (xs ++ ys) ≡ row_calls xs ++ row_calls ys
row_calls-append [] ys = refl
row_calls-append (Free text ∷ xs) ys = row_calls-append xs ys
row_calls-append (NamesRow row name args ∷ xs) ys =
    ap (λ (calls : List Call). record { number = row; text = row_text name args; group = name } ∷ calls) (row_calls-append xs ys)
row_calls-append (NamesCown cown name ∷ xs) ys = row_calls-append xs ys

cown_calls-append : (xs ys : List Line) → cown_calls (xs ++ ys) ≡ cown_calls xs ++ cown_calls ys
cown_calls-append [] ys = refl
cown_calls-append (Free text ∷ xs) ys = cown_calls-append xs ys
cown_calls-append (NamesRow row name args ∷ xs) ys = cown_calls-append xs ys
cown_calls-append (NamesCown cown name ∷ xs) ys =
    ap (λ (calls : List Call). record { number = cown; text = name; group = family_text name } ∷ calls) (cown_calls-append xs ys)

lines_push : (lines : List Line) (line : Line) → AllByRecursion IsLine lines → IsLine line → AllByRecursion IsLine (lines ++ line ∷ [])
lines_push [] line are is = (is, tt)
lines_push (l ∷ lines) line are is = (are.0, lines_push lines line are.1 is)

-- ---- one call more

map_length : {A B : Type 0} (f : A → B) (xs : List A) → length (map f xs) ≡ length xs
map_length f [] = refl
map_length f (x ∷ xs) = ap suc (map_length f xs)

none_at : (things : List Thing) (k : ℕ) (flag : Bool) → NoneIsNamed things → slice_get (named_in things) k ≡ Some flag → flag ≡ false
none_at [] k flag none is = absurd (none-some flag is)
none_at (t ∷ things) zero flag none is = sym (same_Some t.is_named flag is) ∙ none.0
none_at (t ∷ things) (suc k) flag none is = none_at things k flag none.1 is

-- what the flag of a thing tells of what was said of it
flag_at : (calls : List Call) (old mid : List Thing) (n : ℕ) (flag : Bool) (was : Option Bool) → NoneIsNamed old → IsLaid calls old mid
    → slice_get (named_in old) n ≡ was → slice_get (named_in mid) n ≡ Some flag
    → Some (unwrap_or (option_map (λ call. true) (call_at calls n)) false) ≡ Some flag
flag_at calls old mid n flag None none now was is = absurd (none-some flag (sym
    (ap (option_map (λ x. unwrap_or (option_map (λ call. true) (call_at calls (0 + n))) x)) was)
    ∙ sym (laid_at (λ call. true) calls 0 (named_in old) n) ∙ ap (λ (flags : List Bool). slice_get flags n) (sym now.named_are) ∙ is))
flag_at calls old mid n flag (Some b) none now was is =
    ap (λ (k : ℕ). Some (unwrap_or (option_map (λ call. true) (call_at calls k)) false)) (sym (zero-add n))
    ∙ ap (λ (x : Bool). Some (unwrap_or (option_map (λ call. true) (call_at calls (0 + n))) x)) (sym (none_at old n b none was))
    ∙ sym (ap (option_map (λ x. unwrap_or (option_map (λ call. true) (call_at calls (0 + n))) x)) was)
    ∙ sym (laid_at (λ call. true) calls 0 (named_in old) n) ∙ ap (λ (flags : List Bool). slice_get flags n) (sym now.named_are) ∙ is

-- of a thing that was not named nothing was said
nothing_said : (calls : List Call) (old mid : List Thing) (n : ℕ) → NoneIsNamed old → IsLaid calls old mid → slice_get (named_in mid) n ≡ Some false
    → call_at calls n ≡ None
nothing_said calls old mid n none now is = flag_none (call_at calls n) (flag_at calls old mid n false _ none now refl is)

-- and of one that was something was
something_said : (calls : List Call) (old mid : List Thing) (n : ℕ) → NoneIsNamed old → IsLaid calls old mid → slice_get (named_in mid) n ≡ Some true
    → IsSome (call_at calls n)
something_said calls old mid n none now is = flag_some (call_at calls n) (flag_at calls old mid n true _ none now refl is)

same_many : (calls : List Call) (old mid : List Thing) → IsLaid calls old mid → length mid ≡ length old
same_many calls old mid now =
    sym (map_length (λ (t : Thing). t.is_named) mid) ∙ ap length now.named_are ∙ laid_length (λ call. true) calls 0 (named_in old)
    ∙ map_length (λ (t : Thing). t.is_named) old

there_is : (calls : List Call) (old mid : List Thing) (n : ℕ) (flag : Bool) → IsLaid calls old mid → slice_get (named_in mid) n ≡ Some flag → n < length old
there_is calls old mid n flag now is =
    omega (arith, slice_get_within (named_in mid) n flag is, map_length (λ (t : Thing). t.is_named) mid, same_many calls old mid now)

laid_more : (calls : List Call) (call : Call) (old mid new : List Thing) → NoneIsNamed old → IsLaid calls old mid
    → CallsIn call.number call.text call.group mid new → IsLaid (calls ++ call ∷ []) old new
laid_more calls call old mid new none now more =
    let there = there_is calls old mid call.number false now more.unnamed in
    let fresh = nothing_said calls old mid call.number none now more.unnamed in
    record {
      texts_are = more.texts_are ∙ ap (λ (ts : List Text). slice_set ts call.number call.text) now.texts_are
          ∙ laid_set (λ (c : Call). c.text) calls call 0 (texts_in old) call.number (omega arith)
          (omega (arith, there, map_length (λ (t : Thing). t.text.items) old)) fresh;
      groups_are = more.groups_are ∙ ap (λ (ts : List Text). slice_set ts call.number call.group) now.groups_are
          ∙ laid_set (λ (c : Call). c.group) calls call 0 (groups_in old) call.number (omega arith)
          (omega (arith, there, map_length (λ (t : Thing). t.group.items) old)) fresh;
      named_are = more.named_are ∙ ap (λ (flags : List Bool). slice_set flags call.number true) now.named_are
          ∙ laid_set (λ (c : Call). true) calls call 0 (named_in old) call.number (omega arith)
          (omega (arith, there, map_length (λ (t : Thing). t.is_named) old)) fresh;
    }

-- ---- one line more

more_rows : (lines : List Line) (row : ℕ) (name : Text) (args : List Text) (old mid new : Things) → StandsUnnamed old → AreLaid lines old mid
    → IsLine (NamesRow row name args) → LaysLine (NamesRow row name args) mid new → AreLaid (lines ++ NamesRow row name args ∷ []) old new
more_rows lines row name args old mid new none now is lays =
    let line : Line = NamesRow row name args in
    let call : Call = record { number = row; text = row_text name args; group = name } in
    let calls : row_calls (lines ++ line ∷ []) ≡ row_calls lines ++ call ∷ [] = row_calls-append lines (line ∷ []) in
    let others : cown_calls (lines ++ line ∷ []) ≡ cown_calls lines = cown_calls-append lines (line ∷ []) ∙ append-nil (cown_calls lines) in
    record {
      good = record {
        lines_are = lines_push lines line now.good.lines_are is;
        rows_there = rw calls (there_push (length old.rows.items) (row_calls lines) call now.good.rows_there
            (there_is (row_calls lines) old.rows.items mid.rows.items row false now.rows lays.0.unnamed));
        rows_apart = rw calls (apart_push (row_calls lines) call now.good.rows_apart
            (nothing_said (row_calls lines) old.rows.items mid.rows.items row none.0 now.rows lays.0.unnamed));
        cowns_there = rw others now.good.cowns_there;
        cowns_apart = rw others now.good.cowns_apart;
      };
      rows = rw calls (laid_more (row_calls lines) call old.rows.items mid.rows.items new.rows.items none.0 now.rows lays.0);
      cowns = rw (others, lays.1) now.cowns;
    }

more_cowns : (lines : List Line) (cown : ℕ) (name : Text) (old mid new : Things) → StandsUnnamed old → AreLaid lines old mid
    → IsLine (NamesCown cown name) → LaysLine (NamesCown cown name) mid new → AreLaid (lines ++ NamesCown cown name ∷ []) old new
more_cowns lines cown name old mid new none now is lays =
    let line : Line = NamesCown cown name in
    let call : Call = record { number = cown; text = name; group = family_text name } in
    let calls : cown_calls (lines ++ line ∷ []) ≡ cown_calls lines ++ call ∷ [] = cown_calls-append lines (line ∷ []) in
    let others : row_calls (lines ++ line ∷ []) ≡ row_calls lines = row_calls-append lines (line ∷ []) ∙ append-nil (row_calls lines) in
    record {
      good = record {
        lines_are = lines_push lines line now.good.lines_are is;
        rows_there = rw others now.good.rows_there;
        rows_apart = rw others now.good.rows_apart;
        cowns_there = rw calls (there_push (length old.cowns.items) (cown_calls lines) call now.good.cowns_there
            (there_is (cown_calls lines) old.cowns.items mid.cowns.items cown false now.cowns lays.0.unnamed));
        cowns_apart = rw calls (apart_push (cown_calls lines) call now.good.cowns_apart
            (nothing_said (cown_calls lines) old.cowns.items mid.cowns.items cown none.1 now.cowns lays.0.unnamed));
      };
      rows = rw (others, lays.1) now.rows;
      cowns = rw calls (laid_more (cown_calls lines) call old.cowns.items mid.cowns.items new.cowns.items none.1 now.cowns lays.0);
    }

more_nothing : (lines : List Line) (text : Text) (old mid : Things) → AreLaid lines old mid → IsLine (Free text) → AreLaid (lines ++ Free text ∷ []) old mid
more_nothing lines text old mid now is =
    let rows : row_calls (lines ++ Free text ∷ []) ≡ row_calls lines = row_calls-append lines (Free text ∷ []) ∙ append-nil (row_calls lines) in
    let cowns : cown_calls (lines ++ Free text ∷ []) ≡ cown_calls lines = cown_calls-append lines (Free text ∷ []) ∙ append-nil (cown_calls lines) in
    record {
      good = record {
        lines_are = lines_push lines (Free text) now.good.lines_are is;
        rows_there = rw rows now.good.rows_there;
        rows_apart = rw rows now.good.rows_apart;
        cowns_there = rw cowns now.good.cowns_there;
        cowns_apart = rw cowns now.good.cowns_apart;
      };
      rows = rw rows now.rows;
      cowns = rw cowns now.cowns;
    }

more_laid : (lines : List Line) (line : Line) (old mid new : Things) → StandsUnnamed old → AreLaid lines old mid → IsLine line → LaysLine line mid new
    → AreLaid (lines ++ line ∷ []) old new
more_laid lines (Free text) old mid new none now is lays = subst (AreLaid (lines ++ Free text ∷ []) old) (sym lays) (more_nothing lines text old mid now is)
more_laid lines (NamesRow row name args) old mid new none now is lays = more_rows lines row name args old mid new none now is lays
more_laid lines (NamesCown cown name) old mid new none now is lays = more_cowns lines cown name old mid new none now is lays

-- ---- the lines so far

-- of a text these lines were taken, and what they say is laid over things; this is left, and its first line has this number
pub record HasTaken (text : Text) (old new : Things) (rest : Text) (number : ℕ) : Type 0 where
  pub lines : List Line
  pub split : text ≡ lines_text lines ++ rest
  pub laid_are : AreLaid lines old new
  pub number_is : number ≡ length lines + 1
  pub fits : number + length rest ≤ length text + 1
  pub short : length text ≤ MOST_NAMES + length rest

pub taken_none : (text : Text) (things : Things) → HasTaken text things things text 1
taken_none text things = record {
  lines = [];
  split = refl;
  laid_are = record {
    good = record { lines_are = tt; rows_there = tt; rows_apart = tt; cowns_there = tt; cowns_apart = tt };
    rows = laid_nothing things.rows.items;
    cowns = laid_nothing things.cowns.items;
  };
  number_is = refl;
  fits = omega arith;
  short = omega arith;
} where
  laid_nothing : (things : List Thing) → IsLaid [] things things
  laid_nothing things = record {
    texts_are = sym (laid_none (λ call. call.text) 0 (texts_in things));
    groups_are = sym (laid_none (λ call. call.group) 0 (groups_in things));
    named_are = sym (laid_none (λ call. true) 0 (named_in things));
  }

lines_text-push : (lines : List Line) (line : Line) (rest : Text) → lines_text (lines ++ line ∷ []) ++ rest ≡ lines_text lines ++ (fed (spelling line) ++ rest)
lines_text-push lines line rest =
    ap (λ (t : Text). t ++ rest) (flat_map-append (λ (l : Line). fed (spelling l)) lines (line ∷ []))
    ∙ append_assoc (lines_text lines) (lines_text (line ∷ [])) rest
    ∙ ap (λ (t : Text). lines_text lines ++ (t ++ rest)) (append-nil (fed (spelling line)))

pub taken_more : (text : Text) (old mid new : Things) (rest after : Text) (number : ℕ) → StandsUnnamed old → HasTaken text old mid rest number
    → TakesLine rest mid new after → length text ≤ MOST_NAMES + length after → HasTaken text old new after (number + 1)
taken_more text old mid new rest after number none has takes short = record {
  lines = has.lines ++ takes.line ∷ [];
  split = has.split ∙ ap (λ (t : Text). lines_text has.lines ++ t) takes.split ∙ sym (lines_text-push has.lines takes.line after);
  laid_are = more_laid has.lines takes.line old mid new none has.laid_are takes.is_line takes.lays;
  number_is = omega (arith, has.number_is, length_push has.lines takes.line);
  fits = omega (arith, has.fits, takes.less);
  short = short;
}

-- where as many lines were taken as the text has bytes, nothing is left
pub none_left : (text : Text) (old new : Things) (rest : Text) (number : ℕ) → HasTaken text old new rest number → length text < number → length rest ≡ 0
none_left text old new rest number has many = omega (arith, has.fits, many)

pub taken_all : (text : Text) (old new : Things) (rest : Text) (number : ℕ) → HasTaken text old new rest number → length rest ≡ 0 → AreRead text old new
taken_all text old new [] number has none = record {
  lines = has.lines;
  is = has.split ∙ append-nil (lines_text has.lines);
  fits = omega (arith, has.short);
  laid_are = has.laid_are;
}
taken_all text old new (b ∷ rest) number has none = absurd (omega (arith, none))

-- ---- the line that is wrong

again : (lines : List Line) (line : Line) (old mid : Things) → StandsUnnamed old → AreLaid lines old mid → IsNamed mid line → IsAgain lines line
again lines (Free text) old mid none now named = named
again lines (NamesRow row name args) old mid none now named = something_said (row_calls lines) old.rows.items mid.rows.items row none.0 now.rows named
again lines (NamesCown cown name) old mid none now named = something_said (cown_calls lines) old.cowns.items mid.cowns.items cown none.1 now.cowns named

no_row : (lines : List Line) (line : Line) (old mid : Things) → AreLaid lines old mid → IsMissingRow mid line → IsNoRow (length old.rows.items) line
no_row lines (Free text) old mid now missing = missing
no_row lines (NamesRow row name args) old mid now missing = omega (arith, missing, same_many (row_calls lines) old.rows.items mid.rows.items now.rows)
no_row lines (NamesCown cown name) old mid now missing = missing

no_cown : (lines : List Line) (line : Line) (old mid : Things) → AreLaid lines old mid → IsMissingCown mid line → IsNoCown (length old.cowns.items) line
no_cown lines (Free text) old mid now missing = missing
no_cown lines (NamesRow row name args) old mid now missing = missing
no_cown lines (NamesCown cown name) old mid now missing = omega (arith, missing, same_many (cown_calls lines) old.cowns.items mid.cowns.items now.cowns)

pub taken_wrong : (text : Text) (old mid : Things) (rest : Text) (number : ℕ) (kind : NamesFaultKind) → StandsUnnamed old → HasTaken text old mid rest number
    → IsUntaken rest mid kind → IsFaultOf text (length old.rows.items) (length old.cowns.items) number kind
taken_wrong text old mid rest number kinds.Memory none has wrong = tt
taken_wrong text old mid rest number kinds.Cut none has wrong =
    record { lines = has.lines; good = has.laid_are.good; rest = rest; split = has.split; number_is = has.number_is; wrong = wrong }
taken_wrong text old mid rest number kinds.TooLong none has wrong =
    record { lines = has.lines; good = has.laid_are.good; rest = rest; split = has.split; number_is = has.number_is; wrong = inl wrong }
taken_wrong text old mid rest number kinds.Form none has wrong =
    record { lines = has.lines; good = has.laid_are.good; rest = rest; split = has.split; number_is = has.number_is; wrong = wrong }
taken_wrong text old mid rest number kinds.NoRow none has wrong = record {
  lines = has.lines;
  good = has.laid_are.good;
  rest = rest;
  split = has.split;
  number_is = has.number_is;
  wrong = (wrong.0, wrong.1, no_row has.lines wrong.0 old mid has.laid_are wrong.2);
}
taken_wrong text old mid rest number kinds.NoCown none has wrong = record {
  lines = has.lines;
  good = has.laid_are.good;
  rest = rest;
  split = has.split;
  number_is = has.number_is;
  wrong = (wrong.0, wrong.1, no_cown has.lines wrong.0 old mid has.laid_are wrong.2);
}
taken_wrong text old mid rest number kinds.Twice none has wrong = record {
  lines = has.lines;
  good = has.laid_are.good;
  rest = rest;
  split = has.split;
  number_is = has.number_is;
  wrong = (wrong.0, wrong.1, again has.lines wrong.0 old mid none has.laid_are wrong.2);
}

-- ---- all of it

many_things : (texts : List (Vec ℕ Global)) (groups : List Text) (things : List Thing) → AreUnnamed (texts_of texts) groups things
    → length things ≡ length texts
many_things texts groups things are =
    sym (map_length (λ (t : Thing). t.text.items) things) ∙ ap length are.texts_are ∙ texts_length texts

pub many_rows : (base : Names) (things : Things) → AreOf base things → length things.rows.items ≡ length base.rows.items
many_rows base things are = many_things base.rows.items _ things.rows.items are.rows

pub many_cowns : (base : Names) (things : Things) → AreOf base things → length things.cowns.items ≡ length base.cowns.items
many_cowns base things are = many_things base.cowns.items _ things.cowns.items are.cowns

pub named_by : (text : Text) (base names : Names) (old new : Things) → AreOf base old → AreRead text old new → AreNamesIn new names → IsNamedBy text base names
named_by text base names old new are read called = record {
  lines = read.lines;
  good = rw (sym (many_rows base old are), sym (many_cowns base old are)) read.laid_are.good;
  is = read.is;
  fits = read.fits;
  laid_over = record {
    rows = called.rows ∙ read.laid_are.rows.texts_are ∙ ap (laid (λ call. call.text) (row_calls read.lines) 0) are.rows.texts_are;
    defs = subst (λ (ts : List Text). IsGrouping ts names.defs.items (texts_of names.def_names.items))
        (read.laid_are.rows.groups_are ∙ ap (laid (λ call. call.group) (row_calls read.lines) 0) are.rows.groups_are) called.defs;
    cowns = called.cowns ∙ read.laid_are.cowns.texts_are ∙ ap (laid (λ call. call.text) (cown_calls read.lines) 0) are.cowns.texts_are;
    families = subst (λ (ts : List Text). IsGrouping ts names.families.items (texts_of names.family_names.items))
        (read.laid_are.cowns.groups_are ∙ ap (laid (λ call. call.group) (cown_calls read.lines) 0) are.cowns.groups_are) called.families;
  };
}

pub not_named_by : (text : Text) (base : Names) (things : Things) (fault : NamesFault) → AreOf base things → IsUnread text things fault
    → IsFaultOf text (length base.rows.items) (length base.cowns.items) fault.line fault.kind
not_named_by text base things fault are wrong =
    rw (sym (many_rows base things are), sym (many_cowns base things are)) wrong

-- ---- how many there are

whole : (texts : List (Vec ℕ Global)) (numbers : List ℕ) (names : List Text) (old new : List Thing) (calls : List Call) (count : ℕ)
    → texts_of texts ≡ texts_in new → IsGrouping (groups_in new) numbers names → IsLaid calls old new → length old ≡ count → AreWhole count texts numbers
whole texts numbers names old new calls count are grouped now is =
    let many : length new ≡ count = same_many calls old new now ∙ is in
    let groups : length (groups_in new) ≡ count = map_length (λ (t : Thing). t.group.items) new ∙ many in
    record {
      texts_are = sym (texts_length texts) ∙ ap length are ∙ map_length (λ (t : Thing). t.text.items) new ∙ many;
      numbers_are = numbers_whole (groups_in new) numbers names grouped ∙ groups;
      below = few_numbers (groups_in new) numbers names count grouped groups;
    }

pub each_row : (text : Text) (base names : Names) (old new : Things) → AreOf base old → AreRead text old new → AreNamesIn new names
    → AreWhole (length base.rows.items) names.rows.items names.defs.items
each_row text base names old new are read called = whole names.rows.items names.defs.items (texts_of names.def_names.items) old.rows.items new.rows.items
    (row_calls read.lines) (length base.rows.items) called.rows called.defs read.laid_are.rows (many_rows base old are)

pub each_cown : (text : Text) (base names : Names) (old new : Things) → AreOf base old → AreRead text old new → AreNamesIn new names
    → AreWhole (length base.cowns.items) names.cowns.items names.families.items
each_cown text base names old new are read called = whole names.cowns.items names.families.items (texts_of names.family_names.items) old.cowns.items
    new.cowns.items (cown_calls read.lines) (length base.cowns.items) called.cowns called.families read.laid_are.cowns (many_cowns base old are)

-- no more are there once the lines are taken
pub rows_fit : (text : Text) (base : Names) (old new : Things) → AreOf base old → AreRead text old new → length base.rows.items < 2 ^ 32
    → length new.rows.items < 2 ^ 32
rows_fit text base old new are read few =
    omega (arith, few, same_many (row_calls read.lines) old.rows.items new.rows.items read.laid_are.rows, many_rows base old are)

pub cowns_fit : (text : Text) (base : Names) (old new : Things) → AreOf base old → AreRead text old new → length base.cowns.items < 2 ^ 32
    → length new.cowns.items < 2 ^ 32
cowns_fit text base old new are read few =
    omega (arith, few, same_many (cown_calls read.lines) old.cowns.items new.cowns.items read.laid_are.cowns, many_cowns base old are)

-- no row and no cown was named before the first line
pub are_unnamed : (base : Names) (things : Things) → AreOf base things → StandsUnnamed things
are_unnamed base things are = (are.rows.none, are.cowns.none)
