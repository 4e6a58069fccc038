-- Where the shape of tokens goes wrong first, by what was wanted before it.
use Rattle.std.proofs.Common.{◌≡◌, ◌≢◌, ℕ, ◌+◌, ◌-◌, ◌<◌, ◌≤◌, inl, inr, List, [], ◌∷◌, ◌++◌}
use Rattle.std.proofs.Common.{length, get_or, map, take, drop, Bool, true, false, if◌then◌else◌, Option, Some, None, refl}
use Rattle.std.proofs.Common.{sym, ap, ◌∙◌, subst, arith, append_assoc, length-drop, reverse}
use Rattle.std.proofs.lemmas.Bool.{cases_lt}
use Rattle.std.proofs.lemmas.List.{drop_all, drop-drop, drop-map, drop-take, length-map, length-reverse, map_more, nil_from_length, reverse-append}
use Rattle.std.proofs.lemmas.List.{reverse-reverse, take-map, take_all, take-take, take-append-drop}
use Rattle.boc_reader.specs.declared.token.Placed.{Placed}
use Rattle.boc_reader.specs.declared.wanted.Wanted.{Wanted}
use Rattle.boc_reader.specs.declared.wanted.Wanted.TheVariants.{Cowns}
use Rattle.boc_reader.specs.Tokens.{Token}
use Rattle.boc_reader.specs.Placed.{BeginsToken, token_of, tokens_of}
use Rattle.boc_reader.specs.Wanted.{behind, may_be_left_out, wanted_behind, wanted_after}
use Rattle.boc_reader.specs.Room.{Within, left_behind, room_of_text, with_room, within_behind, within_after}
use Rattle.boc_reader.specs.declared.room.Room.{Room}
use Rattle.boc_reader.specs.Grammar.{NoShape}
use Rattle.boc_reader.specs.WrongShape.{AreWhole, BeginTree, IsWrongThere, PassNoLimit, PassesLimit, ShapeFaultSays, ShapeGoesWrong, ShapeFaultStandsAt}
use Rattle.boc_reader.specs.WrongShape.{StandAt}
use Rattle.boc_reader.specs.Shape.{Tree, HasShape}
use Rattle.boc_reader.specs.FaultMeanings.{StandsIn, StandsInShape}
use Rattle.boc_reader.specs.declared.fault.ReadFault.{ReadFault}
use Rattle.boc_reader.specs.declared.fault.ShapeFault.{ShapeFault}
use Rattle.boc_reader.specs.declared.fault.ShapeFault.TheVariants as faults
use Rattle.boc_reader.proofs.Filled.{all_read, read_begins}
use Rattle.boc_reader.proofs.Fits.{whole_fits}
use Rattle.boc_reader.proofs.ResolvingFront.{next_at}
use Rattle.boc_reader.proofs.TokenPlaces.{one_stand}
use Rattle.boc_reader.proofs.Wanting.{whole_wanted, stray_begins_none}
use Rattle.boc_reader.proofs.Within.{over_begins_none, still_over, within_append}

-- what is wanted first stands last in memory
pub wanted_first : (old new then_wanted : List Wanted) → new ≡ old ++ reverse then_wanted → reverse new ≡ then_wanted ++ reverse old
wanted_first old new then_wanted e =
    ap reverse e ∙ reverse-append old (reverse then_wanted) ∙ ap (λ ws. ws ++ reverse old) (reverse-reverse then_wanted)

behind_read : (ts more : List Token) (found : Option (List Wanted)) (vs : List Wanted)
    → ((us : List Wanted) → wanted_after ts us ≡ Some vs → wanted_after (ts ++ more) us ≡ wanted_after more vs)
    → (elim found [ Some us ↦ wanted_after ts us | None ↦ None ]) ≡ Some vs
    → (elim found [ Some us ↦ wanted_after (ts ++ more) us | None ↦ None ]) ≡ wanted_after more vs
behind_read ts more (Some us) vs deeper e = deeper us e
behind_read ts more None vs deeper e = absurd cc

-- tokens after others
after_append : (ts more : List Token) (ws vs : List Wanted) → wanted_after ts ws ≡ Some vs → wanted_after (ts ++ more) ws ≡ wanted_after more vs
after_append [] more ws vs e = let same : ws ≡ vs = cc in ap (wanted_after more) same
after_append (t ∷ ts) more ws vs e = behind_read ts more (wanted_behind t ws) vs (λ us d. after_append ts more us vs d) e

found_read : (found : Option (List Wanted)) → (elim found [ Some us ↦ wanted_after [] us | None ↦ None ]) ≡ found
found_read (Some us) = refl
found_read None = refl

-- one token more
pub one_read : (ts : List Token) (t : Token) (ws : List Wanted) → wanted_after ts (Cowns ∷ []) ≡ Some ws
    → wanted_after (ts ++ t ∷ []) (Cowns ∷ []) ≡ wanted_behind t ws
one_read ts t ws e = after_append ts (t ∷ []) (Cowns ∷ []) ws e ∙ found_read (wanted_behind t ws)

-- one more of the tokens that are placed
one_placed : (ps : List Placed) (k : ℕ) (p : Placed) → k < length ps → p ≡ get_or ps k p
    → take (k + 1) (tokens_of ps) ≡ take k (tokens_of ps) ++ token_of p.token ∷ []
one_placed ps k p small is =
    let token : Placed → Token = λ p. token_of p.token in
    take-map token (k + 1) ps ∙ map_more token ps k p small
    ∙ ap (λ (q : Placed). map token (take k ps) ++ token_of q.token ∷ []) (sym is)
    ∙ ap (λ (ts : List Token). ts ++ token_of p.token ∷ []) (sym (take-map token k ps))

pub placed_read : (ps : List Placed) (k : ℕ) (p : Placed) (ws : List Wanted) → k < length ps → p ≡ get_or ps k p
    → wanted_after (take k (tokens_of ps)) (Cowns ∷ []) ≡ Some ws
    → wanted_after (take (k + 1) (tokens_of ps)) (Cowns ∷ []) ≡ wanted_behind (token_of p.token) ws
placed_read ps k p ws small is e =
    ap (λ (ts : List Token). wanted_after ts (Cowns ∷ [])) (one_placed ps k p small is) ∙ one_read (take k (tokens_of ps)) (token_of p.token) ws e

-- what comes after so many tokens
one_dropped : (ps : List Placed) (k : ℕ) (p : Placed) → k < length ps → p ≡ get_or ps k p
    → drop k (tokens_of ps) ≡ token_of p.token ∷ drop (k + 1) (tokens_of ps)
one_dropped ps k p small is =
    let token : Placed → Token = λ p. token_of p.token in
    drop-map token k ps ∙ ap tokens_of (next_at ps k p small is) ∙ ap (λ (ts : List Token). token_of p.token ∷ ts) (sym (drop-map token (k + 1) ps))

-- the tokens after one, as a slice has them
pub after_is : (ps : List Placed) (k : ℕ) → tokens_of (take (length ps - (k + 1)) (drop (k + 1) ps)) ≡ drop (k + 1) (tokens_of ps)
after_is ps k =
    let long = length-drop (k + 1) ps in
    ap tokens_of (take_all (length ps - (k + 1)) (drop (k + 1) ps) (omega (arith, long))) ∙ sym (drop-map (λ (p : Placed). token_of p.token) (k + 1) ps)

-- The same within the limits.
found_within : (found : Option Within) (after : List Token)
    → (elim found [ Some q ↦ within_after [] after q.wanted q.room | None ↦ None ]) ≡ found
found_within (Some q) after = refl
found_within None after = refl

-- so many tokens of a text, before the others
abbrev pub front_within : List Token → ℕ → Option Within
front_within ts k = within_after (take k ts) (drop k ts) (Cowns ∷ []) room_of_text

pub placed_within : (ps : List Placed) (k : ℕ) (p : Placed) (s : Within) → k < length ps → p ≡ get_or ps k p → front_within (tokens_of ps) k ≡ Some s
    → front_within (tokens_of ps) (k + 1) ≡ within_behind (token_of p.token) (drop (k + 1) (tokens_of ps)) s.wanted s.room
placed_within ps k p s small is e =
    let ts = tokens_of ps in
    let t = token_of p.token in
    let after = drop (k + 1) ts in
    let before : within_after (take k ts) (t ∷ after) (Cowns ∷ []) room_of_text ≡ Some s =
    ap (λ (us : List Token). within_after (take k ts) us (Cowns ∷ []) room_of_text) (sym (one_dropped ps k p small is)) ∙ e in
    ap (λ (us : List Token). within_after us after (Cowns ∷ []) room_of_text) (one_placed ps k p small is)
    ∙ within_append (take k ts) (t ∷ []) after (Cowns ∷ []) room_of_text s before
    ∙ found_within (within_behind t after s.wanted s.room) after

middle_behind : (ts : List Token) (j k : ℕ) → j ≤ k → drop j (take k ts) ++ drop k ts ≡ drop j ts
middle_behind ts j k le =
    let m = k - j in
    let all : j + m ≡ k = omega (arith, le) in
    let last : drop m (drop j ts) ≡ drop (j + m) ts = drop-drop m j ts in
    subst (λ (n : ℕ). drop j (take n ts) ++ drop n ts ≡ drop j ts) all
    (ap (λ (us : List Token). us ++ drop (j + m) ts) (drop-take j m ts) ∙ ap (λ (us : List Token). take m (drop j ts) ++ us) (sym last)
    ∙ take-append-drop m (drop j ts))

-- where fewer tokens pass a limit, more of them do
pub front_over : (ts : List Token) (j k : ℕ) → j ≤ k → front_within ts j ≡ None → front_within ts k ≡ None
front_over ts j k le e =
    let middle = drop j (take k ts) in
    let parts : take j ts ++ middle ≡ take k ts =
    ap (λ (us : List Token). us ++ middle) (sym (take-take j k ts le)) ∙ take-append-drop j (take k ts) in
    let behind : middle ++ drop k ts ≡ drop j ts = middle_behind ts j k le in
    ap (λ (us : List Token). within_after us (drop k ts) (Cowns ∷ []) room_of_text) (sym parts)
    ∙ still_over (take j ts) middle (drop k ts) (Cowns ∷ []) room_of_text
    (ap (λ (us : List Token). within_after (take j ts) us (Cowns ∷ []) room_of_text) behind ∙ e)

-- where a token can't stand the shape goes wrong
pub wrong_at_token : (ps : List Placed) (k : ℕ) (p : Placed) (ws : List Wanted) → k < length ps → p ≡ get_or ps k p
    → wanted_after (take k (tokens_of ps)) (Cowns ∷ []) ≡ Some ws → wanted_behind (token_of p.token) ws ≡ None → ShapeGoesWrong (tokens_of ps) k
wrong_at_token ps k p ws small is e none =
    let long = length-map ps (λ (p : Placed). token_of p.token) in
    record {
      within = omega (arith, long);
      begins = read_begins (take k (tokens_of ps)) ws e;
      strays = λ _ l. stray_begins_none (take (k + 1) (tokens_of ps)) (placed_read ps k p ws small is e ∙ none) l;
      ends = λ same _. omega (arith, long, same);
    }

-- what was wanted after all of them
all_placed_read : (ps : List Placed) (k : ℕ) (ws : List Wanted) → length ps ≤ k → wanted_after (take k (tokens_of ps)) (Cowns ∷ []) ≡ Some ws
    → wanted_after (tokens_of ps) (Cowns ∷ []) ≡ Some ws
all_placed_read ps k ws most e =
    let long = length-map ps (λ (p : Placed). token_of p.token) in
    ap (λ (ts : List Token). wanted_after ts (Cowns ∷ [])) (sym (take_all k (tokens_of ps) (omega (arith, long)))) ∙ e

-- so many as there are of them are all
pub wanted_at_end : (ps : List Placed) (k : ℕ) (ws : List Wanted) → length ps ≤ k → wanted_after (take k (tokens_of ps)) (Cowns ∷ []) ≡ Some ws
    → wanted_after (take (length ps) (tokens_of ps)) (Cowns ∷ []) ≡ Some ws
wanted_at_end ps k ws most e =
    let long = length-map ps (λ (p : Placed). token_of p.token) in
    ap (λ (ts : List Token). wanted_after ts (Cowns ∷ [])) (take_all (length ps) (tokens_of ps) (omega (arith, long))) ∙ all_placed_read ps k ws most e

-- where nothing is wanted after all tokens they are those of a tree
pub whole_at_end : (ps : List Placed) (k : ℕ) (items : List Wanted) → length ps ≤ k
    → wanted_after (take k (tokens_of ps)) (Cowns ∷ []) ≡ Some (reverse items) → length items ≡ 0 → AreWhole (tokens_of ps)
whole_at_end ps k items most e none =
    all_read (tokens_of ps) (all_placed_read ps k (reverse items) most e ∙ ap (λ (ws : List Wanted). Some (reverse ws)) (nil_from_length items none))

-- where more is wanted after all tokens the shape goes wrong at their end
pub wrong_at_end : (ps : List Placed) (k : ℕ) (items : List Wanted) → length ps ≤ k
    → wanted_after (take k (tokens_of ps)) (Cowns ∷ []) ≡ Some (reverse items) → length items ≢ 0 → ShapeGoesWrong (tokens_of ps) (length ps)
wrong_at_end ps k items most e some =
    let long = length-map ps (λ (p : Placed). token_of p.token) in
    let all = all_placed_read ps k (reverse items) most e in
    record {
      within = omega (arith, long);
      begins = subst BeginTree (sym (take_all (length ps) (tokens_of ps) (omega (arith, long)))) (read_begins (tokens_of ps) (reverse items) all);
      strays = λ small _. omega (arith, long, small);
      ends = λ _ w.
          let wanted_none = whole_wanted (tokens_of ps) w in
          let none : reverse items ≡ [] = cc in
          some (sym (length-reverse items) ∙ ap length none);
    }

-- a tree that begins with tokens begins with a front of them
pub front_begins : (ts : List Token) (j k : ℕ) → j ≤ k → BeginTree (take k ts) → BeginTree (take j ts)
front_begins ts j k le l =
    let parts : take j ts ++ drop j (take k ts) ≡ take k ts =
    ap (λ (us : List Token). us ++ drop j (take k ts)) (sym (take-take j k ts le)) ∙ take-append-drop j (take k ts) in
    record {
      more = drop j (take k ts) ++ l.more;
      whole = subst AreWhole (ap (λ (us : List Token). us ++ l.more) (sym parts) ∙ append_assoc (take j ts) (drop j (take k ts)) l.more) l.whole;
    }

pub whole_begins : (ts : List Token) (k : ℕ) → AreWhole ts → BeginTree (take k ts)
whole_begins ts k w = record { more = drop k ts; whole = subst AreWhole (sym (take-append-drop k ts)) w }

some_found : {X : Type 0} (found : Option X) → found ≢ None → (x : X) × (found ≡ Some x)
some_found None some = absurd (some refl)
some_found (Some x) some = (x, refl)

-- a token with which a limit is passed
passes_limit : (ps : List Placed) (k : ℕ) (p : Placed) (s : Within) → k < length ps → p ≡ get_or ps k p
    → wanted_after (take k (tokens_of ps)) (Cowns ∷ []) ≡ Some s.wanted → front_within (tokens_of ps) k ≡ Some s
    → IsWrongThere faults.TooMany (token_of p.token) (drop (k + 1) (tokens_of ps)) s.wanted s.room → PassesLimit (tokens_of ps) k
passes_limit ps k p s small is e w over =
    let ts = tokens_of ps in
    let t = token_of p.token in
    let long = length-map ps (λ (p : Placed). token_of p.token) in
    let found = some_found (wanted_behind t s.wanted) over.0 in
    let front = one_placed ps k p small is in
    let before : within_after (take k ts) (t ∷ drop (k + 1) ts) (Cowns ∷ []) room_of_text ≡ Some s =
    ap (λ (us : List Token). within_after (take k ts) us (Cowns ∷ []) room_of_text) (sym (one_dropped ps k p small is)) ∙ w in
    record {
      within = omega (arith, long);
      first = λ none. absurd (cc (w, none));
      passes = λ some. some (placed_within ps k p s small is w ∙ over.1);
      begins = read_begins (take (k + 1) ts) found.0 (placed_read ps k p s.wanted small is e ∙ found.1);
      none = λ tree more shape. over_begins_none (take k ts) (drop (k + 1) ts) more t s tree before over.1
          (subst (λ (us : List Token). HasShape (us ++ more) tree) front shape);
    }

-- what is wrong with a token is what is said of it
pub says_at : (fault : ShapeFault) (ps : List Placed) (k : ℕ) (p : Placed) (s : Within) → k < length ps → p ≡ get_or ps k p
    → wanted_after (take k (tokens_of ps)) (Cowns ∷ []) ≡ Some s.wanted → front_within (tokens_of ps) k ≡ Some s
    → IsWrongThere fault (token_of p.token) (drop (k + 1) (tokens_of ps)) s.wanted s.room → ShapeFaultSays fault (tokens_of ps) k
says_at faults.Unexpected ps k p s small is e w wrong = (wrong_at_token ps k p s.wanted small is e wrong, λ none. absurd (cc (w, none)))
says_at faults.TooMany ps k p s small is e w wrong = passes_limit ps k p s small is e w wrong

-- so many tokens are all
all_within : (ps : List Placed) (k : ℕ) → length ps ≤ k → front_within (tokens_of ps) k ≡ within_after (tokens_of ps) [] (Cowns ∷ []) room_of_text
all_within ps k most =
    let ts = tokens_of ps in
    let long = length-map ps (λ (p : Placed). token_of p.token) in
    ap (λ (us : List Token). within_after us (drop k ts) (Cowns ∷ []) room_of_text) (take_all k ts (omega (arith, long)))
    ∙ ap (λ (us : List Token). within_after ts us (Cowns ∷ []) room_of_text) (drop_all k ts (omega (arith, long)))

pub within_at_end : (ps : List Placed) (k : ℕ) (s : Within) → length ps ≤ k → front_within (tokens_of ps) k ≡ Some s
    → front_within (tokens_of ps) (length ps) ≡ Some s
within_at_end ps k s most e = all_within ps (length ps) (omega arith) ∙ sym (all_within ps k most) ∙ e

wrong_at : (ws : List Wanted) (left : Option Room) (found : Option (List Wanted)) (out : Bool) (rest : Option (List Wanted)) (within : Option Within)
    → (rest ≡ None → within ≡ None) → ◌≡◌ {A = Option (List Wanted)} (elim found [ Some all ↦ Some (all ++ ws) | None ↦ if out then rest else None ]) None
    → ◌≡◌ {A = Option Within} (elim found [ Some all ↦ with_room (all ++ ws) left | None ↦ if out then within else None ]) None
wrong_at ws left (Some all) out rest within deeper none = absurd cc
wrong_at ws left None true rest within deeper none = deeper none
wrong_at ws left None false rest within deeper none = refl

-- what can't be there has no room there
pub none_within : (t : Token) (after : List Token) (ws : List Wanted) (r : Room) → wanted_behind t ws ≡ None → within_behind t after ws r ≡ None
none_within t after [] r none = refl
none_within t after (w ∷ ws) r none =
    wrong_at ws (left_behind t after w r) (behind t w) (may_be_left_out w) (wanted_behind t ws) (within_behind t after ws r) (none_within t after ws r) none

-- what is wrong with a token leaves nothing after it
pub wrong_within : (fault : ShapeFault) (t : Token) (after : List Token) (ws : List Wanted) (r : Room) → IsWrongThere fault t after ws r
    → within_behind t after ws r ≡ None
wrong_within faults.Unexpected t after ws r wrong = none_within t after ws r wrong
wrong_within faults.TooMany t after ws r wrong = wrong.1

-- at the end nothing has passed a limit
pub none_at_end : (ps : List Placed) (k : ℕ) (s : Within) → length ps ≤ k → front_within (tokens_of ps) k ≡ Some s → PassNoLimit (tokens_of ps) (length ps)
none_at_end ps k s most e none =
    let same : front_within (tokens_of ps) k ≡ None = all_within ps k most ∙ sym (all_within ps (length ps) (omega arith)) ∙ none in
    absurd (cc (e, same))

-- tokens of a tree that pass no limit have a shape
pub shape_at_end : (ps : List Placed) (k : ℕ) (s : Within) → length ps ≤ k → front_within (tokens_of ps) k ≡ Some s → AreWhole (tokens_of ps)
    → NoShape (tokens_of ps) → ⊥
shape_at_end ps k s most e w none = none w.tree (whole_fits (tokens_of ps) w s (sym (all_within ps k most) ∙ e))

never_before : (ts : List Token) (j k : ℕ) → ShapeGoesWrong ts j → ShapeGoesWrong ts k → j < k → ⊥
never_before ts j k one other less = one.strays (omega (arith, other.within)) (front_begins ts (j + 1) k (omega arith) other.begins)

-- tokens go wrong at one place at most
pub one_stray : (ts : List Token) (j k : ℕ) → ShapeGoesWrong ts j → ShapeGoesWrong ts k → j ≡ k
one_stray ts j k one other =
    elim (cases_lt j k) [
      | inl less ↦ absurd (never_before ts j k one other less)
      | inr most ↦ elim (cases_lt k j) [ inl less ↦ absurd (never_before ts k j other one less) | inr least ↦ omega arith ]
    ]

-- tokens of a tree go wrong nowhere
pub whole_is_right : (ts : List Token) (k : ℕ) → AreWhole ts → ShapeGoesWrong ts k → ⊥
whole_is_right ts k w g =
    elim (cases_lt k (length ts)) [ inl less ↦ g.strays less (whole_begins ts (k + 1) w) | inr most ↦ g.ends (omega (arith, g.within)) w ]

-- a token begins at a byte of the text, or the text ends
pub place_within : (text : List ℕ) (at : ℕ) (passed left : List Token) → StandAt text at passed left → at ≤ length text
place_within text at passed [] stand = omega (arith, stand)
place_within text at passed (t ∷ ts) stand =
    elim (cases_lt (length text) at) [ inl less ↦ absurd (subst BeginsToken (drop_all at text (omega arith)) stand.1.begins) | inr within ↦ within ]

-- what is reported of a text whose shape goes wrong there
pub tells_shape : (wrong : ShapeFault) (text : List ℕ) (at : ℕ) (told : ReadFault) → ShapeFaultStandsAt wrong text at
    → (at ≤ length text → told.at ≡ at) → StandsIn told text → StandsInShape wrong told text
tells_shape wrong text at told first there stands =
    let within = place_within text at (take first.before first.tokens) (drop first.before first.tokens) first.place in
    (stands, subst (ShapeFaultStandsAt wrong text) (sym (there within)) first)

-- a tree within the limits is one whatever they are
pub shaped_is_right : (ts : List Token) (t : Tree) (k : ℕ) → HasShape ts t → ShapeGoesWrong ts k → ⊥
shaped_is_right ts t k s = whole_is_right ts k (record { tree = t; arrays = s.limits.arrays; tokens_are = s.tokens_are })

-- no limit is passed before the first token with which one is
pub passed_first : (ts : List Token) (j k : ℕ) → PassesLimit ts j → PassNoLimit ts k → k ≤ j
passed_first ts j k one other =
    elim (cases_lt j k) [ inl less ↦ absurd (one.passes (λ none. other (front_over ts (j + 1) k (omega arith) none))) | inr most ↦ most ]

-- no limit is passed at a token that can't be there, or after it
never_both : (ts : List Token) (j k : ℕ) → PassesLimit ts j → ShapeGoesWrong ts k → PassNoLimit ts k → ⊥
never_both ts j k one other first =
    let before = passed_first ts j k one first in
    other.strays (omega (arith, before, one.within)) (front_begins ts (k + 1) (j + 1) (omega (arith, before)) one.begins)

-- tokens have one first fault of their shape
pub one_of_shape : (fault other : ShapeFault) (ts : List Token) (j k : ℕ) → ShapeFaultSays fault ts j → ShapeFaultSays other ts k → (fault ≡ other) × (j ≡ k)
one_of_shape faults.Unexpected faults.Unexpected ts j k a b = (refl, one_stray ts j k a.0 b.0)
one_of_shape faults.TooMany faults.TooMany ts j k a b =
    let least = passed_first ts j k a b.first in
    let most = passed_first ts k j b a.first in
    (refl, omega (arith, least, most))
one_of_shape faults.Unexpected faults.TooMany ts j k a b = absurd (never_both ts k j b a.0 a.1)
one_of_shape faults.TooMany faults.Unexpected ts j k a b = absurd (never_both ts j k a b.0 b.1)

-- a text has one first fault of its shape, at one place
pub one_shape_fault : (fault other : ShapeFault) (text : List ℕ) (at place : ℕ) → ShapeFaultStandsAt fault text at → ShapeFaultStandsAt other text place
    → (fault ≡ other) × (at ≡ place)
one_shape_fault fault other text at place a b =
    let found : Some a.tokens ≡ Some b.tokens = sym a.has_tokens ∙ b.has_tokens in
    let same : a.tokens ≡ b.tokens = cc found in
    let one = one_of_shape fault other b.tokens a.before b.before (subst (λ (ts : List Token). ShapeFaultSays fault ts a.before) same a.says) b.says in
    let stand : StandAt text at (take b.before b.tokens) (drop b.before b.tokens) =
    subst (λ (k : ℕ). StandAt text at (take k b.tokens) (drop k b.tokens)) one.1
    (subst (λ (ts : List Token). StandAt text at (take a.before ts) (drop a.before ts)) same a.place) in
    (one.0, one_stand text at place (take b.before b.tokens) (drop b.before b.tokens) stand b.place)
