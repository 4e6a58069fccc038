-- What a line of a stream says, and where its cowns begin.
use Rattle.std.proofs.Common.{◌≡◌, ℕ, ◌<◌, ◌^◌, List, [], ◌∷◌, ◌++◌, length, drop, get_or, refl, sym, ap, ◌∙◌, subst, arith, append_assoc, length-append}
use Rattle.std.proofs.lemmas.List.{append-nil}
use Rattle.std.proofs.lemmas.List.Elements.{All-append, All-cons}
use Rattle.boc_record.specs.Fields.{IsApart}
use Rattle.boc_record.specs.RecordTexts.{Version, First, Second, fields}
use Rattle.boc_record.proofs.Runs.{fields_apart, nothing_left}
use Rattle.boc_stream.specs.declared.told.Told.{Told}
use Rattle.boc_stream.specs.declared.told.Told.TheVariants.{Spawn, Start, End, Last}
use Rattle.boc_program.specs.declared.body.EndStatus.{EndStatus}
use Rattle.boc_program.specs.declared.body.EndStatus.TheVariants as statuses
use Rattle.boc_record.specs.RecordTexts.{field, status_number, version_number}
use Rattle.boc_stream.specs.StreamFields.{IsShort, AreShort, IsShortField, IsOfShorts}
use Rattle.boc_stream.specs.StreamTexts.{stream_header, sign_of, numbers_of, told_line, MayHave, Says, SaysFront, FollowsSign}
use Rattle.std.specs.Prelude.{MatchOption, Option, Some, None, codes}
use Rattle.boc_stream.proofs.ShortFields.{StartsWith, fields_append, front_fields}

-- where nothing follows a sign, no line says it
pub none_says : (line rest : List ℕ) (sign : ℕ) → line ≡ sign ∷ rest → ((told : Told) (behind : List ℕ) → FollowsSign sign rest told behind → ⊥)
    → (told : Told) (behind : List ℕ) → SaysFront line told behind → ⊥
none_says line rest sign e none told behind s =
    let both : sign ∷ rest ≡ sign_of told ∷ fields (numbers_of told) ++ behind = sym e ∙ s.is in
    none told behind (record { sign_is = sym (ap (λ xs. get_or xs 0 0) both); numbers = s.numbers; is = ap (drop 1) both; apart = s.apart })

-- what follows a sign is what the line says
pub front_says : (line rest : List ℕ) (sign : ℕ) (told : Told) (behind : List ℕ) → line ≡ sign ∷ rest → FollowsSign sign rest told behind
    → SaysFront line told behind
front_says line rest sign told behind e f = record {
  numbers = f.numbers;
  is = e ∙ ap (λ x. x ∷ rest) (sym f.sign_is) ∙ ap (λ xs. sign_of told ∷ xs) f.is;
  apart = f.apart;
}

-- a line that says so much, with cowns, says it at its front
pub says_front : (version : Version) (line : List ℕ) (told : Told) (cowns : List ℕ) → Says version line told cowns → SaysFront line told (fields cowns)
says_front version line told cowns s = record {
  numbers = s.numbers;
  is = s.is ∙ ap (λ xs. sign_of told ∷ xs) (fields_append (numbers_of told) cowns);
  apart = fields_apart cowns;
}

-- lines of one sign have as many numbers before their cowns
same_count : (t u : Told) → sign_of t ≡ sign_of u → length (numbers_of t) ≡ length (numbers_of u)
same_count (Spawn a b c) (Spawn d e f) h = refl
same_count (Spawn a b c) (Start d) h = absurd (omega (arith, h))
same_count (Spawn a b c) (End d e f) h = absurd (omega (arith, h))
same_count (Spawn a b c) Last h = absurd (omega (arith, h))
same_count (Start a) (Spawn d e f) h = absurd (omega (arith, h))
same_count (Start a) (Start d) h = refl
same_count (Start a) (End d e f) h = absurd (omega (arith, h))
same_count (Start a) Last h = absurd (omega (arith, h))
same_count (End a b c) (Spawn d e f) h = absurd (omega (arith, h))
same_count (End a b c) (Start d) h = absurd (omega (arith, h))
same_count (End a b c) (End d e f) h = refl
same_count (End a b c) Last h = absurd (omega (arith, h))
same_count Last (Spawn d e f) h = absurd (omega (arith, h))
same_count Last (Start d) h = absurd (omega (arith, h))
same_count Last (End d e f) h = absurd (omega (arith, h))
same_count Last Last h = refl

all_short : (ns ms : List ℕ) → AreShort ns → AreShort ms → AreShort (ns ++ ms)
all_short ns ms a b = All-append (λ n. n < 10 ^ 18) ns ms a b

-- lines of one sign may have the same cowns
pub may_alike : (v : Version) (t u : Told) (cowns : List ℕ) → sign_of t ≡ sign_of u → MayHave v t cowns → MayHave v u cowns
may_alike v (Spawn a b c) (Spawn d e f) cowns h m = tt
may_alike v (Spawn a b c) (Start d) cowns h m = absurd (omega (arith, h))
may_alike v (Spawn a b c) (End d e f) cowns h m = absurd (omega (arith, h))
may_alike v (Spawn a b c) Last cowns h m = absurd (omega (arith, h))
may_alike v (Start a) (Spawn d e f) cowns h m = absurd (omega (arith, h))
may_alike v (Start a) (Start d) cowns h m = m
may_alike v (Start a) (End d e f) cowns h m = absurd (omega (arith, h))
may_alike v (Start a) Last cowns h m = absurd (omega (arith, h))
may_alike v (End a b c) (Spawn d e f) cowns h m = absurd (omega (arith, h))
may_alike v (End a b c) (Start d) cowns h m = absurd (omega (arith, h))
may_alike First (End a b c) (End d e f) cowns h m = m
may_alike Second (End a b c) (End d e f) cowns h m = tt
may_alike v (End a b c) Last cowns h m = absurd (omega (arith, h))
may_alike v Last (Spawn d e f) cowns h m = absurd (omega (arith, h))
may_alike v Last (Start d) cowns h m = absurd (omega (arith, h))
may_alike v Last (End d e f) cowns h m = absurd (omega (arith, h))
may_alike v Last Last cowns h m = m

-- where a line says something at its front and cowns follow, whatever it says has fields at its end, which are as many
pub record EndsAlike (version : Version) (told : Told) (rest : List ℕ) : Type 0 where
  pub more : List ℕ
  pub of : IsOfShorts rest more
  pub may : MayHave version told more

same_none : (xs ys : List ℕ) → length xs ≡ length ys → xs ≡ [] → ys ≡ []
same_none xs ys e none = nothing_left ys (omega (arith, e, ap length none))

same_may : (v : Version) (told : Told) (xs ys : List ℕ) → length xs ≡ length ys → MayHave v told xs → MayHave v told ys
same_may v (Spawn row parent offset) xs ys e m = tt
same_may v (Start row) xs ys e m = same_none xs ys e m
same_may First (End row ticks status) xs ys e m = same_none xs ys e m
same_may Second (End row ticks status) xs ys e m = tt
same_may v Last xs ys e m = same_none xs ys e m

pub ends_alike : (version : Version) (line : List ℕ) (told other : Told) (rest cowns : List ℕ) → SaysFront line told rest → Says version line other cowns
    → EndsAlike version told rest
ends_alike version line told other rest cowns f s =
    let both : sign_of told ∷ fields (numbers_of told) ++ rest ≡ sign_of other ∷ fields (numbers_of other ++ cowns) = sym f.is ∙ s.is in
    let sign : sign_of told ≡ sign_of other = ap (λ xs. get_or xs 0 0) both in
    let split = front_fields (numbers_of told) rest (numbers_of other ++ cowns) f.numbers (all_short (numbers_of other) cowns s.numbers s.cowns_small) f.apart
    (ap (drop 1) both) in
    let count : length cowns ≡ length split.0 =
    omega (arith, ap length split.1, length-append (numbers_of other) cowns, length-append (numbers_of told) split.0, same_count told other sign) in record {
      more = split.0;
      of = record { small = split.3; is = split.2 };
      may = same_may version told cowns split.0 count (may_alike version other told cowns (sym sign) s.may);
    }

-- cowns that stand behind what a line says at its front
pub says_all : (version : Version) (line : List ℕ) (told : Told) (rest cowns : List ℕ) → SaysFront line told rest → IsOfShorts rest cowns → MayHave version told cowns
    → Says version line told cowns
says_all version line told rest cowns f t may = record {
  numbers = f.numbers;
  cowns_small = t.small;
  may = may;
  is = f.is ∙ ap (λ xs. sign_of told ∷ fields (numbers_of told) ++ xs) t.is
      ∙ ap (λ xs. sign_of told ∷ xs) (sym (fields_append (numbers_of told) cowns));
}

pub no_cowns : (rest cowns : List ℕ) → IsOfShorts rest cowns → rest ≡ [] → cowns ≡ []
no_cowns rest [] t e = refl
no_cowns rest (c ∷ cs) t e = absurd (omega (arith, ap length (sym t.is ∙ e)))

-- a field, and fields behind it
pub behind_field : (text rest : List ℕ) (n : ℕ) (ns : List ℕ) (more : List ℕ) → IsShortField text n rest → rest ≡ fields ns ++ more → text ≡ fields (n ∷ ns) ++ more
behind_field text rest n ns more f e = f.is ∙ ap (λ xs. field n ++ xs) e ∙ sym (append_assoc (field n) (fields ns) more)

nothing_short : AreShort []
nothing_short k d h = absurd (omega (arith, h))

pub short_more : (n : ℕ) (ns : List ℕ) → IsShort n → AreShort ns → AreShort (n ∷ ns)
short_more n ns a b = All-cons (λ n. n < 10 ^ 18) n ns a b

-- one field, and three
pub one_number : (text rest : List ℕ) (n : ℕ) → IsShortField text n rest → AreShort (n ∷ []) × (text ≡ fields (n ∷ []) ++ rest)
one_number text rest n f = (short_more n [] f.small nothing_short, behind_field text rest n [] rest f refl)

pub three_numbers : (text one two rest : List ℕ) (a b c : ℕ) → IsShortField text a one → IsShortField one b two → IsShortField two c rest
    → AreShort (a ∷ b ∷ c ∷ []) × (text ≡ fields (a ∷ b ∷ c ∷ []) ++ rest)
three_numbers text one two rest a b c f g h = (
  short_more a (b ∷ c ∷ []) f.small (short_more b (c ∷ []) g.small (short_more c [] h.small nothing_short)),
  behind_field text one a (b ∷ c ∷ []) rest f (behind_field one two b (c ∷ []) rest g (behind_field two rest c [] rest h refl)),
)

-- three numbers stand at the front of a text
pub record HasThree (text : List ℕ) : Type 0 where
  pub a : ℕ
  pub b : ℕ
  pub c : ℕ
  pub behind : List ℕ
  pub of : StartsWith text (a ∷ b ∷ c ∷ []) behind

pub spawn_front : (text : List ℕ) (told : Told) (rest : List ℕ) → FollowsSign 43 text told rest → HasThree text
spawn_front text (Spawn row parent offset) rest f =
    record { a = row; b = parent; c = offset; behind = rest; of = record { small = f.numbers; is = f.is; apart = f.apart } }
spawn_front text (Start row) rest f = absurd (omega (arith, f.sign_is))
spawn_front text (End row ticks status) rest f = absurd (omega (arith, f.sign_is))
spawn_front text Last rest f = absurd (omega (arith, f.sign_is))

-- the third of which is that of a status
pub record HasEnd (text : List ℕ) : Type 0 where
  pub row : ℕ
  pub ticks : ℕ
  pub status : EndStatus
  pub behind : List ℕ
  pub of : StartsWith text (row ∷ ticks ∷ status_number status ∷ []) behind

pub end_front : (text : List ℕ) (told : Told) (rest : List ℕ) → FollowsSign 60 text told rest → HasEnd text
end_front text (Spawn row parent offset) rest f = absurd (omega (arith, f.sign_is))
end_front text (Start row) rest f = absurd (omega (arith, f.sign_is))
end_front text (End row ticks status) rest f =
    record { row = row; ticks = ticks; status = status; behind = rest; of = record { small = f.numbers; is = f.is; apart = f.apart } }
end_front text Last rest f = absurd (omega (arith, f.sign_is))

pub start_front : (text : List ℕ) (told : Told) (rest : List ℕ) → FollowsSign 62 text told rest → (row : ℕ) × StartsWith text (row ∷ []) rest
start_front text (Spawn row parent offset) rest f = absurd (omega (arith, f.sign_is))
start_front text (Start row) rest f = (row, record { small = f.numbers; is = f.is; apart = f.apart })
start_front text (End row ticks status) rest f = absurd (omega (arith, f.sign_is))
start_front text Last rest f = absurd (omega (arith, f.sign_is))

pub last_front : (text : List ℕ) (told : Told) (rest : List ℕ) → FollowsSign 46 text told rest → IsApart text
last_front text (Spawn row parent offset) rest f = absurd (omega (arith, f.sign_is))
last_front text (Start row) rest f = absurd (omega (arith, f.sign_is))
last_front text (End row ticks status) rest f = absurd (omega (arith, f.sign_is))
last_front text Last rest f = subst IsApart (sym f.is) f.apart

pub last_follows : (text : List ℕ) → IsApart text → FollowsSign 46 text Last text
last_follows text apart = record { sign_is = refl; numbers = nothing_short; is = refl; apart = apart }

-- what was found behind a sign is what was found of the line
pub parts_said : {A : Type 0} → (view : A → List ℕ) → (result : Option (Told × A)) → (line rest : List ℕ) → (sign : ℕ) → line ≡ sign ∷ rest
    → MatchOption result ((told : Told) (behind : List ℕ) → FollowsSign sign rest told behind → ⊥) (λ p. FollowsSign sign rest p.0 (view p.1))
    → MatchOption result ((told : Told) (behind : List ℕ) → SaysFront line told behind → ⊥) (λ p. SaysFront line p.0 (view p.1))
parts_said view None line rest sign e none = none_says line rest sign e none
parts_said view (Some p) line rest sign e f = front_says line rest sign p.0 (view p.1) e f

-- a first line is the mark, its version and its number
short_version : (v : Version) → IsShort (version_number v)
short_version First = omega arith
short_version Second = omega arith

pub header_text : (line rest : List ℕ) (v : Version) (n : ℕ) → line ≡ codes "boc" ++ rest → IsShort n → line ≡ stream_header v n
    → StartsWith rest (version_number v ∷ n ∷ []) []
header_text line rest v n e small is = record {
  small = short_more (version_number v) (n ∷ []) (short_version v) (short_more n [] small nothing_short);
  is = ap (drop 3) (sym e ∙ is) ∙ sym (append-nil (fields (version_number v ∷ n ∷ [])));
  apart = tt;
}

-- a line without cowns at its end may be so, whatever it says
pub may_none : (v : Version) (told : Told) → MayHave v told []
may_none v (Spawn row parent offset) = tt
may_none v (Start row) = refl
may_none First (End row ticks status) = refl
may_none Second (End row ticks status) = tt
may_none v Last = refl

-- where nothing is left of a line, it has no cowns
pub may_empty : (v : Version) (told : Told) (rest cowns : List ℕ) → rest ≡ [] → IsOfShorts rest cowns → MayHave v told cowns
may_empty v told rest cowns e of = subst (MayHave v told) (sym (no_cowns rest cowns of e)) (may_none v told)

-- and where it has none, nothing is left of it
pub empty_rest : (rest cowns : List ℕ) → IsOfShorts rest cowns → cowns ≡ [] → rest ≡ []
empty_rest rest cowns of e = of.is ∙ ap fields e
