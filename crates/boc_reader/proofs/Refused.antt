-- Where a part isn't there, the whole isn't.
use Rattle.std.proofs.Common.{◌≡◌, ◌+◌, List, ◌∷◌, Result, Ok, Err, sym, ap, ◌∙◌, subst, arith}
use Rattle.std.specs.Result.{IsErrAnd, MatchResult}
use Rattle.boc_reader.specs.declared.terminal.Sign.{Sign}
use Rattle.boc_reader.specs.Tokens.{Token, sign}
use Rattle.boc_reader.specs.declared.fault.Fault.{Fault}
use Rattle.boc_reader.specs.declared.fault.Fault.TheVariants as faults
use Rattle.boc_reader.specs.declared.fault.ShapeFault.{ShapeFault}
use Rattle.boc_reader.specs.Placed.{Refusal}
use Rattle.boc_reader.specs.Phrases.{Ahead, Phrase, Stands, NoneStands, Parses}
use Rattle.boc_reader.specs.Grammar.{NoSign, closed_phrase, pair_phrase}

-- tokens are those of one phrase of the kind only
abbrev pub OneReading : {X : Type 0} → Phrase X → Type 0
OneReading {X} kind = (x y : X) (r s : List Token) → kind.Ends x r → kind.Ends y s → kind.tokens x r ≡ kind.tokens y s → (x ≡ y) × (r ≡ s)

-- what a fault says is passed on
refusal_on : (e : Fault ShapeFault) {P Q : Type 0} → Refusal e P → (P → Q) → Refusal e Q
refusal_on faults.Memory h f = tt
refusal_on (faults.At kind at) h f = f h

-- a fault may say what holds
pub tells : (e : Fault ShapeFault) {P : Type 0} → P → Refusal e P
tells faults.Memory h = tt
tells (faults.At kind at) h = h

pub passes : {X Y : Type 0} (kind : Phrase X) (view : Y → X) (P : Type 0) (old new : Ahead) (r : Result Y (Fault ShapeFault)) (e : Fault ShapeFault)
    → IsErrAnd r (λ f. f ≡ e) → Refusal e P → (P → NoneStands kind old) → Parses kind view old r new
passes kind view P old new (Ok y) e is h f = absurd is
passes kind view P old new (Err d) e is h f = refusal_on d (subst (λ (x : Fault ShapeFault). Refusal x P) (sym is) h) f

pub passes_on : {Y : Type 0} (Good : Y → Type 0) (P Q : Type 0) (r : Result Y (Fault ShapeFault)) (e : Fault ShapeFault) → IsErrAnd r (λ f. f ≡ e) → Refusal e P
    → (P → Q) → MatchResult r Good (λ f. Refusal f Q)
passes_on Good P Q (Ok y) e is h f = absurd is
passes_on Good P Q (Err d) e is h f = refusal_on d (subst (λ (x : Fault ShapeFault). Refusal x P) (sym is) h) f

-- a phrase, and the sign after it
module _ {X : Type 0} (kind : Phrase X) (close : Sign) (closes : (x : X) (r : List Token) → kind.Ends x (sign close ∷ r)) where
  pub no_close : OneReading kind → (old mid : Ahead) (x : X) → Stands kind old x mid.tokens → NoSign close mid.tokens
      → NoneStands (closed_phrase kind close) old
  no_close one old mid x item none y r st =
      none r (one x y mid.tokens (sign close ∷ r) item.ends (closes y r) (sym item.tokens ∙ st.tokens)).1

-- a phrase after another
module _ {X Y : Type 0} (first : Phrase X) (second : Phrase Y) (follows : (x : X) (y : Y) (r : List Token) → second.Ends y r → first.Ends x (second.tokens y r))
  where
    pub no_first : (old : Ahead) → NoneStands first old → NoneStands (pair_phrase first second) old
    no_first old none p r st = none p.0 (second.tokens p.1 r)
        (record { tokens = st.tokens; ends = follows p.0 p.1 r st.ends; fits = omega (arith, st.fits); small = st.small.0 })

    pub no_second : OneReading first → (old mid : Ahead) (x : X) → Stands first old x mid.tokens → first.nodes x + mid.room ≡ old.room → NoneStands second mid
        → NoneStands (pair_phrase first second) old
    no_second one old mid x item n none p r st =
        let u = one x p.0 mid.tokens (second.tokens p.1 r) item.ends (follows p.0 p.1 r st.ends) (sym item.tokens ∙ st.tokens) in
        none p.1 r (record { tokens = u.1; ends = st.ends; fits = omega (arith, ap first.nodes u.0, n, st.fits); small = st.small.1 })

    pub one_pair : OneReading first → OneReading second → OneReading (pair_phrase first second)
    one_pair one two p q r s e f h =
        let u = one p.0 q.0 (second.tokens p.1 r) (second.tokens q.1 s) (follows p.0 p.1 r e) (follows q.0 q.1 s f) h in
        let v = two p.1 q.1 r s e f u.1 in
        (ap (λ (x : X). (x, p.1)) u.0 ∙ ap (λ (y : Y). (q.0, y)) v.0, v.1)
