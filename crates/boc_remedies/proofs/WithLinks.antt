-- A set of cowns that saves anything contains all that some link of the chain hands on.
use Rattle.std.proofs.Common.{◌≡◌, ◌+◌, ◌==◌, ◌<◌, ◌⊎◌, ℕ, zero, suc, Bool, true, false, List, [], ◌∷◌, length, arith, get_or, inl, inr, refl, subst, sym, Option, Some}
use Rattle.std.specs.Prelude.{slice_get}
use Rattle.std.specs.List.{Contains, list_any}
use Rattle.std.proofs.lemmas.Bool.{eqb-true}
use Rattle.std.proofs.lemmas.Map.Views.{Contains-from_any}
use Rattle.std.proofs.lemmas.Option.{slice_get-get_or, slice_get_within}
use Rattle.boc_runs.specs.declared.rows.Row.{Row}
use Rattle.boc_runs.specs.Rows.{IsRows}
use Rattle.boc_plans.specs.declared.chain.ChainStep.{ChainStep}
use Rattle.boc_plans.specs.declared.chain.Via.{Via}
use Rattle.boc_plans.specs.declared.chain.Via.TheVariants.{Order}
use Rattle.boc_plans.specs.Greedy.{IsSpan}
use Rattle.boc_plans.specs.Seen.{seen}
use Rattle.boc_order.specs.Handed.{AreHanded}
use Rattle.boc_links.specs.Within.{HasLinkWithin}
use Rattle.boc_links.proofs.Within.{within_seen}
use Rattle.boc_why.specs.declared.links.Link.{Link}
use Rattle.boc_why.specs.declared.links.Link.TheVariants.{SpawnBy, Hands, Frees, Ends}
use Rattle.boc_why.specs.declared.why.Why.{Why}
use Rattle.boc_why.specs.Causes.{without_all}
use Rattle.boc_why.specs.Shares.{LinkSays}
use Rattle.boc_why.specs.Why.{IsWhy}
use Rattle.boc_remedies.specs.Questions.{Asked}
use Rattle.boc_remedies.specs.Families.{members_from, members_of}
use Rattle.boc_remedies.specs.WithLinks.{HandsOn, HasLinkIn, IsSpanWithout}

-- ---- members

first_or_behind : (x c : ℕ) (xs : List ℕ) → Contains (x ∷ xs) c → (c ≡ x) ⊎ Contains xs c
first_or_behind x c xs (zero, lt, e) = inl (sym e)
first_or_behind x c xs (suc k, lt, e) = inr (k, omega (arith, lt), e)

-- a cown of so many on, whose family is one of these
abbrev pub IsMember : ℕ → List ℕ → List ℕ → ℕ → Type 0
IsMember cown set families c = (place : ℕ) × (family : ℕ) × (c ≡ cown + place) × (slice_get families place ≡ Some family) × Contains set family

member_from : (cown : ℕ) (set families : List ℕ) (c : ℕ) → Contains (members_from cown set families) c → IsMember cown set families c
member_from cown set [] c h = absurd (omega (arith, h.1))
member_from cown set (f ∷ families) c h = by (list_any (λ own. own == f) set) refl (member_from (suc cown) set families c)
  where
    behind : IsMember (suc cown) set families c → IsMember cown set (f ∷ families) c
    behind m = (suc m.0, m.1, omega (arith, m.2), m.3, m.4)

    by : (b : Bool) → list_any (λ own. own == f) set ≡ b → (Contains (members_from (suc cown) set families) c → IsMember (suc cown) set families c)
        → IsMember cown set (f ∷ families) c
    by true e further = elim (first_or_behind cown c (members_from (suc cown) set families) (rw e at h)) [
      | inl same ↦ (0, f, omega (arith, same), refl, Contains-from_any {eq = λ x y. y == x} (λ x y is. sym (eqb-true y x is)) f set e)
      | inr later ↦ behind (further later)
    ]
    by false e further = behind (further (rw e at h))

-- a cown that is a member belongs to a family of the set
member_told : (set families : List ℕ) (c : ℕ) → Contains (members_of set families) c
    → (family : ℕ) × (slice_get families c ≡ Some family) × Contains set family
member_told set families c h =
    let m = member_from 0 set families c h in
    let e : m.0 ≡ c = omega (arith, m.2) in
    (m.1, subst (λ (n : ℕ). slice_get families n ≡ Some m.1) e m.3, m.4)

-- ---- links

-- what an order link hands on
handed_by : (rows : List Row) (defs : List ℕ) (a : ℕ) (via : Via) (to : ChainStep) (link : Link) → via ≡ Order → LinkSays rows defs a via (Some to) link
    → (cowns : List ℕ) × HandsOn (Some link) cowns × AreHanded rows a to.row cowns
handed_by rows defs a via to link e says = of link (subst (λ (own : Via). LinkSays rows defs a own (Some to) link) e says)
  where
    of : (own : Link) → LinkSays rows defs a Order (Some to) own → (cowns : List ℕ) × HandsOn (Some own) cowns × AreHanded rows a to.row cowns
    of (SpawnBy def) l = absurd l
    of (Hands held) l = (held.items, refl, l)
    of Frees l = absurd l
    of Ends l = absurd l

pub link_in : (question : Asked) (set : List ℕ) (why : Why) (other : ℕ) → IsRows question.rows
    → IsWhy question.rows question.sharing question.defs (length question.families) why → IsSpanWithout question set other
    → other < why.profile.span → HasLinkIn question.families why.links.items set
link_in question set why other hr is without sooner =
    let rows : List Row = question.rows in
    let families : List ℕ = question.families in
    let all : List Row = seen question.sharing rows in
    let left : IsSpan (seen question.sharing (without_all (members_of set families) rows)) other =
    subst (λ (after : List Row). IsSpan (seen question.sharing after) other) without.without without.is in
    let l : HasLinkWithin all (members_of set families) why.profile.chain.steps.items =
    within_seen rows question.sharing (members_of set families) why.profile.starts.items why.profile.span other why.profile.chain.steps.items hr
    is.profile.earliest is.profile.span is.profile.picked left sooner in
    let link : Link = get_or why.links.items l.place Ends in
    let there : slice_get why.links.items l.place ≡ Some link = slice_get-get_or why.links.items l.place Ends
    (omega (arith, slice_get_within why.profile.chain.steps.items l.place l.from l.here, is.links.whole)) in
    let says : LinkSays all question.defs l.from.row l.from.via (Some l.to) link =
    subst (λ (next : Option ChainStep). LinkSays all question.defs l.from.row l.from.via next link) l.next (is.links.at l.place l.from link l.here there) in
    let h = handed_by all question.defs l.from.row l.from.via l.to link l.via_order says in
    record {
      place = l.place;
      cowns = h.0;
      hands = subst (λ (own : Option Link). HandsOn own h.0) (sym there) h.1;
      within = λ cown stands. member_told set families cown (l.over_these.within cown ((h.2.each cown).0 stands));
    }
