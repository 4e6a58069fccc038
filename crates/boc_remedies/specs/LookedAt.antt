-- The search for sets of cowns that save much only together.
use Rattle.std.specs.Prelude.{◌≡◌, ◌++◌, ◌||◌, ℕ, zero, suc, Bool, cond, List, [], ◌∷◌, length, map, take, drop, None}
use Rattle.std.specs.List.{fold, list_any}
use Rattle.std.specs.Ordering.{is_lt, nat_cmp, ordering_then}
use Rattle.std.specs.Cmp.Lexicographic.{slice_cmp}
use Rattle.boc_runs.specs.declared.rows.Row.{Row}
use Rattle.boc_plans.specs.Seen.{seen}
use Rattle.boc_order.specs.declared.report.Profile.{Profile}
use Rattle.boc_order.specs.Profiles.{IsProfileOf}
use Rattle.boc_why.specs.declared.links.Link.{Link}
use Rattle.boc_why.specs.declared.shares.Share.{Share}
use Rattle.boc_why.specs.Shares.{AreLinks, weights_of}
use Rattle.boc_remedies.specs.declared.ends.Ends.{Ends}
use Rattle.boc_remedies.specs.declared.looked_at.LookedAt.{LookedAt}
use Rattle.boc_remedies.specs.declared.looked_at.TheConstants.{ROUNDS, KEPT}
use Rattle.boc_remedies.specs.Questions.{Asked}
use Rattle.boc_remedies.specs.declared.remedy.Remedy.TheVariants.{NoOrder}
use Rattle.boc_remedies.specs.Chains.{AreSharesBySet}
use Rattle.boc_remedies.specs.Ends.{AreAllEnds}
use Rattle.boc_remedies.specs.Families.{is_same_set, joined}
use Rattle.boc_remedies.specs.InOrder.{put_before}
use Rattle.boc_remedies.specs.LinkSets.{link_sets}
use Rattle.boc_remedies.specs.Remedies.{AreRowsAfter}

-- ---- the chain of some rows

-- the link sets of the chain of some rows
pub record AreSetsLeft (question : Asked) (rows : List Row) (sets : List (List ℕ)) : Type 0 where
  pub profile : Profile
  pub profile_is : IsProfileOf (seen question.sharing rows) profile
  pub links : List Link
  pub links_are : AreLinks (seen question.sharing rows) question.defs profile.chain.steps.items links
  pub shares : List Share
  pub shares_are : AreSharesBySet question.families links (weights_of profile.chain.steps.items) shares
  pub are : sets ≡ link_sets question.families links shares

-- the link sets of the chain of the rows without the order of some families
pub record AreLeftBy (question : Asked) (base : List ℕ) (sets : List (List ℕ)) : Type 0 where
  pub after : List Row
  pub without : AreRowsAfter question (NoOrder base) after
  pub are : AreSetsLeft question after sets

-- ---- the best of a round

-- whether the one set is better: it leaves the lesser span; or as much with fewer families; or comes first
abbrev pub is_better : LookedAt → LookedAt → Bool
is_better a b = is_lt (ordering_then (nat_cmp a.span b.span)
    (ordering_then (nat_cmp (length a.families) (length b.families)) (slice_cmp nat_cmp a.families b.families)))

-- the best of some sets and one more
abbrev pub best_with : List LookedAt → LookedAt → List LookedAt
best_with best own = take KEPT (put_before (is_better own) best own)

-- the best of some sets
abbrev pub best_of : List LookedAt → List LookedAt
best_of looked = fold best_with [] looked

-- ---- the next round

-- the sets that were looked at
abbrev pub sets_of : List LookedAt → List (List ℕ)
sets_of looked = map (λ l. l.families) looked

-- whether a set is among those that were looked at, or among others
abbrev pub is_known : List LookedAt → List (List ℕ) → List ℕ → Bool
is_known looked sets set = list_any (λ l. is_same_set l.families set) looked || list_any (λ own. is_same_set own set) sets

-- sets with one more, unless it is known
abbrev pub new_with : List LookedAt → List (List ℕ) → List ℕ → List (List ℕ)
new_with looked sets set = cond (is_known looked sets set) sets (sets ++ set ∷ [])

-- sets with those that a set makes with each of some others
abbrev pub new_from : List LookedAt → List ℕ → List (List ℕ) → List (List ℕ) → List (List ℕ)
new_from looked base sets more = fold (new_with looked) sets (map (joined base) more)

-- the sets that are looked at next to some: each with each link set of the chain that is left without it
abbrev pub AreNew : Asked → List LookedAt → List LookedAt → List (List ℕ) → List (List ℕ) → Type 0
AreNew question looked [] sets new = new ≡ sets
AreNew question looked (base ∷ bases) sets new =
    (more : List (List ℕ)) × AreLeftBy question base.families more × AreNew question looked bases (new_from looked base.families sets more) new

-- sets with the spans that they leave
abbrev pub looked_at : List (List ℕ) → List Ends → List LookedAt
looked_at [] left = []
looked_at (set ∷ sets) [] = []
looked_at (set ∷ sets) (ends ∷ left) = record { families = set; span = ends.span } ∷ looked_at sets left

-- One more round: the best sets from a place on make new ones with the link sets of the chains that they leave, and these are looked at.
pub record IsRound (question : Asked) (before : List LookedAt) (from : ℕ) (after : List LookedAt) : Type 0 where
  pub new : List (List ℕ)
  pub new_are : AreNew question before (best_of (drop from before)) [] new
  pub left : List Ends
  pub left_are : AreAllEnds question (map NoOrder new) left
  pub after_is : after ≡ before ++ looked_at new left

-- so many rounds more
abbrev pub AreRounds : Asked → ℕ → ℕ → List LookedAt → List LookedAt → Type 0
AreRounds question zero from before after = after ≡ before
AreRounds question (suc rounds) from before after =
    (next : List LookedAt) × IsRound question before from next × AreRounds question rounds (length before) next after

-- the same question for as many workers as rows
abbrev pub by_span : Asked → Asked
by_span question = record question { workers = None }

-- What is looked at: first the set of no family; in a first round each link set of the chain; and in each further one what the best sets of the round before
-- make with the link sets of the chains that they leave. Each is with the span that is left without it.
abbrev pub AreLookedAt : Asked → ℕ → List LookedAt → Type 0
AreLookedAt question span looked = AreRounds (by_span question) ROUNDS 0 (record { families = []; span = span } ∷ []) looked
