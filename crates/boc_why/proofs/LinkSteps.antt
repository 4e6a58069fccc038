-- What leads on from the steps of a chain, one after another.
use Rattle.std.proofs.Common.{◌≡◌, ℕ, suc, ◌+◌, ◌<◌, ◌≤◌, List, [], ◌∷◌, ◌++◌, length, get_or, arith, sym, ap, subst, ◌∙◌, ⊎_elim, refl, Option, Some, add-one}
use Rattle.std.specs.Prelude.{slice_get}
use Rattle.std.proofs.lemmas.List.{length_push}
use Rattle.std.proofs.lemmas.Option.{slice_get_within, same_Some, slice_get-get_or}
use Rattle.boc_runs.specs.declared.rows.Row.{Row}
use Rattle.boc_plans.specs.declared.chain.ChainStep.{ChainStep}
use Rattle.boc_plans.specs.Chains.{IsChain, IsLink}
use Rattle.boc_order.proofs.Places.{pushed_cases}
use Rattle.boc_why.specs.declared.links.Link.{Link}
use Rattle.boc_why.specs.Shares.{LinkSays, AreLinks}

-- what leads on from each of the first n steps
pub record SayLinks (rows : List Row) (defs : List ℕ) (steps : List ChainStep) (n : ℕ) (links : List Link) : Type 0 where
  pub many : length links ≡ n
  pub at : (k : ℕ) (s : ChainStep) (link : Link) → slice_get steps k ≡ Some s → slice_get links k ≡ Some link →
      LinkSays rows defs s.row s.via (slice_get steps (suc k)) link

module _ (rows : List Row) (defs : List ℕ) (steps : List ChainStep) where
  pub say_none : SayLinks rows defs steps 0 []
  say_none = record { many = refl; at = λ k s link there none. absurd (omega (arith, slice_get_within [] k link none)) }

  -- one more step, where `next` is the step after it
  pub say_more : (n : ℕ) (links : List Link) (d : ChainStep) (next : Option ChainStep) (link : Link) → SayLinks rows defs steps n links → n < length steps
      → next ≡ slice_get steps (n + 1) → LinkSays rows defs (get_or steps n d).row (get_or steps n d).via next link
      → SayLinks rows defs steps (n + 1) (links ++ link ∷ [])
  say_more n links d next link said there e says = record {
    many = omega (arith, length_push links link, said.many);
    at = λ k s other step is. ⊎_elim
        (λ (l : (k < length links) × (slice_get links k ≡ Some other)). said.at k s other step l.1)
        (λ (last : (k ≡ length links) × (link ≡ other)).
        let m : n ≡ k = omega (arith, last.0, said.many) in
        let same : get_or steps n d ≡ s = same_Some (get_or steps n d) s (sym (slice_get-get_or steps n d there) ∙ (ap (slice_get steps) m ∙ step)) in
        subst (λ (x : Link). LinkSays rows defs s.row s.via (slice_get steps (suc k)) x) last.1
        (subst (λ (o : Option ChainStep). LinkSays rows defs s.row s.via o link) (e ∙ ap (slice_get steps) (add-one n ∙ ap suc m))
        (subst (λ (x : ChainStep). LinkSays rows defs x.row x.via next link) same says)))
        (pushed_cases links link k other is);
  }

  -- in a chain the link of each step holds of the step after it
  pub link_holds : IsChain rows steps → (k : ℕ) (d : ChainStep) (next : Option ChainStep) → k < length steps → next ≡ slice_get steps (k + 1)
      → IsLink rows (get_or steps k d) next
  link_holds chain k d next h e = subst (IsLink rows (get_or steps k d)) (sym (e ∙ ap (slice_get steps) (add-one k)))
      (chain.holds k (get_or steps k d) (slice_get-get_or steps k d h)).1

  pub say_all : (n : ℕ) (links : List Link) → length steps ≤ n → n ≤ length steps → SayLinks rows defs steps n links → AreLinks rows defs steps links
  say_all n links h g said = record { whole = omega (arith, said.many); at = said.at }
