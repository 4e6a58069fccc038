-- What leads on from the steps of a greedy plan's chain, one after another.
use Rattle.std.proofs.Common.{◌≡◌, ℕ, suc, ◌+◌, ◌<◌, ◌≤◌, List, [], ◌∷◌, ◌++◌, length, get_or, arith, sym, ap, subst, ◌∙◌, ⊎_elim, refl, Option, Some, add-one}
use Rattle.std.specs.Prelude.{slice_get}
use Rattle.std.proofs.lemmas.List.{length_push}
use Rattle.std.proofs.lemmas.Option.{slice_get_within, same_Some, slice_get-get_or}
use Rattle.boc_runs.specs.declared.rows.Row.{Row}
use Rattle.boc_order.proofs.Places.{pushed_cases}
use Rattle.boc_greedy_chain.specs.declared.chain.GreedyStep.{GreedyStep}
use Rattle.boc_why.specs.declared.links.Link.{Link}
use Rattle.boc_remedies.specs.GreedyWhys.{AreGreedyLinks, IsGreedyLink}

-- what leads on from each of the first n steps
pub record SayGreedyLinks (rows : List Row) (defs : List ℕ) (steps : List GreedyStep) (n : ℕ) (links : List Link) : Type 0 where
  pub many : length links ≡ n
  pub at : (k : ℕ) (s : GreedyStep) (link : Link) → slice_get steps k ≡ Some s → slice_get links k ≡ Some link
      → IsGreedyLink rows defs s (slice_get steps (suc k)) link

module _ (rows : List Row) (defs : List ℕ) (steps : List GreedyStep) where
  pub say_none : SayGreedyLinks rows defs steps 0 []
  say_none = record { many = refl; at = λ k s link there none. absurd (omega (arith, slice_get_within [] k link none)) }

  -- one more step, where `next` is the step after it
  pub say_more : (n : ℕ) (links : List Link) (d : GreedyStep) (next : Option GreedyStep) (link : Link) → SayGreedyLinks rows defs steps n links
      → n < length steps → next ≡ slice_get steps (n + 1) → IsGreedyLink rows defs (get_or steps n d) next link
      → SayGreedyLinks rows defs steps (n + 1) (links ++ link ∷ [])
  say_more n links d next link said there e says = record {
    many = omega (arith, length_push links link, said.many);
    at = λ k s other step is. ⊎_elim
        (λ (l : (k < length links) × (slice_get links k ≡ Some other)). said.at k s other step l.1)
        (λ (last : (k ≡ length links) × (link ≡ other)).
        let m : n ≡ k = omega (arith, last.0, said.many) in
        let same : get_or steps n d ≡ s = same_Some (get_or steps n d) s (sym (slice_get-get_or steps n d there) ∙ (ap (slice_get steps) m ∙ step)) in
        subst (λ (x : Link). IsGreedyLink rows defs s (slice_get steps (suc k)) x) last.1
        (subst (λ (o : Option GreedyStep). IsGreedyLink rows defs s o link) (e ∙ ap (slice_get steps) (add-one n ∙ ap suc m))
        (subst (λ (x : GreedyStep). IsGreedyLink rows defs x next link) same says)))
        (pushed_cases links link k other is);
  }

  pub say_all : (n : ℕ) (links : List Link) → length steps ≤ n → n ≤ length steps → SayGreedyLinks rows defs steps n links
      → AreGreedyLinks rows defs steps links
  say_all n links h g said = record { whole = omega (arith, said.many); at = said.at }
