-- What a table of all cowns says is what kinds reach.
use Rattle.std.proofs.Common.{◌≡◌, ◌⊎◌, ◌↔◌, ℕ, zero, suc, ◌+◌, ◌<◌, inl, inr, refl, List, [], ◌∷◌, ◌++◌, length, map, ap, sym, ◌∙◌, subst, arith, IsTrue, Bool, Some, None, length-append}
use Rattle.std.specs.Prelude.{slice_get}
use Rattle.std.proofs.lemmas.Bool.{cases_lt}
use Rattle.boc_program.specs.declared.body.Body.{Body}
use Rattle.boc_program.specs.declared.program.Program.{Program}
use Rattle.boc_program.proofs.ChangedItems.{none_past, front_item, last_item}
use Rattle.boc_footprints.specs.Whens.{names}
use Rattle.boc_footprints.specs.Footprints.{Reaches, Names, Spawns, IsFootprint}
use Rattle.boc_footprints.specs.declared.spreading.Spawn.{Spawn}
use Rattle.boc_footprints.specs.Spreading.{is_marked, Leads, Marked, Farther, spawned_by}
use Rattle.boc_footprints.specs.Tables.{is_marked_there, reaches, naming}
use Rattle.boc_footprints.proofs.Passing.{kind_there, cown_there}
use Rattle.boc_footprints.proofs.Spawning.{spawn_there, spawn_among}
use Rattle.boc_footprints.proofs.Footing.{is_footprint}

marked_at : (test : Body → Bool) (bodies : List Body) (k : ℕ) (body : Body) → slice_get bodies k ≡ Some body → IsTrue (test body)
    → IsTrue (is_marked (map test bodies) k)
marked_at test [] k body e h = absurd cc
marked_at test (b ∷ bodies) zero body e h =
    let is : b ≡ body = (let f : Some b ≡ Some body = e in cc) in
    subst (λ x. IsTrue (test x)) (sym is) h
marked_at test (b ∷ bodies) (suc k) body e h = marked_at test bodies k body e h

record HasBody (test : Body → Bool) (bodies : List Body) (k : ℕ) : Type 0 where
  body : Body
  is : slice_get bodies k ≡ Some body
  passes : IsTrue (test body)

marked_has : (test : Body → Bool) (bodies : List Body) (k : ℕ) → IsTrue (is_marked (map test bodies) k) → HasBody test bodies k
marked_has test [] k h = absurd cc
marked_has test (b ∷ bodies) zero h = record { body = b; is = refl; passes = h }
marked_has test (b ∷ bodies) (suc k) h =
    let r = marked_has test bodies k h in
    record { body = r.body; is = r.is; passes = r.passes }

-- the spawns of a program's bodies
abbrev pub spawns_in : Program → List Spawn
spawns_in p = spawned_by (length p.bodies) 0 p.bodies

leads_reach : (p : Program) (cown kind : ℕ) → Leads (spawns_in p) (naming cown p.bodies) kind → Reaches p kind cown
leads_reach p cown _ (Marked kind h) =
    let r = marked_has (λ b. names cown b.block) p.bodies kind h in
    Names kind cown r.body r.is r.passes
leads_reach p cown _ (Farther kind other among h) =
    let r = spawn_there p.bodies (record { kind = kind; other = other }) among in
    Spawns kind other cown r.body r.is r.has (leads_reach p cown other h)

reach_leads : (p : Program) (kind cown : ℕ) → Reaches p kind cown → Leads (spawns_in p) (naming cown p.bodies) kind
reach_leads p _ _ (Names kind cown body e h) = Marked kind (marked_at (λ b. names cown b.block) p.bodies kind body e h)
reach_leads p _ _ (Spawns kind other cown body e h r) =
    Farther kind other (spawn_among p.bodies kind other body e (kind_there p kind other body e h) h) (reach_leads p other cown r)

reached_low : (p : Program) (kind cown : ℕ) → Reaches p kind cown → cown < 256
reached_low p _ _ (Names kind cown body e h) = cown_there p kind cown body e h
reached_low p _ _ (Spawns kind other cown body e h r) = reached_low p other cown r

-- a table is of so many cowns, and has for each the kinds that lead to one that names it
pub record IsTable (all : List Spawn) (bodies : List Body) (cowns : ℕ) (table : List (List Bool)) : Type 0 where
  pub many : length table ≡ cowns
  pub each : (kind cown : ℕ) → cown < cowns → (IsTrue (reaches table kind cown) ↔ Leads all (naming cown bodies) kind)

pub no_table : (all : List Spawn) (bodies : List Body) → IsTable all bodies 0 []
no_table all bodies = record { many = refl; each = λ kind cown low. absurd (omega (arith, low)) }

below_or_last : (c n : ℕ) → c < n + 1 → (c ≡ n) ⊎ (c < n)
below_or_last c n low = elim (cases_lt c n) [
  | inl less ↦ inr less
  | inr more ↦ inl (omega (arith, low, more))
]

pub table_more : (all : List Spawn) (bodies : List Body) (n : ℕ) (table : List (List Bool)) (marks : List Bool) → IsTable all bodies n table
    → ((kind : ℕ) → (IsTrue (is_marked marks kind) ↔ Leads all (naming n bodies) kind)) → IsTable all bodies (n + 1) (table ++ marks ∷ [])
table_more all bodies n table marks t h = record {
  many = omega (arith, t.many, length-append table (marks ∷ []));
  each = λ kind cown low. elim (below_or_last cown n low) [
    | inl is ↦
        let here : slice_get (table ++ marks ∷ []) cown ≡ Some marks =
        ap (slice_get (table ++ marks ∷ [])) (is ∙ sym t.many) ∙ last_item table marks in
        subst (λ o. IsTrue (is_marked_there o kind) ↔ Leads all (naming cown bodies) kind) (sym here)
        (subst (λ c. IsTrue (is_marked marks kind) ↔ Leads all (naming c bodies) kind) (sym is) (h kind))
    | inr less ↦
        let there : slice_get (table ++ marks ∷ []) cown ≡ slice_get table cown = front_item table marks cown (omega (arith, less, t.many)) in
        subst (λ o. IsTrue (is_marked_there o kind) ↔ Leads all (naming cown bodies) kind) (sym there) (t.each kind cown less)
  ];
}

pub table_exact : (p : Program) (table : List (List Bool)) → IsTable (spawns_in p) p.bodies 256 table
    → (kind cown : ℕ) → (IsTrue (reaches table kind cown) ↔ Reaches p kind cown)
table_exact p table t kind cown = elim (cases_lt cown 256) [
  | inl low ↦
      let both = t.each kind cown low in
      (λ h. leads_reach p cown kind (both.0 h), λ r. both.1 (reach_leads p kind cown r))
  | inr high ↦
      let none : slice_get table cown ≡ None = none_past table cown (omega (arith, high, t.many)) in
      let never : IsTrue (reaches table kind cown) → ⊥ = λ h. (let no : IsTrue (is_marked_there None kind) = subst (λ o. IsTrue (is_marked_there o kind)) none h in cc) in
      (λ h. absurd (never h), λ r. absurd (omega (arith, high, reached_low p kind cown r)))
]

-- what is said alike of all kinds and cowns is a footprint too
alike : (p : Program) (reach same : ℕ → ℕ → Type 0) → ((kind cown : ℕ) → (same kind cown ↔ reach kind cown)) → IsFootprint p reach → IsFootprint p same
alike p reach same both f = record {
  cowns = λ b values w takes among c h. elim (f.cowns b values w takes among c h) [
    | inl own ↦ inl own
    | inr reached ↦ inr ((both b.kind c).1 reached)
  ];
  kinds = λ b values w among c h. (both b.kind c).1 (f.kinds b values w among c ((both w.kind c).0 h));
}

pub table_is_footprint : (p : Program) (table : List (List Bool)) → IsTable (spawns_in p) p.bodies 256 table
    → IsFootprint p (λ kind cown. IsTrue (reaches table kind cown))
table_is_footprint p table t =
    alike p (Reaches p) (λ kind cown. IsTrue (reaches table kind cown)) (table_exact p table t) (is_footprint p)

pub whole_table : (p : Program) (all : List Spawn) (bodies : List Body) (n : ℕ) (table : List (List Bool)) → bodies ≡ p.bodies
    → all ≡ spawned_by (length bodies) 0 bodies → n ≡ 256 → IsTable all bodies n table → IsTable (spawns_in p) p.bodies 256 table
whole_table p all bodies n table is made end t =
    let here : IsTable (spawned_by (length bodies) 0 bodies) bodies 256 table =
    subst (λ ss. IsTable ss bodies 256 table) made (subst (λ k. IsTable all bodies k table) end t) in
    subst (λ bs. IsTable (spawned_by (length bs) 0 bs) bs 256 table) is here
