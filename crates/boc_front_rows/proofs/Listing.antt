-- The lists of links.
use Rattle.std.proofs.Common.{◌≡◌, ◌⊎◌, ℕ, ℤ, int_eq, zero, suc, ◌+◌, ◌-◌, ◌<◌, ◌≤◌, Bool, true, false, inl, inr, List, [], ◌∷◌, ◌++◌, length, refl, sym, ◌∙◌, ap, subst, arith, length-append}
use Rattle.std.specs.Prelude.{slice_get, slice_index_or, nat_eq, ◌&&◌, if◌then◌else◌, Option, Some, None, SomeIff}
use Rattle.std.specs.Cmp.Lexicographic.{pointwise}
use Rattle.std.specs.List.{list_any}
use Rattle.std.proofs.lemmas.Bool.{eqb-true}
use Rattle.std.proofs.lemmas.Bool.Decides.{Decides-int_eq}
use Rattle.boc_program.proofs.ChangedItems.{item_at}
use Rattle.boc_machine_laws.proofs.Lists.{and_true, not_eq}
use Rattle.boc_front_rows.specs.Orders.{is_nil}
use Rattle.std.proofs.lemmas.List.{get_or_append_left}
use Rattle.boc_runs.specs.Serial.{Behaviour}
use Rattle.boc_front_rows.specs.declared.wish_lists.Link.{Link}
use Rattle.boc_front_rows.specs.declared.wish_lists.Wished.{Wished}
use Rattle.boc_front_rows.specs.Lists.{Adds, wished, list_at}
use Rattle.boc_front_rows.specs.ListsView.{listed}
use Rattle.boc_front_rows.proofs.Places.{read_pushed}

-- the list of a link, where these lists come before it
abbrev pub list_of : List (List Behaviour) → Link → List Behaviour
list_of lists link = wished link.first ∷ list_at lists link.rest

pub listed_more : (lists : List (List Behaviour)) (links : List Link) (link : Link)
    → listed lists (links ++ (link ∷ [])) ≡ listed lists links ++ (list_of (listed lists links) link ∷ [])
listed_more lists [] link = refl
listed_more lists (l ∷ links) link = listed_more (lists ++ (list_of lists l ∷ [])) links link

pub listed_length : (lists : List (List Behaviour)) (links : List Link) → length (listed lists links) ≡ length lists + length links
listed_length lists [] = omega arith
listed_length lists (l ∷ links) =
    omega (arith, listed_length (lists ++ (list_of lists l ∷ [])) links, length-append lists (list_of lists l ∷ []))

-- the lists that come first stay
pub listed_front : (lists : List (List Behaviour)) (links : List Link) (n : ℕ) → n < length lists
    → list_at (listed lists links) n ≡ list_at lists n
listed_front lists [] n low = refl
listed_front lists (l ∷ links) n low =
    listed_front (lists ++ (list_of lists l ∷ [])) links n (omega (arith, low, length-append lists (list_of lists l ∷ [])))
    ∙ get_or_append_left lists (list_of lists l ∷ []) [] n low

last_list : (lists : List (List Behaviour)) (x : List Behaviour) (n : ℕ) → n ≡ length lists → list_at (lists ++ (x ∷ [])) n ≡ x
last_list [] x n e = ap (λ k. list_at (x ∷ []) k) e
last_list (l ∷ lists) x zero e = absurd (omega (arith, e))
last_list (l ∷ lists) x (suc n) e = last_list lists x n (omega (arith, e))

-- the list of a link that names one before its own
pub listed_at : (lists : List (List Behaviour)) (links : List Link) (n at : ℕ) (link : Link) → slice_get links n ≡ Some link
    → at ≡ length lists + n → link.rest < at → list_at (listed lists links) at ≡ list_of (listed lists links) link
listed_at lists [] n at link e is low = absurd (let f : None ≡ Some link = e in cc)
listed_at lists (l ∷ links) zero at link e is low =
    let same : l ≡ link = (let f : Some l ≡ Some link = e in cc) in
    let x = list_of lists l in
    let more = length-append lists (x ∷ []) in
    let rest : l.rest < at = (let q : l.rest ≡ link.rest = ap (λ (z : Link). z.rest) same in omega (arith, q, low)) in
    listed_front (lists ++ (x ∷ [])) links at (omega (arith, is, more))
    ∙ last_list lists x at (omega (arith, is))
    ∙ ap (λ zs. wished l.first ∷ zs) (sym (listed_front (lists ++ (x ∷ [])) links l.rest (omega (arith, rest, is, more))
    ∙ get_or_append_left lists (x ∷ []) [] l.rest (omega (arith, rest, is))))
    ∙ ap (list_of (listed lists (l ∷ links))) same
listed_at lists (l ∷ links) (suc n) at link e is low =
    let x = list_of lists l in
    listed_at (lists ++ (x ∷ [])) links n at link e (omega (arith, is, length-append lists (x ∷ []))) low

-- ---- the lists of links after the empty one

abbrev pub all_lists : List Link → List (List Behaviour)
all_lists links = listed ([] ∷ []) links

abbrev pub Down : List Link → Type 0
Down links = (n : ℕ) (link : Link) → slice_get links n ≡ Some link → link.rest ≤ n

pub many_lists : (links : List Link) → length (all_lists links) ≡ 1 + length links
many_lists links = listed_length ([] ∷ []) links

pub first_empty : (links : List Link) → list_at (all_lists links) 0 ≡ []
first_empty links = listed_front ([] ∷ []) links 0 (omega arith)

-- the list of the link at a place
pub list_is : (links : List Link) → Down links → (n : ℕ) (link : Link) → slice_get links n ≡ Some link
    → list_at (all_lists links) (n + 1) ≡ wished link.first ∷ list_at (all_lists links) link.rest
list_is links down n link is = listed_at ([] ∷ []) links n (n + 1) link is (omega arith) (omega (arith, down n link is))

pub nil_is : (links : List Link) → Down links → (n : ℕ) → n < length (all_lists links) → nat_eq n 0 ≡ is_nil (list_at (all_lists links) n)
nil_is links down zero low = ap is_nil (sym (first_empty links))
nil_is links down (suc n) low =
    let link = item_at links n (omega (arith, low, many_lists links)) in
    let one : n + 1 ≡ suc n = omega arith in
    not_eq (suc n) 0 (λ e. omega (arith, e))
    ∙ ap is_nil (sym (list_is links down n link.0 link.1) ∙ ap (list_at (all_lists links)) one)

-- a link more
pub down_more : (links : List Link) (link : Link) → Down links → link.rest ≤ length links → Down (links ++ (link ∷ []))
down_more links link down low n l is =
    elim (read_pushed links link n l is) [
      | inl old ↦ down n l old.1
      | inr new ↦ (let e : link.rest ≡ l.rest = ap (λ (z : Link). z.rest) new.1 in omega (arith, e, new.0, low))
    ]

pub lists_more : (links : List Link) (link : Link)
    → all_lists (links ++ (link ∷ [])) ≡ all_lists links ++ ((wished link.first ∷ list_at (all_lists links) link.rest) ∷ [])
lists_more links link = listed_more ([] ∷ []) links link

-- the links with one that was put among them
by_insert : (b : Bool) (links new : List Link) (link : Link) → Down links → link.rest ≤ length links
    → new ≡ (if b then links else links ++ (link ∷ [])) → Down new
by_insert true links new link down low e = subst Down (sym e) down
by_insert false links new link down low e = subst Down (sym e) (down_more links link down low)

pub down_inserted : (eq : Link → Link → Bool) (links new : List Link) (link : Link) → Down links → link.rest ≤ length links
    → new ≡ (if list_any (eq link) links then links else links ++ (link ∷ [])) → Down new
down_inserted eq links new link down low e = by_insert (list_any (eq link) links) links new link down low e

adds_by : (b : Bool) (links new : List Link) (link : Link) → new ≡ (if b then links else links ++ (link ∷ []))
    → Adds (wished link.first ∷ list_at (all_lists links) link.rest) (all_lists links) (all_lists new)
adds_by true links new link e = inl (ap all_lists e)
adds_by false links new link e = inr (ap all_lists e ∙ lists_more links link)

pub adds_inserted : (eq : Link → Link → Bool) (links new : List Link) (link : Link)
    → new ≡ (if list_any (eq link) links then links else links ++ (link ∷ []))
    → Adds (wished link.first ∷ list_at (all_lists links) link.rest) (all_lists links) (all_lists new)
adds_inserted eq links new link e = adds_by (list_any (eq link) links) links new link e

pub list_stays : (x : List Behaviour) (old new : List (List Behaviour)) (n : ℕ) → Adds x old new → n < length old → list_at new n ≡ list_at old n
list_stays x old new n (inl e) low = ap (λ ls. list_at ls n) e
list_stays x old new n (inr e) low = ap (λ ls. list_at ls n) e ∙ get_or_append_left old (x ∷ []) [] n low

-- ---- links that are equal

-- lists whose items are equal one by one
pub pointwise_same : {A : Type 0} (eq : A → A → Bool) → ((x y : A) → eq x y ≡ true → x ≡ y) → (xs ys : List A) → pointwise eq xs ys ≡ true → xs ≡ ys
pointwise_same eq same [] [] e = refl
pointwise_same eq same [] (y ∷ ys) e = absurd (let f : false ≡ true = e in cc)
pointwise_same eq same (x ∷ xs) [] e = absurd (let f : false ≡ true = e in cc)
pointwise_same eq same (x ∷ xs) (y ∷ ys) e =
    let both = and_true (eq x y) (pointwise eq xs ys) e in
    λ i. same x y both.0 i ∷ pointwise_same eq same xs ys both.1 i

pub same_numbers : (xs ys : List ℕ) → pointwise nat_eq xs ys ≡ true → xs ≡ ys
same_numbers xs ys e = pointwise_same nat_eq eqb-true xs ys e

pub same_values : (xs ys : List ℤ) → pointwise int_eq xs ys ≡ true → xs ≡ ys
same_values xs ys e = pointwise_same int_eq (λ x y h. (Decides-int_eq x y).0 h) xs ys e

abbrev wished_eq : Wished → Wished → Bool
wished_eq a b = nat_eq a.kind b.kind && (pointwise int_eq a.args.items b.args.items && pointwise nat_eq a.cowns.items b.cowns.items)

abbrev pub link_eq : Link → Link → Bool
link_eq a b = wished_eq a.first b.first && nat_eq a.rest b.rest

pub link_same : (a b : Link) → link_eq a b ≡ true → (wished a.first ≡ wished b.first) × (a.rest ≡ b.rest)
link_same a b e =
    let both = and_true (wished_eq a.first b.first) (nat_eq a.rest b.rest) e in
    let parts = and_true (nat_eq a.first.kind b.first.kind)
    (pointwise int_eq a.first.args.items b.first.args.items && pointwise nat_eq a.first.cowns.items b.first.cowns.items) both.0 in
    let lists = and_true (pointwise int_eq a.first.args.items b.first.args.items) (pointwise nat_eq a.first.cowns.items b.first.cowns.items) parts.1 in
    let kinds = eqb-true a.first.kind b.first.kind parts.0 in
    let args = same_values a.first.args.items b.first.args.items lists.0 in
    let cowns = same_numbers a.first.cowns.items b.first.cowns.items lists.1 in (
      ap (λ k. let w : Behaviour = record { kind = k; args = a.first.args.items; cowns = a.first.cowns.items } in w) kinds
          ∙ ap (λ xs. let w : Behaviour = record { kind = b.first.kind; args = xs; cowns = a.first.cowns.items } in w) args
          ∙ ap (λ xs. let w : Behaviour = record { kind = b.first.kind; args = b.first.args.items; cowns = xs } in w) cowns,
      eqb-true a.rest b.rest both.1,
    )

-- no link is before the first
pub none_before : (o : Option ℕ) (n v : ℕ) → o ≡ None → SomeIff o (1 ≤ n) v → n ≡ 0
none_before None zero v e h = refl
none_before None (suc n) v e h = absurd (h (omega arith))
none_before (Some x) n v e h = absurd (let f : Some x ≡ None = e in cc)

pub some_before : (o : Option ℕ) (n x : ℕ) → o ≡ Some x → SomeIff o (1 ≤ n) (n - 1) → x + 1 ≡ n
some_before None n x e h = absurd (let f : None ≡ Some x = e in cc)
some_before (Some y) n x e h = (let f : Some y ≡ Some x = e in let g : y ≡ x = cc in omega (arith, g, h.0, h.1))
