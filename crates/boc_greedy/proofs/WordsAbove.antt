-- Words of bits, and the bits above them that say which words are not 0.
use Rattle.std.proofs.Common.{◌≡◌, ◌≢◌, ℕ, zero, suc, ◌+◌, ◌*◌, ◌/◌, ◌%◌, ◌^◌, ◌<◌, ◌≤◌, ◌⊎◌, List, length, get_or, sym, ◌∙◌, ap, subst, inl, inr, arith}
use Rattle.std.proofs.Common.{get_or-set_same, get_or-set_other, w64, refl, replicate}
use Rattle.std.specs.Prelude.{slice_index, slice_set, ◌↔◌}
use Rattle.std.specs.Int.{bit_at, trailing_zeros}
use Rattle.std.proofs.lemmas.Bool.{cases_eq, cases_lt}
use Rattle.std.proofs.lemmas.List.{get_or_past, get_or_default, length-replicate}
use Rattle.std.proofs.lemmas.Nat.Bits.{bit_at-zero, bit_at-trailing_zeros}
use Rattle.boc_greedy.specs.declared.row_set.RowSet.{RowSet}
use Rattle.boc_greedy.specs.RowSets.{IsSet, Has, IsRowSet}

-- a word with a bit is not 0
pub not_zero : (word i : ℕ) → bit_at word i ≡ 1 → 0 < word
not_zero word i is = elim (cases_eq word 0) [
  | inl e ↦ absurd (let none : bit_at word i ≡ 0 = ap (λ (x : ℕ). bit_at x i) e ∙ bit_at-zero i in omega arith)
  | inr n ↦ omega arith
]

-- a word that is not 0 is one of the words
pub within : (words : List ℕ) (w : ℕ) → 0 < slice_index words w → w < length words
within words w more = elim (cases_lt w (length words)) [
  | inl l ↦ l
  | inr past ↦ absurd (let none : slice_index words w ≡ 0 = get_or_past words w 0 past in omega arith)
]

-- where one word is put, the bits of the others stay, and so do those of its own that it keeps
pub elsewhere : (words : List ℕ) (k bit word i : ℕ) → k < length words → bit < 64 → ((j : ℕ) → j ≢ bit → bit_at word j ≡ bit_at (slice_index words k) j) →
    i ≢ 64 * k + bit → IsSet (slice_set words k word) i ↔ IsSet words i
elsewhere words k bit word i there small others n = elim (cases_eq (i / 64) k) [
  | inl e ↦
      let at : slice_index (slice_set words k word) (i / 64) ≡ word = rw e (get_or-set_same words k word 0 there) in
      let same : bit_at (slice_index (slice_set words k word) (i / 64)) (i % 64) ≡ bit_at (slice_index words (i / 64)) (i % 64) =
      ap (λ (x : ℕ). bit_at x (i % 64)) at ∙ others (i % 64) (λ f. n (omega arith)) ∙ ap (λ (x : ℕ). bit_at (slice_index words x) (i % 64)) (sym e) in
      ((λ h. sym same ∙ h), (λ h. same ∙ h))
  | inr m ↦
      let same : bit_at (slice_index (slice_set words k word) (i / 64)) (i % 64) ≡ bit_at (slice_index words (i / 64)) (i % 64) =
      ap (λ (x : ℕ). bit_at x (i % 64)) (get_or-set_other words k (i / 64) word 0 m) in
      ((λ h. sym same ∙ h), (λ h. same ∙ h))
]

-- and its own bit is what it is in the word that was put
pub here : (words : List ℕ) (k bit word i b : ℕ) → k < length words → bit < 64 → bit_at word bit ≡ b → i ≡ 64 * k + bit →
    bit_at (slice_index (slice_set words k word) (i / 64)) (i % 64) ≡ b
here words k bit word i b there small is e =
    let a : i / 64 ≡ k = omega arith in
    let c : i % 64 ≡ bit = omega arith in
    rw (a, c) (rw (get_or-set_same words k word 0 there) is)

-- a bit is set, and the others stay
pub set_bit : (words : List ℕ) (n k bit word : ℕ) → k < length words → bit < 64 → n ≡ 64 * k + bit → bit_at word bit ≡ 1 →
    ((j : ℕ) → j ≢ bit → bit_at word j ≡ bit_at (slice_index words k) j) →
    (i : ℕ) → IsSet (slice_set words k word) i ↔ (IsSet words i ⊎ (i ≡ n))
set_bit words n k bit word there small at is others i = elim (cases_eq i n) [
  | inl e ↦ ((λ _. inr e), (λ _. here words k bit word i 1 there small is (e ∙ at)))
  | inr m ↦
      let same = elsewhere words k bit word i there small others (λ f. m (f ∙ sym at)) in
      ((λ h. inl (same.0 h)), (λ h. elim h [ inl was ↦ same.1 was | inr e ↦ absurd (m e) ]))
]

-- a bit is cleared, and the others stay
pub clear_bit : (words : List ℕ) (n k bit word : ℕ) → k < length words → bit < 64 → n ≡ 64 * k + bit → bit_at word bit ≡ 0 →
    ((j : ℕ) → j ≢ bit → bit_at word j ≡ bit_at (slice_index words k) j) →
    (i : ℕ) → IsSet (slice_set words k word) i ↔ (IsSet words i × (i ≢ n))
clear_bit words n k bit word there small at is others i = elim (cases_eq i n) [
  | inl e ↦
      let none = here words k bit word i 0 there small is (e ∙ at) in
      ((λ h. absurd (omega (arith, none, h))), (λ h. absurd (h.1 e)))
  | inr m ↦
      let same = elsewhere words k bit word i there small others (λ f. m (f ∙ sym at)) in
      ((λ h. (same.0 h, m)), (λ h. same.1 h.0))
]

-- the bits above the words still say which words are not 0, as one word and its bit above change
pub marked : (Was Is : ℕ → Type 0) (words : List ℕ) (k word : ℕ) → k < length words → ((w : ℕ) → Was w ↔ 0 < slice_index words w) →
    ((w : ℕ) → w ≢ k → Is w ↔ Was w) → (Is k ↔ 0 < word) → (w : ℕ) → Is w ↔ 0 < slice_index (slice_set words k word) w
marked Was Is words k word there marks others own w = elim (cases_eq w k) [
  | inl e ↦ rw e (rw (get_or-set_same words k word 0 there) own)
  | inr n ↦
      let same = get_or-set_other words k w word 0 n in
      ((λ h. rw same ((marks w).0 ((others w n).0 h))), (λ h. (others w n).1 ((marks w).1 (rw same at h))))
]

-- a word that is not 0 has a lowest bit, and no bit of the words comes before it where no word before it has one
pub lowest : (words : List ℕ) (k word bit : ℕ) → word ≡ slice_index words k → 0 < word → word < 2 ^ 64 → bit ≡ trailing_zeros w64 word →
    ((i : ℕ) → IsSet words i → k ≤ i / 64) → (bit < 64) × (IsSet words (64 * k + bit)) × ((i : ℕ) → IsSet words i → 64 * k + bit ≤ i)
lowest words k word bit is more fits e first =
    let low = bit_at-trailing_zeros w64 word more fits in
    let small : bit < 64 = omega (arith, low.0) in
    let a : (64 * k + bit) / 64 ≡ k = omega arith in
    let b : (64 * k + bit) % 64 ≡ bit = omega arith in (
      small,
      rw (a, b) (rw (sym is, e) low.1),
      λ i has. elim (cases_lt i (64 * k + bit)) [
        | inl less ↦
            let same : i / 64 ≡ k = omega (arith, first i has) in
            let none : bit_at word (i % 64) ≡ 0 = low.2 (i % 64) (omega arith) in
            let one : bit_at word (i % 64) ≡ 1 = rw is (subst (λ (x : ℕ). bit_at (slice_index words x) (i % 64) ≡ 1) same has) in
            absurd (omega arith)
        | inr l ↦ l
      ],
    )

-- each of so many zeros is 0
pub zero_at : (n r : ℕ) → slice_index (replicate n 0) r ≡ 0
zero_at zero r = refl
zero_at (suc n) zero = refl
zero_at (suc n) (suc r) = zero_at n r

-- no bit of zeros is set
pub no_bits : (n i : ℕ) → IsSet (replicate n 0) i → ⊥
no_bits n i is = let none : bit_at (slice_index (replicate n 0) (i / 64)) (i % 64) ≡ 0 =
    ap (λ (x : ℕ). bit_at x (i % 64)) (zero_at n (i / 64)) ∙ bit_at-zero (i % 64) in omega arith

-- zeros are a set
pub empty_set : (s : RowSet) → s.rows.items ≡ replicate 1024 0 → s.words ≡ replicate 16 0 → s.top ≡ 0 → IsRowSet s
empty_set s rows words top = record {
  rows_room = rw rows (length-replicate {A = ℕ} 1024 0);
  words_room = rw words (length-replicate {A = ℕ} 16 0);
  words = λ w. rw (rows, words) ((λ h. absurd (no_bits 16 w h)), (λ l. absurd (omega (arith, zero_at 1024 w))));
  top = λ w. rw (words, top) ((λ h. absurd (omega (arith, bit_at-zero w))), (λ l. absurd (omega (arith, zero_at 16 w))));
}

-- where two words have the same bit, both have it set or neither
pub same_bit : (was is i : ℕ) → bit_at is i ≡ bit_at was i → (bit_at is i ≡ 1) ↔ (bit_at was i ≡ 1)
same_bit was is i same = ((λ h. sym same ∙ h), (λ h. same ∙ h))

-- the least row of a set, found from the top down
module _ (s : RowSet) (is : IsRowSet s) where
  -- the first word of the upper level that is not 0
  pub least_group : 0 < s.top → s.top < 2 ^ 64 → let group : ℕ = trailing_zeros w64 s.top in
      (group < 16) × (0 < slice_index s.words group) × ((i : ℕ) → IsSet s.words i → group ≤ i / 64)
  least_group more fits =
      let low = bit_at-trailing_zeros w64 s.top more fits in
      let full = (is.top (trailing_zeros w64 s.top)).0 low.1 in (
        omega (arith, within s.words (trailing_zeros w64 s.top) full, is.words_room),
        full,
        λ i has. elim (cases_lt (i / 64) (trailing_zeros w64 s.top)) [
          | inl less ↦ absurd (let none = low.2 (i / 64) less in let one = (is.top (i / 64)).1 (not_zero (slice_index s.words (i / 64)) (i % 64) has) in
              omega arith)
          | inr l ↦ l
        ],
      )

  -- the first word of the lower level that is not 0
  pub least_word : (more : 0 < s.top) → (fits : s.top < 2 ^ 64) → slice_index s.words (trailing_zeros w64 s.top) < 2 ^ 64 →
      let group : ℕ = trailing_zeros w64 s.top in let word : ℕ = 64 * group + trailing_zeros w64 (slice_index s.words group) in
      (word < 1024) × (0 < slice_index s.rows.items word) × ((i : ℕ) → IsSet s.rows.items i → word ≤ i / 64)
  least_word more fits small =
      let group : ℕ = trailing_zeros w64 s.top in
      let above = least_group more fits in
      let low = lowest s.words group (slice_index s.words group) (trailing_zeros w64 (slice_index s.words group)) refl above.1 small refl above.2 in
      let full = (is.words (64 * group + trailing_zeros w64 (slice_index s.words group))).0 low.1 in (
        omega (arith, within s.rows.items (64 * group + trailing_zeros w64 (slice_index s.words group)) full, is.rows_room),
        full,
        λ i has. low.2 (i / 64) ((is.words (i / 64)).1 (not_zero (slice_index s.rows.items (i / 64)) (i % 64) has)),
      )

  -- and the first row, where the word of rows was read
  pub least_row : (more : 0 < s.top) → (fits : s.top < 2 ^ 64) → (small : slice_index s.words (trailing_zeros w64 s.top) < 2 ^ 64) →
      let word : ℕ = 64 * trailing_zeros w64 s.top + trailing_zeros w64 (slice_index s.words (trailing_zeros w64 s.top)) in
      (x : ℕ) → x ≡ get_or s.rows.items word x → x < 2 ^ 64 → let row : ℕ = 64 * word + trailing_zeros w64 x in
      (row < 65536) × Has s row × ((r : ℕ) → Has s r → row ≤ r)
  least_row more fits small x read x_fits =
      let word : ℕ = 64 * trailing_zeros w64 s.top + trailing_zeros w64 (slice_index s.words (trailing_zeros w64 s.top)) in
      let w = least_word more fits small in
      let is_word : x ≡ slice_index s.rows.items word = read ∙ get_or_default s.rows.items word x 0 (omega (arith, w.0, is.rows_room)) in
      let low = lowest s.rows.items word x (trailing_zeros w64 x) is_word (omega (arith, w.1, is_word)) x_fits refl w.2 in
      (omega (arith, w.0, low.0), low.1, low.2)

-- the bits above a row's word, and above the word of those, as the row comes out
module _ (s : RowSet) (row : ℕ) (is : IsRowSet s) (small : row < 65536) where
  abbrev word : ℕ
  word = row / 64

  abbrev group : ℕ
  group = word / 64

  there : word < length s.rows.items
  there = omega (arith, small, is.rows_room)

  above : group < length s.words
  above = omega (arith, small, is.words_room)

  word_full : Has s row → 0 < slice_index s.rows.items word
  word_full has = not_zero (slice_index s.rows.items word) (row % 64) has

  group_full : Has s row → 0 < slice_index s.words group
  group_full has = not_zero (slice_index s.words group) (word % 64) ((is.words word).1 (word_full has))

  -- the word is still not 0, as it is read again, or has become 0
  pub words_stay : (v x : ℕ) → x ≡ get_or (slice_set s.rows.items word v) word x → Has s row → x ≢ 0 → (w : ℕ)
      → IsSet s.words w ↔ 0 < slice_index (slice_set s.rows.items word v) w
  words_stay v x read has more = marked (IsSet s.words) (IsSet s.words) s.rows.items word v there is.words (λ w n. ((λ h. h), (λ h. h)))
      ((λ _. omega (arith, read ∙ get_or-set_same s.rows.items word v x there)), (λ _. (is.words word).1 (word_full has)))

  pub words_clear : (v x u : ℕ) → x ≡ get_or (slice_set s.rows.items word v) word x → x ≡ 0 → bit_at u (word % 64) ≡ 0 →
      ((j : ℕ) → j ≢ word % 64 → bit_at u j ≡ bit_at (slice_index s.words group) j) → (w : ℕ)
      → IsSet (slice_set s.words group u) w ↔ 0 < slice_index (slice_set s.rows.items word v) w
  words_clear v x u read none cleared others =
      let gone = clear_bit s.words word group (word % 64) u above (omega arith) (omega arith) cleared others in
      marked (IsSet s.words) (IsSet (slice_set s.words group u)) s.rows.items word v there is.words
      (λ w n. elsewhere s.words group (word % 64) u w above (omega arith) others (λ e. n (omega arith)))
      ((λ h. absurd (((gone word).0 h).1 refl)), (λ l. absurd (omega (arith, read ∙ get_or-set_same s.rows.items word v x there))))

  -- the word of those bits is still not 0, or has become 0 as well
  pub top_stays : (u : ℕ) → Has s row → slice_index (slice_set s.words group u) group ≢ 0 → (w : ℕ)
      → (bit_at s.top w ≡ 1) ↔ 0 < slice_index (slice_set s.words group u) w
  top_stays u has more = marked (λ w. bit_at s.top w ≡ 1) (λ w. bit_at s.top w ≡ 1) s.words group u above is.top (λ w n. ((λ h. h), (λ h. h)))
      ((λ _. omega (arith, get_or-set_same s.words group u 0 above)), (λ _. (is.top group).1 (group_full has)))

  pub top_clears : (u t : ℕ) → slice_index (slice_set s.words group u) group ≡ 0 → bit_at t group ≡ 0 → ((j : ℕ) → j ≢ group → bit_at t j ≡ bit_at s.top j) →
      (w : ℕ) → (bit_at t w ≡ 1) ↔ 0 < slice_index (slice_set s.words group u) w
  top_clears u t none cleared others = marked (λ w. bit_at s.top w ≡ 1) (λ w. bit_at t w ≡ 1) s.words group u above is.top
      (λ w n. same_bit s.top t w (others w n))
      ((λ h. absurd (omega arith)), (λ l. absurd (omega (arith, get_or-set_same s.words group u 0 above))))
