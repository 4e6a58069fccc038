-- A text of fields has one reading, where numbers have up to 18 digits.
use Rattle.std.proofs.Common.{zero, suc, ◌*◌, ◌-◌, ◌%◌, ◌^◌, get_or, length, take, drop, append_assoc, ◌≡◌, ℕ, ◌+◌, ◌≤◌, ◌<◌, ◌∷◌, List, [], ◌++◌, true, false}
use Rattle.std.proofs.Common.{refl, sym, ap, ◌∙◌, subst, arith, inl, inr, lit<}
use Rattle.std.specs.Prelude.{decimal, fold, Bool, nat_eq, if◌then◌else◌}
use Rattle.std.proofs.lemmas.Bool.Decides.{nat_tests}
use Rattle.std.proofs.lemmas.Bool.{cases_order}
use Rattle.std.proofs.lemmas.List.{take-append-drop, append-nil, length-append, length-take, length-drop, take_all, get_or-take, get_or_append_left}
use Rattle.std.proofs.lemmas.List.{get_or-append_right}
use Rattle.std.specs.Str.Parse.{AllDigits, digits_value}
use Rattle.std.specs.Int.{IsInRange}
use Rattle.std.proofs.lemmas.Str.Parse.{IsNumeralModel, FoldsDigits, numerals_by_fold, numerals_by_value, tells_digits, tells_by_index, digit_at}
use Rattle.std.proofs.lemmas.Str.Parse.{digits_value_short}
use Rattle.std.proofs.lemmas.Fmt.{decimal_by_steps, decimal_injective, length-decimal-le, decimal_digit, decimal_nonempty, first_decimal, digits_decimal}
use Rattle.std.proofs.lemmas.Fmt.{digits_value-decimal, decimal-digits_value}
use Rattle.std.proofs.Math.Seq.{take-append_seam, drop-append_seam}
use Rattle.std.specs.List.{AllByRecursion}
use Rattle.boc_record.specs.RecordTexts.{field, fields}
use Rattle.boc_record.specs.Fields.{IsApart}
use Rattle.boc_record.proofs.Runs.{one_split, decimal_in_field, fields_apart, value_of, AreDigits, worth_below, whole_tail, nothing_left, apart_first, first_apart, fields_more}
use Rattle.boc_stream.specs.StreamFields.{IsShortField, IsShortFront, AreShort, IsOfShorts}

wide : (n : ℕ) → n < 10 ^ 18 → n < 2 ^ 64
wide n h = omega (arith, h)

-- the field at the front of a text is one
pub one_field : (text rest others : List ℕ) (n m : ℕ) → IsShortField text n rest → IsShortField text m others → (n ≡ m) × (rest ≡ others)
one_field text rest others n m f g =
    let e : decimal n ++ rest ≡ decimal m ++ others = ap (drop 1) (sym f.is ∙ g.is) in
    let s = one_split (decimal n) (decimal m) rest others (decimal_in_field n (wide n f.small)) (decimal_in_field m (wide m g.small)) f.apart g.apart e in
    (decimal_injective n m (wide n f.small) (wide m g.small) s.0, s.1)

-- the first of the numbers, and the others
pub small_first : (n : ℕ) (ns : List ℕ) → AreShort (n ∷ ns) → n < 10 ^ 18
small_first n ns small = small 0 0 (omega arith)

pub small_rest : (n : ℕ) (ns : List ℕ) → AreShort (n ∷ ns) → AreShort ns
small_rest n ns small = λ k d h. small (suc k) d (omega (arith, h))

-- the text of numbers begins with the field of the first
pub first_field : (n : ℕ) (ns : List ℕ) → AreShort (n ∷ ns) → IsShortField (fields (n ∷ ns)) n (fields ns)
first_field n ns small = record { small = small_first n ns small; is = refl; apart = fields_apart ns }

apart_front : (done rest : List ℕ) → IsApart rest → IsApart (fields done ++ rest)
apart_front [] rest a = a
apart_front (n ∷ done) rest a = refl

-- fields that were read are the first of all
pub front_fields : (done : List ℕ) (rest : List ℕ) (all : List ℕ) → AreShort done → AreShort all → IsApart rest → fields done ++ rest ≡ fields all
    → (more : List ℕ) × (all ≡ done ++ more) × (rest ≡ fields more) × AreShort more
front_fields [] rest all p q a e = (all, refl, e, q)
front_fields (n ∷ done) rest [] p q a e = absurd (omega (arith, ap length e))
front_fields (n ∷ done) rest (m ∷ all) p q a e =
    let here : IsShortField (fields (m ∷ all)) n (fields done ++ rest) = record {
      small = small_first n done p;
      is = sym e ∙ append_assoc (field n) (fields done) rest;
      apart = apart_front done rest a;
    } in
    let same = one_field (fields (m ∷ all)) (fields done ++ rest) (fields all) n m here (first_field m all q) in
    let more = front_fields done rest all (small_rest n done p) (small_rest m all q) a same.1 in
    (more.0, ap (λ x. x ∷ all) (sym same.0) ∙ ap (λ xs. n ∷ xs) more.1, more.2, more.3)

folds : FoldsDigits (λ n ds. fold (λ v d. 10 * v + (d - 48)) n ds)
folds = record { empty = λ n. refl; more = λ n c cs h. ap (λ v. fold (λ v d. 10 * v + (d - 48)) (v + (c - 48)) cs) (omega arith) }

own : IsNumeralModel AreDigits value_of
own = numerals_by_fold AreDigits tells_by_index (λ n ds. fold (λ v d. 10 * v + (d - 48)) n ds) folds

taken_digits : (text : List ℕ) (i : ℕ) → i ≤ length text → ((k : ℕ) → k < i → IsInRange 48 57 (get_or text k 0)) → AreDigits (take i text)
taken_digits text i within digits k less =
    let below : k < i = omega (arith, less, length-take i text) in
    subst (IsInRange 48 57) (sym (get_or-take i text k 0 below)) (digits k below)

-- digits that were read so far stand at the front
pub front_so_far : (text : List ℕ) (i value : ℕ) → i ≤ length text → i ≤ 18 → value ≡ value_of (take i text)
    → ((k : ℕ) → k < i → IsInRange 48 57 (get_or text k 0))
    → (i < 18 → i < length text → ¬ (IsInRange 48 57 (get_or text i 0))) → IsShortFront text i value
front_so_far text i value within few is digits ends =
    let all : AllDigits 10 (take i text) = own.to (take i text) (taken_digits text i within digits) in record {
      within = within;
      few = few;
      digits = all;
      worth = sym (own.same (take i text) all) ∙ sym is;
      ends = ends;
    }

pub few_worth : (text : List ℕ) (i value : ℕ) → i ≤ length text → i < 18 → value ≡ value_of (take i text)
    → ((k : ℕ) → k < i → IsInRange 48 57 (get_or text k 0)) → value < 10 ^ 17
few_worth text i value within few is digits = worth_below 17 text i value within (omega (arith, few)) is digits

-- a text that is apart begins with no digit
apart_no_digit : (rest : List ℕ) → IsApart rest → 0 < length rest → IsInRange 48 57 (get_or rest 0 0) → ⊥
apart_no_digit [] a some h = omega (arith, some)
apart_no_digit (b ∷ rest) a some h = grind (arith, nat_tests)

-- digits stand at the front of a text that begins with a number, up to the number's end
pub same_front : (text rest : List ℕ) (len value n : ℕ) → IsShortFront text len value → n < 10 ^ 18 → text ≡ decimal n ++ rest → IsApart rest
    → (len ≡ length (decimal n)) × (value ≡ n) × (drop len text ≡ rest)
same_front text rest len value n f small e apart =
    let k = length (decimal n) in
    let few : k ≤ 18 = length-decimal-le 18 n (omega arith) (omega (arith, small)) (wide n small) in
    let total : length text ≡ k + length rest = ap length e ∙ length-append (decimal n) rest in
    let own = numerals_by_value (AllDigits 10) tells_digits in
    elim (cases_order len k) [
      | inl same ↦
          let front : take len text ≡ decimal n = ap (λ m. take m text) same ∙ ap (take k) e ∙ take-append_seam (decimal n) rest in (
            same,
            sym f.worth ∙ ap (digits_value 10) front ∙ digits_value-decimal own n (wide n small),
            ap (λ m. drop m text) same ∙ ap (drop k) e
                ∙ drop-append_seam (decimal n) rest,
          )
      | inr other ↦ elim other [
        | inl less ↦
            let digit = digit_at (decimal n) len (digits_decimal own n (wide n small)) less in
            let at : get_or text len 0 ≡ get_or (decimal n) len 0 = ap (λ t. get_or t len 0) e ∙ get_or_append_left (decimal n) rest 0 len less in
            absurd (f.ends (omega (arith, few, less)) (omega (arith, total, less)) (subst (IsInRange 48 57) (sym at) digit))
        | inr more ↦
            let long : k < length (take len text) = omega (arith, more, f.within, length-take len text) in
            let digit = digit_at (take len text) k f.digits long in
            let at : get_or (take len text) k 0 ≡ get_or rest 0 0 =
            get_or-take len text k 0 more ∙ ap (λ t. get_or t k 0) e ∙ get_or-append_right (decimal n) rest k k 0 refl (omega arith)
            ∙ ap (λ m. get_or rest m 0) (omega arith) in
            let some : 0 < length rest = omega (arith, total, more, f.within) in
            absurd (apart_no_digit rest apart some (subst (IsInRange 48 57) at digit))
      ]
    ]

-- there is no field where those digits are no number, or something stands right behind them
pub no_field : (text after : List ℕ) (len value : ℕ) → text ≡ 32 ∷ after → IsShortFront after len value
    → ((n : ℕ) → n < 10 ^ 18 → take len after ≡ decimal n → value ≡ n → IsApart (drop len after) → ⊥)
    → (n : ℕ) (rest : List ℕ) → IsShortField text n rest → ⊥
no_field text after len value e f none n rest field =
    let is : after ≡ decimal n ++ rest = ap (drop 1) (sym e ∙ field.is) in
    let s = same_front after rest len value n f field.small is field.apart in
    none n field.small (ap (λ m. take m after) s.0 ∙ ap (take (length (decimal n))) is ∙ take-append_seam (decimal n) rest) s.1
    (subst IsApart (sym s.2) field.apart)

-- digits at the front of a text that are those of their number
pub front_decimal : (after : List ℕ) (len value : ℕ) → IsShortFront after len value → 0 < len → (get_or after 0 0 ≡ 48 → len ≡ 1) → value < 10 ^ 18
    → take len after ≡ decimal value
front_decimal after len value f some lead small =
    let own = numerals_by_value (AllDigits 10) tells_digits in
    let long : length (take len after) ≡ len = omega (arith, length-take len after, f.within) in
    let first : get_or (take len after) 0 0 ≡ get_or after 0 0 = get_or-take len after 0 0 some in
    let fits : digits_value 10 (take len after) < 2 ^ 64 = omega (arith, f.worth, small) in
    sym (decimal-digits_value own (take len after) f.digits (omega (arith, long, some)) (λ z. long ∙ lead (sym first ∙ z)) fits) ∙ ap decimal f.worth

-- they are worth no more than 18 digits are
pub front_short : (after : List ℕ) (len value : ℕ) → IsShortFront after len value → value < 10 ^ 18
front_short after len value f =
    let model = numerals_by_value (AllDigits 10) tells_digits in
    subst (λ v. v < 10 ^ 18) f.worth (digits_value_short model (take len after) 18 f.digits (omega (arith, length-take len after, f.few)))

-- the field at the front of a text that begins with a space and digits
pub is_field : (text after : List ℕ) (len value : ℕ) → text ≡ 32 ∷ after → IsShortFront after len value → 0 < len → (get_or after 0 0 ≡ 48 → len ≡ 1)
    → IsApart (drop len after) → value < 10 ^ 18 → IsShortField text value (drop len after)
is_field text after len value e f some lead apart small = record {
  small = small;
  is = e ∙ ap (λ xs. 32 ∷ xs) (sym (take-append-drop len after) ∙ ap (λ xs. xs ++ drop len after) (front_decimal after len value f some lead small));
  apart = apart;
}

-- what the front of a text has where it is a number
pub front_leads : (after : List ℕ) (len n : ℕ) → len ≤ length after → n < 10 ^ 18 → take len after ≡ decimal n → (0 < len) × (get_or after 0 0 ≡ 48 → len ≡ 1)
front_leads after len zero within small t =
    let one : len ≡ 1 = omega (arith, length-take len after, within, ap length (t ∙ decimal_digit 0 (lit< tt))) in
    (omega (arith, one), λ z. one)
front_leads after len (suc n) within small t =
    let long : length (take len after) ≡ len = omega (arith, length-take len after, within) in
    let some : 0 < len = omega (arith, long, ap length t, decimal_nonempty (suc n) (wide (suc n) small)) in
    let first : get_or after 0 0 ≡ get_or (decimal (suc n)) 0 0 = sym (get_or-take len after 0 0 some) ∙ ap (λ l. get_or l 0 0) t in
    (some, λ z. absurd (omega (arith, z, first, first_decimal (suc n) (omega arith) (wide (suc n) small))))

apart_of : (done rest all : List ℕ) → (0 < length done → IsApart rest) → fields done ++ rest ≡ fields all → IsApart rest
apart_of [] rest all h e = subst IsApart (sym e) (fields_apart all)
apart_of (n ∷ done) rest all h e = h (omega arith)

-- numbers that were read are the first of those that the text is made of
split_numbers : (text done rest all : List ℕ) → text ≡ fields done ++ rest → AreShort done → (0 < length done → IsApart rest) → AreShort all → text ≡ fields all
    → (more : List ℕ) × (all ≡ done ++ more) × (rest ≡ fields more) × AreShort more
split_numbers text done rest all e small apart small_all is =
    front_fields done rest all small small_all (apart_of done rest all apart (sym e ∙ is)) (sym e ∙ is)

field_of : (rest : List ℕ) (more : List ℕ) → 0 < length rest → rest ≡ fields more → AreShort more
    → (n : ℕ) × (left : List ℕ) × IsShortField rest n left × (0 < length more)
field_of rest [] h e small = absurd (omega (arith, h, ap length e))
field_of rest (n ∷ more) h e small = (n, fields more, subst (λ t. IsShortField t n (fields more)) (sym e) (first_field n more small), omega arith)

-- where no field follows, the text is not made of fields
pub no_numbers : (text done rest : List ℕ) → text ≡ fields done ++ rest → AreShort done → (0 < length done → IsApart rest) → 0 < length rest
    → ((n : ℕ) (left : List ℕ) → IsShortField rest n left → ⊥) → (all : List ℕ) → AreShort all → text ≡ fields all → ⊥
no_numbers text done rest e small apart more none all small_all is =
    let s = split_numbers text done rest all e small apart small_all is in
    let f = field_of rest s.0 more s.2 s.3 in
    none f.0 f.1 f.2

-- what follows after one field more
pub read_more : (text done rest left : List ℕ) (n : ℕ) → text ≡ fields done ++ rest → IsShortField rest n left → text ≡ fields (done ++ n ∷ []) ++ left
read_more text done rest left n e f =
    e ∙ ap (λ xs. fields done ++ xs) f.is ∙ sym (append_assoc (fields done) (field n) left) ∙ ap (λ xs. xs ++ left) (sym (fields_more done n))

-- the fields of numbers, and of others behind them
pub fields_append : (ns ms : List ℕ) → fields (ns ++ ms) ≡ fields ns ++ fields ms
fields_append [] ms = refl
fields_append (n ∷ ns) ms = ap (λ xs. field n ++ xs) (fields_append ns ms) ∙ sym (append_assoc (field n) (fields ns) (fields ms))

-- the fields of such numbers stand at the front of a text, and this behind them
pub record StartsWith (text ns more : List ℕ) : Type 0 where
  pub small : AreShort ns
  pub is : text ≡ fields ns ++ more
  pub apart : IsApart more

starts : (text : List ℕ) (m : ℕ) (ns more : List ℕ) → StartsWith text (m ∷ ns) more → IsShortField text m (fields ns ++ more)
starts text m ns more s = record {
  small = small_first m ns s.small;
  is = s.is ∙ append_assoc (field m) (fields ns) more;
  apart = apart_front ns more s.apart;
}

-- the first field of such a text is that of the first number
pub next_field : (text rest : List ℕ) (n m : ℕ) (ns more : List ℕ) → IsShortField text n rest → StartsWith text (m ∷ ns) more → (n ≡ m) × StartsWith rest ns more
next_field text rest n m ns more f s =
    let same = one_field text rest (fields ns ++ more) n m f (starts text m ns more s) in
    (same.0, record { small = small_rest m ns s.small; is = same.1; apart = s.apart })

-- and it is there
pub has_field : (text : List ℕ) (m : ℕ) (ns more : List ℕ) → ((n : ℕ) (rest : List ℕ) → IsShortField text n rest → ⊥) → StartsWith text (m ∷ ns) more → ⊥
has_field text m ns more none s = none m (fields ns ++ more) (starts text m ns more s)
