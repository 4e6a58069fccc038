-- Of some rows one better order is told.
use Rattle.std.proofs.Common.{◌≡◌, ◌∙◌, ℕ, List, Option, Some, None, ap, sym, refl, subst, inl, inr, arith}
use Rattle.boc_runs.specs.declared.rows.Row.{Row}
use Rattle.boc_runs.specs.Rows.{IsRows}
use Rattle.boc_plans.specs.Plans.{ConflictOn, IsEnd}
use Rattle.boc_order.proofs.Alone.{one_end}
use Rattle.boc_eager.specs.declared.plan.Eager.{Eager}
use Rattle.boc_eager.specs.declared.swap.Swap.{Swap}
use Rattle.boc_eager.specs.Swaps.{IsFirstSwap, IsLeastSwap, StartsFirst}
use Rattle.boc_eager.proofs.EagerPlans.{one_plan}
use Rattle.boc_advice_report.specs.declared.order.OtherOrder.{OtherOrder}
use Rattle.boc_plan_commands.specs.OrderAnswers.{IsOrderFor, IsOtherOrder}

-- two rows that each start first are one
one_first : (plan : List ℕ) (b c : ℕ) → StartsFirst plan b c → StartsFirst plan c b → b ≡ c
one_first plan b c (inl x) (inl y) = absurd (omega (arith, x, y))
one_first plan b c (inl x) (inr y) = let at = y.0 in absurd (omega (arith, x, at))
one_first plan b c (inr x) (inl y) = let at = x.0 in absurd (omega (arith, at, y))
one_first plan b c (inr x) (inr y) =
    let low = x.1 in
    let high = y.1 in
    omega (arith, low, high)

-- a row passes one least row, over one least cown
one_least : (rows : List Row) (plan : List ℕ) (b : ℕ) (swap other : Swap) → IsLeastSwap rows plan b swap → IsLeastSwap rows plan b other → swap ≡ other
one_least rows plan b swap other x y =
    let ahead : swap.ahead ≡ other.ahead = x.ahead ∙ sym y.ahead in
    let low = x.least other.passed y.passes in
    let high = y.least swap.passed x.passes in
    let passed : swap.passed ≡ other.passed = omega (arith, low, high) in
    let first = x.least_cown other.cown (subst (λ (a : ℕ). ConflictOn rows other.cown a b) (sym passed) y.over) in
    let last = y.least_cown swap.cown (subst (λ (a : ℕ). ConflictOn rows swap.cown a b) passed x.over) in
    let cown : swap.cown ≡ other.cown = omega (arith, first, last) in
    λ i. record { ahead = ahead i; passed = passed i; cown = cown i }

-- a plan first goes otherwise at one place
one_swap : (rows : List Row) (plan : List ℕ) (swap other : Swap) → IsFirstSwap rows plan (Some swap) → IsFirstSwap rows plan (Some other) → swap ≡ other
one_swap rows plan swap other x y =
    let ahead : swap.ahead ≡ other.ahead = one_first plan swap.ahead other.ahead (x.0.1 other.ahead y.0.0) (y.0.1 swap.ahead x.0.0) in
    one_least rows plan other.ahead swap other (subst (λ (b : ℕ). IsLeastSwap rows plan b swap) ahead x.1) y.1

-- of plans with the same starts and the same end one order is told
orders_same : (rows : List Row) (span : ℕ) (plan another : Eager) → plan.starts.items ≡ another.starts.items → plan.end ≡ another.end
    → (order other : Option OtherOrder) → IsOrderFor rows span plan order → IsOrderFor rows span another other → order ≡ other
orders_same rows span plan another starts end None None x y = refl
orders_same rows span plan another starts end None (Some other) x y = let sooner = y.sooner in absurd (omega (arith, x, end, sooner))
orders_same rows span plan another starts end (Some order) None x y = let sooner = x.sooner in absurd (omega (arith, y, end, sooner))
orders_same rows span plan another starts end (Some order) (Some other) x y =
    let at : order.end ≡ other.end = x.end ∙ end ∙ sym y.end in
    let swap : order.swap ≡ other.swap =
    one_swap rows another.starts.items order.swap other.swap (subst (λ (starts : List ℕ). IsFirstSwap rows starts (Some order.swap)) starts x.differs) y.differs in
    let same : order ≡ other = λ i. record { end = at i; swap = swap i } in
    ap Some same

pub one_order : (rows : List Row) → IsRows rows → (span : ℕ) (order other : Option OtherOrder) → IsOtherOrder rows span order → IsOtherOrder rows span other
    → order ≡ other
one_order rows hr span order other x y =
    let starts : x.plan.starts.items ≡ y.plan.starts.items =
    one_plan rows hr x.plan.starts.items y.plan.starts.items x.is_plan.eager y.is_plan.eager in
    let end : x.plan.end ≡ y.plan.end =
    one_end rows y.plan.starts.items x.plan.end y.plan.end (subst (λ (plan : List ℕ). IsEnd rows plan x.plan.end) starts x.is_plan.ends) y.is_plan.ends in
    orders_same rows span x.plan y.plan starts end order other x.is y.is
