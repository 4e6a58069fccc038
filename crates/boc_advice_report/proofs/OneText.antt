-- What is told of the same has one text, in names that call everything the same.
use Rattle.std.proofs.Common.{◌≡◌, ◌∙◌, ℕ, suc, Bool, cond, List, [], ◌∷◌, ◌++◌, length, map, flat_map, take, ap, refl, sym, subst, inl, inr}
use Rattle.std.proofs.Common.{Option, Some, None}
use Rattle.std.specs.Prelude.{codes, decimal, nat_eq, not, option_map}
use Rattle.std.specs.Cmp.Lexicographic.{pointwise}
use Rattle.boc_plans.specs.declared.chain.ChainStep.{ChainStep}
use Rattle.boc_plans.specs.declared.sharing.Sharing.{Sharing}
use Rattle.boc_table.specs.Tables.{table_text}
use Rattle.boc_names.specs.declared.names.Names.{Names}
use Rattle.boc_names.specs.Names.{CallTheSame, Text, text_at}
use Rattle.boc_why.specs.declared.why.Why.{Why}
use Rattle.boc_why.specs.Why.{SayTheSame}
use Rattle.boc_why_report.specs.WhyTexts.{at_most, beside, chain_told, head_text, least_text, shares_head, shares_sides}
use Rattle.boc_why_report.proofs.OneText.{def_lines_same, head_same, least_text_same, link_lines_same, one_chain}
use Rattle.boc_greedy_chain.specs.declared.chain.GreedyStep.{GreedyStep}
use Rattle.boc_remedies.specs.declared.advice.Advice.{Advice}
use Rattle.boc_remedies.specs.declared.candidates.Candidate.{Candidate}
use Rattle.boc_remedies.specs.declared.ends.Ends.{Ends}
use Rattle.boc_remedies.specs.declared.greedy_why.GreedyWhy.{GreedyWhy}
use Rattle.boc_remedies.specs.declared.remedy.Remedy.{Remedy}
use Rattle.boc_remedies.specs.declared.remedy.Remedy.TheVariants.{HalfCost, NoOrder, EarlySpawns}
use Rattle.boc_remedies.specs.declared.together.Together.{Together}
use Rattle.boc_remedies.specs.GreedyWhys.{IsSameChain, SayTheSameIfAsked, SayTheSameOfGreedy}
use Rattle.boc_advice_report.specs.declared.candidates.TheConstants.{MOST_LISTED}
use Rattle.boc_advice_report.specs.declared.order.OtherOrder.{OtherOrder}
use Rattle.boc_advice_report.specs.declared.steps.StepsTold.{StepsTold}
use Rattle.boc_advice_report.specs.declared.told.WhyTold.{WhyTold}
use Rattle.boc_advice_report.specs.declared.workers.ForWorkers.{ForWorkers}
use Rattle.boc_advice_report.specs.AdviceTexts.{candidates_table, ends_texts, families_text, list_head, list_sides, more_families, more_line, no_ends}
use Rattle.boc_advice_report.specs.AdviceTexts.{no_numbers, remedy_text, set_name, sets_table, together_head, together_sides, together_table, without_texts}
use Rattle.boc_advice_report.specs.OrderTexts.{has_name, number_text, order_text, row_text}
use Rattle.boc_advice_report.specs.Same.{TellTheSame, TellTheSameSteps}
use Rattle.boc_advice_report.specs.StepsTexts.{IsStepsText, no_further, steps_head, steps_lines, steps_table, table_lines}
use Rattle.boc_advice_report.specs.StepsTexts as steps
use Rattle.boc_advice_report.specs.WhyTold.{AreGreedyShares, AreSharesAsked, IsWhyText, advice_part, bounds_part, chain_part, order_line, shares_title}
use Rattle.boc_advice_report.specs.WhyTold.{shares_told, verdict_line, workers_line, workers_of}
use Rattle.boc_advice_report.specs.WorkersTexts.{verdict_text, workers_text}
use Rattle.boc_advice_report.proofs.SameChain.{chain_decided}

-- what the rows take by the workers of a greedy plan
workers_same : (why other : Why) (greedy another : GreedyWhy) → SayTheSame why other → SayTheSameOfGreedy greedy another
    → workers_of why greedy ≡ workers_of other another
workers_same why other greedy another alike agree = λ i. record { p = agree.p i; work = alike.work i; span = alike.span i; end = agree.end i }

workers_line_same : (why other : Why) (greedy another : Option GreedyWhy) → SayTheSame why other → SayTheSameIfAsked greedy another
    → workers_line why greedy ≡ workers_line other another
workers_line_same why other None None alike agree = refl
workers_line_same why other None (Some b) alike agree = absurd agree
workers_line_same why other (Some a) None alike agree = absurd agree
workers_line_same why other (Some a) (Some b) alike agree = ap workers_text (workers_same why other a b alike agree)

verdict_line_same : (why other : Why) (greedy another : Option GreedyWhy) → SayTheSame why other → SayTheSameIfAsked greedy another
    → verdict_line why greedy ≡ verdict_line other another
verdict_line_same why other None None alike agree = refl
verdict_line_same why other None (Some b) alike agree = absurd agree
verdict_line_same why other (Some a) None alike agree = absurd agree
verdict_line_same why other (Some a) (Some b) alike agree = ap verdict_text (workers_same why other a b alike agree)

p_same : (greedy another : Option GreedyWhy) → SayTheSameIfAsked greedy another
    → option_map (λ (g : GreedyWhy). g.p) greedy ≡ option_map (λ (g : GreedyWhy). g.p) another
p_same None None agree = refl
p_same None (Some b) agree = absurd agree
p_same (Some a) None agree = absurd agree
p_same (Some a) (Some b) agree = λ i. Some (agree.p i)

module _ (a b : Names) (same : CallTheSame a b) where
  -- ---- changes, and several cowns

  families_same : (families : List ℕ) → families_text a families ≡ families_text b families
  families_same [] = refl
  families_same (f ∷ families) = λ i. text_at (same.family_names i) f
      ++ flat_map (λ (g : ℕ). codes " and " ++ text_at (same.family_names i) g) families

  pub remedy_same : (remedy : Remedy) → remedy_text a remedy ≡ remedy_text b remedy
  remedy_same (HalfCost def) = λ i. text_at (same.def_names i) def ++ codes " at 1/2"
  remedy_same (NoOrder set) = λ i. codes "without " ++ families_same set i
  remedy_same (EarlySpawns def) = λ i. codes "early spawns by " ++ text_at (same.def_names i) def

  candidates_same : (workers : Option ℕ) (now : Ends) (candidates : List Candidate) → candidates_table a workers now candidates
      ≡ candidates_table b workers now candidates
  candidates_same workers now candidates = λ i. table_text (list_sides now) (list_head (codes "candidates") workers now
      ∷ map (λ (c : Candidate). ends_texts (codes "  " ++ remedy_same c.remedy i) now now c.ends) (take MOST_LISTED candidates)
      ++ more_line (length candidates) (no_numbers now))

  set_same : (set : Option (List ℕ)) → set_name a set ≡ set_name b set
  set_same None = refl
  set_same (Some set) = families_same set

  sets_same : (greedy : Option ℕ) (together : List Together) → sets_table a greedy together ≡ sets_table b greedy together
  sets_same greedy together = λ i. table_text (together_sides greedy) (together_head greedy
      ∷ map (λ (own : Together). (codes "  " ++ set_same own.families i) ∷ without_texts greedy own.ends) (take MOST_LISTED together)
      ++ more_line (length together) (no_ends greedy))

  -- several cowns at once have one table
  pub together_same : (together : List Together) → together_table a together ≡ together_table b together
  together_same [] = refl
  together_same (own ∷ others) = sets_same own.ends.greedy (own ∷ others)

  -- ---- a better order

  named_same : (row : ℕ) → has_name a row ≡ has_name b row
  named_same row = λ i. not (pointwise nat_eq (text_at (same.rows i) row) (number_text row))

  row_same : (row : ℕ) → row_text a row ≡ row_text b row
  row_same row = λ i. number_text row ++ cond (named_same row i) (codes ", " ++ text_at (same.rows i) row) []

  -- a better order has one line
  pub order_same : (order : OtherOrder) → order_text a order ≡ order_text b order
  order_same order = λ i. (codes "a better order ends at " ++ decimal order.end ++ codes ": start whatever can start; it differs first at "
      ++ text_at (same.cowns i) order.swap.cown ++ codes ", where ") ++ (row_same order.swap.ahead i ++ cond (named_same order.swap.ahead i) (codes ",") [])
      ++ codes " comes before " ++ row_same order.swap.passed i ++ codes "\n"

  order_line_same : (order : Option OtherOrder) → order_line a order ≡ order_line b order
  order_line_same None = refl
  order_line_same (Some order) = order_same order

  -- ---- the greedy plan's shares

  shares_told_same : (greedy another : GreedyWhy) → SayTheSameOfGreedy greedy another → shares_told a greedy ≡ shares_told b another
  shares_told_same greedy another agree = λ i. codes "\n" ++ table_text shares_sides (shares_head (shares_title (agree.p i)) (codes "by link")
      ∷ beside (at_most (def_lines_same a b same (agree.by_def i) i)) (at_most (link_lines_same a b same (agree.links i) (agree.by_link i) i)))

  shares_same : (why other : Why) (greedy another : GreedyWhy) (text told : Text) → SayTheSame why other → SayTheSameOfGreedy greedy another
      → AreGreedyShares a why greedy text → AreGreedyShares b other another told → text ≡ told
  shares_same why other greedy another text told alike agree x y =
      let back : IsSameChain other.profile.chain.steps.items another.steps.items → IsSameChain why.profile.chain.steps.items greedy.steps.items =
      λ h. subst (λ (steps : List ChainStep). IsSameChain steps greedy.steps.items) (sym alike.steps)
      (subst (λ (steps : List GreedyStep). IsSameChain other.profile.chain.steps.items steps) (sym agree.steps) h) in
      let on : IsSameChain why.profile.chain.steps.items greedy.steps.items → IsSameChain other.profile.chain.steps.items another.steps.items =
      λ h. subst (λ (steps : List ChainStep). IsSameChain steps another.steps.items) alike.steps
      (subst (λ (steps : List GreedyStep). IsSameChain why.profile.chain.steps.items steps) agree.steps h) in
      elim (chain_decided why.profile.chain.steps.items greedy.steps.items) [
        | inl h ↦ x.same h ∙ sym (y.same (on h))
        | inr apart ↦ x.another apart ∙ shares_told_same greedy another agree ∙ sym (y.another (λ h. apart (back h)))
      ]

  asked_same : (why other : Why) (greedy another : Option GreedyWhy) (text told : Text) → SayTheSame why other → SayTheSameIfAsked greedy another
      → AreSharesAsked a why greedy text → AreSharesAsked b other another told → text ≡ told
  asked_same why other None None text told alike agree x y = x ∙ sym y
  asked_same why other None (Some g) text told alike agree x y = absurd agree
  asked_same why other (Some g) None text told alike agree x y = absurd agree
  asked_same why other (Some g) (Some h) text told alike agree (s, s_is, text_is) (t, t_is, told_is) =
      text_is ∙ ap (λ (shares : Text). shares ++ codes "\n") (shares_same why other g h s t alike agree s_is t_is) ∙ sym told_is

  -- ---- all that is told

  module _ (sharing : Sharing) (all : Bool) (told other : WhyTold) (alike : TellTheSame told other) where
    chain_part_same : chain_part a all told ≡ chain_part b all other
    chain_part_same =
        let head : head_text told.why.now told.timed ≡ head_text other.why.now other.timed =
        head_same told.why.now other.why.now alike.why told.timed ∙ ap (head_text other.why.now) alike.timed in
        let line : workers_line told.why.now told.greedy.now ≡ workers_line other.why.now other.greedy.now =
        workers_line_same told.why.now other.why.now told.greedy.now other.greedy.now alike.why alike.greedy in
        let chain : chain_told a all told.why.now ≡ chain_told b all other.why.now = one_chain a b same told.why.now other.why.now alike.why all in
        λ i. head i ++ line i ++ chain i

    advice_part_same : (workers : Option ℕ) → advice_part a workers told.advice.now ≡ advice_part b workers other.advice.now
    advice_part_same workers = λ i. candidates_same workers (alike.advice.now i) (alike.advice.candidates i) i ++ together_same (alike.advice.together i) i

    bounds_part_same : bounds_part a sharing told ≡ bounds_part b sharing other
    bounds_part_same =
        let least : least_text a sharing told.why.now.least ≡ least_text b sharing other.why.now.least =
        least_text_same a b same sharing told.why.now.least other.why.now.least alike.why.least in
        let order : order_line a told.order ≡ order_line b other.order = order_line_same told.order ∙ ap (order_line b) alike.order in
        let verdict : verdict_line told.why.now told.greedy.now ≡ verdict_line other.why.now other.greedy.now =
        verdict_line_same told.why.now other.why.now told.greedy.now other.greedy.now alike.why alike.greedy in
        λ i. least i ++ order i ++ verdict i

    -- why some rows take as long as they do has one text
    pub one_why_text : (text other_text : Text) → IsWhyText a sharing all told text → IsWhyText b sharing all other other_text → text ≡ other_text
    one_why_text text other_text x y =
        let chain = chain_part_same in
        let shares : x.shares ≡ y.shares =
        asked_same told.why.now other.why.now told.greedy.now other.greedy.now x.shares y.shares alike.why alike.greedy x.shares_are y.shares_are in
        let p = p_same told.greedy.now other.greedy.now alike.greedy in
        let bounds = bounds_part_same in
        x.is ∙ (λ i. chain i ++ shares i ++ advice_part_same (p i) i ++ bounds i) ∙ sym y.is

  -- ---- one change after another

  step_lines_same : (now : Ends) (number : ℕ) (was : Ends) (steps : List Candidate) → steps_lines a now number was steps ≡ steps_lines b now number was steps
  step_lines_same now number was [] = refl
  step_lines_same now number was (step ∷ steps) = λ i. ends_texts (codes "  " ++ decimal number ++ codes "  " ++ remedy_same step.remedy i) now was step.ends
      ∷ step_lines_same now (suc number) step.ends steps i

  -- one change after another has one text
  pub one_steps_text : (told other : StepsTold) (text other_text : Text) → TellTheSameSteps told other → IsStepsText a told text
      → IsStepsText b other other_text → text ≡ other_text
  one_steps_text told other text other_text alike x y =
      let head : steps_head told ≡ steps_head other = λ i. codes "rows " ++ decimal (alike.rows i) ++ codes "   work " ++ decimal (alike.work i)
      ++ codes "   span " ++ decimal (alike.now i).span ++ codes "\n"
      ++ steps.workers_line (alike.work i) (alike.now i).span (alike.workers i) (alike.now i).greedy in
      let table : steps_table a told ≡ steps_table b other = λ i. table_text (list_sides (alike.now i))
      (list_head (codes "steps") (alike.workers i) (alike.now i) ∷ step_lines_same (alike.now i) 1 (alike.now i) (alike.steps i) i) in
      let further : no_further (length told.steps.now) told.most ≡ no_further (length other.steps.now) other.most =
      λ i. no_further (length (alike.steps i)) (alike.most i) in
      x.is ∙ (λ i. head i ++ codes "\n" ++ table i ++ further i) ∙ sym y.is
