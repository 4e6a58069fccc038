-- What is told of whys that say the same is the same, in names that call everything the same.
use Rattle.std.proofs.Common.{◌≡◌, ◌-◌, ℕ, zero, suc, Bool, cond, List, [], ◌∷◌, ◌++◌, length, map, flat_map, refl, Option, Some, None}
use Rattle.std.specs.Prelude.{codes, decimal, nat_lt, slice_get, slice_index}
use Rattle.std.specs.List.{count_by}
use Rattle.boc_plans.specs.declared.chain.ChainStep.{ChainStep}
use Rattle.boc_plans.specs.declared.sharing.Sharing.{Sharing}
use Rattle.boc_plans.specs.Chains.{weight_of}
use Rattle.boc_table.specs.Tables.{table_text}
use Rattle.boc_names.specs.declared.names.Names.{Names}
use Rattle.boc_names.specs.Names.{CallTheSame, separated, text_at}
use Rattle.boc_names.specs.Stretches.{stretches}
use Rattle.boc_order.specs.declared.least.Busiest.{Busiest}
use Rattle.boc_order.specs.declared.least.Least.{Least}
use Rattle.boc_why.specs.declared.links.Link.{Link}
use Rattle.boc_why.specs.declared.links.Link.TheVariants.{SpawnBy, Hands, Frees, Ends}
use Rattle.boc_why.specs.declared.shares.Share.{Share}
use Rattle.boc_why.specs.declared.why.Why.{Why}
use Rattle.boc_order.specs.Least.{tick_of}
use Rattle.boc_why.specs.Shares.{def_of}
use Rattle.boc_why.specs.Why.{SayTheSame}
use Rattle.boc_why_report.specs.declared.short.Outcome.{Outcome}
use Rattle.boc_why_report.specs.declared.told.TimedEnd.{TimedEnd}
use Rattle.boc_why_report.specs.ChainTexts.{Leg, are_of_one_def, before_last, behind_blank, chain_foot, chain_head, chain_sides, chain_text, common}
use Rattle.boc_why_report.specs.ChainTexts.{folded_text, handed_text, hands_texts, inner_text, is_hand, is_spawn, last_leg, leg_texts, legs, link_text}
use Rattle.boc_why_report.specs.ChainTexts.{rows_text, spawns_texts, stretch_lines, stretch_texts, then_text, told_chain}
use Rattle.boc_why_report.specs.ShortTexts.{ComeToTheSame, chain_line, end_texts, greedy_texts, heaviest_text, more_shares, share_text, short_head}
use Rattle.boc_why_report.specs.ShortTexts.{short_lines, short_sides, short_text, work_texts}
use Rattle.boc_why_report.specs.WhyTexts.{at_most, beside, bound_text, busy_text, chain_told, entry_texts, from_text, head_text, least_text}
use Rattle.boc_why_report.specs.WhyTexts.{link_at, link_lines, def_lines, reason_text, shares_head, shares_of_chain, shares_sides, timed_end_text}

-- the head has one text
pub head_same : (why other : Why) → SayTheSame why other → (timed : Option TimedEnd) → head_text why timed ≡ head_text other timed
head_same why other alike timed = λ i. codes "rows " ++ decimal (length (alike.starts i)) ++ codes "   work " ++ decimal (alike.work i) ++ codes "   span "
    ++ decimal (alike.span i) ++ timed_end_text timed ++ codes "\n"

module _ (a b : Names) (same : CallTheSame a b) where
  -- ---- the chain

  link_same : (link : Link) → link_text a link ≡ link_text b link
  link_same (SpawnBy def) = λ i. codes "spawn by " ++ text_at (same.def_names i) def
  link_same (Hands cowns) = λ i. handed_text (same.cowns i) cowns.items
  link_same Frees = refl
  link_same Ends = refl

  then_same : (link : Link) (next : Option ChainStep) → then_text a link next ≡ then_text b link next
  then_same (SpawnBy def) (Some next) = refl
  then_same (SpawnBy def) None = refl
  then_same (Hands cowns) (Some next) = λ i. codes "hands " ++ handed_text (same.cowns i) cowns.items ++ codes " to row " ++ decimal next.row
  then_same (Hands cowns) None = refl
  then_same Frees (Some next) = refl
  then_same Frees None = refl
  then_same Ends (Some next) = refl
  then_same Ends None = refl

  leg_same : (starts : List ℕ) (leg : Leg) → leg_texts a starts leg ≡ leg_texts b starts leg
  leg_same starts leg = λ i. [] ∷ decimal (slice_index starts leg.step.row) ∷ decimal leg.step.weight ∷ decimal leg.step.row
      ∷ text_at (same.rows i) leg.step.row ∷ then_same leg.link leg.next i ∷ []

  inner_same : (links : List Link) → inner_text a links ≡ inner_text b links
  inner_same links = λ i. separated (hands_texts (count_by is_hand links) (behind_blank (same.cowns i) (common links))
      ++ spawns_texts (count_by is_spawn links))

  stretch_texts_same : (starts : List ℕ) (stretch : List Leg) → stretch_texts a starts stretch ≡ stretch_texts b starts stretch
  stretch_texts_same starts [] = refl
  stretch_texts_same starts (first ∷ others) =
      let last : Leg = last_leg first others in
      λ i. [] ∷ decimal (slice_index starts first.step.row) ∷ decimal (weight_of (map (λ (leg : Leg). leg.step) (first ∷ others)))
      ∷ rows_text first.step.row last.step.row
      ∷ (decimal (length (first ∷ others)) ++ codes " " ++ text_at (same.def_names i) (def_of (same.defs i) first.step.row))
      ∷ (inner_same (map (λ (leg : Leg). leg.link) (before_last first others)) i ++ codes "; the last " ++ then_same last.link last.next i) ∷ []

  stretch_same : (starts : List ℕ) (stretch : List Leg) → stretch_lines a starts stretch ≡ stretch_lines b starts stretch
  stretch_same starts stretch = λ i. cond (nat_lt (length stretch) 4) (map (λ (leg : Leg). leg_same starts leg i) stretch)
      (stretch_texts_same starts stretch i ∷ [])

  -- ---- lists, and the rest

  link_at_same : (link : Option Link) → link_at a link ≡ link_at b link
  link_at_same None = refl
  link_at_same (Some link) = link_same link

  -- shares by def, and shares by link, have the same lines
  pub def_lines_same : (shares : List Share) → def_lines a shares ≡ def_lines b shares
  def_lines_same shares = λ i. map (λ (s : Share). entry_texts (text_at (same.def_names i) s.key) s.ticks s.steps) shares

  pub link_lines_same : (links : List Link) (shares : List Share) → link_lines a links shares ≡ link_lines b links shares
  link_lines_same links shares = λ i. map (λ (s : Share). entry_texts (link_at_same (slice_get links s.key) i) s.ticks s.steps) shares

  reason_same : (sharing : Sharing) (spawns : ℕ) (busiest : Option Busiest) → reason_text a sharing spawns busiest ≡ reason_text b sharing spawns busiest
  reason_same sharing spawns None = refl
  reason_same sharing spawns (Some own) = λ i. cond (nat_lt own.until spawns) (codes "their spawns take that long")
      (text_at (same.cowns i) own.cown ++ busy_text sharing ++ decimal own.load ++ codes " ticks" ++ from_text own.from)

  -- the least that any order could end at has one text
  pub least_text_same : (sharing : Sharing) (least other : Least) → least ≡ other → least_text a sharing least ≡ least_text b sharing other
  least_text_same sharing least other e = λ i. bound_text (tick_of (e i)) ++ reason_same sharing (e i).spawns (e i).busiest i ++ codes ")\n"

  module _ (why other : Why) (alike : SayTheSame why other) where
    chain_same : chain_text a why ≡ chain_text b other
    chain_same = λ i. codes "chain\n" ++ table_text chain_sides
        (chain_head ∷ map (λ (leg : Leg). leg_same (alike.starts i) leg i) (legs (alike.steps i) (alike.links i)) ++ chain_foot (alike.span i) ∷ [])

    folded_same : folded_text a why ≡ folded_text b other
    folded_same = λ i. codes "chain\n" ++ table_text chain_sides
        (chain_head ∷ flat_map (λ (stretch : List Leg). stretch_same (alike.starts i) stretch i)
        (stretches (are_of_one_def (same.defs i)) (legs (alike.steps i) (alike.links i))) ++ chain_foot (alike.span i) ∷ [])

    told_same : (all : Bool) → told_chain a all why ≡ told_chain b all other
    told_same all = λ i. cond all (chain_same i) (folded_same i)

    shares_same : shares_of_chain a why ≡ shares_of_chain b other
    shares_same = λ i. table_text shares_sides
        (shares_head (codes "chain by def") (codes "chain by link") ∷ beside
        (at_most (def_lines_same (alike.by_def i) i)) (at_most (link_lines_same (alike.links i) (alike.by_link i) i)))

    -- the chain has one text
    pub one_chain : (all : Bool) → chain_told a all why ≡ chain_told b all other
    one_chain all = λ i. codes "\n" ++ told_same all i ++ codes "\n" ++ shares_same i

  -- ---- what is told in short

  share_same : (s : Share) → share_text a s ≡ share_text b s
  share_same s = λ i. text_at (same.def_names i) s.key ++ codes " " ++ decimal s.ticks

  more_same : (most : ℕ) (shares : List Share) → more_shares a most shares ≡ more_shares b most shares
  more_same zero [] = refl
  more_same (suc most) [] = refl
  more_same zero (s ∷ shares) = refl
  more_same (suc most) (s ∷ shares) = λ i. codes ", " ++ share_same s i ++ more_same most shares i

  heaviest_same : (shares : List Share) → heaviest_text a shares ≡ heaviest_text b shares
  heaviest_same [] = refl
  heaviest_same (s ∷ shares) = λ i. share_same s i ++ more_same 2 shares i

  chain_line_same : (was now was_too now_too : List Share) → was ≡ was_too → now ≡ now_too → chain_line a was now ≡ chain_line b was_too now_too
  chain_line_same was now was_too now_too before after = λ i. codes "chain    " ++ heaviest_same (before i) i ++ codes "   ->   "
      ++ heaviest_same (after i) i ++ codes "\n"

  lines_same : (was now was_too now_too : Outcome) → ComeToTheSame was was_too → ComeToTheSame now now_too
      → short_lines was now ≡ short_lines was_too now_too
  lines_same was now was_too now_too before after = λ i. short_head ∷ work_texts (before.work i) (after.work i)
      ∷ end_texts (codes "span") (before.span i) (after.span i) ∷ greedy_texts (before.end i) (after.end i)

  pub one_short_text : (was now was_too now_too : Outcome) → ComeToTheSame was was_too → ComeToTheSame now now_too
      → short_text a was now ≡ short_text b was_too now_too
  one_short_text was now was_too now_too before after =
      let lines : short_lines was now ≡ short_lines was_too now_too = lines_same was now was_too now_too before after in
      let chain : chain_line a was.by_def.items now.by_def.items ≡ chain_line b was_too.by_def.items now_too.by_def.items =
      chain_line_same was.by_def.items now.by_def.items was_too.by_def.items now_too.by_def.items before.by_def after.by_def in
      λ i. table_text short_sides (lines i) ++ chain i
