-- The step of counts, streaks and members.
use Rattle.std.proofs.Common.{ℕ, ◌≡◌, ◌<◌, ◌≤◌, ◌+◌, ◌-◌, Bool, true, false, not, ◌&&◌, ◌==◌, List, length, Option, refl, ap, ◌∙◌, arith, lt-ltb, nat_lt, min}
use Rattle.std.specs.Prelude.{slice_index, if◌then◌else◌}
use Rattle.std.proofs.lemmas.Bool.{cond-true, cond-false, or_left, and_from}
use Rattle.std.proofs.lemmas.List.{get_or-replicate}
use Rattle.node_grid.specs.NodeSet.{ids_below, ids_where, has_id, mask_of}
use Rattle.node_grid.specs.MaskLaws.{mask-none}
use Rattle.node_grid.specs.SetFacts.{has_below}
use Rattle.protocol.specs.RowLaws.{mask-zero}
use Rattle.error_reports.specs.Charge.{charged, charged_mask}
use Rattle.penalty.specs.declared.Policy.{Policy}
use Rattle.penalty.specs.Step.{penalty, count_after}
use Rattle.penalty.specs.StepLaws.{for_nodes-at}
use Rattle.membership.specs.Members.{stays, Standing, first_standing, standing_after}
use Rattle.agreed_state.specs.Agreed.{standing_by}
use Rattle.protocol.specs.View.{Setting}
use Rattle.protocol.specs.Safe.{IsInnocent}
use Rattle.safety.proofs.Lists.{has_where, any_one}

mask_some : (f : ℕ → Bool) (n k : ℕ) → k < n → f k ≡ true → (mask_of (ids_where f n) == 0) ≡ false
mask_some f n k low h = mask-none f n ∙ ap not (any_one f (ids_below n) k (has_below n k low) h)

pub count_at : (s : Setting) (rows : List (Option (List ℕ))) (old : Standing) (j : ℕ) → j < s.config.nodes → j < length old.counts
    → slice_index (standing_by s.config.policy s.config.nodes rows old).counts j ≡ count_after s.config.policy (charged_mask rows old.members j) (slice_index old.counts j) (slice_index old.streaks j)
unfolding standing_after
count_at s rows old j low room =
    for_nodes-at s.config.nodes (λ j. count_after s.config.policy (charged_mask rows old.members j) (slice_index old.counts j) (slice_index old.streaks j)) old.counts j low room

pub member_at : (s : Setting) (rows : List (Option (List ℕ))) (old : Standing) (j : ℕ)
    → has_id (standing_by s.config.policy s.config.nodes rows old).members j ≡ (nat_lt j s.config.nodes && stays s.config.policy old.members (λ q. slice_index (standing_by s.config.policy s.config.nodes rows old).counts q) (λ q. slice_index old.left q) j)
unfolding standing_after
member_at s rows old j = has_where (stays s.config.policy old.members (λ q. slice_index (standing_by s.config.policy s.config.nodes rows old).counts q) (λ q. slice_index old.left q)) s.config.nodes j

pub no_count : (policy : Policy) (mask c t : ℕ) → mask ≡ 0 → c ≡ 0 → count_after policy mask c t ≡ 0
no_count policy mask c t e z = rw (e, z) (elim (t + 1 == policy.streak) as (λ b. (if b then 0 - policy.credit else 0) ≡ 0) [ true ↦ omega arith | false ↦ refl ])

-- a member with count 0 that is charged with nothing stays one
pub innocent_after : (s : Setting) (rows : List (Option (List ℕ))) (old : Standing) (j : ℕ) → 0 < s.config.policy.exclude → j < s.config.nodes → j < length old.counts → ((k : ℕ) → charged rows old.members j k ≡ false)
    → IsInnocent old j → IsInnocent (standing_by s.config.policy s.config.nodes rows old) j
innocent_after s rows old j some below room none was =
    let uncharged : charged_mask rows old.members j ≡ 0 = mask-zero (charged rows old.members j) 16 none in
    let zero : slice_index (standing_by s.config.policy s.config.nodes rows old).counts j ≡ 0 = count_at s rows old j below room ∙ no_count s.config.policy _ _ _ uncharged was.unpunished in
    let low : slice_index (standing_by s.config.policy s.config.nodes rows old).counts j < s.config.policy.exclude = omega arith in
    record {
      member = member_at s rows old j ∙ and_from _ _ (lt-ltb _ _ below) (cond-true _ _ _ was.member ∙ or_left _ _ (lt-ltb _ _ low));
      unpunished = zero;
    }

pub counted_full : (s : Setting) (rows : List (Option (List ℕ))) (old : Standing) (j k : ℕ) → j < s.config.nodes → j < length old.counts → k < 16 → charged rows old.members j k ≡ true
    → slice_index (standing_by s.config.policy s.config.nodes rows old).counts j ≡ min s.config.policy.cap (slice_index old.counts j + penalty s.config.policy.weights (charged_mask rows old.members j))
counted_full s rows old j k below room kind is =
    count_at s rows old j below room ∙ cond-false (charged_mask rows old.members j == 0) _ _ (mask_some (charged rows old.members j) 16 k kind is)

pub innocent_first : (room nodes j : ℕ) → nodes ≤ room → j < nodes → IsInnocent (first_standing room nodes) j
innocent_first room nodes j few low = record { member = has_below nodes j low; unpunished = get_or-replicate room j 0 0 (omega arith) }
