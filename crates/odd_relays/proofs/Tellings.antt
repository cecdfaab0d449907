-- In the world of a telling all members but the odd ones pass on what they should.
use Rattle.std.specs.Prelude.{if◌then◌else◌}
use Rattle.std.proofs.Common.{ℕ, ◌≡◌, ◌<◌, false, List, [], ◌∷◌, length, reverse, ap, ◌∙◌, arith}
use Rattle.std.proofs.lemmas.Bool.{cond-false}
use Rattle.std.proofs.lemmas.List.{reverse-append, length-reverse}
use Rattle.node_grid.specs.NodeSet.{has_id}
use Rattle.omh_paths.specs.declared.wrapped.Wrapped.TheVariants.{Fault}
use Rattle.omh_paths.specs.Wrapped.{wrapped}
use Rattle.odd_relays.specs.Telling.{Telling, telling_heard}
use Rattle.odd_relays.specs.ItemLaws.{EachTellingIsPassedOn}

-- what a member that isn't odd passes on, given from the path's last node back
passes : {V : Type 0} (t : Telling V) (i q : ℕ) (back : List ℕ) → 0 < length back → has_id t.odd q ≡ false
    → telling_heard t i (q ∷ back) ≡ (if has_id t.full q then wrapped (telling_heard t q back) else Fault 0)
passes t i q [] some regular = absurd (omega arith)
passes t i q (b ∷ back) some regular = cond-false _ _ _ regular

pub each_telling_passes : (V : Type 0) → EachTellingIsPassedOn V
each_telling_passes V t is_awake distinct full = record {
  distinct = distinct;
  full = full;
  relays = λ front q i grown regular awake off.
      ap (telling_heard t i) (reverse-append (t.commander ∷ front) (q ∷ [])) ∙ passes t i q (reverse (t.commander ∷ front)) (omega (arith, length-reverse (t.commander ∷ front))) regular;
}
