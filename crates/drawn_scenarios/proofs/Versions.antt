-- What is drawn is of its version.
use Rattle.std.proofs.Common.{◌≡◌, pos, Bool, true, false, List, [], ◌∷◌, Option, None, Some, refl, subst, true≢false}
use Rattle.std.specs.Prelude.{◌||◌, is_some, nat_lt, if◌then◌else◌, option_map}
use Rattle.std.specs.List.{flat_map, AllByRecursion}
use Rattle.scenario.specs.Parts.{ChannelParts, ClockParts}
use Rattle.scenario_versions.specs.Versions.{is_first, IsChannelOf, IsOfVersion}
use Rattle.drawn_scenarios.specs.declared.choices.ClockChoices.{ClockChoices}
use Rattle.drawn_scenarios.specs.declared.choices.Choices.{Choices}
use Rattle.drawn_scenarios.specs.declared.bout.Bout.{Bout}
use Rattle.drawn_scenarios.specs.Cluster.{version_of, sensor_of, copies_of, channels_of, clock_of}
use Rattle.drawn_scenarios.specs.Lines.{lies_of}
use Rattle.drawn_scenarios.specs.Drawn.{parts_of}

-- version 2 where there are copies, or clocks
copies_are_newer : (many deep copies clocks : Bool) → copies ≡ true → is_first (pos (if many || (deep || (copies || clocks)) then 2 else 1)) ≡ false
copies_are_newer true deep copies clocks h = refl
copies_are_newer false true copies clocks h = refl
copies_are_newer false false true clocks h = refl
copies_are_newer false false false clocks h = cc

first_has_no_clocks : (many deep copies clocks : Bool) → is_first (pos (if many || (deep || (copies || clocks)) then 2 else 1)) ≡ true → clocks ≡ false
first_has_no_clocks many deep copies false h = refl
first_has_no_clocks true deep copies true h = cc
first_has_no_clocks false true copies true h = cc
first_has_no_clocks false false true true h = cc
first_has_no_clocks false false false true h = cc

channels_of_version : (c : Choices) (copies : Bool) → c.copies ≡ copies
    → AllByRecursion (IsChannelOf (pos (version_of c))) (sensor_of c ∷ (if copies then copies_of c ∷ [] else []))
channels_of_version c true h = (tt, (copies_are_newer (nat_lt 8 c.nodes) (nat_lt 2 c.m) c.copies (is_some c.clock) h, tt))
channels_of_version c false h = (tt, tt)

no_clock : (clock : Option ClockChoices) (f : ClockChoices → ClockParts) → is_some clock ≡ false → option_map f clock ≡ None
no_clock None f h = refl
no_clock (Some k) f h = cc

pub of_version : (c : Choices) (bs : List Bout) → IsOfVersion (parts_of c bs)
of_version c bs = record {
  policy = λ first. refl;
  channels = channels_of_version c c.copies refl;
  clock = λ first. no_clock c.clock (clock_of c.nodes (flat_map (lies_of c) bs))
      (first_has_no_clocks (nat_lt 8 c.nodes) (nat_lt 2 c.m) c.copies (is_some c.clock) first);
}
