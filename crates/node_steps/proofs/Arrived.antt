-- What a node has of frames by their deliveries, and what it passes on.
use Rattle.std.proofs.Common.{ℕ, ◌≡◌, ◌≢◌, ◌<◌, ◌≤◌, ◌+◌, ◌==◌, ◌||◌, Bool, true, false, if◌then◌else◌, List, [], ◌∷◌, length, map, refl, sym, ap, ap₂, ◌∙◌, inl, inr, arith, ne_eqb, Option, None, Some}
use Rattle.std.specs.Prelude.{nat_le, slice_index_or}
use Rattle.std.specs.List.{AllByRecursion}
use Rattle.std.proofs.lemmas.Bool.{cases_Bool, cond-true, cond-false, or_from}
use Rattle.std.proofs.lemmas.Bool.Decides.{nat_tests}
use Rattle.node_grid.specs.NodeSet.{has_id, without_id, IsIdSet}
use Rattle.node_grid.specs.Count.{Distinct}
use Rattle.omh_paths.specs.Wrapped.{wrapped}
use Rattle.omh_paths.specs.Paths.{paths_of_length, path_at, IsListed}
use Rattle.omh_paths.specs.PathLaws.{map_alike}
use Rattle.omh_paths.specs.PathLists.{paths-avoiding_one, length-paths, IsListed-at, Distinct-without, has-of-without}
use Rattle.omh_paths.specs.MemberLaws.{Distinct-ids}
use Rattle.omh_paths.specs.Facts.{all_at}
use Rattle.omh.specs.Heard.{entry as tabled, heard_in, heard_paths}
use Rattle.omh.specs.HeardLaws.{IsHeardPath, heard_in-at, has-without-me}
use Rattle.frames.specs.Content.{Content, Expectation}
use Rattle.frames.specs.Content.Content.{State, Done0, DoneRelay, Data, Report0, ReportRelay, Cold as ColdFrame}
use Rattle.frames.specs.Reading.{reading}
use Rattle.error_detect.specs.declared.finding.Finding.{Finding}
use Rattle.error_detect.specs.declared.finding.Finding.TheVariants.{Good as GoodFrame, Timing}
use Rattle.slot_plan.specs.Ticks.{is_in_window}
use Rattle.error_detect.specs.Finding.{kind_of, finding, told, told_of, found_of}
use Rattle.error_detect.specs.Watching.{Watch, told_at, finding_at, found_in, told_in, found_by, told_by, of_sender, opened, closed, HasRoom, nothing, one, too_long, several, Arrival as Box}
use Rattle.error_detect.specs.Multiset.{Arriving, from_sender, all_delivered, FindsEach}
use Rattle.protocol.specs.Arrival.{arrived, arrival}
use Rattle.protocol.specs.Heard.{Rounds, paths_of, heard}
use Rattle.relay_rules.specs.Relaying.{relays}
use Rattle.noting.specs.Findings.{has_of}
use Rattle.node_steps.specs.At.{heard_upto, table_at}
use Rattle.node_steps.proofs.TablesTold.{Agrees, upto_here}

-- ---- a finding that isn't Good goes with nothing told

agrees_told : (o : Option Content) → Agrees (kind_of (found_of o)) (told_of o)
agrees_told None = record { none = λ n h. refl }
agrees_told (Some (State b)) = record { none = λ n h. cc }
agrees_told (Some (Done0 t)) = record { none = λ n h. cc }
agrees_told (Some (DoneRelay xs)) = record { none = λ n h. cc }
agrees_told (Some (Data xs)) = record { none = λ n h. cc }
agrees_told (Some (Report0 r)) = record { none = λ n h. cc }
agrees_told (Some (ReportRelay xs)) = record { none = λ n h. cc }
agrees_told (Some ColdFrame) = record { none = λ n h. refl }

agrees_one : (e : Expectation) (t : ℕ) (b : List ℕ) → Agrees (kind_of (finding e ((t, b) ∷ []))) (told e ((t, b) ∷ []))
agrees_one e t b = go (is_in_window t) where
  go : (w : Bool) → Agrees (kind_of (if w then found_of (reading e b) else Timing)) (if w then told_of (reading e b) else None)
  go true = agrees_told (reading e b)
  go false = record { none = λ n h. refl }

agrees_box : (e : Expectation) (a : Box) → Agrees (kind_of (found_by e a)) (told_by e a)
agrees_box e nothing = record { none = λ n h. refl }
agrees_box e (one t b) = agrees_one e t b
agrees_box e (too_long t) = record { none = λ n h. refl }
agrees_box e several = record { none = λ n h. refl }

pub agrees : (w : Watch) (j : ℕ) → Agrees (kind_of (finding_at w j)) (told_at w j)
agrees w j = go ((j == w.me) || nat_le w.nodes j) w.expect where
  go : (b : Bool) (e : Option Expectation) → Agrees (kind_of (if b then GoodFrame else found_in e j (slice_index_or w.arrived j nothing))) (told_in e j (slice_index_or w.arrived j nothing))
  go true e = record { none = λ n h. cc }
  go false None = record { none = λ n h. cc }
  go false (Some e) = agrees_box (of_sender j e) (slice_index_or w.arrived j nothing)

-- ---- what a node has of a sender's frame is the arrival of what was delivered from it

pub has_by_deliveries : {C : Type 0} (part : Content → Option C) (law : FindsEach) (w : Watch) (e : Expectation) (ds : List Arriving) (j : ℕ) → HasRoom w.frame_max e → j < w.nodes → j ≢ w.me
    → ((es : List Arriving) → ((all_delivered (opened w e) es).me ≡ w.me) × ((all_delivered (opened w e) es).nodes ≡ w.nodes) × ((all_delivered (opened w e) es).expect ≡ Some e))
    → has_of part (closed (all_delivered (opened w e) ds)) j ≡ arrival part (of_sender j e) (from_sender j ds)
has_by_deliveries part law w e ds j room low ne keeps =
    let v : Watch = all_delivered (opened w e) ds in
    let f = law w e ds j room low in
    let other : ((j == v.me) || nat_le v.nodes j) ≡ false = or_from _ _ (ne_eqb j v.me (λ h. ne (h ∙ (keeps ds).0))) (ap (λ n. nat_le n j) (keeps ds).1 ∙ gt w.nodes j low) in
    ap₂ (λ (x : Finding) (y : Option Content). arrived part (kind_of x) y)
    (cond-false _ GoodFrame (found_in v.expect j (slice_index_or v.arrived j nothing)) other ∙ ap (λ o. found_in o j (slice_index_or v.arrived j nothing)) (keeps ds).2 ∙ f.0)
    (ap (λ o. told_in o j (slice_index_or v.arrived j nothing)) (keeps ds).2 ∙ f.1)
  where
    gt : (m n : ℕ) → n < m → nat_le m n ≡ false
    gt m n h = grind (arith, nat_tests)

-- ---- what a node passes on

all_map : (P : List ℕ → Type 0) (Q : List ℕ → Type 0) (ps : List (List ℕ)) → AllByRecursion P ps → ((p : List ℕ) → P p → Q p) → AllByRecursion Q ps
all_map P Q [] a h = tt
all_map P Q (p ∷ ps) a h = (h p a.0, all_map P Q ps a.1 h)

-- a table of what was heard for paths of up to n nodes passes on, for r of them at most, what was heard
pub relays_tabled : {V : Type 0} (nodes m : ℕ) (members : List ℕ) (me : ℕ) (full : Bool) (own : V) (r : ℕ) (x : Rounds V) → IsIdSet nodes members → 0 < r → r ≤ m + 1
    → relays (table_at nodes m members me full own r x) r ≡ map (λ path. wrapped (heard x path)) (paths_of members r me)
relays_tabled {V} nodes m members me full own r x ids some low = elim (cases_Bool (has_id members me)) [
  | inl on ↦
      let d : Distinct members = Distinct-ids nodes members ids in
      let e : paths_of members r me ≡ paths_of_length (without_id members me) r = cond-true (has_id members me) _ [] on ∙ paths-avoiding_one members me r in
      ap (map (λ path. wrapped (heard_in (map (tabled (heard_upto r x)) (heard_paths members me m)) path))) e
      ∙ map_alike (λ path. wrapped (heard_in (map (tabled (heard_upto r x)) (heard_paths members me m)) path)) (λ path. wrapped (heard x path)) (paths_of_length (without_id members me) r)
      (all_map (λ p. IsHeardPath members me m p × (length p ≡ r)) (λ p. wrapped (heard_in (map (tabled (heard_upto r x)) (heard_paths members me m)) p) ≡ wrapped (heard x p)) (paths_of_length (without_id members me) r) (both d) (λ p q. ap wrapped (heard_in-at (heard_upto r x) members me m p d q.0 ∙ upto_here r x p (let l = q.1 in omega arith))))
      ∙ sym (ap (map (λ path. wrapped (heard x path))) e)
  | inr off ↦
      let e : paths_of members r me ≡ [] = cond-false (has_id members me) _ [] off in
      ap (map (λ path. wrapped (heard_in (map (tabled (heard_upto r x)) (heard_paths members me m)) path))) e ∙ sym (ap (map (λ path. wrapped (heard x path))) e)
]
  where
    both : Distinct members → AllByRecursion (λ p. IsHeardPath members me m p × (length p ≡ r)) (paths_of_length (without_id members me) r)
    both d =
        let t : List ℕ = without_id members me in
        let dt : Distinct t = Distinct-without members me d in
        all_at (λ p. IsHeardPath members me m p × (length p ≡ r)) (paths_of_length t r) (λ k l.
        let listed : IsListed t r (path_at (paths_of_length t r) k) = IsListed-at t r k dt (let e = length-paths t r dt in omega arith) in (
          record {
            distinct = listed.distinct;
            within = λ q on. has-of-without members me q (listed.within q on);
            other = has-without-me members me (path_at (paths_of_length t r) k) listed.within;
            some = omega (arith, listed.long);
            short = omega (arith, listed.long);
          },
          listed.long,
        ))
