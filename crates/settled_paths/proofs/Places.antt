-- The places of the paths behind one commander.
use Rattle.std.proofs.Common.{ℕ, zero, suc, ◌≡◌, ◌<◌, ◌≤◌, ◌+◌, ◌-◌, ◌*◌, List, length, refl, sym, ap, ◌∙◌, arith}
use Rattle.node_grid.specs.NodeSet.{IsIdSet, place_of}
use Rattle.node_grid.specs.CapacityLaws.{capacity-le}
use Rattle.node_grid.specs.NodeSetLaws.{length-ids}
use Rattle.node_grid.specs.Count.{Distinct}
use Rattle.node_grid.specs.NumberFacts.{product_few, terms_fit}
use Rattle.omh_paths.specs.Paths.{outside, path_count, index_in}
use Rattle.omh_paths.specs.PathLists.{length-outside, index_in-lt}
use Rattle.omh_paths.specs.MemberLaws.{path_count-few, place-index, Distinct-ids}
use Rattle.omh_paths.specs.Facts.{more_paths}
use Rattle.omh.specs.Flat.{relay_path}
use Rattle.omh.proofs.Folding.{relay_listed, terms_within}
use Rattle.settled_paths.specs.declared.exchange.Level.{Level}
use Rattle.settled_paths.specs.Levels.{level_at, IsExchange, IsLevel}

pub level_at-next : (others r : ℕ) → level_at others (r + 1) ≡ level_at others r + path_count others r
level_at-next others r = let e : r + 1 ≡ suc r = omega arith in ap (level_at others) e

level_at-more : (others a d : ℕ) → level_at others a ≤ level_at others (a + d)
level_at-more others a zero = let e : a + 0 ≡ a = omega arith in omega (arith, ap (level_at others) e)
level_at-more others a (suc d) = let e : a + suc d ≡ suc (a + d) = omega arith in omega (arith, level_at-more others a d, ap (level_at others) e)

pub level_at-le : (others a b : ℕ) → a ≤ b → level_at others a ≤ level_at others b
level_at-le others a b h = let e : a + (b - a) ≡ b = omega arith in omega (arith, level_at-more others a (b - a), ap (level_at others) e)

pub level_at-mono : (k n r : ℕ) → k ≤ n → level_at k r ≤ level_at n r
level_at-mono k n zero h = omega arith
level_at-mono k n (suc r) h = omega (arith, level_at-mono k n r h, more_paths k n r h)

-- a path's place lies before where those of more relays begin
pub level_within : (others r k rounds : ℕ) → k < path_count others r → r < rounds → level_at others r + k < level_at others rounds
level_within others r k rounds within short = omega (arith, level_at-le others (r + 1) rounds (omega arith), level_at-next others r)

pub first_few : (capacity rounds : ℕ) (members : List ℕ) (c place others r paths : ℕ) → IsExchange capacity rounds members c → IsIdSet capacity members → place ≡ place_of members c → others ≡ length members - 1 → r ≤ rounds → paths ≡ path_count others r
    → (paths ≤ 65536) × (place * paths ≤ 1048576) × (others ≤ 16) × (0 < length members) × (place < length members)
first_few capacity rounds members c place others r paths x ids at o short e =
    let cap = capacity-le capacity x.capacity_ok in
    let long = length-ids capacity members ids in
    let on = index_in-lt members c x.member_ok in
    let here = at ∙ place-index capacity members c ids x.member_ok in
    let low : place < length members = omega arith in
    let few = path_count-few others r (omega arith) (omega (arith, x.rounds_ok)) in
    let product : place * paths ≤ 16 * 65536 = product_few place paths (omega arith) (omega arith) in
    (omega arith, omega arith, omega arith, omega arith, low)

pub level_is : (capacity rounds : ℕ) (members : List ℕ) (c place others r : ℕ) (l : Level) → IsExchange capacity rounds members c → IsIdSet capacity members → place ≡ place_of members c → others ≡ length members - 1 → r ≤ rounds
    → l.paths ≡ path_count others r → l.first ≡ place * l.paths → l.begins ≡ level_at others r → l.begins ≤ 262144 → IsLevel members (index_in members c) r l
level_is capacity rounds members c place others r l x ids at o short p f b small =
    let few = first_few capacity rounds members c place others r l.paths x ids at o short p in
    let here : place ≡ index_in members c = at ∙ place-index capacity members c ids x.member_ok in
    let are : l.paths ≡ path_count (length members - 1) r = p ∙ ap (λ (n : ℕ). path_count n r) o in
    let e : r + 1 ≡ suc r = omega arith in
    let fits : place * l.paths + l.paths ≤ length members * l.paths = terms_fit place (length members) l.paths few.4 in
    let all : length members * l.paths ≡ path_count (length members) (r + 1) = ap (λ (n : ℕ). length members * n) are ∙ sym (ap (path_count (length members)) e) in
    record {
      paths_are = are;
      first_is = f ∙ ap (λ (n : ℕ). n * l.paths) here;
      begins_are = b ∙ ap (λ (n : ℕ). level_at n r) o;
      listed = omega (arith, f, fits, all);
      few = few.0;
      small = omega (arith, f, few.1);
    }

-- ---- a path with one relay more

pub width_of : (members : List ℕ) (place r k : ℕ) → Distinct members → place < length members → k < path_count (length members - 1) r → length (outside members (relay_path members place r k)) ≡ length members - suc r
width_of members place r k d low within =
    let listed = relay_listed members place r k d low within in
    length-outside members (relay_path members place r k) d listed.distinct listed.within ∙ ap (λ (n : ℕ). length members - n) listed.long

pub longer-lt : (n r k j : ℕ) → k < path_count (n - 1) r → j < n - suc r → k * (n - suc r) + j < path_count (n - 1) (suc r)
longer-lt n r k j within inside = omega (arith, terms_within n r k within)

-- ---- room for the terms of a path

-- where the terms of the k-th path of r relays stand
pub record IsTermPlace (members : List ℕ) (place r k begins paths width : ℕ) (path : List ℕ) : Type 0 where
  pub inside : k < path_count (length members - 1) r
  pub path_is : path ≡ relay_path members place r k
  pub width_is : width ≡ length members - suc r
  pub many : length (outside members path) ≡ width
  pub next_is : begins + paths ≡ level_at (length members - 1) (suc r)
  pub terms : begins + paths + k * width + width ≤ level_at (length members - 1) (suc (suc r))
  pub terms_few : k * width + width ≤ path_count (length members - 1) (suc r)
  pub few : k * width + width ≤ 65536
  pub small : begins + paths + k * width + width ≤ 4194304
  pub narrow : width ≤ 16

pub term_place : (capacity rounds : ℕ) (members : List ℕ) (c r k count width : ℕ) (l : Level) (path : List ℕ) → IsExchange capacity rounds members c → IsIdSet capacity members → r < rounds → IsLevel members (index_in members c) r l → k < l.paths
    → count ≡ length members → width ≡ count - 1 - r → path ≡ relay_path members (index_in members c) r k → IsTermPlace members (index_in members c) r k l.begins l.paths width path
term_place capacity rounds members c r k count width l path x ids short lv within count-is w p =
    let d : Distinct members = Distinct-ids capacity members x.members_ok in
    let low = index_in-lt members c x.member_ok in
    let inside : k < path_count (length members - 1) r = omega (arith, lv.paths_are) in
    let width_is : width ≡ length members - suc r = omega arith in
    let product : k * width ≡ k * (length members - suc r) = ap (λ (n : ℕ). k * n) width_is in
    let fits = terms_within (length members) r k inside in
    let cap = capacity-le capacity x.capacity_ok in
    let long = length-ids capacity members ids in
    let few = path_count-few (length members - 1) (suc r) (omega arith) (omega (arith, x.rounds_ok)) in
    let next : l.begins + l.paths ≡ level_at (length members - 1) (suc r) = omega (arith, lv.begins_are, lv.paths_are) in
    let after : level_at (length members - 1) (suc (suc r)) ≡ level_at (length members - 1) (suc r) + path_count (length members - 1) (suc r) = refl in
    record {
      inside = inside;
      path_is = p;
      width_is = width_is;
      many = ap (λ (ns : List ℕ). length (outside members ns)) p ∙ width_of members (index_in members c) r k d low inside ∙ sym width_is;
      next_is = next;
      terms = omega (arith, next, after, product, width_is, fits);
      terms_few = omega (arith, product, width_is, fits);
      few = omega (arith, product, width_is, fits, few);
      small = omega (arith, product, width_is, fits, few, lv.small, lv.few);
      narrow = omega (arith, width_is, long, cap);
    }
