-- An illness after one more period.
use Rattle.std.proofs.Common.{◌≡◌, ℕ, suc, ◌+◌, ◌-◌, ◌<◌, ◌≤◌, Bool, true, false, not, ◌&&◌, List, [], ◌∷◌, ◌++◌, length, map, Option, None, Some, refl, sym, ap, ◌∙◌, inl, inr, arith}
use Rattle.std.specs.Prelude.{unwrap_or, is_some, if◌then◌else◌}
use Rattle.std.specs.List.{filter}
use Rattle.std.proofs.lemmas.Bool.{cases_Bool}
use Rattle.std.proofs.lemmas.List.{map-append, append-nil}
use Rattle.std.proofs.lemmas.List.Elements.{filter-append}
use Rattle.std.proofs.lemmas.List.FromFn.{length-range_with_len}
use Rattle.node_grid.specs.declared.class.Class.{Class}
use Rattle.node_grid.specs.declared.class.Class.TheVariants.{N, J, B, S, A}
use Rattle.node_grid.specs.Class.{is_sound}
use Rattle.node_grid.specs.Count.{bit, count}
use Rattle.node_grid.specs.ListLaws.{bit_le, count-more}
use Rattle.run_judged.specs.declared.illness.Illness.{Illness}
use Rattle.run_judged.specs.declared.illness.Sign.{Sign}
use Rattle.run_judged.specs.Numbers.{span, first_in}
use Rattle.run_judged.specs.Illnesses.{worse, worst_of, last_of, is_ill, joined_behind, illness, sound_at}
use Rattle.run_judged.specs.Growing.{or_now, begun, moved, suffered, grown}
use Rattle.run_judged.proofs.Spans.{span_more, span_empty, first_more, first_none, first_below}

worst_more : (c d : Class) (ds : List Class) → worst_of c (ds ++ d ∷ []) ≡ worse (worst_of c ds) d
worst_more c d [] = refl
worst_more c d (e ∷ ds) = worst_more (worse c e) d ds

last_more : (k x : ℕ) (xs : List ℕ) → last_of k (xs ++ x ∷ []) ≡ x
last_more k x [] = refl
last_more k x (y ∷ xs) = last_more y x xs

-- the periods of an illness up to a stop, in which a line touches a frame of the node
abbrev touches : (ℕ → Sign) → ℕ → ℕ → List ℕ
touches seen o stop = filter (λ p. (seen p).touched) (span o stop)

abbrev worst_to : (ℕ → Sign) → ℕ → ℕ → Class
worst_to seen o stop = worst_of (seen o).class (map (λ p. (seen p).class) (touches seen o stop))

abbrev member_to : (ℕ → Sign) → ℕ → ℕ → ℕ
member_to seen o stop = count (λ p. (seen p).member) (span o stop)

abbrev left_to : (ℕ → Sign) → ℕ → ℕ → Option ℕ
left_to seen o next = first_in (λ p. (seen p).left) o next

-- an illness that lasts up to a stop, and the time up to the next one
abbrev parts : (ℕ → Sign) → ℕ → ℕ → ℕ → ℕ → Option ℕ → Option ℕ → Illness
parts seen o j stop next sound relapse = record {
  node = j;
  onset = o;
  class = (seen o).class;
  worst = worst_to seen o stop;
  touched = last_of o (touches seen o stop);
  member = (seen o).member;
  periods_a_member = member_to seen o stop;
  charged = first_in (λ p. (seen p).charged) o stop;
  sound = sound;
  relapse = relapse;
  left = left_to seen o next;
  back = joined_behind seen (left_to seen o next) next;
}

by_parts : (seen : ℕ → Sign) (n o j : ℕ) (sound relapse : Option ℕ) → sound_at seen n o ≡ sound → first_in (is_ill seen) (unwrap_or sound n) n ≡ relapse
    → illness seen n o j ≡ parts seen o j (unwrap_or sound n) (unwrap_or relapse n) sound relapse
by_parts seen n o j sound relapse e f =
    ap (λ (s : Option ℕ). parts seen o j (unwrap_or s n) (unwrap_or (first_in (is_ill seen) (unwrap_or s n) n) n) s (first_in (is_ill seen) (unwrap_or s n) n)) e
    ∙ ap (λ (r : Option ℕ). parts seen o j (unwrap_or sound n) (unwrap_or r n) sound r) f

-- ---- one period more, part by part

touched_more : (seen : ℕ → Sign) (o n : ℕ) → o ≤ n → touches seen o (n + 1) ≡ touches seen o n ++ (if (seen n).touched then n ∷ [] else [])
touched_more seen o n h = ap (filter (λ p. (seen p).touched)) (span_more o n h) ∙ filter-append (λ p. (seen p).touched) (span o n) (n ∷ [])

worst_next : (seen : ℕ → Sign) (o n : ℕ) → o ≤ n → worst_to seen o (n + 1) ≡ (if (seen n).touched then worse (worst_to seen o n) (seen n).class else worst_to seen o n)
worst_next seen o n h =
    let f = λ (xs : List ℕ). worst_of (seen o).class (map (λ p. (seen p).class) xs) in
    ap f (touched_more seen o n h)
    ∙ elim (seen n).touched as (λ b. f (touches seen o n ++ (if b then n ∷ [] else [])) ≡ (if b then worse (worst_to seen o n) (seen n).class else worst_to seen o n)) [
      | true ↦ ap (worst_of (seen o).class) (map-append (λ p. (seen p).class) (touches seen o n) (n ∷ [])) ∙ worst_more (seen o).class (seen n).class (map (λ p. (seen p).class) (touches seen o n))
      | false ↦ ap f (append-nil (touches seen o n))
    ]

last_next : (seen : ℕ → Sign) (o n : ℕ) → o ≤ n → last_of o (touches seen o (n + 1)) ≡ (if (seen n).touched then n else last_of o (touches seen o n))
last_next seen o n h =
    ap (last_of o) (touched_more seen o n h)
    ∙ elim (seen n).touched as (λ b. last_of o (touches seen o n ++ (if b then n ∷ [] else [])) ≡ (if b then n else last_of o (touches seen o n))) [
      | true ↦ last_more o n (touches seen o n)
      | false ↦ ap (last_of o) (append-nil (touches seen o n))
    ]

member_next : (seen : ℕ → Sign) (o n : ℕ) → o ≤ n → member_to seen o (n + 1) ≡ member_to seen o n + bit (seen n).member
member_next seen o n h = ap (count (λ p. (seen p).member)) (span_more o n h) ∙ count-more (λ p. (seen p).member) (span o n) n

back_more : (seen : ℕ → Sign) (n : ℕ) (left : Option ℕ) → ((q : ℕ) → left ≡ Some q → q < n)
    → joined_behind seen (or_now left (seen n).left n) (n + 1) ≡ or_now (joined_behind seen left n) (is_some left && (seen n).joined) n
back_more seen n None low =
    elim (seen n).left as (λ b. joined_behind seen (or_now None b n) (n + 1) ≡ None) [
      | true ↦ let e : n + 1 ≡ suc n = omega arith in ap (first_in (λ q. (seen q).joined) (suc n)) e ∙ first_none (λ q. (seen q).joined) (suc n)
      | false ↦ refl
    ]
back_more seen n (Some q) low = let l = low q refl in first_more (λ k. (seen k).joined) (suc q) n (omega arith)

back_next : (seen : ℕ → Sign) (o n : ℕ) → o ≤ n
    → joined_behind seen (left_to seen o (n + 1)) (n + 1) ≡ or_now (joined_behind seen (left_to seen o n) n) (is_some (left_to seen o n) && (seen n).joined) n
back_next seen o n h =
    ap (λ (left : Option ℕ). joined_behind seen left (n + 1)) (first_more (λ p. (seen p).left) o n h)
    ∙ back_more seen n (left_to seen o n) (λ q e. first_below (λ p. (seen p).left) o n q h e)

-- ---- and of the whole

-- the node may leave or join
moves : (seen : ℕ → Sign) (o j stop n : ℕ) (sound : Option ℕ) → o ≤ n
    → parts seen o j stop (n + 1) sound None ≡ moved n (seen n) (parts seen o j stop n sound None)
moves seen o j stop n sound h = rw (first_more (λ p. (seen p).left) o n h, back_more seen n (left_to seen o n) (λ q e. first_below (λ p. (seen p).left) o n q h e)) refl

-- and is ill
suffers : (seen : ℕ → Sign) (o j n : ℕ) → o ≤ n
    → parts seen o j (n + 1) n None None ≡ suffered n (seen n) (parts seen o j n n None None)
suffers seen o j n h = rw (worst_next seen o n h, last_next seen o n h, member_next seen o n h, first_more (λ p. (seen p).charged) o n h) refl

-- what an illness is by its end and the next one's beginning, and what it grows to
sound_kept : (seen : ℕ → Sign) (n o s : ℕ) → o ≤ n → sound_at seen n o ≡ Some s → sound_at seen (n + 1) o ≡ Some s
sound_kept seen n o s h e = first_more (λ p. is_sound (seen p).class) o n h ∙ ap (λ (x : Option ℕ). or_now x (is_sound (seen n).class) n) e

past : (seen : ℕ → Sign) (n o j s r : ℕ) → o ≤ n → sound_at seen n o ≡ Some s → first_in (is_ill seen) s n ≡ Some r
    → illness seen (n + 1) o j ≡ grown n (seen n) (illness seen n o j)
past seen n o j s r h e f =
    let low = first_below (λ p. is_sound (seen p).class) o n s h e in
    let later : first_in (is_ill seen) s (n + 1) ≡ Some r = first_more (is_ill seen) s n (omega arith) ∙ ap (λ (x : Option ℕ). or_now x (is_ill seen n) n) f in
    by_parts seen (n + 1) o j (Some s) (Some r) (sound_kept seen n o s h e) later ∙ ap (grown n (seen n)) (sym (by_parts seen n o j (Some s) (Some r) e f))

relapsing : (seen : ℕ → Sign) (n o j s : ℕ) → o ≤ n → is_sound (seen n).class ≡ false → sound_at seen n o ≡ Some s → first_in (is_ill seen) s n ≡ None
    → illness seen (n + 1) o j ≡ grown n (seen n) (illness seen n o j)
relapsing seen n o j s h ill e f =
    let low = first_below (λ p. is_sound (seen p).class) o n s h e in
    let later : first_in (is_ill seen) s (n + 1) ≡ Some n =
    first_more (is_ill seen) s n (omega arith) ∙ ap (λ (x : Option ℕ). or_now x (is_ill seen n) n) f ∙ ap (λ (b : Bool). or_now None (not b) n) ill in
    by_parts seen (n + 1) o j (Some s) (Some n) (sound_kept seen n o s h e) later
    ∙ rw ill refl
    ∙ ap (grown n (seen n)) (sym (by_parts seen n o j (Some s) None e f))

-- it was over, and the node stays sound
staying : (seen : ℕ → Sign) (n o j s : ℕ) → o ≤ n → is_sound (seen n).class ≡ true → sound_at seen n o ≡ Some s → first_in (is_ill seen) s n ≡ None
    → illness seen (n + 1) o j ≡ grown n (seen n) (illness seen n o j)
staying seen n o j s h well e f =
    let low = first_below (λ p. is_sound (seen p).class) o n s h e in
    let later : first_in (is_ill seen) s (n + 1) ≡ None =
    first_more (is_ill seen) s n (omega arith) ∙ ap (λ (x : Option ℕ). or_now x (is_ill seen n) n) f ∙ ap (λ (b : Bool). or_now None (not b) n) well in
    by_parts seen (n + 1) o j (Some s) None (sound_kept seen n o s h e) later
    ∙ moves seen o j s n (Some s) h
    ∙ rw well refl
    ∙ ap (grown n (seen n)) (sym (by_parts seen n o j (Some s) None e f))

-- it is over now
recovering : (seen : ℕ → Sign) (n o j : ℕ) → o ≤ n → is_sound (seen n).class ≡ true → sound_at seen n o ≡ None
    → illness seen (n + 1) o j ≡ grown n (seen n) (illness seen n o j)
recovering seen n o j h well e =
    let now : sound_at seen (n + 1) o ≡ Some n =
    first_more (λ p. is_sound (seen p).class) o n h ∙ ap (λ (x : Option ℕ). or_now x (is_sound (seen n).class) n) e ∙ ap (λ (b : Bool). or_now None b n) well in
    let later : first_in (is_ill seen) n (n + 1) ≡ None =
    first_more (is_ill seen) n n (omega arith) ∙ ap (λ (x : Option ℕ). or_now x (is_ill seen n) n) (first_none (is_ill seen) n) ∙ ap (λ (b : Bool). or_now None (not b) n) well in
    by_parts seen (n + 1) o j (Some n) None now later
    ∙ moves seen o j n n (Some n) h
    ∙ rw well refl
    ∙ ap (grown n (seen n)) (sym (by_parts seen n o j None None e (first_none (is_ill seen) n)))

-- it lasts
lasting : (seen : ℕ → Sign) (n o j : ℕ) → o ≤ n → is_sound (seen n).class ≡ false → sound_at seen n o ≡ None
    → illness seen (n + 1) o j ≡ grown n (seen n) (illness seen n o j)
lasting seen n o j h ill e =
    let now : sound_at seen (n + 1) o ≡ None =
    first_more (λ p. is_sound (seen p).class) o n h ∙ ap (λ (x : Option ℕ). or_now x (is_sound (seen n).class) n) e ∙ ap (λ (b : Bool). or_now None b n) ill in
    by_parts seen (n + 1) o j None None now (first_none (is_ill seen) (n + 1))
    ∙ moves seen o j (n + 1) n None h
    ∙ ap (moved n (seen n)) (suffers seen o j n h)
    ∙ rw ill refl
    ∙ ap (grown n (seen n)) (sym (by_parts seen n o j None None e (first_none (is_ill seen) n)))

grown_from : (seen : ℕ → Sign) (n o j : ℕ) → o ≤ n → (sound : Option ℕ) → sound_at seen n o ≡ sound
    → illness seen (n + 1) o j ≡ grown n (seen n) (illness seen n o j)
grown_from seen n o j h None e = elim (cases_Bool (is_sound (seen n).class)) [
  | inl well ↦ recovering seen n o j h well e
  | inr ill ↦ lasting seen n o j h ill e
]
grown_from seen n o j h (Some s) e =
    elim (first_in (is_ill seen) s n) as (λ r. first_in (is_ill seen) s n ≡ r → illness seen (n + 1) o j ≡ grown n (seen n) (illness seen n o j)) [
      | Some r ↦ λ f. past seen n o j s r h e f
      | None ↦ λ f. elim (cases_Bool (is_sound (seen n).class)) [
        | inl well ↦ staying seen n o j s h well e f
        | inr ill ↦ relapsing seen n o j s h ill e f
      ]
    ] refl

pub grown_next : (seen : ℕ → Sign) (n o j : ℕ) → o ≤ n → illness seen (n + 1) o j ≡ grown n (seen n) (illness seen n o j)
grown_next seen n o j h = grown_from seen n o j h (sound_at seen n o) refl

worse_same : (c : Class) → worse c c ≡ c
worse_same N = refl
worse_same J = refl
worse_same B = refl
worse_same S = refl
worse_same A = refl

if_same : {X : Type 0} (b : Bool) (x y : X) → x ≡ y → (if b then x else y) ≡ y
if_same true x y e = e
if_same false x y e = refl

at_onset : (seen : ℕ → Sign) (n j : ℕ) → parts seen n j n n None None ≡ record {
  node = j;
  onset = n;
  class = (seen n).class;
  worst = (seen n).class;
  touched = n;
  member = (seen n).member;
  periods_a_member = 0;
  charged = None;
  sound = None;
  relapse = None;
  left = None;
  back = None;
}
at_onset seen n j = rw (span_empty n, first_none (λ p. (seen p).charged) n, first_none (λ p. (seen p).left) n) refl

-- an illness that begins with the last of the periods
pub begun_next : (seen : ℕ → Sign) (n j : ℕ) → is_sound (seen n).class ≡ false → illness seen (n + 1) n j ≡ begun n j (seen n)
begun_next seen n j ill =
    let now : sound_at seen (n + 1) n ≡ None =
    first_more (λ p. is_sound (seen p).class) n n (omega arith) ∙ ap (λ (x : Option ℕ). or_now x (is_sound (seen n).class) n) (first_none (λ p. is_sound (seen p).class) n) ∙ ap (λ (b : Bool). or_now None b n) ill in
    by_parts seen (n + 1) n j None None now (first_none (is_ill seen) (n + 1))
    ∙ moves seen n j (n + 1) n None (omega arith)
    ∙ ap (moved n (seen n)) (suffers seen n j n (omega arith))
    ∙ ap (λ (x : Illness). moved n (seen n) (suffered n (seen n) x)) (at_onset seen n j)
    ∙ ap (λ (c : Class). record (begun n j (seen n)) { worst = c; touched = if (seen n).touched then n else n; periods_a_member = 0 + bit (seen n).member }) (if_same (seen n).touched (worse (seen n).class (seen n).class) (seen n).class (worse_same (seen n).class))
    ∙ ap (λ (k : ℕ). record (begun n j (seen n)) { touched = k; periods_a_member = 0 + bit (seen n).member }) (if_same (seen n).touched n n refl)
    ∙ ap (λ (k : ℕ). record (begun n j (seen n)) { periods_a_member = k }) (let e : 0 + bit (seen n).member ≡ bit (seen n).member = omega arith in e)

-- no more periods of a span pass a test than it has
pub count_le : {X : Type 0} (test : X → Bool) (xs : List X) → count test xs ≤ length xs
count_le test [] = omega arith
count_le test (x ∷ xs) = omega (arith, bit_le (test x), count_le test xs)

stop_le : (seen : ℕ → Sign) (n o : ℕ) → o ≤ n → (sound : Option ℕ) → sound_at seen n o ≡ sound → unwrap_or sound n ≤ n
stop_le seen n o h None e = omega arith
stop_le seen n o h (Some s) e = let low = first_below (λ p. is_sound (seen p).class) o n s h e in omega arith

pub few_members : (seen : ℕ → Sign) (n o j : ℕ) → o ≤ n → (illness seen n o j).periods_a_member ≤ n
few_members seen n o j h =
    let stop = unwrap_or (sound_at seen n o) n in
    let low : stop ≤ n = stop_le seen n o h (sound_at seen n o) refl in
    omega (arith, count_le (λ p. (seen p).member) (span o stop), length-range_with_len o (stop - o))
