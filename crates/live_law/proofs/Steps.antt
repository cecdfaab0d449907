-- What events make of a live node between periods and in a slot.
use Rattle.std.proofs.Common.{ℕ, ◌≡◌, ◌≢◌, ◌<◌, ◌+◌, ◌==◌, ◌&&◌, ◌||◌, Bool, true, false, not, if◌then◌else◌, List, [], ◌∷◌, ◌++◌, map, length, set, replicate, refl, ap, ap₂, ◌∙◌, arith, ne_eqb, Option, None, Some, ℤ}
use Rattle.std.specs.Prelude.{All}
use Rattle.std.specs.List.{fold}
use Rattle.std.specs.Option.{option_or}
use Rattle.std.proofs.lemmas.Bool.{cond-true}
use Rattle.std.proofs.lemmas.List.{append-nil}
use Rattle.std.proofs.lemmas.List.Elements.{All-head, All-tail}
use Rattle.node_grid.specs.NodeSet.{ids_below}
use Rattle.node_grid.specs.NumberFacts.{lt_yes}
use Rattle.error_detect.specs.Multiset.{all_delivered}
use Rattle.protocol.specs.View.{channel_room}
use Rattle.node_steps.specs.Living.{restarted_if}
use Rattle.live_node.specs.Event.{Event}
use Rattle.live_node.specs.Event.Event.{Begin, Deliver, End, Restart, Reading, Ahead}
use Rattle.live_node.specs.Live.{LiveView, Step, is_of_cluster, allowed, told, answer, is_other}
use Rattle.live_node.specs.Live.Step.{Goes}
use Rattle.live_law.specs.Events.{behind, step_on, restarts_in, arrivals_in, reading_of, ahead_of, readings_told, aheads_told}
use Rattle.live_law.specs.Living.{ComesBefore, ComesWithin}
use Rattle.live_law.proofs.Lists.{map_from, set_table, last_of_each}

-- an event that is taken
pub goes : {N : ℕ} (v : LiveView N) (text : List ℕ) (e : Event) → is_of_cluster v e ≡ true → allowed v e ≡ true → step_on (Goes v text) e ≡ Goes (told v e) (text ++ answer (told v e) e)
goes v text e known now = ap (behind text) (cond-true (is_of_cluster v e) _ _ known ∙ cond-true (allowed v e) _ _ now)

-- one that isn't answered, and those behind it
silent : {N : ℕ} (v w : LiveView N) (text : List ℕ) (es : List Event) (s : Step N) → s ≡ Goes w (text ++ []) → fold step_on s es ≡ fold step_on (Goes w text) es
silent v w text es s e = ap (λ s. fold step_on s es) (e ∙ ap (Goes w) (append-nil text))

-- ---- between periods

-- what an event puts among the readings told
abbrev pub put_reading : List (Option ℤ) → Event → List (Option ℤ)
put_reading xs (Reading c x) = set xs c (Some x)
put_reading xs _ = xs

abbrev pub rested : {N : ℕ} → LiveView N → List Event → LiveView N
rested v es = record v { node = restarted_if (restarts_in es) v.node; forgot = restarts_in es || v.forgot; given = fold put_reading v.given es }

forgets : {N : ℕ} (v : LiveView N) (es : List Event) → rested (told v Restart) es ≡ rested v (Restart ∷ es)
forgets {N} v es = go (restarts_in es) where
  go : (b : Bool) → record v { node = restarted_if b (told v Restart).node; forgot = b || true; given = fold put_reading v.given es } ≡ record v { node = restarted_if true v.node; forgot = true || v.forgot; given = fold put_reading v.given es }
  go true = refl
  go false = refl

pub rests : {N : ℕ} (v : LiveView N) (text : List ℕ) (es : List Event) → v.node.phase.is_open ≡ false → All (ComesBefore v.scenario v.id) es → fold step_on (Goes v text) es ≡ Goes (rested v es) text
rests v text [] shut all = refl
rests v text (Restart ∷ es) shut all =
    silent v (told v Restart) text es (step_on (Goes v text) Restart) (goes v text Restart refl (ap not shut))
    ∙ rests (told v Restart) text es shut (All-tail (ComesBefore v.scenario v.id) Restart es all) ∙ ap (λ w. Goes w text) (forgets v es)
rests v text (Reading c x ∷ es) shut all =
    silent v (told v (Reading c x)) text es (step_on (Goes v text) (Reading c x)) (goes v text (Reading c x) (lt_yes c (length v.scenario.config.channels.items) (All-head (ComesBefore v.scenario v.id) (Reading c x) es all)) (ap not shut))
    ∙ rests (told v (Reading c x)) text es shut (All-tail (ComesBefore v.scenario v.id) (Reading c x) es all)
rests v text (Begin o ∷ es) shut all = absurd (All-head (ComesBefore v.scenario v.id) (Begin o) es all)
rests v text (Deliver from tick bytes ∷ es) shut all = absurd (All-head (ComesBefore v.scenario v.id) (Deliver from tick bytes) es all)
rests v text (End ∷ es) shut all = absurd (All-head (ComesBefore v.scenario v.id) End es all)
rests v text (Ahead j x ∷ es) shut all = absurd (All-head (ComesBefore v.scenario v.id) (Ahead j x) es all)

pub readings_are : (es : List Event) → fold put_reading (replicate channel_room None) es ≡ readings_told es
readings_are es = last_of_each channel_room reading_of put_reading one es where
  choice : (b : Bool) (x : ℤ) (o : Option ℤ) → (if b then Some x else o) ≡ option_or (if b then Some x else None) o
  choice true x o = refl
  choice false x o = refl

  one : (f : ℕ → Option ℤ) (e : Event) → put_reading (map f (ids_below channel_room)) e ≡ map (λ c. option_or (reading_of c e) (f c)) (ids_below channel_room)
  one f (Reading d x) =
      set_table f (Some x) 0 channel_room d
      ∙ map_from (λ c. if 0 + d == c then Some x else f c) (λ c. option_or (reading_of c (Reading d x)) (f c)) 0 channel_room
      (λ c l. ap (λ (k : ℕ). if k == c then Some x else f c) (let e : 0 + d ≡ d = omega arith in e) ∙ choice (d == c) x (f c))
  one f (Begin o) = refl
  one f (Deliver from tick bytes) = refl
  one f End = refl
  one f Restart = refl
  one f (Ahead j x) = refl

-- ---- in a slot

-- what an event puts among the clocks told
abbrev pub put_ahead : List (Option ℤ) → Event → List (Option ℤ)
put_ahead xs (Ahead j x) = set xs j (Some x)
put_ahead xs _ = xs

abbrev pub heard : {N : ℕ} → LiveView N → List Event → LiveView N
heard u es = record u { node = record u.node { arrived = all_delivered u.node.arrived (arrivals_in es) }; ahead = fold put_ahead u.ahead es }

other : {N : ℕ} (u : LiveView N) (j : ℕ) → j < u.scenario.config.nodes → j ≢ u.id → is_other u j ≡ true
other u j low ne = ap₂ (λ (a b : Bool). a && not b) (lt_yes j u.scenario.config.nodes low) (ne_eqb j u.id ne)

pub hears : {N : ℕ} (u : LiveView N) (text : List ℕ) (es : List Event) → u.node.phase.is_open ≡ true → All (ComesWithin u.scenario u.id) es → fold step_on (Goes u text) es ≡ Goes (heard u es) text
hears u text [] still all = refl
hears u text (Deliver from tick bytes ∷ es) still all =
    let h = All-head (ComesWithin u.scenario u.id) (Deliver from tick bytes) es all in
    silent u (told u (Deliver from tick bytes)) text es (step_on (Goes u text) (Deliver from tick bytes)) (goes u text (Deliver from tick bytes) (other u from h.0 h.1) still)
    ∙ hears (told u (Deliver from tick bytes)) text es still (All-tail (ComesWithin u.scenario u.id) (Deliver from tick bytes) es all)
hears u text (Ahead j x ∷ es) still all =
    let h = All-head (ComesWithin u.scenario u.id) (Ahead j x) es all in
    silent u (told u (Ahead j x)) text es (step_on (Goes u text) (Ahead j x)) (goes u text (Ahead j x) (ap₂ ◌&&◌ (other u j h.0 h.1) h.2) still)
    ∙ hears (told u (Ahead j x)) text es still (All-tail (ComesWithin u.scenario u.id) (Ahead j x) es all)
hears u text (Begin o ∷ es) still all = absurd (All-head (ComesWithin u.scenario u.id) (Begin o) es all)
hears u text (End ∷ es) still all = absurd (All-head (ComesWithin u.scenario u.id) End es all)
hears u text (Restart ∷ es) still all = absurd (All-head (ComesWithin u.scenario u.id) Restart es all)
hears u text (Reading c x ∷ es) still all = absurd (All-head (ComesWithin u.scenario u.id) (Reading c x) es all)

pub aheads_are : (N : ℕ) (es : List Event) → fold put_ahead (replicate N None) es ≡ aheads_told N es
aheads_are N es = last_of_each N ahead_of put_ahead one es where
  choice : (b : Bool) (x : ℤ) (o : Option ℤ) → (if b then Some x else o) ≡ option_or (if b then Some x else None) o
  choice true x o = refl
  choice false x o = refl

  one : (f : ℕ → Option ℤ) (e : Event) → put_ahead (map f (ids_below N)) e ≡ map (λ c. option_or (ahead_of c e) (f c)) (ids_below N)
  one f (Ahead d x) =
      set_table f (Some x) 0 N d
      ∙ map_from (λ c. if 0 + d == c then Some x else f c) (λ c. option_or (ahead_of c (Ahead d x)) (f c)) 0 N
      (λ c l. ap (λ (k : ℕ). if k == c then Some x else f c) (let e : 0 + d ≡ d = omega arith in e) ∙ choice (d == c) x (f c))
  one f (Begin o) = refl
  one f (Deliver from tick bytes) = refl
  one f End = refl
  one f Restart = refl
  one f (Reading c x) = refl
