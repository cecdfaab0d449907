-- What is printed of a period has no places for further nodes.
use Rattle.std.proofs.Common.{ℕ, zero, suc, ◌≡◌, ◌≤◌, Bool, ◌==◌, List, [], ◌∷◌, ◌++◌, map, length, take, replicate, Option, None, Some, refl, ap, ◌∙◌}
use Rattle.std.proofs.Math.Path.{fun_ext}
use Rattle.std.specs.Prelude.{if◌then◌else◌, ℤ, pos, codes, decimal, slice_get, slice_index_or}
use Rattle.std.specs.List.{flat_map}
use Rattle.std.specs.Option.{option_map}
use Rattle.std.proofs.lemmas.List.{take-append-le}
use Rattle.node_grid.specs.NodeSet.{ids_below}
use Rattle.node_grid.specs.declared.class.Class.{Class}
use Rattle.node_grid.specs.declared.class.Class.TheVariants.{N}
use Rattle.node_grid.specs.Matrix.{row_at}
use Rattle.omh_paths.specs.declared.wrapped.Wrapped.{Wrapped}
use Rattle.omh_paths.specs.declared.wrapped.Wrapped.TheVariants.{Fault}
use Rattle.list_scheduler.specs.Copies.{CopyTable}
use Rattle.fault_classes.specs.Plan.{Plan}
use Rattle.agreed_state.specs.Agreed.{AgreedView}
use Rattle.node_steps.specs.Outcome.{Outcome}
use Rattle.cluster_periods.specs.Record.{ClockShown, PeriodView}
use Rattle.run_text.specs.Text.{separated, numbers_text, set_text, class_text, claim_text, row_text, done_item, rows_item, mode_text, running_text, runs_text, votes_text}
use Rattle.run_text.specs.NodeText.{left_text, state_text, settled_text, beliefs_text, node_text}
use Rattle.run_text.specs.PeriodText.{head_text, recorded_text, nodes_text}
use Rattle.run_text.specs.ClockText.{sound_numbers, range_of, spread_text, signed_text, clock_text}
use Rattle.run_text.specs.TraceText.{frames_text, period_text}
use Rattle.two_capacities.specs.Wider.{wide, wide_copies, wide_rows, wide_agreed, wide_claims, longer}
use Rattle.two_capacities.proofs.Lists.{get_padded, take_wide}
use Rattle.two_capacities.proofs.Copies.{copies_wide, works_same}
use Rattle.two_capacities.proofs.Standings.{row_wide}
use Rattle.capacities.proofs.Periods.{wide_outcome, wide_shown, wide_record, HasClockRoom, HasRoom}

module _ (n k : ℕ) where
  runs_wide : (copies : CopyTable) → runs_text n (wide_copies k copies) ≡ runs_text n copies
  runs_wide copies = ap (λ (f : ℕ → Option (ℕ × ℕ)). separated (codes ",") (map (λ q. running_text (f q)) (ids_below n))) (fun_ext (works_same (wide_copies k copies) copies (copies_wide k copies)))

  left_wide : (retire : ℕ) (left : List ℕ) → left_text n retire (wide n k left) ≡ left_text n retire left
  left_wide retire left = ap (λ xs. if retire == 0 then [] else codes " left " ++ numbers_text xs) (take_wide n k left)

  state_wide : (retire : ℕ) (a : AgreedView) → state_text n retire (wide_agreed n k a) ≡ state_text n retire a
  state_wide retire a =
      let told = λ (counts streaks runs left : List ℕ).
      codes " members " ++ set_text a.standing.members ++ codes " counts " ++ numbers_text counts
      ++ codes " streaks " ++ numbers_text streaks ++ codes " run " ++ runs
      ++ left in
      ap (λ x. told x (take n (wide n k a.standing.streaks)) (runs_text n (wide_copies k a.copies)) (left_text n retire (wide n k a.standing.left))) (take_wide n k a.standing.counts)
      ∙ ap (λ x. told (take n a.standing.counts) x (runs_text n (wide_copies k a.copies)) (left_text n retire (wide n k a.standing.left))) (take_wide n k a.standing.streaks)
      ∙ ap (λ x. told (take n a.standing.counts) (take n a.standing.streaks) x (left_text n retire (wide n k a.standing.left))) (runs_wide a.copies)
      ∙ ap (told (take n a.standing.counts) (take n a.standing.streaks) (runs_text n a.copies)) (left_wide retire a.standing.left)

  done_wide : (done : List (Wrapped ℕ)) (q : ℕ) → done_item (wide_claims k done) q ≡ done_item done q
  done_wide done q = ap (λ w. decimal q ++ codes "=" ++ claim_text w) (get_padded done k (Fault 0) q)

  row_shown : (o : Option (List ℕ)) → row_text n (option_map (wide n k) o) ≡ row_text n o
  row_shown None = refl
  row_shown (Some masks) = ap numbers_text (take_wide n k masks)

  rows_shown : (rows : List (Option (List ℕ))) (q : ℕ) → rows_item n (wide_rows n k rows) q ≡ rows_item n rows q
  rows_shown rows q = ap (λ x. decimal q ++ codes "=" ++ x) (ap (row_text n) (row_wide n k rows q) ∙ row_shown (row_at rows q))

  settled_wide : (r : Outcome) → settled_text n (wide_outcome n k r) ≡ settled_text n r
  settled_wide r =
      let told = λ (done rows : ℕ → List ℕ).
      codes "\n  done " ++ separated (codes " ") (map done r.members)
      ++ codes "\n  rows " ++ separated (codes " ") (map rows r.members)
      ++ codes "\n  votes " ++ votes_text r.votes r.due ++ codes "\n" in
      ap (λ (f : ℕ → List ℕ). told f (rows_item n (wide_rows n k r.rows))) (fun_ext (done_wide r.done))
      ∙ ap (told (done_item r.done)) (fun_ext (rows_shown r.rows))

  beliefs_wide : (retire : ℕ) (r : Outcome) (o : Option AgreedView) → beliefs_text n retire (wide_outcome n k r) (option_map (wide_agreed n k) o) ≡ beliefs_text n retire r o
  beliefs_wide retire r None = refl
  beliefs_wide retire r (Some a) =
      ap (λ x. mode_text r.mode ++ x ++ settled_text n (wide_outcome n k r)) (state_wide retire a)
      ∙ ap (λ x. mode_text r.mode ++ state_text n retire a ++ x) (settled_wide r)

  node_wide : (retire i : ℕ) (letter : List ℕ) (r : Outcome) → node_text n retire i letter (wide_outcome n k r) ≡ node_text n retire i letter r
  node_wide retire i letter r = ap (λ x. codes "node " ++ decimal i ++ codes " " ++ letter ++ codes " " ++ x) (beliefs_wide retire r r.agreed)

found_at : {X Y : Type 0} (f : X → Y) (xs : List X) (i : ℕ) → slice_get (map f xs) i ≡ option_map f (slice_get xs i)
found_at f [] i = refl
found_at f (x ∷ xs) zero = refl
found_at f (x ∷ xs) (suc i) = found_at f xs i

module _ (k : ℕ) (t : PeriodView) where
  recorded_wide : (i : ℕ) (o : Option Outcome) → recorded_text (wide_record k t) i (option_map (wide_outcome t.nodes k) o) ≡ recorded_text t i o
  recorded_wide i None = refl
  recorded_wide i (Some r) =
      ap (λ c. node_text t.nodes t.retire i (class_text c) (wide_outcome t.nodes k r)) (get_padded t.classes k N i)
      ∙ node_wide t.nodes k t.retire i (class_text (slice_index_or t.classes i N)) r

  nodes_wide : nodes_text (wide_record k t) ≡ nodes_text t
  nodes_wide =
      ap (λ (f : ℕ → List ℕ). flat_map f (ids_below t.nodes))
      (fun_ext (λ i. ap (recorded_text (wide_record k t) i) (found_at (wide_outcome t.nodes k) t.records i) ∙ recorded_wide i (slice_get t.records i)))

  pub head_wide : head_text (wide_record k t) ≡ head_text t
  head_wide = refl

  clock_wide : t.nodes ≤ length t.classes → (o : Option ClockShown) → HasClockRoom t.nodes o → clock_text (wide_record k t) (option_map (wide_shown k) o) ≡ clock_text t o
  clock_wide room None h = refl
  clock_wide room (Some s) h =
      let told = λ (classes : List Class) (offset : List ℤ).
      codes "clock skew " ++ spread_text (range_of (sound_numbers classes offset)) ++ codes " offsets " ++ signed_text offset ++ codes "\n" in
      ap (λ xs. told xs (take t.nodes (longer k s.offset))) (take-append-le t.nodes t.classes (replicate k N) room)
      ∙ ap (told (take t.nodes t.classes)) (take-append-le t.nodes s.offset (replicate k (pos 0)) h)

  pub period_text_wide : HasRoom t → (plan : Plan) (trace : Bool) → period_text plan trace (wide_record k t) ≡ period_text plan trace t
  period_text_wide room plan trace =
      ap (λ x. head_text t ++ x ++ clock_text (wide_record k t) (wide_record k t).clock ++ (if trace then frames_text plan t else [])) nodes_wide
      ∙ ap (λ x. head_text t ++ nodes_text t ++ x ++ (if trace then frames_text plan t else [])) (clock_wide room.classes t.clock room.clock)
