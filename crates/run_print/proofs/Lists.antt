-- Lists of texts, a number at a time.
use Rattle.std.proofs.Common.{◌≡◌, ◌≢◌, ℕ, zero, suc, ◌+◌, ◌/◌, ◌%◌, ◌<◌, true, List, [], ◌∷◌, ◌++◌, length, map, take, drop, replicate, refl, sym, ap, ◌∙◌, arith, append_assoc, append-nil, Option, None, Some, ℤ}
use Rattle.std.proofs.Common.{ne_eqb}
use Rattle.std.proofs.lemmas.Bool.{cond-true, cond-false}
use Rattle.std.specs.Prelude.{◌==◌, codes, decimal, slice_index_or, is_none, option_map}
use Rattle.std.specs.List.{flat_map, range_with_len}
use Rattle.std.proofs.Math.Seq.{take-add}
use Rattle.std.proofs.lemmas.Fmt.{decimal_digit, decimal_step}
use Rattle.std.proofs.lemmas.Grind.{flat_map-append, replicate_next}
use Rattle.std.proofs.lemmas.List.FromFn.{map-range_with_len_more, length-map-range_with_len}
use Rattle.hex.specs.Hex.{encode_with, encode_lower, lower_digits}
use Rattle.node_grid.specs.NodeSet.{ids_below}
use Rattle.run_text.specs.Text.{separated, separator_at, vote_item, votes_text}
use Rattle.slot_plan.specs.Ticks.{on_time}
use Rattle.fault_classes.specs.Change.{Change}
use Rattle.fault_classes.specs.Line.{effect_at}
use Rattle.fault_classes.specs.Plan.{Plan}
use Rattle.fault_link.specs.Arrival.{delivered_of}
use Rattle.cluster_periods.specs.Record.{PeriodView, frame_at}
use Rattle.run_text.specs.TraceText.{bytes_text, start_text, frame_text, link_text}
use Rattle.run_print.proofs.Joining.{joined-push}

range_next : (a n k : ℕ) → a + n ≡ k → range_with_len a (n + 1) ≡ range_with_len a n ++ k ∷ []
range_next a zero k e = let same : a ≡ k = omega arith in rw same refl
range_next a (suc n) k e = let more : suc n + 1 ≡ suc (n + 1) = omega arith in rw more (ap (λ xs. a ∷ xs) (range_next (a + 1) n k (omega arith)))

-- the joined text of one more number
pub joined_next : (separator : List ℕ) (f : ℕ → List ℕ) (n : ℕ) → separated separator (map f (ids_below (n + 1))) ≡ separated separator (map f (ids_below n)) ++ (separator_at separator n ++ f n)
joined_next separator f n =
    ap (separated separator) (map-range_with_len_more f 0 n n (omega arith)) ∙ joined-push separator (map f (ids_below n)) (f n)
    ∙ ap (λ k. separated separator (map f (ids_below n)) ++ (separator_at separator k ++ f n)) (length-map-range_with_len f 0 n)

-- the text of one more copy
pub copy_next : {X : Type 0} (f : X → List ℕ) (x : X) (n : ℕ) → flat_map f (replicate (n + 1) x) ≡ flat_map f (replicate n x) ++ f x
copy_next f x n = ap (flat_map f) (replicate_next n x) ∙ flat_map-append f (replicate n x) (x ∷ []) ∙ ap (λ xs. flat_map f (replicate n x) ++ xs) (append-nil (f x))

pub encode-append : (digits xs ys : List ℕ) → encode_with digits (xs ++ ys) ≡ encode_with digits xs ++ encode_with digits ys
unfolding encode_with
encode-append digits [] ys = refl
encode-append digits (x ∷ xs) ys = ap (λ rest. slice_index_or digits (x / 16) 0 ∷ slice_index_or digits (x % 16) 0 ∷ rest) (encode-append digits xs ys)

-- the hexadecimal of one more piece
pub piece_next : (bytes : List ℕ) (n k : ℕ) → encode_lower (take (n + k) bytes) ≡ encode_lower (take n bytes) ++ encode_lower (take k (drop n bytes))
piece_next bytes n k = ap encode_lower (take-add n k bytes) ∙ encode-append lower_digits (take n bytes) (take k (drop n bytes))

-- where a channel is due, the votes are told one by one
pub some_votes : (votes : List (Option ℤ)) (due : List ℕ) → 0 < length due → votes_text votes due ≡ separated (codes " ") (map (vote_item votes) due)
some_votes votes [] h = absurd (omega (arith, h))
some_votes votes (c ∷ cs) h = refl

pub encode-none : (digits : List ℕ) → encode_with digits [] ≡ []
unfolding encode_with
encode-none digits = refl

-- where there are bytes, they are told in hexadecimal
pub some_bytes : (bytes : List ℕ) → 0 < length bytes → bytes_text bytes ≡ encode_lower bytes
some_bytes [] h = absurd (omega (arith, h))
some_bytes (b ∷ bs) h = refl

on_time_text : decimal on_time ≡ codes "15"
on_time_text = decimal_step 15 (omega arith) (omega arith) ∙ ap (λ tens. tens ++ codes "5") (decimal_digit 1 (omega arith))

between_on_time : (start : List ℕ) → start ++ codes " " ++ decimal on_time ++ codes " " ≡ start ++ codes " 15 "
between_on_time start =
    ap (λ tick. start ++ codes " " ++ tick ++ codes " ") on_time_text
    ∙ append_assoc (start ++ codes " ") (codes "15") (codes " ") ∙ append_assoc start (codes " ") (codes "15 ")

-- the line of a frame that is on time, by what stands before the tick and what stands from there on
on_time_line : (start bytes : List ℕ) → start ++ codes " " ++ decimal on_time ++ codes " " ++ bytes ++ codes "\n" ≡ start ++ (codes " 15 " ++ bytes ++ codes "\n")
on_time_line start bytes =
    ap (λ front. front ++ bytes ++ codes "\n") (between_on_time start)
    ∙ ap (λ front. front ++ codes "\n") (append_assoc start (codes " 15 ") bytes) ∙ append_assoc start (codes " 15 " ++ bytes) (codes "\n")

-- what a link's lines are, of another receiver than the sender, and of the sender itself
pub link_some : (plan : Plan) (t : PeriodView) (slot from to : ℕ) → to ≢ from
    → link_text plan t slot from to ≡ flat_map (frame_text (start_text t.period slot from) to) (delivered_of (effect_at plan.lines t.period slot from to) (frame_at t slot from))
link_some plan t slot from to h = cond-false (to == from) _ _ (ne_eqb to from h)

pub link_none : (plan : Plan) (t : PeriodView) (slot from to : ℕ) → to ≡ from → link_text plan t slot from to ≡ []
link_none plan t slot from to h = let same : (to == from) ≡ true = grind (arith, h) in cond-true (to == from) _ _ same

-- and what they are where no fault line touches the frame
pub link_untouched : (plan : Plan) (t : PeriodView) (slot from to : ℕ) → to ≢ from → effect_at plan.lines t.period slot from to ≡ None
    → link_text plan t slot from to ≡ start_text t.period slot from ++ decimal to ++ (codes " 15 " ++ bytes_text (frame_at t slot from) ++ codes "\n")
link_untouched plan t slot from to h untouched =
    let start = start_text t.period slot from in
    link_some plan t slot from to h
    ∙ ap (λ (e : Option Change). flat_map (frame_text start to) (delivered_of e (frame_at t slot from))) untouched
    ∙ append-nil (frame_text start to (on_time, frame_at t slot from))
    ∙ on_time_line (start ++ decimal to) (bytes_text (frame_at t slot from))

pub no_effect : {X Y : Type 0} (f : X → Y) (found : Option X) (e : Option Y) → is_none found ≡ true → option_map f found ≡ e → e ≡ None
no_effect f None e h k = sym k
no_effect f (Some x) e h k = cc
