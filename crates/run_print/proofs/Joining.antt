-- Texts that are printed one after the other.
use Rattle.std.proofs.Common.{◌≡◌, ◌<◌, ◌≤◌, ℕ, zero, suc, arith, List, [], ◌∷◌, ◌++◌, length, refl, sym, ap, subst, ◌∙◌, append_assoc, append-nil, Option, Some, Result, Err, true, false}
use Rattle.std.specs.List.{flat_map}
use Rattle.std.proofs.lemmas.Grind.{flat_map-append}
use Rattle.std.proofs.KnownBytes.{Appends-nil}
use Rattle.std.specs.Io.KnownBytes.{Appends}
use Rattle.span_io.specs.Causes.{Writes}
use Rattle.span_io.specs.Progress.{front}
use Rattle.run_print.specs.Printing.{Gathers, Fails, Printed, PrintedIf, Prints, Finishes, WritesText}
use Rattle.run_print.specs.declared.printer.Printer.{Printer}
use Rattle.run_text.specs.Text.{separated, separator_at}

pub joined-push : (separator : List ℕ) (xs : List (List ℕ)) (x : List ℕ) → separated separator (xs ++ x ∷ []) ≡ separated separator xs ++ (separator_at separator (length xs) ++ x)
joined-push separator [] x = append-nil x
joined-push separator (y ∷ ys) x =
    let f : List ℕ → List ℕ = λ z. separator ++ z in
    ap (λ z. y ++ z) (flat_map-append f ys (x ∷ []) ∙ ap (λ z. flat_map f ys ++ z) (append-nil (separator ++ x)))
    ∙ sym (append_assoc y (flat_map f ys) (separator ++ x))

-- the separator of a later item, and of the first
pub later : (separator : List ℕ) (k : ℕ) → 0 < k → separator_at separator k ≡ separator
later separator zero h = absurd (omega (arith, h))
later separator (suc k) h = refl

pub first : (separator : List ℕ) (k : ℕ) → k ≤ 0 → separator_at separator k ≡ []
first separator zero h = refl
first separator (suc k) h = absurd (omega (arith, h))

appends_none : (old now : Option (List ℕ)) (front : List ℕ) → old ≡ Some [] → now ≡ Some [] → Appends old now front → front ≡ []
appends_none old now front e f h =
    let same : [] ≡ front = subst (λ o. Appends (Some []) o front) f (subst (λ o. Appends o now front) e h) in
    sym same

-- nothing is printed yet
pub begun : {S : Type 0} {room : ℕ} (written : S → Option (List ℕ)) (faults : S → ℕ) (a : Printer room) (s : S) → a.gathered ≡ [] → a.failed ≡ false
    → Printed (written s) (faults s) [] a (written s) (faults s)
begun written faults a s empty going =
    let v : Option (List ℕ) = written s in
    let k : ℕ = faults s in
    let gathers : Gathers v v k k a.gathered [] = record { front = []; splits = empty; written = Appends-nil v; same = refl } in
    subst (λ b. PrintedIf b v v k k a.gathered []) (sym going) gathers

five : (xs p q u v w : List ℕ) → xs ++ p ++ q ++ u ++ v ++ w ≡ xs ++ (p ++ q ++ u ++ v ++ w)
five xs p q u v w =
    ap (λ y. y ++ w) (ap (λ y. y ++ v) (ap (λ y. y ++ u) (append_assoc xs p q) ∙ append_assoc xs (p ++ q) u) ∙ append_assoc xs (p ++ q ++ u) v)
    ∙ append_assoc xs (p ++ q ++ u ++ v) w

module _ {S : Type 0} {room : ℕ} {written : S → Option (List ℕ)} {faults : S → ℕ} where
  -- one text after the other
  pub then : {a b c : Printer room} {r s t : S} {xs ys : List ℕ} → Prints written faults a r b s xs → Prints written faults b s c t ys → Prints written faults a r c t (xs ++ ys)
  then {a} {b} {c} {r} {s} {t} {xs} {ys} first second = record {
    goes_on = λ old before done h.
        subst (λ text. Printed old before text c (written t) (faults t)) (append_assoc done xs ys) (second.goes_on old before (done ++ xs) (first.goes_on old before done h));
  }

  -- one text after the other, where the second is printed as two
  pub then_both : {a b c : Printer room} {r s t : S} {xs : List ℕ} (ys zs : List ℕ) → Prints written faults a r b s xs → Prints written faults b s c t (ys ++ zs) → Prints written faults a r c t (xs ++ ys ++ zs)
  then_both {a} {b} {c} {r} {s} {t} {xs} ys zs first second = subst (λ text. Prints written faults a r c t text) (sym (append_assoc xs ys zs)) (then first second)

  -- one text after the other, where the second is printed as three
  pub then_three : {a b c : Printer room} {r s t : S} {xs : List ℕ} (p q u : List ℕ) → Prints written faults a r b s xs → Prints written faults b s c t (p ++ q ++ u) → Prints written faults a r c t (xs ++ p ++ q ++ u)
  then_three {a} {b} {c} {r} {s} {t} {xs} p q u first second =
      subst (λ text. Prints written faults a r c t text) (sym (ap (λ y. y ++ u) (append_assoc xs p q) ∙ append_assoc xs (p ++ q) u)) (then first second)

  -- one text after the other, where the second is printed as five
  pub then_five : {a b c : Printer room} {r s t : S} {xs : List ℕ} (p q u v w : List ℕ) → Prints written faults a r b s xs → Prints written faults b s c t (p ++ q ++ u ++ v ++ w) → Prints written faults a r c t (xs ++ p ++ q ++ u ++ v ++ w)
  then_five {a} {b} {c} {r} {s} {t} {xs} p q u v w first second = subst (λ text. Prints written faults a r c t text) (sym (five xs p q u v w)) (then first second)

  -- a text and a further piece, where the text stands behind another
  pub then_inside : {a b c : Printer room} {r s t : S} (xs ys zs : List ℕ) → Prints written faults a r b s (xs ++ ys) → Prints written faults b s c t zs → Prints written faults a r c t (xs ++ (ys ++ zs))
  then_inside {a} {b} {c} {r} {s} {t} xs ys zs first second = subst (λ text. Prints written faults a r c t text) (append_assoc xs ys zs) (then first second)

  -- the text of a further item, printed with its separator
  pub further_whole : {a b c : Printer room} {r s t : S} (separator : List ℕ) (items : List (List ℕ)) (item : List ℕ)
      → Prints written faults a r b s (separated separator items) → Prints written faults b s c t (separator_at separator (length items) ++ item)
      → Prints written faults a r c t (separated separator (items ++ item ∷ []))
  further_whole {a} {b} {c} {r} {s} {t} separator items item before last =
      subst (λ text. Prints written faults a r c t text) (sym (joined-push separator items item)) (then before last)

  -- the text of a further item, behind a separator
  pub further : {a b c d : Printer room} {r s t u : S} (separator : List ℕ) (items : List (List ℕ)) (item : List ℕ)
      → Prints written faults a r b s (separated separator items) → Prints written faults b s c t (separator_at separator (length items)) → Prints written faults c t d u item
      → Prints written faults a r d u (separated separator (items ++ item ∷ []))
  further {a} {b} {c} {d} {r} {s} {t} {u} separator items item before between last =
      subst (λ text. Prints written faults a r d u text) (sym (joined-push separator items item)) (then before (then between last))

  -- a text that is printed from the start, and then finished
  pub finished : {T E : Type 0} {a b : Printer room} {r s t : S} {text : List ℕ} {result : Result T E} → a.gathered ≡ [] → a.failed ≡ false
      → Prints written faults a r b s text → Finishes written faults b s t result → WritesText written faults r t text result
  finished {T} {E} {a} {b} {r} {s} {t} {text} {result} empty going prints finishes =
      finishes (written r) (faults r) text (prints.goes_on (written r) (faults r) [] (begun written faults a r empty going))

-- where the sink failed, the rest of a text is of no account
pub broken : {T E : Type 0} {room : ℕ} (old now : Option (List ℕ)) (before count : ℕ) (text rest : List ℕ) (p : Printer room) (e : E)
    → Printed old before text p now count → p.failed ≡ true → Writes {T = T} old now before count (text ++ rest) (Err e)
broken old now before count text rest p e printed failed =
    let fails : Fails old now before count text = subst (λ b. PrintedIf b old now before count p.gathered text) failed printed in
    record { whole = tt; prefix = front old now text rest fails.prefix; later = fails.later; faultless = tt; failed = fails.rose }

-- where nothing can be written, the text is gathered
pub all_gathered : {S : Type 0} {room : ℕ} (written : S → Option (List ℕ)) (faults : S → ℕ) (a b : Printer room) (r t : S) (text : List ℕ)
    → written r ≡ Some [] → written t ≡ Some [] → a.gathered ≡ [] → a.failed ≡ false → b.failed ≡ false → Prints written faults a r b t text → b.gathered ≡ text
all_gathered written faults a b r t text first last empty going still prints =
    let k : ℕ = faults r in
    let v : Option (List ℕ) = written r in
    let gathers : Gathers v v k k a.gathered [] = record { front = []; splits = empty; written = Appends-nil v; same = refl } in
    let printed : PrintedIf b.failed v (written t) k (faults t) b.gathered text = prints.goes_on v k [] (subst (λ b. PrintedIf b v v k k a.gathered []) (sym going) gathers) in
    let all : Gathers v (written t) k (faults t) b.gathered text = subst (λ c. PrintedIf c v (written t) k (faults t) b.gathered text) still printed in
    let none : all.front ≡ [] = appends_none v (written t) all.front first last all.written in
    subst (λ front. front ++ b.gathered ≡ text) none all.splits

-- nothing is printed where nothing happens
pub nothing : {S : Type 0} {room : ℕ} (written : S → Option (List ℕ)) (faults : S → ℕ) (p : Printer room) (s : S) → Prints written faults p s p s []
nothing written faults p s = record { goes_on = λ old before done h. subst (λ text. Printed old before text p (written s) (faults s)) (sym (append-nil done)) h }
