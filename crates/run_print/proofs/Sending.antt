-- What a printer and its sink have after a piece of text.
use Rattle.std.proofs.Common.{◌≡◌, ℕ, Bool, true, false, List, [], ◌++◌, arith, sym, ap, subst, ◌∙◌, append_assoc, append-nil, Option, Result, Ok, Err}
use Rattle.std.specs.Prelude.{is_err}
use Rattle.std.proofs.KnownBytes.{Appends-trans}
use Rattle.span_io.specs.Causes.{Writes, AppendsPrefix}
use Rattle.span_io.specs.Progress.{front, back}
use Rattle.run_print.specs.Printing.{Gathers, Fails, PrintedIf, Prints}
use Rattle.run_print.specs.declared.printer.Printer.{Printer}

-- what is gathered and the piece go to the sink
written : {T E : Type 0} (old w w' : Option (List ℕ)) (before f f' : ℕ) (g t x : List ℕ) (r : Result T E) → Gathers old w before f g t → Writes w w' f f' (g ++ x) r → PrintedIf (is_err r) old w' before f' [] (t ++ x)
written old w w' before f f' g t x (Ok v) h q = record {
  front = h.front ++ (g ++ x);
  splits = append-nil (h.front ++ (g ++ x)) ∙ sym (append_assoc h.front g x) ∙ ap (λ y. y ++ x) h.splits;
  written = Appends-trans old w w' h.front (g ++ x) h.written q.whole;
  same = q.faultless ∙ h.same;
}
written old w w' before f f' g t x (Err e) h q = record {
  prefix = subst (λ y. AppendsPrefix old w' y) (sym (append_assoc h.front g x) ∙ ap (λ y. y ++ x) h.splits) (back old w w' h.front (g ++ x) h.written q.prefix);
  rose = omega (arith, h.same, q.failed);
  later = omega (arith, h.same, q.later);
}

pub sent : {T E : Type 0} (failed now : Bool) (old w w' : Option (List ℕ)) (before f f' : ℕ) (g t x : List ℕ) (r : Result T E) → failed ≡ false → now ≡ is_err r
    → Writes w w' f f' (g ++ x) r → PrintedIf failed old w before f g t → PrintedIf now old w' before f' [] (t ++ x)
sent failed now old w w' before f f' g t x r e n q h =
    subst (λ b. PrintedIf b old w' before f' [] (t ++ x)) (sym n) (written old w w' before f f' g t x r (subst (λ b. PrintedIf b old w before f g t) e h) q)

-- nothing goes there any more
pub dropped : (failed now : Bool) (old w : Option (List ℕ)) (before f : ℕ) (g g' t x : List ℕ) → failed ≡ true → now ≡ failed → PrintedIf failed old w before f g t → PrintedIf now old w before f g' (t ++ x)
dropped failed now old w before f g g' t x e n h =
    let fails : Fails old w before f t = subst (λ b. PrintedIf b old w before f g t) e h in
    let more : Fails old w before f (t ++ x) = record { prefix = front old w t x fails.prefix; rose = fails.rose; later = fails.later } in
    subst (λ b. PrintedIf b old w before f g' (t ++ x)) (sym (n ∙ e)) more

-- a piece that goes to the sink where nothing is gathered
pub sent_alone : {T E : Type 0} (failed now : Bool) (old w w' : Option (List ℕ)) (before f f' : ℕ) (g t x : List ℕ) (r : Result T E) → g ≡ [] → failed ≡ false → now ≡ is_err r
    → Writes w w' f f' x r → PrintedIf failed old w before f g t → PrintedIf now old w' before f' g (t ++ x)
sent_alone failed now old w w' before f f' g t x r none e n q h =
    subst (λ y. PrintedIf now old w' before f' y (t ++ x)) (sym none) (sent failed now old w w' before f f' [] t x r e n (q) (subst (λ y. PrintedIf failed old w before f y t) none h))

-- what is gathered behind what was, or nothing where nothing goes there any more
more : (b : Bool) (old w : Option (List ℕ)) (before f : ℕ) (g t x : List ℕ) → PrintedIf b old w before f g t → PrintedIf b old w before f (g ++ x) (t ++ x)
more false old w before f g t x h = record { front = h.front; splits = sym (append_assoc h.front g x) ∙ ap (λ y. y ++ x) h.splits; written = h.written; same = h.same }
more true old w before f g t x h = record { prefix = front old w t x h.prefix; rose = h.rose; later = h.later }

-- a piece that is gathered
pub kept : (failed : Bool) (old w : Option (List ℕ)) (before f : ℕ) (g g' t x : List ℕ) → g' ≡ g ++ x → PrintedIf failed old w before f g t → PrintedIf failed old w before f g' (t ++ x)
kept failed old w before f g g' t x e h = subst (λ y. PrintedIf failed old w before f y (t ++ x)) (sym e) (more failed old w before f g t x h)

-- a printer in which a piece found no room is the printer before
pub unchanged : {S : Type 0} {room : ℕ} {written : S → Option (List ℕ)} {faults : S → ℕ} {b : Printer room} {r s : S} {text : List ℕ} (a : Printer room) (g : List ℕ) → g ≡ a.gathered
    → Prints written faults (record { gathered = g; failed = a.failed }) r b s text → Prints written faults a r b s text
unchanged {S} {room} {written} {faults} {b} {r} {s} {text} a g e h = subst (λ (y : List ℕ). Prints written faults (record { gathered = y; failed = a.failed }) r b s text) e h
