-- How a text that is written in pieces comes to be written whole: what holds after some of its pieces.
use Rattle.std.proofs.Common.{◌≡◌, ℕ, ◌+◌, ◌≤◌, List, [], length, take, ◌++◌, arith, sym, ◌∙◌, append_assoc, append-nil, length-append, refl, Result, Ok, Err, Option, subst}
use Rattle.std.specs.Prelude.{IsErr}
use Rattle.std.specs.Io.KnownBytes.{Appends}
use Rattle.std.proofs.KnownBytes.{Appends-trans, Appends-nil}
use Rattle.std.proofs.lemmas.List.{take-append-le}
use Rattle.std.proofs.Math.Seq.{take-append-add}
use Rattle.span_io.specs.Causes.{Writes, AppendsPrefix}

-- a prefix of the first part is a prefix of the whole
pub front : (old new : Option (List ℕ)) (xs ys : List ℕ) → AppendsPrefix old new xs → AppendsPrefix old new (xs ++ ys)
front old new xs ys p = let k = p.0 in let h : k ≤ length xs = p.1 in (k, omega (arith, length-append xs ys, h), rw (take-append-le) p.2)

-- the first part whole, and a prefix of the second
pub back : (old mid new : Option (List ℕ)) (xs ys : List ℕ) → Appends old mid xs → AppendsPrefix mid new ys → AppendsPrefix old new (xs ++ ys)
back old mid new xs ys p q = (length xs + q.0, omega (arith, length-append xs ys, q.1), rw take-append-add (Appends-trans old mid new xs (take q.0 ys) p q.2))

-- a piece was written, and then the rest as it was
pub then : {T E : Type 0} (old mid new : Option (List ℕ)) (a b c : ℕ) (xs ys : List ℕ) (u : T) (r : Result T E) → Writes {E = E} old mid a b xs (Ok u) → Writes mid new b c ys r → Writes old new a c (xs ++ ys) r
then old mid new a b c xs ys u (Ok v) p q = record { whole = Appends-trans old mid new xs ys p.whole q.whole; prefix = tt; later = omega (arith, p.later, q.later); faultless = q.faultless ∙ p.faultless; failed = tt }
then old mid new a b c xs ys u (Err e) p q = record { whole = tt; prefix = back old mid new xs ys p.whole q.prefix; later = omega (arith, p.later, q.later); faultless = tt; failed = omega (arith, p.later, q.failed) }

-- a piece failed, and the rest was not tried
pub stop : {T U E F : Type 0} (old new : Option (List ℕ)) (a b : ℕ) (xs ys : List ℕ) (e : E) (r : Result U F) → IsErr r → Writes {T = T} old new a b xs (Err e) → Writes old new a b (xs ++ ys) r
stop old new a b xs ys e (Ok v) h p = cc
stop old new a b xs ys e (Err f) h p = record { whole = tt; prefix = front old new xs ys p.prefix; later = p.later; faultless = tt; failed = p.failed }

-- A part of a text was written, and the rest is to come. The count of faults stayed.
pub record SoFar (old now : Option (List ℕ)) (before count : ℕ) (whole rest : List ℕ) : Type 0 where
  pub done : List ℕ
  pub splits : done ++ rest ≡ whole
  pub written : Appends old now done
  pub same : count ≡ before

-- nothing was written yet
pub start : (a : Option (List ℕ)) (f : ℕ) (whole : List ℕ) → SoFar a a f f whole whole
start a f whole = record { done = []; splits = refl; written = Appends-nil a; same = refl }

-- one more piece was written
pub more : {T E : Type 0} (old mid new : Option (List ℕ)) (b0 b1 b2 : ℕ) (whole xs rest : List ℕ) (u : T) → SoFar old mid b0 b1 whole (xs ++ rest) → Writes {E = E} mid new b1 b2 xs (Ok u) → SoFar old new b0 b2 whole rest
more old mid new b0 b1 b2 whole xs rest u p q = record {
  done = p.done ++ xs;
  splits = append_assoc p.done xs rest ∙ p.splits;
  written = Appends-trans old mid new p.done xs p.written q.whole;
  same = q.faultless ∙ p.same;
}

-- all pieces were written
pub finish : {T E : Type 0} (old new : Option (List ℕ)) (b0 b1 : ℕ) (whole : List ℕ) (u : T) → SoFar old new b0 b1 whole [] → Writes {E = E} old new b0 b1 whole (Ok u)
finish old new b0 b1 whole u p = record { whole = subst (λ xs. Appends old new xs) (sym (append-nil p.done) ∙ p.splits) p.written; prefix = tt; later = omega (arith, p.same); faultless = p.same; failed = tt }

-- the last piece of a text ended as it did
pub last : {T E : Type 0} (old mid new : Option (List ℕ)) (b0 b1 b2 : ℕ) (whole xs : List ℕ) (r : Result T E) → SoFar old mid b0 b1 whole xs → Writes mid new b1 b2 xs r → Writes old new b0 b2 whole r
last old mid new b0 b1 b2 whole xs (Ok u) p q = record {
  whole = subst (λ ys. Appends old new ys) p.splits (Appends-trans old mid new p.done xs p.written q.whole);
  prefix = tt;
  later = omega (arith, p.same, q.later);
  faultless = q.faultless ∙ p.same;
  failed = tt;
}
last old mid new b0 b1 b2 whole xs (Err e) p q = record {
  whole = tt;
  prefix = subst (λ ys. AppendsPrefix old new ys) p.splits (back old mid new p.done xs p.written q.prefix);
  later = omega (arith, p.same, q.later);
  faultless = tt;
  failed = omega (arith, p.same, q.failed);
}

-- a piece failed, and what comes after it was not tried
pub fail : {T U E F : Type 0} (old mid new : Option (List ℕ)) (b0 b1 b2 : ℕ) (whole xs rest : List ℕ) (e : E) (r : Result U F) → IsErr r → SoFar old mid b0 b1 whole (xs ++ rest) → Writes {T = T} mid new b1 b2 xs (Err e) → Writes old new b0 b2 whole r
fail old mid new b0 b1 b2 whole xs rest e (Ok v) h p q = cc
fail old mid new b0 b1 b2 whole xs rest e (Err f) h p q = record {
  whole = tt;
  prefix = subst (λ ys. AppendsPrefix old new ys) p.splits (back old mid new p.done (xs ++ rest) p.written (front mid new xs rest q.prefix));
  later = omega (arith, p.same, q.later);
  faultless = tt;
  failed = omega (arith, p.same, q.failed);
}
