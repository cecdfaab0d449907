use Rattle.std.proofs.Common.{◌≡◌, ℕ, ◌≤◌, List, length, drop, take, Option, Result, Ok, Err, arith, refl, ◌∙◌, length-drop, None, Some}
use Rattle.std.specs.Prelude.{IsErr}
use Rattle.std.specs.Io.KnownBytes.{Appends, Keeps}
use Rattle.std.proofs.Math.Seq.{take-add}
use Rattle.std.proofs.KnownBytes.{Appends-nil, Appends-trans}
use Rattle.std.proofs.lemmas.List.{take_rest, take_all}
use Rattle.span_io.specs.Causes.{Writes, HasCause}
use Rattle.span_io.proofs.writing.write_all.Goals as goal

appends_kept : (a b c : Option (List ℕ)) (bs : List ℕ) → Appends a b bs → Keeps b c → Appends a c bs
appends_kept None b c bs p q = tt
appends_kept (Some x) None c bs p q = absurd p
appends_kept (Some x) (Some y) None bs p q = absurd q
appends_kept (Some x) (Some y) (Some z) bs p q = q ∙ p

-- a write failed, and the bytes before it were written
stopped : {T E F : Type 0} (old mid new : Option (List ℕ)) (before same now at : ℕ) (bytes : List ℕ) (e : E) (r : Result (Unit {0}) F) → IsErr r → at ≤ length bytes → Appends old mid (take at bytes)
    → same ≡ before → Keeps mid new → HasCause {T = T} same now (Err e) → Writes old new before now bytes r
stopped old mid new before same now at bytes e (Ok u) bad few so_far still kept cause = absurd cc
stopped old mid new before same now at bytes e (Err f) bad few so_far still kept cause = record {
  whole = tt;
  prefix = (at, few, appends_kept old mid new (take at bytes) so_far kept);
  later = omega (arith, still, cause.later);
  faultless = tt;
  failed = omega (arith, still, cause.failed);
}

pub loop-at-init : goal.loop-at-init
loop-at-init g c = (omega arith, Appends-nil _, refl)

pub loop-at-smaller : goal.loop-at-smaller
loop-at-smaller g c = omega (arith, c.loop-at-test.true, c.in_ok-at.ensures.bound.0)

pub returns-in_err-at : goal.returns-in_err-at
returns-in_err-at g c =
    stopped _ _ _ _ _ _ c.loop-at.at c.args.bytes.now _ c.from_residual.result c.from_residual.ensures.0 c.loop-at.invariant.0 c.loop-at.invariant.1 c.loop-at.invariant.2
    c.in_err-at.ensures.bytes c.in_err-at.ensures.cause

pub returns : goal.returns
returns g c = record {
  whole = rw (take_all c.loop-at.at c.args.bytes.now c.loop-at-test.false) at c.loop-at.invariant.1;
  prefix = tt;
  later = omega (arith, c.loop-at.invariant.2);
  faultless = c.loop-at.invariant.2;
  failed = tt;
}

pub loop-at-preserved : goal.loop-at-preserved
loop-at-preserved g c =
    let at = c.loop-at.at in
    let within : c.in_ok-at.field-0 ≤ length (drop at c.args.bytes.now) = rw take_rest at c.in_ok-at.ensures.bound.1 in
    let whole = rw take_rest at c.in_ok-at.ensures.bytes in
    let step = Appends-trans _ _ _ _ _ c.loop-at.invariant.1 whole in
    (omega (arith, length-drop at c.args.bytes.now, c.loop-at.invariant.0), rw take-add step, c.in_ok-at.ensures.cause.faultless ∙ c.loop-at.invariant.2)
