use Rattle.std.proofs.Common.{◌≡◌, ◌+◌, ◌≤◌, None, Some, sym, ap, ◌∙◌, arith, inl, inr, length, length-append, [], ◌∷◌, get_or, set, lit<, ℕ, List, ◌<◌, ◌++◌, append-nil, zero, suc, subst, refl}
use Rattle.node_grid.specs.ListFacts.{middle_below}
use Rattle.node_grid.specs.NumberFacts.{zero_there}
use Rattle.error_reports.specs.Charge.{is_sender, is_accuser}
use Rattle.node_grid.specs.Count.{count}
use Rattle.std.specs.Prelude.{All, replicate}
use Rattle.node_grid.specs.Capacity.{IsCapacity}
use Rattle.std.specs.Int.{bit_at}
use Rattle.node_grid.specs.Planes.{count_at}
use Rattle.node_grid.specs.Matrix.{row_at}
use Rattle.error_reports.proofs.Voting.{split_more}
use Rattle.error_reports.proofs.Voters.{accusers_more, accusers_same, senders_more, senders_same, accusers_few}
use Rattle.std.proofs.lemmas.Nat.Bits.{bit_at-zero}
use Rattle.error_reports.proofs.charge_all.tally.Goals as goal

no_counts : (n planes j k : ℕ) → count_at (replicate planes (replicate n 0)) j k ≡ 0
no_counts n zero j k = refl
no_counts n (suc planes) j k = rw (zero_there n j, no_counts n planes j k, bit_at-zero k) refl

zero_counts : (n planes j k : ℕ) (counts : List (List ℕ)) → counts ≡ replicate planes (replicate n 0) → count_at counts j k ≡ 0
zero_counts n planes j k counts e = ap (λ xs. count_at xs j k) e ∙ no_counts n planes j k

member_in : (n : ℕ) (xs ys rest : List ℕ) (x : ℕ) → All (λ k. k < n) xs → xs ≡ ys ++ x ∷ rest → x < n
member_in n xs ys rest x all e = middle_below n ys rest x (subst (λ zs. All (λ k. k < n) zs) e all)

pub add-requires : goal.add-requires
add-requires g c =
    let rows = c.args.rows.now in
    let seen = c.loop-member.yielded in
    let part : length c.args.members.now ≡ length seen + length c.loop-member.member-iterator = ap length c.loop-member.invariant.split ∙ length-append seen c.loop-member.member-iterator in
    let few_members = c.iter-member-items.ensures.few in
    let small : length seen ≤ 16 = elim g.bound-1.eight_or_sixteen [ inl e ↦ omega (arith, e, part, few_members) | inr e ↦ omega (arith, e, part, few_members) ] in (
      elim g.bound-1.eight_or_sixteen [ inl e ↦ rw e (lit< tt) | inr e ↦ rw e (lit< tt) ],
      (
        elim g.bound-1.eight_or_sixteen [ inl e ↦ rw e (lit< tt) | inr e ↦ rw e (lit< tt) ],
        λ j k in_use few. omega (arith, c.loop-member.invariant.accusers j k in_use few, accusers_few rows seen j k),
      ),
    )

pub loop-member-preserved-in-Some-get : goal.loop-member-preserved-in-Some-get
loop-member-preserved-in-Some-get g c =
    let rows = c.args.rows.now in
    let seen = c.loop-member.yielded in
    let q = c.in-Some.member in
    let row = c.in-Some-get.row.now in
    let at : row_at rows q ≡ Some row = sym c.in-Some-get.ensures.row in
    let was = c.loop-member.invariant in
    record {
      can = tt;
      ends = tt;
      split = split_more _ _ _ _ _ was.split c.in-Some.ensures.steps;
      accusers = λ j k in_use few. accusers_more rows row seen j k q _ _ at (was.accusers j k in_use few)
          (c.add.ensures j k in_use few ∙ ap (λ masks. count_at c.loop-member.accusers j k + bit_at (get_or (set masks q 0) j 0) k) c.others.view_is);
      senders = senders_more rows row seen q _ at was.senders;
      few = omega (arith, length-append seen (q ∷ []), was.few);
    }

pub loop-member-preserved : goal.loop-member-preserved
loop-member-preserved g c =
    let rows = c.args.rows.now in
    let seen = c.loop-member.yielded in
    let q = c.in-Some.member in
    let none : row_at rows q ≡ None = sym c.in_default.ensures.row in
    let was = c.loop-member.invariant in
    record {
      can = tt;
      ends = tt;
      split = split_more _ _ _ _ _ was.split c.in-Some.ensures.steps;
      accusers = λ j k in_use few. accusers_same rows seen j k q _ none (was.accusers j k in_use few);
      senders = senders_same rows seen q _ none was.senders;
      few = omega (arith, length-append seen (q ∷ []), was.few);
    }

pub zero-accusers-requires : goal.zero-accusers-requires
zero-accusers-requires g c =
    let cap : IsCapacity g.row.N = g.bound-1.eight_or_sixteen in elim cap [ inl e ↦ rw e (lit< tt) | inr e ↦ rw e (lit< tt) ]

pub iter-member-items-requires : goal.iter-member-items-requires
iter-member-items-requires g c = (lit< tt, lit< tt)

pub next-requires : goal.next-requires
next-requires g c = (lit< tt, tt)

pub get-requires : goal.get-requires
get-requires g c =
    let cap : IsCapacity g.row.N = g.bound-1.eight_or_sixteen in (
      elim cap [ inl e ↦ rw e (lit< tt) | inr e ↦ rw e (lit< tt) ],
      elim cap [ inl e ↦ rw e (lit< tt) | inr e ↦ rw e (lit< tt) ],
    )

pub overflow_cast-others : goal.overflow_cast-others
overflow_cast-others g c =
    let seen : List ℕ = c.loop-member.yielded in
    let low : c.in-Some.member < g.row.N =
    member_in g.row.N c.args.members.now seen c.next.new.self c.in-Some.member c.iter-member-items.ensures.within (c.loop-member.invariant.split ∙ ap (λ (zs : List ℕ). seen ++ zs) c.in-Some.ensures.steps) in
    let fits = g.N.fits in
    omega arith

pub overflow_add-senders : goal.overflow_add-senders
overflow_add-senders g c =
    let seen : List ℕ = c.loop-member.yielded in
    let part : length c.args.members.now ≡ length seen + length c.loop-member.member-iterator = ap length c.loop-member.invariant.split ∙ length-append seen c.loop-member.member-iterator in
    let few = c.iter-member-items.ensures.few in
    let cap : IsCapacity g.row.N = g.bound-1.eight_or_sixteen in
    let s = c.loop-member.invariant.few in
    omega arith

pub loop-member-smaller-in-Some-get : goal.loop-member-smaller-in-Some-get
loop-member-smaller-in-Some-get g c = let e : length c.loop-member.member-iterator ≡ length (c.in-Some.member ∷ c.next.new.self) = ap length c.in-Some.ensures.steps in omega arith

pub loop-member-smaller : goal.loop-member-smaller
loop-member-smaller g c = let e : length c.loop-member.member-iterator ≡ length (c.in-Some.member ∷ c.next.new.self) = ap length c.in-Some.ensures.steps in omega arith

pub returns-clause-accusers : goal.returns-clause-accusers
returns-clause-accusers g c =
    let seen : List ℕ = c.loop-member.yielded in
    let all : seen ≡ c.args.members.now = sym (c.loop-member.invariant.split ∙ ap (λ (xs : List ℕ). seen ++ xs) c.in-None.ensures.steps.0 ∙ append-nil seen) in
    λ j k in_use few. c.loop-member.invariant.accusers j k in_use few ∙ ap (count (is_accuser c.args.rows.now j k)) all

pub returns-clause-senders : goal.returns-clause-senders
returns-clause-senders g c =
    let seen : List ℕ = c.loop-member.yielded in
    let all : seen ≡ c.args.members.now = sym (c.loop-member.invariant.split ∙ ap (λ (xs : List ℕ). seen ++ xs) c.in-None.ensures.steps.0 ∙ append-nil seen) in
    c.loop-member.invariant.senders ∙ ap (count (is_sender c.args.rows.now)) all

pub returns-clause-few : goal.returns-clause-few
returns-clause-few g c =
    let seen : List ℕ = c.loop-member.yielded in
    let part : length c.args.members.now ≡ length seen + length c.loop-member.member-iterator = ap length c.loop-member.invariant.split ∙ length-append seen c.loop-member.member-iterator in
    let few = c.iter-member-items.ensures.few in
    let cap : IsCapacity g.row.N = g.bound-1.eight_or_sixteen in
    let s = c.loop-member.invariant.few in
    omega arith

pub returns-clause-members : goal.returns-clause-members
returns-clause-members g c = c.iter-member-items.ensures.ids

pub bounds-others-inside-member : goal.bounds-others-inside-member
bounds-others-inside-member g c =
    let seen : List ℕ = c.loop-member.yielded in
    let low : c.in-Some.member < g.row.N =
    member_in g.row.N c.args.members.now seen c.next.new.self c.in-Some.member c.iter-member-items.ensures.within (c.loop-member.invariant.split ∙ ap (λ (zs : List ℕ). seen ++ zs) c.in-Some.ensures.steps) in
    low

pub offset_bounds-others-inside-member : goal.offset_bounds-others-inside-member
offset_bounds-others-inside-member g c =
    let seen : List ℕ = c.loop-member.yielded in
    let low : c.in-Some.member < g.row.N =
    member_in g.row.N c.args.members.now seen c.next.new.self c.in-Some.member c.iter-member-items.ensures.within (c.loop-member.invariant.split ∙ ap (λ (zs : List ℕ). seen ++ zs) c.in-Some.ensures.steps) in
    let cap : IsCapacity g.row.N = g.bound-1.eight_or_sixteen in
    omega arith

pub loop-member-init : goal.loop-member-init
loop-member-init g c = record {
  can = tt;
  ends = tt;
  split = sym (c.into_iter-member-iterator.ensures.into_iter_gives ∙ c.iter-member-items.ensures.members);
  accusers = λ j k in_use few. zero_counts g.row.N 5 j k c.zero-accusers.result c.zero-accusers.ensures;
  senders = refl;
  few = omega arith;
}
