use Rattle.std.proofs.Common.{ℕ, ◌≡◌, ◌<◌, ◌≤◌, ◌+◌, ◌-◌, ◌*◌, ◌∷◌, Bool, List, map, length, take, drop, get_or, sym, ap, subst, ◌∙◌, lit<, arith}
use Rattle.std.proofs.lemmas.List.{length-map, take-map, drop-map}
use Rattle.omh_paths.specs.declared.wrapped.Wrapped.{Wrapped}
use Rattle.omh_paths.specs.declared.wrapped.Wrapped.TheVariants.{Fault}
use Rattle.omh_paths.specs.Wrapped.{unwrapped}
use Rattle.omh_paths.specs.Majority.{majority}
use Rattle.omh_paths.specs.MemberLaws.{path_count-few}
use Rattle.omh_paths.specs.Paths.{path_count}
use Rattle.omh.specs.Flat.{section_at}
use Rattle.relay_terms.specs.declared.term.Term.{Term}
use Rattle.relay_terms.specs.Terms.{said}
use Rattle.relay_table.specs.Settling.{own_said}
use Rattle.relay_table.specs.Tabled.{AreKnown}
use Rattle.relay_table.proofs.Known.{known_at, known_drop, said_at, rest_from, within_rest}
use Rattle.relay_table.proofs.Stations.{sixteen_others, end_is, begins_within}
use Rattle.relay_table.proofs.Fitting.{heard_room, settled_room}
use Rattle.relay_table.proofs.Settled.{terms_fit, shorter_more, rest_more}
use Rattle.relay_table.proofs.station.Station.settle_shorter.Goals as goal

-- the k-th path's term is in the section
section_low : {X : Type 0} (count n len begins end k : ℕ) (heard : List X) → count ≡ n → begins ≡ section_at count (len - 1) → 0 < len → section_at n len ≤ length heard → end ≡ path_count count len → k < end
    → k < length (take (length heard - begins) (drop begins heard))
section_low count n len begins end k heard same is some fits end_at low =
    within_rest begins (path_count n len) k heard (begins_within count n len begins (length heard) same is some fits).1 (omega (arith, end_is count n len end end_at same, low))

pub offset_bounds-heard-section_at : goal.offset_bounds-heard-section_at
offset_bounds-heard-section_at g c =
    let n = length c.args.self.now.others in
    omega (arith, (begins_within c.len-others.result n c.args.len c.section_at.result (length c.args.heard.now) c.len-others.ensures.count c.section_at.ensures.begins c.requires.some (heard_room c.requires.station c.args.len (length c.args.heard.now) (omega (arith, c.requires.shorter)) c.requires.room.heard_ok)).1)

pub slice_bounds-section-count : goal.slice_bounds-section-count
slice_bounds-section-count g c = offset_bounds-heard-section_at g c

pub slice_bounds-section-start : goal.slice_bounds-section-start
slice_bounds-section-start g c = offset_bounds-heard-section_at g c

pub set_term-requires : goal.set_term-requires
set_term-requires g c =
    let n = length c.args.self.now.others in
    let low : c.loop-k.k < path_count n c.args.len = omega (arith, end_is c.len-others.result n c.args.len c.count_paths-k-end.result c.count_paths-k-end.ensures.product c.len-others.ensures.count, c.loop-k-test.true) in
    omega (arith, low, settled_room c.requires.station c.args.len (length c.args.settled.now) c.requires.some (omega (arith, c.requires.shorter)) c.requires.room.settled_ok, c.loop-k.invariant.long)

pub bounds-section-k : goal.bounds-section-k
bounds-section-k g c =
    section_low c.len-others.result (length c.args.self.now.others) c.args.len c.section_at.result c.count_paths-k-end.result c.loop-k.k c.args.heard.now c.len-others.ensures.count c.section_at.ensures.begins c.requires.some (heard_room c.requires.station c.args.len (length c.args.heard.now) (omega (arith, c.requires.shorter)) c.requires.room.heard_ok)
    c.count_paths-k-end.ensures.product c.loop-k-test.true

pub offset_bounds-section-k : goal.offset_bounds-section-k
offset_bounds-section-k g c = let low = bounds-section-k g c in omega arith

pub own_term-own-requires : goal.own_term-own-requires
own_term-own-requires g c =
    let heard = c.args.heard.now in
    let section = take (length heard - c.section_at.result) (drop c.section_at.result heard) in
    let known = subst (λ ts. AreKnown (map said ts)) (sym (rest_from c.section_at.result heard)) (known_drop heard c.section_at.result c.requires.room.known) in
    let low =
    section_low c.len-others.result (length c.args.self.now.others) c.args.len c.section_at.result c.count_paths-k-end.result c.loop-k.k heard c.len-others.ensures.count c.section_at.ensures.begins c.requires.some (heard_room c.requires.station c.args.len (length c.args.heard.now) (omega (arith, c.requires.shorter)) c.requires.room.heard_ok)
    c.count_paths-k-end.ensures.product c.loop-k-test.true in
    (lit< tt, known_at section c.loop-k.k c.index-section-k.result c.index-section-k.is low known)

-- the terms behind the k-th path
width_is : (count n len width : ℕ) → width ≡ count - len → count ≡ n → width ≡ n - len
width_is count n len width is same = is ∙ ap (λ (c : ℕ). c - len) same

fits_in : (n len k width room : ℕ) → width ≡ n - len → k < path_count n len → path_count n (len + 1) ≤ room → k * width + width ≤ room
fits_in n len k width room is low fits = subst (λ (w : ℕ). k * w + w ≤ room) (sym is) (terms_fit n len k room low fits)

few_behind : (n len k width rounds : ℕ) → width ≡ n - len → k < path_count n len → n ≤ 16 → len < rounds → rounds ≤ 3 → k * width ≤ 65536
few_behind n len k width rounds is low few shorter most = omega (arith, fits_in n len k width (path_count n (len + 1)) is low (omega arith), path_count-few n (len + 1) few (omega arith))

pub overflow_mul-from : goal.overflow_mul-from
overflow_mul-from g c =
    let s = c.args.self.now in
    let n = length s.others in
    let low : c.loop-k.k < path_count n c.args.len = omega (arith, end_is c.len-others.result n c.args.len c.count_paths-k-end.result c.count_paths-k-end.ensures.product c.len-others.ensures.count, c.loop-k-test.true) in
    let width = width_is c.len-others.result n c.args.len c.saturating_sub-width.result c.saturating_sub-width.ensures c.len-others.ensures.count in
    let st = c.requires.station in
    let few = few_behind n c.args.len c.loop-k.k c.saturating_sub-width.result s.rounds width low (sixteen_others st) c.requires.shorter st.rounds_ok in
    omega (arith, few)

pub settled_behind-term-requires-clause-within : goal.settled_behind-term-requires-clause-within
settled_behind-term-requires-clause-within g c =
    let s = c.args.self.now in
    let n = length s.others in
    let low : c.loop-k.k < path_count n c.args.len = omega (arith, end_is c.len-others.result n c.args.len c.count_paths-k-end.result c.count_paths-k-end.ensures.product c.len-others.ensures.count, c.loop-k-test.true) in
    let width = width_is c.len-others.result n c.args.len c.saturating_sub-width.result c.saturating_sub-width.ensures c.len-others.ensures.count in
    fits_in n c.args.len c.loop-k.k c.saturating_sub-width.result (length c.loop-k.settled) width low (omega (arith, c.loop-k.invariant.long, settled_room c.requires.station (c.args.len + 1) (length c.args.settled.now) (omega arith) (omega (arith, c.requires.shorter)) c.requires.room.settled_ok))

-- what is settled from these terms, as it is said
behind_is : {V : Type 0} (eq : V → V → Bool) (terms : List (Term V)) (own value : Wrapped V) (k width w : ℕ) → width ≡ w → value ≡ unwrapped (majority eq (own ∷ map said (take width (drop (k * width) terms))))
    → value ≡ unwrapped (majority eq (own ∷ take w (drop (k * w) (map said terms))))
behind_is {V} eq terms own value k width w same is =
    is
    ∙ ap (λ (n : ℕ). unwrapped (majority eq (own ∷ map said (take n (drop (k * n) terms))))) same
    ∙ ap (λ (ts : List (Wrapped V)). unwrapped (majority eq (own ∷ ts))) (sym (take-map said w (drop (k * w) terms)) ∙ ap (take w) (sym (drop-map said (k * w) terms)))

pub loop-k-preserved : goal.loop-k-preserved
loop-k-preserved g c =
    let s = c.args.self.now in
    let st = c.requires.station in
    let i = c.loop-k.invariant in
    let heard = c.args.heard.now in
    let len = c.args.len in
    let k = c.loop-k.k in
    let n = length s.others in
    let eq = g.V.PartialEq.eq in
    let low : k < path_count n len = omega (arith, end_is c.len-others.result n len c.count_paths-k-end.result c.count_paths-k-end.ensures.product c.len-others.ensures.count, c.loop-k-test.true) in
    let width = width_is c.len-others.result n len c.saturating_sub-width.result c.saturating_sub-width.ensures c.len-others.ensures.count in
    let b = begins_within c.len-others.result n len c.section_at.result (length heard) c.len-others.ensures.count c.section_at.ensures.begins c.requires.some (heard_room c.requires.station c.args.len (length c.args.heard.now) (omega (arith, c.requires.shorter)) c.requires.room.heard_ok) in
    let part = take (length heard - c.section_at.result) (drop c.section_at.result heard) in
    let section : map said part ≡ drop (section_at n (len - 1)) (map said heard) =
    ap (map said) (rest_from c.section_at.result heard) ∙ sym (drop-map said c.section_at.result heard) ∙ ap (λ n. drop n (map said heard)) b.0 in
    let listed =
    section_low c.len-others.result n len c.section_at.result c.count_paths-k-end.result k heard c.len-others.ensures.count c.section_at.ensures.begins c.requires.some (heard_room c.requires.station c.args.len (length c.args.heard.now) (omega (arith, c.requires.shorter)) c.requires.room.heard_ok) c.count_paths-k-end.ensures.product c.loop-k-test.true in
    let own : said c.own_term-own.result ≡ own_said s.full s.members s.me (get_or (map said part) k (Fault 0)) =
    c.own_term-own.ensures ∙ ap (own_said s.full s.members s.me) (said_at part k c.index-section-k.result c.index-section-k.is listed) in
    let now = map said c.loop-k.settled in
    let value = said c.settled_behind-term.result in
    let value_is =
    behind_is eq c.loop-k.settled (said c.own_term-own.result) value k c.saturating_sub-width.result (n - len) width c.settled_behind-term.ensures
    ∙ ap (λ o. unwrapped (majority eq (o ∷ take (n - len) (drop (k * (n - len)) now)))) own in
    let size = length-map c.loop-k.settled said in
    let fits : k < length now = omega (arith, low, settled_room st len (length c.args.settled.now) c.requires.some (omega (arith, c.requires.shorter)) c.requires.room.settled_ok, i.long, size) in
    let room : path_count n (len + 1) ≤ length now = omega (arith, settled_room c.requires.station (c.args.len + 1) (length c.args.settled.now) (omega arith) (omega (arith, c.requires.shorter)) c.requires.room.settled_ok, i.long, size) in
    record {
      settled = λ x kept longer.
          shorter_more g.met.V.Exact.exact g.row.N s.members s.others s.me s.rounds len k s.full (map said heard) (map said c.args.settled.now) now x st.members_ok st.others_ok c.requires.some c.requires.shorter low kept longer i.rest room
          (map said part) section (map said c.set_term.new.terms) value fits (i.settled x kept longer) value_is c.set_term.ensures.terms;
      rest = rest_more k value (map said c.args.settled.now) now (map said c.set_term.new.terms) fits c.set_term.ensures.terms i.rest;
      long = c.set_term.ensures.length ∙ i.long;
    }
