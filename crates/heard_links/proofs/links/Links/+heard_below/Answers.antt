use Rattle.std.proofs.Common.{rules, ℕ, ◌≡◌, ◌≢◌, ◌<◌, ◌+◌, ◌-◌, ◌++◌, ◌∷◌, [], true, List, length, take, slice_index_or, sym, ap, ap₂, subst, ◌∙◌, inl, inr, arith, lit<}
use Rattle.std.proofs.lemmas.List.{length_push}
use Rattle.node_grid.specs.NodeSet.{has_id}
use Rattle.node_grid.specs.Count.{Distinct}
use Rattle.node_grid.specs.SetFacts.{split_off, front_distinct}
use Rattle.omh_paths.specs.Wrapped.{wrapped}
use Rattle.omh_paths.specs.PathLists.{has-without-left}
use Rattle.omh.specs.Written.{last_node}
use Rattle.omh.specs.Facts.{front_last}
use Rattle.protocol.specs.Heard.{heard}
use Rattle.protocol.specs.Talk.{rounds_upto}
use Rattle.touched_items.specs.Items.{sizes_in}
use Rattle.heard_links.specs.Talks.{members_at}
use Rattle.heard_links.specs.Hearing.{talk_in, came_at, item_of, IsAsked, passed_on}
use Rattle.heard_links.proofs.Places.{last_has, meant, meant_other}
use Rattle.heard_links.proofs.Runs.{known, heard_few}
use Rattle.heard_links.proofs.Sets.{few_m, node_low, in_use, front_on, front_short}
use Rattle.heard_links.proofs.Standing.{bad_front}
use Rattle.heard_links.proofs.Tables.{heard_fewer}
use Rattle.heard_links.proofs.links.Links.+heard_below.Goals as goal

pub heard_first-requires : goal.heard_first-requires
heard_first-requires g t' c =
    let a = c.args in
    let x = a.phase.now in
    let s = c.requires.heard.set in
    let t = talk_in g.V.Item.form x a.self.now in
    let path = a.path.now in
    let q = c.at-q.result in
    let len = c.len-round.ensures.count in
    let some = c.len-round.ensures.some in
    let last : q ≡ last_node path = c.at-q.ensures ∙ ap (λ (n : ℕ). slice_index_or path (n - 1) 0) len in
    let on : has_id (members_at x a.i) q ≡ true = c.requires.asked.within q (ap (has_id path) last ∙ last_has path (omega (arith, len, some))) in
    let low = in_use x s a.i q on in
    let low_q = node_low x s q low in
    let low_i = node_low x s a.i (s.awake a.i c.requires.asked.awake_is) in
    let cap = s.capacity in
    let few = few_m x s in
    let short = c.requires.asked.short in
    let other : a.i ≢ q = λ e. c.requires.asked.other (e ∙ last) in
    let one = heard_fewer g.V.Item.form g.V.Item.first_slot g.V.Item.tells x a.self.now (length path) 1 (omega (arith, len, some)) c.requires.heard in
    (lit< tt, (elim cap [ inl e ↦ rw e (lit< tt) | inr e ↦ rw e (lit< tt) ], (one, (c.requires.asked.awake_is, (low, other)))))

pub is_bad-requires : goal.is_bad-requires
is_bad-requires g t' c =
    let a = c.args in
    let x = a.phase.now in
    let s = c.requires.heard.set in
    let t = talk_in g.V.Item.form x a.self.now in
    let path = a.path.now in
    let q = c.at-q.result in
    let len = c.len-round.ensures.count in
    let some = c.len-round.ensures.some in
    let last : q ≡ last_node path = c.at-q.ensures ∙ ap (λ (n : ℕ). slice_index_or path (n - 1) 0) len in
    let on : has_id (members_at x a.i) q ≡ true = c.requires.asked.within q (ap (has_id path) last ∙ last_has path (omega (arith, len, some))) in
    let low = in_use x s a.i q on in
    let low_q = node_low x s q low in
    let low_i = node_low x s a.i (s.awake a.i c.requires.asked.awake_is) in
    let few = few_m x s in
    let short = c.requires.asked.short in
    let other : a.i ≢ q = λ e. c.requires.asked.other (e ∙ last) in
    (lit< tt, (omega (arith, len, short, few), (low_q, low_i)))

pub returns-then-is_bad : goal.returns-then-is_bad
returns-then-is_bad g t' c =
    let a = c.args in
    let x = a.phase.now in
    let s = c.requires.heard.set in
    let t = talk_in g.V.Item.form x a.self.now in
    let path = a.path.now in
    let q = c.at-q.result in
    let len = c.len-round.ensures.count in
    let some = c.len-round.ensures.some in
    let last : q ≡ last_node path = c.at-q.ensures ∙ ap (λ (n : ℕ). slice_index_or path (n - 1) 0) len in
    let on : has_id (members_at x a.i) q ≡ true = c.requires.asked.within q (ap (has_id path) last ∙ last_has path (omega (arith, len, some))) in
    let low = in_use x s a.i q on in
    let low_q = node_low x s q low in
    let low_i = node_low x s a.i (s.awake a.i c.requires.asked.awake_is) in
    let cap = s.capacity in
    let few = few_m x s in
    let short = c.requires.asked.short in
    let other : a.i ≢ q = λ e. c.requires.asked.other (e ∙ last) in
    let bad = c.is_bad.ensures c.if-is_bad.true in
    let more : 1 < length path = let ne = c.if-round-eq0.false in omega (arith, len, some) in
    let split : path ≡ take (length path - 1) path ++ q ∷ [] = front_last path (omega arith) ∙ ap (λ (l : ℕ). take (length path - 1) path ++ l ∷ []) (sym last) in
    let long : length path ≡ length (take (length path - 1) path) + 1 = ap length split ∙ length_push (take (length path - 1) path) q in
    sym (ap (heard (rounds_upto t x.config.now.m a.i)) split
    ∙ bad_front g.V.Item.form g.V.Item.first_slot g.V.Item.tells g.V.Item.entry_form g.V.Item.in_range g.met.V.Item.made_of g.met.V.Item.fits x a.self.now (length path) c.requires.heard q a.i bad.0 (take (length path - 1) path) (omega (arith, long)) (omega (arith, long)) low c.requires.asked.awake_is other
    (sym bad.1 ∙ ap (λ (n : ℕ). came_at a.self.now n q a.i) (omega (arith, long, len))))

pub source-requires : goal.source-requires
source-requires g t' c =
    let a = c.args in
    let x = a.phase.now in
    let s = c.requires.heard.set in
    let t = talk_in g.V.Item.form x a.self.now in
    let path = a.path.now in
    let q = c.at-q.result in
    let len = c.len-round.ensures.count in
    let some = c.len-round.ensures.some in
    let last : q ≡ last_node path = c.at-q.ensures ∙ ap (λ (n : ℕ). slice_index_or path (n - 1) 0) len in
    let on : has_id (members_at x a.i) q ≡ true = c.requires.asked.within q (ap (has_id path) last ∙ last_has path (omega (arith, len, some))) in
    let low = in_use x s a.i q on in
    let low_q = node_low x s q low in
    let low_i = node_low x s a.i (s.awake a.i c.requires.asked.awake_is) in
    let cap = s.capacity in
    let few = few_m x s in
    let short = c.requires.asked.short in
    let other : a.i ≢ q = λ e. c.requires.asked.other (e ∙ last) in
    let front = c.front_of-front.result in
    let more : 1 < length path = let ne = c.if-round-eq0.false in omega (arith, len, some) in
    let front_is : front ≡ take (length path - 1) path = c.front_of-front.ensures more in
    let split : path ≡ front ++ q ∷ [] = front_last path (omega arith) ∙ ap₂ (λ (f : List ℕ) (l : ℕ). f ++ l ∷ []) (sym front_is) (sym last) in
    let long : length path ≡ length front + 1 = ap length split ∙ length_push front q in
    let parts = subst Distinct split c.len-round.ensures.distinct in
    let off = split_off front q parts in
    let apart = front_distinct front q parts in
    let asked = subst (IsAsked t x.config.now.m x.awake a.i) split c.requires.asked in
    let within = front_on t x.config.now.m x.awake a.i q front asked off in
    let brief = front_short t x.config.now.m x.awake a.i q front asked off in
    let heard1 = heard_fewer g.V.Item.form g.V.Item.first_slot g.V.Item.tells x a.self.now (length path) (length front + 1) (omega (arith, long)) c.requires.heard in
    (elim cap [ inl e ↦ rw e (lit< tt) | inr e ↦ rw e (lit< tt) ], (record { set = s; node = low_i; member = on; within = within; short = omega (arith, brief, few) }, apart))

pub heard_below-requires : goal.heard_below-requires
heard_below-requires g t' c κs within' =
    let a = c.args in
    let x = a.phase.now in
    let s = c.requires.heard.set in
    let t = talk_in g.V.Item.form x a.self.now in
    let path = a.path.now in
    let q = c.at-q.result in
    let len = c.len-round.ensures.count in
    let some = c.len-round.ensures.some in
    let last : q ≡ last_node path = c.at-q.ensures ∙ ap (λ (n : ℕ). slice_index_or path (n - 1) 0) len in
    let on : has_id (members_at x a.i) q ≡ true = c.requires.asked.within q (ap (has_id path) last ∙ last_has path (omega (arith, len, some))) in
    let low = in_use x s a.i q on in
    let low_q = node_low x s q low in
    let low_i = node_low x s a.i (s.awake a.i c.requires.asked.awake_is) in
    let cap = s.capacity in
    let few = few_m x s in
    let short = c.requires.asked.short in
    let other : a.i ≢ q = λ e. c.requires.asked.other (e ∙ last) in
    let front = c.front_of-front.result in
    let more : 1 < length path = let ne = c.if-round-eq0.false in omega (arith, len, some) in
    let front_is : front ≡ take (length path - 1) path = c.front_of-front.ensures more in
    let split : path ≡ front ++ q ∷ [] = front_last path (omega arith) ∙ ap₂ (λ (f : List ℕ) (l : ℕ). f ++ l ∷ []) (sym front_is) (sym last) in
    let long : length path ≡ length front + 1 = ap length split ∙ length_push front q in
    let parts = subst Distinct split c.len-round.ensures.distinct in
    let off = split_off front q parts in
    let apart = front_distinct front q parts in
    let asked = subst (IsAsked t x.config.now.m x.awake a.i) split c.requires.asked in
    let within = front_on t x.config.now.m x.awake a.i q front asked off in
    let brief = front_short t x.config.now.m x.awake a.i q front asked off in
    let heard1 = heard_fewer g.V.Item.form g.V.Item.first_slot g.V.Item.tells x a.self.now (length path) (length front + 1) (omega (arith, long)) c.requires.heard in
    let p = c.in-Some.other in
    let is = meant (has_id x.full q) (members_at x q) (members_at x a.i) x.config.now.nodes q front p (s.members q) (sym c.source.ensures ∙ c.in-Some.is) in
    let awake_q = s.full q is.is_full in
    let on_q = λ (k : ℕ) (has : has_id p k ≡ true). (has-without-left (members_at x q) q k (is.within k has)).1 in
    let asked_q : IsAsked t x.config.now.m x.awake q p = record { awake_is = awake_q; within = on_q; short = omega (arith, is.long, brief); other = meant_other (has_id x.full q) (members_at x q) q front p is (omega (arith, long, more)) } in
    let heard_q = heard_fewer g.V.Item.form g.V.Item.first_slot g.V.Item.tells x a.self.now (length path) (length p) (omega (arith, long, is.long)) c.requires.heard in
    (omega (arith, c.decreases, long, is.long), (search rules, (search rules, (search rules, (elim cap [ inl e ↦ rw e (lit< tt) | inr e ↦ rw e (lit< tt) ], (heard_q, asked_q))))))

pub wrap-own-requires : goal.wrap-own-requires
wrap-own-requires g t' c =
    let a = c.args in
    let x = a.phase.now in
    let s = c.requires.heard.set in
    let t = talk_in g.V.Item.form x a.self.now in
    let path = a.path.now in
    let q = c.at-q.result in
    let len = c.len-round.ensures.count in
    let some = c.len-round.ensures.some in
    let last : q ≡ last_node path = c.at-q.ensures ∙ ap (λ (n : ℕ). slice_index_or path (n - 1) 0) len in
    let on : has_id (members_at x a.i) q ≡ true = c.requires.asked.within q (ap (has_id path) last ∙ last_has path (omega (arith, len, some))) in
    let low = in_use x s a.i q on in
    let low_q = node_low x s q low in
    let low_i = node_low x s a.i (s.awake a.i c.requires.asked.awake_is) in
    let cap = s.capacity in
    let few = few_m x s in
    let short = c.requires.asked.short in
    let other : a.i ≢ q = λ e. c.requires.asked.other (e ∙ last) in
    let front = c.front_of-front.result in
    let more : 1 < length path = let ne = c.if-round-eq0.false in omega (arith, len, some) in
    let front_is : front ≡ take (length path - 1) path = c.front_of-front.ensures more in
    let split : path ≡ front ++ q ∷ [] = front_last path (omega arith) ∙ ap₂ (λ (f : List ℕ) (l : ℕ). f ++ l ∷ []) (sym front_is) (sym last) in
    let long : length path ≡ length front + 1 = ap length split ∙ length_push front q in
    let parts = subst Distinct split c.len-round.ensures.distinct in
    let off = split_off front q parts in
    let apart = front_distinct front q parts in
    let asked = subst (IsAsked t x.config.now.m x.awake a.i) split c.requires.asked in
    let within = front_on t x.config.now.m x.awake a.i q front asked off in
    let brief = front_short t x.config.now.m x.awake a.i q front asked off in
    let heard1 = heard_fewer g.V.Item.form g.V.Item.first_slot g.V.Item.tells x a.self.now (length path) (length front + 1) (omega (arith, long)) c.requires.heard in
    let p = c.in-Some.other in
    let is = meant (has_id x.full q) (members_at x q) (members_at x a.i) x.config.now.nodes q front p (s.members q) (sym c.source.ensures ∙ c.in-Some.is) in
    let awake_q = s.full q is.is_full in
    let on_q = λ (k : ℕ) (has : has_id p k ≡ true). (has-without-left (members_at x q) q k (is.within k has)).1 in
    let asked_q : IsAsked t x.config.now.m x.awake q p = record { awake_is = awake_q; within = on_q; short = omega (arith, is.long, brief); other = meant_other (has_id x.full q) (members_at x q) q front p is (omega (arith, long, more)) } in
    let heard_q = heard_fewer g.V.Item.form g.V.Item.first_slot g.V.Item.tells x a.self.now (length path) (length p) (omega (arith, long, is.long)) c.requires.heard in
    λ e. known (g.V.Item.in_range (sizes_in c.requires.heard.sys)) x.config.now.m (heard (rounds_upto t x.config.now.m q) p) few
    (heard_few g.V.Item.form g.V.Item.first_slot g.V.Item.tells g.V.Item.entry_form g.V.Item.in_range g.met.V.Item.made_of g.met.V.Item.fits x (item_of a.self.now) s c.requires.heard.sys c.requires.heard.run q p low (λ k has. in_use x s q k (on_q k has)))
    (sym c.heard_below.ensures ∙ e)

pub heard_relay-requires : goal.heard_relay-requires
heard_relay-requires g t' c =
    let a = c.args in
    let x = a.phase.now in
    let s = c.requires.heard.set in
    let t = talk_in g.V.Item.form x a.self.now in
    let path = a.path.now in
    let q = c.at-q.result in
    let len = c.len-round.ensures.count in
    let some = c.len-round.ensures.some in
    let last : q ≡ last_node path = c.at-q.ensures ∙ ap (λ (n : ℕ). slice_index_or path (n - 1) 0) len in
    let on : has_id (members_at x a.i) q ≡ true = c.requires.asked.within q (ap (has_id path) last ∙ last_has path (omega (arith, len, some))) in
    let low = in_use x s a.i q on in
    let low_q = node_low x s q low in
    let low_i = node_low x s a.i (s.awake a.i c.requires.asked.awake_is) in
    let cap = s.capacity in
    let few = few_m x s in
    let short = c.requires.asked.short in
    let other : a.i ≢ q = λ e. c.requires.asked.other (e ∙ last) in
    let front = c.front_of-front.result in
    let more : 1 < length path = let ne = c.if-round-eq0.false in omega (arith, len, some) in
    let front_is : front ≡ take (length path - 1) path = c.front_of-front.ensures more in
    let split : path ≡ front ++ q ∷ [] = front_last path (omega arith) ∙ ap₂ (λ (f : List ℕ) (l : ℕ). f ++ l ∷ []) (sym front_is) (sym last) in
    let long : length path ≡ length front + 1 = ap length split ∙ length_push front q in
    let parts = subst Distinct split c.len-round.ensures.distinct in
    let off = split_off front q parts in
    let apart = front_distinct front q parts in
    let asked = subst (IsAsked t x.config.now.m x.awake a.i) split c.requires.asked in
    let within = front_on t x.config.now.m x.awake a.i q front asked off in
    let brief = front_short t x.config.now.m x.awake a.i q front asked off in
    let heard1 = heard_fewer g.V.Item.form g.V.Item.first_slot g.V.Item.tells x a.self.now (length path) (length front + 1) (omega (arith, long)) c.requires.heard in
    let p = c.in-Some.other in
    let is = meant (has_id x.full q) (members_at x q) (members_at x a.i) x.config.now.nodes q front p (s.members q) (sym c.source.ensures ∙ c.in-Some.is) in
    let awake_q = s.full q is.is_full in
    let on_q = λ (k : ℕ) (has : has_id p k ≡ true). (has-without-left (members_at x q) q k (is.within k has)).1 in
    let asked_q : IsAsked t x.config.now.m x.awake q p = record { awake_is = awake_q; within = on_q; short = omega (arith, is.long, brief); other = meant_other (has_id x.full q) (members_at x q) q front p is (omega (arith, long, more)) } in
    let heard_q = heard_fewer g.V.Item.form g.V.Item.first_slot g.V.Item.tells x a.self.now (length path) (length p) (omega (arith, long, is.long)) c.requires.heard in
    let own = c.wrap-own.ensures ∙ ap wrapped c.heard_below.ensures ∙ sym (ap (passed_on (heard (rounds_upto t x.config.now.m q))) (sym c.source.ensures ∙ c.in-Some.is)) in
    (lit< tt, (elim cap [ inl e ↦ rw e (lit< tt) | inr e ↦ rw e (lit< tt) ], (heard1, (asked, (off, own)))))

pub heard_relay-requires-in-None : goal.heard_relay-requires-in-None
heard_relay-requires-in-None g t' c =
    let a = c.args in
    let x = a.phase.now in
    let s = c.requires.heard.set in
    let t = talk_in g.V.Item.form x a.self.now in
    let path = a.path.now in
    let q = c.at-q.result in
    let len = c.len-round.ensures.count in
    let some = c.len-round.ensures.some in
    let last : q ≡ last_node path = c.at-q.ensures ∙ ap (λ (n : ℕ). slice_index_or path (n - 1) 0) len in
    let on : has_id (members_at x a.i) q ≡ true = c.requires.asked.within q (ap (has_id path) last ∙ last_has path (omega (arith, len, some))) in
    let low = in_use x s a.i q on in
    let low_q = node_low x s q low in
    let low_i = node_low x s a.i (s.awake a.i c.requires.asked.awake_is) in
    let cap = s.capacity in
    let few = few_m x s in
    let short = c.requires.asked.short in
    let other : a.i ≢ q = λ e. c.requires.asked.other (e ∙ last) in
    let front = c.front_of-front.result in
    let more : 1 < length path = let ne = c.if-round-eq0.false in omega (arith, len, some) in
    let front_is : front ≡ take (length path - 1) path = c.front_of-front.ensures more in
    let split : path ≡ front ++ q ∷ [] = front_last path (omega arith) ∙ ap₂ (λ (f : List ℕ) (l : ℕ). f ++ l ∷ []) (sym front_is) (sym last) in
    let long : length path ≡ length front + 1 = ap length split ∙ length_push front q in
    let parts = subst Distinct split c.len-round.ensures.distinct in
    let off = split_off front q parts in
    let apart = front_distinct front q parts in
    let asked = subst (IsAsked t x.config.now.m x.awake a.i) split c.requires.asked in
    let within = front_on t x.config.now.m x.awake a.i q front asked off in
    let brief = front_short t x.config.now.m x.awake a.i q front asked off in
    let heard1 = heard_fewer g.V.Item.form g.V.Item.first_slot g.V.Item.tells x a.self.now (length path) (length front + 1) (omega (arith, long)) c.requires.heard in
    let own = sym (ap (passed_on (heard (rounds_upto t x.config.now.m q))) (sym c.source.ensures ∙ c.in-None.is)) in
    (lit< tt, (elim cap [ inl e ↦ rw e (lit< tt) | inr e ↦ rw e (lit< tt) ], (heard1, (asked, (off, own)))))
