use Rattle.std.proofs.Common.{ℕ, ◌≡◌, ◌<◌, ◌==◌, ◌&&◌, ◌||◌, Bool, true, false, not, length, refl, sym, ap, subst, ◌∙◌, lit<, arith, eqb-true}
use Rattle.node_grid.specs.NodeSet.{has_id, ids_where, IsIdSet}
use Rattle.node_grid.specs.NodeSetLaws.{filter_none, has-filter, has-with_id, has-without_id, IsIdSet-filter, same_ids}
use Rattle.node_grid.specs.ListLaws.{has_push, eqb_sym}
use Rattle.node_grid.specs.ListFacts.{split_more}
use Rattle.equivocation.specs.Conviction.{convicts}
use Rattle.relay_walk.proofs.Loops.{turn, split_all}
use Rattle.relay_table.proofs.Convicted.{no_rounds}
use Rattle.relay_table.proofs.station.Station.convicted.Goals as goal

-- one member more, which isn't convicted or is
push_no : (h t s : Bool) → (s ≡ true → t ≡ false) → (h && t) ≡ ((h || s) && t)
push_no true t s f = refl
push_no false t true f = sym (f refl)
push_no false t false f = refl

push_yes : (h t s : Bool) → (s ≡ true → t ≡ true) → (s || (h && t)) ≡ ((h || s) && t)
push_yes true t true f = sym (f refl)
push_yes true t false f = refl
push_yes false t true f = sym (f refl)
push_yes false t false f = refl

never : (a b : Bool) → (a && (b && false)) ≡ false
never true true = refl
never true false = refl
never false b = refl

all_three : (a b t : Bool) → ((a && b) && t) ≡ (a && (b && t))
all_three true b t = refl
all_three false b t = refl

pub returns-then-self-eq0 : goal.returns-then-self-eq0
returns-then-self-eq0 g c x kept =
    let s = c.args.self.now in
    let eq = g.V.PartialEq.eq in
    c.empty-guilty.ensures
    ∙ sym (filter_none (λ k. not (k == s.me) && (has_id s.members k && convicts eq x k)) 0 g.row.N
    (λ k low high. ap (λ b. not (k == s.me) && (has_id s.members k && b)) (no_rounds eq x k (kept.rounds_are ∙ c.if-self-eq0.true)) ∙ never (not (k == s.me)) (has_id s.members k)))

pub loop-node-init : goal.loop-node-init
loop-node-init g c = record {
  can = tt;
  ends = tt;
  split = cc;
  ids = subst (IsIdSet g.row.N) (sym c.empty-guilty.ensures) (sym (filter_none (λ k. false) 0 g.row.N (λ k low high. refl)));
  told = λ x kept q low. ap (λ s. has_id s q) c.empty-guilty.ensures;
}

pub convicts-requires : goal.convicts-requires
convicts-requires g c =
    let s = c.args.self.now in
    let t = turn g.row.N s.others c.loop-node.yielded c.next.new.self c.loop-node.node-iterator c.in-Some.node c.iter-node-items.ensures.ids c.loop-node.invariant.split c.in-Some.ensures.steps in
    let some : 0 < s.rounds = omega (arith, c.if-self-eq0.false) in
    (lit< tt, (c.requires.station, (some, (t.on, c.requires.room))))

pub loop-node-preserved : goal.loop-node-preserved
loop-node-preserved g c =
    let i = c.loop-node.invariant in
    let ys = c.loop-node.yielded in
    let node = c.in-Some.node in
    let eq = g.V.PartialEq.eq in
    record {
      can = tt;
      ends = tt;
      split = split_more c.args.self.now.others ys c.next.new.self c.loop-node.node-iterator node i.split c.in-Some.ensures.steps;
      ids = i.ids;
      told = λ x kept q low.
          i.told x kept q low
          ∙ push_no (has_id ys q) (convicts eq x q) (node == q) (λ e. ap (convicts eq x) (sym (eqb-true node q e)) ∙ sym (c.convicts.ensures x kept) ∙ c.if-convicts.false)
          ∙ ap (λ b. b && convicts eq x q) (sym (has_push ys node q));
    }

pub put-requires : goal.put-requires
put-requires g c =
    let t = turn g.row.N c.args.self.now.others c.loop-node.yielded c.next.new.self c.loop-node.node-iterator c.in-Some.node c.iter-node-items.ensures.ids c.loop-node.invariant.split c.in-Some.ensures.steps in
    (lit< tt, t.low)

pub loop-node-preserved-then-convicts : goal.loop-node-preserved-then-convicts
loop-node-preserved-then-convicts g c =
    let i = c.loop-node.invariant in
    let ys = c.loop-node.yielded in
    let node = c.in-Some.node in
    let eq = g.V.PartialEq.eq in
    let n = g.row.N in
    let was = c.loop-node.guilty in
    record {
      can = tt;
      ends = tt;
      split = split_more c.args.self.now.others ys c.next.new.self c.loop-node.node-iterator node i.split c.in-Some.ensures.steps;
      ids = subst (IsIdSet n) (sym c.put.ensures) (IsIdSet-filter (λ k. (k == node) || has_id was k) n);
      told = λ x kept q low.
          ap (λ s. has_id s q) c.put.ensures ∙ has-with_id n was node q low
          ∙ ap (λ b. b || has_id was q) (eqb_sym q node) ∙ ap (λ b. (node == q) || b) (i.told x kept q low)
          ∙ push_yes (has_id ys q) (convicts eq x q) (node == q) (λ e. ap (convicts eq x) (sym (eqb-true node q e)) ∙ sym (c.convicts.ensures x kept) ∙ c.if-convicts.true)
          ∙ ap (λ b. b && convicts eq x q) (sym (has_push ys node q));
    }

pub returns : goal.returns
returns g c x kept =
    let s = c.args.self.now in
    let i = c.loop-node.invariant in
    let eq = g.V.PartialEq.eq in
    let n = g.row.N in
    let test = λ (k : ℕ). not (k == s.me) && (has_id s.members k && convicts eq x k) in
    let all = split_all s.others c.loop-node.yielded c.loop-node.node-iterator i.split c.in-None.ensures.steps.0 ∙ c.requires.station.others_ok in
    same_ids n c.loop-node.guilty (ids_where test n) i.ids (IsIdSet-filter test n)
    (λ k low.
    i.told x kept k low
    ∙ ap (λ b. b && convicts eq x k) (ap (λ s. has_id s k) all ∙ has-without_id s.members s.me k)
    ∙ all_three (not (k == s.me)) (has_id s.members k) (convicts eq x k)
    ∙ sym (has-filter test n k low))
