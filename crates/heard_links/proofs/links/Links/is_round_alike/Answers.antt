use Rattle.std.proofs.Common.{ℕ, ◌≡◌, ◌≢◌, ◌⊎◌, true, List, ap, ◌∙◌, inl, inr}
use Rattle.std.proofs.lemmas.Bool.{cases_Bool}
use Rattle.node_grid.specs.NodeSet.{has_id}
use Rattle.heard_links.specs.Talks.{members_at}
use Rattle.heard_links.specs.Hearing.{IsAlikeFrom, is_even, talk_in}
use Rattle.heard_links.proofs.Sets.{in_use}
use Rattle.heard_links.proofs.Saying.{round_alike, left_more, left_none}
use Rattle.heard_links.proofs.links.Links.is_round_alike.Goals as goal

pub loop-q-init : goal.loop-q-init
loop-q-init g c = record {
  can = tt;
  ends = tt;
  alike = λ q on. elim (cases_Bool (has_id c.touched.result q)) [
    | inl is ↦ inl (ap (λ (ys : List ℕ). has_id ys q) (c.into_iter-q-iterator.ensures.into_iter_gives ∙ c.iter-q-items.ensures.members) ∙ is)
    | inr off ↦ inr (inr (λ k on_k ne. c.touched.ensures q k off (in_use c.args.phase.now c.requires.hearers.heard.set c.args.i q on) on_k ne))
  ];
}

pub loop-q-preserved : goal.loop-q-preserved
loop-q-preserved g c =
    let x = c.args.phase.now in
    let t = talk_in g.V.Item.form x c.args.self.now in
    record {
      can = tt;
      ends = tt;
      alike = left_more (λ (q : ℕ). IsAlikeFrom t c.args.round q c.args.i c.args.j ⊎ ((k : ℕ) → has_id x.awake k ≡ true → k ≢ q → is_even t c.args.round q k ≡ true))
          (members_at x c.args.i) c.loop-q.q-iterator c.next.new.self c.in-Some.q c.in-Some.ensures.steps
          (λ on. inl (c.is_word_alike.ensures c.if-not-is_word_alike.false on)) c.loop-q.invariant.alike;
    }

pub returns : goal.returns
returns g c =
    let x = c.args.phase.now in
    let t = talk_in g.V.Item.form x c.args.self.now in
    λ is. round_alike t x.config.now.m x.awake c.args.i c.args.j c.args.round c.requires.hearers.few c.requires.hearers.one c.requires.hearers.other c.requires.members
    (left_none (λ (q : ℕ). IsAlikeFrom t c.args.round q c.args.i c.args.j ⊎ ((k : ℕ) → has_id x.awake k ≡ true → k ≢ q → is_even t c.args.round q k ≡ true))
    (members_at x c.args.i) c.loop-q.q-iterator c.in-None.ensures.steps.0 c.loop-q.invariant.alike)
