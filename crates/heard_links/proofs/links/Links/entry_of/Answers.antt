use Rattle.std.proofs.Common.{rules, ℕ, ◌≡◌, ◌<◌, true, List, length, sym, ap, subst, ◌∙◌, inl, inr, arith, lit<}
use Rattle.node_grid.specs.NodeSet.{has_id, without_id}
use Rattle.omh_paths.specs.Wrapped.{wrapped}
use Rattle.omh_paths.specs.Paths.{paths_of_length, path_count, path_at}
use Rattle.omh_paths.specs.PathLists.{has-without-left}
use Rattle.omh.specs.Written.{last_node}
use Rattle.protocol.specs.Heard.{paths_of, heard}
use Rattle.protocol.specs.Talk.{rounds_upto}
use Rattle.touched_items.specs.Items.{sizes_in}
use Rattle.heard_links.specs.Talks.{members_at}
use Rattle.heard_links.specs.Hearing.{talk_in, item_of, IsAsked}
use Rattle.heard_links.proofs.Places.{long_of, last_has}
use Rattle.heard_links.proofs.Runs.{known, heard_few}
use Rattle.heard_links.proofs.Sending.{on_of, sent_long, sent_entry}
use Rattle.heard_links.proofs.Sets.{few_m, few_nodes, in_use}
use Rattle.heard_links.proofs.Tables.{heard_fewer}
use Rattle.heard_links.proofs.links.Links.entry_of.Goals as goal

pub unrank-path-requires : goal.unrank-path-requires
unrank-path-requires g c =
    let x = c.args.phase.now in
    let links = c.args.self.now in
    let form = g.V.Item.form in
    let inv = c.requires.sender in
    let set = inv.heard.set in
    let its = members_at x c.args.from in
    let ids = set.members c.args.from in
    let low = c.requires.low in
    let few : c.args.k < length (paths_of its c.args.round c.args.from) = omega (arith, low, sent_long form x links c.args.round c.args.from) in
    let on : has_id its c.args.from ≡ true = on_of its c.args.round c.args.from c.args.k few in
    let others : c.without-others.result ≡ without_id its c.args.from = c.without-others.ensures ∙ ap (λ (those : List ℕ). without_id those c.args.from) c.members_of.ensures in
    let many = long_of x.config.now.nodes (few_nodes x set) its ids c.args.from on c.args.round in
    let most = few_m x set in
    let brief = inv.few in (
      lit< tt,
      (inv.some, (omega (arith, brief, most), subst (λ (those : List ℕ). c.args.k < path_count (length those) c.args.round) (sym others) (subst (λ (n : ℕ). c.args.k < n) many few))),
    )

pub heard_below-requires : goal.heard_below-requires
heard_below-requires g c = (
  search rules,
  (
    elim c.requires.sender.heard.set.capacity [ inl e ↦ rw e (lit< tt) | inr e ↦ rw e (lit< tt) ],
    let x = c.args.phase.now in
        let links = c.args.self.now in
        let form = g.V.Item.form in
        let inv = c.requires.sender in
        let set = inv.heard.set in
        let its = members_at x c.args.from in
        let ids = set.members c.args.from in
        let low = c.requires.low in
        let few : c.args.k < length (paths_of its c.args.round c.args.from) = omega (arith, low, sent_long form x links c.args.round c.args.from) in
        let on : has_id its c.args.from ≡ true = on_of its c.args.round c.args.from c.args.k few in
        let others : c.without-others.result ≡ without_id its c.args.from = c.without-others.ensures ∙ ap (λ (those : List ℕ). without_id those c.args.from) c.members_of.ensures in
        let p = c.unrank-path.result in
        let inside : (q : ℕ) → has_id p q ≡ true → has_id (without_id its c.args.from) q ≡ true = λ q has. ap (λ (those : List ℕ). has_id those q) (sym others) ∙ c.unrank-path.ensures.within q has in
        let on_q : (q : ℕ) → has_id p q ≡ true → has_id its q ≡ true = λ q has. (has-without-left its c.args.from q (inside q has)).1 in
        let long = c.unrank-path.ensures.long in
        let some = inv.some in
        let brief = inv.few in
        let here = heard_fewer form g.V.Item.first_slot g.V.Item.tells x links c.args.round (length p) (omega (arith, long)) inv.heard in
        let asked : IsAsked (talk_in form x links) x.config.now.m x.awake c.args.from p = record {
          awake_is = set.full c.args.from inv.full;
          within = on_q;
          short = omega (arith, long, brief);
          other = λ e. (has-without-left its c.args.from (last_node p) (inside (last_node p) (last_has p (omega (arith, long, some))))).0 (sym e);
        } in
        (here, asked),
  ),
)

pub wrap-requires : goal.wrap-requires
wrap-requires g c =
    let x = c.args.phase.now in
    let links = c.args.self.now in
    let form = g.V.Item.form in
    let inv = c.requires.sender in
    let set = inv.heard.set in
    let its = members_at x c.args.from in
    let ids = set.members c.args.from in
    let low = c.requires.low in
    let few : c.args.k < length (paths_of its c.args.round c.args.from) = omega (arith, low, sent_long form x links c.args.round c.args.from) in
    let on : has_id its c.args.from ≡ true = on_of its c.args.round c.args.from c.args.k few in
    let others : c.without-others.result ≡ without_id its c.args.from = c.without-others.ensures ∙ ap (λ (those : List ℕ). without_id those c.args.from) c.members_of.ensures in
    let p = c.unrank-path.result in
    let inside : (q : ℕ) → has_id p q ≡ true → has_id (without_id its c.args.from) q ≡ true = λ q has. ap (λ (those : List ℕ). has_id those q) (sym others) ∙ c.unrank-path.ensures.within q has in
    let on_q : (q : ℕ) → has_id p q ≡ true → has_id its q ≡ true = λ q has. (has-without-left its c.args.from q (inside q has)).1 in
    λ e. known (g.V.Item.in_range (sizes_in inv.heard.sys)) x.config.now.m (heard (rounds_upto (talk_in form x links) x.config.now.m c.args.from) p) (few_m x set)
    (heard_few form g.V.Item.first_slot g.V.Item.tells g.V.Item.entry_form g.V.Item.in_range g.met.V.Item.made_of g.met.V.Item.fits x (item_of links) set inv.heard.sys inv.heard.run c.args.from p (set.awake c.args.from (set.full c.args.from inv.full)) (λ k has. in_use x set c.args.from k (on_q k has)))
    (sym c.heard_below.ensures ∙ e)

pub returns : goal.returns
returns g c =
    let x = c.args.phase.now in
    let links = c.args.self.now in
    let form = g.V.Item.form in
    let inv = c.requires.sender in
    let set = inv.heard.set in
    let its = members_at x c.args.from in
    let ids = set.members c.args.from in
    let low = c.requires.low in
    let few : c.args.k < length (paths_of its c.args.round c.args.from) = omega (arith, low, sent_long form x links c.args.round c.args.from) in
    let on : has_id its c.args.from ≡ true = on_of its c.args.round c.args.from c.args.k few in
    let others : c.without-others.result ≡ without_id its c.args.from = c.without-others.ensures ∙ ap (λ (those : List ℕ). without_id those c.args.from) c.members_of.ensures in
    let path_is : c.unrank-path.result ≡ path_at (paths_of_length (without_id its c.args.from) c.args.round) c.args.k = c.unrank-path.ensures.path ∙ ap (λ (those : List ℕ). path_at (paths_of_length those c.args.round) c.args.k) others in
    c.wrap.ensures ∙ ap wrapped (c.heard_below.ensures ∙ ap (heard (rounds_upto (talk_in form x links) x.config.now.m c.args.from)) path_is)
    ∙ sym (sent_entry form x links c.args.round c.args.from c.args.k few on)
