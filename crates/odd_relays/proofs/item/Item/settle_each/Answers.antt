use Rattle.std.proofs.Common.{ℕ, ◌≡◌, ◌<◌, true, false, List, length, slice_index_or, sym, ap, ◌∙◌, inl, inr, arith}
use Rattle.std.proofs.lemmas.Bool.{cases_Bool, both_ways}
use Rattle.node_grid.specs.NodeSet.{has_id}
use Rattle.node_grid.specs.SetFacts.{member-lt, off_apart}
use Rattle.omh_paths.specs.MemberLaws.{Distinct-ids}
use Rattle.odd_relays.specs.Telling.{telling, settled_item}
use Rattle.odd_relays.proofs.ItemLaws.{direct_views}
use Rattle.odd_relays.proofs.item.Item.settle_each.Goals as goal

off_within : (leaders nodes : List ℕ) (c : ℕ) → ((j : ℕ) → has_id leaders j ≡ true → has_id nodes j ≡ true) → has_id nodes c ≡ false → has_id leaders c ≡ false
off_within leaders nodes c within off = elim (cases_Bool (has_id leaders c)) [
  | inr h ↦ h
  | inl on ↦ absurd (both_ways _ off (within c on))
]

pub settle_at-requires : goal.settle_at-requires
settle_at-requires g c =
    let off = off_within c.find_leaders-leaders.result c.args.nodes.now c.args.self.now.commander c.find_leaders-leaders.ensures.within c.requires.others in
    (omega arith, (omega arith, (c.requires.few, (off, c.requires.room))))

pub copy_led-requires : goal.copy_led-requires
copy_led-requires g c =
    let led = c.find_leaders-leaders.ensures in
    let low = λ (i : ℕ) (on : has_id c.args.nodes.now i ≡ true).
    let l = member-lt g.row.N c.find_leaders-leaders.result (slice_index_or c.find_leaders-leaders.new.leader_of i 0) c.len-2.ensures.ids (led.led i on).among in
    let k : slice_index_or c.find_leaders-leaders.new.leader_of i 0 < length c.settle_at.new.work = omega (arith, l, c.args.self.now.fits, c.settle_at.ensures.room) in k
    in
    (omega arith, (c.requires.places, (led.places, low)))

pub returns-clause-settled : goal.returns-clause-settled
returns-clause-settled g c =
    let t = telling g.S.Relays.says c.args.self.now in
    let eq = g.V.PartialEq.eq in
    let leaders = c.find_leaders-leaders.ensures in
    λ i on.
    let j : ℕ = slice_index_or c.find_leaders-leaders.new.leader_of i 0 in
    let led = leaders.led i on in
    c.copy_led.ensures.laid i on
    ∙ c.settle_at.ensures.settled j led.among
    ∙ elim led.alike [
      | inl same ↦ ap (settled_item eq t) (sym same)
      | inr alike ↦
          direct_views t eq g.met.V.Exact.exact (Distinct-ids g.row.N t.members c.len.ensures.ids) c.requires.few c.args.self.now.member alike.relayed i j
          (off_apart c.args.nodes.now t.commander i c.requires.others on) (off_apart c.args.nodes.now t.commander j c.requires.others (leaders.within j led.among)) alike.first alike.second alike.says
    ]
