use Rattle.std.proofs.Common.{ℕ, ◌≡◌, ◌≢◌, ◌<◌, ◌⊎◌, true, get_or}
use Rattle.node_grid.specs.NodeSet.{has_id}
use Rattle.heard_links.specs.declared.came.Came.TheVariants as came
use Rattle.heard_links.specs.Hearing.{IsCame, link_at, talk_in}
use Rattle.heard_links.proofs.links.Links.judge_frames.Given as goal

abbrev pub invariant-loop-to : goal.invariant-loop-to
invariant-loop-to g l = record {
  told : l.self.told.items ≡ l.initial.self.told.items;
  blank : l.self.blank ≡ l.initial.self.blank;
  touched : l.self.touched ≡ l.initial.self.touched;
  kept : (r j i : ℕ) → j < g.row.N → i < g.row.N → (r ≢ l.round) ⊎ (j ≢ l.from)
      → get_or l.self.came.items (link_at g.row.N r j i) came.Untouched ≡ get_or l.initial.self.came.items (link_at g.row.N r j i) came.Untouched;
  here : (i : ℕ) → i < l.to → has_id l.phase.awake i ≡ true → i ≢ l.from
      → IsCame (talk_in g.V.Item.form l.phase l.initial.self) l.phase.config.now.m l.round l.from i (get_or l.self.came.items (link_at g.row.N l.round l.from i) came.Untouched);
}
