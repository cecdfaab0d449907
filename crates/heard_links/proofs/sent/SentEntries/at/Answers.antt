use Rattle.std.proofs.Common.{rules, ◌<◌, length, sym, ap, subst, ◌∙◌, inl, inr, lit<, slice_index_or}
use Rattle.omh_paths.specs.declared.wrapped.Wrapped.TheVariants.{Fault}
use Rattle.heard_links.specs.Hearing.{sent_by}
use Rattle.heard_links.proofs.sent.SentEntries.at.Goals as goal

pub entry_of-requires : goal.entry_of-requires
entry_of-requires g c =
    (search rules, (elim c.self.invariant.heard.set.capacity [ inl e ↦ rw e (lit< tt) | inr e ↦ rw e (lit< tt) ], (c.self.invariant, subst (λ v. c.args.k < length (sent_by g.V.Item.form v.1 v.0 v.2 v.3)) (sym c.self.view_is) c.requires)))

pub returns : goal.returns
returns g c = c.entry_of.ensures ∙ ap (λ v. slice_index_or (sent_by g.V.Item.form v.1 v.0 v.2 v.3) c.args.k (Fault 0)) c.self.view_is
