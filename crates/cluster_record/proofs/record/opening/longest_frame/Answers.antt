use Rattle.cluster_record.proofs.record.opening.longest_frame.Goals as goal

pub returns-clause-greatest : goal.returns-clause-greatest
returns-clause-greatest c = c.frame_bound.ensures.greatest
