use Rattle.slate_rows.proofs.varints.+number_at_front.Given as goal

abbrev pub decreases-number_at_front : goal.decreases-number_at_front
decreases-number_at_front l = l.left
