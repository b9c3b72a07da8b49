use Rattle.cv_direct_search.proofs.queries.+add_reads.Given as goal

abbrev pub decreases-add_reads : goal.decreases-add_reads
decreases-add_reads l = l.start.0
