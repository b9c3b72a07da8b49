use Rattle.std.proofs.Common.{◌≡◌, map, take, Some}
use Rattle.cv_syntax.specs.PoolTrees.{tree_at}
use Rattle.cv_derive_facts.specs.Facts.{fact_of}
use Rattle.cv_explain_queries.specs.Cited.{cited}
use Rattle.cv_explain_queries.proofs.facts.facts_of.Given as goal

abbrev pub invariant-facts : goal.invariant-facts
invariant-facts l =
    let trees = l.work.pool.trees in
    map (fact_of trees) l.facts.items ≡ take l.k (cited (tree_at trees (Some l.game.root)) l.place)
