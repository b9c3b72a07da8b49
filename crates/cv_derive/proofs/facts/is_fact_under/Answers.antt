use Rattle.std.proofs.Common.{sym, ap, ◌∙◌, Some}
use Rattle.std.specs.Prelude.{option_map}
use Rattle.cv_syntax.specs.PoolTrees.{tree_at}
use Rattle.cv_scope_rules.specs.Above.{stands_at}
use Rattle.cv_derive_facts.specs.Facts.{fact_of, facts_at}
use Rattle.cv_derive_facts.proofs.Standings.{are_facts}
use Rattle.cv_derive_reasons.specs.substitution.Under.{under}
use Rattle.cv_derive.specs.Standing.{facts_under}
use Rattle.cv_derive.proofs.Telling.{fact_missing, fact_there, no_fact}
use Rattle.cv_derive.proofs.facts.is_fact_under.Goals as goal

pub returns-then-k-eq0 : goal.returns-then-k-eq0
returns-then-k-eq0 c =
    let trees = c.args.work.now.pool.trees in
    no_fact c.args.k (facts_under (tree_at trees (Some c.args.game.root)) c.args.place c.args.names.now (tree_at trees c.args.terms)) (tree_at trees c.args.term) c.if-k-eq0.true

pub returns-in-Some : goal.returns-in-Some
returns-in-Some c =
    let trees = c.args.work.now.pool.trees in
    let game = tree_at trees (Some c.args.game.root) in
    c.says.ensures
    ∙ fact_there (under c.args.names.now (tree_at trees c.args.terms)) (stands_at game c.args.place) (facts_at game c.args.place) c.args.replications.now c.args.k c.if-k-eq0.false (are_facts game c.args.place) c.requires.replications (option_map (fact_of trees) c.fact.result) c.fact.ensures.fact (tree_at trees c.args.term) (fact_of trees c.in-Some.known) (sym (ap (option_map (fact_of trees)) c.in-Some.is))

pub returns-in-None : goal.returns-in-None
returns-in-None c =
    let trees = c.args.work.now.pool.trees in
    let game = tree_at trees (Some c.args.game.root) in
    fact_missing (under c.args.names.now (tree_at trees c.args.terms)) (stands_at game c.args.place) (facts_at game c.args.place) c.args.replications.now c.args.k c.if-k-eq0.false (are_facts game c.args.place) c.requires.replications (option_map (fact_of trees) c.fact.result) c.fact.ensures.fact (tree_at trees c.args.term) (sym (ap (option_map (fact_of trees)) c.in-None.is))
