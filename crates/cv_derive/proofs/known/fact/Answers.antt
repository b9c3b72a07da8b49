use Rattle.std.proofs.Common.{◌≡◌, arith, rules, sym, ap, ◌∙◌, [], ◌++◌, Some}
use Rattle.std.specs.Prelude.{option_map}
use Rattle.cv_syntax_trees.specs.Tree.{size}
use Rattle.cv_syntax.specs.PoolTrees.{tree_at}
use Rattle.cv_syntax.proofs.Trees.{empty_at}
use Rattle.cv_scope_rules.specs.Context.{nothing_known}
use Rattle.cv_derive_facts.specs.Walks.{given_facts}
use Rattle.cv_derive_facts.proofs.Standings.{facts_empty, passed_append, no_place, none_passed, nothing_tests, passed_nil}
use Rattle.cv_derive.proofs.known.fact.Goals as goal

pub down-init : goal.down-init
down-init c = record {
  live = omega arith;
  tested = tt;
  within = omega arith;
  context = nothing_known;
  tests = nothing_tests c.args.pool.now.trees;
  passed = [];
  counts = let n = none_passed c.args.pool.now.trees c.args.k in record { left = n.left; fact = n.fact };
  kept = tt;
  same = passed_nil _;
}

pub down-preserved : goal.down-preserved
down-preserved c =
    let trees = c.args.pool.now.trees in
    let known = c.down.invariant in
    let next = c.in-Some-step.ensures.goes known.context known.tests in
    record {
      live = search rules;
      tested = c.in-Some-step.ensures.tested;
      within = let e : size (tree_at trees c.down.walk.at) ≡ size (tree_at trees (Some c.in-Some.n)) = ap (λ o. size (tree_at trees o)) c.in-Some.is in omega (arith, c.in-Some-step.ensures.fits, known.within, e);
      context = next.context;
      tests = next.tests;
      passed = known.passed ++ given_facts trees c.in-Some-step.given;
      counts = c.count_behind-count.ensures.counts trees c.args.k known.passed c.requires.from_one known.counts;
      kept = c.count_behind-count.ensures.live _ known.kept c.in-Some-step.ensures.live;
      same = sym (passed_append known.passed (given_facts trees c.in-Some-step.given) _) ∙ (ap (option_map (λ fs. known.passed ++ fs)) (sym next.place) ∙ known.same);
    }

pub returns : goal.returns
returns c =
    let trees = c.args.pool.now.trees in
    let known = c.down.invariant in
    record { fact = no_place c.args.k known.passed _ _ (facts_empty c.down.walk.position known.context (tree_at trees c.down.walk.at) c.down.walk.left (empty_at trees c.down.walk.at c.in_default.is)) known.same; live = tt }
