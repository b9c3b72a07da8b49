use Rattle.std.proofs.Common.{◌≡◌, ap, subst, ◌∙◌, true, Some}
use Rattle.std.specs.Prelude.{flat_map}
use Rattle.std.specs.List.{list_any}
use Rattle.std.proofs.lemmas.Bool.{both_ways}
use Rattle.cv_syntax.specs.PoolTrees.{tree_at}
use Rattle.cv_syntax_trees.specs.Tree.{same_tree}
use Rattle.cv_settling_overview.specs.Facts.{equation_of, full_parts, is_value, key_tree}
use Rattle.cv_settling_overview.proofs.Finding.{among_by, equation_parts, key_equation, known_there, no_equation_among, no_equation_known, no_value_key, ok_none_on, ok_some_on}
use Rattle.cv_settling_overview.proofs.facts.Facts.equating.Goals as goal

pub returns-in_default-clause-none : goal.returns-in_default-clause-none
returns-in_default-clause-none c = λ single live facts rs keeps r n.
    let f = c.args.self.now in
    let trees = c.args.pool.now.trees in
    let m = tree_at trees (Some c.args.term) in
    let a = c.operand_of-left.result in
    no_equation_among facts r m c.args.name
    (no_equation_known trees facts rs (flat_map full_parts facts) f.indices.items f.facts.items f.parts.items f.conjuncts keeps single r m c.args.name a (c.operand_of-left.ensures live) c.in_default.ensures.none.0 c.in_default.ensures.none.1 n)

pub returns-clause-some : goal.returns-clause-some
returns-clause-some c = ok_some_on _ _ c.equated_at.result c.equated_at.ensures.some (λ e q live facts rs keeps.
    let f = c.args.self.now in
    let trees = c.args.pool.now.trees in
    let m = tree_at trees (Some c.args.term) in
    let a = c.operand_of-left.result in
    let known = flat_map full_parts facts in
    let at = c.in-Some.ensures.some in
    let tree : key_tree trees rs at.conjunct.key ≡ equation_of c.in-Some.is_turned m c.args.name = ap (key_tree trees rs) at.same ∙ key_equation trees rs c.in-Some.is_turned m c.args.name a (c.operand_of-left.ensures live) in
    equation_parts trees facts e c.in-Some.is_turned m c.args.name (λ l r g. q trees facts rs known at.conjunct l r keeps at.there (tree ∙ g))
    (among_by (equation_of c.in-Some.is_turned m c.args.name) facts (subst (λ t. list_any (same_tree t) known ≡ true) tree (known_there trees facts rs known f.indices.items f.facts.items f.parts.items f.conjuncts keeps c.in-Some.k at.conjunct at.there))))

pub returns-clause-none : goal.returns-clause-none
returns-clause-none c = ok_none_on _ _ c.equated_at.result c.equated_at.ensures.none (λ q single live facts rs keeps r n.
    let trees = c.args.pool.now.trees in
    let at = c.in-Some.ensures.some in
    absurd (both_ways _ (ap is_value at.same ∙ no_value_key c.in-Some.is_turned c.operand_of-left.result _) (q trees facts rs (flat_map full_parts facts) at.conjunct keeps at.there)))
