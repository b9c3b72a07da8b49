use Rattle.std.proofs.Common.{Some, length, refl, ◌∙◌}
use Rattle.std.specs.Prelude.{flat_map}
use Rattle.cv_syntax.specs.PoolTrees.{tree_at}
use Rattle.cv_syntax_trees.specs.declared.head.Head.TheVariants.{Not}
use Rattle.cv_syntax_trees.specs.Tree.{Empty}
use Rattle.cv_settling_overview.specs.declared.keys.Key.TheVariants.{Denial}
use Rattle.cv_settling_overview.specs.Facts.{denial_of, full_parts}
use Rattle.cv_settling_overview.proofs.Finding.{among_full, no_value, ok_none_on, unknown}
use Rattle.cv_settling_overview.proofs.Reading.{denial_one, not_eq}
use Rattle.cv_settling_overview.proofs.facts.Facts.denying.Goals as goal

pub returns-clause-none : goal.returns-clause-none
returns-clause-none c = ok_none_on _ _ c.cited.result c.cited.ensures.none (λ q trees single live facts rs keeps.
    let f = c.args.self.now in
    let n = c.args.n in
    let m = tree_at trees (Some n) in
    let known = flat_map full_parts facts in
    among_full Not m Empty facts
    ∙ unknown trees facts rs known f.indices.items f.facts.items f.parts.items f.conjuncts keeps (denial_of m) (Denial (Some n.0)) (λ l i v e. denial_one trees single rs (length rs) (Some n.0) l live i v e) (q refl trees facts rs known keeps)
    (λ j d s v e. no_value trees rs d.key Not m Empty not_eq v e))
