use Rattle.std.proofs.Common.{length, refl, ◌∙◌}
use Rattle.std.specs.Prelude.{flat_map}
use Rattle.cv_syntax_trees.specs.declared.head.Head.TheVariants.{No}
use Rattle.cv_syntax_trees.specs.Tree.{Empty}
use Rattle.cv_scene.specs.lines.Truths.{no}
use Rattle.cv_settling_overview.specs.declared.keys.Key.TheVariants.{Falsity}
use Rattle.cv_settling_overview.specs.Facts.{full_parts}
use Rattle.cv_settling_overview.proofs.Finding.{among_full, no_value, ok_none_on, unknown}
use Rattle.cv_settling_overview.proofs.Reading.{falsity_one, no_eq}
use Rattle.cv_settling_overview.proofs.facts.Facts.falsity.Goals as goal

pub returns-clause-none : goal.returns-clause-none
returns-clause-none c = ok_none_on _ _ c.cited.result c.cited.ensures.none (λ q trees facts rs keeps.
    let f = c.args.self.now in
    let known = flat_map full_parts facts in
    among_full No Empty Empty facts
    ∙ unknown trees facts rs known f.indices.items f.facts.items f.parts.items f.conjuncts keeps no Falsity (λ l i v e. falsity_one trees rs (length rs) l i v e) (q refl trees facts rs known keeps) (λ j d s v e. no_value trees rs d.key No Empty Empty no_eq v e))
