use Rattle.std.proofs.Common.{◌≡◌, true, ap, sym, subst, ◌∙◌}
use Rattle.std.specs.Prelude.{flat_map}
use Rattle.std.specs.List.{list_any}
use Rattle.std.proofs.lemmas.Bool.{both_ways}
use Rattle.cv_syntax_trees.specs.Tree.{same_tree}
use Rattle.cv_settling_overview.specs.Facts.{Cites, full_parts, is_value, key_tree}
use Rattle.cv_settling_overview.proofs.Finding.{among_by, known_there, ok_none_on, ok_some_on}
use Rattle.cv_settling_overview.proofs.facts.Facts.cited.Goals as goal

pub returns-in-Some-clause-some : goal.returns-in-Some-clause-some
returns-in-Some-clause-some c = ok_some_on _ _ c.cited_at.result c.cited_at.ensures.some (λ ct q trees facts rs keeps.
    let f = c.args.self.now in
    let a = c.in-Some.ensures.some in
    let known = flat_map full_parts facts in
    record {
      cites = subst (λ k. Cites trees facts ct (key_tree trees rs k)) a.same (q trees facts rs known a.conjunct keeps a.there);
      among = among_by (key_tree trees rs c.args.key) facts
          (subst (λ k. list_any (same_tree (key_tree trees rs k)) known ≡ true) a.same (known_there trees facts rs known f.indices.items f.facts.items f.parts.items f.conjuncts keeps c.in-Some.k a.conjunct a.there));
    })

pub returns-in-Some-clause-none : goal.returns-in-Some-clause-none
returns-in-Some-clause-none c = ok_none_on _ _ c.cited_at.result c.cited_at.ensures.none (λ q plain trees facts rs known keeps.
    let a = c.in-Some.ensures.some in
    absurd (both_ways _ plain (ap is_value (sym a.same) ∙ q trees facts rs known a.conjunct keeps a.there)))
