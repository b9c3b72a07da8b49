use Rattle.std.proofs.Common.{Some, length, refl, subst, sym, ◌∙◌}
use Rattle.std.specs.Prelude.{flat_map}
use Rattle.cv_syntax.specs.PoolTrees.{tree_at}
use Rattle.cv_settling_overview.specs.Facts.{full_parts}
use Rattle.cv_settling_overview.specs.Findings.{IsFound}
use Rattle.cv_settling_overview.proofs.Finding.{among_none, held_value, if_none_is, if_some_is, no_only_value, no_some, same_some, unknown}
use Rattle.cv_settling_overview.proofs.Reading.{key_one}
use Rattle.cv_settling_overview.proofs.facts.Facts.holding.Goals as goal

pub returns-in-Some-clause-some : goal.returns-in-Some-clause-some
returns-in-Some-clause-some c = λ live facts rs keeps.
    let trees = c.args.pool.now.trees in
    let q = c.key_of.ensures live in
    subst (IsFound trees facts c.in-Some.citation) (q.tree rs) (if_some_is _ c.in_ok-found.found c.in-Some.citation c.in_ok-found.ensures.some c.in-Some.is trees facts rs keeps)

pub returns-in_default-value-clause-none : goal.returns-in_default-value-clause-none
returns-in_default-value-clause-none c = λ single live facts rs keeps.
    let f = c.args.self.now in
    let trees = c.args.pool.now.trees in
    let t = tree_at trees (Some c.args.n) in
    let q = c.key_of.ensures live in
    let known = flat_map full_parts facts in
    let none = if_none_is _ c.in_ok-found.found c.in_ok-found.ensures.none c.in_default.is q.plain trees facts rs known keeps in
    among_none t facts (single.full c.args.n.0 live)
    (unknown trees facts rs known f.indices.items f.facts.items f.parts.items f.conjuncts keeps t c.key_of.result (λ l i v e. key_one trees single rs (length rs) c.key_of.result l (q.key (length rs)) q.plain i v (q.tree rs ∙ e)) none
    (no_only_value trees facts rs known f.indices.items f.facts.items f.parts.items f.conjuncts keeps t c.value.result (c.value.ensures.only single rs keeps.names) (λ k e. absurd (no_some k (sym e ∙ c.in_default-value.is)))))

pub returns-in_default-place-clause-none : goal.returns-in_default-place-clause-none
returns-in_default-place-clause-none c = λ single live facts rs keeps.
    let f = c.args.self.now in
    let trees = c.args.pool.now.trees in
    let t = tree_at trees (Some c.args.n) in
    let q = c.key_of.ensures live in
    let known = flat_map full_parts facts in
    let none = if_none_is _ c.in_ok-found.found c.in_ok-found.ensures.none c.in_default.is q.plain trees facts rs known keeps in
    among_none t facts (single.full c.args.n.0 live)
    (unknown trees facts rs known f.indices.items f.facts.items f.parts.items f.conjuncts keeps t c.key_of.result (λ l i v e. key_one trees single rs (length rs) c.key_of.result l (q.key (length rs)) q.plain i v (q.tree rs ∙ e)) none
    (no_only_value trees facts rs known f.indices.items f.facts.items f.parts.items f.conjuncts keeps t c.value.result (c.value.ensures.only single rs keeps.names) (λ k e. same_some c.in-Some-value.key k f.conjuncts (sym c.in-Some-value.is ∙ e) c.in_default-place.ensures.none)))

pub returns-clause-some : goal.returns-clause-some
returns-clause-some c = λ live facts rs keeps.
    let f = c.args.self.now in
    let trees = c.args.pool.now.trees in
    let given = c.in-Some-value.ensures.some in
    held_value trees facts rs f.indices.items f.facts.items f.parts.items f.conjuncts keeps _ (tree_at trees (Some c.args.n)) c.in-Some-value.key c.in-Some-place.k c.in-Some-at.conjunct c.in-Some-place.ensures.some (sym c.at.ensures ∙ c.in-Some-at.is) given.0 (given.1 rs keeps.names) refl refl c.new.ensures.items
