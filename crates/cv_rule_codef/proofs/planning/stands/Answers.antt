use Rattle.std.proofs.Common.{Some, refl, sym, ◌∙◌, ◌&&◌}
use Rattle.cv_syntax_trees.specs.Tree.{first, same_tree}
use Rattle.cv_syntax.specs.PoolTrees.{tree_at}
use Rattle.cv_scene.specs.Sights.{is_cell_at, sight_at}
use Rattle.cv_scene_view.specs.Kept.{scene_of}
use Rattle.cv_rule_codef.proofs.planning.stands.Goals as goal

pub returns-then-not-is_typed_claim : goal.returns-then-not-is_typed_claim
returns-then-not-is_typed_claim c =
    let trees = c.args.work.now.pool.trees in
    let s = scene_of c.args.work.now.pool c.args.work.now.decls c.args.game in
    let p = c.args.place in
    let to = tree_at trees (Some c.args.to) in
    let from = tree_at trees (Some c.args.from) in
    let there = sym c.has_place.ensures ∙ c.if-not-has_place.false in
    let typed = sym (c.is_typed_claim.ensures (sight_at s p) (record { declared = refl; sites = c.requires.arrays; bound = c.in_ok-above.ensures })) ∙ c.if-not-is_typed_claim.true in
    sym (λ i. there i && (typed i && (is_cell_at s p from && same_tree (first to) (first from))))

pub returns-then-not-is_typed_claim-2 : goal.returns-then-not-is_typed_claim-2
returns-then-not-is_typed_claim-2 c =
    let trees = c.args.work.now.pool.trees in
    let s = scene_of c.args.work.now.pool c.args.work.now.decls c.args.game in
    let p = c.args.place in
    let to = tree_at trees (Some c.args.to) in
    let from = tree_at trees (Some c.args.from) in
    let there = sym c.has_place.ensures ∙ c.if-not-has_place.false in
    let typed = sym (c.is_typed_claim.ensures (sight_at s p) (record { declared = refl; sites = c.requires.arrays; bound = c.in_ok-above.ensures })) ∙ c.if-not-is_typed_claim.false in
    let other = sym (c.is_typed_claim-2.ensures (sight_at s p) (record { declared = refl; sites = c.requires.arrays; bound = c.in_ok-above.ensures })) ∙ c.if-not-is_typed_claim-2.true in
    sym (λ i. there i && (typed i && (other i && same_tree (first to) (first from))))

pub returns : goal.returns
returns c =
    let trees = c.args.work.now.pool.trees in
    let s = scene_of c.args.work.now.pool c.args.work.now.decls c.args.game in
    let p = c.args.place in
    let to = tree_at trees (Some c.args.to) in
    let from = tree_at trees (Some c.args.from) in
    let there = sym c.has_place.ensures ∙ c.if-not-has_place.false in
    let typed = sym (c.is_typed_claim.ensures (sight_at s p) (record { declared = refl; sites = c.requires.arrays; bound = c.in_ok-above.ensures })) ∙ c.if-not-is_typed_claim.false in
    let other = sym (c.is_typed_claim-2.ensures (sight_at s p) (record { declared = refl; sites = c.requires.arrays; bound = c.in_ok-above.ensures })) ∙ c.if-not-is_typed_claim-2.false in
    c.same.ensures ∙ ((λ i. same_tree (c.first_of.ensures.tree i) (c.first_of-2.ensures.tree i)) ∙ sym (λ i. there i && (typed i && (other i && same_tree (first to) (first from)))))
