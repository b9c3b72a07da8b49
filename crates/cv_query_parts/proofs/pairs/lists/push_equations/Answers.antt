use Rattle.std.proofs.Common.{rules, arith, ◌≡◌, ◌∙◌, ap, length, map, min, sym}
use Rattle.std.proofs.lemmas.Result.{on_ok_weaker}
use Rattle.cv_syntax_trees.specs.Tree.{chain}
use Rattle.cv_scene.specs.Pairs.{of_second}
use Rattle.cv_query_certificates.specs.Pairs.{equations_between}
use Rattle.cv_query_parts.specs.declared.pairs.routes.Index.{Index}
use Rattle.cv_query_parts.specs.pairs.Routes.{index_tree}
use Rattle.cv_query_parts.proofs.pairs.Making.{both_length, both_more, equations, item_made, items_made, made_same, twice_mapped}
use Rattle.cv_query_parts.proofs.pairs.lists.push_equations.Goals as goal

pub indices-preserved : goal.indices-preserved
indices-preserved c =
    let f = index_tree c.args.pool.now.trees in
    let g = λ (i : Index). of_second c.args.names.now.raise c.args.names.now.rows.now (f i) in
    let m : c.min-count.result ≡ min (length c.args.ones.now) (length c.args.others.now) = search rules in
    item_made (equations f g c.args.ones.now c.args.others.now) c.indices.k c.indices.makes.items c.args.makes.now.items c.indices.invariant _ c.push_equation.new.makes.items (both_more f g c.args.ones.now c.args.others.now c.indices.k _ _ (omega (arith, m, c.indices-test.true)) (omega (arith, m, c.indices-test.true))) c.in_ok-push_equation.ensures

pub returns : goal.returns
returns c =
    let f = index_tree c.args.pool.now.trees in
    let g = λ (i : Index). of_second c.args.names.now.raise c.args.names.now.rows.now (f i) in
    let all = equations f g c.args.ones.now c.args.others.now in
    let m : c.min-count.result ≡ min (length c.args.ones.now) (length c.args.others.now) = search rules in
    let n = both_length f g c.args.ones.now c.args.others.now in
    let same = ap (λ us. chain (equations_between (map f c.args.ones.now) us)) (sym (twice_mapped f (of_second c.args.names.now.raise c.args.names.now.rows.now) c.args.others.now)) in
    on_ok_weaker c.close_list.result
    (λ e. made_same _ _ c.args.makes.now.items c.close_list.new.makes.items same (items_made all c.indices.k c.indices.makes.items c.args.makes.now.items c.indices.invariant c.min-count.result c.close_list.new.makes.items (omega (arith, m, n, c.indices-test.false)) (m ∙ sym n) e))
    c.close_list.ensures
