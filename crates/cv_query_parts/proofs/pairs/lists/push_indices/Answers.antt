use Rattle.std.proofs.Common.{arith, length, map, sym}
use Rattle.std.proofs.lemmas.List.{length-map}
use Rattle.std.proofs.lemmas.Result.{on_ok_weaker}
use Rattle.cv_scene.specs.Late.{index_term}
use Rattle.cv_query_parts.proofs.pairs.Making.{item_made, items_made, mapped_more}
use Rattle.cv_query_parts.proofs.pairs.lists.push_indices.Goals as goal

pub rows-preserved : goal.rows-preserved
rows-preserved c =
    let rows = c.args.rows.now in
    item_made (map index_term rows) c.rows.k c.rows.makes.items c.args.makes.now.items c.rows.invariant _ c.push_leaf.new.makes.items (mapped_more index_term rows c.rows.k (0, 0) c.rows-test.true) c.in_ok-push_leaf.ensures

pub returns : goal.returns
returns c =
    let rows = c.args.rows.now in
    on_ok_weaker c.close_list.result (λ e. items_made (map index_term rows) c.rows.k c.rows.makes.items c.args.makes.now.items c.rows.invariant (length rows) c.close_list.new.makes.items (omega (arith, length-map rows index_term)) (sym (length-map rows index_term)) e) c.close_list.ensures
