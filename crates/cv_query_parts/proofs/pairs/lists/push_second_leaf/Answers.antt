use Rattle.std.proofs.lemmas.Result.{on_ok_weaker}
use Rattle.cv_query_parts.proofs.pairs.Making.{first_leaf, made_same, second_leaf}
use Rattle.cv_query_parts.proofs.pairs.lists.push_second_leaf.Goals as goal

pub returns-in-Some : goal.returns-in-Some
returns-in-Some c =
    let names = c.args.names.now in
    on_ok_weaker c.push_leaf.result (made_same _ _ c.args.makes.now.items c.push_leaf.new.makes.items (second_leaf names.raise names.rows.now c.args.i c.in_ok-name.field-0 c.in_ok-name.ensures c.in-Some.name c.in-Some.is)) c.push_leaf.ensures

pub returns-in-None : goal.returns-in-None
returns-in-None c =
    let names = c.args.names.now in
    on_ok_weaker c.push_leaf-in-None.result (made_same _ _ c.args.makes.now.items c.push_leaf-in-None.new.makes.items (first_leaf names.raise names.rows.now c.args.i c.in_ok-name.field-0 c.in_ok-name.ensures c.in-None.is)) c.push_leaf-in-None.ensures
