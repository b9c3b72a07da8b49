use Rattle.std.proofs.Common.{ap, ◌∙◌, sym, ◌+◌, [], ◌∷◌}
use Rattle.cv_syntax_trees.specs.declared.head.Head.TheVariants.{Find}
use Rattle.cv_syntax_trees.specs.Tree.{Node, second_place}
use Rattle.cv_syntax.specs.PoolTrees.{tree_at}
use Rattle.cv_rule_move.specs.merge.Merging.{Body, bodies, branch_bodies, first_other}
use Rattle.cv_rule_move.proofs.merge.Looks.{other_first, other_second}
use Rattle.cv_rule_move.proofs.merge.bodies.first_other.Goals as goal

pub returns-in-Some : goal.returns-in-Some
returns-in-Some c =
    let trees = c.args.pool.now.trees in
    let k = c.args.construct in
    let x = tree_at trees c.args.process in
    let a = tree_at trees k.first in
    let b = tree_at trees k.second in
    other_first x (branch_bodies (c.args.place + 1) a) ((record { place = second_place c.args.place (Find c.in-Find.field-0) a; process = b }) ∷ []) c.in-Some.found c.in-Some.ensures
    ∙ sym (ap (λ h. first_other x (bodies c.args.place (Node h a b))) c.in-Find.is)

pub returns-in-None : goal.returns-in-None
returns-in-None c =
    let trees = c.args.pool.now.trees in
    let k = c.args.construct in
    let x = tree_at trees c.args.process in
    let a = tree_at trees k.first in
    let b = tree_at trees k.second in
    c.other.ensures
    ∙ (ap (λ n. first_other x ((let e : Body = record { place = c.args.place + 1 + n; process = b } in e) ∷ [])) c.size_below.ensures
    ∙ (other_second x (branch_bodies (c.args.place + 1) a) ((record { place = second_place c.args.place (Find c.in-Find.field-0) a; process = b }) ∷ []) c.in-None.ensures
    ∙ sym (ap (λ h. first_other x (bodies c.args.place (Node h a b))) c.in-Find.is)))
