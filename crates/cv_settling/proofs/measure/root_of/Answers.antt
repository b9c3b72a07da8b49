use Rattle.std.proofs.Common.{ap, sym, ◌∙◌}
use Rattle.cv_syntax_trees.specs.Tree.{chain}
use Rattle.cv_syntax.specs.PoolTrees.{tree_at}
use Rattle.cv_scope_rules.specs.typing.Parts.{nothing_above}
use Rattle.cv_scope_rules.specs.typing.Signature.{sort_of}
use Rattle.cv_scene.specs.Terms.{signature_in}
use Rattle.cv_settling.specs.Putting.{names_of, terms_of}
use Rattle.cv_settling.proofs.Measuring.{put_end, put_here, sort_put}
use Rattle.cv_settling.proofs.measure.root_of.Goals as goal

pub returns-in_default : goal.returns-in_default
returns-in_default c =
    let trees = c.args.pool.now.trees in
    let part = tree_at trees c.args.part in
    λ s. ap (sort_of (signature_in s) nothing_above) (c.in_default.ensures.none ∙ sym (put_end (names_of c.args.given.now) (chain (terms_of trees c.args.given.now)) part c.in_default.ensures.none))

pub returns-in-Some-given_at : goal.returns-in-Some-given_at
returns-in-Some-given_at c =
    let trees = c.args.pool.now.trees in
    let part = tree_at trees c.args.part in
    let node = c.in-Some.node in
    λ s.
    sym (ap (sort_of (signature_in s) nothing_above)
    (put_here (names_of c.args.given.now) (chain (terms_of trees c.args.given.now)) part node.head (tree_at trees node.first) (tree_at trees node.second) c.in-Some.ensures.node _ (c.in-Some-given_at.ensures trees)))

pub returns : goal.returns
returns c =
    let trees = c.args.pool.now.trees in
    let part = tree_at trees c.args.part in
    let node = c.in-Some.node in
    λ s. sort_put s (names_of c.args.given.now) (chain (terms_of trees c.args.given.now)) part node.head (tree_at trees node.first) (tree_at trees node.second) c.in-Some.ensures.node (c.in_default-given_at.ensures trees)
