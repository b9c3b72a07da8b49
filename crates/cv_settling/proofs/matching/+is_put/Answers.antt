use Rattle.std.proofs.Common.{Some, ◌∙◌}
use Rattle.cv_syntax_trees.specs.Tree.{chain}
use Rattle.cv_syntax.specs.PoolTrees.{tree_at}
use Rattle.cv_settling.specs.Putting.{names_of, terms_of}
use Rattle.cv_settling.proofs.Compared.{nothing_put, put_first, put_other, put_rest, put_short, term_put}
use Rattle.cv_settling.proofs.matching.+is_put.Goals as goal

pub returns-in_default : goal.returns-in_default
returns-in_default t c =
    let trees = c.args.pool.now.trees in
    c.is_nothing.ensures ∙ nothing_put (names_of c.args.given.now) (chain (terms_of trees c.args.given.now)) (tree_at trees c.args.pattern) (tree_at trees c.args.term) c.in_default.ensures.none

pub returns-in-Some-given_at : goal.returns-in-Some-given_at
returns-in-Some-given_at t c =
    let trees = c.args.pool.now.trees in
    let node = c.in-Some.node in
    c.are_same.ensures
    ∙ term_put (names_of c.args.given.now) (chain (terms_of trees c.args.given.now)) (tree_at trees c.args.pattern) (tree_at trees c.args.term) node.head (tree_at trees node.first) (tree_at trees node.second) c.in-Some.ensures.node (tree_at trees (Some c.in-Some-given_at.there)) (c.in-Some-given_at.ensures trees)

pub returns-in_default-opened : goal.returns-in_default-opened
returns-in_default-opened t c =
    let trees = c.args.pool.now.trees in
    let node = c.in-Some.node in
    put_short (names_of c.args.given.now) (chain (terms_of trees c.args.given.now)) (tree_at trees c.args.pattern) (tree_at trees c.args.term) node.head (tree_at trees node.first) (tree_at trees node.second) c.in-Some.ensures.node (c.in_default-given_at.ensures trees) c.in_default-opened.ensures.none

pub returns-then-not-are_same_heads : goal.returns-then-not-are_same_heads
returns-then-not-are_same_heads t c =
    let trees = c.args.pool.now.trees in
    let node = c.in-Some.node in
    let other = c.in-Some-opened.other in
    put_other (names_of c.args.given.now) (chain (terms_of trees c.args.given.now)) (tree_at trees c.args.pattern) (tree_at trees c.args.term) node.head (tree_at trees node.first) (tree_at trees node.second) c.in-Some.ensures.node (c.in_default-given_at.ensures trees)
    other.head (tree_at trees other.first) (tree_at trees other.second) c.in-Some-opened.ensures.node c.are_same_heads.result c.are_same_heads.ensures c.if-not-are_same_heads.true

pub returns-then-not-is_put : goal.returns-then-not-is_put
returns-then-not-is_put t c =
    let trees = c.args.pool.now.trees in
    let node = c.in-Some.node in
    let other = c.in-Some-opened.other in
    put_first (names_of c.args.given.now) (chain (terms_of trees c.args.given.now)) (tree_at trees c.args.pattern) (tree_at trees c.args.term) node.head (tree_at trees node.first) (tree_at trees node.second) c.in-Some.ensures.node (c.in_default-given_at.ensures trees)
    other.head (tree_at trees other.first) (tree_at trees other.second) c.in-Some-opened.ensures.node c.are_same_heads.result c.are_same_heads.ensures c.if-not-are_same_heads.false c.is_put.result c.is_put.ensures c.if-not-is_put.true

pub returns : goal.returns
returns t c =
    let trees = c.args.pool.now.trees in
    let node = c.in-Some.node in
    let other = c.in-Some-opened.other in
    c.is_put-2.ensures
    ∙ put_rest (names_of c.args.given.now) (chain (terms_of trees c.args.given.now)) (tree_at trees c.args.pattern) (tree_at trees c.args.term) node.head (tree_at trees node.first) (tree_at trees node.second) c.in-Some.ensures.node (c.in_default-given_at.ensures trees)
    other.head (tree_at trees other.first) (tree_at trees other.second) c.in-Some-opened.ensures.node c.are_same_heads.result c.are_same_heads.ensures c.if-not-are_same_heads.false c.is_put.result c.is_put.ensures c.if-not-is_put.false
