use Rattle.std.proofs.Common.{sym, ap, ◌∙◌}
use Rattle.std.specs.Prelude.{option_map}
use Rattle.cv_syntax.specs.PoolTrees.{tree_at}
use Rattle.cv_derive_reasons.specs.inferences.Sides.{both_at}
use Rattle.cv_derive_lines.specs.citing.Bookmarks.{visible_to}
use Rattle.cv_derive_lines.proofs.terms.Congruent.{one_head}
use Rattle.cv_derive_lines.proofs.terms.congruence.is_congruent.Goals as goal

pub returns : goal.returns
returns c = λ s e.
    let trees = c.args.pool.now.trees in
    let m = c.in-Some-read_child.m in
    let k = c.in-Some-read_child-2.k in
    one_head s (visible_to trees c.args.citing.now) (tree_at trees c.args.cited_claims) (tree_at trees c.args.term) (tree_at trees c.in-Some.left) (tree_at trees c.in-Some.right) m.head k.head (tree_at trees m.first) (tree_at trees m.second) (tree_at trees k.first) (tree_at trees k.second) (sym (ap (option_map (both_at trees)) c.in-Some.is) ∙ c.sides.ensures.sides) c.in-Some-read_child.ensures.node c.in-Some-read_child-2.ensures.node (sym c.have_same_head.ensures ∙ c.if-not-have_same_head.false) c.are_arguments_equal_by.result (c.are_arguments_equal_by.ensures s e)
