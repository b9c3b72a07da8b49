-- The reasons of which the terms of cited lines alone decide.
use Rattle.std.specs.Prelude.{Bool, false}
use Rattle.cv_syntax_trees.specs.declared.head.Head.{Head}
use Rattle.cv_syntax_trees.specs.declared.head.Head.TheVariants.{ByRefl, BySym, ByTrans, ByMp, ByAnd, ByLeft, ByRight, ByContra, ByExfalso, ByAgain, ByBool}
use Rattle.cv_syntax_trees.specs.Tree.{Tree, same_tree}
use Rattle.cv_scene.specs.lines.Inferences.{Visible, cited_term, is_both, is_left, is_refuted, is_reflexive, is_replaced_by, is_right_side, is_symmetric, is_transitive}
use Rattle.cv_scene.specs.lines.Truths.{is_truth, no}

abbrev pub follows_by : Visible → (term : Tree) → Head → (line next : Tree) → Bool
follows_by v t ByRefl l k = is_reflexive t
follows_by v t BySym l k = is_symmetric (cited_term v l) t
follows_by v t ByTrans l k = is_transitive (cited_term v l) (cited_term v k) t
follows_by v t ByMp l k = is_replaced_by (cited_term v l) (cited_term v k) t
follows_by v t ByAnd l k = is_both (cited_term v l) (cited_term v k) t
follows_by v t ByLeft l k = is_left (cited_term v l) t
follows_by v t ByRight l k = is_right_side (cited_term v l) t
follows_by v t ByContra l k = is_refuted (cited_term v l) (cited_term v k) t
follows_by v t ByExfalso l k = same_tree (cited_term v l) no
follows_by v t ByAgain l k = same_tree t (cited_term v l)
follows_by v t ByBool l k = is_truth t
follows_by v t h l k = false
