-- The parts of a certificate, node by node.
use Rattle.std.proofs.Common.{◌≡◌, ℕ, refl}
use Rattle.cv_syntax_trees.specs.declared.head.Head.TheVariants.{AboveRoute, AtEntry, CellRoute, HoldsRoute, NeverEntry, WithEntry}
use Rattle.cv_syntax_trees.specs.Tree.{Tree, Empty, Node}
use Rattle.cv_syntax.proofs.Trees.{tree_of_NoTree}
use Rattle.cv_meaning.specs.Correspondences.{Atom, Correspondence, RightEvent, RightTerm}
use Rattle.cv_scene.specs.Scenes.{Scene}
use Rattle.cv_query_certificates.specs.Forms.{has_form, has_route_form}
use Rattle.cv_query_parts.specs.Said.{has_saying, has_way, saying_of, way_of}

pub ruleset sayings = (tree_of_NoTree)

pub route_form : (s : Scene) (p : ℕ) (c : Atom) (route : Tree) → has_route_form s p c route ≡ has_way s p c (way_of route)
route_form s p (RightEvent inj f ms) (Node AboveRoute q by) = refl
route_form s p (RightEvent inj f ms) (Node CellRoute c Empty) = refl
route_form s p (RightEvent inj f ms) (Node CellRoute c (Node h q by)) = refl
route_form s p (RightEvent inj f ms) (Node HoldsRoute by e) = refl
route_form s p (RightEvent inj f ms) t = refl
route_form s p (RightTerm m) (Node AboveRoute q by) = refl
route_form s p (RightTerm m) (Node CellRoute c Empty) = refl
route_form s p (RightTerm m) (Node CellRoute c (Node h q by)) = refl
route_form s p (RightTerm m) (Node HoldsRoute by e) = refl
route_form s p (RightTerm m) t = refl

pub entry_form : (s : Scene) (q : Correspondence) (p : ℕ) (entry : Tree) → has_form s q p entry ≡ has_saying s q p (saying_of entry)
entry_form s q p (Node AtEntry n (Node NeverEntry by e)) = refl
entry_form s q p (Node AtEntry n (Node WithEntry ws choice)) = refl
entry_form s q p (Node AtEntry n t) = refl
entry_form s q p t = refl
