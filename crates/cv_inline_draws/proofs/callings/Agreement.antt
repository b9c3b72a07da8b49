-- The functions of sides that agree in shape.
use Rattle.std.proofs.Common.{◌≡◌, true, false, refl}
use Rattle.std.proofs.lemmas.Bool.{and_parts, both_ways}
use Rattle.cv_syntax_trees.specs.Tree.{Tree, Empty, Node, second}
use Rattle.cv_group_rules.specs.Rules.{all_agree, functions_agree, groups_agree, same_bound, shapes_agree}
use Rattle.cv_inline_draws.specs.callings.RightFunctions.{AreNodes, HasRightFunctions}

agreeing : (s t : Tree) → all_agree s t ≡ true → AreNodes t
unfolding all_agree
agreeing Empty Empty e = tt
agreeing Empty (Node k g rest) e = absurd (both_ways false refl e)
agreeing (Node h f more) Empty e = absurd (both_ways false refl e)
agreeing (Node h Empty more) (Node k Empty rest) e = absurd (both_ways false refl e)
agreeing (Node h (Node i a b) more) (Node k Empty rest) e = absurd (both_ways false refl e)
agreeing (Node h f more) (Node k (Node j c d) rest) e = agreeing more rest (and_parts (functions_agree f (Node j c d)) (all_agree more rest) e).1

groups : (s t : Tree) → groups_agree s t ≡ true → AreNodes (second t)
groups Empty t e = absurd (both_ways false refl e)
groups (Node h a b) Empty e = absurd (both_ways false refl e)
groups (Node h a b) (Node k c d) e = agreeing b d (and_parts (same_bound h k) (all_agree b d) e).1

pub have_functions : (t : Tree) → shapes_agree t ≡ true → HasRightFunctions t
have_functions Empty e = absurd (both_ways false refl e)
have_functions (Node h a b) e = groups a b (and_parts (groups_agree a b) _ e).0
