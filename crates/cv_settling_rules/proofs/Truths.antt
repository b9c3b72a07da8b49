-- The equations of truth values, taken from left to right.
use Rattle.std.proofs.Common.{◌≡◌, Bool, true, false, List, ◌++◌, refl, ap, ◌∙◌}
use Rattle.std.specs.Prelude.{◌&&◌, ◌||◌}
use Rattle.cv_syntax_trees.specs.declared.head.Head.TheVariants.{And, Eq, Not, Or}
use Rattle.cv_syntax_trees.specs.Tree.{Tree, Node, same_tree}
use Rattle.cv_scene.specs.lines.Truths.{is_double, is_truth_of_sides, no, yes}
use Rattle.cv_settling_rules.specs.Candidates.{when}
use Rattle.cv_settling_rules.specs.Conjuncts.{is_among}
use Rattle.cv_settling_rules.specs.Equations.{of_double, of_sides}

or_false : (b : Bool) → (b || false) ≡ b
or_false true = refl
or_false false = refl

among_when : (b : Bool) (m r : Tree) (ts : List Tree) → is_among (when b m ++ ts) r ≡ ((b && same_tree r m) || is_among ts r)
among_when true m r ts = refl
among_when false m r ts = refl

among_last : (b : Bool) (m r : Tree) → is_among (when b m) r ≡ (b && same_tree r m)
among_last true m r = or_false (same_tree r m)
among_last false m r = refl

among_double : (m r : Tree) → is_among (of_double m) r ≡ is_double m r
among_double (Node Not a e) r = or_false (same_tree r a)
among_double m r = refl

pub among_sides : (t r : Tree) → is_among (of_sides t) r ≡ is_truth_of_sides t r
among_sides (Node Eq m n) r =
    among_when (same_tree n yes) m r _
    ∙ ap (λ b. (same_tree n yes && same_tree r m) || b) (among_when (same_tree n m) yes r _ ∙ ap (λ b. (same_tree n m && same_tree r yes) || b) (or_false _))
among_sides (Node And m n) r =
    among_when (same_tree n yes) m r _
    ∙ ap (λ b. (same_tree n yes && same_tree r m) || b) (among_when (same_tree m yes) n r _
    ∙ ap (λ b. (same_tree m yes && same_tree r n) || b) (among_when (same_tree n no) no r _
    ∙ ap (λ b. (same_tree n no && same_tree r no) || b) (among_last (same_tree m no) no r)))
among_sides (Node Or m n) r =
    among_when (same_tree n yes) yes r _
    ∙ ap (λ b. (same_tree n yes && same_tree r yes) || b) (among_when (same_tree m yes) yes r _
    ∙ ap (λ b. (same_tree m yes && same_tree r yes) || b) (among_when (same_tree n no) m r _
    ∙ ap (λ b. (same_tree n no && same_tree r m) || b) (among_last (same_tree m no) n r)))
among_sides (Node Not m e) r =
    ap (λ b. same_tree r (Node Eq m no) || b) (among_when (same_tree m yes) no r _
    ∙ ap (λ b. (same_tree m yes && same_tree r no) || b) (among_when (same_tree m no) yes r _
    ∙ ap (λ b. (same_tree m no && same_tree r yes) || b) (among_double m r)))
among_sides t r = refl
