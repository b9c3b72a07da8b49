-- What is left of a construct without one of its bodies is in the grammar.
use Rattle.std.proofs.Common.{◌≡◌, ℕ, zero, suc, ◌&&◌, true, false, refl, ap₂}
use Rattle.std.proofs.lemmas.Bool.{both_ways, and_parts}
use Rattle.cv_syntax_trees.specs.declared.head.Head.TheVariants.{Cons, Find, If}
use Rattle.cv_syntax_trees.specs.Tree.{Tree, Empty, Node}
use Rattle.cv_scope_rules.specs.Phrases.{Body, Branches, Arm, is_phrase}
use Rattle.cv_scene.specs.Pruning.{find_of, without_branch}
use Rattle.cv_steps_laws.proofs.chances.Phrases.{Keeps, find_parts, if_bodies}

pub then_left : (c then_body else_body rest : Tree) → Keeps (Node If c (Node Cons then_body (Node Cons else_body rest))) then_body
unfolding is_phrase
then_left c t d n Body e = (if_bodies Body c t d n e).then
then_left c t d n σ e = absurd (both_ways false refl e)

pub else_left : (c then_body else_body rest : Tree) → Keeps (Node If c (Node Cons then_body (Node Cons else_body rest))) else_body
unfolding is_phrase
else_left c t d n Body e = (if_bodies Body c t d n e).else
else_left c t d n σ e = absurd (both_ways false refl e)

branches_left : (branches : Tree) (k : ℕ) → is_phrase Branches branches ≡ true → is_phrase Branches (without_branch branches k) ≡ true
unfolding is_phrase
branches_left (Node Cons branch more) (suc zero) e = (and_parts (is_phrase Arm branch) _ e).1
branches_left (Node Cons branch more) (suc (suc k)) e = let p = and_parts (is_phrase Arm branch) _ e in ap₂ ◌&&◌ p.0 (branches_left more (suc k) p.1)
branches_left Empty k e = refl
branches_left (Node Cons branch more) zero e = e
branches_left (Node h branch more) k e = absurd (both_ways false refl e)

pub find_left : (l : ℕ) (branches otherwise : Tree) (k : ℕ) → Keeps (Node (Find l) branches otherwise) (find_of l (without_branch branches k) otherwise)
unfolding is_phrase
find_left l bs d k Body e =
    let p = find_parts Body l bs d e in
    go (without_branch bs k) (branches_left bs k p.branches) p.else
  where
    go : (x : Tree) → is_phrase Branches x ≡ true → is_phrase Body d ≡ true → is_phrase Body (find_of l x d) ≡ true
    go Empty f g = g
    go (Node h a b) f g = ap₂ ◌&&◌ f g
find_left l bs d k σ e = absurd (both_ways false refl e)
