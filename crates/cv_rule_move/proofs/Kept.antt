-- Facts of trees that hold by their nodes stay where a definition moves.
use Rattle.std.proofs.Common.{ℕ, List, refl}
use Rattle.cv_syntax_trees.specs.declared.head.Head.{Head}
use Rattle.cv_syntax_trees.specs.declared.head.Head.TheVariants.{Branch, Cons, Find, If}
use Rattle.cv_syntax_trees.specs.Declarations.{Declaration}
use Rattle.cv_syntax_trees.specs.Tree.{Tree, Empty, Node}
use Rattle.cv_meaning.specs.Interpretation.{Setting}
use Rattle.cv_meaning.specs.Runs.{Mode}
use Rattle.cv_meaning_chances.specs.values.Values.{HasValuesIn}
use Rattle.cv_typing_runs.specs.Games.{HasDeclaredSorts}
use Rattle.cv_steps_laws.proofs.Indices.{Lacks, lacking_node, lacking_parts}
use Rattle.cv_rule_move.specs.Moving.{in_bodies, in_branches, moved}

-- The children of a node have the fact; and a node has it with another second child that has it, a link and a `find` also with
-- another first child.
pub record IsByNodes (P : Tree → Type 0) : Type 0 where
  pub children : (h : Head) (a b : Tree) → P (Node h a b) → P a × P b
  pub behind : (h : Head) (a b c : Tree) → P (Node h a b) → P c → P (Node h a c)
  pub listed : (a b c : Tree) → P (Node Cons a b) → P c → P (Node Cons c b)
  pub found : (l : ℕ) (a b c : Tree) → P (Node (Find l) a b) → P c → P (Node (Find l) c b)

module _ (P : Tree → Type 0) (n : IsByNodes P) where
  module _ (before : Tree → Tree) (keeps : (b : Tree) → P b → P (before b)) where
    arm_kept : (us cells c b : Tree) → P (Node Branch us (Node Cons cells (Node Cons c b))) → P (Node Branch us (Node Cons cells (Node Cons c (before b))))
    arm_kept us cells c b d =
        let rest = (n.children Branch us (Node Cons cells (Node Cons c b)) d).1 in
        let guarded = (n.children Cons cells (Node Cons c b) rest).1 in
        let body = (n.children Cons c b guarded).1 in
        n.behind Branch us (Node Cons cells (Node Cons c b)) (Node Cons cells (Node Cons c (before b))) d
        (n.behind Cons cells (Node Cons c b) (Node Cons c (before b)) rest (n.behind Cons c b (before b) guarded (keeps b body)))

    branches_kept : (bs : Tree) → P bs → P (in_branches before bs)
    branches_kept (Node Cons (Node Branch us (Node Cons cells (Node Cons c b))) more) d =
        let old : Tree = Node Branch us (Node Cons cells (Node Cons c b)) in
        let new : Tree = Node Branch us (Node Cons cells (Node Cons c (before b))) in
        let q = n.children Cons old more d in
        n.behind Cons new more (in_branches before more) (n.listed old more new d (arm_kept us cells c b q.0)) (branches_kept more q.1)
    branches_kept bs d = d

    bodies_kept : (k : Tree) → P k → P (in_bodies before k)
    bodies_kept Empty d = d
    bodies_kept (Node If c (Node Cons t (Node Cons e r))) d =
        let q = (n.children If c (Node Cons t (Node Cons e r)) d).1 in
        let v = n.children Cons t (Node Cons e r) q in
        let w = n.children Cons e r v.1 in
        n.behind If c (Node Cons t (Node Cons e r)) (Node Cons (before t) (Node Cons (before e) r)) d
        (n.behind Cons (before t) (Node Cons e r) (Node Cons (before e) r) (n.listed t (Node Cons e r) (before t) q (keeps t v.0)) (n.listed e r (before e) v.1 (keeps e w.0)))
    bodies_kept (Node (Find l) bs e) d =
        let q = n.children (Find l) bs e d in
        n.behind (Find l) (in_branches before bs) e (before e) (n.found l bs e (in_branches before bs) d (branches_kept bs q.0)) (keeps e q.1)
    bodies_kept (Node h a b) d = n.behind h a b (before b) d (keeps b (n.children h a b d).1)

  pub moved_kept : (t : Tree) → P t → P (moved t)
  moved_kept Empty d = d
  moved_kept (Node h a construct) d = bodies_kept (Node h a) (λ b k. n.behind h a construct b d k) construct (n.children h a construct d).1

-- the types and parameters of a tree are declared
pub sorts_by_nodes : (ds : List Declaration) → IsByNodes (HasDeclaredSorts ds)
unfolding HasDeclaredSorts
sorts_by_nodes ds = record {
  children = λ h a b d. (d.1, d.2);
  behind = λ h a b c d k. (d.0, d.1, k);
  listed = λ a b c d k. (tt, k, d.2);
  found = λ l a b c d k. (tt, k, d.2);
}

-- its choices and tests have values
pub values_by_nodes : (g : Setting) (m : Mode) → IsByNodes (HasValuesIn g m)
unfolding HasValuesIn
values_by_nodes g m = record {
  children = λ h a b d. (d.1, d.2);
  behind = λ h a b c d k. (d.0, d.1, k);
  listed = λ a b c d k. (d.0, k, d.2);
  found = λ l a b c d k. (d.0, k, d.2);
}

-- it doesn't bind an index
pub lacking_by_nodes : (i : ℕ) → IsByNodes (Lacks i)
lacking_by_nodes i = record {
  children = λ h a b d. let q = lacking_parts i h a b d in (q.1, q.2);
  behind = λ h a b c d k. let q = lacking_parts i h a b d in lacking_node i h a c q.0 q.1 k;
  listed = λ a b c d k. lacking_node i Cons c b refl k (lacking_parts i Cons a b d).2;
  found = λ l a b c d k. lacking_node i (Find l) c b refl k (lacking_parts i (Find l) a b d).2;
}
