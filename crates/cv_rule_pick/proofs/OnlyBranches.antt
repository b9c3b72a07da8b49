-- A `find` whose list of branches begins with another node has no only branch.
use Rattle.std.proofs.Common.{◌≡◌, ℕ, Bool, true, false, cond, Option, Some, None, refl, sym, ap, subst, ◌∙◌}
use Rattle.cv_syntax_trees.specs.declared.head.Head.{Head}
use Rattle.cv_syntax_trees.specs.declared.head.Head.TheVariants.{Branch, Cons, Find}
use Rattle.cv_syntax_trees.specs.Head.{same_head}
use Rattle.cv_syntax_trees.specs.Tree.{Tree, Empty, Node}
use Rattle.cv_syntax_trees.proofs.Equality.{same_head_exact}
use Rattle.cv_derive_reasons.specs.inferences.Sides.{sides_of}
use Rattle.cv_rule_pick.specs.Picking.{only_arm}

no_branch_in : (x y o : Tree) (l : ℕ) → sides_of Branch x ≡ None → only_arm (Node (Find l) (Node Cons x y) o) ≡ None
no_branch_in Empty y o l e = refl
no_branch_in (Node Branch us rest) y o l e = absurd (cc)
no_branch_in (Node h us rest) y o l e = refl

one_pair : (p q : Tree × Tree) → ◌≡◌ {A = Option (Tree × Tree)} (Some p) (Some q) → p ≡ q
one_pair p q e = cc

pub no_branch : (t : Tree) (h : Head) (l : ℕ) (f o : Tree) (both : Tree × Tree) → t ≡ Node h f o → h ≡ Find l → Some both ≡ sides_of Cons f → None ≡ sides_of Branch both.0 → only_arm t ≡ None
no_branch t h l f o both e i j k = ap only_arm (e ∙ ap (λ q. Node q f o) i) ∙ go f j
  where
    go : (f : Tree) → Some both ≡ sides_of Cons f → only_arm (Node (Find l) f o) ≡ None
    go Empty j = absurd (cc)
    go (Node q x y) j = on (same_head q Cons) refl j
      where
        on : (b : Bool) → same_head q Cons ≡ b → Some both ≡ cond b (Some (x, y)) None → only_arm (Node (Find l) (Node q x y) o) ≡ None
        on false m n = absurd (cc)
        on true m n =
            ap (λ (z : Head). only_arm (Node (Find l) (Node z x y) o)) (same_head_exact q Cons m)
            ∙ no_branch_in x y o l (subst (λ (z : Tree × Tree). sides_of Branch z.0 ≡ None) (one_pair both (x, y) n) (sym k))
