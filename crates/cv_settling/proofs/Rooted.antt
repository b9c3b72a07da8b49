-- A term with another head than a left side is no instance of it.
use Rattle.std.proofs.Common.{◌≡◌, ℕ, Bool, true, false, ◌&&◌, ◌||◌, List, [], ◌∷◌, Option, Some, None, refl, sym, ap, ◌∙◌}
use Rattle.std.specs.Prelude.{◌==◌, if◌then◌else◌, option_and_then}
use Rattle.std.proofs.lemmas.Bool.{both_ways}
use Rattle.cv_syntax_trees.specs.declared.head.Head.{Head}
use Rattle.cv_syntax_trees.specs.declared.head.Head.TheVariants.{Leaf}
use Rattle.cv_syntax_trees.specs.Head.{code, same_head}
use Rattle.cv_syntax_trees.specs.Tree.{Tree, Empty, Node, bound_names, chain, same_tree}
use Rattle.cv_syntax.proofs.Trees.{same_open}
use Rattle.cv_syntax.specs.NameSets.{is_one_of}
use Rattle.cv_scene.specs.Scenes.{Scene}
use Rattle.cv_scene.specs.lines.Given.{given_for, term_for, with_given}
use Rattle.cv_settling_rules.specs.Equations.{are_of_types, is_left_side, terms_for}
use Rattle.cv_settling.specs.Instances.{Numbered, is_variable, lower_instance_of, may_have, root_of}
use Rattle.cv_settling.proofs.Matched.{lower_fails}
use Rattle.cv_settling.proofs.Measuring.{put_below}

not_given : (xs : List ℕ) (ms : Tree) (x : ℕ) → is_one_of xs x ≡ false → None ≡ term_for xs ms x
not_given [] ms x e = refl
not_given (y ∷ ys) Empty x e = refl
not_given (y ∷ ys) (Node h m ms) x e = by_test (y == x) (not_given ys ms x) e
  where
    by_test : (b : Bool) → (is_one_of ys x ≡ false → None ≡ term_for ys ms x) → (b || is_one_of ys x) ≡ false → None ≡ (if b then Some m else term_for ys ms x)
    by_test true later f = absurd (both_ways _ f refl)
    by_test false later f = later f

none_stands : (xs : List ℕ) (ms : Tree) (h : Head) → is_variable xs h ≡ false → None ≡ given_for xs ms h
none_stands xs ms (Leaf x) e = not_given xs ms x e
none_stands xs ms h e = refl

-- neither a name for which a term stands, nor this head
module _ (xs : List ℕ) (ms t : Tree) (h : Head) (a b : Tree) (e : t ≡ Node h a b) where
  other_head : (k : Head) (c d : Tree) → is_variable xs k ≡ false → same_head k h ≡ false → same_tree (with_given xs ms (Node k c d)) t ≡ false
  other_head k c d v f =
      let left = put_below xs ms (Node k c d) k c d refl (none_stands xs ms k v) in
      ap (λ u. same_tree u t) left
      ∙ (ap (same_tree (Node k (with_given xs ms c) (with_given xs ms d))) e
      ∙ (same_open (Node k (with_given xs ms c) (with_given xs ms d)) (Node h a b)
      ∙ ap (λ (q : Bool). q && (same_tree (with_given xs ms c) a && same_tree (with_given xs ms d) b)) f))

  other_root : (l : Tree) → may_have (root_of xs l) h ≡ false → same_tree (with_given xs ms l) t ≡ false
  other_root Empty f = absurd (both_ways _ f refl)
  other_root (Node k c d) f = by_variable (is_variable xs k) refl f
    where
      by_variable : (v : Bool) → is_variable xs k ≡ v → may_have (if v then None else Some (code k)) h ≡ false → same_tree (with_given xs ms (Node k c d)) t ≡ false
      by_variable true i g = absurd (both_ways _ g refl)
      by_variable false i g = other_head k c d i g

no_instance : (o : Option (List Tree)) (test : List Tree → Bool) → ((ms : List Tree) → test ms ≡ false) → None ≡ option_and_then (λ ms. if test ms then Some ms else None) o
no_instance None test f = refl
no_instance (Some ms) test f = sym (ap (λ (b : Bool). if b then Some ms else None) (f ms))

pub other_instance : (s : Scene) (e : Numbered) (t : Tree) (h : Head) (a b : Tree) → t ≡ Node h a b → may_have (root_of (bound_names e.binders) e.left) h ≡ false → None ≡ lower_instance_of s e t
other_instance s e t h a b n f =
    lower_fails s e t (no_instance (terms_for (bound_names e.binders) e.left t) (is_left_side s e.binders e.left t)
    (λ ms. ap (λ (q : Bool). q && are_of_types s e.binders ms) (other_root (bound_names e.binders) (chain ms) t h a b n e.left f)))
