-- Instances of equations: what stands for names, node by node, and binder by binder.
use Rattle.std.proofs.Common.{◌≡◌, ℕ, ◌+◌, Bool, true, false, ◌&&◌, List, [], ◌∷◌, ◌++◌, map, Option, Some, None, refl, sym, ap, ap₂, ◌∙◌, append-nil}
use Rattle.std.specs.Prelude.{if◌then◌else◌, option_and_then, option_map}
use Rattle.std.proofs.lemmas.List.{append_assoc, map-append}
use Rattle.cv_pool.specs.KindTree.{KindTree}
use Rattle.cv_pool.specs.declared.node.NodeId.{NodeId}
use Rattle.cv_syntax_trees.specs.declared.head.Head.{Head}
use Rattle.cv_syntax_trees.specs.declared.head.Head.TheVariants.{Binder}
use Rattle.cv_syntax_trees.specs.Tree.{Tree, Empty, Node, bound_names, chain, first, same_tree, second}
use Rattle.cv_syntax_trees.specs.sites.Sites.{first_of}
use Rattle.cv_syntax.specs.PoolTrees.{tree_at}
use Rattle.cv_syntax.proofs.ChildReads.{bound_names_Binder, bound_names_other}
use Rattle.cv_scene.specs.Instances.{standing_for, standing_here}
use Rattle.cv_scene.specs.Scenes.{Scene}
use Rattle.cv_scene.specs.lines.Given.{with_given}
use Rattle.cv_settling_rules.specs.Equations.{are_of_types, is_left_side, is_of_type, terms_for}
use Rattle.cv_settling.specs.Instances.{Numbered, instance_of, lower_instance_of, right_with, typed_term, typed_terms}
use Rattle.cv_settling.specs.Measured.{is_lower}
use Rattle.cv_settling.specs.Putting.{names_of, terms_of}
use Rattle.cv_settling.specs.declared.terms.Given.{Given}

-- what stands for a name, node by node

standing_node : (x : ℕ) (h : Head) (a b m : Tree) → standing_for x (Node h a b) m ≡ first_of (standing_here x h m) (first_of (standing_for x a (first m)) (standing_for x b (second m)))
unfolding standing_for
standing_node x h a b m = refl

standing_empty : (x : ℕ) (m : Tree) → standing_for x Empty m ≡ None
unfolding standing_for
standing_empty x m = refl

module _ (x : ℕ) (t m : Tree) where
  pub standing_end : t ≡ Empty → None ≡ standing_for x t m
  standing_end e = sym (ap (λ u. standing_for x u m) e ∙ standing_empty x m)

  module _ (h : Head) (a b : Tree) (e : t ≡ Node h a b) where
    whole : standing_for x t m ≡ first_of (standing_here x h m) (first_of (standing_for x a (first m)) (standing_for x b (second m)))
    whole = ap (λ u. standing_for x u m) e ∙ standing_node x h a b m

    pub standing_at : (n : Tree) → Some n ≡ standing_here x h m → Some n ≡ standing_for x t m
    standing_at n f = sym (whole ∙ ap (λ o. first_of o (first_of (standing_for x a (first m)) (standing_for x b (second m)))) (sym f))

    module _ (f : None ≡ standing_here x h m) where
      parts : standing_for x t m ≡ first_of (standing_for x a (first m)) (standing_for x b (second m))
      parts = whole ∙ ap (λ o. first_of o (first_of (standing_for x a (first m)) (standing_for x b (second m)))) (sym f)

      pub standing_first : (n : Tree) → Some n ≡ standing_for x a (first m) → Some n ≡ standing_for x t m
      standing_first n g = sym (parts ∙ ap (λ o. first_of o (standing_for x b (second m))) (sym g))

      pub standing_rest : None ≡ standing_for x a (first m) → standing_for x b (second m) ≡ standing_for x t m
      standing_rest g = sym (parts ∙ ap (λ o. first_of o (standing_for x b (second m))) (sym g))

-- a term of a type

pub typed_none : (s : Scene) (T x : ℕ) (l t : Tree) → None ≡ standing_for x l t → None ≡ typed_term s T x l t
typed_none s T x l t e = ap (option_and_then (λ m. if is_of_type s T m then Some m else None)) e

pub typed_some : (s : Scene) (T x : ℕ) (l t m : Tree) (b : Bool) → Some m ≡ standing_for x l t → b ≡ is_of_type s T m → (if b then Some m else None) ≡ typed_term s T x l t
typed_some s T x l t m b e f = ap (λ (c : Bool). if c then Some m else None) f ∙ ap (option_and_then (λ m. if is_of_type s T m then Some m else None)) e

-- terms for binders, one by one
module _ (s : Scene) (l t : Tree) where
  pub typed_start : (bs : Tree) → option_map (λ ns. [] ++ ns) (typed_terms s bs l t) ≡ typed_terms s bs l t
  typed_start bs = same (typed_terms s bs l t)
    where
      same : (o : Option (List Tree)) → option_map (λ ns. [] ++ ns) o ≡ o
      same None = refl
      same (Some ns) = refl

  typed_other : (h : Head) (a b : Tree) → ((x T : ℕ) → h ≡ Binder x T → ⊥) → typed_terms s (Node h a b) l t ≡ Some []
  typed_other (Binder x T) a b n = absurd (n x T refl)
  typed_other h a b n = refl

  module _ (bs : Tree) (ms : List Tree) (whole : Option (List Tree)) (told : option_map (λ ns. ms ++ ns) (typed_terms s bs l t) ≡ whole) where
    pub typed_end : typed_terms s bs l t ≡ Some [] → Some ms ≡ whole
    typed_end e = ap Some (sym (append-nil ms)) ∙ (sym (ap (option_map (λ ns. ms ++ ns)) e) ∙ told)

    pub typed_at_end : bs ≡ Empty → Some ms ≡ whole
    typed_at_end e = typed_end (ap (λ u. typed_terms s u l t) e)

    module _ (h : Head) (a b : Tree) (e : bs ≡ Node h a b) where
      pub typed_at_other : ((x T : ℕ) → h ≡ Binder x T → ⊥) → Some ms ≡ whole
      typed_at_other n = typed_end (ap (λ u. typed_terms s u l t) e ∙ typed_other h a b n)

      module _ (x T : ℕ) (f : h ≡ Binder x T) where
        by_binder : typed_terms s bs l t ≡ option_and_then (λ m. option_map (λ ns. m ∷ ns) (typed_terms s b l t)) (typed_term s T x l t)
        by_binder = ap (λ u. typed_terms s u l t) (e ∙ ap (λ k. Node k a b) f)

        pub typed_fails : None ≡ typed_term s T x l t → None ≡ whole
        typed_fails g =
            ap (λ o. option_map (λ ns. ms ++ ns) (option_and_then (λ m. option_map (λ ns. m ∷ ns) (typed_terms s b l t)) o)) g
            ∙ (sym (ap (option_map (λ ns. ms ++ ns)) by_binder) ∙ told)

        pub typed_more : (m : Tree) → Some m ≡ typed_term s T x l t → option_map (λ ns. (ms ++ m ∷ []) ++ ns) (typed_terms s b l t) ≡ whole
        typed_more m g =
            one (typed_terms s b l t)
            ∙ (ap (λ o. option_map (λ ns. ms ++ ns) (option_and_then (λ m. option_map (λ ns. m ∷ ns) (typed_terms s b l t)) o)) g
            ∙ (sym (ap (option_map (λ ns. ms ++ ns)) by_binder) ∙ told))
          where
            one : (o : Option (List Tree)) → option_map (λ ns. (ms ++ m ∷ []) ++ ns) o ≡ option_map (λ ns. ms ++ ns) (option_map (λ ns. m ∷ ns) o)
            one None = refl
            one (Some ns) = ap Some (append_assoc ms (m ∷ []) ns)

-- names of binders, one by one
module _ (bs : Tree) (xs whole : List ℕ) (told : xs ++ bound_names bs ≡ whole) where
  names_end : bound_names bs ≡ [] → xs ≡ whole
  names_end e = sym (append-nil xs) ∙ (ap (λ ys. xs ++ ys) (sym e) ∙ told)

  pub names_at_end : bs ≡ Empty → xs ≡ whole
  names_at_end e = names_end (ap bound_names e)

  module _ (h : Head) (a b : Tree) (e : bs ≡ Node h a b) where
    pub names_at_other : ((x T : ℕ) → h ≡ Binder x T → ⊥) → xs ≡ whole
    names_at_other n = names_end (bound_names_other bs h a b e n)

    pub names_more : (x T : ℕ) → h ≡ Binder x T → (xs ++ x ∷ []) ++ bound_names b ≡ whole
    names_more x T f = append_assoc xs (x ∷ []) (bound_names b) ∙ (ap (λ ys. xs ++ ys) (sym (bound_names_Binder bs h a b x T e f)) ∙ told)

-- one more name with its term

pub names_pushed : (gs hs : List Given) (x : ℕ) (n : NodeId) → hs ≡ gs ++ record { name = x; term = n } ∷ [] → names_of hs ≡ names_of gs ++ x ∷ []
names_pushed gs hs x n e = ap names_of e ∙ map-append (λ (g : Given). g.name) gs (record { name = x; term = n } ∷ [])

pub terms_pushed : (trees : List KindTree) (gs hs : List Given) (x : ℕ) (n : NodeId) → hs ≡ gs ++ record { name = x; term = n } ∷ [] → terms_of trees hs ≡ terms_of trees gs ++ tree_at trees (Some n) ∷ []
terms_pushed trees gs hs x n e = ap (terms_of trees) e ∙ map-append (λ (g : Given). tree_at trees (Some g.term)) gs (record { name = x; term = n } ∷ [])

-- instances by typed terms

if_some : (m : Tree) (c : Bool) (ms : List Tree) → option_map (λ ns. m ∷ ns) (if c then Some ms else None) ≡ (if c then Some (m ∷ ms) else None)
if_some m true ms = refl
if_some m false ms = refl

module _ (s : Scene) (l t : Tree) where
  module _ (x T : ℕ) (a bs : Tree) (e : typed_terms s bs l t ≡ option_and_then (λ ms. if are_of_types s bs ms then Some ms else None) (terms_for (bound_names bs) l t)) where
    by_terms : (m : Tree) (c : Bool) (o p : Option (List Tree)) → p ≡ option_and_then (λ ms. if are_of_types s bs ms then Some ms else None) o
        → option_and_then (λ n. option_map (λ ms. n ∷ ms) p) (if c then Some m else None) ≡ option_and_then (λ ms. if c && are_of_types s bs ms then Some (m ∷ ms) else None) o
    by_terms m true None p f = ap (option_map (λ ms. m ∷ ms)) f
    by_terms m true (Some ms) p f = ap (option_map (λ ns. m ∷ ns)) f ∙ if_some m (are_of_types s bs ms) ms
    by_terms m false None p f = refl
    by_terms m false (Some ms) p f = refl

    one_more : (m : Tree) (o : Option (List Tree)) → option_and_then (λ ms. if is_of_type s T m && are_of_types s bs ms then Some (m ∷ ms) else None) o
        ≡ option_and_then (λ ms. if are_of_types s (Node (Binder x T) a bs) ms then Some ms else None) (option_map (λ ms. m ∷ ms) o)
    one_more m None = refl
    one_more m (Some ms) = refl

    by_standing : (o : Option Tree) → option_and_then (λ m. option_map (λ ms. m ∷ ms) (typed_terms s bs l t)) (option_and_then (λ m. if is_of_type s T m then Some m else None) o)
        ≡ option_and_then (λ ms. if are_of_types s (Node (Binder x T) a bs) ms then Some ms else None) (option_and_then (λ m. option_map (λ ms. m ∷ ms) (terms_for (bound_names bs) l t)) o)
    by_standing None = refl
    by_standing (Some m) = by_terms m (is_of_type s T m) (terms_for (bound_names bs) l t) (typed_terms s bs l t) e ∙ one_more m (terms_for (bound_names bs) l t)

  typed_law : (bs : Tree) → typed_terms s bs l t ≡ option_and_then (λ ms. if are_of_types s bs ms then Some ms else None) (terms_for (bound_names bs) l t)
  typed_law (Node (Binder x T) a bs) = by_standing x T a bs (typed_law bs) (standing_for x l t)
  typed_law bs = refl

by_tests : (b c : Bool) (f : List Tree → Option (List Tree)) (ms : List Tree) → f ms ≡ (if b then Some ms else None) → (if b && c then Some ms else None) ≡ option_and_then f (if c then Some ms else None)
by_tests true true f ms e = sym e
by_tests false true f ms e = sym e
by_tests true false f ms e = refl
by_tests false false f ms e = refl

module _ (s : Scene) (e : Numbered) (t : Tree) where
  both : (o : Option (List Tree)) → option_and_then (λ ms. if is_left_side s e.binders e.left t ms then Some ms else None) o
      ≡ option_and_then (λ ms. if same_tree (with_given (bound_names e.binders) (chain ms) e.left) t then Some ms else None) (option_and_then (λ ms. if are_of_types s e.binders ms then Some ms else None) o)
  both None = refl
  both (Some ms) =
      by_tests (same_tree (with_given (bound_names e.binders) (chain ms) e.left) t) (are_of_types s e.binders ms)
      (λ ns. if same_tree (with_given (bound_names e.binders) (chain ns) e.left) t then Some ns else None) ms refl

  instance_law : instance_of s e t ≡ option_and_then (λ ms. if same_tree (with_given (bound_names e.binders) (chain ms) e.left) t then Some ms else None) (typed_terms s e.binders e.left t)
  instance_law =
      both (terms_for (bound_names e.binders) e.left t)
      ∙ ap (option_and_then (λ ms. if same_tree (with_given (bound_names e.binders) (chain ms) e.left) t then Some ms else None)) (sym (typed_law s e.left t e.binders))

  pub instance_fails : None ≡ typed_terms s e.binders e.left t → None ≡ instance_of s e t
  instance_fails f = ap (option_and_then (λ ms. if same_tree (with_given (bound_names e.binders) (chain ms) e.left) t then Some ms else None)) f ∙ sym instance_law

  pub instance_by_test : (ms : List Tree) (b : Bool) → Some ms ≡ typed_terms s e.binders e.left t → b ≡ same_tree (with_given (bound_names e.binders) (chain ms) e.left) t → (if b then Some ms else None) ≡ instance_of s e t
  instance_by_test ms b f g =
      ap (λ (c : Bool). if c then Some ms else None) g
      ∙ (ap (option_and_then (λ ms. if same_tree (with_given (bound_names e.binders) (chain ms) e.left) t then Some ms else None)) f ∙ sym instance_law)

  pub lower_fails : None ≡ instance_of s e t → None ≡ lower_instance_of s e t
  lower_fails f = ap (option_and_then (λ ms. if is_lower s t (right_with e ms) then Some ms else None)) f

  pub lower_by_test : (ms : List Tree) (b : Bool) → Some ms ≡ instance_of s e t → b ≡ is_lower s t (right_with e ms) → (if b then Some ms else None) ≡ lower_instance_of s e t
  lower_by_test ms b f g = ap (λ (c : Bool). if c then Some ms else None) g ∙ ap (option_and_then (λ ms. if is_lower s t (right_with e ms) then Some ms else None)) f
