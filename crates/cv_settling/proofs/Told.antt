-- The equations of a list of declarations, one by one.
use Rattle.std.proofs.Common.{◌≡◌, ℕ, suc, ◌+◌, ◌<◌, ◌≤◌, Bool, true, false, ◌||◌, List, [], ◌∷◌, ◌++◌, map, drop, length, Some, None, refl, sym, ap, ◌∙◌, arith, add-one, append_assoc, append-nil}
use Rattle.std.specs.Prelude.{zero, ◌==◌, option_and_then, slice_get}
use Rattle.std.proofs.lemmas.List.{drop_all, map-append}
use Rattle.cv_pool.specs.KindTree.{KindTree}
use Rattle.cv_pool.specs.declared.node.NodeId.{NodeId}
use Rattle.cv_syntax_trees.specs.declared.head.Head.{Head}
use Rattle.cv_syntax_trees.specs.declared.head.Head.TheVariants.{Binder, Eq}
use Rattle.cv_syntax_trees.specs.Tree.{Tree, Empty, Node, bound_names, first, second}
use Rattle.cv_syntax.specs.Declarations.{declarations}
use Rattle.cv_syntax.specs.NameSets.{is_one_of}
use Rattle.cv_syntax.specs.PoolTrees.{tree_at}
use Rattle.cv_syntax.proofs.ChildReads.{bound_names_Binder, bound_names_other}
use Rattle.cv_syntax.specs.declared.decls.Decl.{Decl}
use Rattle.cv_syntax.specs.declared.decls.Decl.TheVariants as decl
use Rattle.cv_scene.specs.Reasons.{equations_in}
use Rattle.cv_settling.specs.Instances.{Numbered, declared_equation, numbered_from, seen_in, with_sides}
use Rattle.cv_settling.specs.declared.equations.Equation.{Equation}

-- one declaration

behind : (ds : List Decl) (d : Decl) (k : ℕ) → drop (suc k + 1) (d ∷ ds) ≡ drop (k + 1) ds
behind ds d k = ap (λ n. drop n (d ∷ ds)) (add-one (suc k)) ∙ sym (ap (λ n. drop n ds) (add-one k))

head_none : (trees : List KindTree) (d : Decl) (ds : List Decl) → None ≡ declared_equation d → equations_in (declarations trees (d ∷ ds)) ≡ equations_in (declarations trees ds)
head_none trees (decl.Equation n) ds e = absurd (cc)
head_none trees (decl.Name id c args r) ds e = refl
head_none trees (decl.Equiv id n) ds e = refl
head_none trees (decl.Query n) ds e = refl

head_some : (trees : List KindTree) (d : Decl) (ds : List Decl) (n : NodeId) → Some n ≡ declared_equation d → equations_in (declarations trees (d ∷ ds)) ≡ tree_at trees (Some n) ∷ equations_in (declarations trees ds)
head_some trees (decl.Equation m) ds n e = ap (λ o. tree_at trees o ∷ equations_in (declarations trees ds)) (sym e)
head_some trees (decl.Name id c args r) ds n e = absurd (cc)
head_some trees (decl.Equiv id m) ds n e = absurd (cc)
head_some trees (decl.Query m) ds n e = absurd (cc)

pub none_there : (trees : List KindTree) (ds : List Decl) (k : ℕ) → k < length ds → None ≡ option_and_then declared_equation (slice_get ds k) → equations_in (declarations trees (drop k ds)) ≡ equations_in (declarations trees (drop (k + 1) ds))
none_there trees [] k l e = absurd (omega arith)
none_there trees (d ∷ ds) zero l e = head_none trees d ds e
none_there trees (d ∷ ds) (suc k) l e = none_there trees ds k (omega arith) e ∙ sym (ap (λ es. equations_in (declarations trees es)) (behind ds d k))

pub one_there : (trees : List KindTree) (ds : List Decl) (k : ℕ) (n : NodeId) → Some n ≡ option_and_then declared_equation (slice_get ds k)
    → equations_in (declarations trees (drop k ds)) ≡ tree_at trees (Some n) ∷ equations_in (declarations trees (drop (k + 1) ds))
one_there trees [] k n e = absurd (cc)
one_there trees (d ∷ ds) zero n e = head_some trees d ds n e
one_there trees (d ∷ ds) (suc k) n e = one_there trees ds k n e ∙ sym (ap (λ es. tree_at trees (Some n) ∷ equations_in (declarations trees es)) (behind ds d k))

-- its equation comes behind the others

more_sides : (k : ℕ) (bs body : Tree) (es : List Numbered) → with_sides k bs body es ≡ with_sides k bs body [] ++ es
more_sides k bs (Node Eq l r) es = refl
more_sides k bs body es = refl

module _ (trees : List KindTree) (xs : List Numbered) (number : ℕ) (t : Tree) (ts : List Tree) (whole : List Numbered) (told : xs ++ numbered_from number (t ∷ ts) ≡ whole) where
  next : xs ++ (with_sides number (first t) (second t) [] ++ numbered_from (number + 1) ts) ≡ whole
  next =
      ap (λ k. xs ++ (with_sides number (first t) (second t) [] ++ numbered_from k ts)) (add-one number)
      ∙ (ap (λ es. xs ++ es) (sym (more_sides number (first t) (second t) (numbered_from (suc number) ts))) ∙ told)

  pub told_next : (ys : List Numbered) → ys ≡ xs ++ with_sides number (first t) (second t) [] → ys ++ numbered_from (number + 1) ts ≡ whole
  told_next ys e = ap (λ es. es ++ numbered_from (number + 1) ts) e ∙ (append_assoc xs (with_sides number (first t) (second t) []) (numbered_from (number + 1) ts) ∙ next)

pub seen_pushed : (trees : List KindTree) (es fs : List Equation) (e : Equation) → fs ≡ es ++ e ∷ [] → map (seen_in trees) fs ≡ map (seen_in trees) es ++ seen_in trees e ∷ []
seen_pushed trees es fs e f = ap (map (seen_in trees)) f ∙ map-append (seen_in trees) es (e ∷ [])

pub told_end : (trees : List KindTree) (ds : List Decl) (k number : ℕ) (xs whole : List Numbered) → length ds ≤ k → xs ++ numbered_from number (equations_in (declarations trees (drop k ds))) ≡ whole → xs ≡ whole
told_end trees ds k number xs whole l told =
    sym (append-nil xs) ∙ (ap (λ es. xs ++ numbered_from number (equations_in (declarations trees es))) (sym (drop_all k ds l)) ∙ told)

-- no equation where there is no tree, or another body

pub no_sides : (k : ℕ) (t : Tree) → t ≡ Empty → [] ≡ with_sides k (first t) (second t) []
no_sides k t e = sym (ap (λ u. with_sides k (first u) (second u) []) e)

other_body : (k : ℕ) (bs : Tree) (h : Head) (a b : Tree) → (h ≡ Eq → ⊥) → [] ≡ with_sides k bs (Node h a b) []
other_body k bs Eq a b n = absurd (n refl)
other_body k bs h a b n = refl

module _ (k : ℕ) (t : Tree) (h : Head) (bs body : Tree) (e : t ≡ Node h bs body) where
  pub empty_body : body ≡ Empty → [] ≡ with_sides k (first t) (second t) []
  empty_body f = sym (ap (λ u. with_sides k (first u) (second u) []) e ∙ ap (λ u. with_sides k bs u []) f)

  module _ (i : Head) (l r : Tree) (f : body ≡ Node i l r) where
    by_body : with_sides k (first t) (second t) [] ≡ with_sides k bs (Node i l r) []
    by_body = ap (λ u. with_sides k (first u) (second u) []) e ∙ ap (λ u. with_sides k bs u []) f

    pub no_equality : (i ≡ Eq → ⊥) → [] ≡ with_sides k (first t) (second t) []
    no_equality n = other_body k bs i l r n ∙ sym by_body

    pub equality : i ≡ Eq → record { number = k; binders = bs; left = l; right = r } ∷ [] ≡ with_sides k (first t) (second t) []
    equality g = sym (by_body ∙ ap (λ j. with_sides k bs (Node j l r) []) g)

-- names of binders, one by one
module _ (x : ℕ) (t : Tree) where
  pub bound_end : t ≡ Empty → false ≡ is_one_of (bound_names t) x
  bound_end e = sym (ap (λ u. is_one_of (bound_names u) x) e)

  module _ (h : Head) (a b : Tree) (e : t ≡ Node h a b) where
    pub bound_other : ((y T : ℕ) → h ≡ Binder y T → ⊥) → false ≡ is_one_of (bound_names t) x
    bound_other n = sym (ap (λ ys. is_one_of ys x) (bound_names_other t h a b e n))

    module _ (y T : ℕ) (f : h ≡ Binder y T) where
      by_first : is_one_of (bound_names t) x ≡ ((y == x) || is_one_of (bound_names b) x)
      by_first = ap (λ ys. is_one_of ys x) (bound_names_Binder t h a b y T e f)

      pub bound_here : (y == x) ≡ true → true ≡ is_one_of (bound_names t) x
      bound_here g = sym (by_first ∙ ap (λ (c : Bool). c || is_one_of (bound_names b) x) g)

      pub bound_later : (y == x) ≡ false → is_one_of (bound_names b) x ≡ is_one_of (bound_names t) x
      bound_later g = sym (by_first ∙ ap (λ (c : Bool). c || is_one_of (bound_names b) x) g)
