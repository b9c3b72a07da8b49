-- Instances of equations.
use Rattle.std.proofs.Common.{◌≡◌, ℕ, zero, suc, ◌<◌, Bool, true, false, ◌&&◌, All, List, [], ◌∷◌, map, Option, Some, None, refl, sym, ap, ap₂, ◌∙◌}
use Rattle.std.specs.Prelude.{option_map, slice_get}
use Rattle.std.proofs.lemmas.List.Elements.{All-head, All-tail}
use Rattle.cv_pool.specs.declared.node.NodeId.{NodeId}
use Rattle.cv_pool.specs.KindTree.{KindTree}
use Rattle.cv_syntax.specs.declared.decls.Decl.{Decl}
use Rattle.cv_syntax.specs.declared.decls.Decl.TheVariants as decl
use Rattle.cv_syntax_trees.specs.declared.head.Head.{Head}
use Rattle.cv_syntax_trees.specs.declared.head.Head.TheVariants.{Binder}
use Rattle.cv_syntax_trees.specs.Children.{is_empty}
use Rattle.cv_syntax.specs.Classes as classes
use Rattle.cv_syntax.specs.Classes.{equations}
use Rattle.cv_syntax_trees.specs.Declarations.{Declaration}
use Rattle.cv_syntax.specs.Declarations.{declarations}
use Rattle.cv_syntax_trees.specs.Tree.{Tree, Empty, Node, bound_names, first, second, same_tree}
use Rattle.cv_syntax.specs.PoolTrees.{tree_at}
use Rattle.cv_syntax_trees.specs.declared.sites.sort.Sort.TheVariants.{OfType}
use Rattle.cv_directory.specs.Live.{IsLive}
use Rattle.cv_scene.specs.lines.Given.{with_given}
use Rattle.cv_scene.specs.Reasons.{are_of_types, equations_in, is_instance}
use Rattle.cv_scene.specs.Sights.{Sight, from_one, is_term_of}

-- the equations of declarations

abbrev equation_trees : List KindTree → List NodeId → List Tree
equation_trees trees ns = map (λ n. tree_at trees (Some n)) ns

equations_same : (trees : List KindTree) (ds : List Decl) → equations_in (declarations trees ds) ≡ equation_trees trees (equations ds)
equations_same trees [] = refl
equations_same trees (decl.Name id c args r ∷ ds) = equations_same trees ds
equations_same trees (decl.Equation n ∷ ds) = ap (λ ts. tree_at trees (Some n) ∷ ts) (equations_same trees ds)
equations_same trees (decl.Equiv id n ∷ ds) = equations_same trees ds
equations_same trees (decl.Query n ∷ ds) = equations_same trees ds

get_tree : (trees : List KindTree) (ns : List NodeId) (k : ℕ) → slice_get (equation_trees trees ns) k ≡ option_map (λ n. tree_at trees (Some n)) (slice_get ns k)
get_tree trees [] k = refl
get_tree trees (n ∷ ns) zero = refl
get_tree trees (n ∷ ns) (suc k) = get_tree trees ns k

tree_from_one : (trees : List KindTree) (ns : List NodeId) (k : ℕ) → from_one (equation_trees trees ns) k ≡ option_map (λ n. tree_at trees (Some n)) (classes.from_one ns k)
tree_from_one trees ns zero = refl
tree_from_one trees ns (suc k) = get_tree trees ns k

module _ (trees : List KindTree) (ds : List Decl) (xs : List Declaration) (e : xs ≡ declarations trees ds) (o : Option NodeId) (k j : ℕ) (f : o ≡ classes.from_one (equations ds) k) (g : k ≡ j) where
  found_equation : from_one (equations_in xs) j ≡ option_map (λ n. tree_at trees (Some n)) o
  found_equation = ap₂ (λ ys i. from_one (equations_in ys) i) e (sym g) ∙ (ap (λ ts. from_one ts k) (equations_same trees ds) ∙ (tree_from_one trees (equations ds) k ∙ ap (option_map (λ n. tree_at trees (Some n))) (sym f)))

  pub no_equation : (s : Sight) (ms t : Tree) → o ≡ None → false ≡ is_instance s (from_one (equations_in xs) j) ms t
  no_equation s ms t i = sym (ap (λ q. is_instance s q ms t) (found_equation ∙ ap (option_map (λ n. tree_at trees (Some n))) i))

  module _ (s : Sight) (ms t : Tree) (n : NodeId) (i : o ≡ Some n) (h : Head) (a b : Tree) (l : tree_at trees (Some n) ≡ Node h a b) (q : Bool) (m : q ≡ are_of_types s a ms) where
    opened : is_instance s (from_one (equations_in xs) j) ms t ≡ (q && same_tree t (with_given (bound_names a) ms b))
    opened =
        ap (λ p. is_instance s p ms t) (found_equation ∙ ap (option_map (λ n. tree_at trees (Some n))) i)
        ∙ (ap (λ u. are_of_types s (first u) ms && same_tree t (with_given (bound_names (first u)) ms (second u))) l
        ∙ ap (λ z. z && same_tree t (with_given (bound_names a) ms b)) (sym m))

    pub other_types : q ≡ false → false ≡ is_instance s (from_one (equations_in xs) j) ms t
    other_types p = sym (opened ∙ ap (λ z. z && same_tree t (with_given (bound_names a) ms b)) p)

    pub instance_at : q ≡ true → (r : Bool) → r ≡ same_tree t (with_given (bound_names a) ms b) → r ≡ is_instance s (from_one (equations_in xs) j) ms t
    instance_at p r u = u ∙ sym (opened ∙ ap (λ z. z && same_tree t (with_given (bound_names a) ms b)) p)

-- they are live

live_equations : (n : ℕ) (ds : List Decl) → All (IsLive n) ds → (k : ℕ) (e : NodeId) → slice_get (equations ds) k ≡ Some e → e.0 < n
live_equations n [] l k e i = absurd (cc)
live_equations n (decl.Name id c args r ∷ ds) l k e i = live_equations n ds (All-tail (IsLive n) (decl.Name id c args r) ds l) k e i
live_equations n (decl.Equation m ∷ ds) l zero e i = let j : m.0 ≡ e.0 = cc in let h : m.0 < n = All-head (IsLive n) (decl.Equation m) ds l in rw (sym j) h
live_equations n (decl.Equation m ∷ ds) l (suc k) e i = live_equations n ds (All-tail (IsLive n) (decl.Equation m) ds l) k e i
live_equations n (decl.Equiv id m ∷ ds) l k e i = live_equations n ds (All-tail (IsLive n) (decl.Equiv id m) ds l) k e i
live_equations n (decl.Query m ∷ ds) l k e i = live_equations n ds (All-tail (IsLive n) (decl.Query m) ds l) k e i

pub live_equation : (n : ℕ) (ds : List Decl) → All (IsLive n) ds → (k : ℕ) (o : Option NodeId) (e : NodeId) → o ≡ classes.from_one (equations ds) k → o ≡ Some e → e.0 < n
live_equation n ds l zero o e f g = absurd (cc)
live_equation n ds l (suc k) o e f g = live_equations n ds l k e (sym f ∙ g)

-- terms of the types of binders

module _ (s : Sight) where
  pub no_binders : (t ms : Tree) → t ≡ Empty → are_of_types s t ms ≡ is_empty ms
  no_binders t ms e = ap (λ u. are_of_types s u ms) e ∙ go ms
    where
      go : (ms : Tree) → are_of_types s Empty ms ≡ is_empty ms
      go Empty = refl
      go (Node h a b) = refl

  module _ (t ms : Tree) (h : Head) (a bs : Tree) (e : t ≡ Node h a bs) where
    pub no_binder : ((x T : ℕ) → h ≡ Binder x T → ⊥) → false ≡ are_of_types s t ms
    no_binder n = go h n ∙ sym (ap (λ u. are_of_types s u ms) e)
      where
        go : (h : Head) → ((x T : ℕ) → h ≡ Binder x T → ⊥) → false ≡ are_of_types s (Node h a bs) ms
        go (Binder x T) n = absurd (n x T refl)
        go h n = refl

    module _ (x T : ℕ) (f : h ≡ Binder x T) where
      binder : are_of_types s t ms ≡ are_of_types s (Node (Binder x T) a bs) ms
      binder = ap (λ u. are_of_types s u ms) (e ∙ ap (λ k. Node k a bs) f)

      pub no_terms : ms ≡ Empty → false ≡ are_of_types s t ms
      no_terms g = sym (binder ∙ ap (λ u. are_of_types s (Node (Binder x T) a bs) u) g)

      module _ (k : Head) (m ns : Tree) (g : ms ≡ Node k m ns) (r : Bool) (i : r ≡ is_term_of s (OfType T) m) where
        by_binder : are_of_types s t ms ≡ (r && are_of_types s bs ns)
        by_binder = binder ∙ (ap (λ u. are_of_types s (Node (Binder x T) a bs) u) g ∙ ap (λ z. z && are_of_types s bs ns) (sym i))

        pub other_type : r ≡ false → false ≡ are_of_types s t ms
        other_type j = sym (by_binder ∙ ap (λ z. z && are_of_types s bs ns) j)

        pub further_types : r ≡ true → are_of_types s bs ns ≡ are_of_types s t ms
        further_types j = sym (by_binder ∙ ap (λ z. z && are_of_types s bs ns) j)
