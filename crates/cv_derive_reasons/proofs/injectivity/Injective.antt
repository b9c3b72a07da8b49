-- Functions with `[data]`, and the equations between the items of two lists.
use Rattle.std.proofs.Common.{◌≡◌, ℕ, Bool, true, false, ◌&&◌, List, [], ◌∷◌, Option, Some, None, refl, sym, ap, ap₂, ◌∙◌}
use Rattle.std.specs.Prelude.{◌==◌, not, option_map}
use Rattle.cv_pool.specs.KindTree.{KindTree}
use Rattle.cv_syntax_trees.specs.declared.class.Class.{Class}
use Rattle.cv_syntax_trees.specs.declared.class.Class.TheVariants as class
use Rattle.cv_syntax.specs.declared.decls.Decl.{Decl}
use Rattle.cv_syntax.specs.declared.decls.Decl.TheVariants as decl
use Rattle.cv_syntax_trees.specs.declared.head.Head.{Head}
use Rattle.cv_syntax_trees.specs.declared.head.Head.TheVariants.{Eq, And, Apply}
use Rattle.cv_syntax_trees.specs.Children.{is_empty}
use Rattle.cv_syntax.specs.Classes.{class_by, class_in, declaration_in}
use Rattle.cv_syntax_trees.specs.Declarations.{Declaration}
use Rattle.cv_syntax.specs.Declarations.{declarations, declared}
use Rattle.cv_syntax_trees.specs.Tree.{Tree, Empty, Node, same_tree}
use Rattle.cv_scope_rules.specs.typing.Signature.{declaration_of}
use Rattle.cv_typing.proofs.Bridges.{declaration_same}
use Rattle.cv_scope_rules.specs.Context.{items}
use Rattle.cv_scene.specs.Reasons.{is_data_by, is_injective}
use Rattle.cv_scene.specs.Sights.{Sight}
use Rattle.cv_scene.specs.lines.Inferences.{equations_of}
use Rattle.cv_derive_reasons.specs.inferences.Sides.{sides_of}
use Rattle.cv_derive_reasons.proofs.inferences.Forms.{empty_form, over_form, tested}
use Rattle.cv_derive_reasons.specs.injectivity.Values.{are_values_by}

-- declarations

abbrev is_data_class : Class → Bool
is_data_class (class.Fun data_like) = data_like
is_data_class c = false

data_by : (trees : List KindTree) (o : Option Decl) → is_data_class (class_by o) ≡ is_data_by (option_map (declared trees) o)
data_by trees None = refl
data_by trees (Some (decl.Name id (class.Fun d) args r)) = refl
data_by trees (Some (decl.Name id c args r)) = refl
data_by trees (Some (decl.Equation n)) = refl
data_by trees (Some (decl.Equiv id n)) = refl
data_by trees (Some (decl.Query n)) = refl

module _ (trees : List KindTree) (ds : List Decl) (f : ℕ) (k : Class) (e : k ≡ class_in ds f) where
  same_class : is_data_class k ≡ is_data_by (declaration_of (declarations trees ds) f)
  same_class = ap is_data_class e ∙ (data_by trees (declaration_in ds f) ∙ ap is_data_by (sym (declaration_same trees ds f)))

  pub data_function : (d : Bool) → k ≡ class.Fun d → d ≡ is_data_by (declaration_of (declarations trees ds) f)
  data_function d g = sym (ap is_data_class g) ∙ same_class

  pub no_function : ((d : Bool) → k ≡ class.Fun d → ⊥) → false ≡ is_data_by (declaration_of (declarations trees ds) f)
  no_function n = none k n ∙ same_class
    where
      none : (k : Class) → ((d : Bool) → k ≡ class.Fun d → ⊥) → false ≡ is_data_class k
      none (class.Fun d) n = absurd (n d refl)
      none k n = refl

-- two values of one function

module _ (ds : List Declaration) (m n e : Tree) (h k : Head) (a b c d : Tree) (f : m ≡ Node h a b) (g : n ≡ Node k c d) (x y : ℕ) (i : h ≡ Apply x) (j : k ≡ Apply y) (same : (x == y) ≡ true) (q : Bool) (u : q ≡ is_data_by (declaration_of ds x)) where
  by_data : are_values_by ds m n e ≡ (q && same_tree e (equations_of (items a) (items c)))
  by_data =
      ap₂ (λ o p. are_values_by ds o p e) (f ∙ ap (λ l. Node l a b) i) (g ∙ ap (λ l. Node l c d) j)
      ∙ (ap (λ z. z && (is_data_by (declaration_of ds x) && same_tree e (equations_of (items a) (items c)))) same
      ∙ ap (λ z. z && same_tree e (equations_of (items a) (items c))) (sym u))

  pub no_data : q ≡ false → false ≡ are_values_by ds m n e
  no_data z = sym (by_data ∙ ap (λ w. w && same_tree e (equations_of (items a) (items c))) z)

  pub values_at : q ≡ true → (l : Bool) → l ≡ same_tree e (equations_of (items a) (items c)) → l ≡ are_values_by ds m n e
  values_at z l w = w ∙ sym (by_data ∙ ap (λ w. w && same_tree e (equations_of (items a) (items c))) z)

-- equations

module _ (e l r : Tree) where
  abbrev equations : Bool
  equations = same_tree e (equations_of (items l) (items r))

  pub no_items : (b : Bool) → l ≡ Empty → b ≡ is_empty e → b ≡ equations
  no_items b f g = g ∙ (sym (empty_form e) ∙ sym (ap (λ x. same_tree e (equations_of (items x) (items r))) f))

  module _ (h : Head) (m ms : Tree) (f : l ≡ Node h m ms) where
    pub no_more_items : (b : Bool) → r ≡ Empty → b ≡ is_empty e → b ≡ equations
    no_more_items b g i = i ∙ (sym (empty_form e) ∙ sym (ap₂ (λ x y. same_tree e (equations_of (items x) (items y))) f g ∙ none ms))
      where
        none : (ms : Tree) → same_tree e (equations_of (items (Node h m ms)) []) ≡ same_tree e Empty
        none Empty = refl
        none (Node k c d) = refl

    module _ (k : Head) (n ns : Tree) (g : r ≡ Node k n ns) where
      pub last_items : (b d : Bool) → b ≡ (is_empty ms && is_empty ns) → b ≡ true → d ≡ same_tree e (Node Eq m n) → d ≡ equations
      last_items b d i j q = q ∙ sym (ap₂ (λ x y. same_tree e (equations_of (items x) (items y))) f g ∙ last ms ns (sym i ∙ j))
        where
          last : (ms ns : Tree) → (is_empty ms && is_empty ns) ≡ true → same_tree e (equations_of (m ∷ items ms) (n ∷ items ns)) ≡ same_tree e (Node Eq m n)
          last Empty Empty x = refl
          last (Node u v w) ns x = absurd (cc)
          last Empty (Node u v w) x = absurd (cc)

      module _ (more : (is_empty ms && is_empty ns) ≡ false) where
        conjunction : equations ≡ tested (sides_of And e) (λ p. same_tree p.0 (Node Eq m n) && same_tree p.1 (equations_of (items ms) (items ns)))
        conjunction = ap₂ (λ x y. same_tree e (equations_of (items x) (items y))) f g ∙ (go ms ns more ∙ over_form And (Node Eq m n) (equations_of (items ms) (items ns)) e)
          where
            go : (ms ns : Tree) → (is_empty ms && is_empty ns) ≡ false → same_tree e (equations_of (m ∷ items ms) (n ∷ items ns)) ≡ same_tree e (Node And (Node Eq m n) (equations_of (items ms) (items ns)))
            go Empty Empty x = absurd (cc)
            go Empty (Node u v w) x = refl
            go (Node u v w) ns x = refl

        pub no_conjunction : None ≡ sides_of And e → false ≡ equations
        no_conjunction i = sym (conjunction ∙ ap (λ o. tested o (λ p. same_tree p.0 (Node Eq m n) && same_tree p.1 (equations_of (items ms) (items ns)))) (sym i))

        module _ (p q : Tree) (i : Some (p, q) ≡ sides_of And e) (b : Bool) (j : b ≡ same_tree p (Node Eq m n)) where
          by_conjunction : equations ≡ (b && same_tree q (equations_of (items ms) (items ns)))
          by_conjunction = conjunction ∙ (ap (λ o. tested o (λ p. same_tree p.0 (Node Eq m n) && same_tree p.1 (equations_of (items ms) (items ns)))) (sym i) ∙ ap (λ z. z && same_tree q (equations_of (items ms) (items ns))) (sym j))

          pub other_equation : b ≡ false → false ≡ equations
          other_equation o = sym (by_conjunction ∙ ap (λ z. z && same_tree q (equations_of (items ms) (items ns))) o)

          pub further_items : b ≡ true → same_tree q (equations_of (items ms) (items ns)) ≡ equations
          further_items o = sym (by_conjunction ∙ ap (λ z. z && same_tree q (equations_of (items ms) (items ns))) o)

-- the reason

module _ (s : Sight) where
  injective_form : (t : Tree) → is_injective s t ≡ tested (sides_of Eq t) (λ p. tested (sides_of Eq p.0) (λ q. are_values_by s.scene.declarations q.0 q.1 p.1))
  injective_form (Node Eq (Node Eq (Node (Apply f) a b) (Node (Apply g) c d)) e) = refl
  injective_form (Node Eq (Node Eq m n) e) = refl
  injective_form (Node Eq m e) = refl
  injective_form t = refl

  pub no_equation : (t : Tree) → None ≡ sides_of Eq t → false ≡ is_injective s t
  no_equation t e = sym (injective_form t ∙ ap (λ o. tested o (λ p. tested (sides_of Eq p.0) (λ q. are_values_by s.scene.declarations q.0 q.1 p.1))) (sym e))

  module _ (t l r : Tree) (e : Some (l, r) ≡ sides_of Eq t) where
    outer : is_injective s t ≡ tested (sides_of Eq l) (λ q. are_values_by s.scene.declarations q.0 q.1 r)
    outer = injective_form t ∙ ap (λ o. tested o (λ p. tested (sides_of Eq p.0) (λ q. are_values_by s.scene.declarations q.0 q.1 p.1))) (sym e)

    pub no_inner : None ≡ sides_of Eq l → false ≡ is_injective s t
    no_inner f = sym (outer ∙ ap (λ o. tested o (λ q. are_values_by s.scene.declarations q.0 q.1 r)) (sym f))

    pub injective_at : (m n : Tree) → Some (m, n) ≡ sides_of Eq l → (ds : List Declaration) → s.scene.declarations ≡ ds → (b : Bool) → b ≡ are_values_by ds m n r → b ≡ is_injective s t
    injective_at m n f ds g b i = i ∙ (ap (λ xs. are_values_by xs m n r) (sym g) ∙ sym (outer ∙ ap (λ o. tested o (λ q. are_values_by s.scene.declarations q.0 q.1 r)) (sym f)))
