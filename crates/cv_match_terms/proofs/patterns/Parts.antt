-- Instances, part by part.
use Rattle.std.proofs.Common.{◌≡◌, ℕ, Bool, true, false, List, [], ◌∷◌, Option, Some, None, refl, ap, ap₂, append-nil, append_assoc, sym, ◌∙◌, eqb-true}
use Rattle.std.specs.Prelude.{map, reverse, ◌++◌, ◌&&◌, ◌||◌, ◌==◌, if◌then◌else◌}
use Rattle.std.specs.List.{list_any}
use Rattle.std.proofs.lemmas.List.Folds.{list_any-append}
use Rattle.std.proofs.lemmas.List.{map-append, reverse-append}
use Rattle.cv_syntax_trees.specs.declared.head.Head.{Head}
use Rattle.cv_syntax_trees.specs.declared.head.Head.TheVariants.{Binder, Leaf}
use Rattle.cv_syntax_trees.specs.Head.{same_head}
use Rattle.cv_syntax_trees.specs.Tree.{Tree, Empty, Node, chain, same_tree}
use Rattle.cv_syntax.proofs.Trees.{tree_of_NoTree}
use Rattle.cv_meaning.specs.contexts.Groups.{Function, Group}
use Rattle.cv_scene.specs.lines.Given as given
use Rattle.cv_scene.specs.lines.Given.{or_node, with_given}
use Rattle.cv_meaning.specs.Correspondences.{typed_names}
use Rattle.cv_scene.specs.Scenes.{or_empty}
use Rattle.cv_scene.specs.Instances.{Instance, are_of_types, guess, names_of, standing_for, term_for, terms_of}
use Rattle.cv_scene.specs.Refusals.{is_among}
use Rattle.cv_match_terms.specs.patterns.Searches.{filled_by, filled_part, given_by, is_name, is_whole}
use Rattle.cv_syntax_trees.proofs.lists.Places.{reverse_cons}

pub filled_empty : (g : Group) (f : Function) (m : Tree) → filled_part g f m Empty ≡ Empty
unfolding filled_part with_given
filled_empty g f m = refl

-- names and terms in one order

reversed_map : {A B : Type 0} (f : A → B) (xs : List A) → reverse (map f xs) ≡ map f (reverse xs)
reversed_map f [] = refl
reversed_map f (x ∷ xs) = reverse_cons (f x) (map f xs) ∙ (ap (λ ys. ys ++ f x ∷ []) (reversed_map f xs) ∙ (sym (map-append f (reverse xs) (x ∷ [])) ∙ ap (map f) (sym (reverse_cons x xs))))

any_reversed : {A : Type 0} (p : A → Bool) (xs : List A) → list_any p (reverse xs) ≡ list_any p xs
any_reversed p [] = refl
any_reversed p (x ∷ xs) = ap (list_any p) (reverse_cons x xs) ∙ (list_any-append p (reverse xs) (x ∷ []) ∙ (ap (λ b. b || (p x || false)) (any_reversed p xs) ∙ swap (p x) (list_any p xs)))
  where
    swap : (a b : Bool) → (b || (a || false)) ≡ (a || b)
    swap true true = refl
    swap true false = refl
    swap false true = refl
    swap false false = refl

-- of equal names each stands for one term
by_names : (body m : Tree) (x : ℕ) (xs : List (ℕ × ℕ)) → given.term_for (map (λ (y : ℕ × ℕ). y.0) xs) (chain (map (term_for body m) xs)) x ≡ (if is_among xs x then Some (term_for body m (x, 0)) else None)
by_names body m x [] = refl
by_names body m x (y ∷ ys) = here (y.0 == x) refl (given.term_for (map (λ (z : ℕ × ℕ). z.0) ys) (chain (map (term_for body m) ys)) x) (is_among ys x) (by_names body m x ys)
  where
    here : (b : Bool) → (y.0 == x) ≡ b → (o : Option Tree) (c : Bool) → o ≡ (if c then Some (term_for body m (x, 0)) else None) → (if b then Some (term_for body m y) else o) ≡ (if b || c then Some (term_for body m (x, 0)) else None)
    here true e o c f = ap (λ n. Some (or_empty (standing_for n body m))) (eqb-true y.0 x e)
    here false e o c f = f

all_terms : (g : Group) (f : Function) (m : Tree) → reverse ((guess g f m).key ∷ (guess g f m).coins ++ (guess g f m).arguments) ≡ map (term_for f.body m) (reverse (g.key ∷ f.coins ++ f.arguments))
all_terms g f m = ap (λ ts. reverse (term_for f.body m g.key ∷ ts)) (sym (map-append (term_for f.body m) f.coins f.arguments)) ∙ reversed_map (term_for f.body m) (g.key ∷ f.coins ++ f.arguments)

any_name : (g : Group) (f : Function) (x : ℕ) → is_among (reverse (g.key ∷ f.coins ++ f.arguments)) x ≡ is_name g f x
any_name g f x = any_reversed (λ (y : ℕ × ℕ). y.0 == x) (g.key ∷ f.coins ++ f.arguments) ∙ ap (λ b. (g.key.0 == x) || b) (list_any-append (λ (y : ℕ × ℕ). y.0 == x) f.coins f.arguments)

given_name : (g : Group) (f : Function) (m : Tree) (x : ℕ) → given.term_for (names_of g f) (terms_of (guess g f m)) x ≡ (if is_name g f x then Some (given_by f m x) else None)
given_name g f m x =
    ap₂ (λ ns ts. given.term_for ns ts x) (reversed_map (λ (y : ℕ × ℕ). y.0) (g.key ∷ f.coins ++ f.arguments)) (ap chain (all_terms g f m))
    ∙ (by_names f.body m x (reverse (g.key ∷ f.coins ++ f.arguments))
    ∙ ap (λ b. if b then Some (given_by f m x) else None) (any_name g f x))

given_head : (g : Group) (f : Function) (m : Tree) (h : Head) → given.given_for (names_of g f) (terms_of (guess g f m)) h ≡ filled_by g f m h
given_head g f m (Leaf x) = given_name g f m x
given_head g f m h = refl

pub filled_node : (g : Group) (f : Function) (m : Tree) (h : Head) (a b : Tree) → filled_part g f m (Node h a b) ≡ or_node (filled_by g f m h) h (filled_part g f m a) (filled_part g f m b)
unfolding filled_part with_given
filled_node g f m h a b = ap (λ o. or_node o h (filled_part g f m a) (filled_part g f m b)) (given_head g f m h)

-- node by node
module _ (g : Group) (f : Function) (m t u : Tree) where
  pub filled_end : t ≡ Empty → same_tree Empty u ≡ same_tree (filled_part g f m t) u
  filled_end e = sym (ap (λ b. same_tree b u) (ap (filled_part g f m) e ∙ filled_empty g f m))

  module _ (h : Head) (a b : Tree) (e : t ≡ Node h a b) where
    node : filled_part g f m t ≡ or_node (filled_by g f m h) h (filled_part g f m a) (filled_part g f m b)
    node = ap (filled_part g f m) e ∙ filled_node g f m h a b

    pub filled_put : (s : Tree) → Some s ≡ filled_by g f m h → same_tree s u ≡ same_tree (filled_part g f m t) u
    filled_put s i = sym (ap (λ r. same_tree r u) (node ∙ ap (λ o. or_node o h (filled_part g f m a) (filled_part g f m b)) (sym i)))

    module _ (n : None ≡ filled_by g f m h) where
      open_node : filled_part g f m t ≡ Node h (filled_part g f m a) (filled_part g f m b)
      open_node = node ∙ ap (λ o. or_node o h (filled_part g f m a) (filled_part g f m b)) (sym n)

      pub filled_short : u ≡ Empty → false ≡ same_tree (filled_part g f m t) u
      unfolding same_tree
      filled_short i = sym (ap₂ same_tree open_node i)

      module _ (k : Head) (c d : Tree) (i : u ≡ Node k c d) (v : Bool) (j : v ≡ same_head h k) where
        both : same_tree (filled_part g f m t) u ≡ (v && (same_tree (filled_part g f m a) c && same_tree (filled_part g f m b) d))
        unfolding same_tree
        both = ap₂ same_tree open_node i ∙ ap (λ w. w && (same_tree (filled_part g f m a) c && same_tree (filled_part g f m b) d)) (sym j)

        pub filled_other : v ≡ false → false ≡ same_tree (filled_part g f m t) u
        filled_other x = sym (both ∙ ap (λ w. w && (same_tree (filled_part g f m a) c && same_tree (filled_part g f m b) d)) x)

        module _ (x : v ≡ true) (w : Bool) (l : w ≡ same_tree (filled_part g f m a) c) where
          rest : same_tree (filled_part g f m t) u ≡ (w && same_tree (filled_part g f m b) d)
          rest = both ∙ ap₂ (λ p q. p && (q && same_tree (filled_part g f m b) d)) x (sym l)

          pub filled_first : w ≡ false → false ≡ same_tree (filled_part g f m t) u
          filled_first y = sym (rest ∙ ap (λ q. q && same_tree (filled_part g f m b) d) y)

          pub filled_rest : w ≡ true → same_tree (filled_part g f m b) d ≡ same_tree (filled_part g f m t) u
          filled_rest y = sym (rest ∙ ap (λ q. q && same_tree (filled_part g f m b) d) y)

-- terms for a list of binders, one after another
module _ (may_be : ℕ → Tree → Bool) (term_of : ℕ × ℕ → Tree) (t : Tree) where
  abbrev all_typed : Tree → Bool
  all_typed u = are_of_types may_be (typed_names u) (map term_of (typed_names u))

  pub typed_end : t ≡ Empty → true ≡ all_typed t
  typed_end e = sym (ap all_typed e)

  module _ (h : Head) (a b : Tree) (e : t ≡ Node h a b) where
    pub typed_other : ((x T : ℕ) → h ≡ Binder x T → ⊥) → true ≡ all_typed t
    typed_other n = sym (ap all_typed e ∙ step h n)
      where
        step : (h : Head) → ((x T : ℕ) → h ≡ Binder x T → ⊥) → all_typed (Node h a b) ≡ true
        step (Binder x T) n = absurd (n x T refl)
        step h n = refl

    module _ (x T : ℕ) (i : h ≡ Binder x T) (v : Bool) (j : v ≡ may_be T (term_of (x, T))) where
      first_typed : all_typed t ≡ (v && all_typed b)
      first_typed = ap all_typed e ∙ (ap (λ k. all_typed (Node k a b)) i ∙ ap (λ w. w && all_typed b) (sym j))

      pub typed_wrong : v ≡ false → false ≡ all_typed t
      typed_wrong y = sym (first_typed ∙ ap (λ w. w && all_typed b) y)

      pub typed_right : v ≡ true → all_typed b ≡ all_typed t
      typed_right y = sym (first_typed ∙ ap (λ w. w && all_typed b) y)

-- the terms of a list of binders, gathered
module _ (term_of : ℕ × ℕ → Tree) (t : Tree) (done all : List Tree) (same : done ++ map term_of (typed_names t) ≡ all) where
  pub terms_end : t ≡ Empty → done ≡ all
  terms_end e = sym (append-nil done) ∙ (ap (λ u. done ++ map term_of (typed_names u)) (sym e) ∙ same)

  module _ (h : Head) (a b : Tree) (e : t ≡ Node h a b) where
    pub terms_other : ((x T : ℕ) → h ≡ Binder x T → ⊥) → done ≡ all
    terms_other n = sym (append-nil done) ∙ (ap (λ xs. done ++ map term_of xs) (sym (step h n) ∙ ap typed_names (sym e)) ∙ same)
      where
        step : (h : Head) → ((x T : ℕ) → h ≡ Binder x T → ⊥) → typed_names (Node h a b) ≡ []
        step (Binder x T) n = absurd (n x T refl)
        step h n = refl

    pub terms_more : (x T : ℕ) → h ≡ Binder x T → (more : List Tree) → more ≡ done ++ term_of (x, T) ∷ [] → more ++ map term_of (typed_names b) ≡ all
    terms_more x T i more f =
        ap (λ xs. xs ++ map term_of (typed_names b)) f
        ∙ (append_assoc done (term_of (x, T) ∷ []) (map term_of (typed_names b))
        ∙ (ap (λ u. done ++ map term_of (typed_names u)) (sym (e ∙ ap (λ k. Node k a b) i)) ∙ same))

pub same_instance : (k l : Tree) (cs ds xs ys : List Tree) → k ≡ l → cs ≡ ds → xs ≡ ys → (let I : Instance = record { key = k; coins = cs; arguments = xs } in I) ≡ record { key = l; coins = ds; arguments = ys }
same_instance k l cs ds xs ys e f g = λ i. record { key = e i; coins = f i; arguments = g i }

pub ruleset lists = (tree_of_NoTree)

-- the whole body
pub whole_part : (g : Group) (f : Function) (m : Tree) → same_tree (filled_part g f m f.body) m ≡ is_whole g f m
unfolding filled_part is_whole
whole_part g f m = refl

-- tests one after another
pub test_last : (p q r a b c v : Bool) → p ≡ a → p ≡ true → q ≡ b → q ≡ true → r ≡ c → (a && (b && c)) ≡ v → r ≡ v
test_last p q r true true c v e f g h i j = i ∙ j
test_last p q r true false c v e f g h i j = absurd (cc)
test_last p q r false b c v e f g h i j = absurd (cc)

pub test_second : (p q a b c v : Bool) → p ≡ a → p ≡ true → q ≡ b → q ≡ false → (a && (b && c)) ≡ v → q ≡ v
test_second p q true true c v e f g h j = absurd (cc)
test_second p q true false c v e f g h j = g ∙ j
test_second p q false b c v e f g h j = absurd (cc)

pub test_first : (p a b v : Bool) → p ≡ a → p ≡ false → (a && b) ≡ v → p ≡ v
test_first p true b v e f j = absurd (cc)
test_first p false b v e f j = e ∙ j

pub both_last : (p q a b v : Bool) → p ≡ a → p ≡ true → q ≡ b → (a && b) ≡ v → q ≡ v
both_last p q true b v e f g j = g ∙ j
both_last p q false b v e f g j = absurd (cc)
