-- The stores of the two runs: what the first has of the variable, the second has of the name that the copy's definition got.
use Rattle.std.proofs.Common.{◌≡◌, ℕ, ◌==◌, ◌&&◌, Bool, true, false, cond, List, [], ◌∷◌, Option, Some, None, refl, sym, ap, subst, ◌∙◌, eq-eqb, eqb-true}
use Rattle.std.proofs.lemmas.Bool.{both_ways, or_left, or_parts, or_right}
use Rattle.std.specs.List.{list_any}
use Rattle.cv_syntax_trees.specs.declared.head.Head.{Head}
use Rattle.cv_syntax_trees.specs.declared.head.Head.TheVariants.{Binder}
use Rattle.cv_syntax_trees.specs.Tree.{Tree, Empty, Node}
use Rattle.cv_meaning.specs.Tapes.{same_tuple}
use Rattle.cv_meaning.specs.Memory.{Store, put}
use Rattle.cv_meaning.specs.Binders.{bound_to}
use Rattle.cv_meaning_laws.proofs.Counts.{same_tuple_exact, same_tuple_refl}
use Rattle.cv_scope_rules.specs.Made.{is_bound}
use Rattle.cv_scope_runs.proofs.Contexts.{put_here, put_other}
use Rattle.cv_scene.specs.Scenes.{head_names, names}
use Rattle.cv_steps.specs.Renaming.{renamed}

-- one of the new names
abbrev pub is_name : List ℕ → ℕ → Bool
is_name ys z = list_any (λ y. y == z) ys

-- the tree has none of them
abbrev pub Free : List ℕ → Tree → Type 0
Free ys t = (y : ℕ) → is_name ys y ≡ true → names y t ≡ false

pub free_first : (ys : List ℕ) (h : Head) (a b : Tree) → Free ys (Node h a b) → Free ys a
unfolding names
free_first ys h a b f y e = (or_parts (names y a) _ (or_parts (head_names y h) _ (f y e)).1).0

pub free_second : (ys : List ℕ) (h : Head) (a b : Tree) → Free ys (Node h a b) → Free ys b
unfolding names
free_second ys h a b f y e = (or_parts (names y a) _ (or_parts (head_names y h) _ (f y e)).1).1

-- a name of its head is none of them
pub head_free : (ys : List ℕ) (h : Head) (a b : Tree) (z : ℕ) → head_names z h ≡ true → Free ys (Node h a b) → is_name ys z ≡ false
unfolding names
head_free ys h a b z e f = go (is_name ys z) refl
  where
    go : (c : Bool) → is_name ys z ≡ c → is_name ys z ≡ false
    go true i = absurd (both_ways _ (or_parts (head_names z h) _ (f z i)).0 e)
    go false i = i

-- each copy has the name of an owner: there the second store has what the first has of the variable, and nothing of the other names
pub record AreSplit (x : ℕ) (ys : List ℕ) (o : List ℕ → ℕ) (m n : Store) : Type 0 where
  pub same : (z : ℕ) → (z == x) ≡ false → is_name ys z ≡ false → (w : List ℕ) → m z w ≡ n z w
  pub owned : (w : List ℕ) → m x w ≡ n (o w) w
  pub others : (y : ℕ) → is_name ys y ≡ true → (w : List ℕ) → (y == o w) ≡ false → n y w ≡ None

module _ (x : ℕ) (ys : List ℕ) (o : List ℕ → ℕ) (owns : (w : List ℕ) → is_name ys (o w) ≡ true) where
  abbrev Split : Store → Store → Type 0
  Split = AreSplit x ys o

  -- the variable is assigned
  pub own_put : (m n : Store) → Split m n → (u : List ℕ) (v : ℕ) → Split (put m x u v) (put n (o u) u v)
  own_put m n s u v = record {
    same = λ z e f w.
        put_other m x u v z w (λ i j. both_ways (z == x) e i) ∙ s.same z e f w
        ∙ sym (put_other n (o u) u v z w (λ i j. both_ways (is_name ys z) f (ap (is_name ys) (eqb-true z (o u) i) ∙ owns u)));
    owned = λ w. go w (same_tuple w u) refl;
    others = λ y h w e.
        put_other n (o u) u v y w (λ i j. both_ways (y == o w) e (eq-eqb y (o w) (eqb-true y (o u) i ∙ ap o (sym j)))) ∙ s.others y h w e;
  }
    where
      go : (w : List ℕ) (b : Bool) → same_tuple w u ≡ b → put m x u v x w ≡ put n (o u) u v (o w) w
      go w true t =
          subst (λ z. put m x u v x z ≡ put n (o u) u v (o z) z) (sym (same_tuple_exact w u t)) (put_here m x u v ∙ sym (put_here n (o u) u v))
      go w false t =
          let apart : w ≡ u → ⊥ = λ j. both_ways (same_tuple w u) t (ap (λ z. same_tuple w z) (sym j) ∙ same_tuple_refl w) in
          put_other m x u v x w (λ i j. apart j) ∙ s.owned w ∙ sym (put_other n (o u) u v (o w) w (λ i j. apart j))

  -- another variable is
  pub other_put : (m n : Store) → Split m n → (z : ℕ) → (z == x) ≡ false → is_name ys z ≡ false → (u : List ℕ) (v : ℕ) → Split (put m z u v) (put n z u v)
  unfolding put
  other_put m n s z e f u v = record {
    same = λ a h k w. ap (λ (q : Option ℕ). cond ((a == z) && same_tuple w u) (Some v) q) (s.same a h k w);
    owned = λ w.
        put_other m z u v x w (λ i j. both_ways (z == x) e (eq-eqb z x (sym (eqb-true x z i)))) ∙ s.owned w
        ∙ sym (put_other n z u v (o w) w (λ i j. both_ways (is_name ys z) f (ap (is_name ys) (sym (eqb-true (o w) z i)) ∙ owns w)));
    others = λ y h w k. put_other n z u v y w (λ i j. both_ways (is_name ys z) f (ap (is_name ys) (sym (eqb-true y z i)) ∙ h)) ∙ s.others y h w k;
  }

  -- one of the two
  pub either_put : (m n : Store) → Split m n → (z y : ℕ) → is_name ys z ≡ false → (u : List ℕ) (v : ℕ) → ((z == x) ≡ true → o u ≡ y) → Split (put m z u v) (put n (cond (z == x) y z) u v)
  either_put m n s z y f u v own = go (z == x) refl
    where
      go : (c : Bool) → (z == x) ≡ c → Split (put m z u v) (put n (cond c y z) u v)
      go true i =
          subst (λ q. Split (put m q u v) (put n y u v)) (sym (eqb-true z x i)) (subst (λ q. Split (put m x u v) (put n q u v)) (own i) (own_put m n s u v))
      go false i = other_put m n s z i f u v

  -- binders assign their variables
  pub bound_split : (bs : Tree) (vs : List ℕ) (m n : Store) → Split m n → (u : List ℕ) (y : ℕ) → (is_bound bs x ≡ true → o u ≡ y) → Free ys bs → Split (bound_to m u bs vs) (bound_to n u (renamed x y bs) vs)
  unfolding bound_to is_bound renamed
  bound_split Empty vs m n s u y own f = s
  bound_split (Node (Binder z T) a b) [] m n s u y own f = s
  bound_split (Node (Binder z T) a b) (v ∷ vs) m n s u y own f =
      bound_split b vs (put m z u v) (put n (cond (z == x) y z) u v)
      (either_put m n s z y (head_free ys (Binder z T) a b z (eq-eqb z z refl) f) u v (λ i. own (or_left (x == z) _ (eq-eqb x z (sym (eqb-true z x i))))))
      u y (λ k. own (or_right (x == z) _ k)) (free_second ys (Binder z T) a b f)
  bound_split (Node h a b) vs m n s u y own f = s
