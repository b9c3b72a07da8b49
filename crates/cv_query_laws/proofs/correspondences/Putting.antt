-- The values of the query's terms, where the left event's arguments and witnesses are put for its variables.
use Rattle.std.proofs.Common.{◌≡◌, ℕ, Bool, true, false, cond, ◌||◌, ◌==◌, List, [], ◌∷◌, ◌++◌, map, zip, Some, None, refl, sym, ap, ap₂, ◌∙◌, eqb-true, arith}
use Rattle.std.proofs.lemmas.Bool.{both_ways}
use Rattle.std.specs.List.{AllByRecursion}
use Rattle.cv_syntax_trees.specs.declared.head.Head.TheVariants.{Cons}
use Rattle.cv_syntax_trees.specs.Tree.{Tree, Empty, Node}
use Rattle.cv_meaning.specs.Interpretation.{Setting}
use Rattle.cv_meaning.specs.Memory.{Indices, Store, tuple}
use Rattle.cv_meaning.specs.Terms.{bit, found_in, value, values}
use Rattle.cv_scene.specs.lines.Given.{with_given}
use Rattle.cv_scene.specs.lines.Lines.{lines_of, statements}
use Rattle.cv_derive_laws.specs.stores.Truth.{AreOver, IsTrue, is_name_of}
use Rattle.cv_derive_laws.proofs.Substitution.{names_of}
use Rattle.cv_query_certificates.specs.Claims.{equations, joined}
use Rattle.cv_query_certificates.specs.EventNodes.{are_as_many, are_for}

-- values for names

map_append : {A B : Type 0} (f : A → B) (xs ys : List A) → map f (xs ++ ys) ≡ map f xs ++ map f ys
map_append f [] ys = refl
map_append f (x ∷ xs) ys = ap (λ l. f x ∷ l) (map_append f xs ys)

module _ (g : Setting) (at : Indices) (m : Store) where
  zip_names : (xs : List ℕ) (t : Tree) → are_for xs t ≡ true → names_of (zip xs (values g at m t)) ≡ xs
  unfolding value
  zip_names [] Empty e = refl
  zip_names [] (Node h a b) e = refl
  zip_names (x ∷ xs) Empty e = absurd (both_ways _ refl e)
  zip_names (x ∷ xs) (Node h a b) e = ap (λ l. x ∷ l) (zip_names xs b e)

  zip_values : (xs : List ℕ) (t : Tree) → are_for xs t ≡ true → tuple (zip xs (values g at m t)) ≡ values g at m t
  unfolding value
  zip_values [] Empty e = refl
  zip_values [] (Node h a b) e = absurd (both_ways _ refl e)
  zip_values (x ∷ xs) Empty e = absurd (both_ways _ refl e)
  zip_values (x ∷ xs) (Node h a b) e = ap (λ l. value g at m a ∷ l) (zip_values xs b e)

  joined_values : (s t : Tree) → values g at m (joined s t) ≡ values g at m s ++ values g at m t
  unfolding value
  joined_values Empty t = refl
  joined_values (Node h a b) t = ap (λ l. value g at m a ∷ l) (joined_values b t)

  module _ (xs ys : List ℕ) (s t : Tree) (long : are_for xs s ≡ true) (more : are_for ys t ≡ true) where
    abbrev pub both : Indices
    both = zip xs (values g at m s) ++ zip ys (values g at m t)

    pub both_names : names_of both ≡ xs ++ ys
    both_names = map_append (λ (p : ℕ × ℕ). p.0) (zip xs (values g at m s)) (zip ys (values g at m t)) ∙ ap₂ ◌++◌ (zip_names xs s long) (zip_names ys t more)

    pub both_values : values g at m (joined s t) ≡ tuple both
    both_values = joined_values s t ∙ sym (map_append (λ (p : ℕ × ℕ). p.1) (zip xs (values g at m s)) (zip ys (values g at m t)) ∙ ap₂ ◌++◌ (zip_values xs s long) (zip_values ys t more))

-- equations between lists of terms

-- as many terms as before are put
pub as_many_left : (L : ℕ → Type 0) (R : Type 0) (is : List ℕ) (terms s t : Tree) → AreOver L R s → are_as_many s t ≡ true → are_as_many (with_given is terms s) t ≡ true
unfolding with_given
as_many_left L R is terms Empty t o e = e
as_many_left L R is terms (Node Cons a b) Empty o e = absurd (both_ways _ refl e)
as_many_left L R is terms (Node Cons a b) (Node k c d) o e = as_many_left L R is terms b d o.1 e
as_many_left L R is terms (Node h a b) t o e = absurd o

pub as_many_right : (L : ℕ → Type 0) (R : Type 0) (is : List ℕ) (terms s t : Tree) → AreOver L R t → are_as_many s t ≡ true → are_as_many s (with_given is terms t) ≡ true
unfolding with_given
as_many_right L R is terms s Empty o e = e
as_many_right L R is terms Empty (Node Cons a b) o e = absurd (both_ways _ refl e)
as_many_right L R is terms (Node k c d) (Node Cons a b) o e = as_many_right L R is terms d b o.1 e
as_many_right L R is terms s (Node h a b) o e = absurd o

module _ (g : Setting) (at : Indices) (m n : Store) where
  same_bit : (x y : ℕ) → bit (x == y) ≡ 1 → x ≡ y
  same_bit x y e = go (x == y) refl e
    where
      go : (b : Bool) → (x == y) ≡ b → bit b ≡ 1 → x ≡ y
      go true f k = eqb-true x y f
      go false f k = absurd (omega arith)

  -- where each equation is true the values are equal
  pub equal_values : (s t : Tree) → are_as_many s t ≡ true → AllByRecursion (IsTrue g at m n) (statements (lines_of (equations s t))) → values g at n s ≡ values g at n t
  unfolding lines_of statements value
  equal_values Empty Empty e a = refl
  equal_values Empty (Node k c d) e a = absurd (both_ways _ refl e)
  equal_values (Node h c d) Empty e a = absurd (both_ways _ refl e)
  equal_values (Node h c d) (Node k x y) e a = ap₂ ◌∷◌ (same_bit (value g at n c) (value g at n x) a.0) (equal_values d y e a.1)
