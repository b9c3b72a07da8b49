-- Names that are taken out of a set one by one: each is there, and none stands twice.
use Rattle.std.proofs.Common.{◌≡◌, ℕ, Bool, true, false, cond, ◌&&◌, ◌||◌, not, List, [], ◌∷◌, ◌++◌, refl, ap, sym, ◌∙◌, nat_eq, eq-eqb}
use Rattle.std.specs.Prelude.{◌==◌}
use Rattle.std.specs.HashSet.{Updates, UpdatesBy}
use Rattle.std.proofs.Math.Path.{fun_ext}
use Rattle.std.proofs.lemmas.Bool.{both_ways, eqb-true}
use Rattle.cv_syntax.specs.NameSets.{NameSet, is_in, is_one_of, is_outside}
use Rattle.cv_group_rules.specs.Rules.{are_distinct, are_read}
use Rattle.cv_group.specs.shapes.Shapes.{are_taken, without, without_all}
use Rattle.cv_syntax_trees.proofs.lists.Tests.{equals_comm}

without_twice : (free : ℕ → Bool) (x y : ℕ) → without (without free x) y ≡ without (without free y) x
without_twice free x y = fun_ext (λ z. go (x == z) (y == z) (free z))
  where
    go : (a b c : Bool) → cond b false (cond a false c) ≡ cond a false (cond b false c)
    go true true c = refl
    go true false c = refl
    go false true c = refl
    go false false c = refl

-- without a name the names that are taken are others
taken_without : (free : ℕ → Bool) (x : ℕ) (ys : List ℕ) → are_taken (without free x) ys ≡ (not (is_one_of ys x) && are_taken free ys)
taken_without free x [] = refl
taken_without free x (y ∷ ys) =
    ap (λ f. cond (x == y) false (free y) && are_taken f ys) (without_twice free x y)
    ∙ (ap (λ r. cond (x == y) false (free y) && r) (taken_without (without free y) x ys)
    ∙ (ap (λ b. cond b false (free y) && (not (is_one_of ys x) && are_taken (without free y) ys)) (equals_comm x y)
    ∙ go (y == x) (free y) (is_one_of ys x) (are_taken (without free y) ys)))
  where
    go : (a b c d : Bool) → (cond a false b && (not c && d)) ≡ (not (a || c) && (b && d))
    go true b c d = refl
    go false true c d = refl
    go false false true d = refl
    go false false false d = refl

pub taken_read : (free : ℕ → Bool) (xs : List ℕ) → are_read free xs ≡ are_taken free xs
taken_read free [] = refl
taken_read free (x ∷ xs) =
    ap (λ r. (free x && not (is_one_of xs x)) && r) (taken_read free xs)
    ∙ (assoc (free x) (not (is_one_of xs x)) (are_taken free xs)
    ∙ ap (λ r. free x && r) (sym (taken_without free x xs)))
  where
    assoc : (a b c : Bool) → ((a && b) && c) ≡ (a && (b && c))
    assoc true b c = refl
    assoc false b c = refl

abbrev pub all_free : ℕ → Bool
all_free x = true

pub taken_distinct : (xs : List ℕ) → are_taken all_free xs ≡ are_distinct xs
taken_distinct [] = refl
taken_distinct (x ∷ xs) = taken_without all_free x xs ∙ ap (λ r. not (is_one_of xs x) && r) (taken_distinct xs)

-- lists one behind the other
pub taken_append : (free : ℕ → Bool) (xs ys : List ℕ) → are_taken free (xs ++ ys) ≡ (are_taken free xs && are_taken (without_all free xs) ys)
taken_append free [] ys = refl
taken_append free (x ∷ xs) ys = ap (λ r. free x && r) (taken_append (without free x) xs ys) ∙ assoc (free x) (are_taken (without free x) xs) (are_taken (without_all (without free x) xs) ys)
  where
    assoc : (a b c : Bool) → (a && (b && c)) ≡ ((a && b) && c)
    assoc true b c = refl
    assoc false b c = refl

-- a name is taken out of a set
pub removed : (x : ℕ) (m n : NameSet) → UpdatesBy nat_eq (nat_eq x) m n false → is_in n ≡ without (is_in m) x
removed x m n u = fun_ext (λ y. u.0 y)

-- or added to a set, outside of which names are free
pub noted : (x : ℕ) (m n : NameSet) → Updates nat_eq m n x true → is_outside n ≡ without (is_outside m) x
noted x m n u = fun_ext (λ y. ap not (u.0 y) ∙ go (x == y) (is_in m y))
  where
    go : (a b : Bool) → not (cond a true b) ≡ cond a false (not b)
    go true b = refl
    go false b = refl
