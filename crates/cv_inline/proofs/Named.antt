-- What a drawn name is drawn for is found again from the name.
use Rattle.std.proofs.Common.{◌≡◌, ℕ, Bool, true, false, cond, ◌||◌, ◌==◌, List, [], ◌∷◌, refl, sym, ap, ap₂, ◌∙◌, length, eq-eqb, eqb-true, arith}
use Rattle.std.proofs.lemmas.Bool.{both_ways, and_parts}
use Rattle.std.proofs.lemmas.Map.Keys.{IsDistinct-head, IsDistinct-tail}
use Rattle.std.specs.List.{AllByRecursion, IsDistinct}
use Rattle.cv_meaning.specs.contexts.Roles.{Role, TheKeyName, Variable, Index}
use Rattle.cv_inline.specs.Draws.{same_role, same_find, name_for, drawn_for, is_drawn}

module _ {A : Type 0} (same : A → A → Bool) (exact : (r s : A) → same r s ≡ true → r ≡ s) where
  other_name : (x : ℕ) (ds : List A) (xs : List ℕ) (r : A) → AllByRecursion (λ y. (x == y) ≡ false) xs → length xs ≡ length ds → is_drawn same ds r ≡ true → (name_for same ds xs r == x) ≡ false
  other_name x [] xs r a l i = absurd (both_ways _ refl i)
  other_name x (d ∷ ds) [] r a l i = absurd (omega arith)
  other_name x (d ∷ ds) (y ∷ xs) r a l i = go (same d r) i (other_name x ds xs r a.1 (omega arith))
    where
      turned : (b : Bool) → (y == x) ≡ b → b ≡ false
      turned true e = absurd (both_ways _ a.0 (eq-eqb x y (sym (eqb-true y x e))))
      turned false e = refl

      go : (b : Bool) → (b || is_drawn same ds r) ≡ true → (is_drawn same ds r ≡ true → (name_for same ds xs r == x) ≡ false) → (cond b y (name_for same ds xs r) == x) ≡ false
      go true i h = turned (y == x) refl
      go false i h = h i

  pub found_again : (other : ℕ → A) (ds : List A) (xs : List ℕ) (r : A) → length xs ≡ length ds → IsDistinct ◌==◌ xs → is_drawn same ds r ≡ true → drawn_for other ds xs (name_for same ds xs r) ≡ r
  found_again other [] xs r l a i = absurd (both_ways _ refl i)
  found_again other (d ∷ ds) [] r l a i = absurd (omega arith)
  found_again other (d ∷ ds) (x ∷ xs) r l a i = go (same d r) refl i (λ i. found_again other ds xs r (omega arith) (IsDistinct-tail ◌==◌ x xs a) i)
    where
      go : (b : Bool) → same d r ≡ b → (b || is_drawn same ds r) ≡ true → (is_drawn same ds r ≡ true → drawn_for other ds xs (name_for same ds xs r) ≡ r) → cond (cond b x (name_for same ds xs r) == x) d (drawn_for other ds xs (cond b x (name_for same ds xs r))) ≡ r
      go true e i h = ap (λ c. cond c d (drawn_for other ds xs x)) (eq-eqb x x refl) ∙ exact d r e
      go false e i h =
          ap (λ c. cond c d (drawn_for other ds xs (name_for same ds xs r))) (other_name x ds xs r (IsDistinct-head ◌==◌ x xs a) (omega arith) i)
          ∙ h i

pub same_role_exact : (r s : Role) → same_role r s ≡ true → r ≡ s
same_role_exact TheKeyName TheKeyName e = refl
same_role_exact (Variable s v) (Variable r w) e = let p = and_parts (s == r) (v == w) e in ap₂ Variable (eqb-true s r p.0) (eqb-true v w p.1)
same_role_exact (Index s q o b k) (Index r p n c j) e =
    let y = and_parts (s == r) _ e in
    let z = and_parts (q == p) _ y.1 in
    let u = and_parts (o == n) _ z.1 in
    let v = and_parts (b == c) (k == j) u.1 in
    λ i. Index (eqb-true s r y.0 i) (eqb-true q p z.0 i) (eqb-true o n u.0 i) (eqb-true b c v.0 i) (eqb-true k j v.1 i)
same_role_exact _ _ e = absurd (both_ways _ refl e)

pub same_find_exact : (f g : ℕ × ℕ) → same_find f g ≡ true → f ≡ g
same_find_exact f g e = let p = and_parts (f.0 == g.0) (f.1 == g.1) e in λ i. (eqb-true f.0 g.0 p.0 i, eqb-true f.1 g.1 p.1 i)
