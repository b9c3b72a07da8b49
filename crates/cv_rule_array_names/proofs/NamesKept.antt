-- Names that stand behind others.
use Rattle.std.proofs.Common.{◌≡◌, ℕ, List, [], ◌∷◌, length, take, refl, ap, ap₂}

pub names_kept : (xs ys zs : List (List ℕ)) → take (length xs) ys ≡ xs → take (length ys) zs ≡ ys → take (length xs) zs ≡ xs
names_kept [] ys zs e f = refl
names_kept (x ∷ xs) [] zs e f = absurd (cc)
names_kept (x ∷ xs) (y ∷ ys) [] e f = absurd (cc)
names_kept (x ∷ xs) (y ∷ ys) (z ∷ zs) e f = let p : z ≡ x = cc in ap₂ (λ w ws. w ∷ ws) p (names_kept xs ys zs (cc) (cc))

pub names_stay : (xs : List (List ℕ)) → take (length xs) xs ≡ xs
names_stay [] = refl
names_stay (x ∷ xs) = ap (λ ws. x ∷ ws) (names_stay xs)
