-- An alternative that is chosen is one of the query's.
use Rattle.std.proofs.Common.{◌≡◌, ℕ, zero, suc, true, List, [], ◌∷◌, Option, Some, None, is_some, refl, arith}
use Rattle.std.specs.Prelude.{Contains, slice_get}
use Rattle.std.proofs.lemmas.Bool.{both_ways}
use Rattle.cv_syntax_trees.specs.Tree.{Tree}
use Rattle.cv_meaning.specs.Correspondences.{Atom}
use Rattle.cv_scene.specs.Sights.{from_one}
use Rattle.cv_query_certificates.specs.Alternatives.{atoms_of_chosen, chosen, chosen_atoms, chosen_by, number_in}

no_item : {A : Type 0} (x : A) → ◌≡◌ {A = Option A} None (Some x) → ⊥
no_item x e = cc

item_contained : {A : Type 0} (xs : List A) (n : ℕ) (x : A) → slice_get xs n ≡ Some x → Contains xs x
item_contained [] n x e = absurd (no_item x e)
item_contained (y ∷ xs) zero x e = (0, omega arith, (let same : y ≡ x = cc in same))
item_contained (y ∷ xs) (suc n) x e = let r = item_contained xs n x e in (suc r.0, omega arith, r.2)

numbered : {A : Type 0} (xs : List A) (n : ℕ) (x : A) → from_one xs n ≡ Some x → Contains xs x
numbered xs zero x e = absurd (no_item x e)
numbered xs (suc n) x e = item_contained xs n x e

chosen_contained : (alternatives : List (List (ℕ × Atom))) (n : Option ℕ) (atoms : List (ℕ × Atom)) → chosen_by alternatives n ≡ Some atoms → Contains alternatives atoms
chosen_contained [] None atoms e = absurd (no_item atoms e)
chosen_contained [] (Some n) atoms e = numbered [] n atoms e
chosen_contained (x ∷ []) None atoms e = (0, omega arith, (let same : x ≡ atoms = cc in same))
chosen_contained (x ∷ []) (Some n) atoms e = absurd (no_item atoms e)
chosen_contained (x ∷ (y ∷ more)) None atoms e = absurd (no_item atoms e)
chosen_contained (x ∷ (y ∷ more)) (Some n) atoms e = numbered (x ∷ (y ∷ more)) n atoms e

pub is_alternative : (alternatives : List (List (ℕ × Atom))) (choice : Tree) → is_some (chosen alternatives choice) ≡ true → Contains alternatives (chosen_atoms alternatives choice)
is_alternative alternatives choice e = go (chosen alternatives choice) refl e
  where
    go : (o : Option (List (ℕ × Atom))) → chosen alternatives choice ≡ o → is_some o ≡ true → Contains alternatives (atoms_of_chosen o)
    go None k e = absurd (both_ways _ refl e)
    go (Some atoms) k e = chosen_contained alternatives (number_in choice) atoms k
