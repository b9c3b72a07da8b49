-- Walks over the pairs of copies, with a work that is as before, copy by copy.
use Rattle.std.proofs.Common.{arith, ◌≡◌, ℕ, zero, suc, ◌+◌, ◌-◌, ◌<◌, List, [], ◌∷◌, ◌++◌, All, drop, take, get_or, length, map, sym, ap, subst, ◌∙◌, Option}
use Rattle.std.specs.Prelude.{flat_map}
use Rattle.std.proofs.lemmas.List.{drop_more, take_all}
use Rattle.cv_pool.specs.declared.node.NodeId.{NodeId}
use Rattle.cv_pool.specs.KindTree.{KindTree}
use Rattle.cv_syntax.specs.declared.work.Work.{Work}
use Rattle.cv_scene.specs.Scenes.{Scene}
use Rattle.cv_scene_view.specs.Kept.{scene_of}
use Rattle.cv_query_certificates.specs.SecretPairs.{Copy, NeededSecret, secret_pair, secret_pairs_among}
use Rattle.cv_query_offences.specs.declared.cells.CellCopy.{CellCopy}
use Rattle.cv_query_offences.specs.Copies.{IsCopyBelow}
use Rattle.cv_query.specs.pairs.CopyPairs.{AreLeft, Goes}
use Rattle.cv_query.specs.pairs.Proved.{IsAsBefore}
use Rattle.cv_query.proofs.pairs.Growing.{same_scene}

module _ (old mid : Work) (b : IsAsBefore old mid) where
  pub goes_before : (game : NodeId) (k : ℕ) (l m : Option NodeId) (o : Option ℕ) (needed : Scene → List KindTree → List NeededSecret)
      → Goes (scene_of mid.pool mid.decls game) k mid.pool.trees l m o (needed (scene_of mid.pool mid.decls game) mid.pool.trees) []
      → Goes (scene_of old.pool old.decls game) k old.pool.trees l m o (needed (scene_of old.pool old.decls game) old.pool.trees) []
  goes_before game k l m o needed g =
      subst (λ (s : Scene). Goes s k old.pool.trees l m o (needed s old.pool.trees) []) (same_scene old mid b game)
      (subst (λ (ts : List KindTree). Goes (scene_of mid.pool mid.decls game) k ts l m o (needed (scene_of mid.pool mid.decls game) ts) []) b.trees g)

  pub left_before : (parts : Option NodeId) → AreLeft mid.pool.trees parts → AreLeft old.pool.trees parts
  left_before parts a = subst (λ (ts : List KindTree). AreLeft ts parts) b.trees a

  pub left_after : (parts : Option NodeId) → AreLeft old.pool.trees parts → AreLeft mid.pool.trees parts
  left_after parts a = subst (λ (ts : List KindTree). AreLeft ts parts) (sym b.trees) a

  pub copy_after : (c : CellCopy) → IsCopyBelow (length old.pool.trees) c → IsCopyBelow (length mid.pool.trees) c
  copy_after c a = subst (λ (ts : List KindTree). IsCopyBelow (length ts) c) (sym b.trees) a

  pub copies_after : (cs : List CellCopy) → All (IsCopyBelow (length old.pool.trees)) cs → All (IsCopyBelow (length mid.pool.trees)) cs
  copies_after cs a = subst (λ (ts : List KindTree). All (IsCopyBelow (length ts)) cs) (sym b.trees) a

-- copy by copy

drop_length : {A : Type 0} (k : ℕ) (xs : List A) → length (drop k xs) ≡ length xs - k
drop_length zero xs = omega arith
drop_length (suc k) [] = omega arith
drop_length (suc k) (x ∷ xs) = let e = drop_length k xs in omega (arith, e)

module _ (s : Scene) (n : ℕ) (f : CellCopy → Copy) (xs : List CellCopy) (k : ℕ) (d : CellCopy) (l : k < length xs) where
  pub pairs_more : (c : Copy) → flat_map (secret_pair s n c) (map f (drop k xs)) ≡ secret_pair s n c (f (get_or xs k d)) ++ flat_map (secret_pair s n c) (map f (drop (k + 1) xs))
  pairs_more c = ap (λ ys. flat_map (secret_pair s n c) (map f ys)) (drop_more xs k d l)

  pub copies_among : secret_pairs_among s n (map f (drop k xs)) ≡ flat_map (secret_pair s n (f (get_or xs k d))) (map f (take (length xs - k) (drop k xs))) ++ secret_pairs_among s n (map f (drop (k + 1) xs))
  copies_among =
      let e = drop_more xs k d l in
      let whole = take_all (length xs - k) (drop k xs) (omega (arith, drop_length k xs)) in
      ap (λ ys. secret_pairs_among s n (map f ys)) e ∙ ap (λ ys. flat_map (secret_pair s n (f (get_or xs k d))) (map f ys) ++ secret_pairs_among s n (map f (drop (k + 1) xs))) (sym (whole ∙ e))
