-- The pairs that were met, one by one: which is the first that isn't derived.
use Rattle.std.proofs.Common.{◌≡◌, ℕ, ◌+◌, ◌<◌, Bool, true, false, List, length, drop, get_or, sym, ap, ap₂, ◌∙◌, Option, Some}
use Rattle.std.proofs.lemmas.List.{drop_more}
use Rattle.cv_syntax_trees.specs.lists.Options.{first_of}
use Rattle.cv_pool.specs.declared.node.NodeId.{NodeId}
use Rattle.cv_pool.specs.KindTree.{KindTree}
use Rattle.cv_syntax.specs.declared.work.Work.{Work}
use Rattle.cv_syntax.specs.PoolTrees.{tree_at}
use Rattle.cv_scene.specs.Derivations.{unless}
use Rattle.cv_scene.specs.Scenes.{Scene}
use Rattle.cv_scene_view.specs.Kept.{scene_of}
use Rattle.cv_query_certificates.specs.Marks.{plain}
use Rattle.cv_query_certificates.specs.PairParts.{proves_pair}
use Rattle.cv_query_parts.specs.declared.pairs.walk.Pairing.{Pairing}
use Rattle.cv_query_parts.specs.pairs.Walks.{first_unproved, needed_of}
use Rattle.cv_query.specs.pairs.Proved.{IsAsBefore}
use Rattle.cv_query.proofs.pairs.Growing.{same_scene}

abbrev is_derived : (k : ℕ) → (distinct : List ℕ) → Pairing → Scene → List KindTree → Bool
is_derived k ds p s trees = proves_pair s k ds (needed_of s k trees p) (plain k (tree_at trees p.by))

module _ (old new : Work) (b : IsAsBefore old new) (game : NodeId) (k : ℕ) (ds : List ℕ) (ps : List Pairing)
    (n : ℕ) (l : n < length ps) (d : Pairing) where
  abbrev pair : Pairing
  pair = get_or ps n d

  abbrev unproved_from : ℕ → Option ℕ
  unproved_from m = first_unproved (scene_of old.pool old.decls game) k ds old.pool.trees (drop m ps)

  module _ (c : Bool) (e : c ≡ is_derived k ds pair (scene_of new.pool new.decls game) new.pool.trees) (total : Option ℕ)
      (i : unproved_from n ≡ total) where
    -- a pair that is derived now is derived in the pool as it was
    one_pair : first_of (unless c pair.first) (unproved_from (n + 1)) ≡ total
    one_pair =
        ap (λ x. first_of (unless x pair.first) (unproved_from (n + 1)))
        (e ∙ ap₂ (is_derived k ds pair) (same_scene old new b game) b.trees)
        ∙ (sym (ap (first_unproved (scene_of old.pool old.decls game) k ds old.pool.trees) (drop_more ps n d l)) ∙ i)

    pub underived_pair : c ≡ false → Some pair.first ≡ total
    underived_pair f = sym (ap (λ x. first_of (unless x pair.first) (unproved_from (n + 1))) f) ∙ one_pair

    pub derived_pair : c ≡ true → unproved_from (n + 1) ≡ total
    derived_pair f = sym (ap (λ x. first_of (unless x pair.first) (unproved_from (n + 1))) f) ∙ one_pair
