-- What a second place adds.
use Rattle.std.proofs.Common.{◌≡◌, ℕ, zero, suc, Bool, List, map, Option, Some, None, refl, sym, ap, ap₂, subst, ◌∙◌}
use Rattle.std.specs.Prelude.{IfSome, slice_get}
use Rattle.cv_pool.specs.KindTree.{KindTree}
use Rattle.cv_syntax_trees.specs.Tree.{Tree, Empty, first, second}
use Rattle.cv_syntax.specs.PoolTrees.{tree_at}
use Rattle.cv_scope_rules.specs.Above.{stands_at}
use Rattle.cv_scope_rules.specs.Context.{items}
use Rattle.cv_scene.specs.Pairs.{all_of_second}
use Rattle.cv_scene.specs.Reasons.{is_distinct_of, is_fact_of, is_tree}
use Rattle.cv_scene.specs.Scenes.{Scene}
use Rattle.cv_scene.specs.Sights.{Pair, cells_by, facts_by, from_one}
use Rattle.cv_scene.specs.Terms.{replications_at, replications_by}
use Rattle.cv_scene.specs.lines.Inferences.{Visible, cited_cell, cited_term, number_of}
use Rattle.cv_derive_reasons.specs.substitution.Under.{under}
use Rattle.cv_derive.proofs.Replications.{known_replications}
use Rattle.cv_derive.specs.Seconds.{IsSecond}
use Rattle.cv_derive.specs.Seen.{sight_with}
use Rattle.cv_derive.specs.Standing.{facts_under}
use Rattle.cv_derive.specs.declared.sight.Second.{Second}

-- a list that has no item

pub no_item : (t : Tree) (k : ℕ) → t ≡ Empty → None ≡ from_one (items t) k
no_item t zero e = refl
no_item t (suc k) e = sym (ap (λ u. slice_get (items u) k) e)

-- the second place

module _ (trees : List KindTree) (s : Scene) (p : ℕ) (o : Option Second) (i : IfSome o (IsSecond trees s)) (x : Second) (e : o ≡ Some x) where
  pub second_there : IsSecond trees s x
  second_there = subst (λ u. IfSome u (IsSecond trees s)) e i

  -- the replications above it
  pub second_replications : replications_by (stands_at s.game x.place) ≡ x.replications.now
  second_replications = sym (second_there.replications ∙ known_replications s.game x.place)

  all_under : (ts : List Tree) → map (under x.replications.now (tree_at trees x.raised)) ts ≡ all_of_second x.raise (replications_at s x.place) ts
  all_under ts = ap₂ (λ rs t. map (under rs t) ts) second_there.replications second_there.raised

  pub second_fact : (k j : ℕ) (t : Tree) → k ≡ j → is_tree (from_one (facts_under s.game x.place x.replications.now (tree_at trees x.raised)) k) t ≡ is_fact_of (sight_with trees s p o).pair j t
  second_fact k j t f =
      ap₂ (λ ts m. is_tree (from_one ts m) t) (all_under (facts_by (stands_at s.game x.place))) f
      ∙ sym (ap (λ u. is_fact_of (sight_with trees s p u).pair j t) e)

  -- cells whose values are taken to differ

  abbrev added : Pair
  added =
      record {
        facts = all_of_second x.raise (replications_at s x.place) (facts_by (stands_at s.game x.place));
        cells = all_of_second x.raise (replications_at s x.place) (cells_by (stands_at s.game x.place));
        given = items (tree_at trees x.given);
        distinct = x.distinct.now;
      }

  module _ (v : Visible) (l cs t : Tree) (b : Bool) (m c d : Tree) (k : ℕ) where
    pub distinct_there : m ≡ cited_term v l → c ≡ cited_cell v (first cs) → d ≡ cited_cell v (first (second cs)) → k ≡ number_of (second (second cs))
        → ((y : Pair) → y.distinct ≡ x.distinct.now → b ≡ is_distinct_of (Some y) m c d k t)
        → b ≡ is_distinct_of (sight_with trees s p o).pair (cited_term v l) (cited_cell v (first cs)) (cited_cell v (first (second cs))) (number_of (second (second cs))) t
    distinct_there f g h n r =
        r added refl
        ∙ (ap₂ (λ u w. is_distinct_of (Some added) u w d k t) f g
        ∙ (ap₂ (λ u j. is_distinct_of (Some added) (cited_term v l) (cited_cell v (first cs)) u j t) h n
        ∙ sym (ap (λ u. is_distinct_of (sight_with trees s p u).pair (cited_term v l) (cited_cell v (first cs)) (cited_cell v (first (second cs))) (number_of (second (second cs))) t) e)))
