-- What bodies add, as it is told.
use Rattle.std.proofs.Common.{◌≡◌, ℕ, refl, ap, ◌∙◌}
use Rattle.cv_syntax_trees.specs.Tree.{Tree}
use Rattle.cv_inline_laws.specs.extents.Extents as extents
use Rattle.cv_inline_laws.specs.extents.Extents.{Extent, all_beside, extent, of_result, over_node}
use Rattle.cv_inline_measure.specs.declared.added.Added.{Added}
use Rattle.cv_inline_measure.specs.declared.measuring.Measure.{Measure}
use Rattle.cv_inline_measure.specs.declared.measuring.Measure.TheVariants.{Nodes, Path}
use Rattle.cv_inline_measure.specs.Counts.{IsTold, measure_in}
use Rattle.cv_syntax.specs.limits.Limits.{told}
use Rattle.cv_inline_measure.proofs.Counting.{along_told, join_told, node_alike}

one_told : (m : Measure) → (measure_in m).one_copy ≡ told (measure_in m).one_copy
one_told Nodes = refl
one_told Path = refl

pub result_told : (m : Measure) (t : Tree) (o c : ℕ) → o ≡ (measure_in m).one_copy → c ≡ told (extent (measure_in m) t) → IsTold (record { own = 0; places = o; results = c }) (of_result (measure_in m) t)
result_told m t o c e f = record { own = refl; places = e ∙ one_told m; results = f }

pub beside_told : (m : Measure) (a b : Added) (e f : Extent) (x y z : ℕ) → x ≡ told ((measure_in m).join a.own b.own) → y ≡ told ((measure_in m).join a.places b.places) → z ≡ told ((measure_in m).join a.results b.results) →
    IsTold a e → IsTold b f → IsTold (record { own = x; places = y; results = z }) (extents.beside (measure_in m) e f)
beside_told m a b e f x y z i j k g h = record {
  own = i ∙ join_told m a.own e.own b.own f.own g.own h.own;
  places = j ∙ join_told m a.places e.places b.places f.places g.places h.places;
  results = k ∙ join_told m a.results e.results b.results f.results g.results h.results;
}

below_told : (m : Measure) (l a e : ℕ) → l ≡ (measure_in m).below 1 → a ≡ told e → told ((measure_in m).along l a) ≡ told ((measure_in m).along ((measure_in m).below 1) e)
below_told Nodes l a e i j = ap (λ k. told ((measure_in Nodes).along k a)) i ∙ along_told Nodes 1 1 a e refl j
below_told Path l a e i j = ap (λ k. told ((measure_in Path).along k a)) i ∙ along_told Path 1 1 a e refl j

pub under_told : (m : Measure) (p n : ℕ) (a : Added) (e : Extent) (o l x y z : ℕ) → o ≡ (measure_in m).one_copy → l ≡ (measure_in m).below 1 →
    x ≡ told (over_node (measure_in m) o 1 p a.own) → y ≡ told ((measure_in m).along l a.places) → z ≡ told ((measure_in m).along l a.results) →
    p ≡ told n → IsTold a e → IsTold (record { own = x; places = y; results = z }) (extents.under (measure_in m) 1 n e)
under_told m p n a e o l x y z i b f g h j k = record {
  own = f ∙ (ap (λ c. told (over_node (measure_in m) c 1 p a.own)) i ∙ node_alike m (measure_in m).one_copy 1 p n a.own e.own j k.own);
  places = g ∙ below_told m l a.places e.places b k.places;
  results = h ∙ below_told m l a.results e.results b k.results;
}
