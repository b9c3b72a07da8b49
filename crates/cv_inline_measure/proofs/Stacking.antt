-- Counts of the trees that parts make.
use Rattle.std.proofs.Common.{◌≡◌, ℕ, ◌+◌, ◌<◌, ◌≤◌, List, [], ◌∷◌, ◌++◌, get_or, length, reverse, take, refl, sym, ap, ◌∙◌}
use Rattle.std.proofs.lemmas.List.{reverse-append, take_all, take_more}
use Rattle.cv_syntax_trees.specs.declared.head.Head.{Head}
use Rattle.cv_syntax.specs.declared.make.Make.{Make}
use Rattle.cv_syntax.specs.declared.make.Make.TheVariants as make
use Rattle.cv_syntax_trees.specs.Head.{weight}
use Rattle.cv_syntax.specs.Postorder.{joined, made}
use Rattle.cv_syntax_trees.specs.Tree.{Tree, Empty}
use Rattle.cv_inline.specs.terms.Stacks.{stack}
use Rattle.cv_inline.proofs.terms.Pushes.{made_push}
use Rattle.cv_inline_laws.specs.extents.Extents.{extent, over_node}
use Rattle.cv_inline_measure.specs.declared.measuring.Measure.{Measure}
use Rattle.cv_inline_measure.specs.Counts.{counts_of, measure_in, newest, newest_count, older_counts, with_part}
use Rattle.cv_syntax.specs.limits.Limits.{told}
use Rattle.cv_inline_measure.proofs.Counting.{node_alike}

zero_count : (m : Measure) → 0 ≡ told (extent (measure_in m) Empty)
unfolding extent
zero_count m = refl

pub newest_told : (m : Measure) (ts : List Tree) → newest_count (counts_of m ts) ≡ told (extent (measure_in m) (newest ts))
newest_told m [] = zero_count m
newest_told m (t ∷ ts) = refl

pub nothing_more : (m : Measure) (ns : List ℕ) (ts : List Tree) → ns ≡ counts_of m ts → 0 ∷ ns ≡ counts_of m (Empty ∷ ts)
nothing_more m ns ts e = λ i. zero_count m i ∷ e i

over_counts : (m : Measure) (h : Head) (ts : List Tree) →
    told (over_node (measure_in m) (measure_in m).one_copy (weight h) (newest_count (older_counts (counts_of m ts))) (newest_count (counts_of m ts)))
    ∷ older_counts (older_counts (counts_of m ts)) ≡ counts_of m (joined h ts)
unfolding extent
over_counts m h [] = refl
over_counts m h (b ∷ []) = ap (λ n. n ∷ []) (node_alike m (measure_in m).one_copy (weight h) 0 0 _ _ (zero_count m) refl)
over_counts m h (b ∷ (a ∷ ts)) = ap (λ n. n ∷ counts_of m ts) (node_alike m (measure_in m).one_copy (weight h) _ _ _ _ refl refl)

pub over_more : (m : Measure) (h : Head) (x y z c w : ℕ) (os ns rs : List ℕ) (ts : List Tree) → os ≡ counts_of m ts → y ≡ newest_count os → ns ≡ older_counts os → x ≡ newest_count ns → rs ≡ older_counts ns →
    c ≡ (measure_in m).one_copy → w ≡ weight h → z ≡ told (over_node (measure_in m) c w x y) → z ∷ rs ≡ counts_of m (joined h ts)
over_more m h x y z c w os ns rs ts e f g i j k l n =
    let n' : ns ≡ older_counts (counts_of m ts) = g ∙ ap older_counts e in
    (λ q. (n ∙ (λ u. told (over_node (measure_in m) (k u) (l u) ((i ∙ ap newest_count n') u) ((f ∙ ap newest_count e) u)))) q ∷ (j ∙ ap older_counts n') q)
    ∙ over_counts m h ts

pub one_part : (m : Measure) (parts : List Make) (k : ℕ) (d : Make) (new : List ℕ) → k < length parts → new ≡ counts_of m (with_part (get_or parts k d) (stack (take k parts))) → new ≡ counts_of m (stack (take (k + 1) parts))
one_part m parts k d new h e = e ∙ ap (counts_of m) (pushed (get_or parts k d) ∙ ap stack (sym (take_more parts k d h))) where
  pushed : (p : Make) → with_part p (stack (take k parts)) ≡ stack (take k parts ++ p ∷ [])
  pushed make.Nothing = sym (made_push make.Nothing (take k parts))
  pushed (make.Over h) = sym (made_push (make.Over h) (take k parts))

pub all_parts : (m : Measure) (parts : List Make) (k n : ℕ) (counts : List ℕ) → length parts ≤ k → n ≡ newest_count counts → counts ≡ counts_of m (stack (take k parts)) → n ≡ told (extent (measure_in m) (newest (stack parts)))
all_parts m parts k n counts h e f = e ∙ (ap newest_count (f ∙ ap (λ l. counts_of m (stack l)) (take_all k parts h)) ∙ newest_told m (stack parts))

pub start_counts : (m : Measure) (ns : List ℕ) → ns ≡ [] → reverse ns ≡ counts_of m (stack [])
unfolding made
start_counts m ns e = ap reverse e

pub push_nothing : (m : Measure) (olds news : List ℕ) (p : Make) (ts : List Tree) → p ≡ make.Nothing → news ≡ olds ++ 0 ∷ [] → reverse olds ≡ counts_of m ts → reverse news ≡ counts_of m (with_part p ts)
push_nothing m olds news p ts e n o = ap reverse n ∙ (reverse-append olds (0 ∷ []) ∙ (nothing_more m (reverse olds) ts o ∙ ap (λ q. counts_of m (with_part q ts)) (sym e)))

pub push_over : (m : Measure) (h : Head) (x y z c w : ℕ) (olds ms ks news : List ℕ) (p : Make) (ts : List Tree) → p ≡ make.Over h → y ≡ newest_count (reverse olds) → reverse ms ≡ older_counts (reverse olds) → x ≡ newest_count (reverse ms) → reverse ks ≡ older_counts (reverse ms) →
    c ≡ (measure_in m).one_copy → w ≡ weight h → z ≡ told (over_node (measure_in m) c w x y) → news ≡ ks ++ z ∷ [] → reverse olds ≡ counts_of m ts → reverse news ≡ counts_of m (with_part p ts)
push_over m h x y z c w olds ms ks news p ts e f g i j k l n q o =
    ap reverse q ∙ (reverse-append ks (z ∷ []) ∙ (over_more m h x y z c w (reverse olds) (reverse ms) (reverse ks) ts o f g i j k l n ∙ ap (λ r. counts_of m (with_part r ts)) (sym e)))
