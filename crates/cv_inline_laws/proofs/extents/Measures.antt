-- Measures of trees: laws of parts side by side and of copies.
use Rattle.std.proofs.Common.{◌≡◌, ℕ, ◌+◌, ◌*◌, max, refl, sym, ap, ap₂, ◌∙◌, arith}
use Rattle.std.proofs.Math.Nat.{mul_comm, mul_assoc, mul-add}
use Rattle.cv_syntax_trees.specs.Head.{weight}
use Rattle.cv_syntax_trees.specs.Tree.{Tree, Empty, Node, depth, size}
use Rattle.cv_inline_laws.specs.extents.Extents.{Measure, all_nodes, longest_path, over_node, extent}

pub record IsMeasure (μ : Measure) : Type 0 where
  pub join_zero : (n : ℕ) → μ.join 0 n ≡ n
  pub join_comm : (m n : ℕ) → μ.join m n ≡ μ.join n m
  pub join_assoc : (l m n : ℕ) → μ.join (μ.join l m) n ≡ μ.join l (μ.join m n)
  pub along_one : (n : ℕ) → μ.along n μ.one_copy ≡ n
  pub along_comm : (m n : ℕ) → μ.along m n ≡ μ.along n m
  pub along_assoc : (l m n : ℕ) → μ.along (μ.along l m) n ≡ μ.along l (μ.along m n)
  pub along_join : (l m n : ℕ) → μ.along l (μ.join m n) ≡ μ.join (μ.along l m) (μ.along l n)
  pub below_zero : μ.below 0 ≡ μ.one_copy

pub nodes_measure : IsMeasure all_nodes
nodes_measure = record {
  join_zero = λ n. omega arith;
  join_comm = λ m n. omega arith;
  join_assoc = λ l m n. omega arith;
  along_one = λ n. omega arith;
  along_comm = mul_comm;
  along_assoc = mul_assoc;
  along_join = λ l m n. mul-add l m n;
  below_zero = refl;
}

pub path_measure : IsMeasure longest_path
path_measure = record {
  join_zero = λ n. omega arith;
  join_comm = λ m n. omega arith;
  join_assoc = λ l m n. omega arith;
  along_one = λ n. omega arith;
  along_comm = λ m n. omega arith;
  along_assoc = λ l m n. omega arith;
  along_join = λ l m n. omega arith;
  below_zero = refl;
}

-- what is measured

pub nodes_are_size : (t : Tree) → extent all_nodes t ≡ size t
unfolding size extent
nodes_are_size Empty = refl
nodes_are_size (Node h a b) =
    let e = nodes_are_size a in
    let f = nodes_are_size b in
    go (weight h) _ _ _ _ e f
  where
    go : (w m n p q : ℕ) → m ≡ p → n ≡ q → w * 1 + 1 * (m + n) ≡ w + p + q
    go w m n p q e f = omega arith

pub path_is_depth : (t : Tree) → extent longest_path t ≡ depth t
unfolding depth extent
path_is_depth Empty = refl
path_is_depth (Node h a b) = go (weight h) _ _ _ _ (path_is_depth a) (path_is_depth b)
  where
    go : (w m n p q : ℕ) → m ≡ p → n ≡ q → max (w + 0) (w + max m n) ≡ w + max p q
    go w m n p q e f = omega arith

module _ (μ : Measure) (ok : IsMeasure μ) where
  pub zero_join : (n : ℕ) → μ.join n 0 ≡ n
  zero_join n = ok.join_comm n 0 ∙ ok.join_zero n

  pub one_along : (n : ℕ) → μ.along μ.one_copy n ≡ n
  one_along n = ok.along_comm μ.one_copy n ∙ ok.along_one n

  pub join_along : (l m n : ℕ) → μ.along (μ.join l m) n ≡ μ.join (μ.along l n) (μ.along m n)
  join_along l m n = ok.along_comm (μ.join l m) n ∙ (ok.along_join n l m ∙ ap₂ μ.join (ok.along_comm n l) (ok.along_comm n m))

  pub join_swap : (a b c d : ℕ) → μ.join (μ.join a b) (μ.join c d) ≡ μ.join (μ.join a c) (μ.join b d)
  join_swap a b c d =
      ok.join_assoc a b (μ.join c d)
      ∙ (ap (μ.join a) (sym (ok.join_assoc b c d) ∙ (ap (λ n. μ.join n d) (ok.join_comm b c) ∙ ok.join_assoc c b d))
      ∙ sym (ok.join_assoc a c (μ.join b d)))

  pub along_left : (l m n : ℕ) → μ.along l (μ.along m n) ≡ μ.along m (μ.along l n)
  along_left l m n = sym (ok.along_assoc l m n) ∙ (ap (λ k. μ.along k n) (ok.along_comm l m) ∙ ok.along_assoc m l n)

  -- an item of a list
  pub over_item : (m n : ℕ) → over_node μ μ.one_copy 0 m n ≡ μ.join m n
  over_item m n =
      ap (λ k. μ.join k (μ.along (μ.below 0) (μ.join m n))) (ok.along_one 0)
      ∙ (ok.join_zero (μ.along (μ.below 0) (μ.join m n)) ∙ (ap (λ k. μ.along k (μ.join m n)) ok.below_zero ∙ one_along (μ.join m n)))

  pub over_joined : (a b w m n p q : ℕ) → over_node μ (μ.join a b) w (μ.join m n) (μ.join p q) ≡ μ.join (over_node μ a w m p) (over_node μ b w n q)
  over_joined a b w m n p q =
      ap₂ μ.join (ok.along_join w a b) (ap (μ.along (μ.below w)) (join_swap m n p q) ∙ ok.along_join (μ.below w) (μ.join m p) (μ.join n q))
      ∙ join_swap (μ.along w a) (μ.along w b) (μ.along (μ.below w) (μ.join m p)) (μ.along (μ.below w) (μ.join n q))

  pub over_along : (k c w m n : ℕ) → over_node μ (μ.along k c) w (μ.along k m) (μ.along k n) ≡ μ.along k (over_node μ c w m n)
  over_along k c w m n =
      ap₂ μ.join (along_left w k c) (ap (μ.along (μ.below w)) (sym (ok.along_join k m n)) ∙ along_left (μ.below w) k (μ.join m n))
      ∙ sym (ok.along_join k (μ.along w c) (μ.along (μ.below w) (μ.join m n)))
