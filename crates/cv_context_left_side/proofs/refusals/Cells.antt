-- Cells of `defined` lists, conditions and indices of a game without a refusal are apt.
use Rattle.std.proofs.Common.{◌≡◌, ℕ, ◌+◌, ◌<◌, ◌≤◌, Bool, true, false, cond, ◌&&◌, ◌||◌, not, ◌==◌, List, length, refl, sym, ap, subst, ◌∙◌, eq-eqb, eqb-true, arith}
use Rattle.std.proofs.lemmas.Bool.{both_ways, and_from, and_parts, not-true}
use Rattle.cv_syntax_trees.specs.declared.head.Head.TheVariants.{Cons, Leaf, Read, Repl}
use Rattle.cv_syntax_trees.specs.Tree.{Tree, Empty, Node, reads_only}
use Rattle.cv_meaning.specs.Interpretation.{is_constant_of}
use Rattle.cv_scope_rules.specs.Phrases.{Cells, OneCell, head_binds_none, is_phrase}
use Rattle.cv_scope_rules.specs.Rules.{is_index}
use Rattle.cv_scope_rules.specs.Scope.{is_variable}
use Rattle.cv_scene.specs.Scenes.{head_names, names}
use Rattle.cv_scene.specs.Refusals.{uses}
use Rattle.cv_scene.specs.Reductions.{Reduction, is_coin, is_plain, sites}
use Rattle.cv_scene.specs.Apt.{IsIndexApt, are_cells_apt, is_cell_apt}
use Rattle.cv_match_laws.proofs.names.Plain.{not_plain}
use Rattle.cv_context.specs.indices.Indices.{binds_new_index, indices_use_none}
use Rattle.cv_context_runs.proofs.instances.Outside.{unnamed_unused}
use Rattle.cv_context_runs.proofs.instances.Own.{unused_unread}

module _ (r : Reduction) where
  -- the tree uses no coin and has no answer
  pub record IsAway (t : Tree) : Type 0 where
    pub coins : (y : ℕ) → is_coin r y ≡ true → uses y t ≡ 0
    pub answers : (k : ℕ) → k < length (sites r) → uses (r.answer k) t ≡ 0

  -- a condition

  pub condition_apt : (t : Tree) → IsAway t → uses r.key t ≡ 0 → reads_only (is_plain r) t ≡ true
  condition_apt t o e = unused_unread (is_plain r) t (not_plain r (λ y. uses y t ≡ 0) e o.coins o.answers)

  -- cells

  name_apt : (x : ℕ) (t : Tree) → IsAway t → 0 < uses x t → (is_plain r x || (x == r.key)) ≡ true
  name_apt x t o used = go (is_plain r x) refl
    where
      P : ℕ → Type 0
      P y = y ≡ x → (x == r.key) ≡ true

      none : (y : ℕ) → uses y t ≡ 0 → P y
      none y e i = absurd (let z : uses x t ≡ 0 = ap (λ n. uses n t) (sym i) ∙ e in omega arith)

      go : (c : Bool) → is_plain r x ≡ c → (c || (x == r.key)) ≡ true
      go true e = refl
      go false e = not_plain r P (λ i. eq-eqb x r.key (sym i)) (λ y c. none y (o.coins y c)) (λ k l. none (r.answer k) (o.answers k l)) x e refl

  leaf_used : (x : ℕ) (a b : Tree) → 0 < uses x (Node (Leaf x) a b)
  unfolding uses
  leaf_used x a b = subst (λ c. 0 < cond c 1 0 + (uses x a + uses x b)) (sym (eq-eqb x x refl)) (omega arith)

  read_used : (x : ℕ) (a b : Tree) → 0 < uses x (Node (Read x) a b)
  unfolding uses
  read_used x a b = subst (λ c. 0 < cond c 1 0 + (uses x a + uses x b)) (sym (eq-eqb x x refl)) (omega arith)

  pub parts_away : (t a b : Tree) → ((y : ℕ) → uses y a + uses y b ≤ uses y t) → IsAway t → IsAway a × IsAway b
  parts_away t a b l o = (
    record { coins = λ y c. let m = l y in let e = o.coins y c in omega arith; answers = λ k c. let m = l (r.answer k) in let e = o.answers k c in omega arith },
    record { coins = λ y c. let m = l y in let e = o.coins y c in omega arith; answers = λ k c. let m = l (r.answer k) in let e = o.answers k c in omega arith },
  )

  one_apt : (t : Tree) → is_phrase OneCell t ≡ true → IsAway t → indices_use_none r.key t ≡ true → is_cell_apt r t ≡ true
  unfolding uses indices_use_none
  one_apt (Node (Leaf x) a b) p o e = name_apt x (Node (Leaf x) a b) o (leaf_used x a b)
  one_apt (Node (Read x) a b) p o e =
      and_from (is_plain r x || (x == r.key)) (reads_only (is_plain r) a) (name_apt x (Node (Read x) a b) o (read_used x a b))
      (condition_apt a (parts_away (Node (Read x) a b) a b (λ y. omega arith) o).0 (eqb-true (uses r.key a) 0 (and_parts (uses r.key a == 0) _ e).0))
  one_apt t p o e = refl

  pub cells_apt : (t : Tree) → is_phrase Cells t ≡ true → IsAway t → indices_use_none r.key t ≡ true → are_cells_apt r t ≡ true
  unfolding is_phrase uses indices_use_none are_cells_apt
  cells_apt Empty p o e = refl
  cells_apt (Node Cons a b) p o e =
      let q = and_parts (is_phrase OneCell a) _ p in
      let f = and_parts (indices_use_none r.key a) (indices_use_none r.key b) e in
      let g = parts_away (Node Cons a b) a b (λ y. omega arith) o in
      and_from (is_cell_apt r a) (are_cells_apt r b) (one_apt a q.0 g.0 f.0) (cells_apt b q.1 g.1 f.1)
  cells_apt (Node h a b) p o e = absurd (both_ways false refl p)

  -- the index of a replication

  swapped : (a b : ℕ) → (a == b) ≡ false → (b == a) ≡ false
  swapped a b d = grind arith

  module _ (key_variable : is_variable r.scene.game r.key ≡ true) (coin_variable : (y : ℕ) → is_coin r y ≡ true → is_variable r.scene.game y ≡ true) where
    pub index_apt : (rs : List (ℕ × ℕ)) (i m : ℕ) (a b : Tree) → binds_new_index (is_variable r.scene.game) rs (Repl i m) ≡ true → head_binds_none (is_constant_of r.scene.declarations) (Repl i m) ≡ true
        → ((k : ℕ) → k < length (sites r) → names (r.answer k) (Node (Repl i m) a b) ≡ false) → IsIndexApt r rs i
    unfolding names
    index_apt rs i m a b new constant answers =
        let n = and_parts (not (is_index rs i)) _ new in
        record { above = not-true (is_index rs i) n.0; constant = not-true (is_constant_of r.scene.declarations i) constant; plain = go (not-true (is_variable r.scene.game i) n.1) (is_plain r i) refl }
      where
        named : (x : ℕ) → names x (Node (Repl i m) a b) ≡ false → (x == i) ≡ false
        named x e = swapped i x (first_false (i == x) (names x a || names x b) e)
          where
            first_false : (c d : Bool) → (c || d) ≡ false → c ≡ false
            first_false true d e = absurd (both_ways true e refl)
            first_false false d e = refl

        apart : is_variable r.scene.game i ≡ false → (y : ℕ) → is_variable r.scene.game y ≡ true → (y == i) ≡ false
        apart v y u = go (y == i) refl
          where
            go : (c : Bool) → (y == i) ≡ c → c ≡ false
            go true j = absurd (both_ways (is_variable r.scene.game i) v (ap (is_variable r.scene.game) (sym (eqb-true y i j)) ∙ u))
            go false j = refl

        go : is_variable r.scene.game i ≡ false → (c : Bool) → is_plain r i ≡ c → c ≡ true
        go v true e = refl
        go v false e = absurd (both_ways _ (not_plain r (λ y. (y == i) ≡ false) (apart v r.key key_variable) (λ y c. apart v y (coin_variable y c)) (λ k l. named (r.answer k) (answers k l)) i e) (eq-eqb i i refl))
