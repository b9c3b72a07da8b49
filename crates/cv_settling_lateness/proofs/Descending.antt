-- The walk down to a place, step by step.
use Rattle.std.proofs.Common.{◌≡◌, ℕ, ◌+◌, ◌-◌, ◌<◌, ◌≤◌, Bool, true, false, cond, ◌&&◌, not, nat_lt, List, Some, refl, sym, ap, ap₂, ◌∙◌, arith, le-ltb, lt-ltb}
use Rattle.std.proofs.lemmas.List.Sorted.{list_any-IsPermutation}
use Rattle.cv_pool.specs.KindTree.{KindTree}
use Rattle.cv_pool.specs.Nodes.{ChildBelow}
use Rattle.cv_pool.specs.declared.node.NodeId.{NodeId}
use Rattle.cv_syntax_trees.specs.declared.head.Head.{Head}
use Rattle.cv_syntax_trees.specs.declared.head.Head.TheVariants.{Branch}
use Rattle.cv_syntax_trees.specs.Head.{weight}
use Rattle.cv_syntax_trees.specs.Tree.{Tree, Empty, Node, size}
use Rattle.cv_syntax.specs.PoolTrees.{tree_at}
use Rattle.cv_syntax.specs.declared.open.Opened.{Opened}
use Rattle.cv_syntax.proofs.Walking.{size_node}
use Rattle.cv_scope_rules.specs.Made.{made_by}
use Rattle.cv_scope_rules.specs.Sites.{Variable}
use Rattle.cv_scene.specs.Late.{guards, is_defined_above, is_defined_in, is_free_beside, is_late}
use Rattle.cv_settling_lateness.specs.Defining.{definitions, has_within, is_within}
use Rattle.cv_settling_lateness.specs.Standing.{IsLateness, IsWayBelow, Leads, Stands, Takes, is_behind_guards, is_late_there, way_if}
use Rattle.cv_settling_lateness.specs.declared.definitions.Definition.{Definition}
use Rattle.cv_settling_lateness.specs.declared.lateness.Lateness.{Lateness}
use Rattle.cv_settling_lateness.specs.declared.lateness.Way.TheVariants.{Ends, Goes}
use Rattle.cv_settling_lateness.specs.declared.sizes.Stretch.{Stretch}
use Rattle.cv_settling_lateness.proofs.Between.{of_first, of_second, tree_inside}

-- the whole game

pub whole_stands : (trees : List KindTree) (game : NodeId) (l : Lateness) (place : ℕ) → IsLateness trees game l → Stands trees l.definitions.list.items place (record { at = Some l.game; from = 0; to = l.total })
whole_stands trees game l place is = record {
  takes = record {
    ends = let e : size (tree_at trees (Some l.game)) ≡ size (tree_at trees (Some game)) = ap (λ n. size (tree_at trees (Some n))) is.root in let t = is.total in omega arith;
    few = let f = is.few in let t = is.total in omega arith;
  };
  begun = omega arith;
  within = λ x low high a b. sym (list_any-IsPermutation (is_within x low high) _ _ is.noted) ∙ ap (λ n. has_within x low high (definitions 0 (tree_at trees (Some n)))) (sym is.root);
}

-- a node that takes these places, and its children

module _ (trees : List KindTree) (ds : List Definition) (place : ℕ) (here : Stretch) (o : Opened) (is : tree_at trees here.at ≡ Node o.head (tree_at trees o.first) (tree_at trees o.second)) where
  abbrev h : Head
  h = o.head

  abbrev a : Tree
  a = tree_at trees o.first

  abbrev b : Tree
  b = tree_at trees o.second

  abbrev below : ℕ
  below = here.from + weight h

  abbrev behind : ℕ
  behind = here.from + weight h + size a

  pub sum : Takes trees here → behind + size b ≡ here.to
  sum t = let s = size_node (tree_at trees here.at) h a b is in let e = t.ends in omega arith

  module _ (st : Stands trees ds place here) where
    inside : (x low high : ℕ) → here.from ≤ low → high ≤ here.to → has_within x low high ds ≡ has_within x low high (definitions here.from (Node h a b))
    inside x low high l m = st.within x low high l m ∙ ap (λ t. has_within x low high (definitions here.from t)) is

    pub first_defined : (x : ℕ) → has_within x below behind ds ≡ is_defined_in x a
    first_defined x =
        let s = sum st.takes in
        inside x below behind (omega arith) (omega arith)
        ∙ (of_first x below behind here.from h a b (omega arith) (omega arith)
        ∙ tree_inside x below behind below a (omega arith) (omega arith))

    pub second_defined : (x : ℕ) → has_within x behind here.to ds ≡ is_defined_in x b
    second_defined x =
        let s = sum st.takes in
        inside x behind here.to (omega arith) (omega arith)
        ∙ (of_second x behind here.to here.from h a b (omega arith)
        ∙ tree_inside x behind here.to behind b (omega arith) (omega arith))

    pub first_stands : below ≤ place → Stands trees ds place (record { at = o.first; from = below; to = behind })
    first_stands l = record {
      takes = record { ends = refl; few = let s = sum st.takes in let f = st.takes.few in omega arith };
      begun = l;
      within = λ x low high m n. let s = sum st.takes in inside x low high (omega arith) (omega arith) ∙ of_first x low high here.from h a b m n;
    }

    pub second_stands : behind ≤ place → Stands trees ds place (record { at = o.second; from = behind; to = here.to })
    second_stands l = record {
      takes = record { ends = sum st.takes; few = st.takes.few };
      begun = l;
      within = λ x low high m n. inside x low high (omega arith) n ∙ of_second x low high here.from h a b m;
    }

    -- where the place lies

    module _ (x : ℕ) where
      abbrev inner : ℕ → Bool
      inner n = is_free_beside x h b && is_late x a n

      abbrev after : ℕ → Bool
      after n = not (is_defined_above x h a b n) && (is_free_beside x h a && is_late x b n)

      abbrev p : ℕ
      p = place - here.from

      node : is_late_there trees x place here ≡ cond (nat_lt p (weight h)) true (cond (nat_lt p (weight h + size a)) (inner (p - weight h)) (after (p - (weight h + size a))))
      unfolding is_late
      node = ap (λ t. is_late x t p) is

      pub late_here : place < below → is_late_there trees x place here ≡ true
      late_here l = let m = st.begun in node ∙ ap (λ c. cond c true (cond (nat_lt p (weight h + size a)) (inner (p - weight h)) (after (p - (weight h + size a))))) (lt-ltb p (weight h) (omega arith))

      late_within : below ≤ place → place < behind → is_late_there trees x place here ≡ inner (place - below)
      late_within l m =
          let n = st.begun in
          node
          ∙ (ap₂ (λ c d. cond c true (cond d (inner (p - weight h)) (after (p - (weight h + size a))))) (le-ltb p (weight h) (omega arith)) (lt-ltb p (weight h + size a) (omega arith))
          ∙ ap inner (let e : p - weight h ≡ place - below = omega arith in e))

      late_behind : behind ≤ place → is_late_there trees x place here ≡ after (place - behind)
      late_behind l =
          let n = st.begun in
          node
          ∙ (ap₂ (λ c d. cond c true (cond d (inner (p - weight h)) (after (p - (weight h + size a))))) (le-ltb p (weight h) (omega arith)) (le-ltb p (weight h + size a) (omega arith))
          ∙ ap after (let e : p - (weight h + size a) ≡ place - behind = omega arith in e))

      pub leads_within : below ≤ place → place < behind → Leads trees ds x place here (way_if (is_free_beside x h b) (record { at = o.first; from = below; to = behind }))
      leads_within l m = go (is_free_beside x h b) (late_within l m)
        where
          go : (c : Bool) → is_late_there trees x place here ≡ (c && is_late x a (place - below)) → Leads trees ds x place here (way_if c (record { at = o.first; from = below; to = behind }))
          go true e = (first_stands l, e)
          go false e = e

      pub leads_behind : behind ≤ place → Leads trees ds x place here (way_if (not (is_defined_above x h a b (place - behind)) && is_free_beside x h a) (record { at = o.second; from = behind; to = here.to }))
      leads_behind l = go (not (is_defined_above x h a b (place - behind))) (is_free_beside x h a) (late_behind l)
        where
          go : (c d : Bool) → is_late_there trees x place here ≡ (c && (d && is_late x b (place - behind))) → Leads trees ds x place here (way_if (c && d) (record { at = o.second; from = behind; to = here.to }))
          go true true e = (second_stands l, e)
          go true false e = e
          go false d e = e

-- a node that defines the variable, above a place of its second child

and_true : (b : Bool) → (b && true) ≡ b
and_true true = refl
and_true false = refl

above_form : (x : ℕ) (h : Head) (a b : Tree) (p : ℕ) → (made_by h a (Variable x) && is_behind_guards h b p) ≡ is_defined_above x h a b p
above_form x Branch a b p = refl
above_form x h a b p = and_true (made_by h a (Variable x))

pub not_above : (x : ℕ) (h : Head) (a b : Tree) (p : ℕ) (c : Bool) → c ≡ made_by h a (Variable x) → c ≡ false → false ≡ is_defined_above x h a b p
not_above x h a b p c e f = sym (sym (above_form x h a b p) ∙ ap (λ d. d && is_behind_guards h b p) (sym e ∙ f))

pub above_there : (x : ℕ) (h : Head) (a b : Tree) (p : ℕ) (c d : Bool) → c ≡ made_by h a (Variable x) → c ≡ true → d ≡ is_behind_guards h b p → d ≡ is_defined_above x h a b p
above_there x h a b p c d e f g = g ∙ (ap (λ k. k && is_behind_guards h b p) (sym f ∙ e) ∙ above_form x h a b p)

-- the way goes into a child

pub way_below : (n : ℕ) (c : Bool) (s : Stretch) → ChildBelow n s.at → IsWayBelow n (way_if c s)
way_below n true s l = l
way_below n false s l = tt

pub late_nowhere : (x p : ℕ) (t : Tree) → t ≡ Empty → is_late x t p ≡ false
unfolding is_late
late_nowhere x p t e = ap (λ u. is_late x u p) e

pub whole_late : (trees : List KindTree) (game : NodeId) (l : Lateness) (x place : ℕ) → IsLateness trees game l → is_late_there trees x place (record { at = Some l.game; from = 0; to = l.total }) ≡ is_late x (tree_at trees (Some game)) place
whole_late trees game l x place is = ap₂ (λ n p. is_late x (tree_at trees (Some n)) p) is.root (let e : place - 0 ≡ place = omega arith in e)

-- the way into the second child

module _ (s : Stretch) (a f r : Bool) (e : r ≡ a) where
  pub stopped : r ≡ true → Ends false ≡ way_if (not a && f) s
  stopped t = ap (λ c. way_if (not c && f) s) (sym t ∙ e)

  pub free : (q : Bool) → r ≡ false → q ≡ f → q ≡ true → Goes s ≡ way_if (not a && f) s
  free q t g u = ap₂ (λ c d. way_if (not c && d) s) (sym t ∙ e) (sym u ∙ g)

  pub barred : (q : Bool) → r ≡ false → q ≡ f → q ≡ false → Ends false ≡ way_if (not a && f) s
  barred q t g u = ap₂ (λ c d. way_if (not c && d) s) (sym t ∙ e) (sym u ∙ g)

-- sizes of parts

pub guards_fit : (t : Tree) → guards t ≤ size t
unfolding size
guards_fit Empty = omega arith
guards_fit (Node h a Empty) = omega arith
guards_fit (Node h a (Node k c d)) = omega arith
