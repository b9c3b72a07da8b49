-- One step down to a place, by the children that the code finds.
use Rattle.std.proofs.Common.{◌≡◌, ℕ, ◌-◌, ◌<◌, ◌≤◌, Bool, true, false, ◌&&◌, not, List, sym, ap, ap₂, subst, ◌∙◌, arith}
use Rattle.cv_pool.specs.KindTree.{KindTree}
use Rattle.cv_syntax_trees.specs.Tree.{Node}
use Rattle.cv_syntax.specs.PoolTrees.{tree_at}
use Rattle.cv_syntax.specs.declared.open.Opened.{Opened}
use Rattle.cv_scene.specs.Late.{is_defined_above, is_defined_in, is_free_beside}
use Rattle.cv_settling_lateness.specs.Defining.{has_within}
use Rattle.cv_settling_lateness.specs.Standing.{IsCountable, Leads, Stands, children_in, way_if}
use Rattle.cv_settling_lateness.specs.declared.definitions.Definition.{Definition}
use Rattle.cv_settling_lateness.specs.declared.lateness.Way.{Way}
use Rattle.cv_settling_lateness.specs.declared.lateness.Way.TheVariants.{Ends, Goes}
use Rattle.cv_settling_lateness.specs.declared.sizes.Children.{Children}
use Rattle.cv_settling_lateness.specs.declared.sizes.Stretch.{Stretch}
use Rattle.cv_settling_lateness.proofs.Descending.{first_defined, late_here, leads_behind, leads_within, second_defined, sum}

module _ (trees : List KindTree) (ds : List Definition) (place : ℕ) (here : Stretch) (o : Opened) (is : tree_at trees here.at ≡ Node o.head (tree_at trees o.first) (tree_at trees o.second)) (st : Stands trees ds place here) (k : Children) (eq : k ≡ children_in trees o here) (x : ℕ) where
  pub countable : IsCountable (tree_at trees o.second)
  countable = let s = sum trees ds place here o is st.takes in let f = st.takes.few in omega arith

  pub first_beside : has_within x k.first.from k.first.to ds ≡ is_defined_in x (tree_at trees o.first)
  first_beside = ap (λ c. has_within x c.first.from c.first.to ds) eq ∙ first_defined trees ds place here o is st x

  pub second_beside : has_within x k.second.from k.second.to ds ≡ is_defined_in x (tree_at trees o.second)
  second_beside = ap (λ c. has_within x c.second.from c.second.to ds) eq ∙ second_defined trees ds place here o is st x

  pub ends : place < k.first.from → Leads trees ds x place here (Ends true)
  ends l = late_here trees ds place here o is st x (subst (λ c. place < c.first.from) eq l)

  pub into_second : k.second.from ≤ place → (w : Way)
      → w ≡ way_if (not (is_defined_above x o.head (tree_at trees o.first) (tree_at trees o.second) (place - k.second.from)) && is_free_beside x o.head (tree_at trees o.first)) k.second → Leads trees ds x place here w
  into_second l w e =
      subst (Leads trees ds x place here)
      (sym (e ∙ ap (λ c. way_if (not (is_defined_above x o.head (tree_at trees o.first) (tree_at trees o.second) (place - c.second.from)) && is_free_beside x o.head (tree_at trees o.first)) c.second) eq))
      (leads_behind trees ds place here o is st x (subst (λ c. c.second.from ≤ place) eq l))

  module _ (l : k.first.from ≤ place) (m : place < k.second.from) (r : Bool) (e : r ≡ is_free_beside x o.head (tree_at trees o.second)) where
    whole : Leads trees ds x place here (way_if r k.first)
    whole =
        subst (Leads trees ds x place here) (sym (ap₂ (λ b c. way_if b c.first) e eq))
        (leads_within trees ds place here o is st x (subst (λ c. c.first.from ≤ place) eq l) (subst (λ c. place < c.second.from) eq m))

    pub into_first : r ≡ true → Leads trees ds x place here (Goes k.first)
    into_first t = subst (λ b. Leads trees ds x place here (way_if b k.first)) t whole

    pub not_first : r ≡ false → Leads trees ds x place here (Ends false)
    not_first t = subst (λ b. Leads trees ds x place here (way_if b k.first)) t whole
