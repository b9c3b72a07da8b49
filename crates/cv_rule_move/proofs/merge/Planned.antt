-- What the code's plan says of the step.
use Rattle.std.proofs.Common.{◌≡◌, ℕ, ◌+◌, ◌≤◌, ◌||◌, Bool, true, false, cond, not, List, [], ◌∷◌, Option, Some, None, refl, sym, ap, ap₂, subst, ◌∙◌, arith, lt-ltb}
use Rattle.std.specs.List.{AllByRecursion}
use Rattle.cv_pool.specs.KindTree.{KindTree}
use Rattle.cv_syntax_trees.specs.Children.{is_empty}
use Rattle.cv_syntax_trees.specs.declared.head.Head.TheVariants.{Branch, Cons, Find, If}
use Rattle.cv_syntax_trees.specs.Tree.{Tree, Empty, Node, first, first_place, second, second_place, size, subtree}
use Rattle.cv_syntax_trees.proofs.Equality.{same_tree_self}
use Rattle.cv_scope_rules.specs.Made.{is_own_at}
use Rattle.cv_scene.specs.Scenes.{Scene, has_place, or_empty, part_at}
use Rattle.cv_edit_places.specs.declared.change.Change.TheVariants.{Replace}
use Rattle.cv_edit_places.specs.declared.plan.Failure.{Failure}
use Rattle.cv_edit_places.specs.Plans.{IsChange, failed, failing, failure_of}
use Rattle.cv_path.proofs.extents.Extents.{size_part}
use Rattle.cv_steps.specs.Changes.{change_at}
use Rattle.cv_steps.specs.Rows.{unless, unless_at}
use Rattle.cv_steps.specs.Steps.{Leads, Row, Zero}
use Rattle.cv_rule_move.specs.declared.merge.naming.Skip.{Skip}
use Rattle.cv_rule_move.specs.declared.merge.planning.Site.{Site}
use Rattle.cv_rule_move.specs.merge.Looks.{first_besides, first_in, is_skipped}
use Rattle.cv_rule_move.specs.merge.Merging.{Body, bodies, branch_bodies, first_other, is_beside}
use Rattle.cv_costs.specs.names.Naming.{first_naming, is_between, is_one_queried}
use Rattle.cv_rule_move.specs.merge.Row.{merge_row, merge_row_by, merge_step}
use Rattle.cv_rule_move.specs.merge.Site.{IsSite, body_of}
use Rattle.cv_syntax_trees.proofs.lists.Each.{AllByRecursion_append}

-- where the index variables are named besides

module _ (s : Scene) (t : Tree) (xs : ℕ → Bool) (skip : ℕ → Bool) (e : xs ≡ is_own_at t) where
  besides : first_besides s t skip ≡ cond (is_one_queried s xs) (Some 0) (first_naming xs skip 0 s.game)
  besides = ap (λ ys. cond (is_one_queried s ys) (Some 0) (first_naming ys skip 0 s.game)) (sym e)

  pub in_query : (v : Bool) → v ≡ is_one_queried s xs → v ≡ true → Some 0 ≡ first_besides s t skip
  in_query v f g = sym (besides ∙ ap (λ w. cond w (Some 0) (first_naming xs skip 0 s.game)) (sym f ∙ g))

  pub in_game : (v : Bool) (o : Option ℕ) → v ≡ is_one_queried s xs → v ≡ false → first_naming xs skip 0 s.game ≡ o → o ≡ first_besides s t skip
  in_game v o f g h = sym (besides ∙ (ap (λ w. cond w (Some 0) (first_naming xs skip 0 s.game)) (sym f ∙ g) ∙ h))

-- the places that the code passes over are those beside the body
pub skip_beside : (p : ℕ) (t : Tree) (b : Body) (c : Skip) → c.from ≡ p → c.body ≡ b.place → c.behind_body ≡ b.place + size b.process → c.behind ≡ p + size t → is_skipped c ≡ is_beside p t b
skip_beside p t b c e f g h = λ i q. is_between (e i) (f i) q || is_between (g i) (h i) q

-- the row of a construct with a first body

asked_first : (q : Bool) (o : Option ℕ) (r : Row) → unless (not q) 3 0 (unless_at 3 o r) ≡ unless_at 3 (cond q (Some 0) o) r
asked_first true o r = refl
asked_first false o r = refl

module _ (s : Scene) (p : ℕ) where
  abbrev old : Tree
  old = part_at s.game p

  abbrev leads : Body → Row
  leads b = Leads (change_at s.game p (λ t. b.process)) Zero

  abbrev row : Body → List Body → Row
  row b bs = unless (not (is_empty b.process)) 1 0 (unless_at 2 (first_other b.process bs) (unless_at 3 (first_besides s old (is_beside p old b)) (leads b)))

  by_first : (b : Body) (others : List Body) → merge_row_by s p old (b ∷ others) ≡ row b (b ∷ others)
  by_first b others =
      ap₂ (λ (v : Option ℕ) (r : Row). unless (not (is_empty b.process)) 1 0 (unless_at 2 v r))
      (sym (ap (λ w. cond w (first_other b.process others) (Some b.place)) (same_tree_self b.process)))
      (asked_first (is_one_queried s (is_own_at old)) (first_naming (is_own_at old) (is_beside p old b) 0 s.game) (leads b))

  row_is : (b : Body) → first_in (bodies p old) ≡ Some b → merge_row s p ≡ row b (bodies p old)
  row_is b e = go (bodies p old) e
    where
      go : (bs : List Body) → first_in bs ≡ Some b → merge_row_by s p old bs ≡ row b bs
      go [] e = absurd (cc)
      go (c ∷ others) e = let k : c ≡ b = cc in by_first c others ∙ ap (λ d. row d (c ∷ others)) k

  no_body : first_in (bodies p old) ≡ None → failing (merge_row s p) ≡ Some (failed 1 0)
  no_body e = go (bodies p old) e
    where
      go : (bs : List Body) → first_in bs ≡ None → failing (merge_row_by s p old bs) ≡ Some (failed 1 0)
      go [] e = refl
      go (c ∷ others) e = absurd (cc)

  -- what the code answers

  pub not_there : (v : Bool) → v ≡ has_place s p → v ≡ false → failure_of s (merge_step p) ≡ Some (failed 0 0)
  not_there v e f = ap (λ w. cond w (failing (merge_row s p)) (Some (failed 0 0))) (sym e ∙ f)

  module _ (v : Bool) (e : v ≡ has_place s p) (f : v ≡ true) where
    there : failure_of s (merge_step p) ≡ failing (merge_row s p)
    there = ap (λ w. cond w (failing (merge_row s p)) (Some (failed 0 0))) (sym e ∙ f)

    pub none_there : first_in (bodies p old) ≡ None → failure_of s (merge_step p) ≡ Some (failed 1 0)
    none_there k = there ∙ no_body k

    pub empty_there : (b : Body) → first_in (bodies p old) ≡ Some b → b.process ≡ Empty → failure_of s (merge_step p) ≡ Some (failed 1 0)
    empty_there b k n =
        there ∙ (ap failing (row_is b k)
        ∙ ap (λ t. failing (unless (not (is_empty t)) 1 0 (unless_at 2 (first_other b.process (bodies p old)) (unless_at 3 (first_besides s old (is_beside p old b)) (leads b))))) n)

    pub other_there : (b : Body) (q : ℕ) → first_in (bodies p old) ≡ Some b → is_empty b.process ≡ false → first_other b.process (bodies p old) ≡ Some q → failure_of s (merge_step p) ≡ Some (failed 2 q)
    other_there b q k n o =
        there ∙ (ap failing (row_is b k)
        ∙ ap₂ (λ (w : Bool) (r : Option ℕ). failing (unless (not w) 1 0 (unless_at 2 r (unless_at 3 (first_besides s old (is_beside p old b)) (leads b))))) n o)

-- sizes

pub part_small : (t : Tree) (p : ℕ) → size (part_at t p) ≤ size t
unfolding size
part_small t p = go (subtree t p) refl
  where
    go : (o : Option Tree) → subtree t p ≡ o → size (or_empty o) ≤ size t
    go None e = omega arith
    go (Some x) e = size_part t p x e

-- bodies stand in their construct

rest_small : (t : Tree) → size (first t) + size (first (second t)) + size (second (second t)) ≤ size t
unfolding size
rest_small Empty = omega arith
rest_small (Node h a Empty) = omega arith
rest_small (Node h a (Node k b c)) = omega arith

abbrev AreWithin : ℕ → List Body → Type 0
AreWithin n bs = AllByRecursion (λ (b : Body). b.place + size b.process ≤ n) bs

branches_within : (n p : ℕ) (t : Tree) → p + size t ≤ n → AreWithin n (branch_bodies p t)
unfolding size
branches_within n p (Node Cons (Node Branch us rest) more) l = (omega (arith, l, rest_small rest), branches_within n (second_place p Cons (Node Branch us rest)) more (omega (arith, l)))
branches_within n p t l = tt

bodies_within : (p : ℕ) (t : Tree) → AreWithin (p + size t) (bodies p t)
unfolding size
bodies_within p (Node If c rest) = (omega (arith, rest_small rest), (omega (arith, rest_small rest), tt))
bodies_within p (Node (Find l) branches otherwise) =
    AllByRecursion_append (λ (b : Body). b.place + size b.process ≤ p + size (Node (Find l) branches otherwise)) (branch_bodies (first_place p (Find l)) branches) _
    (branches_within _ (first_place p (Find l)) branches (omega arith)) (omega arith, tt)
bodies_within p t = tt

pub body_within : (p : ℕ) (t : Tree) (b : Body) → first_in (bodies p t) ≡ Some b → b.place + size b.process ≤ p + size t
body_within p t b e = go (bodies p t) e (bodies_within p t)
  where
    go : (bs : List Body) → first_in bs ≡ Some b → AreWithin (p + size t) bs → b.place + size b.process ≤ p + size t
    go [] e k = absurd (cc)
    go (c ∷ bs) e k = let j : c ≡ b = cc in subst (λ (d : Body). d.place + size d.process ≤ p + size t) j k.0

-- a construct that is found

module _ (trees : List KindTree) (s : Scene) (p : ℕ) (m : Site) (i : IsSite trees s p m) where
  site_row : merge_row s p ≡ unless_at 3 (first_besides s (part_at s.game p) (is_beside p (part_at s.game p) (body_of trees m))) (leads s p (body_of trees m))
  site_row =
      row_is s p (body_of trees m) i.body
      ∙ ap₂ (λ (w : Bool) (r : Option ℕ). unless (not w) 1 0 (unless_at 2 r (unless_at 3 (first_besides s (part_at s.game p) (is_beside p (part_at s.game p) (body_of trees m))) (leads s p (body_of trees m))))) i.full i.equal

  stands_there : has_place s p ≡ true
  stands_there = lt-ltb p (size s.game) i.there

  pub naming_there : (o : Option ℕ) (q : ℕ) (f : Failure) → o ≡ first_besides s (part_at s.game p) (is_beside p (part_at s.game p) (body_of trees m)) → o ≡ Some q → f ≡ failed 3 q → failure_of s (merge_step p) ≡ Some f
  naming_there o q f k l e = there s p (has_place s p) refl stands_there ∙ (ap failing site_row ∙ (ap (λ r. failing (unless_at 3 r (leads s p (body_of trees m)))) (sym k ∙ l) ∙ ap Some (sym e)))

  pub planned_change : (o : Option ℕ) → size s.game ≤ 50000 → o ≡ first_besides s (part_at s.game p) (is_beside p (part_at s.game p) (body_of trees m)) → o ≡ None → IsChange trees s (merge_step p) p 0 (Replace m.process)
  planned_change o l f g =
      let k = site_row ∙ ap (λ r. unless_at 3 r (leads s p (body_of trees m))) (sym f ∙ g) in
      record {
        met = there s p (has_place s p) refl stands_there ∙ ap failing k;
        leads = k;
        made = refl;
        live = i.live;
        fits = omega (arith, l, i.there, body_within p (part_at s.game p) (body_of trees m) i.body, part_small s.game p);
        there = i.there;
      }
