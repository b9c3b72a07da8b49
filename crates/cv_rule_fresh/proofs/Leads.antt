-- What follows of a row of `fresh` that leads to a game: no condition of it fails.
use Rattle.std.proofs.Common.{◌≡◌, ℕ, ◌&&◌, Bool, true, false, cond, List, ◌⊎◌, inl, inr, Option, Some, None, option_and_then, nat_lt, refl, subst}
use Rattle.std.proofs.lemmas.Bool.{and_parts}
use Rattle.cv_syntax_trees.specs.declared.head.Head.TheVariants.{Eq}
use Rattle.cv_syntax_trees.specs.Tree.{Tree, Node, same_tree}
use Rattle.cv_scene.specs.lines.Truths.{no}
use Rattle.cv_meaning.specs.Replaced.{replaced}
use Rattle.cv_scope_rules.specs.Context.{cell_of}
use Rattle.cv_scope_rules.specs.Phrases.{Inputs}
use Rattle.cv_scope_rules.proofs.Trees.{tree_same}
use Rattle.cv_scene.specs.Scenes.{Scene, part_at}
use Rattle.cv_scene.specs.Sights.{variable_of}
use Rattle.cv_scene.specs.Terms.{has_site, replications_at}
use Rattle.cv_steps.specs.Rewriting.{has_term_at}
use Rattle.cv_scene.specs.Large.{is_large}
use Rattle.cv_rule_fresh.specs.collisions.Choices.{Choice, choice_above, parameters_at}
use Rattle.cv_costs.specs.names.Reach.{is_in_scope_at}
use Rattle.cv_rule_fresh.specs.collisions.Equalities.{Equality, cell_variable, current_variable, sides_of}
use Rattle.cv_steps.specs.Steps.{Cost, Fails, Leads, Row}
use Rattle.cv_steps.proofs.Rows.{unless_leads}
use Rattle.cv_costs.specs.Collisions.{one_for_each}
use Rattle.cv_rule_fresh.specs.collisions.Fresh.{either, fresh_row, fresh_row_by, later, row_by_choice, row_by_side, row_by_variable}

-- one side reads a variable at the current indices, and the other is in scope at the `new` of it
pub record BySide (s : Scene) (place : ℕ) (side other next : Tree) (cost : Cost) : Type 0 where
  pub variable : ℕ
  pub choice : Choice
  pub site : has_site s.game variable ≡ true
  pub cell : side ≡ cell_of (replications_at s place) variable
  pub above : choice_above s.game variable place ≡ Some choice
  pub scope : is_in_scope_at s choice.place other ≡ true
  pub large : is_large s choice.type ≡ true
  pub leads : replaced s.game place no ≡ next
  pub priced : one_for_each s.declarations (parameters_at s choice.place) choice.type ≡ cost

-- so it is with an equality at the place, whichever side that is
pub record LeadsFresh (s : Scene) (place : ℕ) (next : Tree) (cost : Cost) : Type 0 where
  pub left : Tree
  pub right : Tree
  pub stands : has_term_at Inputs s.game place ≡ true
  pub part : part_at s.game place ≡ Node Eq left right
  pub by : BySide s place left right next cost ⊎ BySide s place right left next cost

record AreSame (a b : Tree) (c d : Cost) : Type 0 where
  next : a ≡ b
  cost : c ≡ d

leads_same : (a b : Tree) (c d : Cost) → Leads a c ≡ Leads b d → AreSame a b c d
leads_same a b c d e = record { next = cc; cost = cc }

-- the variable of a cell
current_cell : (game : Tree) (rs : List (ℕ × ℕ)) (m : Tree) (x : ℕ) → cell_variable game rs m ≡ Some x → (has_site game x ≡ true) × (m ≡ cell_of rs x)
current_cell game rs m x e = go (variable_of m) e
  where
    tested : (y : ℕ) (v : Bool) → (has_site game y && same_tree m (cell_of rs y)) ≡ v → cond v (Some y) None ≡ Some x → (has_site game x ≡ true) × (m ≡ cell_of rs x)
    tested y true f k =
        let i : y ≡ x = cc in
        let r = and_parts (has_site game y) _ f in
        subst (λ z. (has_site game z ≡ true) × (m ≡ cell_of rs z)) i (r.0, tree_same m (cell_of rs y) r.1)
    tested y false f k = absurd (cc)

    go : (o : Option ℕ) → option_and_then (λ y. cond (has_site game y && same_tree m (cell_of rs y)) (Some y) None) o ≡ Some x → (has_site game x ≡ true) × (m ≡ cell_of rs x)
    go None k = absurd (cc)
    go (Some y) k = tested y (has_site game y && same_tree m (cell_of rs y)) refl k

module _ (s : Scene) (p : ℕ) (next : Tree) (cost : Cost) where
  by_choice : (m other : Tree) (x : ℕ) → has_site s.game x ≡ true → m ≡ cell_of (replications_at s p) x → (o : Option Choice) → choice_above s.game x p ≡ o → row_by_choice s p other o ≡ Leads next cost → BySide s p m other next cost
  by_choice m other x h c None k e = absurd (cc)
  by_choice m other x h c (Some d) k e =
      let r = unless_leads (is_large s d.type) 2 0 _ next cost e in
      let q = unless_leads (is_in_scope_at s d.place other) 3 p _ next cost r.1 in
      let z = leads_same (replaced s.game p no) next (one_for_each s.declarations (parameters_at s d.place) d.type) cost q.1 in
      record { variable = x; choice = d; site = h; cell = c; above = k; scope = q.0; large = r.0; leads = z.next; priced = z.cost }

  by_variable : (m other : Tree) (o : Option ℕ) → current_variable s p m ≡ o → row_by_variable s p other o ≡ Leads next cost → BySide s p m other next cost
  by_variable m other None k e = absurd (cc)
  by_variable m other (Some x) k e =
      let r = current_cell s.game (replications_at s p) m x k in
      by_choice m other x r.0 r.1 (choice_above s.game x p) refl e

  by_side : (m other : Tree) → row_by_side s p m other ≡ Leads next cost → BySide s p m other next cost
  by_side m other e = by_variable m other (current_variable s p m) refl e

  later_fails : (c q d r : ℕ) → later c q (Fails d r) ≡ Leads next cost → ⊥
  later_fails c q d r e = go (nat_lt c d) e
    where
      go : (v : Bool) → cond v (Fails d r) (Fails c q) ≡ Leads next cost → ⊥
      go true k = cc
      go false k = cc

  either_leads : (u v : Row) → either u v ≡ Leads next cost → (u ≡ Leads next cost) ⊎ (v ≡ Leads next cost)
  either_leads (Leads n k) v e = inl e
  either_leads (Fails c q) (Leads n k) e = inr e
  either_leads (Fails c q) (Fails d r) e = absurd (later_fails c q d r e)

  sides_there : (t : Tree) (q : Equality) → sides_of t ≡ Some q → t ≡ Node Eq q.left q.right
  sides_there (Node Eq l r) q e = let i : record { left = l; right = r } ≡ q = cc in λ j. Node Eq (i j).left (i j).right
  sides_there t q e = absurd (cc)

  pub fresh_leads : fresh_row s p ≡ Leads next cost → LeadsFresh s p next cost
  fresh_leads e = at_term (has_term_at Inputs s.game p) refl e
    where
      at_equality : has_term_at Inputs s.game p ≡ true → (o : Option Equality) → sides_of (part_at s.game p) ≡ o → fresh_row_by s p o ≡ Leads next cost → LeadsFresh s p next cost
      at_equality h None k f = absurd (cc)
      at_equality h (Some q) k f = record { left = q.left; right = q.right; stands = h; part = sides_there (part_at s.game p) q k; by = go (either_leads (row_by_side s p q.left q.right) (row_by_side s p q.right q.left) f) }
        where
          go : (row_by_side s p q.left q.right ≡ Leads next cost) ⊎ (row_by_side s p q.right q.left ≡ Leads next cost) → BySide s p q.left q.right next cost ⊎ BySide s p q.right q.left next cost
          go (inl i) = inl (by_side q.left q.right i)
          go (inr i) = inr (by_side q.right q.left i)

      at_term : (v : Bool) → has_term_at Inputs s.game p ≡ v → fresh_row_by s p (cond v (sides_of (part_at s.game p)) None) ≡ Leads next cost → LeadsFresh s p next cost
      at_term true h f = at_equality h (sides_of (part_at s.game p)) refl f
      at_term false h f = absurd (cc)
