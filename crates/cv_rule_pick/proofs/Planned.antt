-- What the code's plan says of the step.
use Rattle.std.proofs.Common.{◌≡◌, ℕ, ◌+◌, ◌<◌, ◌≤◌, ◌&&◌, not, Bool, true, false, cond, List, [], ◌∷◌, length, map, Option, Some, None, refl, sym, ap, ap₂, ◌∙◌, arith}
use Rattle.cv_pool.specs.KindTree.{KindTree}
use Rattle.cv_syntax_trees.specs.Tree.{Tree, Empty, size}
use Rattle.cv_syntax.specs.PoolTrees.{tree_at}
use Rattle.cv_scope_rules.specs.Context.{cells_of, items}
use Rattle.cv_scope_rules.specs.Made.{is_own_at}
use Rattle.cv_scene.specs.lines.Ends.{ends_with, is_end}
use Rattle.cv_scene.specs.lines.Lines.{Statement, lines_of, statements}
use Rattle.cv_scene.specs.Derivations.{first_bad_line}
use Rattle.cv_scene.specs.Scenes.{Scene, has_place, part_at}
use Rattle.cv_scene.specs.Sights.{sight_at}
use Rattle.cv_scene.specs.Terms.{replications_at}
use Rattle.cv_steps.specs.Changes.{change_at}
use Rattle.cv_steps.specs.Rows.{unless, unless_at}
use Rattle.cv_steps.specs.Steps.{Leads, Row, Zero}
use Rattle.cv_edit_places.specs.Parts.{AreLive, made_by, stack_of, top_of}
use Rattle.cv_edit_places.specs.Plans.{IsChange, failed, failing, failure_of}
use Rattle.cv_edit_places.specs.declared.change.Change.TheVariants.{Built}
use Rattle.cv_edit_places.specs.declared.parts.Parts.{Parts}
use Rattle.cv_costs.specs.names.Naming.{first_naming, is_one_queried}
use Rattle.cv_rule_pick.specs.Looks.{arm_of, first_elsewhere, is_passed_by}
use Rattle.cv_rule_pick.specs.Needs.{made_by_arm, made_of_pick, made_with}
use Rattle.cv_rule_pick.specs.Picking.{Arm, are_indices_at, are_terms_at, arm_place, behind_arm, body_place, equations, first_listed, guards, guards_with, is_inside, lesser, only_arm, own_cells, with_terms}
use Rattle.cv_rule_pick.specs.Row.{first_other, pick_row, pick_row_by, pick_step}
use Rattle.cv_rule_pick.specs.Stages.{IsGiven, derived_row, named_row}
use Rattle.cv_rule_pick.specs.Wanted.{given_cells, put}
use Rattle.cv_rule_pick.specs.declared.branches.OnlyBranch.{OnlyBranch}
use Rattle.cv_rule_pick.specs.declared.targets.Given.{Given}
use Rattle.cv_rule_pick.proofs.Elsewhere.{elsewhere_is}
use Rattle.cv_rule_pick.proofs.Sizes.{arm_size, part_small, terms_small, with_small}

-- sizes

module _ (trees : List KindTree) (s : Scene) (p : ℕ) (b : OnlyBranch) (g : Given) (k : IsGiven trees s p b g) (small : size s.game ≤ 50000) where
  pub arm_fits : p + 2 + size (tree_at trees b.binders) + size (tree_at trees b.cells) + size (tree_at trees b.condition) + size (tree_at trees b.body) ≤ 100000
  arm_fits = omega (arith, k.there, small, part_small s.game p, arm_size (part_at s.game p) (arm_of trees b) k.arm)

  pub cells_are : given_cells trees g ≡ own_cells s p (arm_of trees b)
  cells_are = ap₂ (λ rs o. cells_of rs (tree_at trees o)) k.replications k.binders

  pub equations_are : (ms : Tree) → statements (lines_of (equations (cells_of g.replications.now (tree_at trees b.binders)) ms)) ≡ statements (lines_of (equations (own_cells s p (arm_of trees b)) ms))
  equations_are ms = ap (λ rs. statements (lines_of (equations (cells_of rs (tree_at trees b.binders)) ms))) k.replications

  pub guards_are : statements (lines_of (guards (map (put trees g) (items (tree_at trees b.cells))) (put trees g (tree_at trees b.condition)))) ≡ statements (lines_of (guards_with (own_cells s p (arm_of trees b)) (tree_at trees g.terms) (arm_of trees b)))
  guards_are = ap (λ cs. statements (lines_of (guards_with cs (tree_at trees g.terms) (arm_of trees b)))) cells_are

-- derivations

pub ends_so : {A B : Type 0} (S : A → Statement) (W : B → Statement) (xs ts : List A) (ys us : List B) (by targets : Tree) (v : Bool) → v ≡ is_end (map S xs) (map W ys) → xs ≡ ts → ys ≡ us → map S ts ≡ statements (lines_of by) → map W us ≡ statements (lines_of targets) → ends_with by targets ≡ v
ends_so S W xs ts ys us by targets v e f g h i = sym (e ∙ ap₂ is_end (ap (map S) f ∙ h) (ap (map W) g ∙ i))

module _ (s : Scene) (p : ℕ) (ms d e : Tree) (a : Arm) (x : first_bad_line (sight_at s (body_place p a)) d ≡ None) (y : ends_with d (equations (own_cells s p a) ms) ≡ true) (z : first_bad_line (sight_at s p) e ≡ None) where
  pub derived_is : (v : Bool) → ends_with e (guards_with (own_cells s p a) ms a) ≡ v → (rest : Row) → derived_row s p ms d e a rest ≡ unless v 5 0 rest
  derived_is v w rest = λ i. unless_at 2 (x i) (unless (y i) 3 0 (unless_at 4 (z i) (unless (w i) 5 0 rest)))

-- names

module _ (s : Scene) (p : ℕ) (a : Arm) (xs : ℕ → Bool) (e : xs ≡ is_own_at (part_at s.game p)) where
  pub named_in_query : (v : Bool) → v ≡ is_one_queried s xs → v ≡ true → (rest : Row) → failing (named_row s p a rest) ≡ Some (failed 6 0)
  named_in_query v f g rest = ap (λ w. failing (unless (not w) 6 0 (unless_at 6 (first_other s p a) rest))) (sym (ap (is_one_queried s) e) ∙ (sym f ∙ g))

  pub named_is : (v : Bool) → v ≡ is_one_queried s xs → v ≡ false → (o : Option ℕ) → first_other s p a ≡ o → (rest : Row) → named_row s p a rest ≡ unless_at 6 o rest
  named_is v f g o h rest = λ i. unless (not ((sym (ap (is_one_queried s) e) ∙ (sym f ∙ g)) i)) 6 0 (unless_at 6 (h i) rest)

  pub others_are : (rs : List (ℕ × ℕ)) (r : ℕ) → rs ≡ replications_at s p → r ≡ behind_arm p a → lesser (first_elsewhere xs (is_passed_by (cells_of rs a.binders) (arm_place p) r) 0 s.game) (first_listed xs 0 s.game) ≡ first_other s p a
  others_are rs r f h =
      ap (λ o. lesser o (first_listed xs 0 s.game)) (elsewhere_is xs s.game (cells_of rs a.binders) (arm_place p) r)
      ∙ (λ i. lesser (first_naming (e i) (is_inside s.game (cells_of (f i) a.binders) (arm_place p) (h i)) 0 s.game) (first_listed (e i) 0 s.game))

-- the whole row

module _ (s : Scene) (p : ℕ) (ms d e : Tree) (u v : Bool) (there : u ≡ has_place s p) (is : u ≡ true) (terms : v ≡ are_terms_at s p ms) (are : v ≡ true) where
  stands : (has_place s p && are_terms_at s p ms) ≡ true
  stands = ap₂ (λ x y. x && y) (sym there ∙ is) (sym terms ∙ are)

  pub none_there : part_at s.game p ≡ Empty → failure_of s (pick_step p ms d e) ≡ Some (failed 1 0)
  none_there f = ap (λ w. cond w (failing (pick_row s p ms d e)) (Some (failed 0 0))) stands ∙ ap (λ t. failing (pick_row_by s p ms d e (only_arm t))) f

  module _ (a : Arm) (arm : only_arm (part_at s.game p) ≡ Some a) (indices : are_indices_at s p a.binders ms ≡ true) (derived : (rest : Row) → derived_row s p ms d e a rest ≡ rest) (named : (rest : Row) → named_row s p a rest ≡ rest) where
    leads : pick_row s p ms d e ≡ Leads (change_at s.game p (λ old. with_terms (own_cells s p a) ms a.body)) Zero
    leads =
        let last : Row = Leads (change_at s.game p (λ old. with_terms (own_cells s p a) ms a.body)) Zero in
        ap (pick_row_by s p ms d e) arm ∙ (ap (λ w. unless w 1 0 (derived_row s p ms d e a (named_row s p a last))) indices ∙ (derived (named_row s p a last) ∙ named last))

    pub planned : (trees : List KindTree) (parts : Parts) → size s.game ≤ 50000 → p < size s.game → stack_of trees parts ≡ with_terms (own_cells s p a) ms a.body ∷ [] → made_by parts ≡ made_with (own_cells s p a) ms a.body → AreLive (length trees) parts
        → IsChange trees s (pick_step p ms d e) p (made_of_pick p ms s.game) (Built parts)
    planned trees parts small within stack made live = record {
      met = ap (λ w. cond w (failing (pick_row s p ms d e)) (Some (failed 0 0))) stands ∙ ap failing leads;
      leads = leads ∙ ap (λ t. Leads (change_at s.game p (λ old. t)) Zero) (sym (ap top_of stack));
      made = made ∙ sym (ap (made_by_arm s.game p ms) arm);
      live = (live, ap length stack);
      fits =
          let below = with_small (replications_at s p) a.binders ms a.body (terms_small s p a.binders ms small (sym terms ∙ are) indices) in
          let whole = arm_size (part_at s.game p) a arm in
          omega (arith, small, below, whole, part_small s.game p, ap (λ t. size (top_of t)) stack);
      there = within;
    }
