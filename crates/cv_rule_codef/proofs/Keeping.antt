-- An accepted step that adds a cell to a list or drops it keeps chances.
use Rattle.std.proofs.Common.{◌≡◌, ℕ, ◌+◌, ◌-◌, ◌&&◌, not, ◌==◌, Bool, true, false, cond, Option, Some, None, is_some, refl, sym, ap, ap₂, subst, ◌∙◌, nat_lt, eq-eqb}
use Rattle.std.proofs.lemmas.Bool.{both_ways, and_parts, false_from_ne_true, not-true}
use Rattle.std.proofs.lemmas.List.Elements.{All-from_recursion}
use Rattle.std.specs.List.{AllByRecursion}
use Rattle.cv_syntax_trees.specs.declared.head.Head.TheVariants.{Branch, Cons, Find, Leaf, Read}
use Rattle.cv_syntax_trees.specs.Head.{weight}
use Rattle.cv_syntax_trees.specs.Tree.{Tree, Empty, Node, first, same_tree, size, subtree}
use Rattle.cv_syntax_trees.proofs.Equality.{same_tree_exact}
use Rattle.cv_meaning.specs.Advantage.{chance_of}
use Rattle.cv_meaning.specs.Candidates.{are_assigned, is_assigned}
use Rattle.cv_meaning.specs.Cells.{cells as cells_of_game}
use Rattle.cv_meaning.specs.Chances.{Same}
use Rattle.cv_meaning.specs.Experiments.{mode_of, visits_of_run}
use Rattle.cv_meaning.specs.Interpretation.{Setting, setting_of}
use Rattle.cv_meaning.specs.Memory.{Indices, Local, Store}
use Rattle.cv_meaning.specs.Replaced.{replaced}
use Rattle.cv_meaning.specs.Serving.{Visit}
use Rattle.cv_meaning.specs.Tapes.{blank}
use Rattle.cv_meaning.specs.Terms.{values}
use Rattle.cv_meaning_laws.specs.adequacy.Counted.{tapes_of}
use Rattle.cv_meaning_runs.specs.Replacement.{IsReplaced, Process}
use Rattle.cv_meaning_runs.proofs.Places.{replaced_where}
use Rattle.cv_meaning_chances.proofs.rewording.SameCells.{reworded_chances}
use Rattle.cv_meaning_chances.specs.rewording.Rewording.{IsReworded}
use Rattle.cv_scope_rules.specs.Phrases as phrase
use Rattle.cv_scope_rules.specs.Phrases.{Arm, Binders, Cells, Inputs, OneCell, Phrase, Term, is_phrase}
use Rattle.cv_scene.specs.Scenes.{Scene, has_place, or_empty, part_at}
use Rattle.cv_scene.specs.Sights.{is_cell_at, variable_of}
use Rattle.cv_derive_laws.specs.stores.Holding.{IsReady}
use Rattle.cv_steps.specs.Changes.{change_at}
use Rattle.cv_steps.specs.Chances.{KeepsChances}
use Rattle.cv_steps.specs.Steps.{Cost, Leads, Zero}
use Rattle.cv_steps.proofs.Comes.{output_comes}
use Rattle.cv_steps.proofs.Flat.{open_phrase, terms_still}
use Rattle.cv_steps.proofs.Rows.{leads_same, unless_leads}
use Rattle.cv_syntax_trees.proofs.lists.Each.{AllByRecursion_always}
use Rattle.cv_rule_codef.specs.Lists.{has_cell, lists, relisted, with_cell, with_list, without_cell}
use Rattle.cv_rule_codef.specs.Row.{are_codefined, are_related, codef_row, may_relist, related_by, stands_codef}
use Rattle.cv_rule_codef.specs.Standing.{AssignsAfter}
use Rattle.cv_rule_codef.proofs.Around.{IsAround, find_around}
use Rattle.cv_rule_codef.proofs.Listed.{says_the_same}
use Rattle.cv_rule_codef.proofs.Reworded.{find_reworded, game_reworded}
use Rattle.cv_rule_codef.proofs.Together.{assigned_related}

-- a row that leads to a game: no condition of it fails

pub record IsCodef (s : Scene) (place : ℕ) (adds above : Bool) (to from next : Tree) : Type 0 where
  pub listed : lists from (part_at s.game place) ≡ true
  pub related : are_codefined above s.game from to ≡ true
  pub free : may_relist adds to (part_at s.game place) ≡ true
  pub leads : change_at s.game place (with_list (relisted adds to)) ≡ next

pub codef_leads : (s : Scene) (place : ℕ) (adds above : Bool) (to from next : Tree) (cost : Cost) → codef_row s place adds above to from ≡ Leads next cost → IsCodef s place adds above to from next
codef_leads s place adds above to from next cost e =
    let r = unless_leads (lists from (part_at s.game place)) 1 0 _ next cost e in
    let q = unless_leads (are_codefined above s.game from to) 2 0 _ next cost r.1 in
    let o = unless_leads (may_relist adds to (part_at s.game place)) 3 0 _ next cost q.1 in
    record { listed = r.0; related = q.0; free = o.0; leads = leads_same _ next Zero cost o.1 }

-- what the step speaks of

pub record IsCell (c : Tree) : Type 0 where
  pub variable : ℕ
  pub named : variable_of c ≡ Some variable
  pub assigned : (g : Setting) (at : Indices) (m n : Store) → is_assigned g at m n c ≡ is_some (m variable (values g at n (first c)))

nil_empty : (t : Tree) → is_phrase phrase.Nil t ≡ true → t ≡ Empty
unfolding is_phrase
nil_empty Empty e = refl
nil_empty (Node h a b) e = absurd (both_ways false refl e)

pub cell_of_phrase : (c : Tree) → is_phrase OneCell c ≡ true → IsCell c
unfolding is_phrase values
cell_of_phrase (Node (Leaf x) a b) e =
    let k : a ≡ Empty = nil_empty a (and_parts (is_phrase phrase.Nil a) _ e).0 in
    record { variable = x; named = refl; assigned = λ g at m n. ap (λ t. is_some (m x (values g at n t))) (sym k) }
cell_of_phrase (Node (Read x) a b) e = record { variable = x; named = refl; assigned = λ g at m n. refl }
cell_of_phrase t e = absurd (both_ways false refl e)

pub record AreCells (to from : Tree) : Type 0 where
  pub to_cell : is_phrase OneCell to ≡ true
  pub from_cell : is_phrase OneCell from ≡ true
  pub indices : first to ≡ first from

pub cells_there : (s : Scene) (place : ℕ) (to from : Tree) → stands_codef s place to from ≡ true → AreCells to from
cells_there s place to from e =
    let p = and_parts (has_place s place) _ e in
    let q = and_parts (is_cell_at s place to) _ p.1 in
    let r = and_parts (is_cell_at s place from) _ q.1 in
    record { to_cell = (and_parts (is_phrase OneCell to) _ q.0).0; from_cell = (and_parts (is_phrase OneCell from) _ r.0).0; indices = same_tree_exact (first to) (first from) r.1 }

-- the branch at the place

pub record IsArm (t : Tree) : Type 0 where
  pub indices : Tree
  pub cells : Tree
  pub condition : Tree
  pub body : Tree
  pub is : t ≡ Node Branch indices (Node Cons cells (Node Cons condition body))
  pub list : is_phrase Cells cells ≡ true

arm_of_guards : (us b : Tree) → is_phrase phrase.Guards b ≡ true → IsArm (Node Branch us b)
unfolding is_phrase
arm_of_guards us (Node Cons cells (Node Cons m d)) e = record { indices = us; cells = cells; condition = m; body = d; is = refl; list = (and_parts (is_phrase Cells cells) _ e).0 }
arm_of_guards us (Node Cons cells t) e = absurd (both_ways false refl (and_parts (is_phrase Cells cells) _ e).1)
arm_of_guards us t e = absurd (both_ways false refl e)

arm_of_phrase : (σ : Phrase) (c t : Tree) → is_phrase σ t ≡ true → lists c t ≡ true → IsArm t
unfolding is_phrase
arm_of_phrase Arm c (Node Branch us b) e l = arm_of_guards us b (and_parts (is_phrase Binders us) _ e).1
arm_of_phrase σ c (Node Branch us b) e l = absurd (both_ways false refl e)
arm_of_phrase σ c t e l = absurd (both_ways false refl l)

phrase_at : (u : Tree) (σ : Phrase) (t : Tree) (q : ℕ) → is_phrase σ t ≡ true → subtree t q ≡ Some u → (τ : Phrase) × (is_phrase τ u ≡ true)
unfolding subtree
phrase_at u σ Empty q f s = absurd (cc)
phrase_at u σ (Node h a b) q f s =
    let o = open_phrase σ h a b f in
    go (nat_lt q (weight h)) (nat_lt q (weight h + size a)) s (phrase_at u o.0.0 a (q - weight h) o.2) (phrase_at u o.0.1 b (q - (weight h + size a)) o.3)
  where
    go : (v w : Bool) → cond v (Some (Node h a b)) (cond w (subtree a (q - weight h)) (subtree b (q - (weight h + size a)))) ≡ Some u
        → (subtree a (q - weight h) ≡ Some u → (τ : Phrase) × (is_phrase τ u ≡ true)) → (subtree b (q - (weight h + size a)) ≡ Some u → (τ : Phrase) × (is_phrase τ u ≡ true)) → (τ : Phrase) × (is_phrase τ u ≡ true)
    go true w s k l = (σ, let i : Node h a b ≡ u = cc in ap (is_phrase σ) (sym i) ∙ f)
    go false true s k l = k s
    go false false s k l = l s

there_by_list : (c : Tree) (o : Option Tree) → lists c (or_empty o) ≡ true → o ≡ Some (or_empty o)
there_by_list c None l = absurd (both_ways false refl l)
there_by_list c (Some t) l = refl

pub arm_there : (s : Scene) (place : ℕ) (c : Tree) → is_phrase Inputs s.game ≡ true → lists c (part_at s.game place) ≡ true → IsArm (part_at s.game place)
arm_there s place c w l = let p = phrase_at (part_at s.game place) Inputs s.game place w (there_by_list c (subtree s.game place) l) in arm_of_phrase p.0 c (part_at s.game place) p.1 l

-- the list is one of cells

cells_with : (c cells : Tree) → is_phrase OneCell c ≡ true → is_phrase Cells cells ≡ true → is_phrase Cells (with_cell c cells) ≡ true
unfolding is_phrase
cells_with c Empty e f = ap (λ v. v && true) e
cells_with c (Node Cons item more) e f = let p = and_parts (is_phrase OneCell item) _ f in ap₂ ◌&&◌ p.0 (cells_with c more e p.1)
cells_with c (Node h item more) e f = absurd (both_ways false refl f)

cells_without : (c cells : Tree) → is_phrase Cells cells ≡ true → is_phrase Cells (without_cell c cells) ≡ true
unfolding is_phrase
cells_without c Empty f = refl
cells_without c (Node Cons item more) f = let p = and_parts (is_phrase OneCell item) _ f in go (same_tree item c) p.0 p.1 (cells_without c more p.1)
  where
    go : (v : Bool) → is_phrase OneCell item ≡ true → is_phrase Cells more ≡ true → is_phrase Cells (without_cell c more) ≡ true → is_phrase Cells (cond v more (Node Cons item (without_cell c more))) ≡ true
    go true p q k = q
    go false p q k = ap₂ ◌&&◌ p k
cells_without c (Node h item more) f = absurd (both_ways false refl f)

pub list_phrase : (adds : Bool) (c cells : Tree) → is_phrase OneCell c ≡ true → is_phrase Cells cells ≡ true → is_phrase Cells (relisted adds c cells) ≡ true
list_phrase true c cells e f = cells_with c cells e f
list_phrase false c cells e f = cells_without c cells f

related_apart : (above : Bool) (x y : ℕ) (game : Tree) → are_related above x y game ≡ true → (x == y) ≡ false
related_apart true x y game e = not-true _ (and_parts (not (x == y)) _ e).0
related_apart false x y game e = not-true _ (and_parts (not (x == y)) _ e).0

-- the step at the branch
module _ (s : Scene) (place : ℕ) (adds above : Bool) (to from next : Tree) (k : IsCodef s place adds above to from next) (cs : AreCells to from) (arm : IsArm (part_at s.game place)) (formed : is_phrase Inputs s.game ≡ true) where
  abbrev old : Tree
  old = Node Branch arm.indices (Node Cons arm.cells (Node Cons arm.condition arm.body))

  abbrev list : Tree
  list = relisted adds to arm.cells

  abbrev new : Tree
  new = Node Branch arm.indices (Node Cons list (Node Cons arm.condition arm.body))

  pub stands : subtree s.game place ≡ Some old
  stands = there_by_list from (subtree s.game place) k.listed ∙ ap Some arm.is

  pub next_is : replaced s.game place new ≡ next
  next_is = ap (λ t. replaced s.game place (with_list (relisted adds to) t)) (sym arm.is) ∙ k.leads

  pub around : IsAround old new s.game (replaced s.game place new)
  around = find_around arm.indices (Node Cons arm.cells (Node Cons arm.condition arm.body)) new s.game place formed stands

  abbrev old_find : Tree
  old_find = Node (Find around.label) around.arms around.otherwise

  abbrev new_find : Tree
  new_find = Node (Find around.label) around.changed around.otherwise

  pub placed_find : IsReplaced old_find new_find around.place Process 0 s.game (replaced s.game around.place new_find)
  placed_find = replaced_where old_find new_find s.game around.place (output_comes s.game around.place old_find formed around.there refl) around.there

  pub list_cells : is_phrase Cells list ≡ true
  list_cells = list_phrase adds to arm.cells cs.to_cell arm.list

  from_listed : has_cell from arm.cells ≡ true
  from_listed = ap (lists from) (sym arm.is) ∙ k.listed

  to_listed : cond adds true (has_cell to arm.cells) ≡ true
  to_listed = go adds (ap (may_relist adds to) (sym arm.is) ∙ k.free)
    where
      go : (v : Bool) → cond v (not (has_cell to arm.cells)) (has_cell to arm.cells) ≡ true → cond v true (has_cell to arm.cells) ≡ true
      go true e = refl
      go false e = e

  pub from_cell : IsCell from
  from_cell = cell_of_phrase from cs.from_cell

  pub to_cell : IsCell to
  to_cell = cell_of_phrase to cs.to_cell

  pub related : are_related above from_cell.variable to_cell.variable s.game ≡ true
  related = (λ i. related_by above s.game (sym from_cell.named i) (sym to_cell.named i)) ∙ k.related

  others : same_tree to from ≡ false
  others = false_from_ne_true (same_tree to from) (λ e.
      let i : Some to_cell.variable ≡ Some from_cell.variable = sym to_cell.named ∙ (ap variable_of (same_tree_exact to from e) ∙ from_cell.named) in
      let j : from_cell.variable ≡ to_cell.variable = cc in
      both_ways (from_cell.variable == to_cell.variable) (related_apart above from_cell.variable to_cell.variable s.game related) (eq-eqb from_cell.variable to_cell.variable j))

  abbrev Holds : Visit → Type 0
  Holds v = AssignsAfter from_cell.variable to_cell.variable v

  says : (g : Setting) (l : Local) → Holds (record { place = around.place; tree = old_find; before = l }) → (n : Store) → are_assigned g l.indices l.memory.store n arm.cells ≡ are_assigned g l.indices l.memory.store n list
  says g l v n =
      let m : Store = l.memory.store in
      says_the_same g l.indices m n from to arm.cells from_listed
      (λ e. to_cell.assigned g l.indices m n ∙ (ap (λ t. is_some (m to_cell.variable (values g l.indices n t))) cs.indices ∙ v (values g l.indices n (first from)) (sym (from_cell.assigned g l.indices m n) ∙ e)))
      adds others to_listed

  reworded : (g : Setting) → IsReworded g Holds Process 0 s.game (replaced s.game around.place new_find)
  reworded g =
      game_reworded g Holds old_find new_find around.place
      (find_reworded g Holds arm.indices arm.cells list arm.condition arm.body around.label around.place around.arms around.changed around.otherwise (terms_still Cells list refl list_cells) around.phrases around.one (says g))
      s.game (replaced s.game around.place new_find) formed placed_find

  pub next_find : replaced s.game around.place new_find ≡ next
  next_find = sym around.next ∙ next_is

  pub step_keeps : IsReady s.declarations s.game → KeepsChances s.declarations s.game next
  step_keeps ready i sat x asked a =
      let g : Setting = setting_of s.declarations i in
      subst (λ c. Same (chance_of g x a s.game) c)
      (reworded_chances g (λ t. Holds) x a s.game (replaced s.game around.place new_find) (λ t. reworded g)
      (All-from_recursion (λ t. AllByRecursion Holds (visits_of_run g (mode_of x) a s.game t)) (tapes_of (cells_of_game g (mode_of x) a s.game) blank)
      (AllByRecursion_always (λ t. AllByRecursion Holds (visits_of_run g (mode_of x) a s.game t)) (λ t. assigned_related s.declarations g s.game refl ready.formed (mode_of x) a t above from_cell.variable to_cell.variable related) _))
      ∙ ap (chance_of g x a) next_find) refl

pub codef_keeps : (s : Scene) (place : ℕ) (adds above : Bool) (to from next : Tree) (cost : Cost) → IsReady s.declarations s.game → stands_codef s place to from ≡ true → codef_row s place adds above to from ≡ Leads next cost → KeepsChances s.declarations s.game next
codef_keeps s place adds above to from next cost ready there e =
    let k = codef_leads s place adds above to from next cost e in
    step_keeps s place adds above to from next k (cells_there s place to from there) (arm_there s place from ready.formed.phrase k.listed) ready.formed.phrase ready
