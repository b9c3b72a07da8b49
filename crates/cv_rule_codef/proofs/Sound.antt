-- What the step keeps.
use Rattle.std.proofs.Common.{◌≡◌, ℕ, Bool, true, false, cond, is_some, refl, subst}
use Rattle.std.proofs.lemmas.Bool.{both_ways}
use Rattle.cv_syntax_trees.specs.declared.head.Head.TheVariants.{Branch, Cons, Find, Leaf, Read}
use Rattle.cv_syntax_trees.specs.Tree.{Tree, Empty, Node, same_tree}
use Rattle.cv_meaning.specs.Interpretation.{setting_of}
use Rattle.cv_meaning.specs.Runs.{Mode}
use Rattle.cv_meaning_chances.specs.values.Values.{HasValuesIn}
use Rattle.cv_meaning_runs.specs.Replacement.{Process}
use Rattle.cv_syntax_trees.specs.sites.Sites.{index_here}
use Rattle.cv_scope_rules.specs.Phrases.{Cells, Inputs, OneCell, Term, is_phrase}
use Rattle.cv_scene.specs.Scenes.{Scene, part_at}
use Rattle.cv_derive_laws.proofs.stores.Costs.{free_taped, kept_costs}
use Rattle.cv_steps.proofs.Rows.{IsFree, free_leads, free_unless}
use Rattle.cv_derive_laws.specs.stores.Steps.{IsSound}
use Rattle.cv_steps_laws.proofs.Indices.{Lacks, bound_before, lacking_changed, lacking_empty, lacking_node, lacking_parts, lacking_term}
use Rattle.cv_steps_laws.proofs.Keeping.{accepted}
use Rattle.cv_steps_laws.proofs.Sorts.{declared_replaced, sorts_kept}
use Rattle.cv_steps_laws.proofs.Unletted.{IsKept}
use Rattle.cv_steps_laws.proofs.Values.{values_kept, values_replaced}
use Rattle.cv_typing_runs.specs.Games.{HasDeclaredSorts}
use Rattle.cv_rule_codef.specs.Lists.{lists, relisted, with_cell, with_list, without_cell}
use Rattle.cv_rule_codef.specs.Row.{are_codefined, codef_row, codef_step, may_relist}
use Rattle.cv_rule_codef.proofs.Around.{IsOneItem, later, this}
use Rattle.cv_rule_codef.proofs.Keeping.{AreCells, IsArm, IsCodef, arm_there, around, cells_there, codef_keeps, codef_leads, list_cells, next_find, placed_find}

-- a fact of trees that terms have, and that nodes have of their children
module _ (P : Tree → Type 0) (kept : IsKept P) where
  arm_kept : (us cells list m d : Tree) → is_phrase Cells list ≡ true → P (Node Branch us (Node Cons cells (Node Cons m d))) → P (Node Branch us (Node Cons list (Node Cons m d)))
  arm_kept us cells list m d w p =
      let q = kept.children Branch us (Node Cons cells (Node Cons m d)) p in
      let r = kept.children Cons cells (Node Cons m d) q.1 in
      kept.node Branch us (Node Cons cells (Node Cons m d)) us (Node Cons list (Node Cons m d)) (λ e. refl) p q.0
      (kept.node Cons cells (Node Cons m d) list (Node Cons m d) (λ e. absurd (both_ways false refl e)) q.1 (kept.terms Cells list refl w) r.1)

  items_kept : (old new b c : Tree) → (P old → P new) → IsOneItem old new b c → P b → P c
  items_kept old new b c k (this {more = more}) p =
      let q = kept.children Cons old more p in
      kept.node Cons old more new more (λ e. absurd (both_ways false refl e)) p (k q.0) q.1
  items_kept old new b c k (later {item = item} {more = more} {rest = rest} z) p =
      let q = kept.children Cons item more p in
      kept.node Cons item more item rest (λ e. refl) p q.0 (items_kept old new more rest k z q.1)

  find_kept : (old new b c otherwise : Tree) (l : ℕ) → (P old → P new) → IsOneItem old new b c → P (Node (Find l) b otherwise) → P (Node (Find l) c otherwise)
  find_kept old new b c otherwise l k z p =
      let q = kept.children (Find l) b otherwise p in
      kept.node (Find l) b otherwise c otherwise (λ e. absurd (both_ways false refl e)) p (items_kept old new b c k z q.0) q.1

module _ (s : Scene) (place : ℕ) (adds above : Bool) (to from next : Tree) (k : IsCodef s place adds above to from next) (cs : AreCells to from) (arm : IsArm (part_at s.game place)) (formed : is_phrase Inputs s.game ≡ true) where
  changed_kept : (P : Tree → Type 0) → IsKept P
      → P (Node (Find (around s place adds above to from next k cs arm formed).label) (around s place adds above to from next k cs arm formed).arms (around s place adds above to from next k cs arm formed).otherwise)
      → P (Node (Find (around s place adds above to from next k cs arm formed).label) (around s place adds above to from next k cs arm formed).changed (around s place adds above to from next k cs arm formed).otherwise)
  changed_kept P kept =
      let a = around s place adds above to from next k cs arm formed in
      find_kept P kept _ _ a.arms a.changed a.otherwise a.label (arm_kept P kept arm.indices arm.cells (relisted adds to arm.cells) arm.condition arm.body (list_cells s place adds above to from next k cs arm formed)) a.one

  next_declared : HasDeclaredSorts s.declarations s.game → HasDeclaredSorts s.declarations next
  next_declared d =
      let a = around s place adds above to from next k cs arm formed in
      subst (HasDeclaredSorts s.declarations) (next_find s place adds above to from next k cs arm formed)
      (declared_replaced s.declarations _ _ a.place (changed_kept (HasDeclaredSorts s.declarations) (sorts_kept s.declarations)) Process 0 s.game _ (placed_find s place adds above to from next k cs arm formed) d)

  next_valued : (g : _) (m : Mode) → HasValuesIn g m s.game → HasValuesIn g m next
  next_valued g m d =
      let a = around s place adds above to from next k cs arm formed in
      subst (HasValuesIn g m) (next_find s place adds above to from next k cs arm formed)
      (values_replaced g m _ _ a.place (changed_kept (HasValuesIn g m) (values_kept g m)) Process 0 s.game _ (placed_find s place adds above to from next k cs arm formed) d)

-- no index is bound in a cell

cell_term : (c : Tree) → is_phrase OneCell c ≡ true → is_phrase Term c ≡ true
unfolding is_phrase
cell_term (Node (Leaf x) a b) e = e
cell_term (Node (Read x) a b) e = e
cell_term t e = absurd (both_ways false refl e)

module _ (i : ℕ) where
  lacking_with : (c cells : Tree) → Lacks i c → Lacks i cells → Lacks i (with_cell c cells)
  lacking_with c Empty e f = lacking_node i Cons c Empty refl e (lacking_empty i)
  lacking_with c (Node h item more) e f = let q = lacking_parts i h item more f in lacking_node i h item (with_cell c more) q.0 q.1 (lacking_with c more e q.2)

  lacking_without : (c cells : Tree) → Lacks i cells → Lacks i (without_cell c cells)
  lacking_without c Empty f = f
  lacking_without c (Node h item more) f = let q = lacking_parts i h item more f in go (same_tree item c) q.0 q.1 q.2 (lacking_without c more q.2)
    where
      go : (v : Bool) → is_some (index_here i h) ≡ false → Lacks i item → Lacks i more → Lacks i (without_cell c more) → Lacks i (cond v more (Node h item (without_cell c more)))
      go true n p q k = q
      go false n p q k = lacking_node i h item (without_cell c more) n p k

  lacking_relisted : (adds : Bool) (c cells : Tree) → Lacks i c → Lacks i cells → Lacks i (relisted adds c cells)
  lacking_relisted true c cells e f = lacking_with c cells e f
  lacking_relisted false c cells e f = lacking_without c cells f

  lacking_list : (adds : Bool) (c t : Tree) → Lacks i c → Lacks i t → Lacks i (with_list (relisted adds c) t)
  lacking_list adds c (Node Branch us (Node h cells rest)) e f =
      let q = lacking_parts i Branch us (Node h cells rest) f in
      let r = lacking_parts i h cells rest q.2 in
      lacking_node i Branch us (Node h (relisted adds c cells) rest) q.0 q.1 (lacking_node i h (relisted adds c cells) rest r.0 (lacking_relisted adds c cells e r.1) r.2)
  lacking_list adds c t e f = f

-- it costs nothing
codef_free : (s : Scene) (p : ℕ) (adds above : Bool) (to from : Tree) → IsFree (codef_row s p adds above to from)
codef_free s p adds above to from =
    free_unless (lists from (part_at s.game p)) 1 0 _
    (free_unless (are_codefined above s.game from to) 2 0 _ (free_unless (may_relist adds to (part_at s.game p)) 3 0 _ (free_leads _)))

pub codef_sound : (p : ℕ) (adds above : Bool) (to from : Tree) → IsSound (codef_step p adds above to from)
codef_sound p adds above to from = record {
  keeps = λ s next cost ready holds unreached knows e. let a = accepted s (codef_step p adds above to from) next cost e in kept_costs s.declarations s.game next cost (codef_keeps s p adds above to from next cost ready a.stands a.row);
  taped = λ s next cost e i sat. free_taped _ (codef_free s p adds above to from) next cost (accepted s (codef_step p adds above to from) next cost e).row i;
  declared = λ s next cost w d e.
      let a = accepted s (codef_step p adds above to from) next cost e in
      let k = codef_leads s p adds above to from next cost a.row in
      next_declared s p adds above to from next k (cells_there s p to from a.stands) (arm_there s p from w k.listed) w d;
  valued = λ s next cost w i sat m fresh d e.
      let a = accepted s (codef_step p adds above to from) next cost e in
      let k = codef_leads s p adds above to from next cost a.row in
      next_valued s p adds above to from next k (cells_there s p to from a.stands) (arm_there s p from w k.listed) w (setting_of s.declarations i) m d;
  bound = λ s next cost e i h.
      let a = accepted s (codef_step p adds above to from) next cost e in
      let k = codef_leads s p adds above to from next cost a.row in
      let c = cells_there s p to from a.stands in
      bound_before i s.game next (λ l. subst (Lacks i) k.leads (lacking_changed i s p (with_list (relisted adds to)) l (lacking_list i adds to (part_at s.game p) (lacking_term i to (cell_term to c.to_cell))))) h;
}
