-- The parts of the game, tree by tree.
use Rattle.std.proofs.Common.{◌≡◌, ℕ, zero, suc, ◌+◌, ◌<◌, ◌≤◌, List, [], ◌∷◌, ◌++◌, length, take, reverse, get_or, Option, ap, ap₂, sym, ◌∙◌, subst, arith, append_assoc, append-nil}
use Rattle.cv_syntax.specs.declared.make.Make.{Make}
use Rattle.cv_syntax.specs.declared.make.Make.TheVariants.{Nothing, Over}
use Rattle.cv_syntax_trees.specs.Tree.{Tree, Empty, Node}
use Rattle.cv_syntax.specs.Postorder.{postorder}
use Rattle.cv_parse_grammar.specs.Filled.{filled, filled_at, first_site, now_below}
use Rattle.cv_parse_names.specs.declared.indices.context.Context.{Context}
use Rattle.cv_parse_names.specs.indices.Backward.{backward}
use Rattle.cv_parse_names.specs.indices.Contexts.{first_place, second_place, parts_in, written}
use Rattle.cv_parse_names.specs.indices.Current.{entered}
use Rattle.cv_parse_names.specs.indices.Stacks.{Standing, standings, top, rest, children, Popped}
use Rattle.cv_parse_names.proofs.indices.Nodes.{parts_empty, parts_node}
use Rattle.cv_parse_names.proofs.indices.Pending.{Pending, pending_whole, pending_nothing, pending_over, pending_end, postorder_back}
use Rattle.cv_parse_names.proofs.indices.Stacking.{opened_node}

unfoldable pub all_parts : (ℕ → Option ℕ) → List Standing → List Tree → List Make
all_parts sites ss [] = []
all_parts sites ss (t ∷ ts) = parts_in sites (top ss).0 (top ss).1 t ++ all_parts sites (rest ss) ts

-- what is written so far, with what comes, is the game
abbrev pub Writes : (ℕ → Option ℕ) → Tree → List ℕ → List Context → List Make → List Tree → Type 0
Writes sites t names stack parts trees = parts ++ all_parts sites (standings names stack) trees ≡ backward (filled_at sites [] t)

module _ (sites : ℕ → Option ℕ) where
  pub writes_first : (makes : List Make) (t : Tree) (names : List ℕ) (stack : List Context) (parts : List Make) → names ≡ [] → stack ≡ [] → parts ≡ [] → makes ≡ postorder t → Pending makes (length makes) (Writes sites t names stack parts)
  unfolding all_parts
  writes_first makes t names stack parts e f g h =
      pending_whole makes (Writes sites t names stack parts) t h
      (ap₂ (λ l s. l ++ all_parts sites (standings names s) (t ∷ [])) g f ∙ append-nil (backward (filled_at sites [] t)))

  regrouped : (p q w s : List Make) → q ≡ p ++ w → q ++ s ≡ p ++ (w ++ s)
  regrouped p q w s e = ap (λ l. l ++ s) e ∙ append_assoc p w s

  pub writes_step : (makes : List Make) (k at : ℕ) (t : Tree) (names after : List ℕ) (old others new : List Context) (c : Context) (m : Make) (parts more : List Make) → k + 1 ≡ at → k < length makes → get_or makes k Nothing ≡ m → Popped names old others c → new ≡ others ++ children c m → after ≡ entered c.level m names → more ≡ parts ++ written sites (take c.level names) c.place m → Pending makes at (Writes sites t names old parts) → Pending makes k (Writes sites t after new more)
  unfolding all_parts
  writes_step makes k at t names after old others new c Nothing parts more n l g p e f w q =
      pending_nothing makes k (Writes sites t names old parts) (Writes sites t after new more) l g (λ ts h.
      ap₂ (λ s i. more ++ all_parts sites (standings i s) ts) (e ∙ append-nil others) f
      ∙ (regrouped parts more (written sites (take c.level names) c.place Nothing) (all_parts sites (standings names others) ts) w
      ∙ (ap₂ (λ x y. parts ++ (x ++ all_parts sites y ts)) (sym (parts_empty sites (take c.level names) c.place)) (sym p.others)
      ∙ (ap (λ (s : Standing). parts ++ (parts_in sites s.0 s.1 Empty ++ all_parts sites (rest (standings names old)) ts)) (sym p.first) ∙ h))))
      (subst (λ (i : ℕ). Pending makes i (Writes sites t names old parts)) (sym n) q)
  writes_step makes k at t names after old others new c (Over d) parts more n l g p e f w q =
      let o = opened_node names after others new c d p.low p.below e f in
      let now = take c.level names in
      pending_over makes k d (Writes sites t names old parts) (Writes sites t after new more) l g (λ a b ts h.
      ap (λ s. more ++ all_parts sites s (b ∷ (a ∷ ts))) o.first
      ∙ (regrouped parts more (written sites now c.place (Over d)) (parts_in sites (now_below d now) (second_place c.place d) b ++ (parts_in sites now (first_place c.place d) a ++ all_parts sites (standings names others) ts)) w
      ∙ (ap (λ x. parts ++ x) (ap (λ x. written sites now c.place (Over d) ++ x) (sym (append_assoc (parts_in sites (now_below d now) (second_place c.place d) b) (parts_in sites now (first_place c.place d) a) (all_parts sites (standings names others) ts))) ∙ sym (append_assoc (written sites now c.place (Over d)) (parts_in sites (now_below d now) (second_place c.place d) b ++ parts_in sites now (first_place c.place d) a) (all_parts sites (standings names others) ts)))
      ∙ (ap₂ (λ x y. parts ++ (x ++ all_parts sites y ts)) (sym (parts_node sites now c.place d a b)) (sym p.others)
      ∙ (ap (λ (s : Standing). parts ++ (parts_in sites s.0 s.1 (Node d a b) ++ all_parts sites (rest (standings names old)) ts)) (sym p.first) ∙ h)))))
      (subst (λ (i : ℕ). Pending makes i (Writes sites t names old parts)) (sym n) q)

  pub writes_end : (makes : List Make) (at : ℕ) (t : Tree) (names : List ℕ) (stack : List Context) (parts : List Make) → at ≤ 0 → sites ≡ (λ x. first_site x 0 t) → Pending makes at (Writes sites t names stack parts) → reverse parts ≡ postorder (filled t)
  unfolding all_parts
  writes_end makes zero t names stack parts l e p = postorder_back parts (filled t) (sym (append-nil parts) ∙ (pending_end makes (Writes sites t names stack parts) p ∙ ap (λ (s : ℕ → Option ℕ). backward (filled_at s [] t)) e))
  writes_end makes (suc k) t names stack parts l e p = absurd (omega arith)
