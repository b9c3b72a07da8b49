-- Branches, by their index.
use Rattle.std.proofs.Common.{◌≡◌, ℕ, Bool, true, false, ◌&&◌, List, [], ◌∷◌, ◌++◌, map, refl, ap, sym, ◌∙◌}
use Rattle.std.proofs.lemmas.List.{map-append}
use Rattle.cv_syntax_trees.specs.declared.head.Head.{Head}
use Rattle.cv_syntax_trees.specs.declared.head.Head.TheVariants.{Binder}
use Rattle.cv_syntax_trees.specs.Tree.{Tree, Empty, Node}
use Rattle.cv_meaning.specs.contexts.Made.{has_cell_at}
use Rattle.cv_group_rules.specs.Rules.{Around, Found, are_cells, found, has_name, has_read}
use Rattle.cv_group_rules.specs.Rules as rule
use Rattle.cv_group.specs.declared.bodies.levels.Level.{Level}
use Rattle.cv_group.specs.bodies.Levels.{HasBound, branch_passes, level_of}

-- none

pub no_branch : (o : Around) (ls : List rule.Level) (indices cells : Tree) → indices ≡ Empty → false ≡ branch_passes o ls indices cells
no_branch o ls indices cells e = sym (ap (λ t. branch_passes o ls t cells) e)

pub other_branch : (o : Around) (ls : List rule.Level) (indices cells : Tree) (h : Head) (a b : Tree) → indices ≡ Node h a b → ((u n : ℕ) → h ≡ Binder u n → ⊥) → false ≡ branch_passes o ls indices cells
other_branch o ls indices cells h a b e f = other h f ∙ sym (ap (λ t. branch_passes o ls t cells) e)
  where
    other : (h : Head) → ((u n : ℕ) → h ≡ Binder u n → ⊥) → false ≡ branch_passes o ls (Node h a b) cells
    other (Binder u n) f = absurd (f u n refl)
    other h f = refl

-- an index u with its bound n
module _ (indices cells : Tree) (h : Head) (a b : Tree) (u n : ℕ) (e : indices ≡ Node h a b) (i : h ≡ Binder u n) where
  index_is : indices ≡ Node (Binder u n) a b
  index_is = e ∙ ap (λ k. Node k a b) i

  pub level_more : (old new : List Level) (l : Level) → level_of l ≡ Found u n (has_read cells) (has_name cells) → new ≡ old ++ l ∷ [] → HasBound old new (found indices cells)
  level_more old new l f g = record { added = l ∷ []; items = g; levels = ap (λ k. k ∷ []) f ∙ sym (ap (λ t. found t cells) index_is) }

  pub cell_missing : (o : Around) (ls : List rule.Level) (c : Bool) → c ≡ has_cell_at u cells → c ≡ false → c ≡ branch_passes o ls indices cells
  cell_missing o ls c f g =
      (g ∙ ap (λ x. x && are_cells o (ls ++ Found u n (has_read cells) (has_name cells) ∷ []) cells) (sym g ∙ f)) ∙ sym (ap (λ t. branch_passes o ls t cells) index_is)

  pub cell_there : (o : Around) (old new now : List Level) (l : Level) (c : Bool) → true ≡ has_cell_at u cells → level_of l ≡ Found u n (has_read cells) (has_name cells) → new ≡ old ++ l ∷ [] → now ≡ new → c ≡ are_cells o (map level_of now) cells → c ≡ branch_passes o (map level_of old) indices cells
  cell_there o old new now l c f g p q r =
      r
      ∙ (ap (λ ls. are_cells o ls cells) (ap (map level_of) (q ∙ p) ∙ (map-append level_of old (l ∷ []) ∙ ap (λ k. map level_of old ++ k ∷ []) g))
      ∙ (ap (λ x. x && are_cells o (map level_of old ++ Found u n (has_read cells) (has_name cells) ∷ []) cells) f ∙ sym (ap (λ t. branch_passes o (map level_of old) t cells) index_is)))
