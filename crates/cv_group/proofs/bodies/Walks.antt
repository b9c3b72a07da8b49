-- Bodies, from node to node, with the levels that stand around.
use Rattle.std.proofs.Common.{◌≡◌, Bool, true, false, ◌&&◌, List, ◌++◌, map, refl, ap, sym, ◌∙◌}
use Rattle.std.proofs.lemmas.List.{map-append}
use Rattle.cv_syntax_trees.specs.declared.head.Head.{Head}
use Rattle.cv_syntax_trees.specs.declared.head.Head.TheVariants.{Apply, Leaf, Read}
use Rattle.cv_syntax_trees.specs.Tree.{Tree, Empty, Node}
use Rattle.cv_group.specs.declared.bodies.levels.Level as code
use Rattle.cv_group.specs.bodies.Levels.{HasBound, level_of, node_passes, term_passes}
use Rattle.cv_group_rules.specs.Rules.{Around, Level, behind, is_bound, names_bound}

names_parts : (o : Around) (ls : List Level) (h : Head) (a b : Tree) → names_bound o ls h a b ≡ (term_passes o ls h a && node_passes o ls h a b)
names_parts o ls (Leaf x) a b = alone _
  where
    alone : (c : Bool) → c ≡ (c && true)
    alone true = refl
    alone false = refl
names_parts o ls (Read v) a b = alone _
  where
    alone : (c : Bool) → c ≡ (c && true)
    alone true = refl
    alone false = refl
names_parts o ls (Apply f) a b = alone _
  where
    alone : (c : Bool) → c ≡ (c && true)
    alone true = refl
    alone false = refl
names_parts o ls h a b = refl

module _ (o : Around) (ls : List Level) (t : Tree) (h : Head) (a b : Tree) (total : Bool) (e : t ≡ Node h a b) (s : is_bound o ls t ≡ total) where
  step : ((term_passes o ls h a && node_passes o ls h a b) && (is_bound o ls a && is_bound o (ls ++ behind h a b) b)) ≡ total
  unfolding is_bound
  step = ap (λ n. n && (is_bound o ls a && is_bound o (ls ++ behind h a b) b)) (sym (names_parts o ls h a b)) ∙ (ap (is_bound o ls) (sym e) ∙ s)

  pub term_fails : term_passes o ls h a ≡ false → false ≡ total
  term_fails f = ap (λ x. (x && node_passes o ls h a b) && (is_bound o ls a && is_bound o (ls ++ behind h a b) b)) (sym f) ∙ step

  pub first_fails : is_bound o ls a ≡ false → false ≡ total
  first_fails f = none (term_passes o ls h a && node_passes o ls h a b) ∙ (ap (λ x. (term_passes o ls h a && node_passes o ls h a b) && (x && is_bound o (ls ++ behind h a b) b)) (sym f) ∙ step)
    where
      none : (c : Bool) → false ≡ (c && false)
      none true = refl
      none false = refl

  pub node_fails : term_passes o ls h a ≡ true → node_passes o ls h a b ≡ false → false ≡ total
  node_fails f g = ap (λ x. (true && x) && (is_bound o ls a && is_bound o (ls ++ behind h a b) b)) (sym g) ∙ (ap (λ x. (x && node_passes o ls h a b) && (is_bound o ls a && is_bound o (ls ++ behind h a b) b)) (sym f) ∙ step)

  pub goes_on : (now : List Level) → now ≡ ls ++ behind h a b → term_passes o ls h a ≡ true → is_bound o ls a ≡ true → node_passes o ls h a b ≡ true → is_bound o now b ≡ total
  goes_on now n f i g =
      ap (λ l. is_bound o l b) n
      ∙ (ap (λ x. (true && true) && (x && is_bound o (ls ++ behind h a b) b)) (sym i)
      ∙ (ap (λ x. (true && x) && (is_bound o ls a && is_bound o (ls ++ behind h a b) b)) (sym g)
      ∙ (ap (λ x. (x && node_passes o ls h a b) && (is_bound o ls a && is_bound o (ls ++ behind h a b) b)) (sym f) ∙ step)))

pub body_end : (o : Around) (ls : List Level) (t : Tree) (total : Bool) → t ≡ Empty → is_bound o ls t ≡ total → true ≡ total
unfolding is_bound
body_end o ls t total e s = ap (is_bound o ls) (sym e) ∙ s

-- the levels, with what a node binds
pub levels_more : (old new : List code.Level) (more : List Level) → HasBound old new more → map level_of new ≡ map level_of old ++ more
levels_more old new more m = ap (map level_of) m.items ∙ (map-append level_of old m.added ∙ ap (λ l. map level_of old ++ l) m.levels)
