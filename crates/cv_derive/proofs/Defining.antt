-- The first definition of a variable stands at its place, and so does the process behind it.
use Rattle.std.proofs.Common.{◌≡◌, ℕ, ◌+◌, ◌-◌, ◌<◌, ◌≤◌, Bool, true, false, cond, List, [], ◌∷◌, length, Option, Some, None, refl, sym, ap, ap₂, subst, ◌∙◌, arith, nat_lt, le-ltb, lt-ltb, ltb-true, ltb-false, zero-add, add-zero}
use Rattle.std.specs.Prelude.{◌==◌, if◌then◌else◌, option_and_then}
use Rattle.std.specs.List.{AllByRecursion}
use Rattle.std.proofs.lemmas.Bool.{both_ways}
use Rattle.std.proofs.lemmas.List.{get_or_past}
use Rattle.cv_syntax_trees.proofs.lists.Each.{AllByRecursion_append}
use Rattle.cv_pool.specs.declared.node.NodeId.{NodeId}
use Rattle.cv_pool.specs.KindTree.{KindTree, NoTree}
use Rattle.cv_syntax_trees.specs.declared.head.Head.{Head}
use Rattle.cv_syntax_trees.specs.declared.head.Head.TheVariants.{New, Let, In, Branch, Binder, Key, Call}
use Rattle.cv_syntax_trees.specs.Head.{weight}
use Rattle.cv_syntax_trees.specs.Tree.{Tree, Empty, Node, second, size, subtree, first_place, second_place}
use Rattle.cv_syntax.specs.PoolTrees.{tree_at, tree_of}
use Rattle.cv_syntax_trees.specs.declared.sites.sort.Sort.{Sort}
use Rattle.cv_syntax_trees.specs.declared.sites.sort.Sort.TheVariants.{OfType, BelowParameter}
use Rattle.cv_directory.specs.Definitions.{Definition, bound_definitions, definition_at, definitions_at, definitions_from, definitions_of, first_in, replications_below}
use Rattle.cv_path.proofs.Going.{subtree_here}
use Rattle.cv_derive_facts.specs.Definitions.{behind_at, body_place, can_define, place_behind, process_place}
use Rattle.cv_derive_facts.proofs.Continuing.{definition_fits}

module _ (game : Tree) (x : ℕ) where
  abbrev pub IsPlaced : Definition → Type 0
  IsPlaced d = subtree game d.place ≡ Some d.tree

  one : (rs : List (ℕ × ℕ)) (p : ℕ) (t : Tree) (S : Sort) (b : Bool) → subtree game p ≡ Some t → AllByRecursion IsPlaced (cond b (definition_at rs p t S ∷ []) [])
  one rs p t S true e = (e, tt)
  one rs p t S false e = tt

  bound : (rs : List (ℕ × ℕ)) (p : ℕ) (t : Tree) (sort : ℕ → Sort) (l : Tree) → subtree game p ≡ Some t → AllByRecursion IsPlaced (bound_definitions rs p t sort x l)
  unfolding bound_definitions
  bound rs p t sort Empty e = tt
  bound rs p t sort (Node (Binder y T) a b) e = AllByRecursion_append IsPlaced (cond (y == x) (definition_at rs p t (sort T) ∷ []) []) (bound_definitions rs p t sort x b) (one rs p t (sort T) (y == x) e) (bound rs p t sort b e)
  bound rs p t sort (Node h a b) e = bound rs p t sort b e

  here : (rs : List (ℕ × ℕ)) (p : ℕ) (h : Head) (a b : Tree) → (0 < weight h → subtree game p ≡ Some (Node h a b)) → AllByRecursion IsPlaced (definitions_at rs p (Node h a b) x h a)
  here rs p (New y T) a b e = one rs p (Node (New y T) a b) (OfType T) (y == x) (e (omega arith))
  here rs p (Let y T) a b e = one rs p (Node (Let y T) a b) (OfType T) (y == x) (e (omega arith))
  here rs p (In c) a b e = bound rs p (Node (In c) a b) OfType (second a) (e (omega arith))
  here rs p Branch a b e = bound rs p (Node Branch a b) BelowParameter a (e (omega arith))
  here rs p h a b e = tt

  abbrev StandsAt : ℕ → Tree → Type 0
  StandsAt p t = (q : ℕ) → q < size t → subtree game (p + q) ≡ subtree t q

  at_node : (p : ℕ) (h : Head) (a b : Tree) → StandsAt p (Node h a b) → 0 < weight h → subtree game p ≡ Some (Node h a b)
  unfolding size subtree
  at_node p h a b s l =
      ap (subtree game) (sym (add-zero p))
      ∙ (s 0 (omega (arith, l)) ∙ ap (λ v. cond v (Some (Node h a b)) (cond (nat_lt 0 (weight h + size a)) (subtree a (0 - weight h)) (subtree b (0 - (weight h + size a))))) (lt-ltb 0 (weight h) l))

  at_first : (p : ℕ) (h : Head) (a b : Tree) → StandsAt p (Node h a b) → StandsAt (first_place p h) a
  unfolding size subtree
  at_first p h a b s q l =
      let n : p + weight h + q ≡ p + (weight h + q) = omega arith in
      let m : weight h + q - weight h ≡ q = omega arith in
      ap (subtree game) n
      ∙ (s (weight h + q) (omega (arith, l)) ∙ (ap₂ (λ v w. cond v (Some (Node h a b)) (cond w (subtree a (weight h + q - weight h)) (subtree b (weight h + q - (weight h + size a))))) (le-ltb (weight h + q) (weight h) (omega arith)) (lt-ltb (weight h + q) (weight h + size a) (omega (arith, l)))
      ∙ ap (subtree a) m))

  at_second : (p : ℕ) (h : Head) (a b : Tree) → StandsAt p (Node h a b) → StandsAt (second_place p h a) b
  unfolding size subtree
  at_second p h a b s q l =
      let n : p + weight h + size a + q ≡ p + (weight h + size a + q) = omega arith in
      let m : weight h + size a + q - (weight h + size a) ≡ q = omega arith in
      ap (subtree game) n
      ∙ (s (weight h + size a + q) (omega (arith, l)) ∙ (ap₂ (λ v w. cond v (Some (Node h a b)) (cond w (subtree a (weight h + size a + q - weight h)) (subtree b (weight h + size a + q - (weight h + size a))))) (le-ltb (weight h + size a + q) (weight h) (omega arith)) (le-ltb (weight h + size a + q) (weight h + size a) (omega arith))
      ∙ ap (subtree b) m))

  from : (rs : List (ℕ × ℕ)) (p : ℕ) (t : Tree) → StandsAt p t → AllByRecursion IsPlaced (definitions_from rs p x t)
  unfolding definitions_from
  from rs p Empty s = tt
  from rs p (Node h a b) s =
      AllByRecursion_append IsPlaced (definitions_at rs p (Node h a b) x h a) _ (here rs p h a b (at_node p h a b s))
      (AllByRecursion_append IsPlaced (definitions_from rs (first_place p h) x a) _ (from rs (first_place p h) a (at_first p h a b s)) (from (replications_below h rs) (second_place p h a) b (at_second p h a b s)))

  first_placed : (ds : List Definition) (d : Definition) → AllByRecursion IsPlaced ds → first_in ds ≡ Some d → IsPlaced d
  first_placed [] d a e = absurd (cc)
  first_placed (c ∷ ds) d a e = let f : c ≡ d = cc in subst IsPlaced f a.0

pub definition_placed : (game : Tree) (x : ℕ) (d : Definition) → first_in (definitions_of game x) ≡ Some d → subtree game d.place ≡ Some d.tree
definition_placed game x d e = first_placed game x (definitions_of game x) d (from game x [] 0 game (λ q l. ap (subtree game) (zero-add q))) e

-- the place of the process behind a definition, from that of the definition on

body_shift : (p q : ℕ) (b : Tree) → body_place (p + q) b ≡ p + body_place q b
body_shift p q (Node h cells (Node k c body)) = omega arith
body_shift p q (Node h cells Empty) = refl
body_shift p q Empty = refl

second_shift : (p : ℕ) (h : Head) (a : Tree) → second_place p h a ≡ p + second_place 0 h a
second_shift p h a = omega arith

branch_shift : (p : ℕ) (us b : Tree) → process_place p Branch us b ≡ p + process_place 0 Branch us b
branch_shift p us b = ap (λ q. body_place q b) (second_shift p Branch us) ∙ body_shift p (second_place 0 Branch us) b

process_shift : (p : ℕ) (h : Head) (a b : Tree) → process_place p h a b ≡ p + process_place 0 h a b
process_shift p Branch a b = branch_shift p a b
process_shift p h a b = second_shift p h a

body_within : (q : ℕ) (b : Tree) → body_place q b ≤ q + size b
unfolding size
body_within q (Node h cells (Node k c body)) = omega arith
body_within q (Node h cells Empty) = omega arith
body_within q Empty = omega arith

second_within : (p : ℕ) (h : Head) (a b : Tree) → second_place p h a + size b ≡ p + size (Node h a b)
unfolding size
second_within p h a b = omega arith

second_below : (p : ℕ) (h : Head) (a b : Tree) → second_place p h a ≤ p + size (Node h a b)
second_below p h a b = omega (arith, second_within p h a b)

branch_below : (p : ℕ) (us b : Tree) → process_place p Branch us b ≤ p + size (Node Branch us b)
branch_below p us b = omega (arith, second_within p Branch us b, body_within (second_place p Branch us) b)

process_below : (p : ℕ) (h : Head) (a b : Tree) → process_place p h a b ≤ p + size (Node h a b)
process_below p Branch a b = branch_below p a b
process_below p h a b = second_below p h a b

positive : 0 < 1
positive = omega arith

defining_weight : (h : Head) → can_define h ≡ true → 0 < weight h
defining_weight (In c) e = positive
defining_weight (New x T) e = positive
defining_weight (Let x T) e = positive
defining_weight Branch e = positive
defining_weight (Key x) e = positive
defining_weight (Call x l) e = positive
defining_weight h e = absurd (both_ways _ refl e)

-- what stands behind a definition that stands at a place
pub record Behind (game : Tree) (p : ℕ) (t : Tree) : Type 0 where
  pub within : ℕ
  pub there : behind_at t 0 ≡ Some within
  pub place : behind_at game p ≡ Some (p + within)
  pub small : size t ≤ size game
  pub fits : p + within ≤ size game

module _ (game : Tree) (p : ℕ) where
  by_test : (h : Head) (a b : Tree) (c : Bool) (q : ℕ) → can_define h ≡ c → (if c then Some (process_place p h a b) else None) ≡ Some q → subtree game p ≡ Some (Node h a b) → Behind game p (Node h a b)
  by_test h a b true q d e s =
      let fits = definition_fits game p h a b d s in
      let shift = process_shift p h a b in
      record {
        within = process_place 0 h a b;
        there = ap (option_and_then (place_behind 0)) (subtree_here (Node h a b) h a b 0 0 refl (defining_weight h d)) ∙ ap (λ v. if v then Some (process_place 0 h a b) else None) d;
        place = ap (option_and_then (place_behind p)) s ∙ (ap (λ v. if v then Some (process_place p h a b) else None) d ∙ ap Some shift);
        small = omega (arith, fits);
        fits = omega (arith, fits, shift, process_below p h a b);
      }
  by_test h a b false q d e s = absurd (cc)

  pub behind_definition : (t : Tree) (q : ℕ) → subtree game p ≡ Some t → behind_at game p ≡ Some q → Behind game p t
  behind_definition Empty q s e = absurd (let f : None ≡ Some q = sym (ap (option_and_then (place_behind p)) s) ∙ e in cc)
  behind_definition (Node h a b) q s e = by_test h a b (can_define h) q refl (sym (ap (option_and_then (place_behind p)) s) ∙ e) s

past_end : (trees : List KindTree) (n : NodeId) → length trees ≤ n.0 → tree_at trees (Some n) ≡ Empty
unfolding tree_of
past_end trees n l = ap tree_of (get_or_past trees n.0 NoTree l)

-- a node with a process behind it is live
pub live_root : (trees : List KindTree) (n : NodeId) (w : ℕ) → behind_at (tree_at trees (Some n)) 0 ≡ Some w → n.0 < length trees
unfolding subtree
live_root trees n w e = go (nat_lt n.0 (length trees)) refl
  where
    go : (b : Bool) → nat_lt n.0 (length trees) ≡ b → n.0 < length trees
    go true l = ltb-true n.0 (length trees) l
    go false l = absurd (let f : None ≡ Some w = sym (ap (λ t. behind_at t 0) (past_end trees n (ltb-false n.0 (length trees) l))) ∙ e in cc)

pub within_same : (t : Tree) (v w : ℕ) → Some v ≡ behind_at t 0 → behind_at t 0 ≡ Some w → v ≡ w
within_same t v w e f = let g : Some v ≡ Some w = e ∙ f in cc

pub no_process : (t : Tree) (w : ℕ) (o : Option ℕ) → o ≡ behind_at t 0 → o ≡ None → behind_at t 0 ≡ Some w → ⊥
no_process t w o e n f = let g : None ≡ Some w = sym n ∙ (e ∙ f) in cc
