-- What stands above a place grows on the way down, and so do the facts there.
use Rattle.std.proofs.Common.{◌≡◌, ℕ, ◌+◌, ◌-◌, ◌<◌, ◌≤◌, List, [], ◌∷◌, ◌++◌, length, length-append, append_assoc, append-nil, take, map, Bool, true, false, nat_lt, ltb-true, ltb-false, Option, Some, None, refl, sym, ap, ap₂, subst, ◌∙◌, arith}
use Rattle.std.specs.Prelude.{◌↔◌, IsNone, option_and_then, option_map, slice_get}
use Rattle.std.proofs.lemmas.List.{map-append}
use Rattle.std.proofs.Math.Seq.{take-append_seam}
use Rattle.cv_pool.specs.declared.node.NodeId.{NodeId}
use Rattle.cv_pool.specs.KindTree.{KindTree}
use Rattle.cv_pool.specs.Nodes.{ChildBelow}
use Rattle.cv_syntax_trees.specs.declared.head.Head.{Head}
use Rattle.cv_syntax_trees.specs.declared.head.Head.TheVariants.{Repl, Let, If, Branch, Cons, Eq}
use Rattle.cv_syntax_trees.specs.Head.{weight}
use Rattle.cv_syntax_trees.specs.Tree.{Tree, Empty, Node, size}
use Rattle.cv_syntax.specs.PoolTrees.{tree_at, tree_of}
use Rattle.cv_scope_rules.specs.declared.position.Position.{Position}
use Rattle.cv_scope_rules.specs.declared.position.Position.TheVariants.{Anywhere, Bodies, ElseBody, Guards, Guarded}
use Rattle.cv_scope_rules.specs.Context.{Context, nothing_known, cell_of, first_position, replications_below, second_position}
use Rattle.cv_path.specs.declared.place.Lies.{Lies}
use Rattle.cv_path.specs.declared.place.Lies.TheVariants.{Here, Within, Behind}
use Rattle.cv_path.specs.Places.{LiesAt}
use Rattle.cv_path.proofs.Bounds.{lies_somewhere}
use Rattle.cv_path.proofs.Going.{choice_here, choice_within, choice_behind, less_within, less_behind}
use Rattle.cv_derive_facts.specs.declared.known.Fact.{Fact}
use Rattle.cv_derive_facts.specs.declared.known.Fact.TheVariants as fact
use Rattle.cv_derive_facts.specs.Facts.{AreFactsOf, FactAt, Defines, Holds, Fails, about, facts_at, facts_from, first_facts, second_facts, term_of, fact_of}
use Rattle.cv_scope_rules.specs.Above.{with_held, with_failed, first_standing, second_standing, standing_at, stands_at}
use Rattle.cv_derive_facts.specs.Walks.{above_behind, given_first, given_second, node_of, tested_behind, given_facts, Counts, IsLive, LeadsTo, Tests}

module _ (w : Position) (Γ : Context) (t : Tree) (h : Head) (a b : Tree) (p q : ℕ) (e : t ≡ Node h a b) where
  pub standing_here : LiesAt h a p Here → standing_at w Γ t p ≡ Some Γ
  unfolding standing_at
  standing_here l =
      ap (λ u. standing_at w Γ u p) e
      ∙ choice_here h a p (Some Γ) (standing_at (first_position w h) (first_standing w h Γ) a (p - weight h)) (standing_at (second_position w h) (second_standing w h a Γ) b (p - (weight h + size a))) l

  pub standing_within : LiesAt h a p (Within q) → standing_at w Γ t p ≡ standing_at (first_position w h) (first_standing w h Γ) a q
  unfolding standing_at
  standing_within l =
      ap (λ u. standing_at w Γ u p) e
      ∙ (choice_within h a p (Some Γ) (standing_at (first_position w h) (first_standing w h Γ) a (p - weight h)) (standing_at (second_position w h) (second_standing w h a Γ) b (p - (weight h + size a))) q l
      ∙ ap (standing_at (first_position w h) (first_standing w h Γ) a) (less_within h a p q l))

  pub standing_behind : LiesAt h a p (Behind q) → standing_at w Γ t p ≡ standing_at (second_position w h) (second_standing w h a Γ) b q
  unfolding standing_at
  standing_behind l =
      ap (λ u. standing_at w Γ u p) e
      ∙ (choice_behind h a p (Some Γ) (standing_at (first_position w h) (first_standing w h Γ) a (p - weight h)) (standing_at (second_position w h) (second_standing w h a Γ) b (p - (weight h + size a))) q l
      ∙ ap (standing_at (second_position w h) (second_standing w h a Γ) b) (less_behind h a p q l))

  pub facts_here : LiesAt h a p Here → facts_from w Γ t p ≡ Some []
  unfolding facts_from
  facts_here l =
      ap (λ u. facts_from w Γ u p) e
      ∙ choice_here h a p (Some []) (option_map (λ fs. first_facts w h Γ ++ fs) (facts_from (first_position w h) (first_standing w h Γ) a (p - weight h))) (option_map (λ fs. second_facts w h a b Γ ++ fs) (facts_from (second_position w h) (second_standing w h a Γ) b (p - (weight h + size a)))) l

  pub facts_within : LiesAt h a p (Within q) → facts_from w Γ t p ≡ option_map (λ fs. first_facts w h Γ ++ fs) (facts_from (first_position w h) (first_standing w h Γ) a q)
  unfolding facts_from
  facts_within l =
      ap (λ u. facts_from w Γ u p) e
      ∙ (choice_within h a p (Some []) (option_map (λ fs. first_facts w h Γ ++ fs) (facts_from (first_position w h) (first_standing w h Γ) a (p - weight h))) (option_map (λ fs. second_facts w h a b Γ ++ fs) (facts_from (second_position w h) (second_standing w h a Γ) b (p - (weight h + size a)))) q l
      ∙ ap (λ n. option_map (λ fs. first_facts w h Γ ++ fs) (facts_from (first_position w h) (first_standing w h Γ) a n)) (less_within h a p q l))

  pub facts_behind : LiesAt h a p (Behind q) → facts_from w Γ t p ≡ option_map (λ fs. second_facts w h a b Γ ++ fs) (facts_from (second_position w h) (second_standing w h a Γ) b q)
  unfolding facts_from
  facts_behind l =
      ap (λ u. facts_from w Γ u p) e
      ∙ (choice_behind h a p (Some []) (option_map (λ fs. first_facts w h Γ ++ fs) (facts_from (first_position w h) (first_standing w h Γ) a (p - weight h))) (option_map (λ fs. second_facts w h a b Γ ++ fs) (facts_from (second_position w h) (second_standing w h a Γ) b (p - (weight h + size a)))) q l
      ∙ ap (λ n. option_map (λ fs. second_facts w h a b Γ ++ fs) (facts_from (second_position w h) (second_standing w h a Γ) b n)) (less_behind h a p q l))

pub standing_empty : (w : Position) (Γ : Context) (t : Tree) (p : ℕ) → t ≡ Empty → standing_at w Γ t p ≡ None
unfolding standing_at
standing_empty w Γ t p e = ap (λ u. standing_at w Γ u p) e

pub facts_empty : (w : Position) (Γ : Context) (t : Tree) (p : ℕ) → t ≡ Empty → facts_from w Γ t p ≡ None
unfolding facts_from
facts_empty w Γ t p e = ap (λ u. facts_from w Γ u p) e

-- the replications on the way down

pub held_replications : (Γ : Context) (t : Tree) → (with_held Γ t).replications ≡ Γ.replications
held_replications Γ Empty = refl
held_replications Γ (Node h a b) = refl

pub failed_replications : (Γ : Context) (t : Tree) → (with_failed Γ t).replications ≡ Γ.replications
failed_replications Γ Empty = refl
failed_replications Γ (Node h a b) = refl

pub first_replications : (w : Position) (h : Head) (Γ : Context) → (first_standing w h Γ).replications ≡ Γ.replications
first_replications Bodies Cons Γ = held_replications Γ Γ.tested
first_replications ElseBody Cons Γ = failed_replications Γ Γ.tested
first_replications w Cons Γ = refl
first_replications w h Γ = refl

pub second_replications : (w : Position) (h : Head) (a : Tree) (Γ : Context) → (second_standing w h a Γ).replications ≡ replications_below h Γ.replications
second_replications Guarded Cons a Γ = held_replications (record Γ { cells = Γ.cells ++ Γ.own; own = [] }) a
second_replications Guards Cons a Γ = refl
second_replications w Cons a Γ = refl
second_replications w h a Γ = refl

pub above_length : (h : Head) (rs : List (ℕ × ℕ)) (k : ℕ) → k ≡ length rs → above_behind h k ≡ length (replications_below h rs)
above_length (Repl i n) rs k e = let m : length (rs ++ (i, n) ∷ []) ≡ length rs + 1 = length-append rs ((i, n) ∷ []) in omega arith
above_length h rs k e = e

pub above_grows : (h : Head) (k : ℕ) → above_behind h k ≤ k + weight h
above_grows (Repl i n) k = omega arith
above_grows h k = omega arith

-- what an answer tells is what the node gives

module _ (trees : List KindTree) where
  none_at : tree_at trees None ≡ Empty
  unfolding tree_of
  none_at = refl

  absent : {A : Type 0} (n : NodeId) → (IsNone (Some n) ↔ (tree_at trees (Some n) ≡ Empty)) → tree_at trees (Some n) ≡ Empty → A
  absent n i e = absurd (clash (i.1 e))
    where
      clash : IsNone (Some n) → ⊥
      clash x = cc

  about_fact : (kind : Tree → FactAt) (make : NodeId → Fact) → ((n : NodeId) → fact_of trees (make n) ≡ kind (tree_at trees (Some n))) → (o : Option NodeId) → (IsNone o ↔ (tree_at trees o ≡ Empty)) → given_facts trees (option_map make o) ≡ about kind (tree_at trees o)
  about_fact kind make m None i = sym (ap (about kind) none_at)
  about_fact kind make m (Some n) i = go (tree_at trees (Some n)) refl
    where
      go : (t : Tree) → tree_at trees (Some n) ≡ t → fact_of trees (make n) ∷ [] ≡ about kind (tree_at trees (Some n))
      go Empty e = absent n i e
      go (Node h a b) e = ap (λ f. f ∷ []) (m n ∙ ap kind e) ∙ sym (ap (about kind) e)

  first_given : (w : Position) (h : Head) (Γ : Context) (o : Option NodeId) (k : ℕ) → Tests trees Γ o k → given_facts trees (given_first w h o) ≡ first_facts w h Γ
  first_given Bodies Cons Γ o k i = about_fact Holds fact.Holds (λ n. refl) o i.none ∙ ap (about Holds) (sym i.tree)
  first_given ElseBody Cons Γ o k i = about_fact Fails fact.Fails (λ n. refl) o i.none ∙ ap (about Fails) (sym i.tree)
  first_given w Cons Γ o k i = refl
  first_given w h Γ o k i = refl

  second_given : (w : Position) (n : NodeId) (h : Head) (a : Option NodeId) (b : Tree) (Γ : Context) (k : ℕ) → tree_at trees (Some n) ≡ Node h (tree_at trees a) b → (IsNone a ↔ (tree_at trees a ≡ Empty)) → k ≡ length Γ.replications
      → given_facts trees (given_second w k n h a) ≡ second_facts w h (tree_at trees a) b Γ
  second_given Guarded n Cons a b Γ k e i l = about_fact Holds fact.Holds (λ m. refl) a i
  second_given w n Cons a b Γ k e i l = refl
  second_given w n (Let x T) a b Γ k e i l = ap₂ (λ m t. Defines m t ∷ []) l e
  second_given w n h a b Γ k e i l = refl

  first_tests : (w : Position) (h : Head) (Γ : Context) (o : Option NodeId) (k : ℕ) → Tests trees Γ o k → Tests trees (first_standing w h Γ) o k
  first_tests w h Γ o k i = record { tree = first_tested w h ∙ i.tree; none = i.none; number = i.number ∙ ap length (sym (first_replications w h Γ)) }
    where
      held_tested : (t : Tree) → (with_held Γ t).tested ≡ Γ.tested
      held_tested Empty = refl
      held_tested (Node h a b) = refl

      failed_tested : (t : Tree) → (with_failed Γ t).tested ≡ Γ.tested
      failed_tested Empty = refl
      failed_tested (Node h a b) = refl

      first_tested : (w : Position) (h : Head) → (first_standing w h Γ).tested ≡ Γ.tested
      first_tested Bodies Cons = held_tested Γ.tested
      first_tested ElseBody Cons = failed_tested Γ.tested
      first_tested w Cons = refl
      first_tested w h = refl

  second_tests : (w : Position) (h : Head) (Γ : Context) (a o : Option NodeId) (k : ℕ) → Tests trees Γ o k → (IsNone a ↔ (tree_at trees a ≡ Empty)) → Tests trees (second_standing w h (tree_at trees a) Γ) (tested_behind h a o) (above_behind h k)
  second_tests w h Γ a o k i j = record { tree = (tested w h).0; none = (tested w h).1; number = above_length h Γ.replications k i.number ∙ ap length (sym (second_replications w h (tree_at trees a) Γ)) }
    where
      held_tested : (t : Tree) → (with_held (record Γ { cells = Γ.cells ++ Γ.own; own = [] }) t).tested ≡ Γ.tested
      held_tested Empty = refl
      held_tested (Node h b c) = refl

      tested : (w : Position) (h : Head) → ((second_standing w h (tree_at trees a) Γ).tested ≡ tree_at trees (tested_behind h a o)) × (IsNone (tested_behind h a o) ↔ (tree_at trees (tested_behind h a o) ≡ Empty))
      tested Guarded Cons = (held_tested (tree_at trees a) ∙ i.tree, i.none)
      tested Guards Cons = (i.tree, i.none)
      tested w Cons = (i.tree, i.none)
      tested w If = (refl, j)
      tested w Branch = (i.tree, i.none)
      tested w h = (i.tree, i.none)

  pub nothing_tests : Tests trees nothing_known None 0
  nothing_tests = record { tree = sym none_at; none = ((λ e. none_at), (λ e. refl)); number = refl }

  -- the way leads to the first child
  pub first_leads : (w v : Position) (Γ : Context) (t : Tree) (h : Head) (a b : Option NodeId) (p q : ℕ) (tested : Option NodeId) (k : ℕ) (given : Option Fact)
      → t ≡ Node h (tree_at trees a) (tree_at trees b) → LiesAt h (tree_at trees a) p (Within q) → v ≡ first_position w h → given ≡ given_first w h tested
      → Tests trees Γ tested k → LeadsTo trees (facts_from w Γ t p) (record { at = a; left = q; position = v; tested = tested; above = k }) given
  first_leads w v Γ t h a b p q tested k given e l f g i = record {
    context = first_standing w h Γ;
    tests = first_tests w h Γ tested k i;
    place =
        facts_within w Γ t h (tree_at trees a) (tree_at trees b) p q e l
        ∙ ap₂ (λ (gs : List FactAt) (u : Position). option_map (λ fs. gs ++ fs) (facts_from u (first_standing w h Γ) (tree_at trees a) q)) (sym (ap (given_facts trees) g ∙ first_given w h Γ tested k i)) (sym f);
  }

  -- or to the second
  pub second_leads : (w v : Position) (Γ : Context) (t : Tree) (n : NodeId) (h : Head) (a b : Option NodeId) (p q : ℕ) (tested next : Option NodeId) (k m : ℕ) (given : Option Fact)
      → t ≡ tree_at trees (Some n) → tree_at trees (Some n) ≡ Node h (tree_at trees a) (tree_at trees b) → (IsNone a ↔ (tree_at trees a ≡ Empty)) → LiesAt h (tree_at trees a) p (Behind q)
      → v ≡ second_position w h → given ≡ given_second w k n h a → next ≡ tested_behind h a tested → m ≡ above_behind h k
      → Tests trees Γ tested k → LeadsTo trees (facts_from w Γ t p) (record { at = b; left = q; position = v; tested = next; above = m }) given
  second_leads w v Γ t n h a b p q tested next k m given d e j l f g x y i = record {
    context = second_standing w h (tree_at trees a) Γ;
    tests = subst (λ o. Tests trees (second_standing w h (tree_at trees a) Γ) o m) (sym x) (subst (Tests trees (second_standing w h (tree_at trees a) Γ) (tested_behind h a tested)) (sym y) (second_tests w h Γ a tested k i j));
    place =
        facts_behind w Γ t h (tree_at trees a) (tree_at trees b) p q (d ∙ e) l
        ∙ ap₂ (λ (gs : List FactAt) (u : Position). option_map (λ fs. gs ++ fs) (facts_from u (second_standing w h (tree_at trees a) Γ) (tree_at trees b) q))
        (sym (ap (given_facts trees) g ∙ second_given w n h a (tree_at trees b) Γ k e j i.number)) (sym f);
  }

-- the node of a fact is live

live_about : (n : ℕ) (make : NodeId → Fact) → ((m : NodeId) → node_of (make m) ≡ m.0) → (o : Option NodeId) → ChildBelow n o → IsLive n (option_map make o)
live_about n make e None l = tt
live_about n make e (Some m) l = subst (λ i. i < n) (sym (e m)) l

pub first_live : (n : ℕ) (w : Position) (h : Head) (o : Option NodeId) (given : Option Fact) → given ≡ given_first w h o → ChildBelow n o → IsLive n given
first_live n w h o given e l = subst (IsLive n) (sym e) (go w h)
  where
    go : (w : Position) (h : Head) → IsLive n (given_first w h o)
    go Bodies Cons = live_about n fact.Holds (λ m. refl) o l
    go ElseBody Cons = live_about n fact.Fails (λ m. refl) o l
    go w Cons = tt
    go w h = tt

child_live : (n m : ℕ) (o : Option NodeId) → ChildBelow m o → m < n → ChildBelow n o
child_live n m None l k = tt
child_live n m (Some i) l k = let j : i.0 < m = l in omega arith

pub second_live : (n : ℕ) (w : Position) (above : ℕ) (m : NodeId) (h : Head) (a : Option NodeId) (given : Option Fact) → given ≡ given_second w above m h a → ChildBelow m.0 a → m.0 < n → IsLive n given
second_live n w above m h a given e l k = subst (IsLive n) (sym e) (go w h)
  where
    go : (w : Position) (h : Head) → IsLive n (given_second w above m h a)
    go Guarded Cons = live_about n fact.Holds (λ i. refl) a (child_live n m.0 a l k)
    go w Cons = tt
    go w (Let x T) = k
    go w h = tt

pub tested_live : (n m : ℕ) (h : Head) (a o next : Option NodeId) → next ≡ tested_behind h a o → ChildBelow m a → m < n → ChildBelow n o → ChildBelow n next
tested_live n m h a o next e l k j = subst (ChildBelow n) (sym e) (go h)
  where
    go : (h : Head) → ChildBelow n (tested_behind h a o)
    go If = child_live n m a l k
    go h = j

-- counting

pub none_passed : (trees : List KindTree) (k : ℕ) → Counts trees k [] (record { left = k; fact = None })
none_passed trees k = record { left = let e : k ≡ k - 0 = omega arith in e; fact = refl }

-- one step of the walk behind others

pub passed_append : (passed given : List FactAt) (o : Option (List FactAt)) → option_map (λ fs. passed ++ fs) (option_map (λ fs. given ++ fs) o) ≡ option_map (λ fs. (passed ++ given) ++ fs) o
passed_append passed given None = refl
passed_append passed given (Some fs) = ap Some (sym (append_assoc passed given fs))

pub passed_nil : (o : Option (List FactAt)) → option_map (λ fs. [] ++ fs) o ≡ o
passed_nil None = refl
passed_nil (Some fs) = refl

-- there is no such place
pub no_place : (k : ℕ) (passed : List FactAt) (there o : Option (List FactAt)) → there ≡ None → option_map (λ fs. passed ++ fs) there ≡ o → ◌≡◌ {A = Option FactAt} None (option_and_then (λ fs. slice_get fs (k - 1)) o)
no_place k passed there o e f = ap (option_and_then (λ fs. slice_get fs (k - 1))) (sym (ap (option_map (λ fs. passed ++ fs)) e) ∙ f)

-- the terms of the facts

-- replications stand in front of those below
pub record Extends (rs ss : List (ℕ × ℕ)) : Type 0 where
  pub below : List (ℕ × ℕ)
  pub replications : ss ≡ rs ++ below

extends_refl : (rs ss : List (ℕ × ℕ)) → ss ≡ rs → Extends rs ss
extends_refl rs ss e = record { below = []; replications = e ∙ sym (append-nil rs) }

extends_trans : (rs ss ts : List (ℕ × ℕ)) → Extends rs ss → Extends ss ts → Extends rs ts
extends_trans rs ss ts i j = record { below = i.below ++ j.below; replications = j.replications ∙ (ap (λ l. l ++ j.below) i.replications ∙ append_assoc rs i.below j.below) }

below_extends : (h : Head) (rs : List (ℕ × ℕ)) → Extends rs (replications_below h rs)
below_extends (Repl i n) rs = record { below = (i, n) ∷ []; replications = refl }
below_extends h rs = extends_refl rs rs refl

first_extends : (w : Position) (h : Head) (Γ : Context) → Extends Γ.replications (first_standing w h Γ).replications
first_extends w h Γ = extends_refl Γ.replications (first_standing w h Γ).replications (first_replications w h Γ)

second_extends : (w : Position) (h : Head) (a : Tree) (Γ : Context) → Extends Γ.replications (second_standing w h a Γ).replications
second_extends w h a Γ = subst (Extends Γ.replications) (sym (second_replications w h a Γ)) (below_extends h Γ.replications)

no_context : (Δ : Context) → None ≡ Some Δ → ⊥
no_context Δ x = cc

pub place_extends : (w : Position) (Γ Δ : Context) (t : Tree) (p : ℕ) → standing_at w Γ t p ≡ Some Δ → Extends Γ.replications Δ.replications
place_extends w Γ Δ Empty p e = absurd (no_context Δ (sym (standing_empty w Γ Empty p refl) ∙ e))
place_extends w Γ Δ (Node h a b) p e = go (λ q. place_extends (first_position w h) (first_standing w h Γ) Δ a q) (λ q. place_extends (second_position w h) (second_standing w h a Γ) Δ b q) (lies_somewhere h a p)
  where
    same : Γ ≡ Δ → Extends Γ.replications Δ.replications
    same x = extends_refl Γ.replications Δ.replications (ap (λ (Θ : Context). Θ.replications) (sym x))

    go : ((q : ℕ) → standing_at (first_position w h) (first_standing w h Γ) a q ≡ Some Δ → Extends (first_standing w h Γ).replications Δ.replications) → ((q : ℕ) → standing_at (second_position w h) (second_standing w h a Γ) b q ≡ Some Δ → Extends (second_standing w h a Γ).replications Δ.replications)
        → (l : Lies) × LiesAt h a p l → Extends Γ.replications Δ.replications
    go f g (Here, l) = same (let z = sym (standing_here w Γ (Node h a b) h a b p 0 refl l) ∙ e in cc)
    go f g (Within q, l) = extends_trans Γ.replications (first_standing w h Γ).replications Δ.replications (first_extends w h Γ) (f q (sym (standing_within w Γ (Node h a b) h a b p q refl l) ∙ e))
    go f g (Behind q, l) = extends_trans Γ.replications (second_standing w h a Γ).replications Δ.replications (second_extends w h a Γ) (g q (sym (standing_behind w Γ (Node h a b) h a b p q refl l) ∙ e))

-- what a node gives is a term that stands below it

held_terms : (rs : List (ℕ × ℕ)) (Γ : Context) (t : Tree) → (with_held Γ t).facts ≡ Γ.facts ++ map (term_of rs) (about Holds t)
held_terms rs Γ Empty = sym (append-nil Γ.facts)
held_terms rs Γ (Node h a b) = refl

failed_terms : (rs : List (ℕ × ℕ)) (Γ : Context) (t : Tree) → (with_failed Γ t).facts ≡ Γ.facts ++ map (term_of rs) (about Fails t)
failed_terms rs Γ Empty = sym (append-nil Γ.facts)
failed_terms rs Γ (Node h a b) = refl

first_terms : (rs : List (ℕ × ℕ)) (w : Position) (h : Head) (Γ : Context) → (first_standing w h Γ).facts ≡ Γ.facts ++ map (term_of rs) (first_facts w h Γ)
first_terms rs Bodies Cons Γ = held_terms rs Γ Γ.tested
first_terms rs ElseBody Cons Γ = failed_terms rs Γ Γ.tested
first_terms rs w Cons Γ = sym (append-nil Γ.facts)
first_terms rs w h Γ = sym (append-nil Γ.facts)

second_terms : (rs : List (ℕ × ℕ)) (w : Position) (h : Head) (a b : Tree) (Γ : Context) → take (length Γ.replications) rs ≡ Γ.replications → (second_standing w h a Γ).facts ≡ Γ.facts ++ map (term_of rs) (second_facts w h a b Γ)
second_terms rs Guarded Cons a b Γ e = held_terms rs (record Γ { cells = Γ.cells ++ Γ.own; own = [] }) a
second_terms rs w Cons a b Γ e = sym (append-nil Γ.facts)
second_terms rs w (Let x T) a b Γ e = ap (λ l. Γ.facts ++ Node Eq (cell_of l x) a ∷ []) (sym e)
second_terms rs w h a b Γ e = sym (append-nil Γ.facts)

-- the facts behind others are those that stand there
abbrev Follow : List Tree → Option Context → Option (List FactAt) → Type 0
Follow ts None None = Unit {0}
Follow ts (Some Δ) (Some fs) = Δ.facts ≡ ts ++ map (term_of Δ.replications) fs
Follow ts _ _ = ⊥

follow_more : (ts us : List Tree) (given : List FactAt) (o : Option Context) (fs : Option (List FactAt)) → ((Δ : Context) → o ≡ Some Δ → us ≡ ts ++ map (term_of Δ.replications) given) → Follow us o fs → Follow ts o (option_map (λ gs. given ++ gs) fs)
follow_more ts us given None None e f = tt
follow_more ts us given None (Some fs) e f = absurd f
follow_more ts us given (Some Δ) None e f = absurd f
follow_more ts us given (Some Δ) (Some fs) e f =
    let t = term_of Δ.replications in
    f ∙ (ap (λ l. l ++ map t fs) (e Δ refl) ∙ (append_assoc ts (map t given) (map t fs) ∙ ap (λ l. ts ++ l) (sym (map-append t given fs))))

follow : (w : Position) (Γ : Context) (t : Tree) (p : ℕ) → Follow Γ.facts (standing_at w Γ t p) (facts_from w Γ t p)
follow w Γ Empty p = subst (λ o. Follow Γ.facts o (facts_from w Γ Empty p)) (sym (standing_empty w Γ Empty p refl)) (subst (Follow Γ.facts None) (sym (facts_empty w Γ Empty p refl)) tt)
follow w Γ (Node h a b) p = go (follow (first_position w h) (first_standing w h Γ) a) (follow (second_position w h) (second_standing w h a Γ) b) (lies_somewhere h a p)
  where
    moved : (o u : Option Context) (fs gs : Option (List FactAt)) → o ≡ u → fs ≡ gs → Follow Γ.facts u gs → Follow Γ.facts o fs
    moved o u fs gs e f x = subst (λ v. Follow Γ.facts v fs) (sym e) (subst (Follow Γ.facts u) (sym f) x)

    front : (q : ℕ) (Δ : Context) → standing_at (second_position w h) (second_standing w h a Γ) b q ≡ Some Δ → take (length Γ.replications) Δ.replications ≡ Γ.replications
    front q Δ e =
        let x = extends_trans Γ.replications (second_standing w h a Γ).replications Δ.replications (second_extends w h a Γ) (place_extends (second_position w h) (second_standing w h a Γ) Δ b q e) in
        ap (take (length Γ.replications)) x.replications ∙ take-append_seam Γ.replications x.below

    go : ((q : ℕ) → Follow (first_standing w h Γ).facts (standing_at (first_position w h) (first_standing w h Γ) a q) (facts_from (first_position w h) (first_standing w h Γ) a q))
        → ((q : ℕ) → Follow (second_standing w h a Γ).facts (standing_at (second_position w h) (second_standing w h a Γ) b q) (facts_from (second_position w h) (second_standing w h a Γ) b q))
        → (l : Lies) × LiesAt h a p l → Follow Γ.facts (standing_at w Γ (Node h a b) p) (facts_from w Γ (Node h a b) p)
    go f g (Here, l) = moved _ (Some Γ) _ (Some []) (standing_here w Γ (Node h a b) h a b p 0 refl l) (facts_here w Γ (Node h a b) h a b p 0 refl l) (sym (append-nil Γ.facts))
    go f g (Within q, l) =
        moved _ _ _ _ (standing_within w Γ (Node h a b) h a b p q refl l) (facts_within w Γ (Node h a b) h a b p q refl l)
        (follow_more Γ.facts (first_standing w h Γ).facts (first_facts w h Γ) (standing_at (first_position w h) (first_standing w h Γ) a q) (facts_from (first_position w h) (first_standing w h Γ) a q) (λ Δ e. first_terms Δ.replications w h Γ) (f q))
    go f g (Behind q, l) =
        moved _ _ _ _ (standing_behind w Γ (Node h a b) h a b p q refl l) (facts_behind w Γ (Node h a b) h a b p q refl l)
        (follow_more Γ.facts (second_standing w h a Γ).facts (second_facts w h a b Γ) (standing_at (second_position w h) (second_standing w h a Γ) b q) (facts_from (second_position w h) (second_standing w h a Γ) b q) (λ Δ e. second_terms Δ.replications w h a b Γ (front q Δ e)) (g q))

pub are_facts : (game : Tree) (p : ℕ) → AreFactsOf (stands_at game p) (facts_at game p)
are_facts game p = go (stands_at game p) (facts_at game p) (follow Anywhere nothing_known game p)
  where
    go : (o : Option Context) (fs : Option (List FactAt)) → Follow [] o fs → AreFactsOf o fs
    go None None f = tt
    go None (Some fs) f = absurd f
    go (Some Δ) None f = absurd f
    go (Some Δ) (Some fs) f = f

-- a place stands exactly below the size

pub stands_below : (w : Position) (Γ : Context) (t : Tree) (p : ℕ) → p < size t → (Δ : Context) × (standing_at w Γ t p ≡ Some Δ)
unfolding size
stands_below w Γ Empty p l = absurd (omega (arith, l))
stands_below w Γ (Node h a b) p l = go (stands_below (first_position w h) (first_standing w h Γ) a) (stands_below (second_position w h) (second_standing w h a Γ) b) (lies_somewhere h a p)
  where
    go : ((q : ℕ) → q < size a → (Δ : Context) × (standing_at (first_position w h) (first_standing w h Γ) a q ≡ Some Δ)) → ((q : ℕ) → q < size b → (Δ : Context) × (standing_at (second_position w h) (second_standing w h a Γ) b q ≡ Some Δ))
        → (k : Lies) × LiesAt h a p k → (Δ : Context) × (standing_at w Γ (Node h a b) p ≡ Some Δ)
    go f g (Here, k) = (Γ, standing_here w Γ (Node h a b) h a b p 0 refl k)
    go f g (Within q, k) = let r = f q k.1 in (r.0, standing_within w Γ (Node h a b) h a b p q refl k ∙ r.1)
    go f g (Behind q, k) = let m : weight h + size a + q ≡ p = k in let r = g q (omega arith) in (r.0, standing_behind w Γ (Node h a b) h a b p q refl k ∙ r.1)

stands_past : (w : Position) (Γ : Context) (t : Tree) (p : ℕ) → size t ≤ p → standing_at w Γ t p ≡ None
unfolding size
stands_past w Γ Empty p l = standing_empty w Γ Empty p refl
stands_past w Γ (Node h a b) p l = go (stands_past (second_position w h) (second_standing w h a Γ) b) (lies_somewhere h a p)
  where
    go : ((q : ℕ) → size b ≤ q → standing_at (second_position w h) (second_standing w h a Γ) b q ≡ None) → (k : Lies) × LiesAt h a p k → standing_at w Γ (Node h a b) p ≡ None
    go g (Here, k) = absurd (omega (arith, k, l))
    go g (Within q, k) = let m : weight h + q ≡ p = k.0 in let n : q < size a = k.1 in absurd (omega (arith, l))
    go g (Behind q, k) = let m : weight h + size a + q ≡ p = k in standing_behind w Γ (Node h a b) h a b p q refl k ∙ g q (omega arith)

pub stands_where : (game : Tree) (p : ℕ) → (stands_at game p ≡ None) ↔ (size game ≤ p)
stands_where game p = ((λ e. missing e (nat_lt p (size game)) refl), stands_past Anywhere nothing_known game p)
  where
    missing : stands_at game p ≡ None → (b : Bool) → nat_lt p (size game) ≡ b → size game ≤ p
    missing e true l = absurd (let r = stands_below Anywhere nothing_known game p (ltb-true p (size game) l) in no_context r.0 (sym e ∙ r.1))
    missing e false l = ltb-false p (size game) l

pub ruleset standings = (standing_empty)
