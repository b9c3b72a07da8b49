-- In a well-formed game a service may come to each output process.
use Rattle.std.proofs.Common.{◌≡◌, ℕ, ◌+◌, ◌-◌, ◌<◌, ◌≤◌, Bool, true, false, cond, ◌⊎◌, inl, inr, Option, Some, None, refl, sym, ap, ap₂, ◌∙◌, arith, nat_lt, ltb, ltb-true, ltb-false, le-ltb, lt-ltb}
use Rattle.std.proofs.lemmas.Bool.{both_ways, and_parts}
use Rattle.cv_syntax_trees.specs.declared.head.Head.{Head}
use Rattle.cv_syntax_trees.specs.declared.head.Head.TheVariants.{Stop, Yield, Par, Repl, In, Out, Event, New, Let, If, Find, Branch, Cons}
use Rattle.cv_syntax_trees.specs.Head.{weight}
use Rattle.cv_syntax_trees.specs.Tree.{Tree, Empty, Node, size, subtree}
use Rattle.cv_meaning_runs.specs.Replacement as runs
use Rattle.cv_meaning_runs.specs.Replacement.{Process, IsReplaced, in_first, before_body, may_come}
use Rattle.cv_meaning.specs.Replaced.{is_output}
use Rattle.cv_meaning_runs.proofs.Places.{replaced_where}
use Rattle.cv_scope_rules.specs.Phrases.{Phrase, Nil, Inputs, Body, Then, Else, Branches, Arm, Pattern, Message, Binders, Cells, Terms, Term, is_phrase}
use Rattle.cv_scene.specs.Scenes.{or_empty, part_at}
use Rattle.cv_steps.specs.Changes.{change_at}
use Rattle.cv_steps.proofs.Flat.{is_flat, flat_output, guarded_of, guards_of}
use Rattle.cv_syntax_trees.proofs.lists.Numbers.{below_or_not}

subtree_second : (h : Head) (a b : Tree) (p q : ℕ) → weight h + size a + q ≡ p → subtree (Node h a b) p ≡ subtree b q
unfolding subtree
subtree_second h a b p q e =
    ap₂ (λ v w. cond v (Some (Node h a b)) (cond w (subtree a (p - weight h)) (subtree b (p - (weight h + size a))))) (le-ltb p (weight h) (omega arith)) (le-ltb p (weight h + size a) (omega arith))
    ∙ ap (subtree b) (omega arith)

subtree_first : (h : Head) (a b : Tree) (p q : ℕ) → weight h + q ≡ p → q < size a → subtree (Node h a b) p ≡ subtree a q
unfolding subtree
subtree_first h a b p q e l =
    ap₂ (λ v w. cond v (Some (Node h a b)) (cond w (subtree a (p - weight h)) (subtree b (p - (weight h + size a))))) (le-ltb p (weight h) (omega arith)) (lt-ltb p (weight h + size a) (omega arith))
    ∙ ap (subtree a) (omega arith)

subtree_here : (h : Head) (a b : Tree) (p : ℕ) → p < weight h → subtree (Node h a b) p ≡ Some (Node h a b)
unfolding subtree
subtree_here h a b p l = ap (λ v. cond v (Some (Node h a b)) (cond (nat_lt p (weight h + size a)) (subtree a (p - weight h)) (subtree b (p - (weight h + size a))))) (lt-ltb p (weight h) l)

module _ (old : Tree) (o : is_output old ≡ true) where
  abbrev StandsAt : Tree → ℕ → Type 0
  StandsAt t p = subtree t p ≡ Some old

  not_in : (σ : Phrase) → is_flat σ ≡ true → (t : Tree) → is_phrase σ t ≡ true → (p : ℕ) → StandsAt t p → ⊥
  not_in σ f t e p s = flat_output σ t p old f e s o

  -- where it stands behind or in a construct
  comes_node : (h : Head) (a b : Tree) (p : ℕ) → (StandsAt a (p - weight h) → in_first h (may_come Process a (p - weight h)) (may_come runs.Branches a (p - weight h)) ≡ true) → (StandsAt b (p - (weight h + size a)) → may_come Process b (p - (weight h + size a)) ≡ true)
      → StandsAt (Node h a b) p → may_come Process (Node h a b) p ≡ true
  unfolding may_come subtree
  comes_node h a b p f k s = go (nat_lt p (weight h)) (nat_lt p (weight h + size a)) s
    where
      go : (v w : Bool) → cond v (Some (Node h a b)) (cond w (subtree a (p - weight h)) (subtree b (p - (weight h + size a)))) ≡ Some old
          → cond v true (cond w (in_first h (may_come Process a (p - weight h)) (may_come runs.Branches a (p - weight h))) (may_come Process b (p - (weight h + size a)))) ≡ true
      go true w e = refl
      go false true e = f e
      go false false e = k e

  -- not before the body of a branch
  not_before : (bs ds m b : Tree) (p : ℕ) → is_phrase Binders bs ≡ true → is_phrase Cells ds ≡ true → is_phrase Term m ≡ true → p < before_body bs ds m → StandsAt (Node Branch bs (Node Cons ds (Node Cons m b))) p → ⊥
  not_before bs ds m b p x y z l s = here (below_or_not p 1)
    where
      guarded : Tree
      guarded = Node Cons m b

      guards : Tree
      guards = Node Cons ds guarded

      in_guarded : (q : ℕ) → q < size m → StandsAt guarded q → ⊥
      in_guarded q k t = not_in Term refl m z q (sym (subtree_first Cons m b q q (omega arith) k) ∙ t)

      in_guards : (q : ℕ) → q < size ds + size m → StandsAt guards q → (q < size ds) ⊎ (size ds ≤ q) → ⊥
      in_guards q k t (inl w) = not_in Cells refl ds y q (sym (subtree_first Cons ds guarded q q (omega arith) w) ∙ t)
      in_guards q k t (inr w) = in_guarded (q - size ds) (omega arith) (sym (subtree_second Cons ds guarded q (q - size ds) (omega arith)) ∙ t)

      behind : 1 ≤ p → (p < 1 + size bs) ⊎ (1 + size bs ≤ p) → ⊥
      behind k (inl w) = not_in Binders refl bs x (p - 1) (sym (subtree_first Branch bs guards p (p - 1) (omega arith) (omega arith)) ∙ s)
      behind k (inr w) =
          let q : ℕ = p - (1 + size bs) in
          in_guards q (omega arith) (sym (subtree_second Branch bs guards p q (omega arith)) ∙ s) (below_or_not q (size ds))

      here : (p < 1) ⊎ (1 ≤ p) → ⊥
      here (inl k) = let i : Node Branch bs guards ≡ old = let j : Some (Node Branch bs guards) ≡ Some old = sym (subtree_here Branch bs guards p k) ∙ s in cc in both_ways false refl (ap is_output i ∙ o)
      here (inr k) = behind k (below_or_not p (1 + size bs))

  comes_branch : (bs ds m b more : Tree) (p : ℕ) → is_phrase Binders bs ≡ true → is_phrase Cells ds ≡ true → is_phrase Term m ≡ true
      → ((q : ℕ) → StandsAt b q → may_come Process b q ≡ true) → ((q : ℕ) → StandsAt more q → may_come runs.Branches more q ≡ true)
      → StandsAt (Node Cons (Node Branch bs (Node Cons ds (Node Cons m b))) more) p → may_come runs.Branches (Node Cons (Node Branch bs (Node Cons ds (Node Cons m b))) more) p ≡ true
  unfolding may_come size
  comes_branch bs ds m b more p x y z f k s = go (nat_lt p before) (nat_lt p (before + size b)) refl refl
    where
      before : ℕ
      before = before_body bs ds m

      guarded : Tree
      guarded = Node Cons m b

      guards : Tree
      guards = Node Cons ds guarded

      arm : Tree
      arm = Node Branch bs guards

      go : (v w : Bool) → ltb p before ≡ v → ltb p (before + size b) ≡ w → cond v false (cond w (may_come Process b (p - before)) (may_come runs.Branches more (p - (before + size b)))) ≡ true
      go true w i j =
          let l : p < before_body bs ds m = ltb-true p before i in
          absurd (not_before bs ds m b p x y z l (sym (subtree_first Cons arm more p p (omega arith) (omega arith)) ∙ s))
      go false true i j =
          let l : before_body bs ds m ≤ p = ltb-false p before i in
          let u : p < before_body bs ds m + size b = ltb-true p (before + size b) j in
          let q : ℕ = p - before in
          let in_condition : ℕ = size m + q in
          let in_defined : ℕ = size ds + in_condition in
          f q (
          sym (subtree_second Cons m b in_condition q (omega arith))
          ∙ sym (subtree_second Cons ds guarded in_defined in_condition (omega arith))
          ∙ sym (subtree_second Branch bs guards p in_defined (omega arith))
          ∙ sym (subtree_first Cons arm more p p (omega arith) (omega arith))
          ∙ s)
      go false false i j =
          let l : before_body bs ds m + size b ≤ p = ltb-false p (before + size b) j in
          k (p - (before + size b)) (sym (subtree_second Cons arm more p (p - (before + size b)) (omega arith)) ∙ s)

  abbrev Comes : Phrase → Tree → ℕ → Type 0
  Comes Inputs t p = may_come Process t p ≡ true
  Comes Body t p = may_come Process t p ≡ true
  Comes Then t p = may_come Process t p ≡ true
  Comes Else t p = may_come Process t p ≡ true
  Comes Branches t p = may_come runs.Branches t p ≡ true
  Comes σ t p = Unit {0}

  comes : (σ : Phrase) (t : Tree) → is_phrase σ t ≡ true → (p : ℕ) → StandsAt t p → Comes σ t p
  unfolding is_phrase subtree
  comes Inputs (Node Stop a b) e p s =
      let x = and_parts (is_phrase Nil a) _ e in
      comes_node Stop a b p (λ z. absurd (not_in Nil refl a x.0 _ z)) (λ z. absurd (not_in Nil refl b x.1 _ z)) s
  comes Inputs (Node Par a b) e p s =
      let x = and_parts (is_phrase Inputs a) _ e in
      comes_node Par a b p (comes Inputs a x.0 _) (comes Inputs b x.1 _) s
  comes Inputs (Node (Repl i n) a b) e p s =
      let x = and_parts (is_phrase Nil a) _ e in
      comes_node (Repl i n) a b p (λ z. absurd (not_in Nil refl a x.0 _ z)) (comes Inputs b x.1 _) s
  comes Inputs (Node (In c) a b) e p s =
      let x = and_parts (is_phrase Pattern a) _ e in
      comes_node (In c) a b p (λ z. absurd (not_in Pattern refl a x.0 _ z)) (comes Body b x.1 _) s
  comes Inputs t e p s = absurd (both_ways false refl e)
  comes Body (Node Yield a b) e p s =
      let x = and_parts (is_phrase Nil a) _ e in
      comes_node Yield a b p (λ z. absurd (not_in Nil refl a x.0 _ z)) (λ z. absurd (not_in Nil refl b x.1 _ z)) s
  comes Body (Node (Out c) a b) e p s =
      let x = and_parts (is_phrase Message a) _ e in
      comes_node (Out c) a b p (λ z. absurd (not_in Message refl a x.0 _ z)) (comes Inputs b x.1 _) s
  comes Body (Node (New y T) a b) e p s =
      let x = and_parts (is_phrase Nil a) _ e in
      comes_node (New y T) a b p (λ z. absurd (not_in Nil refl a x.0 _ z)) (comes Body b x.1 _) s
  comes Body (Node (Let y T) a b) e p s =
      let x = and_parts (is_phrase Term a) _ e in
      comes_node (Let y T) a b p (λ z. absurd (not_in Term refl a x.0 _ z)) (comes Body b x.1 _) s
  comes Body (Node (Event v) a b) e p s =
      let x = and_parts (is_phrase Terms a) _ e in
      comes_node (Event v) a b p (λ z. absurd (not_in Terms refl a x.0 _ z)) (comes Body b x.1 _) s
  comes Body (Node If a b) e p s =
      let x = and_parts (is_phrase Term a) _ e in
      comes_node If a b p (λ z. absurd (not_in Term refl a x.0 _ z)) (comes Then b x.1 _) s
  comes Body (Node (Find l) a b) e p s =
      let x = and_parts (is_phrase Branches a) _ e in
      comes_node (Find l) a b p (comes Branches a x.0 _) (comes Body b x.1 _) s
  comes Body t e p s = absurd (both_ways false refl e)
  comes Then (Node Cons a b) e p s =
      let x = and_parts (is_phrase Body a) _ e in
      comes_node Cons a b p (comes Body a x.0 _) (comes Else b x.1 _) s
  comes Then t e p s = absurd (both_ways false refl e)
  comes Else (Node Cons a b) e p s =
      let x = and_parts (is_phrase Body a) _ e in
      comes_node Cons a b p (comes Body a x.0 _) (λ z. absurd (not_in Nil refl b x.1 _ z)) s
  comes Else t e p s = absurd (both_ways false refl e)
  comes Branches Empty e p s = absurd (cc)
  comes Branches (Node Cons (Node Branch bs (Node Cons ds (Node Cons m b))) more) e p s =
      let x = and_parts (is_phrase Arm (Node Branch bs (Node Cons ds (Node Cons m b)))) _ e in
      let y = and_parts (is_phrase Binders bs) _ x.0 in
      let z = and_parts (is_phrase Cells ds) _ y.1 in
      let w = and_parts (is_phrase Term m) _ z.1 in
      comes_branch bs ds m b more p y.0 z.0 w.0 (comes Body b w.1) (comes Branches more x.1) s
  comes Branches (Node Cons (Node Branch bs (Node Cons ds rest)) more) e p s = absurd (both_ways false refl (guarded_of bs ds rest more e))
  comes Branches (Node Cons (Node Branch bs rest) more) e p s = absurd (both_ways false refl (guards_of bs rest more e))
  comes Branches t e p s = absurd (both_ways false refl e)
  comes σ t e p s = tt

pub output_comes : (game : Tree) (p : ℕ) (old : Tree) → is_phrase Inputs game ≡ true → subtree game p ≡ Some old → is_output old ≡ true → may_come Process game p ≡ true
output_comes game p old e s o = comes old o Inputs game e p s

-- an output process at a place, and the game with another one there

stands_there : (game : Tree) (p : ℕ) → is_output (part_at game p) ≡ true → subtree game p ≡ Some (part_at game p)
stands_there game p e = go (subtree game p) refl e
  where
    go : (o : Option Tree) → subtree game p ≡ o → is_output (or_empty o) ≡ true → o ≡ Some (or_empty o)
    go None f e = absurd (both_ways false refl e)
    go (Some b) f e = refl

pub placed : (game : Tree) (p : ℕ) (change : Tree → Tree) → is_phrase Inputs game ≡ true → is_output (part_at game p) ≡ true → IsReplaced (part_at game p) (change (part_at game p)) p Process 0 game (change_at game p change)
placed game p change e o =
    let old : Tree = part_at game p in
    let s : subtree game p ≡ Some old = stands_there game p o in
    replaced_where old (change old) game p (output_comes game p old e s o) s
