-- The context of a game has a call for each site, by its number.
use Rattle.std.proofs.Common.{◌≡◌, ◌≢◌, ℕ, zero, suc, ◌+◌, ◌<◌, ◌≤◌, ltb, Bool, true, false, cond, ◌==◌, List, [], ◌∷◌, ◌++◌, map, length, Option, Some, None, is_some, refl, sym, ap, ap₂, subst, ◌∙◌, eq-eqb, eqb-true, arith}
use Rattle.std.proofs.lemmas.Bool.{both_ways, and_parts, eqb-false, ltb-true, ltb-false, ne_eqb}
use Rattle.std.proofs.lemmas.List.{length-append}
use Rattle.std.specs.Prelude.{slice_get, option_and_then}
use Rattle.cv_syntax_trees.specs.declared.head.Head.{Head}
use Rattle.cv_syntax_trees.specs.declared.head.Head.TheVariants.{Stop, Yield, Par, Repl, In, Out, Event, New, Let, If, Find, Branch, Cons, Call, Name, Binder, Key}
use Rattle.cv_syntax_trees.specs.Tree.{Tree, Empty, Node, first_place, second_place}
use Rattle.cv_meaning.specs.Interpretation.{Interpretation, Setting}
use Rattle.cv_meaning.specs.Side.{CallNumber}
use Rattle.cv_meaning.specs.Cells.{bounds_under}
use Rattle.cv_meaning.specs.contexts.Bodies.{function_called}
use Rattle.cv_meaning.specs.contexts.Finds.{function_of_site}
use Rattle.cv_meaning.specs.contexts.Groups.{function_at}
use Rattle.cv_meaning.specs.contexts.Sites as numbered
use Rattle.cv_syntax_trees.specs.lists.Options.{first_of}
use Rattle.cv_meaning.specs.contexts.Sites.{bounds_above, is_call, site_numbered, site_with, sites_from}
use Rattle.cv_scope_rules.specs.Context.{cell_of, first_position, replications_below, second_position}
use Rattle.cv_scope_rules.specs.Phrases.{Arm, Binders, Body, Branches, Cells, Else, Guarded, Guards, Indices as Names, Inputs, Nil, Pattern, Message, Term, Terms, Then, is_phrase}
use Rattle.cv_scope_rules.specs.declared.position.Position.{Position}
use Rattle.cv_scope_rules.specs.declared.position.Position.TheVariants as position
use Rattle.cv_scene.specs.Instances.{Call as Found, call_at}
use Rattle.cv_scene.specs.Sites.{Site, is_guard, sites_in}
use Rattle.cv_scene.specs.Contexts.{after_calls, context_in, in_context, is_statement}
use Rattle.cv_scene.specs.Reductions.{Reduction, is_coin, matching, oracles, sites, in_game}
use Rattle.cv_scene.specs.Apt.{has_value, inside}
use Rattle.cv_match_laws.proofs.values.Numbers.{context, count_sites}
use Rattle.cv_syntax_trees.proofs.lists.Places.{length_map}
use Rattle.cv_syntax_trees.proofs.lists.Options.{slice_get_map}

-- a call of the number is there

abbrev IsThere : ℕ → Tree → Type 0
IsThere l t = (g : Setting) (bs : List ℕ) → is_some (bounds_above g bs l t) ≡ true

there_here : (x l : ℕ) (a b : Tree) → IsThere l (Node (Call x l) a b)
unfolding bounds_above
there_here x l a b g bs = ap (λ c. is_some (cond c (Some bs) (first_of (bounds_above g (bounds_under g bs (Call x l)) l a) (bounds_above g (bounds_under g bs (Call x l)) l b)))) (eq-eqb l l refl)

there_first : (l : ℕ) (h : Head) (a b : Tree) → IsThere l a → IsThere l (Node h a b)
unfolding bounds_above
there_first l h a b k g bs = go (is_call l h) (bounds_above g (bounds_under g bs h) l a) (k g (bounds_under g bs h))
  where
    go : (c : Bool) (o : Option (List ℕ)) → is_some o ≡ true → is_some (cond c (Some bs) (first_of o (bounds_above g (bounds_under g bs h) l b))) ≡ true
    go true o e = refl
    go false (Some x) e = refl
    go false None e = absurd (both_ways false refl e)

there_second : (l : ℕ) (h : Head) (a b : Tree) → IsThere l b → IsThere l (Node h a b)
unfolding bounds_above
there_second l h a b k g bs = go (is_call l h) (bounds_above g (bounds_under g bs h) l a) (k g (bounds_under g bs h))
  where
    go : (c : Bool) (o : Option (List ℕ)) → is_some (bounds_above g (bounds_under g bs h) l b) ≡ true → is_some (cond c (Some bs) (first_of o (bounds_above g (bounds_under g bs h) l b))) ≡ true
    go true o e = refl
    go false (Some x) e = refl
    go false None e = e

after_there : (answer : ℕ → ℕ) (ss : List Site) (j l : ℕ) (T : Tree) → IsThere l T → IsThere l (after_calls answer j ss T)
after_there answer [] j l T k = k
after_there answer (s ∷ ss) j l T k = there_second l (Call (answer j) j) _ _ (after_there answer ss (suc j) l T k)

calls_there : (answer : ℕ → ℕ) (ss : List Site) (j l : ℕ) (T : Tree) → j ≤ l → l < j + length ss → IsThere l (after_calls answer j ss T)
calls_there answer [] j l T d e = absurd (omega arith)
calls_there answer (s ∷ ss) j l T d e = go (l == j) refl (λ f. calls_there answer ss (suc j) l T (let n : l ≢ j = f in omega arith) (omega arith))
  where
    go : (c : Bool) → (l == j) ≡ c → (l ≢ j → IsThere l (after_calls answer (suc j) ss T)) → IsThere l (after_calls answer j (s ∷ ss) T)
    go true f ih = subst (λ n. IsThere n (after_calls answer j (s ∷ ss) T)) (sym (eqb-true l j f)) (there_here (answer j) j _ _)
    go false f ih = there_second l (Call (answer j) j) _ _ (ih (eqb-false l j f))

module _ (r : Reduction) (terms : (t : Tree) → has_value t ≡ false → call_at (matching r) t ≡ None) where
  abbrev S : Position → List (ℕ × ℕ) → Tree → List Site
  S w rs t = sites_in (matching r) w rs 0 t

  in_second : (l : ℕ) (h : Head) (A B : Tree) → IsThere l B → IsThere l (in_context (matching r) (is_coin r) h A B)
  in_second l (New y T) A B k = go (y == r.key) (is_coin r y)
    where
      go : (b c : Bool) → IsThere l (cond b (Node (Key y) Empty B) (cond c B (Node (New y T) A B)))
      go true c = there_second l (Key y) Empty B k
      go false true = k
      go false false = there_second l (New y T) A B k
  in_second l h A B k = there_second l h A B k

  sites_of_node : (w : Position) (rs : List (ℕ × ℕ)) (h : Head) (a b : Tree) → has_value (Node h a b) ≡ false
      → length (S w rs (Node h a b)) ≡ length (inside r w rs h a) + length (S (second_position w h) (replications_below h rs) b)
  unfolding sites_in
  sites_of_node w rs h a b e =
      ap (λ (o : Option Found). length (elim o as (λ _. List Site) [
        | Some c ↦ record { place = 0; term = Node h a b; replications = rs; call = c } ∷ []
        | None ↦ cond (is_guard w) [] (sites_in (matching r) (first_position w h) rs (first_place 0 h) a) ++ sites_in (matching r) (second_position w h) (replications_below h rs) (second_place 0 h a) b
      ])) (terms (Node h a b) e)
      ∙ length-append (cond (is_guard w) [] (sites_in (matching r) (first_position w h) rs (first_place 0 h) a)) _
      ∙ ap₂ ◌+◌ (first (is_guard w)) (count_sites (matching r) (second_position w h) (replications_below h rs) b (second_place 0 h a) 0)
    where
      first : (z : Bool) → length (cond z [] (sites_in (matching r) (first_position w h) rs (first_place 0 h) a)) ≡ length (cond z [] (sites_in (matching r) (first_position w h) rs 0 a))
      first true = refl
      first false = count_sites (matching r) (first_position w h) rs a (first_place 0 h) 0

  no_sites : (w : Position) (rs : List (ℕ × ℕ)) → length (S w rs Empty) ≡ 0
  unfolding sites_in
  no_sites w rs = refl

  -- a node of a process

  node_at : (w : Position) (rs : List (ℕ × ℕ)) (j : ℕ) (h : Head) (a b : Tree) → has_value (Node h a b) ≡ false
      → context r w rs j (Node h a b) ≡ after_calls r.answer j (cond (is_statement h) (inside r w rs h a) [])
      (in_context (matching r) (is_coin r) h (cond (is_guard w) a (context r (first_position w h) rs j a)) (context r (second_position w h) (replications_below h rs) (j + length (inside r w rs h a)) b))
  unfolding context_in
  node_at w rs j h a b e =
      ap (λ (o : Option Found). elim o as (λ _. Tree) [
        | Some c ↦ cell_of rs (r.answer j)
        | None ↦ after_calls r.answer j (cond (is_statement h) (inside r w rs h a) [])
            (in_context (matching r) (is_coin r) h (cond (is_guard w) a (context r (first_position w h) rs j a)) (context r (second_position w h) (replications_below h rs) (j + length (inside r w rs h a)) b))
      ]) (terms (Node h a b) e)

  node_there : (w : Position) (rs : List (ℕ × ℕ)) (j l : ℕ) (h : Head) (a b : Tree) → has_value (Node h a b) ≡ false → j ≤ l → l < j + length (S w rs (Node h a b))
      → (l < j + length (inside r w rs h a) → IsThere l (after_calls r.answer j (cond (is_statement h) (inside r w rs h a) []) (in_context (matching r) (is_coin r) h (cond (is_guard w) a (context r (first_position w h) rs j a)) (context r (second_position w h) (replications_below h rs) (j + length (inside r w rs h a)) b))))
      → (j + length (inside r w rs h a) ≤ l → l < (j + length (inside r w rs h a)) + length (S (second_position w h) (replications_below h rs) b) → IsThere l (context r (second_position w h) (replications_below h rs) (j + length (inside r w rs h a)) b))
      → IsThere l (context r w rs j (Node h a b))
  node_there w rs j l h a b e d f first second =
      subst (IsThere l) (sym (node_at w rs j h a b e)) (go (ltb l (j + length (inside r w rs h a))) refl)
    where
      more : l < (j + length (inside r w rs h a)) + length (S (second_position w h) (replications_below h rs) b)
      more = let z = sites_of_node w rs h a b e in omega arith

      go : (c : Bool) → ltb l (j + length (inside r w rs h a)) ≡ c
          → IsThere l (after_calls r.answer j (cond (is_statement h) (inside r w rs h a) []) (in_context (matching r) (is_coin r) h (cond (is_guard w) a (context r (first_position w h) rs j a)) (context r (second_position w h) (replications_below h rs) (j + length (inside r w rs h a)) b)))
      go true z = first (ltb-true l (j + length (inside r w rs h a)) z)
      go false z = after_there r.answer (cond (is_statement h) (inside r w rs h a) []) j l _ (in_second l h _ _ (second (ltb-false l (j + length (inside r w rs h a)) z) more))

  -- phrases without terms

  nil_sites : (rs : List (ℕ × ℕ)) (a : Tree) → is_phrase Nil a ≡ true → length (S position.Anywhere rs a) ≡ 0
  unfolding is_phrase
  nil_sites rs Empty e = no_sites position.Anywhere rs
  nil_sites rs (Node h a b) e = absurd (both_ways false refl e)

  names_sites : (rs : List (ℕ × ℕ)) (a : Tree) → is_phrase Names a ≡ true → length (S position.Anywhere rs a) ≡ 0
  unfolding is_phrase
  names_sites rs Empty e = no_sites position.Anywhere rs
  names_sites rs (Node (Name x) a b) e =
      let p = and_parts (is_phrase Nil a) _ e in
      sites_of_node position.Anywhere rs (Name x) a b refl ∙ ap₂ ◌+◌ (nil_sites rs a p.0) (names_sites rs b p.1)
  names_sites rs (Node h a b) e = absurd (both_ways false refl e)

  binders_sites : (rs : List (ℕ × ℕ)) (a : Tree) → is_phrase Binders a ≡ true → length (S position.Anywhere rs a) ≡ 0
  unfolding is_phrase
  binders_sites rs Empty e = no_sites position.Anywhere rs
  binders_sites rs (Node (Binder x T) a b) e =
      let p = and_parts (is_phrase Nil a) _ e in
      sites_of_node position.Anywhere rs (Binder x T) a b refl ∙ ap₂ ◌+◌ (nil_sites rs a p.0) (binders_sites rs b p.1)
  binders_sites rs (Node h a b) e = absurd (both_ways false refl e)

  pattern_sites : (rs : List (ℕ × ℕ)) (a : Tree) → is_phrase Pattern a ≡ true → length (S position.Anywhere rs a) ≡ 0
  unfolding is_phrase
  pattern_sites rs (Node Cons a b) e =
      let p = and_parts (is_phrase Names a) _ e in
      sites_of_node position.Anywhere rs Cons a b refl ∙ ap₂ ◌+◌ (names_sites rs a p.0) (binders_sites rs b p.1)
  pattern_sites rs a e = absurd (both_ways false refl e)

  none_there : (j l n : ℕ) (T : Tree) → n ≡ 0 → j ≤ l → l < j + n → IsThere l T
  none_there j l n T e d f = absurd (omega arith)

  -- each phrase of processes

  abbrev HasCalls : Position → Tree → Type 0
  HasCalls w t = (rs : List (ℕ × ℕ)) (j l : ℕ) → j ≤ l → l < j + length (S w rs t) → IsThere l (context r w rs j t)

  mutual
    unfolding is_phrase

    pub inputs_there : (t : Tree) → is_phrase Inputs t ≡ true → HasCalls position.Anywhere t
    inputs_there (Node Stop a b) e rs j l d f =
        let p = and_parts (is_phrase Nil a) _ e in
        node_there position.Anywhere rs j l Stop a b refl d f (λ z. none_there j l _ _ (nil_sites rs a p.0) d z) (λ c z. none_there _ l _ _ (nil_sites rs b p.1) c z)
    inputs_there (Node Par a b) e rs j l d f =
        let p = and_parts (is_phrase Inputs a) _ e in
        node_there position.Anywhere rs j l Par a b refl d f (λ z. there_first l Par _ _ (inputs_there a p.0 rs j l d z)) (λ c z. inputs_there b p.1 rs _ l c z)
    inputs_there (Node (Repl x n) a b) e rs j l d f =
        let p = and_parts (is_phrase Nil a) _ e in
        node_there position.Anywhere rs j l (Repl x n) a b refl d f (λ z. none_there j l _ _ (nil_sites rs a p.0) d z) (λ c z. inputs_there b p.1 (rs ++ (x, n) ∷ []) _ l c z)
    inputs_there (Node (In c) a b) e rs j l d f =
        let p = and_parts (is_phrase Pattern a) _ e in
        node_there position.Anywhere rs j l (In c) a b refl d f (λ z. none_there j l _ _ (pattern_sites rs a p.0) d z) (λ c z. body_there b p.1 rs _ l c z)
    inputs_there t e rs j l d f = absurd (both_ways false refl e)

    body_there : (t : Tree) → is_phrase Body t ≡ true → HasCalls position.Anywhere t
    body_there (Node Yield a b) e rs j l d f =
        let p = and_parts (is_phrase Nil a) _ e in
        node_there position.Anywhere rs j l Yield a b refl d f (λ z. none_there j l _ _ (nil_sites rs a p.0) d z) (λ c z. none_there _ l _ _ (nil_sites rs b p.1) c z)
    body_there (Node (New x T) a b) e rs j l d f =
        let p = and_parts (is_phrase Nil a) _ e in
        node_there position.Anywhere rs j l (New x T) a b refl d f (λ z. none_there j l _ _ (nil_sites rs a p.0) d z) (λ c z. body_there b p.1 rs _ l c z)
    body_there (Node (Let x T) a b) e rs j l d f =
        let p = and_parts (is_phrase Term a) _ e in
        node_there position.Anywhere rs j l (Let x T) a b refl d f (λ z. calls_there r.answer (S position.Anywhere rs a) j l _ d z) (λ c z. body_there b p.1 rs _ l c z)
    body_there (Node (Event x) a b) e rs j l d f =
        let p = and_parts (is_phrase Terms a) _ e in
        node_there position.Anywhere rs j l (Event x) a b refl d f (λ z. calls_there r.answer (S position.Anywhere rs a) j l _ d z) (λ c z. body_there b p.1 rs _ l c z)
    body_there (Node (Out x) a b) e rs j l d f =
        let p = and_parts (is_phrase Message a) _ e in
        node_there position.Anywhere rs j l (Out x) a b refl d f (λ z. calls_there r.answer (S position.Anywhere rs a) j l _ d z) (λ c z. inputs_there b p.1 rs _ l c z)
    body_there (Node If a b) e rs j l d f =
        let p = and_parts (is_phrase Term a) _ e in
        node_there position.Anywhere rs j l If a b refl d f (λ z. calls_there r.answer (S position.Anywhere rs a) j l _ d z) (λ c z. then_there b p.1 rs _ l c z)
    body_there (Node (Find x) a b) e rs j l d f =
        let p = and_parts (is_phrase Branches a) _ e in
        node_there position.Anywhere rs j l (Find x) a b refl d f (λ z. there_first l (Find x) _ _ (branches_there a p.0 rs j l d z)) (λ c z. body_there b p.1 rs _ l c z)
    body_there t e rs j l d f = absurd (both_ways false refl e)

    then_there : (t : Tree) → is_phrase Then t ≡ true → HasCalls position.Bodies t
    then_there (Node Cons a b) e rs j l d f =
        let p = and_parts (is_phrase Body a) _ e in
        node_there position.Bodies rs j l Cons a b refl d f (λ z. there_first l Cons _ _ (body_there a p.0 rs j l d z)) (λ c z. else_there b p.1 rs _ l c z)
    then_there t e rs j l d f = absurd (both_ways false refl e)

    else_there : (t : Tree) → is_phrase Else t ≡ true → HasCalls position.ElseBody t
    else_there (Node Cons a b) e rs j l d f =
        let p = and_parts (is_phrase Body a) _ e in
        node_there position.ElseBody rs j l Cons a b refl d f (λ z. there_first l Cons _ _ (body_there a p.0 rs j l d z)) (λ c z. none_there _ l _ _ (nil_sites rs b p.1) c z)
    else_there t e rs j l d f = absurd (both_ways false refl e)

    branches_there : (t : Tree) → is_phrase Branches t ≡ true → HasCalls position.Branches t
    branches_there Empty e rs j l d f = none_there j l _ _ (no_sites position.Branches rs) d f
    branches_there (Node Cons a b) e rs j l d f =
        let p = and_parts (is_phrase Arm a) _ e in
        node_there position.Branches rs j l Cons a b refl d f (λ z. there_first l Cons _ _ (arm_there a p.0 rs j l d z)) (λ c z. branches_there b p.1 rs _ l c z)
    branches_there t e rs j l d f = absurd (both_ways false refl e)

    arm_there : (t : Tree) → is_phrase Arm t ≡ true → HasCalls position.Anywhere t
    arm_there (Node Branch a b) e rs j l d f =
        let p = and_parts (is_phrase Binders a) _ e in
        node_there position.Anywhere rs j l Branch a b refl d f (λ z. none_there j l _ _ (binders_sites rs a p.0) d z) (λ c z. guards_there b p.1 rs _ l c z)
    arm_there t e rs j l d f = absurd (both_ways false refl e)

    guards_there : (t : Tree) → is_phrase Guards t ≡ true → HasCalls position.Guards t
    guards_there (Node Cons a b) e rs j l d f =
        let p = and_parts (is_phrase Cells a) _ e in
        node_there position.Guards rs j l Cons a b refl d f (λ z. none_there j l _ _ refl d z) (λ c z. guarded_there b p.1 rs _ l c z)
    guards_there t e rs j l d f = absurd (both_ways false refl e)

    guarded_there : (t : Tree) → is_phrase Guarded t ≡ true → HasCalls position.Guarded t
    guarded_there (Node Cons a b) e rs j l d f =
        let p = and_parts (is_phrase Term a) _ e in
        node_there position.Guarded rs j l Cons a b refl d f (λ z. none_there j l _ _ refl d z) (λ c z. body_there b p.1 rs _ l c z)
    guarded_there t e rs j l d f = absurd (both_ways false refl e)

-- so each number of a site has its function

module _ (g : Setting) (t : Tree) where
  site_number : (fs : List ℕ) (k n f : ℕ) → slice_get fs n ≡ Some f → ((l : ℕ) → k ≤ l → l < k + length fs → is_some (bounds_above g [] l t) ≡ true)
      → (s : numbered.Site) × (site_numbered (sites_from g t k fs) (k + n) ≡ Some s) × (s.function ≡ f)
  unfolding sites_from
  site_number [] k n f e there = absurd (none e)
    where
      none : ◌≡◌ {A = Option ℕ} None (Some f) → ⊥
      none e = cc
  site_number (x ∷ fs) k zero f e there = here (bounds_above g [] k t) (there k (omega arith) (omega arith))
    where
      here : (o : Option (List ℕ)) → is_some o ≡ true → (s : numbered.Site) × (site_numbered (site_with k x o ++ sites_from g t (suc k) fs) (k + 0) ≡ Some s) × (s.function ≡ f)
      here None z = absurd (both_ways false refl z)
      here (Some b) z =
          let s : numbered.Site = record { number = k; function = x; bounds = b } in
          let same : k ≡ k + 0 = omega arith in
          (s, ap (λ c. cond c (Some s) (site_numbered (sites_from g t (suc k) fs) (k + 0))) (eq-eqb k (k + 0) same), (let i : x ≡ f = cc in i))
  site_number (x ∷ fs) k (suc n) f e there =
      let ih = site_number fs (suc k) n f e (λ l d z. there l (omega arith) (omega arith)) in
      go (bounds_above g [] k t) ih
    where
      go : (o : Option (List ℕ)) → ((s : numbered.Site) × (site_numbered (sites_from g t (suc k) fs) (suc k + n) ≡ Some s) × (s.function ≡ f)) → (s : numbered.Site) × (site_numbered (site_with k x o ++ sites_from g t (suc k) fs) (k + suc n) ≡ Some s) × (s.function ≡ f)
      go None ih = let i : k + suc n ≡ suc k + n = omega arith in (ih.0, ap (site_numbered (sites_from g t (suc k) fs)) i ∙ ih.1, ih.2)
      go (Some b) ih =
          let i : k + suc n ≡ suc k + n = omega arith in
          let apart : (k == k + suc n) ≡ false = ne_eqb k (k + suc n) (λ z. let w : k ≡ k + suc n = z in absurd (omega arith)) in
          (ih.0, ap (λ c. cond c (Some (record { number = k; function = x; bounds = b })) (site_numbered (sites_from g t (suc k) fs) (k + suc n))) apart ∙ ap (site_numbered (sites_from g t (suc k) fs)) i ∙ ih.1, ih.2)

pub called : (r : Reduction) → ((t : Tree) → has_value t ≡ false → call_at (matching r) t ≡ None) → is_phrase Inputs r.scene.game ≡ true → (i : Interpretation) (s : Site) (number : ℕ) (n : CallNumber) → slice_get (sites r) number ≡ Some s
    → function_at (matching r).group s.call.position ≡ Some s.call.function → n.site ≡ number → function_called (oracles r i) n ≡ Some s.call.function
called r terms e i s number n at f z =
    let fs : List ℕ = map (λ (c : Site). c.call.position) (sites r) in
    let found = site_number (in_game r i) (context r position.Anywhere [] 0 r.scene.game) fs 0 number s.call.position (slice_get_map (λ (c : Site). c.call.position) (sites r) number s at)
    (λ l d k. inputs_there r terms r.scene.game e [] 0 l d (let w : length (map (λ (c : Site). c.call.position) (sites r)) ≡ length (sites r) = length_map (λ (c : Site). c.call.position) (sites r) in omega arith) (in_game r i) []) in
    ap (λ k. option_and_then (function_of_site (oracles r i)) (site_numbered (oracles r i).sites k)) (z ∙ (let w : number ≡ 0 + number = omega arith in w))
    ∙ ap (option_and_then (function_of_site (oracles r i))) found.1
    ∙ ap (function_at (matching r).group) found.2
    ∙ f
