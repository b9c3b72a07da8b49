-- Where the index variables of a branch are named at its place and by reads at the current indices in it alone, and no list has a cell
-- of one.
use Rattle.std.proofs.Common.{◌≡◌, ℕ, ◌<◌, ◌≤◌, ◌==◌, ◌&&◌, ◌||◌, not, Bool, true, false, cond, List, [], ◌∷◌, ◌⊎◌, inl, inr, Option, Some, None, refl, sym, ap, ap₂, subst, ◌∙◌, arith, eqb-true}
use Rattle.std.proofs.lemmas.Bool.{both_ways, and_parts, or_cases, or_left, or_right}
use Rattle.std.proofs.lemmas.List.Folds.{list_any-append}
use Rattle.std.specs.List.{AllByRecursion, list_any}
use Rattle.cv_syntax_trees.specs.declared.head.Head.{Head}
use Rattle.cv_syntax_trees.specs.declared.head.Head.TheVariants.{Repl, In, New, Let, Branch, Leaf, Read, Binder, Key, Call}
use Rattle.cv_syntax_trees.specs.Head.{weight}
use Rattle.cv_syntax_trees.specs.Tree.{Tree, Empty, Node, first_place, head_reads_only, reads_only, same_tree, second, second_place}
use Rattle.cv_syntax_trees.proofs.Equality.{same_tree_exact}
use Rattle.cv_syntax_trees.specs.sites.Sites.{first_of}
use Rattle.cv_meaning.specs.Interpretation.{Setting}
use Rattle.cv_meaning_chances.specs.unread.Dropping.{reads_none}
use Rattle.cv_scope_rules.specs.Context.{Context, replications_below}
use Rattle.cv_scope_rules.specs.Made.{is_bound, made_by}
use Rattle.cv_scope_rules.specs.Phrases.{Phrase}
use Rattle.cv_scope_rules.specs.Rules.{InReach, is_index}
use Rattle.cv_scope_rules.specs.Scope.{is_variable}
use Rattle.cv_scope_rules.specs.Sites.{Variable}
use Rattle.cv_scope_rules.specs.Tests.{reads_in_reach}
use Rattle.cv_scope_rules.proofs.Apart.{first_replications, second_replications}
use Rattle.cv_scope_rules.proofs.Decided.{reach_found}
use Rattle.cv_scope_runs.proofs.Contexts.{game_names, not_constant}
use Rattle.cv_scope_runs.proofs.Games.{Game, has_parts, new_index, stands_phrase}
use Rattle.cv_scope_runs.proofs.Rows.{position_of}
use Rattle.cv_scope_runs.proofs.Standing.{Stands, root, in_first, in_second}
use Rattle.cv_scene.specs.Instances.{is_read_of}
use Rattle.cv_scene.specs.Sights.{variable_of}
use Rattle.cv_steps.specs.Unletting.{has_cell_of, is_listed}
use Rattle.cv_steps_derivations.proofs.unletting.Lists.{adds_none, unlisted}
use Rattle.cv_steps_derivations.proofs.unletting.Reach.{first_reach, second_reach}
use Rattle.cv_steps_derivations.proofs.unletting.Sites.{part_there}
use Rattle.cv_costs.specs.names.Reach.{is_in_scope}
use Rattle.cv_costs.specs.names.Naming.{binds_one, first_naming, is_between, names_one}
use Rattle.cv_rule_move.proofs.merge.Named.{IsUnnamed, parts_unnamed}
use Rattle.cv_rule_pick.specs.Picking.{first_cell, first_listed, is_inside, is_one, lesser, term_of, with_terms}
use Rattle.cv_rule_pick_laws.proofs.Terms.{AllBoth, IsRead, reads, term_has, with_kept, with_term}

-- no place

pub none_of : (o q : Option ℕ) → first_of o q ≡ None → (o ≡ None) × (q ≡ None)
none_of None q e = (refl, e)
none_of (Some n) q e = absurd (cc)

pub neither : (o q : Option ℕ) → lesser o q ≡ None → (o ≡ None) × (q ≡ None)
neither None q e = (refl, e)
neither (Some n) None e = absurd (cc)
neither (Some n) (Some m) e = absurd (cc)

-- a cell of a list

module _ (xs : ℕ → Bool) (x : ℕ) (k : xs x ≡ true) where
  not_one : (o : Option ℕ) → is_one xs o ≡ false → is_read_of x o ≡ false
  not_one None e = refl
  not_one (Some y) e = go (y == x) refl
    where
      go : (v : Bool) → (y == x) ≡ v → v ≡ false
      go true f = absurd (both_ways (xs y) e (ap xs (eqb-true y x f) ∙ k))
      go false f = refl

  no_cell : (p : ℕ) (t : Tree) → first_cell xs p t ≡ None → has_cell_of x t ≡ false
  no_cell p Empty e = refl
  no_cell p (Node h c more) e = go (is_one xs (variable_of c)) refl e (no_cell (second_place p h c) more)
    where
      go : (v : Bool) → is_one xs (variable_of c) ≡ v → cond v (Some (first_place p h)) (first_cell xs (second_place p h c) more) ≡ None
          → (first_cell xs (second_place p h c) more ≡ None → has_cell_of x more ≡ false) → (is_read_of x (variable_of c) || has_cell_of x more) ≡ false
      go true f e l = absurd (cc)
      go false f e l = ap₂ ◌||◌ (not_one (variable_of c) f) (l e)

  pub not_listed : (p : ℕ) (t : Tree) → first_listed xs p t ≡ None → is_listed x t ≡ false
  unfolding first_listed is_listed
  not_listed p Empty e = refl
  not_listed p (Node Branch us (Node h cells rest)) e =
      let r = none_of (first_cell xs (first_place (second_place p Branch us) h) cells) _ e in
      ap₂ ◌||◌ (no_cell (first_place (second_place p Branch us) h) cells r.0) (not_listed (second_place (second_place p Branch us) h cells) rest r.1)
  not_listed p (Node h a b) e =
      let r = none_of (first_listed xs (first_place p h) a) _ e in
      ap₂ ◌||◌ (not_listed (first_place p h) a r.0) (not_listed (second_place p h a) b r.1)

-- names

skipped : (v w : Bool) → v ≡ true → v && not w ≡ false → w ≡ true
skipped true true n e = refl
skipped true false n e = absurd (both_ways true e refl)
skipped false w n e = absurd (both_ways false refl n)

cell_read : (t : Tree) (ds : List Tree) → AllByRecursion IsRead ds → list_any (same_tree t) ds ≡ true → IsRead t
cell_read t [] r e = absurd (both_ways false refl e)
cell_read t (c ∷ ds) r e = go (same_tree t c) refl e (cell_read t ds r.1)
  where
    go : (v : Bool) → same_tree t c ≡ v → (v || list_any (same_tree t) ds) ≡ true → (list_any (same_tree t) ds ≡ true → IsRead t) → IsRead t
    go true f e l = subst IsRead (sym (same_tree_exact t c f)) r.0
    go false f e l = l e

bound_one : (xs : ℕ → Bool) (bs : Tree) (x : ℕ) → is_bound bs x ≡ true → xs x ≡ true → binds_one xs bs ≡ true
unfolding is_bound
bound_one xs (Node (Binder y T) a b) x e k = go (x == y) refl e (bound_one xs b x)
  where
    go : (v : Bool) → (x == y) ≡ v → (v || is_bound b x) ≡ true → (is_bound b x ≡ true → xs x ≡ true → binds_one xs b ≡ true) → (xs y || binds_one xs b) ≡ true
    go true f e l = or_left (xs y) (binds_one xs b) (ap xs (sym (eqb-true x y f)) ∙ k)
    go false f e l = or_right (xs y) (binds_one xs b) (l e k)
bound_one xs bs x e k = absurd (both_ways false refl e)

made_named : (xs : ℕ → Bool) (h : Head) (a : Tree) (x : ℕ) → made_by h a (Variable x) ≡ true → xs x ≡ true → names_one xs h a ≡ true
made_named xs (New y T) a x e k = ap xs (sym (eqb-true x y e)) ∙ k
made_named xs (Let y T) a x e k = ap xs (sym (eqb-true x y e)) ∙ k
made_named xs (Key y) a x e k = ap xs (sym (eqb-true x y e)) ∙ k
made_named xs (Call y l) a x e k = ap xs (sym (eqb-true x y e)) ∙ k
made_named xs (In c) a x e k = bound_one xs (second a) x e k
made_named xs Branch a x e k = bound_one xs a x e k
made_named xs h a x e k = absurd (both_ways false refl e)

-- what defines a variable has a place, and is no read
pub made_other : (h : Head) (a : Tree) (x : ℕ) → made_by h a (Variable x) ≡ true → (weight h ≡ 1) × (reads h ≡ false)
made_other (New y T) a x e = (refl, refl)
made_other (Let y T) a x e = (refl, refl)
made_other (Key y) a x e = (refl, refl)
made_other (Call y l) a x e = (refl, refl)
made_other (In c) a x e = (refl, refl)
made_other Branch a x e = (refl, refl)
made_other h a x e = absurd (both_ways false refl e)

-- there is a term for each cell
abbrev pub ArePaired : List Tree → Tree → Type 0
ArePaired [] ms = Unit {0}
ArePaired (c ∷ cs) Empty = ⊥
ArePaired (c ∷ cs) (Node h m ms) = ArePaired cs ms

found_term : (t : Tree) (cs : List Tree) (ms : Tree) → ArePaired cs ms → list_any (same_tree t) cs ≡ true → term_of cs ms t ≡ None → ⊥
found_term t [] ms p e n = both_ways false refl e
found_term t (c ∷ cs) Empty p e n = p
found_term t (c ∷ cs) (Node h m ms) p e n = go (same_tree t c) e n (found_term t cs ms p)
  where
    go : (v : Bool) → (v || list_any (same_tree t) cs) ≡ true → cond v (Some m) (term_of cs ms t) ≡ None → (list_any (same_tree t) cs ≡ true → term_of cs ms t ≡ None → ⊥) → ⊥
    go true e n l = absurd (cc)
    go false e n l = l e n

module _ (g : Setting) (game : Tree) (fine : Game g (is_variable game) game) (xs : ℕ → Bool) (cs : List Tree) (arm behind : ℕ) (are : AllByRecursion IsRead cs)
    (named : first_naming xs (is_inside game cs arm behind) 0 game ≡ None) where
  abbrev skip : ℕ → Bool
  skip = is_inside game cs arm behind

  pub unnamed : {q : ℕ} {σ : Phrase} {Γ : Context} {t : Tree} → Stands game q σ Γ t → IsUnnamed xs skip q t
  unnamed root = named
  unnamed (in_first {p = p} {h = h} {a = a} {b = b} e st) = (parts_unnamed xs skip p h a b (unnamed st)).first
  unnamed (in_second {p = p} {h = h} {a = a} {b = b} e st) = (parts_unnamed xs skip p h a b (unnamed st)).second

  -- a node that names one is the branch, or one of the cells
  inside : {q : ℕ} {σ : Phrase} {Γ : Context} {h : Head} {a b : Tree} (st : Stands game q σ Γ (Node h a b)) → names_one xs h a ≡ true → weight h ≡ 1 → (q ≡ arm) ⊎ (list_any (same_tree (Node h a b)) cs ≡ true)
  inside {q = q} {σ = σ} {Γ = Γ} {h = h} {a = a} {b = b} st n w =
      elim (or_cases (q == arm) _ (skipped (names_one xs h a) (skip q) n (parts_unnamed xs skip q h a b (unnamed st)).here)) [
        | inl e ↦ inl (eqb-true q arm e)
        | inr e ↦ inr (ap (λ t. list_any (same_tree t) cs) (sym (part_there game q σ Γ h a b st w)) ∙ (and_parts (is_between arm behind q) _ e).1)
      ]

  -- each is defined there alone
  pub only_there : {q : ℕ} {σ : Phrase} {Γ : Context} {h : Head} {a b : Tree} (st : Stands game q σ Γ (Node h a b)) (x : ℕ) → made_by h a (Variable x) ≡ true → xs x ≡ true → q ≡ arm
  only_there {h = h} {a = a} {b = b} st x m k =
      let o = made_other h a x m in
      elim (inside st (made_named xs h a x m k) o.0) [ inl e ↦ e | inr e ↦ absurd (both_ways (reads h) o.1 (cell_read (Node h a b) cs are e)) ]

  -- above a place before the branch none of their cells is known

  module _ (listed : first_listed xs 0 game ≡ None) (place : ℕ) (before : place < arm) (x : ℕ) (k : xs x ≡ true) where
    abbrev free : is_listed x game ≡ false
    free = not_listed xs x k 0 game listed

    pub above_none : {q : ℕ} {σ : Phrase} {Γ : Context} {t : Tree} → Stands game q σ Γ t → q ≤ place → (c : Tree) → InReach Γ c → variable_of c ≡ Some x → ⊥
    above_none root l c (inl i) v = i
    above_none root l c (inr i) v = i
    above_none (in_first {p = p} {σ = σ} {Γ = Γ} {h = h} e st) l c r v = above_none st (omega arith) c (first_reach (position_of σ) h Γ c r) v
    above_none (in_second {p = p} {σ = σ} {Γ = Γ} {h = h} {a = a} {b = b} e st) l c r v = go (made_by h a (Variable x)) refl (above_none st (omega arith) c)
      where
        go : (w : Bool) → made_by h a (Variable x) ≡ w → (InReach Γ c → variable_of c ≡ Some x → ⊥) → ⊥
        go true m f = let e : p ≡ arm = only_there st x m k in absurd (omega arith)
        go false m f = f (second_reach x (position_of σ) h a Γ m (adds_none x σ h a b (unlisted x game free st)) c v r) v

  -- no index has its name
  module _ (x : ℕ) (variable : is_variable game x ≡ true) where
    index_below : (h : Head) (rs : List (ℕ × ℕ)) → is_index rs x ≡ false → ((i n : ℕ) → h ≡ Repl i n → (i == x) ≡ false) → is_index (replications_below h rs) x ≡ false
    index_below (Repl i n) rs e f = list_any-append (λ (r : ℕ × ℕ). r.0 == x) rs ((i, n) ∷ []) ∙ ap₂ ◌||◌ e (ap₂ ◌||◌ (f i n refl) refl)
    index_below h rs e f = e

    pub no_index : {q : ℕ} {σ : Phrase} {Γ : Context} {t : Tree} → Stands game q σ Γ t → is_index Γ.replications x ≡ false
    no_index root = refl
    no_index (in_first {σ = σ} {Γ = Γ} {h = h} e st) = ap (λ rs. is_index rs x) (first_replications (position_of σ) h Γ) ∙ no_index st
    no_index (in_second {p = p} {σ = σ} {Γ = Γ} {h = h} {a = a} {b = b} e st) =
        ap (λ rs. is_index rs x) (second_replications (position_of σ) h a Γ)
        ∙ index_below h Γ.replications (no_index st) (λ i n f. go i (i == x) refl (new_index g (is_variable game) game fine (subst (λ j. Stands game p σ Γ (Node j a b)) f st)).no_variable)
      where
        go : (i : ℕ) (v : Bool) → (i == x) ≡ v → is_variable game i ≡ false → v ≡ false
        go i true f e = absurd (both_ways (is_variable game x) (ap (is_variable game) (sym (eqb-true i x f)) ∙ e) variable)
        go i false f e = refl

  -- what is in scope there reads none of them
  module _ (Γ : Context) (none : (x : ℕ) → xs x ≡ true → (c : Tree) → InReach Γ c → variable_of c ≡ Some x → ⊥) (index : (x : ℕ) → xs x ≡ true → is_index Γ.replications x ≡ false)
      (variable : (x : ℕ) → xs x ≡ true → is_variable game x ≡ true) where
    head_unread : (h : Head) (a b : Tree) → reads_in_reach (game_names g (is_variable game)) Γ h a b ≡ true → head_reads_only (λ y. not (xs y)) h ≡ true
    head_unread (Leaf y) a b e = go (xs y) refl
      where
        go : (v : Bool) → xs y ≡ v → not v ≡ true
        go false f = refl
        go true f =
            absurd
            (elim (or_cases (is_index Γ.replications y) _ e) [
              | inl i ↦ both_ways (is_index Γ.replications y) (index y f) i
              | inr i ↦ elim (or_cases (g.is_constant y) _ i) [
                | inl c ↦ both_ways (g.is_constant y) (not_constant g (is_variable game) fine.apart y (variable y f)) c
                | inr r ↦ none y f (Node (Leaf y) a b) (reach_found Γ (Node (Leaf y) a b) r) refl
              ]
            ])
    head_unread (Read y) a b e = go (xs y) refl
      where
        go : (v : Bool) → xs y ≡ v → not v ≡ true
        go false f = refl
        go true f = absurd (none y f (Node (Read y) a b) (reach_found Γ (Node (Read y) a b) e) refl)
    head_unread h a b e = refl

    pub scope_unread : (t : Tree) → is_in_scope (game_names g (is_variable game)) Γ t ≡ true → reads_none xs t ≡ true
    unfolding is_in_scope reads_only
    scope_unread Empty e = refl
    scope_unread (Node h a b) e =
        let p = and_parts (reads_in_reach (game_names g (is_variable game)) Γ h a b) _ e in
        let q = and_parts (is_in_scope (game_names g (is_variable game)) Γ a) _ p.1 in
        ap₂ ◌&&◌ (head_unread h a b p.0) (ap₂ ◌&&◌ (scope_unread a q.0) (scope_unread b q.1))

  -- with terms for the cells that read none, a tree behind the branch's place reads none
  module _ (ms : Tree) (paired : ArePaired cs ms) (unread : AllBoth (λ c m. reads_none xs m ≡ true) cs ms) where
    named_read : {q : ℕ} {σ : Phrase} {Γ : Context} {h : Head} {a b : Tree} (st : Stands game q σ Γ (Node h a b)) → arm < q → names_one xs h a ≡ true → weight h ≡ 1 → term_of cs ms (Node h a b) ≡ None → ⊥
    named_read {h = h} {a = a} {b = b} st l n w e = elim (inside st n w) [ inl i ↦ absurd (omega arith) | inr i ↦ found_term (Node h a b) cs ms paired i e ]

    kept_head : (h : Head) {q : ℕ} {σ : Phrase} {Γ : Context} {a b : Tree} (st : Stands game q σ Γ (Node h a b)) → arm < q → term_of cs ms (Node h a b) ≡ None → head_reads_only (λ y. not (xs y)) h ≡ true
    kept_head (Leaf y) st l e = go (xs y) refl
      where
        go : (v : Bool) → xs y ≡ v → not v ≡ true
        go false f = refl
        go true f = absurd (named_read st l f refl e)
    kept_head (Read y) st l e = go (xs y) refl
      where
        go : (v : Bool) → xs y ≡ v → not v ≡ true
        go false f = refl
        go true f = absurd (named_read st l f refl e)
    kept_head h st l e = refl

    pub with_unread : (t : Tree) {q : ℕ} {σ : Phrase} {Γ : Context} (st : Stands game q σ Γ t) → arm < q → reads_none xs (with_terms cs ms t) ≡ true
    unfolding with_terms reads_only
    with_unread Empty st l = refl
    with_unread (Node h a b) {q = q} {σ = σ} st l =
        let r = has_parts σ h a b (stands_phrase g (is_variable game) game fine st) in
        go (term_of cs ms (Node h a b)) refl (with_unread a (in_first r.1 st) (omega arith)) (with_unread b (in_second r.1 st) (omega arith))
      where
        go : (o : Option Tree) → term_of cs ms (Node h a b) ≡ o → reads_none xs (with_terms cs ms a) ≡ true → reads_none xs (with_terms cs ms b) ≡ true → reads_none xs (with_terms cs ms (Node h a b)) ≡ true
        go None e f k = ap (reads_none xs) (with_kept cs ms are h a b e) ∙ ap₂ ◌&&◌ (kept_head h st l e) (ap₂ ◌&&◌ f k)
        go (Some m) e f k = ap (reads_none xs) (with_term cs ms are h a b m e) ∙ term_has (λ c n. reads_none xs n ≡ true) cs ms (Node h a b) m unread e
