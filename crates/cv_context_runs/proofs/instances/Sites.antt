-- A site of a game without a refusal: its coins are its own, and its function is called.
use Rattle.std.proofs.Common.{◌≡◌, ℕ, zero, suc, ◌<◌, Bool, true, false, cond, ◌||◌, not, ◌==◌, List, [], ◌∷◌, ◌++◌, length, Option, Some, None, refl, sym, ap, ap₂, subst, ◌∙◌, eq-eqb, eqb-true, arith}
use Rattle.std.proofs.lemmas.Bool.{both_ways, and_parts}
use Rattle.std.specs.List.{list_any}
use Rattle.std.specs.Prelude.{slice_get}
use Rattle.cv_syntax_trees.specs.declared.head.Head.{Head}
use Rattle.cv_syntax_trees.specs.declared.head.Head.TheVariants.{Binder, Branch, Call, In, Key, Let, New}
use Rattle.cv_syntax_trees.specs.Declarations.{Declaration}
use Rattle.cv_syntax_trees.specs.Tree.{Tree, Empty, Node, chain, first, reads_only, same_tree, second}
use Rattle.cv_syntax_trees.proofs.Equality.{same_tree_exact}
use Rattle.cv_meaning.specs.Interpretation.{is_constant_of}
use Rattle.cv_scope_rules.specs.Context.{cell_of, replications_below}
use Rattle.cv_scope_rules.specs.Made.{is_bound, made_by}
use Rattle.cv_scope_rules.specs.Phrases.{IsWellFormed, binds_none, head_binds_none}
use Rattle.cv_scope_rules.specs.Sites.{Variable}
use Rattle.cv_scene.specs.Scenes.{is_queried}
use Rattle.cv_scene.specs.Sights.{variable_of}
use Rattle.cv_scene.specs.Instances.{Matching, are_of_types, is_argument_of, is_coin_of, is_read_of}
use Rattle.cv_scene.specs.Refusals as refusals
use Rattle.cv_scene.specs.Refusals.{are_coins, definitions_in, first_coin_use, new_of, only_new, stands_under, uses}
use Rattle.cv_scene.specs.Sites.{Site}
use Rattle.cv_scene.specs.LeftTerms.{HasLeftTerms}
use Rattle.cv_scene.specs.Standing.{AreAsMany}
use Rattle.cv_scene.specs.Reductions.{Reduction, is_coin, is_plain, matching, sites}
use Rattle.cv_scene.specs.Apt.{AreCoinsApt, IsCoinApt, IsSiteApt}
use Rattle.cv_match_laws.proofs.instances.Coins.{coin_cell, site_call}
use Rattle.cv_context_runs.proofs.instances.Numbers.{called}
use Rattle.cv_context_runs.proofs.instances.Terms.{only_terms}
use Rattle.cv_syntax_trees.proofs.lists.Options.{none_some}

-- lists by position

pub get_below : {A : Type 0} (xs : List A) (k : ℕ) (x : A) → slice_get xs k ≡ Some x → k < length xs
get_below [] k x e = absurd (none_some x e)
get_below (y ∷ xs) zero x e = omega arith
get_below (y ∷ xs) (suc k) x e = let ih = get_below xs k x e in omega arith

pub any_at : {A : Type 0} (p : A → Bool) (xs : List A) (k : ℕ) (x : A) → slice_get xs k ≡ Some x → p x ≡ true → list_any p xs ≡ true
any_at p [] k x e h = absurd (none_some x e)
any_at p (y ∷ xs) zero x e h = let same : y ≡ x = cc in ap (λ b. b || list_any p xs) (ap p same ∙ h)
any_at p (y ∷ xs) (suc k) x e h = go (p y) (any_at p xs k x e h)
  where
    go : (b : Bool) → list_any p xs ≡ true → (b || list_any p xs) ≡ true
    go true i = refl
    go false i = i

-- a constant has no definition

module _ (c : ℕ → Bool) (y : ℕ) (constant : c y ≡ true) where
  name_none : (x : ℕ) → not (c x) ≡ true → (y == x) ≡ false
  name_none x n = go (y == x) refl
    where
      go : (b : Bool) → (y == x) ≡ b → b ≡ false
      go false e = refl
      go true e = absurd (both_ways _ (ap not (ap c (sym (eqb-true y x e)) ∙ constant)) n)

  bound_none : (t : Tree) → binds_none c t ≡ true → is_bound t y ≡ false
  unfolding binds_none is_bound
  bound_none Empty e = refl
  bound_none (Node (Binder x T) a b) e =
      let p = and_parts (not (c x)) _ e in
      ap₂ ◌||◌ (name_none x p.0) (bound_none b (and_parts (binds_none c a) _ p.1).1)
  bound_none (Node h a b) e = refl

  second_none : (a : Tree) → binds_none c a ≡ true → binds_none c (second a) ≡ true
  unfolding binds_none
  second_none Empty e = refl
  second_none (Node h a b) e = (and_parts (binds_none c a) _ (and_parts (head_binds_none c h) _ e).1).1

  made_none : (h : Head) (a : Tree) → head_binds_none c h ≡ true → binds_none c a ≡ true → made_by h a (Variable y) ≡ false
  made_none (New x T) a e f = name_none x e
  made_none (Let x T) a e f = name_none x e
  made_none (Key x) a e f = name_none x e
  made_none (Call x l) a e f = name_none x e
  made_none (In d) a e f = bound_none (second a) (second_none a f)
  made_none Branch a e f = bound_none a f
  made_none h a e f = refl

  none_defined : (rs : List (ℕ × ℕ)) (t : Tree) → binds_none c t ≡ true → definitions_in y rs t ≡ []
  unfolding binds_none definitions_in
  none_defined rs Empty e = refl
  none_defined rs (Node h a b) e =
      let p = and_parts (head_binds_none c h) _ e in
      let q = and_parts (binds_none c a) _ p.1 in
      let F : Bool → List (Head × List (ℕ × ℕ)) = λ z. cond z ((h, rs) ∷ []) [] ++ (definitions_in y rs a ++ definitions_in y (replications_below h rs) b) in
      ap F (made_none h a p.0 q.0)
      ∙ ap₂ ◌++◌ (none_defined rs a q.0) (none_defined (replications_below h rs) b q.1)

-- so what has a `new` is none
pub chosen_no_constant : (ds : List Declaration) (t : Tree) (x : ℕ) (d : ℕ × List (ℕ × ℕ)) → binds_none (is_constant_of ds) t ≡ true → new_of t x ≡ Some d → is_constant_of ds x ≡ false
chosen_no_constant ds t x d free e = go (is_constant_of ds x) refl
  where
    go : (b : Bool) → is_constant_of ds x ≡ b → b ≡ false
    go false f = refl
    go true f = absurd (none_some d (ap only_new (sym (none_defined (is_constant_of ds) x f [] t free)) ∙ e))

-- what the test of coins says

pub own_coins : (M : Matching) (ss : List Site) (k : ℕ) (s : Site) → first_coin_use M ss ≡ None → slice_get ss k ≡ Some s → are_coins M s s.call.function.coins s.call.instance.coins ≡ true
own_coins M [] k s f e = absurd (none_some s e)
own_coins M (c ∷ ss) k s f e = go (are_coins M c c.call.function.coins c.call.instance.coins) refl f k e (λ f k e. own_coins M ss k s f e)
  where
    some_none : (p : ℕ) → ◌≡◌ {A = Option ℕ} (Some p) None → ⊥
    some_none p e = cc

    go : (b : Bool) → are_coins M c c.call.function.coins c.call.instance.coins ≡ b → cond b (first_coin_use M ss) (Some c.place) ≡ None → (k : ℕ) → slice_get (c ∷ ss) k ≡ Some s
        → (first_coin_use M ss ≡ None → (k : ℕ) → slice_get ss k ≡ Some s → are_coins M s s.call.function.coins s.call.instance.coins ≡ true) → are_coins M s s.call.function.coins s.call.instance.coins ≡ true
    go true i f zero e ih = let same : c ≡ s = cc in subst (λ (d : Site). are_coins M d d.call.function.coins d.call.instance.coins ≡ true) same i
    go true i f (suc k) e ih = ih f k e
    go false i f k e ih = absurd (some_none c.place f)

coins_apt : (r : Reduction) (rs : List (ℕ × ℕ)) (number : ℕ) (s : Site) (zs : List (ℕ × ℕ)) (ms : List Tree) → are_of_types (is_coin_of (matching r)) zs ms ≡ true → are_coins (matching r) s zs ms ≡ true
    → ((j : ℕ) (q : ℕ × ℕ) (m : Tree) → slice_get zs j ≡ Some q → slice_get ms j ≡ Some m → refusals.is_coin (matching r) s q.0 m (variable_of m) ≡ true → IsCoinApt r rs number q.0 m) → AreCoinsApt r rs number zs ms
coins_apt r rs number s [] [] e f h = tt
coins_apt r rs number s (z ∷ zs) (m ∷ ms) e f h =
    let p = and_parts (refusals.is_coin (matching r) s z.0 m (variable_of m)) _ f in
    (h 0 z m refl refl p.0, coins_apt r rs number s zs ms (and_parts (is_coin_of (matching r) z.1 m) _ e).1 p.1 (λ j q m e f c. h (suc j) q m e f c))
coins_apt r rs number s [] (m ∷ ms) e f h = absurd (both_ways false refl e)
coins_apt r rs number s (z ∷ zs) [] e f h = absurd (both_ways false refl e)

many_typed : (may_be : ℕ → Tree → Bool) (xs : List (ℕ × ℕ)) (ms : List Tree) → are_of_types may_be xs ms ≡ true → AreAsMany xs ms
many_typed may_be [] [] e = tt
many_typed may_be (x ∷ xs) (m ∷ ms) e = many_typed may_be xs ms (and_parts (may_be x.1 m) (are_of_types may_be xs ms) e).1
many_typed may_be [] (m ∷ ms) e = absurd (both_ways false refl e)
many_typed may_be (x ∷ xs) [] e = absurd (both_ways false refl e)

pub read_is : (y : ℕ) (o : Option ℕ) → is_read_of y o ≡ true → o ≡ Some y
read_is y None e = absurd (both_ways false refl e)
read_is y (Some x) e = ap Some (eqb-true x y e)

module _ (r : Reduction) (left : HasLeftTerms r.scene.declarations (matching r).group) (formed : IsWellFormed r.scene.declarations r.scene.game) (number : ℕ) (s : Site) (at : slice_get (sites r) number ≡ Some s) where
  one_apt : (j : ℕ) (q : ℕ × ℕ) (m : Tree) → slice_get s.call.function.coins j ≡ Some q → slice_get s.call.instance.coins j ≡ Some m → (o : Option ℕ) → variable_of m ≡ o → refusals.is_coin (matching r) s q.0 m o ≡ true → IsCoinApt r s.replications number q.0 m
  one_apt j q m e f None v h = absurd (both_ways false refl h)
  one_apt j q m e f (Some y) v h =
      let p = and_parts (stands_under s.replications (new_of r.scene.game y)) _ h in
      let w = and_parts (same_tree m (cell_of s.replications y)) _ p.1 in
      let u = and_parts (not (is_queried r.scene y)) _ w.1 in
      record {
        variable = y;
        is = same_tree_exact m (cell_of s.replications y) w.0;
        drawn = any_at (λ (s : Site). list_any (λ m. is_read_of y (variable_of m)) s.call.instance.coins) (sites r) number s at (any_at (λ m. is_read_of y (variable_of m)) s.call.instance.coins j m f (ap (is_read_of y) v ∙ same y));
        cell = coin_cell r left number j s q m y at e f v (eqb-true (uses y r.scene.game) (uses q.0 s.call.function.body) u.1);
        constant = free y p.0;
      }
    where
      same : (y : ℕ) → (y == y) ≡ true
      same y = eq-eqb y y refl

      free : (y : ℕ) → stands_under s.replications (new_of r.scene.game y) ≡ true → is_constant_of r.scene.declarations y ≡ false
      free y d = go (new_of r.scene.game y) refl d
        where
          go : (o : Option (ℕ × List (ℕ × ℕ))) → new_of r.scene.game y ≡ o → stands_under s.replications o ≡ true → is_constant_of r.scene.declarations y ≡ false
          go None i e = absurd (both_ways false refl e)
          go (Some d) i e = chosen_no_constant r.scene.declarations r.scene.game y d formed.constants i

  pub site_apt : first_coin_use (matching r) (sites r) ≡ None → reads_only (is_plain r) (first s.call.instance.key) ≡ true → reads_only (is_plain r) (chain s.call.instance.arguments) ≡ true → IsSiteApt r s.replications number s
  site_apt coins key arguments =
      let c = site_call r left number s at in
      record {
        listed = get_below (sites r) number s at;
        body = c.instance.body;
        left = c.left;
        called = λ i n z. called r (λ t k. only_terms r.scene.declarations (matching r) t left k) formed.phrase i s number n at c.function z;
        key = read_is r.key (variable_of s.call.instance.key) c.instance.key;
        key_indices = key;
        coins = coins_apt r s.replications number s s.call.function.coins s.call.instance.coins c.instance.coins (own_coins (matching r) (sites r) number s coins at) (λ j q m e f h. one_apt j q m e f (variable_of m) refl h);
        many = many_typed (is_argument_of (matching r)) s.call.function.arguments s.call.instance.arguments c.instance.arguments;
        arguments = arguments;
      }
