-- What a node of a game without a refusal has, its children have.
use Rattle.std.proofs.Common.{◌≡◌, ℕ, zero, suc, ◌+◌, Bool, true, false, cond, ◌&&◌, ◌||◌, List, [], ◌∷◌, ◌++◌, length, Option, Some, None, refl, sym, ap, subst, ◌∙◌, arith}
use Rattle.std.proofs.lemmas.Bool.{both_ways, and_parts}
use Rattle.std.specs.Prelude.{slice_get}
use Rattle.cv_syntax_trees.specs.declared.head.Head.{Head}
use Rattle.cv_syntax_trees.specs.Tree.{Tree, Empty, Node, first_place, second_place}
use Rattle.cv_syntax_trees.specs.sites.Sites.{first_of}
use Rattle.cv_meaning.specs.Interpretation.{is_constant_of}
use Rattle.cv_scope_rules.specs.Context.{first_position, replications_below, second_position}
use Rattle.cv_scope_rules.specs.Phrases.{binds_none, head_binds_none}
use Rattle.cv_scope_rules.specs.Scope.{is_variable}
use Rattle.cv_scope_rules.specs.declared.position.Position.{Position}
use Rattle.cv_scene.specs.Scenes.{first_reading, head_reads}
use Rattle.cv_scene.specs.Instances.{Call, Matching, call_at}
use Rattle.cv_scene.specs.Refusals.{first_in_condition, first_use, is_condition, uses}
use Rattle.cv_scene.specs.Sites.{Site, is_guard, sites_in}
use Rattle.cv_scene.specs.Reductions.{Reduction, is_coin, matching, sites}
use Rattle.cv_scene.specs.Apt.{has_value, inside}
use Rattle.cv_match_laws.proofs.values.Numbers.{count_sites}
use Rattle.cv_match_laws.specs.instances.Uses.{uses_outside}
use Rattle.cv_match_laws.specs.names.Bindings.{HasOwnNames}
use Rattle.cv_match_laws.proofs.names.Bindings.{below_own}
use Rattle.cv_context.specs.indices.Indices.{binds_new_index, indices_are_new, indices_use_none}
use Rattle.cv_context_runs.proofs.instances.Arguments.{both_none}

-- a tree at a place below replications, whose sites are those of the game from a number on
pub record Stands (r : Reduction) (w : Position) (rs : List (ℕ × ℕ)) (number place : ℕ) (t : Tree) : Type 0 where
  pub names : HasOwnNames r t
  pub key : first_use (matching r) w place t ≡ None
  pub conditions : first_in_condition r.key w place t ≡ None
  pub coins : (y : ℕ) → is_coin r y ≡ true → uses_outside (matching r) w y t ≡ 0
  pub sites : (k : ℕ) (s : Site) → slice_get (sites_in (matching r) w rs place t) k ≡ Some s → slice_get (sites r) (number + k) ≡ Some s
  pub indices : indices_use_none r.key t ≡ true
  pub news : indices_are_new (is_variable r.scene.game) rs t ≡ true
  pub constants : binds_none (is_constant_of r.scene.declarations) t ≡ true

-- where the node is no instance

module _ (M : Matching) (w : Position) (h : Head) (a b : Tree) (none : call_at M (Node h a b) ≡ None) where
  open_use : (p : ℕ) → first_use M w p (Node h a b) ≡ None → (cond (is_guard w) None (first_use M (first_position w h) (first_place p h) a) ≡ None) × (first_use M (second_position w h) (second_place p h a) b ≡ None)
  unfolding first_use
  open_use p e =
      go (head_reads M.key h)
      (ap (λ (o : Option Call). elim o as (λ _. Option ℕ) [
        | Some c ↦ None
        | None ↦ cond (head_reads M.key h) (Some p) (first_of (cond (is_guard w) None (first_use M (first_position w h) (first_place p h) a)) (first_use M (second_position w h) (second_place p h a) b))
      ]) (sym none) ∙ e)
    where
      go : (c : Bool) → cond c (Some p) (first_of (cond (is_guard w) None (first_use M (first_position w h) (first_place p h) a)) (first_use M (second_position w h) (second_place p h a) b)) ≡ None
          → (cond (is_guard w) None (first_use M (first_position w h) (first_place p h) a) ≡ None) × (first_use M (second_position w h) (second_place p h a) b ≡ None)
      go true f = absurd (cc)
      go false f = both_none (cond (is_guard w) None (first_use M (first_position w h) (first_place p h) a)) (first_use M (second_position w h) (second_place p h a) b) f

  open_outside : (y : ℕ) → uses_outside M w y (Node h a b) ≡ 0 → (cond (is_guard w) (uses y a) (uses_outside M (first_position w h) y a) ≡ 0) × (uses_outside M (second_position w h) y b ≡ 0)
  unfolding uses_outside
  open_outside y e =
      go (cond (is_guard w) (uses y a) (uses_outside M (first_position w h) y a)) (uses_outside M (second_position w h) y b) (cond (head_reads y h) 1 0)
      (ap (λ (o : Option Call). elim o as (λ _. ℕ) [
        | Some c ↦ 0
        | None ↦ cond (head_reads y h) 1 0 + (cond (is_guard w) (uses y a) (uses_outside M (first_position w h) y a) + uses_outside M (second_position w h) y b)
      ]) (sym none) ∙ e)
    where
      go : (m n k : ℕ) → k + (m + n) ≡ 0 → (m ≡ 0) × (n ≡ 0)
      go m n k e = (omega arith, omega arith)

  open_sites : (rs : List (ℕ × ℕ)) (p : ℕ) → sites_in M w rs p (Node h a b) ≡ cond (is_guard w) [] (sites_in M (first_position w h) rs (first_place p h) a) ++ sites_in M (second_position w h) (replications_below h rs) (second_place p h a) b
  unfolding sites_in
  open_sites rs p =
      ap (λ (o : Option Call). elim o as (λ _. List Site) [
        | Some c ↦ record { place = p; term = Node h a b; replications = rs; call = c } ∷ []
        | None ↦ cond (is_guard w) [] (sites_in M (first_position w h) rs (first_place p h) a) ++ sites_in M (second_position w h) (replications_below h rs) (second_place p h a) b
      ]) none

pub open_condition : (x : ℕ) (w : Position) (p : ℕ) (h : Head) (a b : Tree) → first_in_condition x w p (Node h a b) ≡ None
    → (cond (is_condition w) (first_reading x (first_place p h) a) (first_in_condition x (first_position w h) (first_place p h) a) ≡ None) × (first_in_condition x (second_position w h) (second_place p h a) b ≡ None)
unfolding first_in_condition
open_condition x w p h a b e = both_none (cond (is_condition w) (first_reading x (first_place p h) a) (first_in_condition x (first_position w h) (first_place p h) a)) (first_in_condition x (second_position w h) (second_place p h a) b) e

get_left : (cs ds : List Site) (k : ℕ) (s : Site) → slice_get cs k ≡ Some s → slice_get (cs ++ ds) k ≡ Some s
get_left [] ds k s e = absurd (cc)
get_left (c ∷ cs) ds zero s e = e
get_left (c ∷ cs) ds (suc k) s e = get_left cs ds k s e

get_right : (cs ds : List Site) (k l : ℕ) (s : Site) → l ≡ length cs + k → slice_get ds k ≡ Some s → slice_get (cs ++ ds) l ≡ Some s
get_right [] ds k l s i e = let same : l ≡ k = omega arith in ap (slice_get ds) same ∙ e
get_right (c ∷ cs) ds k zero s i e = absurd (omega arith)
get_right (c ∷ cs) ds k (suc l) s i e = get_right cs ds k l s (omega arith) e

pub indices_parts : (x : ℕ) (h : Head) (a b : Tree) → indices_use_none x (Node h a b) ≡ true → (indices_use_none x a ≡ true) × (indices_use_none x b ≡ true)
unfolding indices_use_none
indices_parts x h a b e = and_parts (indices_use_none x a) (indices_use_none x b) (and_parts _ (indices_use_none x a && indices_use_none x b) e).1

pub news_parts : (taken : ℕ → Bool) (rs : List (ℕ × ℕ)) (h : Head) (a b : Tree) → indices_are_new taken rs (Node h a b) ≡ true → (binds_new_index taken rs h ≡ true) × (indices_are_new taken rs a ≡ true) × (indices_are_new taken (replications_below h rs) b ≡ true)
unfolding indices_are_new
news_parts taken rs h a b e =
    let p = and_parts (binds_new_index taken rs h) _ e in
    let q = and_parts (indices_are_new taken rs a) (indices_are_new taken (replications_below h rs) b) p.1 in
    (p.0, q.0, q.1)

pub constants_parts : (c : ℕ → Bool) (h : Head) (a b : Tree) → binds_none c (Node h a b) ≡ true → (head_binds_none c h ≡ true) × (binds_none c a ≡ true) × (binds_none c b ≡ true)
unfolding binds_none
constants_parts c h a b e =
    let p = and_parts (head_binds_none c h) _ e in
    let q = and_parts (binds_none c a) (binds_none c b) p.1 in
    (p.0, q.0, q.1)

module _ (r : Reduction) (terms : (t : Tree) → has_value t ≡ false → call_at (matching r) t ≡ None) (w : Position) (rs : List (ℕ × ℕ)) (n p : ℕ) (h : Head) (a b : Tree) (e : has_value (Node h a b) ≡ false) (s : Stands r w rs n p (Node h a b)) where
  abbrev M : Matching
  M = matching r

  node_sites : (k : ℕ) (c : Site) → slice_get (cond (is_guard w) [] (sites_in M (first_position w h) rs (first_place p h) a) ++ sites_in M (second_position w h) (replications_below h rs) (second_place p h a) b) k ≡ Some c → slice_get (sites r) (n + k) ≡ Some c
  node_sites k c f = s.sites k c (ap (λ ss. slice_get ss k) (open_sites M w h a b (terms (Node h a b) e) rs p) ∙ f)

  pub first_stands : is_guard w ≡ false → is_condition w ≡ false → Stands r (first_position w h) rs n (first_place p h) a
  first_stands guard condition = record {
    names = (below_own r h a b s.names).0;
    key = ap (λ z. cond z None (first_use M (first_position w h) (first_place p h) a)) (sym guard) ∙ (open_use M w h a b (terms (Node h a b) e) p s.key).0;
    conditions = ap (λ z. cond z (first_reading r.key (first_place p h) a) (first_in_condition r.key (first_position w h) (first_place p h) a)) (sym condition) ∙ (open_condition r.key w p h a b s.conditions).0;
    coins = λ y c. ap (λ z. cond z (uses y a) (uses_outside M (first_position w h) y a)) (sym guard) ∙ (open_outside M w h a b (terms (Node h a b) e) y (s.coins y c)).0;
    sites =
        λ k c f.
        node_sites k c (get_left (cond (is_guard w) [] (sites_in M (first_position w h) rs (first_place p h) a)) (sites_in M (second_position w h) (replications_below h rs) (second_place p h a) b) k c
        (ap (λ z. slice_get (cond z [] (sites_in M (first_position w h) rs (first_place p h) a)) k) guard ∙ f));
    indices = (indices_parts r.key h a b s.indices).0;
    news = (news_parts (is_variable r.scene.game) rs h a b s.news).1;
    constants = (constants_parts (is_constant_of r.scene.declarations) h a b s.constants).1;
  }

  inside_length : length (cond (is_guard w) [] (sites_in M (first_position w h) rs (first_place p h) a)) ≡ length (inside r w rs h a)
  inside_length = go (is_guard w)
    where
      go : (z : Bool) → length (cond z [] (sites_in M (first_position w h) rs (first_place p h) a)) ≡ length (cond z [] (sites_in M (first_position w h) rs 0 a))
      go true = refl
      go false = count_sites M (first_position w h) rs a (first_place p h) 0

  pub second_stands : Stands r (second_position w h) (replications_below h rs) (n + length (inside r w rs h a)) (second_place p h a) b
  second_stands = record {
    names = (below_own r h a b s.names).1;
    key = (open_use M w h a b (terms (Node h a b) e) p s.key).1;
    conditions = (open_condition r.key w p h a b s.conditions).1;
    coins = λ y c. (open_outside M w h a b (terms (Node h a b) e) y (s.coins y c)).1;
    sites =
        λ k c f.
        let m : ℕ = length (inside r w rs h a) in
        let z : n + m + k ≡ n + (m + k) = omega arith in
        ap (slice_get (sites r)) z
        ∙ node_sites (m + k) c (get_right (cond (is_guard w) [] (sites_in M (first_position w h) rs (first_place p h) a)) (sites_in M (second_position w h) (replications_below h rs) (second_place p h a) b) k (m + k) c (ap (λ l. l + k) (sym inside_length)) f);
    indices = (indices_parts r.key h a b s.indices).1;
    news = (news_parts (is_variable r.scene.game) rs h a b s.news).2;
    constants = (constants_parts (is_constant_of r.scene.declarations) h a b s.constants).2;
  }

  -- the coins in what a guard has, which are all uses there
  pub guarded_coins : is_guard w ≡ true → (y : ℕ) → is_coin r y ≡ true → uses y a ≡ 0
  guarded_coins guard y c = ap (λ z. cond z (uses y a) (uses_outside M (first_position w h) y a)) (sym guard) ∙ (open_outside M w h a b (terms (Node h a b) e) y (s.coins y c)).0

  pub guarded_indices : indices_use_none r.key a ≡ true
  guarded_indices = (indices_parts r.key h a b s.indices).0

  pub guarded_key : is_condition w ≡ true → first_reading r.key (first_place p h) a ≡ None
  guarded_key condition = ap (λ z. cond z (first_reading r.key (first_place p h) a) (first_in_condition r.key (first_position w h) (first_place p h) a)) (sym condition) ∙ (open_condition r.key w p h a b s.conditions).0
