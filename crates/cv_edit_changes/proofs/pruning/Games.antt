-- Games without a body, and when a pool has no room for one.
use Rattle.std.proofs.Common.{◌≡◌, ℕ, ◌+◌, ◌<◌, ◌≤◌, Bool, true, false, cond, ◌⊎◌, inl, inr, Option, Some, None, Result, Ok, Err, length, refl, sym, ap, ◌∙◌, arith, nat_lt, ltb-true, lt-ltb}
use Rattle.std.specs.Prelude.{option_map, IfOk, IsErrAnd}
use Rattle.cv_pool.specs.declared.pool.PoolError.{PoolError}
use Rattle.cv_pool.specs.declared.pool.PoolError.TheVariants as pool
use Rattle.cv_pool.specs.PoolView.{PoolView}
use Rattle.cv_syntax.specs.declared.work.BuildError.TheVariants as build
use Rattle.cv_syntax_trees.specs.Tree.{Tree, Empty, Node, size, subtree}
use Rattle.cv_meaning.specs.Replaced.{replaced}
use Rattle.cv_path.proofs.Bounds.{no_subtree}
use Rattle.cv_path.specs.Refusals.{no_memory}
use Rattle.cv_edit_changes.specs.Faults.{no_room}
use Rattle.cv_path.specs.declared.error.PathError.{PathError}
use Rattle.cv_path.specs.declared.error.PathError.TheVariants.{NoSuchPlace, Build}
use Rattle.cv_scene.specs.Scenes.{or_empty, part_at}
use Rattle.cv_scene.specs.Pruning.{Part, Pruned, pruned}
use Rattle.cv_edit_changes.specs.pruning.Bodies.{game_without, need_of, nodes_of, refusal, refusal_by}
use Rattle.cv_edit_changes.specs.pruning.Lefts.{left_of}
use Rattle.cv_edit_changes.proofs.pruning.Constructs.{left_anywhere}

pub no_map : {A B : Type 0} (f : A → B) (o : Option A) → option_map f o ≡ None → o ≡ None
no_map f None e = refl
no_map f (Some x) e = absurd (cc)

pub map_map : (game : Tree) (p : ℕ) (o : Option Pruned) → option_map (λ b. replaced game p b.left) o ≡ option_map (replaced game p) (option_map (λ b. b.left) o)
map_map game p None = refl
map_map game p (Some b) = refl

pub map_same : {A B : Type 0} (f g : A → B) (o : Option A) → ((x : A) → f x ≡ g x) → option_map f o ≡ option_map g o
map_same f g None e = refl
map_same f g (Some x) e = ap Some (e x)

-- the sizes and the depths of what is there
pub measured : (f : Tree → ℕ) (game : Tree) (p n r : ℕ) (o : Option Tree) → Some n ≡ option_map f o → ((t : Tree) → f t ≡ n → r ≡ f (replaced game p t)) → Some r ≡ option_map f (option_map (replaced game p) o)
measured f game p n r None e k = absurd (cc)
measured f game p n r (Some t) e k = let g : f t ≡ n = cc in ap Some (k t g)

module _ (game : Tree) (p : ℕ) (part : Part) (t : Tree) (e : subtree game p ≡ Some t) where
  at_part : part_at game p ≡ t
  at_part = ap or_empty e

  pub left_here : option_map (λ b. b.left) (pruned p (part_at game p) part) ≡ left_of t part
  left_here = ap (λ u. option_map (λ b. b.left) (pruned p u part)) at_part ∙ left_anywhere p t part

  pub game_here : game_without game p part ≡ option_map (replaced game p) (left_of t part)
  game_here = map_map game p (pruned p (part_at game p) part) ∙ ap (option_map (replaced game p)) left_here

  pub nodes_here : nodes_of (part_at game p) part ≡ nodes_of t part
  nodes_here = ap (λ u. nodes_of u part) at_part

  pub no_body : (v : PoolView) → left_of t part ≡ None → refusal v game p part ≡ Some NoSuchPlace
  no_body v f = ap (refusal_by v (need_of game p part)) (no_map (λ b. b.left) (pruned p (part_at game p) part) (left_here ∙ f))

refused_by : (v : PoolView) (n : ℕ) (o : Option Pruned) (x : Tree) → option_map (λ b. b.left) o ≡ Some x → refusal_by v n o ≡ cond (nat_lt v.limit (length v.trees + n)) (Some (Build (build.Full n))) None
refused_by v n None x e = absurd (cc)
refused_by v n (Some b) x e = refl

empty_part : (v : PoolView) (n p : ℕ) (part : Part) → refusal_by v n (pruned p Empty part) ≡ Some NoSuchPlace
empty_part v n p part = refl

pub no_place : (v : PoolView) (game : Tree) (p : ℕ) (part : Part) → size game ≤ p → refusal v game p part ≡ Some NoSuchPlace
no_place v game p part l = ap (λ o. refusal_by v (need_of game p part) (pruned p (or_empty o) part)) ((no_subtree game p).1 l) ∙ empty_part v (need_of game p part) p part

module _ (v : PoolView) (game : Tree) (p : ℕ) (part : Part) (t x : Tree) (e : subtree game p ≡ Some t) (s : left_of t part ≡ Some x) where
  here : refusal v game p part ≡ cond (nat_lt v.limit (length v.trees + need_of game p part)) (Some (Build (build.Full (need_of game p part)))) None
  here = refused_by v (need_of game p part) (pruned p (part_at game p) part) x (left_here game p part t e ∙ s)

  pub no_space : v.limit < length v.trees + need_of game p part → refusal v game p part ≡ Some (Build (build.Full (need_of game p part)))
  no_space l = here ∙ ap (λ b. cond b (Some (Build (build.Full (need_of game p part)))) None) (lt-ltb v.limit (length v.trees + need_of game p part) l)

  pub space : (v.limit < length v.trees + need_of game p part → ⊥) → refusal v game p part ≡ None
  space n = here ∙ go (nat_lt v.limit (length v.trees + need_of game p part)) refl
    where
      go : (b : Bool) → nat_lt v.limit (length v.trees + need_of game p part) ≡ b → cond b (Some (Build (build.Full (need_of game p part)))) None ≡ None
      go true k = absurd (n (ltb-true v.limit (length v.trees + need_of game p part) k))
      go false k = refl

  pub room_refused : (fault : PoolError) (f : PathError) → f ≡ no_room fault → ((n : ℕ) → fault ≡ pool.Full n → (n ≡ need_of game p part) × (v.limit < length v.trees + n)) → (f ≡ no_memory) ⊎ (refusal v game p part ≡ Some f)
  room_refused (pool.Full n) f g k =
      let j : n ≡ need_of game p part = (k n refl).0 in
      let l : v.limit < length v.trees + n = (k n refl).1 in
      inr (no_space (omega (arith, l, j)) ∙ ap (λ z. Some (Build (build.Full z))) (sym j) ∙ ap Some (sym g))
  room_refused pool.OutOfMemory f g k = inl g

pub way_refused : (v : PoolView) (game : Tree) (p : ℕ) (part : Part) (f : PathError) → (f ≡ no_memory) ⊎ ((f ≡ NoSuchPlace) × (size game ≤ p)) → (f ≡ no_memory) ⊎ (refusal v game p part ≡ Some f)
way_refused v game p part f (inl m) = inl m
way_refused v game p part f (inr n) = inr (no_place v game p part n.1 ∙ ap Some (sym n.0))

pub body_refused : (v : PoolView) (game : Tree) (p : ℕ) (part : Part) (t : Tree) → subtree game p ≡ Some t → (f : PathError) → (f ≡ no_memory) ⊎ ((f ≡ NoSuchPlace) × (left_of t part ≡ None)) → (f ≡ no_memory) ⊎ (refusal v game p part ≡ Some f)
body_refused v game p part t e f (inl m) = inl m
body_refused v game p part t e f (inr n) = inr (no_body game p part t e v n.1 ∙ ap Some (sym n.0))

pub some_of : {A B : Type 0} (f : A → B) (o : Option A) (y : B) → option_map f o ≡ Some y → (x : A) × (o ≡ Some x)
some_of f None y e = absurd (cc)
some_of f (Some x) y e = (x, refl)

pub if_ok : {T E : Type 0} (P Q : T → Type 0) (r : Result T E) → ((x : T) → P x → Q x) → IfOk r P → IfOk r Q
if_ok P Q (Ok x) f p = f x p
if_ok P Q (Err e) f p = p

pub same_error : {T E : Type 0} (r : Result T E) (a b : E) → r ≡ Err a → r ≡ Err b → a ≡ b
same_error r a b f g = cc

-- the error that was passed on
pub passed_on : {T E : Type 0} (r : Result T E) (a b : E) → IsErrAnd r (λ x. x ≡ a) → r ≡ Err b → a ≡ b
passed_on (Ok x) a b i f = absurd i
passed_on (Err x) a b i f = let g : x ≡ b = cc in sym i ∙ g
