-- The game without a `let`, as the code has its parts, how large it is at most, and when a pool has room for it.
use Rattle.std.proofs.Common.{◌≡◌, ℕ, ◌+◌, ◌<◌, ◌≤◌, ◌^◌, ◌⊎◌, inl, inr, Bool, true, cond, List, length, Option, Some, None, Result, Err, refl, sym, ap, subst, ◌∙◌, arith, le-ltb, lt-ltb}
use Rattle.std.specs.Prelude.{option_map}
use Rattle.std.proofs.Math.Nat.{mul-le-mul_left}
use Rattle.cv_pool.specs.KindTree.{KindTree}
use Rattle.cv_pool.specs.PoolView.{PoolView}
use Rattle.cv_pool.specs.declared.pool.PoolError.{PoolError}
use Rattle.cv_pool.specs.declared.pool.PoolError.TheVariants as pool
use Rattle.cv_syntax.specs.declared.work.BuildError.TheVariants as build
use Rattle.cv_syntax_trees.specs.Tree.{Tree, size}
use Rattle.cv_syntax.specs.PoolTrees.{tree_at}
use Rattle.cv_directory.specs.declared.directory.Directory.{Directory}
use Rattle.cv_path.specs.Refusals.{no_memory}
use Rattle.cv_edit_changes.specs.Faults.{no_room}
use Rattle.cv_path.specs.declared.error.PathError.{PathError}
use Rattle.cv_path.specs.declared.error.PathError.TheVariants.{NoSuchPlace, Build}
use Rattle.cv_scope_rules.specs.Phrases.{Inputs, is_phrase}
use Rattle.cv_syntax.specs.listing.Needs.{need_for}
use Rattle.cv_steps.specs.Unletting.{Assignment, only_assignment, without_assignment}
use Rattle.cv_edit_changes.specs.declared.unletting.assigned.Assigned.{Assigned}
use Rattle.cv_edit_changes.specs.unletting.Assigned.{IsAssigned, names_above}
use Rattle.cv_edit_changes.specs.unletting.Games.{need_by, need_unletting, refusal, refusal_by, unlet}
use Rattle.cv_edit_changes.specs.unletting.Putting.{put_in}
use Rattle.cv_edit_changes.proofs.unletting.Phrases.{game_same}
use Rattle.cv_edit_changes.proofs.unletting.PutTrees.{put_small}

module _ (trees : List KindTree) (d : Directory) (x : ℕ) (game : Tree) where
  by_assigned : (a : Assigned) (o : Option Assignment) → IsAssigned trees d x (Some a) o → is_phrase Inputs game ≡ true → option_map (λ m. without_assignment x m game) o ≡ Some (put_in x (names_above trees d x) (tree_at trees a.term) game)
  by_assigned a None i f = absurd i
  by_assigned a (Some m) i f = ap Some (sym (game_same x m (names_above trees d x) (tree_at trees a.term) game i.1 i.0 f))

  pub unlet_made : (a : Assigned) → IsAssigned trees d x (Some a) (only_assignment game x) → is_phrase Inputs game ≡ true → unlet x game ≡ Some (put_in x (names_above trees d x) (tree_at trees a.term) game)
  unlet_made a i f = by_assigned a (only_assignment game x) i f

  by_nothing : (o : Option Assignment) → IsAssigned trees d x None o → option_map (λ m. without_assignment x m game) o ≡ None
  by_nothing None i = refl
  by_nothing (Some m) i = absurd i

  pub unlet_nothing : IsAssigned trees d x None (only_assignment game x) → unlet x game ≡ None
  unlet_nothing i = by_nothing (only_assignment game x) i

-- its size can be counted
pub put_fits : (x : ℕ) (is : List ℕ) (m game : Tree) → size m ≤ size game → size game ≤ 50000 → size (put_in x is m game) < 2 ^ 32
put_fits x is m game l s = let a : 1 + size m ≤ 50001 = omega arith in omega (arith, put_small x is m game, mul-le-mul_left (size game) a)

-- what is counted of it
pub counted : (count : Tree → ℕ) (o : Option Tree) (t : Tree) (n : ℕ) → o ≡ Some t → n ≡ count t → Some n ≡ option_map count o
counted count o t n e f = ap Some f ∙ sym (ap (option_map count) e)

pub uncounted : (count : Tree → ℕ) (o : Option Tree) → o ≡ None → None ≡ option_map count o
uncounted count o e = sym (ap (option_map count) e)

-- a pool with room for it, and one without
module _ (v : PoolView) (x : ℕ) (game : Tree) where
  pub missing : unlet x game ≡ None → refusal v x game ≡ Some NoSuchPlace
  missing e = ap (refusal_by v) e

  module _ (t : Tree) (e : unlet x game ≡ Some t) where
    abbrev answer : Bool → Option PathError
    answer b = cond b (Some (Build (build.Full (need_for t)))) None

    pub with_room : length v.trees + need_for t ≤ v.limit → refusal v x game ≡ None
    with_room l = ap (refusal_by v) e ∙ ap answer (le-ltb v.limit (length v.trees + need_for t) l)

    without_room : v.limit < length v.trees + need_for t → refusal v x game ≡ Some (Build (build.Full (need_for t)))
    without_room l = ap (refusal_by v) e ∙ ap answer (lt-ltb v.limit (length v.trees + need_for t) l)

    pub room_refused : (fault : PoolError) (p : PathError) → p ≡ no_room fault → ((n : ℕ) → fault ≡ pool.Full n → (n ≡ need_for t) × (v.limit < length v.trees + n)) → (p ≡ no_memory) ⊎ (refusal v x game ≡ Some p)
    room_refused (pool.Full n) p f k =
        let j = k n refl in
        inr (without_room (omega (arith, j.0, j.1)) ∙ (ap (λ i. Some (Build (build.Full i))) (sym j.0) ∙ ap Some (sym f)))
    room_refused pool.OutOfMemory p f k = inl f

    pub few_made : (live : ℕ) → live ≤ length v.trees + need_for t → live ≤ length v.trees + need_unletting x game
    few_made live l = subst (λ o. live ≤ length v.trees + need_by o) (sym e) l
