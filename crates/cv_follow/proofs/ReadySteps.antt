-- Steps that are tried behind names that were drawn for them, which go again where the step isn't taken.
use Rattle.std.proofs.Common.{◌≡◌, ℕ, zero, suc, ◌<◌, ◌≤◌, Bool, true, false, List, [], ◌∷◌, length, take, refl, ap, sym, subst, arith, Option, Some, Result, Ok, Err}
use Rattle.std.specs.Prelude.{IfOk}
use Rattle.cv_accept.proofs.Blocks.{root_grown}
use Rattle.cv_rule_array_names.specs.Drawings.{DrawsBefore}
use Rattle.cv_kernel.specs.Sequences.{game_in}
use Rattle.cv_kernel.specs.declared.error.PushError.{PushError}
use Rattle.cv_kernel.specs.declared.error.PushError.TheVariants as fault
use Rattle.cv_kernel.specs.declared.sequence.Sequence.{Sequence}
use Rattle.cv_pool.specs.PoolView.{Grows}
use Rattle.cv_script.specs.Views.{StepItems}
use Rattle.cv_script.specs.declared.steps.Step.{Step}
use Rattle.cv_syntax.specs.declared.work.BuildError.TheVariants as build
use Rattle.cv_syntax.specs.declared.work.Game.{Game}
use Rattle.cv_syntax.specs.declared.work.Work.{Work}
use Rattle.cv_syntax.specs.PoolTrees.{tree_at}
use Rattle.cv_syntax_trees.specs.Tree.{Tree}
use Rattle.cv_follow.specs.declared.searching.Tried.{Tried}
use Rattle.cv_follow.specs.declared.searching.Tried.TheVariants.{Accepted, Nothing, Passed, Refused}
use Rattle.cv_follow.specs.Searches.{ComesFrom, ComesTo, IsKept, IsReady, MayTry, is_taken, tried_of, with_names, without_drawn}
use Rattle.cv_follow.proofs.Coming.{comes_before}

-- the first names stay the first ones

pub take_again : (n : ℕ) (names : List (List ℕ)) → take (length (take n names)) names ≡ take n names
take_again zero names = refl
take_again (suc n) [] = refl
take_again (suc n) (t ∷ names) = ap (λ ts. t ∷ ts) (take_again n names)

pub kept_length : (xs ys : List (List ℕ)) → take (length xs) ys ≡ xs → length xs ≤ length ys
kept_length [] ys e = omega arith
kept_length (x ∷ xs) [] e = absurd (cc)
kept_length (x ∷ xs) (y ∷ ys) e = let r = kept_length xs ys (cc) in omega arith

-- a step may be tried whatever the table of names
pub may_with : (w v : Work) (s : Sequence) → v.pool ≡ w.pool → v.decls ≡ w.decls → MayTry w s → MayTry v s
may_with w v s p d m = subst (λ (x : Work). MayTry x s) (λ i. record { pool = sym p i; names = v.names; decls = sym d i }) (record { stands = m.stands; empty = m.empty; declared = m.declared; equivalences = m.equivalences; limit = m.limit })

-- where nothing is taken, it is so of the first names

pub kept_names : (n : ℕ) (old new : Work) (s t : Sequence) → IsKept old new s t → IsKept (with_names n old) (with_names n new) s t
kept_names n old new s t k = record { grows = k.grows; names = ap (take n) k.names; decls = k.decls; sequence = k.sequence; empty = k.empty }

-- a step that fails isn't taken

not_accepted : (e : PushError) (step : Step) (moved : Bool) → tried_of e ≡ Some (Accepted step moved) → ⊥
not_accepted (fault.Refused f) step moved i = absurd (cc)
not_accepted fault.Steps step moved i = absurd (cc)
not_accepted (fault.Build (build.Nodes n)) step moved i = absurd (cc)
not_accepted (fault.Build (build.Depth n)) step moved i = absurd (cc)
not_accepted (fault.Build (build.Full n)) step moved i = absurd (cc)
not_accepted (fault.Build build.OutOfMemory) step moved i = absurd (cc)

pub fails_without : (e : PushError) (tried : Tried) (n : ℕ) (w : Work) → tried_of e ≡ Some tried → without_drawn tried n w ≡ with_names n w
fails_without e (Accepted step moved) n w i = absurd (not_accepted e step moved i)
fails_without e Refused n w i = refl
fails_without e Nothing n w i = refl
fails_without e (Passed which) n w i = refl

-- a step is ready again where the pool has grown

pub ready_grown : (n : ℕ) (old mid : Work) (s : Sequence) (o : Option StepItems) → Grows old.pool mid.pool → mid.names ≡ old.names → mid.decls ≡ old.decls → s.game.root.0 < length old.pool.trees → IsReady n old s o → IsReady n mid s o
ready_grown n old mid s o g e d live r =
    subst (λ (x : Tree). DrawsBefore true (take n mid.names) mid.names mid.decls.own x o) (sym (root_grown old.pool mid.pool s.game.root g live))
    (subst (λ v. DrawsBefore true (take n mid.names) mid.names v.own (game_in old.pool.trees s) o) (sym d)
    (subst (λ (ns : List (List ℕ)). DrawsBefore true (take n ns) ns old.decls.own (game_in old.pool.trees s) o) (sym e) r))

-- and what comes of it comes of it before

pub comes_from_before : {E : Type 0} (n : ℕ) (old mid new : Work) (allowed : Bool) (s t : Sequence) → s.game.root.0 < length old.pool.trees → IsKept old mid s s → (r : Result Tried E) → IfOk r (ComesFrom n mid new allowed s t) → IfOk r (ComesFrom n old new allowed s t)
comes_from_before n old mid new allowed s t live k (Ok tried) w =
    comes_before (with_names n old) (with_names n mid) (without_drawn tried n new) allowed s s t live (kept_names n old mid s s k) tried w
comes_from_before n old mid new allowed s t live k (Err e) w = tt

-- names are drawn for a step

pub ready_drawn : (n own : ℕ) (old mid : Work) (s : Sequence) (game : Game) (o : Option StepItems) → take n mid.names ≡ old.names → own ≡ mid.decls.own → game ≡ s.game → DrawsBefore true old.names mid.names own (tree_at mid.pool.trees (Some game.root)) o → IsReady n mid s o
ready_drawn n own old mid s game o e f g r =
    subst (λ (q : Game). DrawsBefore true (take n mid.names) mid.names mid.decls.own (tree_at mid.pool.trees (Some q.root)) o) g
    (subst (λ (k : ℕ). DrawsBefore true (take n mid.names) mid.names k (tree_at mid.pool.trees (Some game.root)) o) f
    (subst (λ (ns : List (List ℕ)). DrawsBefore true ns mid.names own (tree_at mid.pool.trees (Some game.root)) o) (sym e) r))

-- behind a step that is taken the names stay, and else those that were drawn for it go

module _ (n : ℕ) (old mid new : Work) (allowed : Bool) (s t : Sequence) (live : s.game.root.0 < length old.pool.trees) (k : IsKept old (with_names n mid) s s) where
  pub comes_taken : (tried : Tried) → is_taken tried ≡ true → ComesFrom n mid new allowed s t tried → ComesTo old new allowed s t tried
  comes_taken (Accepted step moved) e w = comes_before old (with_names n mid) new allowed s s t live k (Accepted step moved) w
  comes_taken Refused e w = absurd (cc)
  comes_taken Nothing e w = absurd (cc)
  comes_taken (Passed which) e w = absurd (cc)

  put_back : (tried : Tried) → is_taken tried ≡ false → ComesFrom n mid new allowed s t tried → ComesTo (with_names n mid) (with_names n new) allowed s t tried
  put_back (Accepted step moved) e w = absurd (cc)
  put_back Refused e w = w
  put_back Nothing e w = w
  put_back (Passed which) e w = w

  pub comes_back : (names : List (List ℕ)) (tried : Tried) → names ≡ take n new.names → is_taken tried ≡ false → ComesFrom n mid new allowed s t tried → ComesTo old (record new { names = names }) allowed s t tried
  comes_back names tried i e w =
      subst (λ (ns : List (List ℕ)). ComesTo old (record new { names = ns }) allowed s t tried) (sym i)
      (comes_before old (with_names n mid) (with_names n new) allowed s s t live k tried (put_back tried e w))
