-- What comes of a try.
use Rattle.std.proofs.Common.{◌≡◌, ℕ, ◌+◌, ◌<◌, Bool, true, List, [], ◌∷◌, ◌++◌, length, take, refl, ap, sym, ◌∙◌, subst, arith, Some, None, Result, Ok, Err}
use Rattle.std.specs.Prelude.{All, IfOk}
use Rattle.cv_accept.specs.Accepted.{most_pool}
use Rattle.cv_kernel.specs.Proofs.{Transition, closed_by}
use Rattle.cv_kernel.specs.Sequences.{IsPushed, game_in}
use Rattle.cv_kernel.specs.declared.error.PushError.{PushError}
use Rattle.cv_kernel.specs.declared.error.PushError.TheVariants as fault
use Rattle.cv_kernel.specs.declared.sequence.Sequence.{Sequence}
use Rattle.cv_parse.specs.Declaring.{IsBelow}
use Rattle.cv_moves.specs.Moves.{is_move}
use Rattle.cv_pool.specs.declared.node.NodeId.{NodeId}
use Rattle.cv_report.specs.declared.report.Status.TheVariants as status
use Rattle.cv_report.specs.declared.report.Which.{Which}
use Rattle.cv_report.specs.declared.report.Which.TheVariants.{Depth, Nodes, Pool, Steps}
use Rattle.cv_script.specs.declared.steps.Step.{Step}
use Rattle.cv_steps.specs.Sequences.{scene}
use Rattle.cv_syntax.specs.declared.work.BuildError.TheVariants as build
use Rattle.cv_syntax.specs.declared.work.Work.{Work}
use Rattle.cv_syntax.specs.Declarations.{declarations}
use Rattle.cv_syntax.specs.PoolTrees.{tree_at}
use Rattle.cv_syntax_trees.specs.Declarations.{Declaration}
use Rattle.cv_syntax_trees.specs.Tree.{Tree}
use Rattle.cv_syntax_trees.proofs.lists.Options.{some_injective}
use Rattle.cv_follow.specs.declared.searching.Tried.{Tried}
use Rattle.cv_follow.specs.declared.searching.Tried.TheVariants.{Accepted, Nothing, Passed, Refused}
use Rattle.cv_follow.specs.Courses.{Table}
use Rattle.cv_kernel.specs.Followed.{known_to}
use Rattle.cv_follow.specs.Searches.{Comes, ComesTo, HasFound, IsFailed, IsKept, IsMore, IsShort, MayTry, Passes, by_room, by_step, tried_of}
use Rattle.cv_follow.proofs.Tries.{found_again, game_stays, kept_back, kept_both, kept_by, stops_by}

-- a step more stands behind the same where nothing was taken before
unfoldable pub more_before : {free : Bool} (start old mid new : Work) (first : Tree) (s t u : Sequence) (h : HasFound free start old first s) (i : HasFound free start mid first t) (node : NodeId) → i.found ≡ h.found → i.gone.followed.proof ≡ h.gone.followed.proof → i.gone.tables ≡ h.gone.tables
    → IsMore free start mid new first t u i node → IsMore free start old new first s u h node
more_before start old mid new first s t u h i node e p q w = record {
  next = w.next;
  live = w.live;
  step = w.step;
  tree = w.tree;
  put = w.put ∙ ap (λ (xs : List Tree). xs ++ w.step.step ∷ []) e;
  proof = w.proof ∙ ap (λ (ts : List Transition). ts ++ w.step ∷ []) p;
  tables = w.tables ∙ ap (λ (ns : List Table). ns ++ new.names ∷ []) q;
  leg = w.leg;
  again = w.again;
}

-- so a try behind which nothing was taken comes to the same
module _ (start old mid new : Work) (first : Tree) (allowed : Bool) (s t u : Sequence) (h : HasFound true start old first s) (at : s.game.root.0 < length old.pool.trees) (k : IsKept old mid s t) where
  passes_before : (which : Which) (i : HasFound true start mid first t) → i.found ≡ h.found → i.gone.followed.proof ≡ h.gone.followed.proof
      → Passes (length new.pool.trees) (length i.found) (scene (declarations start.pool.trees start.decls.list) (known_to start.decls.own) (game_in mid.pool.trees t)) (closed_by i.gone.followed.proof) which
      → Passes (length new.pool.trees) (length h.found) (scene (declarations start.pool.trees start.decls.list) (known_to start.decls.own) (game_in old.pool.trees s)) (closed_by h.gone.followed.proof) which
  passes_before which i e p w =
      let ds : List Declaration = declarations start.pool.trees start.decls.list in
      let n : ℕ = length new.pool.trees in
      subst (λ ts. Passes n (length h.found) (scene ds (known_to start.decls.own) (game_in old.pool.trees s)) (closed_by ts) which) p
      (subst (λ g. Passes n (length h.found) (scene ds (known_to start.decls.own) g) (closed_by i.gone.followed.proof) which) (game_stays old mid s t k.grows k.sequence at)
      (subst (λ (xs : List Tree). Passes n (length xs) (scene ds (known_to start.decls.own) (game_in mid.pool.trees t)) (closed_by i.gone.followed.proof) which) e w))

  comes_by : (tried : Tried) (i : HasFound true start mid first t) → i.found ≡ h.found → i.gone.followed.proof ≡ h.gone.followed.proof → i.gone.tables ≡ h.gone.tables → Comes start mid new first allowed t u i tried → Comes start old new first allowed s u h tried
  unfolding more_before
  comes_by (Accepted step moved) i e p q w = record { more = more_before start old mid new first s t u h i step.0 e p q w.more; advised = w.advised; told = w.told; may = w.may }
  comes_by Refused i e p q w = kept_both old mid new s t u k w
  comes_by Nothing i e p q w = kept_both old mid new s t u k w
  comes_by (Passed which) i e p q w = (kept_both old mid new s t u k w.0, passes_before which i e p w.1)

-- of whatever was found before

pub comes_before : (old mid new : Work) (allowed : Bool) (s t u : Sequence) → s.game.root.0 < length old.pool.trees → IsKept old mid s t → (tried : Tried) → ComesTo mid new allowed t u tried → ComesTo old new allowed s u tried
comes_before old mid new allowed s t u at k tried w start first below h =
    let a = found_again start old mid first s t h at k in
    comes_by start old mid new first allowed s t u h at k tried a.again a.found a.proof a.tables (w start first below a.again)

pub comes_result : {E : Type 0} (old mid new : Work) (allowed : Bool) (s t u : Sequence) → s.game.root.0 < length old.pool.trees → IsKept old mid s t → (r : Result Tried E) → IfOk r (ComesTo mid new allowed t u) → IfOk r (ComesTo old new allowed s u)
comes_result old mid new allowed s t u at k (Ok tried) w = comes_before old mid new allowed s t u at k tried w
comes_result old mid new allowed s t u at k (Err e) w = tt

-- where a pool went back behind
pub comes_released : (old mid new : Work) (allowed : Bool) (s t : Sequence) (n : ℕ) → ComesTo old mid allowed s t Refused → n ≡ length old.pool.trees → new.pool.trees ≡ take n mid.pool.trees → new.pool.limit ≡ mid.pool.limit → new.names ≡ mid.names → new.decls ≡ mid.decls → ComesTo old new allowed s t Refused
comes_released old mid new allowed s t n w e r l i d start first below h = kept_back old mid new s t n (w start first below h) e r l i d

-- a try that takes nothing comes to this

pub comes_refused : (old new : Work) (allowed : Bool) (s t : Sequence) → IsKept old new s t → ComesTo old new allowed s t Refused
comes_refused old new allowed s t k start first below h = k

pub comes_nothing : (old new : Work) (allowed : Bool) (s t : Sequence) → IsKept old new s t → ComesTo old new allowed s t Nothing
comes_nothing old new allowed s t k start first below h = k

module _ (start old new : Work) (first : Tree) (below : All (IsBelow (length start.pool.trees)) start.decls.list) (s t : Sequence) (h : HasFound true start old first s) where
  -- a step that is accepted
  pub comes_more : (step : Step) (m : IsMore true start old new first s t h step.0) (tree : Tree) → tree_at new.pool.trees (Some step.0) ≡ tree → (advised moved allowed : Bool) → moved ≡ is_move advised tree → (moved ≡ true → allowed ≡ true) → Comes start old new first allowed s t h (Accepted step moved)
  comes_more step m tree same advised moved allowed e f = record {
    more = m;
    advised = advised;
    told = e ∙ ap (is_move advised) (sym (m.tree ∙ same));
    may = f;
  }

  -- one that isn't may pass a limit
  pub comes_otherwise : (step : Step) (live : step.0.0 < length old.pool.trees) (e : PushError) (allowed : Bool) (tried : Tried) (other : Sequence) → tried_of e ≡ Some tried → MayTry old s → IsPushed old.pool old.decls new.pool.trees s other (tree_at old.pool.trees (Some step.0)) (Err e) → new.pool.trees ≡ old.pool.trees → IsKept old new s t → Comes start old new first allowed s t h tried
  comes_otherwise step live (fault.Refused f) allowed tried other i m p kept k = subst (Comes start old new first allowed s t h) (some_injective i) k
  comes_otherwise step live fault.Steps allowed tried other i m p kept k = subst (Comes start old new first allowed s t h) (some_injective i) (k, by_step Steps _ (stops_by start old new first below s other h step.0 live fault.Steps m p kept (status.Limit Steps) refl))
  comes_otherwise step live (fault.Build (build.Nodes n)) allowed tried other i m p kept k = subst (Comes start old new first allowed s t h) (some_injective i) (k, by_step (Nodes n) _ (stops_by start old new first below s other h step.0 live (fault.Build (build.Nodes n)) m p kept (status.Limit (Nodes n)) refl))
  comes_otherwise step live (fault.Build (build.Depth n)) allowed tried other i m p kept k = subst (Comes start old new first allowed s t h) (some_injective i) (k, by_step (Depth n) _ (stops_by start old new first below s other h step.0 live (fault.Build (build.Depth n)) m p kept (status.Limit (Depth n)) refl))
  comes_otherwise step live (fault.Build (build.Full n)) allowed tried other i m p kept k = subst (Comes start old new first allowed s t h) (some_injective i) (k, by_step (Pool n) _ (stops_by start old new first below s other h step.0 live (fault.Build (build.Full n)) m p kept (status.Limit (Pool n)) refl))
  comes_otherwise step live (fault.Build build.OutOfMemory) allowed tried other i m p kept k = absurd (cc)

-- the pool has no room for what is proposed

pub comes_short : (old new : Work) (allowed : Bool) (s t : Sequence) (which : Which) → IsKept old new s t → old.pool.limit ≡ most_pool → IsShort old.pool.limit (length new.pool.trees) which → ComesTo old new allowed s t (Passed which)
comes_short old new allowed s t (Pool need) k l o start first below h = let over : old.pool.limit < length new.pool.trees + need = o in (k, by_room need (omega (arith, l)))
comes_short old new allowed s t which k l o start first below h = absurd o

pub comes_failed : (old new : Work) (allowed : Bool) (s : Sequence) (tried : Tried) → s.arrays ≡ None → new.names ≡ old.names → new.decls ≡ old.decls → old.pool.limit ≡ most_pool → IsFailed old.pool new.pool tried → ComesTo old new allowed s s tried
comes_failed old new allowed s Refused m n d l w = comes_refused old new allowed s s (kept_by old new s m w n d)
comes_failed old new allowed s (Passed which) m n d l w = comes_short old new allowed s s which (kept_by old new s m w.0 n d) l w.1
comes_failed old new allowed s (Accepted step moved) m n d l w = absurd w
comes_failed old new allowed s Nothing m n d l w = absurd w

pub failed_result : {E : Type 0} (old new : Work) (allowed : Bool) (s : Sequence) (r : Result Tried E) → s.arrays ≡ None → new.names ≡ old.names → new.decls ≡ old.decls → old.pool.limit ≡ most_pool → IfOk r (IsFailed old.pool new.pool) → IfOk r (ComesTo old new allowed s s)
failed_result old new allowed s (Ok tried) m n d l w = comes_failed old new allowed s tried m n d l w
failed_result old new allowed s (Err e) m n d l w = tt
