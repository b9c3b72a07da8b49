-- What a search leaves that was rehearsed.
use Rattle.std.proofs.Common.{◌≡◌, ℕ, List, [], length, take, ap, sym, ◌∙◌, subst, Option, Some}
use Rattle.cv_kernel.specs.Proofs.{start}
use Rattle.cv_pool.proofs.Growth.{Grows_same}
use Rattle.cv_pool.specs.declared.node.NodeId.{NodeId}
use Rattle.cv_rehearsals.specs.Works.{IsUnchanged}
use Rattle.cv_rehearsals.proofs.Works.{unchanged_is}
use Rattle.cv_report.specs.declared.report.Status.TheVariants as status
use Rattle.cv_report.specs.declared.stream.Stream.{Stream}
use Rattle.cv_rule_array_names.proofs.NamesKept.{names_stay}
use Rattle.cv_syntax.specs.declared.work.Work.{Work}
use Rattle.cv_syntax.specs.PoolTrees.{tree_at}
use Rattle.cv_syntax_trees.specs.Tree.{Tree}
use Rattle.cv_follow.specs.declared.walk.Walk.{Walk}
use Rattle.cv_follow.specs.Courses.{PutsCourse, course_at}
use Rattle.cv_follow.specs.Searches.{HasSearched}
use Rattle.cv_follow.specs.Walks.{out_of_memory}

module _ (old mid : Work) (u : IsUnchanged old mid) (root : NodeId) (moves : ℕ) where
  abbrev first : Work → Tree
  first w = tree_at w.pool.trees (Some root)

  -- a search behind rehearsals is one of the work before
  pub searched_before : (new : Work) (t0 t1 : Option (List ℕ)) (f0 f1 : ℕ) (a b : Stream) (w : Walk) → HasSearched mid new (first mid) moves (PutsCourse t0 t1 f0 f1 mid (first mid) a b) w → HasSearched old new (first old) moves (PutsCourse t0 t1 f0 f1 old (first old) a b) w
  searched_before new t0 t1 f0 f1 a b w h =
      let k = subst (λ (x : Work). HasSearched x new (first x) moves (PutsCourse t0 t1 f0 f1 x (first x) a b) w) (sym (unchanged_is old mid u)) h in
      let g = k.reached.grows in
      record {
        reached = record { course = k.reached.course; is = k.reached.is; grows = record { kept = g.kept; limit = g.limit }; names = k.reached.names; decls = k.reached.decls; puts = k.reached.puts };
        outcome = k.outcome;
      }

  -- memory ran out in a rehearsal: no step was taken
  pub rehearsed_alone : (t : Option (List ℕ)) (f : ℕ) (a : Stream) (w : Walk) → w.status ≡ status.Memory → w.verdicts.items ≡ [] → HasSearched old mid (first old) moves (PutsCourse t t f f old (first old) a a) w
  rehearsed_alone t f a w memory none = record {
    reached = record {
      course = course_at (first old);
      is = record { leads = start; drawn = tt };
      grows = Grows_same old.pool mid.pool u.trees u.limit;
      names = ap (take (length old.names)) u.names ∙ names_stay old.names;
      decls = u.decls;
      puts = λ shows before numbers p. p;
    };
    outcome = out_of_memory memory none;
  }
