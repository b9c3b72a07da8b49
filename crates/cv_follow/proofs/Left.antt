-- What is left of a run: its course, the verdicts, and how it ends.
use Rattle.std.proofs.Common.{◌≡◌, ℕ, ◌+◌, Bool, false, List, [], ◌∷◌, ◌++◌, length, map, ap, ap₂, sym, ◌∙◌, subst, append-nil, Some}
use Rattle.std.proofs.lemmas.List.{length-map}
use Rattle.cv_bound.specs.closings.Queries.{first_unclosed, numbers_of, sum_in}
use Rattle.cv_bound.specs.costs.Sums.{no_sums}
use Rattle.cv_kernel.specs.Proofs.{closed_by, nodes_along, sum_of}
use Rattle.cv_kernel.specs.Sequences.{game_in}
use Rattle.cv_kernel.specs.declared.sequence.Sequence.{Sequence}
use Rattle.cv_report.specs.declared.report.Status.{Status}
use Rattle.cv_report.specs.declared.report.Status.TheVariants as status
use Rattle.cv_report.specs.declared.report.Verdict.{Verdict}
use Rattle.cv_report.specs.verdicts.Verdicts.{ended_with, verdicts_by}
use Rattle.cv_steps.specs.Sequences.{scene}
use Rattle.cv_syntax.specs.Classes.{DeclsView, queries}
use Rattle.cv_syntax.specs.declared.work.Work.{Work}
use Rattle.cv_syntax.specs.Declarations.{declarations}
use Rattle.cv_syntax.specs.PoolTrees.{tree_at}
use Rattle.cv_syntax_trees.specs.Declarations.{Declaration}
use Rattle.cv_syntax_trees.specs.Tree.{Tree}
use Rattle.cv_follow.specs.declared.walk.Walk.{Walk}
use Rattle.cv_follow.specs.Courses.{Course, IsReached}
use Rattle.cv_follow.specs.Scripts.{Stops, first_open, verdicts_of}
use Rattle.cv_kernel.specs.Followed.{known_to}
use Rattle.cv_follow.specs.Walks.{EndsAlong, HasGone, HasStopped, IsStopped, IsWalk, course_of, out_of_memory, with_verdicts}
use Rattle.cv_kernel.proofs.Closings.{numbers_same, sums_same}
use Rattle.cv_follow.proofs.Verdicts.{verdicts_same}
use Rattle.cv_follow.proofs.Following.{asked, asked_by}
use Rattle.cv_follow.proofs.Gone.{course_is}

module _ {free : Bool} {before : ℕ} (start now : Work) (first : Tree) {front : List Tree} (s : Sequence) (h : HasGone free before start now first front s) where
  -- the verdicts on the queries
  pub verdicts_left : (vs : List Verdict) → vs ≡ verdicts_by (sum_in s.closed) 1 (queries now.decls.list) → vs ≡ verdicts_of h.followed.proof (asked start)
  verdicts_left vs e =
      e ∙ (asked_by start now.decls h.decls (sum_in s.closed)
      ∙ verdicts_same (sum_in s.closed) (sum_of h.followed.proof) 1 (asked start) (λ k. ap (λ cs. sum_in cs k) h.followed.closed ∙ sums_same no_sums h.followed.proof k))

  -- the first query that isn't closed
  pub first_left : first_unclosed (numbers_of s.closed) (length (queries now.decls.list)) ≡ first_open (closed_by h.followed.proof) 1 (asked start)
  first_left =
      ap₂ first_unclosed (ap numbers_of h.followed.closed ∙ numbers_same no_sums h.followed.proof)
      (ap (λ (v : DeclsView). length (queries v.list)) h.decls ∙ sym (length-map (queries start.decls.list) (λ n. tree_at start.pool.trees (Some n))))

  -- where memory lasted the run ends so
  pub stopped_left : (end : Status) (Ends : Status → Type 0) (w : Walk) → Ends end → IsStopped (sum_in s.closed) (queries now.decls.list) end w → HasStopped start.names now (asked start) (course_of h) Ends w
  stopped_left end Ends w d (out_of_memory a b) = out_of_memory a b
  stopped_left end Ends w d (with_verdicts a b) = with_verdicts (subst Ends (sym a) d) (verdicts_left w.verdicts.items b) h.last

-- a walk that memory ran out in
pub walk_out_of_memory : (before : ℕ) (start now : Work) (first : Tree) (steps queries : List Tree) (Puts : Course → Type 0) (w : Walk) → IsReached false start now first Puts → w.status ≡ status.Memory → w.verdicts.items ≡ [] → IsWalk before start now first steps queries Puts w
walk_out_of_memory before start now first steps queries Puts w r a b = record { reached = r; outcome = out_of_memory a b }

module _ {before : ℕ} (start now : Work) (first : Tree) (front : List Tree) (s : Sequence) (h : HasGone false before start now first front s) (Puts : Course → Type 0) (puts : Puts (course_of h)) (w : Walk) where
  abbrev ds : List Declaration
  ds = declarations start.pool.trees start.decls.list

  walk_by : (steps : List Tree) (end : Status) → EndsAlong before ds start.decls.own first steps (asked start) (course_of h) end → IsStopped (sum_in s.closed) (queries now.decls.list) end w → IsWalk before start now first steps (asked start) Puts w
  walk_by steps end e d = record {
    reached = record { course = course_of h; is = course_is start now first s h; grows = h.grows; names = h.names; decls = h.decls; puts = puts };
    outcome = stopped_left start now first s h end (EndsAlong before ds start.decls.own first steps (asked start) (course_of h)) w e d;
  }

  -- the script ends
  pub walk_ends : (steps : List Tree) → steps ≡ front → IsStopped (sum_in s.closed) (queries now.decls.list) (ended_with (first_unclosed (numbers_of s.closed) (length (queries now.decls.list)))) w → IsWalk before start now first steps (asked start) Puts w
  walk_ends steps e d = walk_by steps _ (record {
    left = [];
    split = e ∙ (h.followed.steps ∙ sym (append-nil (map (λ x. x.step) h.followed.proof)));
    ends = ap ended_with (first_left start now first s h);
  }) d

  -- the next step stops it
  pub walk_stops : (steps : List Tree) (step : Tree) (left : List Tree) (end : Status) → steps ≡ front ++ step ∷ left → Stops (before + nodes_along ds (known_to start.decls.own) first h.followed.proof) s.steps (scene ds (known_to start.decls.own) (game_in now.pool.trees s)) (closed_by h.followed.proof) step end
      → IsStopped (sum_in s.closed) (queries now.decls.list) end w → IsWalk before start now first steps (asked start) Puts w
  walk_stops steps step left end e i d = walk_by steps end (record {
    left = step ∷ left;
    split = e ∙ ap (λ xs. xs ++ step ∷ left) h.followed.steps;
    ends = subst (λ n. Stops (before + nodes_along ds (known_to start.decls.own) first h.followed.proof) n (scene ds (known_to start.decls.own) (game_in now.pool.trees s)) (closed_by h.followed.proof) step end) h.followed.count i;
  }) d
