-- Steps that are found, try by try.
use Rattle.std.proofs.Common.{◌≡◌, ℕ, suc, ◌<◌, ◌≤◌, nat_lt, Bool, true, List, [], length, take, refl, ap, ap₂, sym, ◌∙◌, subst, arith, Option, Some, None}
use Rattle.std.proofs.lemmas.Bool.Decides.{nat_tests}
use Rattle.std.specs.Prelude.{All}
use Rattle.cv_bound.specs.closings.Queries.{first_unclosed, numbers_of, sum_in}
use Rattle.cv_bound.specs.costs.Sums.{no_sums}
use Rattle.cv_bound.specs.declared.closings.queries.ClosedQuery.{ClosedQuery}
use Rattle.cv_kernel.specs.Keeping.{StaysUpTo}
use Rattle.cv_kernel.specs.Proofs.{closed_by}
use Rattle.cv_kernel.specs.Sequences.{game_in}
use Rattle.cv_kernel.specs.declared.sequence.Sequence.{Sequence}
use Rattle.cv_meaning.specs.Queries.{queries_in}
use Rattle.cv_moves.specs.Moves.{AreMoves}
use Rattle.cv_moves.proofs.Moves.{moves_counted, moves_few}
use Rattle.cv_parse.specs.Declaring.{IsBelow}
use Rattle.cv_report.specs.declared.report.Status.{Status}
use Rattle.cv_report.specs.declared.report.Status.TheVariants as status
use Rattle.cv_report.specs.declared.report.Which.{Which}
use Rattle.cv_report.specs.declared.stream.Stream.{Stream}
use Rattle.cv_script.specs.declared.steps.Step.{Step}
use Rattle.cv_steps.specs.Sequences.{scene}
use Rattle.cv_syntax.specs.Classes.{queries}
use Rattle.cv_syntax.specs.declared.work.Work.{Work}
use Rattle.cv_syntax.specs.Declarations.{declarations}
use Rattle.cv_syntax.specs.PoolTrees.{tree_at}
use Rattle.cv_syntax_trees.specs.Declarations.{Declaration}
use Rattle.cv_syntax_trees.specs.Tree.{Tree}
use Rattle.cv_syntax_trees.proofs.lists.Options.{some_injective}
use Rattle.cv_follow.specs.declared.searching.Ending.{Ending}
use Rattle.cv_follow.specs.declared.searching.Ending.TheVariants.{Exhausted, Stopped}
use Rattle.cv_follow.specs.declared.searching.Tried.{Tried}
use Rattle.cv_follow.specs.declared.searching.Tried.TheVariants.{Accepted, Nothing, Passed, Refused}
use Rattle.cv_follow.specs.declared.walk.Walk.{Walk}
use Rattle.cv_follow.specs.Courses.{Course, IsLegOf, IsReached, PutsCourse, PutsOn, course_at, leg_of, lines_in}
use Rattle.cv_follow.specs.Scripts.{first_open}
use Rattle.cv_kernel.specs.Followed.{known_to}
use Rattle.cv_follow.specs.Searches.{ComesTo, CutsBehind, EndedBy, EndsSearch, FindsAlong, HasEnded, HasFound, HasGrown, HasSearched, IsBehind, IsGivenBack, IsKept, IsMore, IsSearching, MayTry, Passes, PutsBehind, by_limit, end_of_search, ending_by, made_behind, status_of, without_more}
use Rattle.cv_follow.specs.Walks.{HasStopped, IsStopped, course_of}
use Rattle.cv_follow.proofs.Courses.{lines_put, lines_same, puts_leg, puts_nothing}
use Rattle.cv_follow.proofs.Gone.{course_is, grows_kept, reached_cut, reached_so_far, tables_many}
use Rattle.cv_follow.proofs.Left.{first_left, stopped_left}
use Rattle.cv_follow.proofs.QueryLists.{queries_same}
use Rattle.cv_follow.proofs.Tries.{found_again, found_back, found_none, game_stays, may_again, steps_more}

-- what a step more that was found puts
pub leg_found : {free : Bool} (start old new : Work) (first : Tree) (s t : Sequence) (h : HasFound free start old first s) (step : Step) (m : IsMore free start old new first s t h step.0) → IsLegOf new.names new.pool.trees t (tree_at new.pool.trees (Some step.0)) (leg_of m.step new.names)
leg_found start old new first s t h step m = subst (λ x. IsLegOf new.names new.pool.trees t x (leg_of m.step new.names)) m.tree m.leg

-- a search begins
pub search_begins : (w : Work) (moves : ℕ) (s : Sequence) (taken : Option (List ℕ)) (faults : ℕ) (stream : Stream) → s.steps ≡ 0 → s.sum ≡ no_sums → s.closed ≡ [] → MayTry w s → IsSearching w w (game_in w.pool.trees s) 0 moves s (PutsCourse taken taken faults faults w (game_in w.pool.trees s) stream stream)
search_begins w moves s taken faults stream n m k may =
    let first : Tree = game_in w.pool.trees s in
    let a = found_none {free = true} w first s n m k refl in
    record {
      found = a.again;
      counted = subst (λ xs. AreMoves xs 0) (sym a.found) (record { least = omega arith; most = omega arith });
      few = omega arith;
      again = may;
      puts = subst (λ l. PutsOn taken taken faults faults (lines_in w first (course_at first)) l stream stream) (lines_same w first (course_at first) (course_of a.again.gone) a.proof a.tables) (λ shows before old p. p);
    }

-- a try was made, behind steps that were found and put

module _ (start old mid : Work) (first : Tree) (below : All (IsBelow (length start.pool.trees)) start.decls.list) (made moves : ℕ) (s t : Sequence) (t0 t1 : Option (List ℕ)) (f0 f1 : ℕ) (st0 st1 : Stream) (h : IsSearching start old first made moves s (PutsCourse t0 t1 f0 f1 start first st0 st1)) where
  -- it is counted only where there is one move more
  pub moves_fit : (tried : Tried) → ComesTo old mid (nat_lt made moves) s t tried → (step : Step) → tried ≡ Accepted step true → made < moves
  moves_fit tried w step e =
      let m = subst (ComesTo old mid (nat_lt made moves) s t) e w start first below h.found in
      let l = m.may refl in
      grind (arith, nat_tests)

  -- the next one may be made
  pub search_may : (tried : Tried) → ComesTo old mid (nat_lt made moves) s t tried → ending_by tried made ≡ None → MayTry mid t
  search_may (Accepted step moved) w e = (w start first below h.found).more.again
  search_may Refused w e = may_again old mid s t h.again (w start first below h.found)
  search_may Nothing w e = absurd (cc)
  search_may (Passed which) w e = absurd (cc)

  pub search_behind : (tried : Tried) → ComesTo old mid (nat_lt made moves) s t tried → ending_by tried made ≡ None → s.steps ≡ st1.steps → IsBehind tried mid t st1
  search_behind (Accepted step moved) w e n =
      let m = (w start first below h.found).more in
      (m.live, steps_more start old mid first s t h.found step.0 m ∙ ap suc n)
  search_behind Refused w e n = (w start first below h.found).sequence.steps ∙ n
  search_behind Nothing w e n = absurd (cc)
  search_behind (Passed which) w e n = absurd (cc)

  -- memory ran out in it
  pub search_broken : HasGrown old mid → IsReached true start mid first (PutsCourse t0 t1 f0 f1 start first st0 st1)
  search_broken g = reached_so_far start old first s h.found.gone mid (PutsCourse t0 t1 f0 f1 start first st0 st1) g h.puts

  -- nothing was taken
  search_on : IsKept old mid s t → IsSearching start mid first made moves t (PutsCourse t0 t1 f0 f1 start first st0 st1)
  search_on k =
      let a = found_again start old mid first s t h.found h.again.stands.live k in
      record {
        found = a.again;
        counted = subst (λ (xs : List Tree). AreMoves xs made) (sym a.found) h.counted;
        few = h.few;
        again = may_again old mid s t h.again k;
        puts = subst (λ l. PutsOn t0 t1 f0 f1 (lines_in start first (course_at first)) l st0 st1) (lines_same start first (course_of h.found.gone) (course_of a.again.gone) a.proof a.tables) h.puts;
      }

  stops_passed : (which : Which) → IsKept old mid s t
      → Passes (length mid.pool.trees) (length h.found.found) (scene (declarations start.pool.trees start.decls.list) (known_to start.decls.own) (game_in old.pool.trees s)) (closed_by h.found.gone.followed.proof) which → HasEnded start mid first moves t (PutsCourse t0 t1 f0 f1 start first st0 st1) (Stopped which)
  stops_passed which k p =
      let ds : List Declaration = declarations start.pool.trees start.decls.list in
      let a = found_again start old mid first s t h.found h.again.stands.live k in
      record {
        made = made;
        searching = record {
          found = a.again;
          counted = subst (λ (xs : List Tree). AreMoves xs made) (sym a.found) h.counted;
          few = h.few;
          again = may_again old mid s t h.again k;
          puts = subst (λ l. PutsOn t0 t1 f0 f1 (lines_in start first (course_at first)) l st0 st1) (lines_same start first (course_of h.found.gone) (course_of a.again.gone) a.proof a.tables) h.puts;
        };
        ended = subst (λ ts. Passes (length mid.pool.trees) (length a.again.found) (scene ds (known_to start.decls.own) (game_in mid.pool.trees t)) (closed_by ts) which) (sym a.proof)
            (subst (λ (xs : List Tree). Passes (length mid.pool.trees) (length xs) (scene ds (known_to start.decls.own) (game_in mid.pool.trees t)) (closed_by h.found.gone.followed.proof) which) (sym a.found)
            (subst (λ g. Passes (length mid.pool.trees) (length h.found.found) (scene ds (known_to start.decls.own) g) (closed_by h.found.gone.followed.proof) which) (sym (game_stays old mid s t k.grows k.sequence h.again.stands.live)) p));
      }

  -- the search ends
  pub search_ends : (tried : Tried) (ending : Ending) → ComesTo old mid (nat_lt made moves) s t tried → Some ending ≡ ending_by tried made → HasEnded start mid first moves t (PutsCourse t0 t1 f0 f1 start first st0 st1) ending
  search_ends (Accepted step moved) ending w e = absurd (cc)
  search_ends Refused ending w e = absurd (cc)
  search_ends Nothing ending w e =
      subst (HasEnded start mid first moves t (PutsCourse t0 t1 f0 f1 start first st0 st1)) (some_injective (sym e))
      (record { made = made; searching = search_on (w start first below h.found); ended = refl })
  search_ends (Passed which) ending w e =
      let p = w start first below h.found in
      subst (HasEnded start mid first moves t (PutsCourse t0 t1 f0 f1 start first st0 st1)) (some_injective (sym e)) (stops_passed which p.0 p.1)

  -- The lines of its step are put, and games are given back.
  module _ (mark : ℕ) (reach : length start.pool.trees ≤ mark) (new : Work) (t2 : Option (List ℕ)) (f2 : ℕ) (st2 : Stream) where
    pub search_more : (u : Sequence) (tried : Tried) → ComesTo old mid (nat_lt made moves) s t tried → ending_by tried made ≡ None → IsGivenBack mark mid new t u → MayTry new u → PutsBehind tried mid t t1 t2 f1 f2 st1 st2
        → IsSearching start new first (made_behind tried made) moves u (PutsCourse t0 t2 f0 f2 start first st0 st2)
    search_more u (Accepted step moved) w e k may p =
        let one = w start first below h.found in
        let m = one.more in
        let b = found_back mark start mid new first t u m.next reach k in
        record {
          found = b.again;
          counted = moves_counted h.found.found b.again.found m.step.step one.advised moved made (b.found ∙ m.put) one.told h.counted;
          few = moves_few moved made moves h.few (λ i. (let l = one.may i in grind (arith, nat_tests)));
          again = may;
          puts = puts_leg t0 t1 t2 f0 f1 f2 (lines_in start first (course_at first)) (lines_in start first (course_of h.found.gone)) (lines_in start first (course_of b.again.gone)) (leg_of m.step mid.names) st0 st1 st2
              (lines_put start first (course_of h.found.gone) (course_of b.again.gone) m.step mid.names (tables_many start old first s h.found.gone) (b.proof ∙ m.proof) (b.tables ∙ m.tables)) h.puts (p (leg_of m.step mid.names) (leg_found start old mid first s t h.found step m));
        }
    search_more u Refused w e k may p =
        let a = found_again start old mid first s t h.found h.again.stands.live (w start first below h.found) in
        let b = found_back mark start mid new first t u a.again reach k in
        record {
          found = b.again;
          counted = subst (λ (xs : List Tree). AreMoves xs made) (sym (b.found ∙ a.found)) h.counted;
          few = h.few;
          again = may;
          puts = puts_nothing t0 t1 t2 f0 f1 f2 (lines_in start first (course_at first)) (lines_in start first (course_of h.found.gone)) (lines_in start first (course_of b.again.gone)) st0 st1 st2
              (lines_same start first (course_of h.found.gone) (course_of b.again.gone) (b.proof ∙ a.proof) (b.tables ∙ a.tables)) h.puts p;
        }
    search_more u Nothing w e k may p = absurd (cc)
    search_more u (Passed which) w e k may p = absurd (cc)

    -- memory ran out there
    pub search_cut : (tried : Tried) → ComesTo old mid (nat_lt made moves) s t tried → ending_by tried made ≡ None → StaysUpTo mark mid.pool new.pool → new.names ≡ mid.names → new.decls ≡ mid.decls → CutsBehind tried mid t t1 t2 f1 f2 st1 st2 → IsReached true start new first (PutsCourse t0 t2 f0 f2 start first st0 st2)
    search_cut (Accepted step moved) w e stays names decls p =
        let m = (w start first below h.found).more in
        let g = m.next.gone in
        reached_cut start new first (course_of h.found.gone) (course_of g) (course_is start old first s h.found.gone) (course_is start mid first t g) (grows_kept mark start.pool mid.pool new.pool g.grows reach stays)
        (ap (take (length start.names)) names ∙ g.names) (decls ∙ g.decls) (leg_of m.step mid.names) t0 t1 t2 f0 f1 f2 (lines_in start first (course_at first)) st0 st1 st2
        (lines_put start first (course_of h.found.gone) (course_of g) m.step mid.names (tables_many start old first s h.found.gone) m.proof m.tables) h.puts (p (leg_of m.step mid.names) (leg_found start old mid first s t h.found step m))
    search_cut Refused w e stays names decls p = absurd p
    search_cut Nothing w e stays names decls p = absurd p
    search_cut (Passed which) w e stays names decls p = absurd p

-- what a search leaves

module _ (start now : Work) (first : Tree) (moves : ℕ) (s : Sequence) (Puts : Course → Type 0) (h : HasFound true start now first s) (made : ℕ) (counted : AreMoves h.found made) (few : made ≤ moves) (puts : Puts (course_of h.gone)) (w : Walk) where
  abbrev ds : List Declaration
  ds = declarations start.pool.trees start.decls.list

  leaves : (end : Status) → EndsSearch moves made (length now.pool.trees) (scene ds (known_to start.decls.own) (game_in now.pool.trees s)) h.found (closed_by h.gone.followed.proof) (queries_in ds) end → IsStopped (sum_in s.closed) (queries now.decls.list) end w → HasSearched start now first moves Puts w
  leaves end ends d =
      let along : FindsAlong (length now.pool.trees) moves ds start.decls.own (course_of h.gone) end = record {
        made = made;
        counted = subst (λ ts. AreMoves ts made) h.gone.followed.steps counted;
        few = few;
        ends = subst (λ ts. EndsSearch moves made (length now.pool.trees) (scene ds (known_to start.decls.own) (game_in now.pool.trees s)) ts (closed_by h.gone.followed.proof) (queries_in ds) end) h.gone.followed.steps ends;
      } in
      record {
        reached = record { course = course_of h.gone; is = course_is start now first s h.gone; grows = h.gone.grows; names = h.gone.names; decls = h.gone.decls; puts = puts };
        outcome = subst (λ qs. HasStopped start.names now qs (course_of h.gone) (FindsAlong (length now.pool.trees) moves ds start.decls.own (course_of h.gone)) w) (sym (queries_same start.pool.trees start.decls.list))
            (stopped_left start now first s h.gone end (FindsAlong (length now.pool.trees) moves ds start.decls.own (course_of h.gone)) w along d);
      }

  -- where nothing more is proposed, and where a limit is passed
  leaves_by : (ending : Ending) → EndedBy made (Passes (length now.pool.trees) (length h.found) (scene ds (known_to start.decls.own) (game_in now.pool.trees s)) (closed_by h.gone.followed.proof)) ending
      → IsStopped (sum_in s.closed) (queries now.decls.list) (status_of moves ending (first_unclosed (numbers_of s.closed) (length (queries now.decls.list)))) w → HasSearched start now first moves Puts w
  leaves_by (Exhausted n) i d =
      let first_is = first_left start now first s h.gone ∙ ap (first_open (closed_by h.gone.followed.proof) 1) (sym (queries_same start.pool.trees start.decls.list)) in
      leaves (end_of_search moves made (first_open (closed_by h.gone.followed.proof) 1 (queries_in ds))) without_more
      (subst (λ e. IsStopped (sum_in s.closed) (queries now.decls.list) e w) (ap₂ (end_of_search moves) i first_is) d)
  leaves_by (Stopped which) p d = leaves (status.Limit which) (by_limit which p) d

pub searched : (start now : Work) (first : Tree) (moves : ℕ) (s : Sequence) (Puts : Course → Type 0) (ending : Ending) (closed : List ClosedQuery) (w : Walk) → HasEnded start now first moves s Puts ending → closed ≡ s.closed
    → IsStopped (sum_in closed) (queries now.decls.list) (status_of moves ending (first_unclosed (numbers_of closed) (length (queries now.decls.list)))) w → HasSearched start now first moves Puts w
searched start now first moves s Puts ending closed w h same d =
    leaves_by start now first moves s Puts h.searching.found h.made h.searching.counted h.searching.few h.searching.puts w ending h.ended
    (subst (λ (cs : List ClosedQuery). IsStopped (sum_in cs) (queries now.decls.list) (status_of moves ending (first_unclosed (numbers_of cs) (length (queries now.decls.list)))) w) same d)
