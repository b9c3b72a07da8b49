-- Scripts without the word, step by step.
use Rattle.std.proofs.Common.{◌≡◌, ℕ, ◌+◌, ◌<◌, ◌≤◌, Bool, false, List, [], ◌∷◌, ◌++◌, length, drop, take, get_or, refl, ap, ap₂, sym, ◌∙◌, subst, arith, Option, Some, None, Ok, Err}
use Rattle.std.proofs.lemmas.List.{map-append, map_more, take_all}
use Rattle.std.specs.Prelude.{All}
use Rattle.cv_accept.proofs.Blocks.{below_grown, root_grown}
use Rattle.cv_accept.specs.Accepted.{most_pool}
use Rattle.cv_bound.specs.closings.Queries.{numbers_of, sum_in}
use Rattle.cv_bound.specs.costs.Sums.{no_sums}
use Rattle.cv_kernel.specs.Keeping.{StaysUpTo}
use Rattle.cv_kernel.specs.Proofs.{closed_by, nodes_along}
use Rattle.cv_kernel.specs.Reducings.{reducing_in}
use Rattle.cv_kernel.specs.Sequences.{IsPushed, SameBehind, game_in, needed_for}
use Rattle.cv_kernel.specs.declared.error.PushError.{PushError}
use Rattle.cv_kernel.specs.declared.reducing.Reducing.{Reducing}
use Rattle.cv_kernel.specs.declared.sequence.Sequence.{Sequence}
use Rattle.cv_kernel.proofs.Drawn.{block_before}
use Rattle.cv_kernel_crypto.specs.Applied.{DrawsNext}
use Rattle.cv_parse.specs.Declaring.{IsBelow}
use Rattle.cv_pool.proofs.Growth.{Grows_length, Grows_refl, Grows_trans}
use Rattle.cv_pool.specs.PoolView.{Grows}
use Rattle.cv_pool.specs.declared.node.NodeId.{NodeId}
use Rattle.cv_report.specs.Lines.{Leg}
use Rattle.cv_report.specs.Streams.{PutsLeg}
use Rattle.cv_report.specs.declared.report.Status.{Status}
use Rattle.cv_report.specs.declared.stream.Stream.{Stream}
use Rattle.cv_scene_view.specs.Kept.{scene_of}
use Rattle.cv_script.specs.Views.{items_of_step}
use Rattle.cv_script.specs.declared.steps.Step.{Step}
use Rattle.cv_script.specs.reader.Scripts.{trees_of}
use Rattle.cv_syntax.specs.Classes.{DeclsView, queries}
use Rattle.cv_syntax.specs.Declarations.{declarations}
use Rattle.cv_syntax.specs.PoolTrees.{tree_at}
use Rattle.cv_syntax.specs.declared.work.Game.{Game}
use Rattle.cv_syntax.specs.declared.work.Work.{Work}
use Rattle.cv_steps.specs.Sequences.{scene}
use Rattle.cv_syntax_trees.specs.Declarations.{Declaration}
use Rattle.cv_syntax_trees.specs.Tree.{Tree}
use Rattle.cv_follow.specs.declared.walk.Walk.{Walk}
use Rattle.cv_follow.specs.Courses.{IsLegOf, IsReached, PutsCourse, PutsOn, PutsSome, course_at, leg_of, lines_in, names_behind}
use Rattle.cv_follow.specs.Scripts.{Stops}
use Rattle.cv_kernel.specs.Followed.{known_to}
use Rattle.cv_follow.specs.Walks.{IsFollowing, IsStopped, IsWalk, course_of, stop_of}
use Rattle.cv_kernel.proofs.Closings.{numbers_same}
use Rattle.cv_follow.proofs.Courses.{lines_put, lines_same, puts_leg}
use Rattle.cv_follow.proofs.Following.{asked, split_here, stops_at}
use Rattle.cv_kernel.proofs.Followed.{followed_none}
use Rattle.cv_follow.proofs.Gone.{GoneMore, course_is, gone_alike, gone_more, grows_kept, is_ds, is_own, reached_cut, tables_many}
use Rattle.cv_follow.proofs.Left.{walk_stops}

-- the declarations stay in the pool
pub declared_stay : (fn now : Work) → Grows fn.pool now.pool → now.decls ≡ fn.decls → All (IsBelow (length fn.pool.trees)) fn.decls.list → All (IsBelow (length now.pool.trees)) now.decls.list
declared_stay fn now g e b = subst (λ (v : DeclsView). All (IsBelow (length now.pool.trees)) v.list) (sym e) (below_grown fn.pool now.pool fn.decls.list g b)

-- a node stays
pub live_on : (fn now mid : Work) (n : NodeId) → n.0 < length fn.pool.trees → Grows fn.pool now.pool → Grows now.pool mid.pool → n.0 < length mid.pool.trees
live_on fn now mid n l g h = omega (arith, Grows_length fn.pool now.pool g, Grows_length now.pool mid.pool h, l)

-- no step was taken
pub following_none : (w : Work) (first : Tree) (s : Sequence) (taken : Option (List ℕ)) (faults : ℕ) (stream : Stream) → s.steps ≡ 0 → s.sum ≡ no_sums → s.closed ≡ [] → game_in w.pool.trees s ≡ first → IsFollowing (length w.pool.trees) w w first [] s (PutsCourse taken taken faults faults w first stream stream)
unfolding names_behind followed_none
following_none w first s taken faults stream n m k g = record {
  gone = record {
    followed = followed_none (length w.pool.trees) (declarations w.pool.trees w.decls.list) w.decls.own w.pool.trees s first n m k (omega arith) g;
    tables = [];
    drawn = tt;
    last = refl;
    grows = Grows_refl w.pool;
    names = take_all (length w.names) w.names (omega arith);
    decls = refl;
  };
  puts = λ shows before old p. p;
}

module _ (fn now : Work) (first : Tree) (script : List Step) (below : All (IsBelow (length fn.pool.trees)) fn.decls.list) (live : All (λ s. s.0.0 < length fn.pool.trees) script) (k : ℕ) (d : Step) (l : k < length script) (s : Sequence)
    (t0 t1 : Option (List ℕ)) (f0 f1 : ℕ) (st0 st1 : Stream) (h : IsFollowing (length fn.pool.trees) fn now first (trees_of fn.pool.trees (take k script)) s (PutsCourse t0 t1 f0 f1 fn first st0 st1)) where
  abbrev tree_of : Step → Tree
  tree_of x = tree_at fn.pool.trees (Some x.0)

  abbrev tree : Tree
  tree = tree_at now.pool.trees (Some (get_or script k d).0)

  same : tree ≡ tree_of (get_or script k d)
  same = root_grown fn.pool now.pool (get_or script k d).0 h.gone.grows (live k d l)

  -- the next step is accepted
  module _ (mid : Work) (t : Sequence) (u : Unit {0}) (p : IsPushed now.pool now.decls mid.pool.trees s t tree (Ok u)) (g : Grows now.pool mid.pool) (at : s.game.root.0 < length now.pool.trees)
      (few : length mid.pool.trees ≤ length now.pool.trees + needed_for (scene_of now.pool now.decls s.game.root) tree (game_in mid.pool.trees t) (items_of_step tree)) (names : take (length now.names) mid.names ≡ now.names) (decls : mid.decls ≡ now.decls)
      (draws : (r : Reducing) → reducing_in tree ≡ Some r → DrawsNext now.names mid.names now.decls.own (scene_of now.pool now.decls s.game.root) r.equivalence r.key (game_in mid.pool.trees t)) (alone : reducing_in tree ≡ None → mid.names ≡ now.names) where
    more : GoneMore fn now mid first below s t h.gone tree
    more = gone_more fn now mid first below s t h.gone tree u at p g few names decls now.names (block_before now.names now.decls.own (game_in now.pool.trees s) (items_of_step tree)) draws alone

    abbrev leg : Leg
    leg = leg_of more.step mid.names

    leg_is : IsLegOf mid.names mid.pool.trees t (tree_at mid.pool.trees (Some (get_or script k d).0)) leg
    leg_is =
        let here : (get_or script k d).0.0 < length fn.pool.trees = live k d l in
        let longer = Grows_length fn.pool now.pool h.gone.grows in
        subst (λ x. IsLegOf mid.names mid.pool.trees t x leg) (more.taken ∙ sym (root_grown now.pool mid.pool (get_or script k d).0 g (omega arith))) more.leg

    module _ (mark : ℕ) (reach : length fn.pool.trees ≤ mark) (new : Work) (t2 : Option (List ℕ)) (f2 : ℕ) (st2 : Stream) (stays : StaysUpTo mark mid.pool new.pool) (names_stay : new.names ≡ mid.names) (decls_stay : new.decls ≡ mid.decls) where
      -- its lines are put
      pub following_more : (other : Sequence) → ((e : Leg) → IsLegOf mid.names mid.pool.trees t (tree_at mid.pool.trees (Some (get_or script k d).0)) e → PutsLeg t1 t2 f1 f2 e st1 st2) → game_in new.pool.trees other ≡ game_in mid.pool.trees t → SameBehind t other → length new.pool.trees ≤ length mid.pool.trees
          → IsFollowing (length fn.pool.trees) fn new first (trees_of fn.pool.trees (take (k + 1) script)) other (PutsCourse t0 t2 f0 f2 fn first st0 st2)
      following_more other puts game behind fewer =
          let nodes = more.gone.followed.nodes in
          let a = gone_alike (length fn.pool.trees) fn mid new first t other more.gone (record {
            grows = grows_kept mark fn.pool mid.pool new.pool more.gone.grows reach stays;
            game = game;
            steps = behind.steps;
            sum = behind.sum;
            closed = behind.closed;
            names = names_stay;
            decls = decls_stay;
          }) (omega arith) in
          subst (λ ts. IsFollowing (length fn.pool.trees) fn new first ts other (PutsCourse t0 t2 f0 f2 fn first st0 st2)) (ap (λ y. trees_of fn.pool.trees (take k script) ++ y ∷ []) same ∙ sym (map_more tree_of script k d l))
          (record {
            gone = a.gone;
            puts = puts_leg t0 t1 t2 f0 f1 f2 (lines_in fn first (course_at first)) (lines_in fn first (course_of h.gone)) (lines_in fn first (course_of a.gone)) leg st0 st1 st2
                (lines_put fn first (course_of h.gone) (course_of a.gone) more.step mid.names (tables_many fn now first s h.gone) (a.proof ∙ more.proof) (a.tables ∙ more.tables)) h.puts (puts leg leg_is);
          })

      -- memory runs out there
      pub following_cut : ((e : Leg) → IsLegOf mid.names mid.pool.trees t (tree_at mid.pool.trees (Some (get_or script k d).0)) e → PutsSome t1 t2 f1 f2 e st1 st2) → IsReached false fn new first (PutsCourse t0 t2 f0 f2 fn first st0 st2)
      following_cut puts =
          reached_cut fn new first (course_of h.gone) (course_of more.gone) (course_is fn now first s h.gone) (course_is fn mid first t more.gone) (grows_kept mark fn.pool mid.pool new.pool more.gone.grows reach stays)
          (ap (take (length fn.names)) names_stay ∙ more.gone.names) (decls_stay ∙ more.gone.decls) leg t0 t1 t2 f0 f1 f2 (lines_in fn first (course_at first)) st0 st1 st2
          (lines_put fn first (course_of h.gone) (course_of more.gone) more.step mid.names (tables_many fn now first s h.gone) more.proof more.tables) h.puts (puts leg leg_is)

  -- the next step isn't accepted, and ends the walk
  pub following_stops : (new : Work) (t : Sequence) (e : PushError) (end : Status) (w : Walk) → Grows now.pool new.pool → new.pool.trees ≡ now.pool.trees → now.pool.limit ≡ most_pool → IsPushed now.pool now.decls new.pool.trees s t tree (Err e) → stop_of e s.steps ≡ Some end → s.game.root.0 < length now.pool.trees
      → t.game ≡ s.game → t.steps ≡ s.steps → t.sum ≡ s.sum → t.closed ≡ s.closed → new.names ≡ now.names → new.decls ≡ now.decls
      → IsStopped (sum_in t.closed) (queries new.decls.list) end w → IsWalk (length fn.pool.trees) fn new first (trees_of fn.pool.trees script) (asked fn) (PutsCourse t0 t1 f0 f1 fn first st0 st1) w
  following_stops new t e end w g kept limit p i at root count sum closed names decls v =
      let ds : List Declaration = declarations fn.pool.trees fn.decls.list in
      let own : ℕ → Bool = known_to fn.decls.own in
      let proof = h.gone.followed.proof in
      let taken : ℕ = length fn.pool.trees + nodes_along ds own first proof in
      let nodes = h.gone.followed.nodes in
      let game : game_in new.pool.trees t ≡ game_in now.pool.trees s = ap₂ (λ ts (q : Game). tree_at ts (Some q.root)) kept root in
      let a = gone_alike (length fn.pool.trees) fn now new first s t h.gone (record {
        grows = Grows_trans fn.pool now.pool new.pool h.gone.grows g;
        game = game;
        steps = count;
        sum = sum;
        closed = closed;
        names = names;
        decls = decls;
      }) (omega (arith, ap length kept)) in
      let stops = stops_at ds fn.decls.own now.pool now.decls (is_ds fn now new first below s t h.gone) (is_own fn now new first below s t h.gone) s t (closed_by proof) new.pool.trees tree e taken end
      (ap numbers_of h.gone.followed.closed ∙ numbers_same no_sums proof) p i limit nodes in
      let one = subst (λ n. Stops taken n (scene ds own (game_in now.pool.trees s)) (closed_by proof) tree end) (sym count) stops in
      let two = subst (λ x. Stops taken t.steps (scene ds own x) (closed_by proof) tree end) (sym game) one in
      let three = subst (λ x. Stops taken t.steps (scene ds own (game_in new.pool.trees t)) (closed_by proof) x end) same two in
      let four = subst (λ ts. Stops (length fn.pool.trees + nodes_along ds own first ts) t.steps (scene ds own (game_in new.pool.trees t)) (closed_by ts) (tree_of (get_or script k d)) end) (sym a.proof) three in
      let puts = subst (λ x. PutsOn t0 t1 f0 f1 (lines_in fn first (course_at first)) x st0 st1) (lines_same fn first (course_of h.gone) (course_of a.gone) a.proof a.tables) h.puts in
      let all = ap (trees_of fn.pool.trees) (split_here script k d l) ∙ map-append tree_of (take k script) (get_or script k d ∷ drop (k + 1) script) in
      walk_stops fn new first (trees_of fn.pool.trees (take k script)) t a.gone (PutsCourse t0 t1 f0 f1 fn first st0 st1) puts w (trees_of fn.pool.trees script) (tree_of (get_or script k d)) (trees_of fn.pool.trees (drop (k + 1) script)) end all four v
